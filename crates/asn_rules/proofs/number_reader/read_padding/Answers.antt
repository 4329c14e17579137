use Rattle.std.proofs.lemmas.Result.{err_from_is_err_and}
use Rattle.asn_rules.proofs.Languages.Leads.{stops_by}
use Rattle.asn_rules.proofs.Plain.Zeros.{zeros_lead}
use Rattle.asn_rules.proofs.number_reader.read_padding.Goals as goal

pub returns-in_err-read_up_to-clause-stop : goal.returns-in_err-read_up_to-clause-stop
returns-in_err-read_up_to-clause-stop c R =
    let p = err_from_is_err_and c.from_residual.result c.from_residual.ensures.1 in
    rw (p.1, p.2) (stops_by _ (zeros_lead R c.args.zeros c.args.bits.now).stops (c.in_err-read_up_to.ensures.stop R))

pub returns-clause-done : goal.returns-clause-done
returns-clause-done c R = (zeros_lead R c.args.zeros c.args.bits.now).done c.in_ok-read_up_to.field-0 c.read_up_to.new.bits (c.in_ok-read_up_to.ensures.done R)
