use Rattle.std.proofs.lemmas.Result.{err_from_is_err_and}
use Rattle.asn_rules.proofs.Languages.Leads.{stops_by}
use Rattle.asn_per.specs.Per.{per_fields}
use Rattle.asn_per.proofs.Read.SmallReading.{short_leads}
use Rattle.asn_per.proofs.indexes.read_short_number.Goals as goal

pub returns-in_err-read_up_to-clause-stop : goal.returns-in_err-read_up_to-clause-stop
returns-in_err-read_up_to-clause-stop c =
    let p = err_from_is_err_and c.from_residual.result c.from_residual.ensures.1 in
    rw (p.1, p.2) (stops_by _ (short_leads c.args.count c.requires.some c.requires.short c.args.bits.now).stops (c.in_err-read_up_to.ensures.stop per_fields))

pub returns-clause-done : goal.returns-clause-done
returns-clause-done c = (short_leads c.args.count c.requires.some c.requires.short c.args.bits.now).done c.in_ok-read_up_to.field-0 c.read_up_to.new.bits (c.in_ok-read_up_to.ensures.done per_fields)
