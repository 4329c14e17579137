use Rattle.std.proofs.lemmas.Result.{err_from_is_err_and}
use Rattle.asn_rules.proofs.Languages.Leads.{stops_by}
use Rattle.asn_per.specs.Per.{per_fields}
use Rattle.asn_per.proofs.Read.ListsAhead.{some_root_count}
use Rattle.asn_per.proofs.InPieces.Numbers.{number_leads}
use Rattle.asn_per.proofs.single_items.read_octet_across.Goals as goal

pub read_number-requires-clause-some : goal.read_number-requires-clause-some
read_number-requires-clause-some c = rw c.up_to.ensures (some_root_count 8 255)

pub returns-in_err-octet-clause-stop : goal.returns-in_err-octet-clause-stop
returns-in_err-octet-clause-stop c =
    let p = err_from_is_err_and c.from_residual.result c.from_residual.ensures.1 in
    rw (p.1, p.2) (stops_by _ (number_leads 8 255 c.args.cursor.now).stops (rw c.up_to.ensures at (c.in_err-octet.ensures.stop per_fields)))

pub returns-clause-done : goal.returns-clause-done
returns-clause-done c = (number_leads 8 255 c.args.cursor.now).done c.in_ok-octet.octet c.read_number.new.bits (rw c.up_to.ensures at (c.in_ok-octet.ensures.done per_fields))
