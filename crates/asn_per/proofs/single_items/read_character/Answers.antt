use Rattle.std.proofs.lemmas.Result.{err_from_is_err_and}
use Rattle.asn_values.specs.View.{alphabet_of}
use Rattle.asn_rules.proofs.Languages.Leads.{stops_by}
use Rattle.asn_per.specs.Per.{per_fields}
use Rattle.asn_per.proofs.Read.StringRows.{character_leads}
use Rattle.asn_per.proofs.single_items.read_character.Goals as goal

pub returns-in_err-code-clause-stop : goal.returns-in_err-code-clause-stop
returns-in_err-code-clause-stop c =
    let p = err_from_is_err_and c.from_residual.result c.from_residual.ensures.1 in
    rw (p.1, p.2) (stops_by _ (character_leads (alphabet_of c.args.kind) c.args.cursor.now).stops (rw (c.width_of.ensures.width, c.codes.ensures) at (c.in_err-code.ensures.stop per_fields)))

pub returns-clause-done : goal.returns-clause-done
returns-clause-done c =
    rw c.character_of.ensures ((character_leads (alphabet_of c.args.kind) c.args.cursor.now).done c.in_ok-code.code c.read_number.new.bits (rw (c.width_of.ensures.width, c.codes.ensures) at (c.in_ok-code.ensures.done per_fields)))
