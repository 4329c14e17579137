use Rattle.std.proofs.Common.{◌≡◌, ◌++◌, ◌%◌, ◌/◌, Bool, List, ℕ, map, ap, ◌∙◌}
use Rattle.std.proofs.lemmas.Result.{err_from_is_err_and}
use Rattle.asn_bits.specs.Numbers.{bits, packed, unpacked}
use Rattle.asn_bits.specs.Sink.{bit_of}
use Rattle.asn_rules.specs.Fields.{OneOctet}
use Rattle.asn_rules.specs.Languages.{Row, Spells}
use Rattle.asn_rules.proofs.Languages.Leads.{stops_by}
use Rattle.asn_rules.proofs.Octets.BitStrings.{stops_at_octets, rest_leads, bits_done}
use Rattle.asn_rules.specs.Fields.{octet_fields}
use Rattle.asn_rules.proofs.octet_strings.read_packed.Goals as goal

pub returns-in_err-octets-clause-stop : goal.returns-in_err-octets-clause-stop
returns-in_err-octets-clause-stop c =
    let p = err_from_is_err_and c.from_residual.result c.from_residual.ensures.1 in
    rw (p.1, p.2) (stops_by _ (stops_at_octets c.args.count (packed c.args.units.now)) c.in_err-octets.ensures.stop)

pub returns-in_err-last-clause-stop : goal.returns-in_err-last-clause-stop
returns-in_err-last-clause-stop c =
    let p = err_from_is_err_and c.from_residual-in_err-last.result c.from_residual-in_err-last.ensures.1 in
    let read : Spells octet_fields (Row OneOctet (c.args.count / 8)) c.in_ok-octets.octets.items (packed c.args.units.now) (packed c.read_row.new.units) = c.in_ok-octets.ensures.done in
    rw (p.1, p.2) (stops_by _ (rest_leads c.args.count c.in_ok-octets.octets.items (packed c.args.units.now) (packed c.read_row.new.units) read).stops c.in_err-last.ensures.stop)

pub returns-clause-done : goal.returns-clause-done
returns-clause-done c =
    let os = c.in_ok-octets.octets.items in
    let x = c.in_ok-last.last in
    let bs = c.push_bits.new.into.items in
    let r = c.args.count % 8 in
    let same : map bit_of bs ≡ unpacked os ++ bits r x =
    c.in_ok-push_bits.ensures ∙ ap (λ (l : List ℕ). l ++ bits r x) c.in_ok-push_octets.ensures ∙ ap (λ (l : List Bool). (map bit_of l ++ unpacked c.deref.result.now) ++ bits r x) c.in_ok-truths.ensures.items
    ∙ ap (λ (l : List ℕ). unpacked l ++ bits r x) c.deref.ensures.value in
    bits_done c.args.count os c.in_ok-last.field-0-0 x (packed c.args.units.now) (packed c.read_row.new.units) (packed c.read_filled.new.units) bs c.in_ok-octets.ensures.done c.in_ok-last.ensures.done same
