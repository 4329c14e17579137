use Rattle.std.proofs.Common.{◌≡◌, inl, ap, arith}
use Rattle.std.specs.Prelude.{is_some}
use Rattle.std.proofs.lemmas.Result.{err_from_is_err_and}
use Rattle.asn_bits.specs.Numbers.{packed}
use Rattle.asn_bits.proofs.Unions.{set_meets}
use Rattle.asn_rules.specs.Fields.{octet_fields}
use Rattle.asn_rules.proofs.Languages.Leads.{stops_by, leads_same}
use Rattle.asn_rules.proofs.Plain.NumberSets.{same_set}
use Rattle.asn_oer.proofs.InPieces.Starts.{octets_among, any_among}
use Rattle.asn_oer.proofs.single_items.read_any_octet.Goals as goal

-- the octet is there
pub returns-in-Some-clause-done : goal.returns-in-Some-clause-done
returns-in-Some-clause-done c =
    let l = leads_same octet_fields (packed c.args.units.now) (same_set 256 1 (λ n h. omega (arith, h.1)) (λ n h. (omega arith, omega (arith, h), tt))) in
    l.done c.in-Some.octet (packed c.try_octets.new.units) (rw c.numbers.ensures at c.in-Some.ensures.done)

pub read_octets_among-requires-clause-some : goal.read_octets_among-requires-clause-some
read_octets_among-requires-clause-some c = rw c.one.ensures (set_meets 2 8 0 (inl (omega arith, omega arith)) (omega arith))

pub returns-in_err-octet-clause-stop : goal.returns-in_err-octet-clause-stop
returns-in_err-octet-clause-stop c =
    let same : c.try_octets.new.units ≡ c.args.units.now = c.try_octets.ensures.unchanged (ap is_some c.in_default.is) in
    let p = err_from_is_err_and c.from_residual.result c.from_residual.ensures.1 in
    let l = octets_among c.one.result (packed c.args.units.now) (λ n h. (any_among n).0 (rw c.one.ensures at h)) (λ n h. rw c.one.ensures ((any_among n).1 h)) in
    rw (p.1, p.2) (stops_by _ l.stops (rw same at c.in_err-octet.ensures.stop))

pub returns-clause-done : goal.returns-clause-done
returns-clause-done c =
    let same : c.try_octets.new.units ≡ c.args.units.now = c.try_octets.ensures.unchanged (ap is_some c.in_default.is) in
    let l = octets_among c.one.result (packed c.args.units.now) (λ n h. (any_among n).0 (rw c.one.ensures at h)) (λ n h. rw c.one.ensures ((any_among n).1 h)) in
    l.done c.in_ok-octet.octet (packed c.read_octets_among.new.units) (rw same at c.in_ok-octet.ensures.done)
