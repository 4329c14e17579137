use Rattle.std.proofs.Common.{rules, ◌≡◌, ◌⊎◌, inl, inr, ℤ, pos, Some, true, false, ◌∙◌, ap, sym, subst, to_z, of_z}
use Rattle.std.specs.Int.RustNames.{int_le}
use lib.IntN.{nat_abs}
use mir.Syntax.{w128}
use Rattle.asn_values.specs.Fits.{FitsNumber}
use Rattle.asn_values.specs.View.{range_of}
use Rattle.asn_bits.specs.Lengths.{general_octets}
use Rattle.asn_bits.specs.Numbers.{least, least_signed}
use Rattle.asn_bits.proofs.Above.{kept}
use Rattle.asn_sinks.proofs.Pushing.{pushed_same}
use Rattle.asn_rules.proofs.Plain.IntegerSets.{low_bound}
use Rattle.asn_oer.specs.Oer.{whole_number}
use Rattle.asn_oer.proofs.Write.WrittenNumbers.{counted_bits, counted_signed_bits, some_same_low}
use Rattle.asn_oer.proofs.Write.WrittenOctets.{plain}
use Rattle.asn_oer.proofs.integer.write_counted.Goals as goal
use Rattle.asn_oer.proofs.integer.write_counted.Goals.{in_default-via-in-Some+then-low-ge0+else-not-bounds, in_default-via-in-Some+else-low-ge0, in_default-via-in_default}

pub returns-in_ok-write_least-in-Some-clause-written : goal.returns-in_ok-write_least-in-Some-clause-written
returns-in_ok-write_least-in-Some-clause-written g c =
    let b = range_of c.args.bounds.now in
    let z = c.args.value in
    let low = c.in-Some.low in
    let l = low_bound b low c.requires.of_profile c.in-Some.is in
    let same : to_z w128 (of_z w128 z) ≡ z = search rules in
    let fits : FitsNumber b z = search rules in
    let closed : b.extensible ≡ false = search rules in
    let from : int_le (pos 0) low ≡ true = rw (kept low l.0 l.1) at c.if-low-ge0.true in
    let all = counted_bits b low z c.requires.counted fits c.in-Some.is closed from in
    pushed_same g.S.Sink.pushes c.args.sink.now c.write_least.new.sink
    (ap (λ (x : ℤ). general_octets (λ u. u) (least (nat_abs x))) same ∙ all ∙ sym (plain (whole_number b z)))
    c.in_ok-write_least-in-Some.ensures

pub returns-in_ok-write_least_signed-in_default-clause-written : goal.returns-in_ok-write_least_signed-in_default-clause-written
returns-in_ok-write_least_signed-in_default-clause-written g c =
    let b = range_of c.args.bounds.now in
    let z = c.args.value in
    let same : to_z w128 (of_z w128 z) ≡ z = search rules in
    let fits : FitsNumber b z = search rules in
    let which : (b.extensible ≡ true) ⊎ ((low : ℤ) → b.low ≡ Some low → int_le (pos 0) low ≡ false) = elim c.in_default.branch [
      | in_default-via-in-Some+then-low-ge0+else-not-bounds w ↦ (let marked : b.extensible ≡ true = search rules in inl marked)
      | in_default-via-in-Some+else-low-ge0 w ↦
          let k = low_bound b w.in-Some.low c.requires.of_profile w.in-Some.is in
          let below : int_le (pos 0) w.in-Some.low ≡ false = rw (kept w.in-Some.low k.0 k.1) at w.if-low-ge0.false in
          inr (λ low e. subst (λ (x : ℤ). int_le (pos 0) x ≡ false) (some_same_low (sym w.in-Some.is ∙ e)) below)
      | in_default-via-in_default w ↦ inr (λ low e. absurd (cc (e, w.in_default.is)))
    ] in
    let all = counted_signed_bits b z c.requires.counted fits which in
    pushed_same g.S.Sink.pushes c.args.sink.now c.write_least_signed.new.sink
    (ap (λ (x : ℤ). general_octets (λ u. u) (least_signed x)) same ∙ all ∙ sym (plain (whole_number b z)))
    c.in_ok-write_least_signed-in_default.ensures
