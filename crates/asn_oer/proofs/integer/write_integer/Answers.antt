use Rattle.std.proofs.Common.{rules, ◌≡◌, ◌≤ℤ◌, ◌<ℤ◌, ◌+ℤ◌, ℤ, pos, Bool, Option, Some, None, true, false, refl, ◌∙◌, ap, sym, arith, to_z, of_z}
use Rattle.std.proofs.lemmas.Int.{ints}
use mir.Syntax.{w128}
use Rattle.asn_values.specs.View.{range_of}
use Rattle.asn_bits.specs.Lengths.{general_octets}
use Rattle.asn_bits.specs.Numbers.{least_signed, unpacked}
use Rattle.asn_bits.proofs.Above.{kept}
use Rattle.asn_sinks.proofs.Pushing.{pushed_same}
use Rattle.asn_rules.proofs.Plain.IntegerSets.{low_bound, high_bound}
use Rattle.asn_oer.specs.Oer.{counted_signed, ranged, signed_size, unsigned_octets, whole_number}
use Rattle.asn_oer.proofs.Write.WrittenNumbers.{between_bounds, fixed_bits, wide_bits}
use Rattle.asn_oer.proofs.Write.WrittenOctets.{plain}
use Rattle.asn_oer.proofs.integer.write_integer.Goals as goal

pub greatest-requires-clause-low : goal.greatest-requires-clause-low
greatest-requires-clause-low g c =
    let l = low_bound (range_of c.args.bounds.now) c.in-Some-Some.low c.requires.of_profile c.in-Some-Some.is-0 in
    rw (kept c.in-Some-Some.low l.0 l.1) l.0

pub greatest-requires-clause-high : goal.greatest-requires-clause-high
greatest-requires-clause-high g c =
    let h = high_bound (range_of c.args.bounds.now) c.in-Some-Some.high c.requires.of_profile c.in-Some-Some.is-1 in
    rw (kept c.in-Some-Some.high h.0 h.1) h.1

pub in_64_bits-requires-clause-high : goal.in_64_bits-requires-clause-high
in_64_bits-requires-clause-high g c =
    let z = c.args.value in
    let h = high_bound (range_of c.args.bounds.now) c.in-Some-Some.high c.requires.of_profile c.in-Some-Some.is-1 in
    let same : to_z w128 (of_z w128 z) ≡ z = search rules in
    let most : z ≤ℤ c.in-Some-Some.high = search rules in
    rw same (omega (arith, ints, h.1, most))

pub write_least_signed-requires-clause-low : goal.write_least_signed-requires-clause-low
write_least_signed-requires-clause-low g c =
    let z = c.args.value in
    let l = low_bound (range_of c.args.bounds.now) c.in-Some-Some.low c.requires.of_profile c.in-Some-Some.is-0 in
    let same : to_z w128 (of_z w128 z) ≡ z = search rules in
    let least : c.in-Some-Some.low ≤ℤ z = search rules in
    rw same (omega (arith, ints, l.0, least))

pub write_least_signed-requires-clause-high : goal.write_least_signed-requires-clause-high
write_least_signed-requires-clause-high g c =
    let z = c.args.value in
    let h = high_bound (range_of c.args.bounds.now) c.in-Some-Some.high c.requires.of_profile c.in-Some-Some.is-1 in
    let same : to_z w128 (of_z w128 z) ≡ z = search rules in
    let most : z ≤ℤ c.in-Some-Some.high = search rules in
    rw same (omega (arith, ints, h.1, most))

pub returns-in_ok-write_fixed-in-Some-clause-of_type : goal.returns-in_ok-write_fixed-in-Some-clause-of_type
returns-in_ok-write_fixed-in-Some-clause-of_type g c =
    let low = c.in-Some-Some.low in
    let high = c.in-Some-Some.high in
    let least : low ≤ℤ c.args.value = search rules in
    let most : c.args.value ≤ℤ high = search rules in
    between_bounds (range_of c.args.bounds.now) low high c.args.value c.requires.of_profile c.in-Some-Some.is-0 c.in-Some-Some.is-1 least most

pub returns-in_ok-write_fixed-in-Some-clause-written : goal.returns-in_ok-write_fixed-in-Some-clause-written
returns-in_ok-write_fixed-in-Some-clause-written g c =
    let b = range_of c.args.bounds.now in
    let z = c.args.value in
    let low = c.in-Some-Some.low in
    let high = c.in-Some-Some.high in
    let l = low_bound b low c.requires.of_profile c.in-Some-Some.is-0 in
    let h = high_bound b high c.requires.of_profile c.in-Some-Some.is-1 in
    let least : low ≤ℤ z = search rules in
    let most : z ≤ℤ high = search rules in
    let same : to_z w128 (of_z w128 z) ≡ z = search rules in
    let closed : b.extensible ≡ false = search rules in
    let form : whole_number b z ≡ ranged (Some low) (Some high) z =
    ap (λ (m : Bool). elim m [ true ↦ counted_signed z | false ↦ ranged b.low b.high z ]) closed
    ∙ ap (λ (o : Option ℤ). ranged o b.high z) c.in-Some-Some.is-0 ∙ ap (λ (o : Option ℤ). ranged (Some low) o z) c.in-Some-Some.is-1 in
    let n = c.in-Some.greatest in
    let r = c.in_64_bits.result in
    let zero : pos 0 ≤ℤ low → pos n ≡ high = rw (kept low l.0 l.1, kept high h.0 h.1) at c.in-Some.ensures.from_zero in
    let below : low <ℤ pos 0 → signed_size low high ≡ unsigned_octets (pos n) = rw (kept low l.0 l.1, kept high h.0 h.1) at c.in-Some.ensures.below_zero in
    let up : pos 0 ≤ℤ z → pos r ≡ z = rw same at c.in_64_bits.ensures.from_zero in
    let down : z <ℤ pos 0 → pos r ≡ (z +ℤ pos 18446744073709551616) = rw same at c.in_64_bits.ensures.below_zero in
    let all = fixed_bits low high z n r least most zero below (search rules) up down in
    pushed_same g.S.Sink.pushes c.args.sink.now c.write_fixed.new.sink (all ∙ ap unpacked (sym form) ∙ sym (plain (whole_number b z))) c.in_ok-write_fixed-in-Some.ensures

pub returns-in_ok-write_least_signed-in-None-clause-of_type : goal.returns-in_ok-write_least_signed-in-None-clause-of_type
returns-in_ok-write_least_signed-in-None-clause-of_type g c =
    let low = c.in-Some-Some.low in
    let high = c.in-Some-Some.high in
    let least : low ≤ℤ c.args.value = search rules in
    let most : c.args.value ≤ℤ high = search rules in
    between_bounds (range_of c.args.bounds.now) low high c.args.value c.requires.of_profile c.in-Some-Some.is-0 c.in-Some-Some.is-1 least most

pub returns-in_ok-write_least_signed-in-None-clause-written : goal.returns-in_ok-write_least_signed-in-None-clause-written
returns-in_ok-write_least_signed-in-None-clause-written g c =
    let b = range_of c.args.bounds.now in
    let z = c.args.value in
    let low = c.in-Some-Some.low in
    let high = c.in-Some-Some.high in
    let l = low_bound b low c.requires.of_profile c.in-Some-Some.is-0 in
    let h = high_bound b high c.requires.of_profile c.in-Some-Some.is-1 in
    let least : low ≤ℤ z = search rules in
    let most : z ≤ℤ high = search rules in
    let same : to_z w128 (of_z w128 z) ≡ z = search rules in
    let closed : b.extensible ≡ false = search rules in
    let form : whole_number b z ≡ ranged (Some low) (Some high) z =
    ap (λ (m : Bool). elim m [ true ↦ counted_signed z | false ↦ ranged b.low b.high z ]) closed
    ∙ ap (λ (o : Option ℤ). ranged o b.high z) c.in-Some-Some.is-0 ∙ ap (λ (o : Option ℤ). ranged (Some low) o z) c.in-Some-Some.is-1 in
    let none : (low <ℤ pos 0) × (signed_size low high ≡ None) = rw (kept low l.0 l.1, kept high h.0 h.1) at (c.in-None.ensures.none refl) in
    let all = wide_bits low high z none.0 none.1 (omega (arith, ints, l.0, least)) (omega (arith, ints, h.1, most)) in
    pushed_same g.S.Sink.pushes c.args.sink.now c.write_least_signed.new.sink
    (ap (λ (x : ℤ). general_octets (λ u. u) (least_signed x)) same ∙ all ∙ ap unpacked (sym form) ∙ sym (plain (whole_number b z)))
    c.in_ok-write_least_signed-in-None.ensures
