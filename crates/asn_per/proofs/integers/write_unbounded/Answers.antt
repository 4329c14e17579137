use Rattle.std.proofs.Common.{rules, to_z, of_z, ◌≡◌, ◌≤ℤ◌, ◌⊎◌, inl, inr, ℕ, ℤ, Bool, false, not, None, subst, sym, ◌∙◌}
use mir.Syntax.{w128}
use Rattle.asn_values.specs.Fits.{in_range, lowest_integer, FitsNumber}
use Rattle.asn_values.specs.Profile.{InProfile}
use Rattle.asn_values.specs.Shape.{integer}
use Rattle.asn_values.specs.View.{range_of}
use Rattle.asn_bits.specs.Numbers.{above}
use Rattle.asn_rules.specs.Components.{extension_bit}
use Rattle.asn_sinks.proofs.Pushing.{pushed_same}
use Rattle.asn_per.specs.Per.{semi_constrained, unconstrained}
use Rattle.asn_plan.proofs.IntegerRanges.{ranging, low_above_lowest, low_kept}
use Rattle.asn_plan.proofs.Bounds.{root_of_profile}
use Rattle.asn_per.proofs.Write.Spellings.{bits_of_unconstrained, bits_of_semi_constrained}
use Rattle.asn_per.proofs.integers.write_unbounded.Goals as goal
use Rattle.asn_per.proofs.integers.write_unbounded.Goals.{in_default-via-in-Some+else-inside, in_default-via-in_default}

pub wide_offset_from-requires-clause-within_low : goal.wide_offset_from-requires-clause-within_low
wide_offset_from-requires-clause-within_low g c =
    let b = c.args.bounds.now in
    let good : InProfile (integer (ranging c.in-Some.low b.high)) = rw c.in-Some.is at (root_of_profile (range_of b) c.requires.of_profile) in
    subst (λ (z : ℤ). lowest_integer ≤ℤ z) (sym (low_kept c.in-Some.low b.high good)) (low_above_lowest c.in-Some.low b.high good)

pub returns-in_ok-write_wide_least-in-Some-clause-written : goal.returns-in_ok-write_wide_least-in-Some-clause-written
returns-in_ok-write_wide_least-in-Some-clause-written g c =
    let b = range_of c.args.bounds.now in
    let z = c.args.value in
    let l = c.in-Some.low in
    let good : InProfile (integer (ranging l b.high)) = rw c.in-Some.is at (root_of_profile b c.requires.of_profile) in
    let same : to_z w128 (of_z w128 z) ≡ z = search rules in
    let fits : FitsNumber b z = search rules in
    let tested : c.is_between-inside.result ≡ in_range b z = rw same at c.is_between-inside.ensures in
    let push = g.S.Sink.pushes in
    let old = c.args.sink.now in
    let mid = c.write_extension_bit.new.sink in
    let front = extension_bit b.extensible (not (in_range b z)) in
    let mark : push old mid front = subst (λ (i : Bool). push old mid (extension_bit b.extensible (not i))) tested c.in_ok-write_extension_bit.ensures in
    let offset : c.wide_offset_from.result ≡ above l z = rw (low_kept l b.high good, same) at c.wide_offset_from.ensures.is in
    let all = bits_of_semi_constrained b l z fits c.in-Some.is (sym tested ∙ c.if-inside.true) c.requires.open in
    let new = c.write_wide_least.new.sink in
    let back : push mid new (semi_constrained (above l z)) = subst (λ (n : ℕ). push mid new (semi_constrained n)) offset c.in_ok-write_wide_least-in-Some.ensures in
    pushed_same push old new (sym all) (g.met.S.Sink.pushes_joined old mid new front (semi_constrained (above l z)) mark back)

pub returns-in_ok-push_least_signed_octets-in_default-clause-written : goal.returns-in_ok-push_least_signed_octets-in_default-clause-written
returns-in_ok-push_least_signed_octets-in_default-clause-written g c =
    let b = range_of c.args.bounds.now in
    let z = c.args.value in
    let same : to_z w128 (of_z w128 z) ≡ z = search rules in
    let fits : FitsNumber b z = search rules in
    let tested : c.is_between-inside.result ≡ in_range b z = rw same at c.is_between-inside.ensures in
    let push = g.S.Sink.pushes in
    let old = c.args.sink.now in
    let mid = c.write_extension_bit.new.sink in
    let front = extension_bit b.extensible (not (in_range b z)) in
    let mark : push old mid front = subst (λ (i : Bool). push old mid (extension_bit b.extensible (not i))) tested c.in_ok-write_extension_bit.ensures in
    let which : (b.low ≡ None) ⊎ (in_range b z ≡ false) = elim c.in_default.branch [
      | in_default-via-in-Some+else-inside w ↦ inr (sym tested ∙ w.if-inside.false)
      | in_default-via-in_default w ↦ inl w.in_default.is
    ] in
    let all = bits_of_unconstrained b z fits which in
    let new = c.push_least_signed_octets.new.self in
    let back : push mid new (unconstrained z) = rw same at c.in_ok-push_least_signed_octets-in_default.ensures in
    pushed_same push old new (sym all) (g.met.S.Sink.pushes_joined old mid new front (unconstrained z) mark back)
