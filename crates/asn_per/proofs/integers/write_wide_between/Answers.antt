use Rattle.std.proofs.Common.{◌≡◌, ◌+◌, ◌≤ℤ◌, ℕ, suc, ℤ, false, subst, sym, ap, ◌∙◌, arith}
use Rattle.std.proofs.lemmas.Result.{on_ok_weaker}
use Rattle.asn_values.specs.Fits.{lowest_integer, highest_integer}
use Rattle.asn_bits.specs.Numbers.{above, width, bits}
use Rattle.asn_rules.specs.Components.{extension_bit}
use Rattle.asn_sinks.proofs.Pushing.{pushed_same}
use Rattle.asn_plan.proofs.Bounds.{low_within, high_within, number_within, low_stays, high_stays, number_stays, offset_fits}
use Rattle.asn_per.proofs.Write.BetweenBounds.{bits_between}
use Rattle.asn_per.proofs.integers.write_wide_between.Goals as goal

pub wide_offset_from-requires-clause-within_low : goal.wide_offset_from-requires-clause-within_low
wide_offset_from-requires-clause-within_low g c =
    let r = c.requires in
    let a = c.args in
    subst (λ (z : ℤ). lowest_integer ≤ℤ z) (sym (low_stays a.low a.high a.value a.ext r.of_profile r.of_type.0 r.of_type.1)) (low_within a.low a.high a.value a.ext r.of_profile r.of_type.0 r.of_type.1)

pub wide_offset_from-requires-clause-within_high : goal.wide_offset_from-requires-clause-within_high
wide_offset_from-requires-clause-within_high g c =
    let r = c.requires in
    let a = c.args in
    subst (λ (z : ℤ). z ≤ℤ highest_integer) (sym (high_stays a.low a.high a.value a.ext r.of_profile r.of_type.0 r.of_type.1)) (high_within a.low a.high a.value a.ext r.of_profile r.of_type.0 r.of_type.1)

pub wide_offset_from-requires-2-clause-within_low : goal.wide_offset_from-requires-2-clause-within_low
wide_offset_from-requires-2-clause-within_low g c =
    let r = c.requires in
    let a = c.args in
    subst (λ (z : ℤ). lowest_integer ≤ℤ z) (sym (low_stays a.low a.high a.value a.ext r.of_profile r.of_type.0 r.of_type.1)) (low_within a.low a.high a.value a.ext r.of_profile r.of_type.0 r.of_type.1)

pub wide_offset_from-requires-2-clause-within_high : goal.wide_offset_from-requires-2-clause-within_high
wide_offset_from-requires-2-clause-within_high g c =
    let r = c.requires in
    let a = c.args in
    subst (λ (z : ℤ). z ≤ℤ highest_integer) (sym (number_stays a.low a.high a.value a.ext r.of_profile r.of_type.0 r.of_type.1)) (number_within a.low a.high a.value a.ext r.of_profile r.of_type.0 r.of_type.1).1

pub write_wide_number-requires-clause-fits : goal.write_wide_number-requires-clause-fits
write_wide_number-requires-clause-fits g c =
    let r = c.requires in
    let a = c.args in
    let low = low_stays a.low a.high a.value a.ext r.of_profile r.of_type.0 r.of_type.1 in
    let offset : c.wide_offset_from-2.result ≡ above a.low a.value = rw (low, number_stays a.low a.high a.value a.ext r.of_profile r.of_type.0 r.of_type.1) at c.wide_offset_from-2.ensures.is in
    let top : c.wide_offset_from.result ≡ above a.low a.high = rw (low, high_stays a.low a.high a.value a.ext r.of_profile r.of_type.0 r.of_type.1) at c.wide_offset_from.ensures.is in
    let one_more : c.wide_offset_from.result + 1 ≡ suc (above a.low a.high) = omega (arith, top) in
    let w : c.width-count.result ≡ width (suc (above a.low a.high)) = c.width-count.ensures.width ∙ ap width one_more in
    rw (offset, w) (offset_fits a.low a.high a.value a.ext r.of_profile r.of_type.0 r.of_type.1)

pub returns : goal.returns
returns g c =
    let r = c.requires in
    let a = c.args in
    let low = low_stays a.low a.high a.value a.ext r.of_profile r.of_type.0 r.of_type.1 in
    let offset : c.wide_offset_from-2.result ≡ above a.low a.value = rw (low, number_stays a.low a.high a.value a.ext r.of_profile r.of_type.0 r.of_type.1) at c.wide_offset_from-2.ensures.is in
    let top : c.wide_offset_from.result ≡ above a.low a.high = rw (low, high_stays a.low a.high a.value a.ext r.of_profile r.of_type.0 r.of_type.1) at c.wide_offset_from.ensures.is in
    let one_more : c.wide_offset_from.result + 1 ≡ suc (above a.low a.high) = omega (arith, top) in
    let w : c.width-count.result ≡ width (suc (above a.low a.high)) = c.width-count.ensures.width ∙ ap width one_more in
    let push = g.S.Sink.pushes in
    let mid = c.write_extension_bit.new.sink in
    let new = c.write_wide_number.new.sink in
    let k = width (suc (above a.low a.high)) in
    let number = bits k (above a.low a.value) in
    let same : bits c.width-count.result c.wide_offset_from-2.result ≡ number = ap (λ (i : ℕ). bits i c.wide_offset_from-2.result) w ∙ ap (λ (n : ℕ). bits k n) offset in
    on_ok_weaker c.write_wide_number.result
    (λ e. pushed_same push a.sink.now new (bits_between a.low a.high a.value a.ext r.of_profile r.of_type.0 r.of_type.1)
    (g.met.S.Sink.pushes_joined a.sink.now mid new (extension_bit a.ext false) number c.in_ok-write_extension_bit.ensures (pushed_same push mid new same e)))
    c.write_wide_number.ensures
