use Rattle.std.proofs.Common.{◌≡◌, ◌≤◌, ◌<◌, ◌+◌, ◌^◌, ℕ, ◌∙◌, arith}
use Rattle.std.proofs.Math.Nat.{pow-le-pow_right}
use Rattle.std.proofs.lemmas.Int.{ints}
use Rattle.asn_values.specs.Profile.{InProfile}
use Rattle.asn_values.specs.Shape.{integer}
use Rattle.asn_bits.specs.Numbers.{width}
use Rattle.asn_bits.proofs.Above.{kept}
use Rattle.asn_bits.proofs.Prefixes.{bool_byte-is}
use Rattle.asn_bits.proofs.Widths.{width_fits}
use Rattle.asn_rules.specs.Components.{bit_of}
use Rattle.asn_plan.specs.Bounds.{between}
use Rattle.asn_plan.proofs.Bounds.{bounds_within}
use Rattle.asn_plan.proofs.FieldBits.{one_mark_bit}
use Rattle.asn_plan.proofs.leaves.between_of.Goals as goal

-- numbers that 64 bits tell apart have no more
narrow : (n w : ℕ) → w ≡ width (n + 1) → w ≤ 64 → n < 2 ^ 64
narrow n w e few = omega (arith, width_fits (n + 1) n (omega arith), pow-le-pow_right {n = 2} (omega arith) {i = width (n + 1)} {j = 64} (omega (arith, e, few)))

pub wide_offset_from-highest-requires-clause-ordered : goal.wide_offset_from-highest-requires-clause-ordered
wide_offset_from-highest-requires-clause-ordered c =
    let low = c.in_ok-low.low in
    let high = c.in_ok-high.high in
    let good : InProfile (integer (between low high c.args.bounds.now.ext)) = rw (c.in_ok-low.was, c.in_ok-high.was) at c.requires.of_profile in
    let w = bounds_within low high c.args.bounds.now.ext good in
    rw (kept low w.0 (omega (arith, ints, w.1, w.2)), kept high (omega (arith, ints, w.0, w.1)) w.2) w.1

pub wide_offset_from-highest-requires-clause-within_low : goal.wide_offset_from-highest-requires-clause-within_low
wide_offset_from-highest-requires-clause-within_low c =
    let low = c.in_ok-low.low in
    let high = c.in_ok-high.high in
    let good : InProfile (integer (between low high c.args.bounds.now.ext)) = rw (c.in_ok-low.was, c.in_ok-high.was) at c.requires.of_profile in
    let w = bounds_within low high c.args.bounds.now.ext good in
    rw (kept low w.0 (omega (arith, ints, w.1, w.2))) w.0

pub wide_offset_from-highest-requires-clause-within_high : goal.wide_offset_from-highest-requires-clause-within_high
wide_offset_from-highest-requires-clause-within_high c =
    let low = c.in_ok-low.low in
    let high = c.in_ok-high.high in
    let good : InProfile (integer (between low high c.args.bounds.now.ext)) = rw (c.in_ok-low.was, c.in_ok-high.was) at c.requires.of_profile in
    let w = bounds_within low high c.args.bounds.now.ext good in
    rw (kept high (omega (arith, ints, w.0, w.1)) w.2) w.2

pub overflow_add-bits : goal.overflow_add-bits
overflow_add-bits c =
    let ext = c.args.bounds.now.ext in
    let mark : c.from.result ≡ bit_of ext = c.from.ensures ∙ bool_byte-is ext in
    omega (arith, mark, one_mark_bit ext, c.width.ensures.wide (omega (arith, c.wide_offset_from-highest.ensures.few)))

pub overflow_cast-range : goal.overflow_cast-range
overflow_cast-range c =
    let n = c.wide_offset_from-highest.result in
    omega (arith, narrow n c.width.result c.width.ensures.width (omega (arith, c.if-bits-gt64.false)))

pub octets_between-in_octets-requires-clause-order : goal.octets_between-in_octets-requires-clause-order
octets_between-in_octets-requires-clause-order c =
    let low = c.in_ok-low.low in
    let high = c.in_ok-high.high in
    let good : InProfile (integer (between low high c.args.bounds.now.ext)) = rw (c.in_ok-low.was, c.in_ok-high.was) at c.requires.of_profile in
    let w = bounds_within low high c.args.bounds.now.ext good in
    rw (kept low w.0 (omega (arith, ints, w.1, w.2)), kept high (omega (arith, ints, w.0, w.1)) w.2) w.1

pub octets_between-in_octets-requires-clause-low : goal.octets_between-in_octets-requires-clause-low
octets_between-in_octets-requires-clause-low c =
    let low = c.in_ok-low.low in
    let high = c.in_ok-high.high in
    let good : InProfile (integer (between low high c.args.bounds.now.ext)) = rw (c.in_ok-low.was, c.in_ok-high.was) at c.requires.of_profile in
    let w = bounds_within low high c.args.bounds.now.ext good in
    rw (kept low w.0 (omega (arith, ints, w.1, w.2))) w.0

pub octets_between-in_octets-requires-clause-high : goal.octets_between-in_octets-requires-clause-high
octets_between-in_octets-requires-clause-high c =
    let low = c.in_ok-low.low in
    let high = c.in_ok-high.high in
    let good : InProfile (integer (between low high c.args.bounds.now.ext)) = rw (c.in_ok-low.was, c.in_ok-high.was) at c.requires.of_profile in
    let w = bounds_within low high c.args.bounds.now.ext good in
    rw (kept high (omega (arith, ints, w.0, w.1)) w.2) w.2
