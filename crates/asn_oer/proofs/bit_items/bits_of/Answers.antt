use Rattle.std.proofs.Common.{rules, ◌≤◌, ◌*◌, ◌-◌, [], ℕ, List, length, sym, ap, subst, ◌∙◌, arith}
use Rattle.std.proofs.lemmas.Result.{IfOk-weaker, IfErr-weaker}
use Rattle.asn_values.specs.Datum.{bit_list}
use Rattle.asn_values.specs.View.{size_range_of}
use Rattle.asn_rules.specs.Fields.{octet_fields}
use Rattle.asn_rules.specs.Languages.{Spells}
use Rattle.asn_rules.specs.OctetStrings.{PackedBits}
use Rattle.asn_oer.specs.SingleItems.{AreBitsOf, AreNoBits, RefusedAtEnd}
use Rattle.asn_oer.proofs.InPieces.BitItems.{fixed_filled, fixed_bits, fixed_no_bits, unused_parts, unused_bits_are, unused_no_bits}
use Rattle.asn_oer.proofs.bit_items.bits_of.Goals as goal

pub packed_bits-requires : goal.packed_bits-requires
packed_bits-requires c =
    record { filled = fixed_filled (size_range_of c.args.size.now) (sym c.is_fixed.ensures ∙ c.if-is_fixed.true) c.args.octets.now c.requires.spelt.0 c.requires.spelt.1 }

pub returns-then-is_fixed-clause-done : goal.returns-then-is_fixed-clause-done
returns-then-is_fixed-clause-done c =
    IfOk-weaker c.packed_bits.result _ _ (λ bs h. fixed_bits (size_range_of c.args.size.now) c.requires.of_profile (sym c.is_fixed.ensures ∙ c.if-is_fixed.true) c.args.octets.now bs.items h) c.packed_bits.ensures.done

pub returns-then-is_fixed-clause-stop : goal.returns-then-is_fixed-clause-stop
returns-then-is_fixed-clause-stop c =
    IfErr-weaker c.packed_bits.result _ _ (λ why h. fixed_no_bits (size_range_of c.args.size.now) c.requires.of_profile (sym c.is_fixed.ensures ∙ c.if-is_fixed.true) c.args.octets.now c.args.left why h) c.packed_bits.ensures.stop

pub bounds-octets-0 : goal.bounds-octets-0
bounds-octets-0 c =
    let w = unused_parts (size_range_of c.args.size.now) c.requires.of_profile (sym c.is_fixed.ensures ∙ c.if-is_fixed.false) c.args.octets.now c.requires.spelt.0 c.requires.spelt.1 in
    omega (arith, ap (λ (xs : List ℕ). length xs) w.is)

pub slice_bounds-filled-count : goal.slice_bounds-filled-count
slice_bounds-filled-count c =
    let w = unused_parts (size_range_of c.args.size.now) c.requires.of_profile (sym c.is_fixed.ensures ∙ c.if-is_fixed.false) c.args.octets.now c.requires.spelt.0 c.requires.spelt.1 in
    omega (arith, ap (λ (xs : List ℕ). length xs) w.is)

pub slice_bounds-filled-start : goal.slice_bounds-filled-start
slice_bounds-filled-start c =
    let w = unused_parts (size_range_of c.args.size.now) c.requires.of_profile (sym c.is_fixed.ensures ∙ c.if-is_fixed.false) c.args.octets.now c.requires.spelt.0 c.requires.spelt.1 in
    let l : 1 ≤ length c.args.octets.now = omega (arith, ap (λ (xs : List ℕ). length xs) w.is) in
    search rules

pub overflow_mul-filled : goal.overflow_mul-filled
overflow_mul-filled c =
    let w = unused_parts (size_range_of c.args.size.now) c.requires.of_profile (sym c.is_fixed.ensures ∙ c.if-is_fixed.false) c.args.octets.now c.requires.spelt.0 c.requires.spelt.1 in
    rw w.rest (omega (arith, w.small))

pub overflow_sub-filled : goal.overflow_sub-filled
overflow_sub-filled c =
    let w = unused_parts (size_range_of c.args.size.now) c.requires.of_profile (sym c.is_fixed.ensures ∙ c.if-is_fixed.false) c.args.octets.now c.requires.spelt.0 c.requires.spelt.1 in
    rw (w.rest, w.first) w.within

pub packed_bits-requires-2 : goal.packed_bits-requires-2
packed_bits-requires-2 c =
    let w = unused_parts (size_range_of c.args.size.now) c.requires.of_profile (sym c.is_fixed.ensures ∙ c.if-is_fixed.false) c.args.octets.now c.requires.spelt.0 c.requires.spelt.1 in
    record { filled = rw (w.rest, w.first) w.count }

pub returns-clause-done : goal.returns-clause-done
returns-clause-done c =
    let s = size_range_of c.args.size.now in
    let e = sym c.is_fixed.ensures ∙ c.if-is_fixed.false in
    let w = unused_parts s c.requires.of_profile e c.args.octets.now c.requires.spelt.0 c.requires.spelt.1 in
    IfOk-weaker c.packed_bits-2.result _ _ (λ bs h.
    (let k : Spells octet_fields (PackedBits (8 * length w.filled - w.unused)) bs.items w.filled [] = rw (w.rest, w.first) at h in
    subst (λ (xs : List ℕ). AreBitsOf s xs (bit_list bs.items)) (sym w.is) (unused_bits_are s c.requires.of_profile e w.unused w.filled bs.items k))) c.packed_bits-2.ensures.done

pub returns-clause-stop : goal.returns-clause-stop
returns-clause-stop c =
    let s = size_range_of c.args.size.now in
    let e = sym c.is_fixed.ensures ∙ c.if-is_fixed.false in
    let w = unused_parts s c.requires.of_profile e c.args.octets.now c.requires.spelt.0 c.requires.spelt.1 in
    IfErr-weaker c.packed_bits-2.result _ _ (λ why h.
    (let k : RefusedAtEnd (8 * length w.filled - w.unused) w.filled c.args.left why = rw (w.rest, w.first) at h in
    subst (λ (xs : List ℕ). AreNoBits s xs c.args.left why) (sym w.is) (unused_no_bits s c.requires.of_profile e w.unused w.filled c.args.left why k))) c.packed_bits-2.ensures.stop
