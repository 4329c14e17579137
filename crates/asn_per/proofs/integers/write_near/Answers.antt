use Rattle.std.proofs.Common.{◌≡◌, ◌+◌, ◌*◌, ◌-◌, ℕ, suc, ap, ◌∙◌, arith}
use Rattle.asn_bits.specs.Numbers.{width}
use Rattle.asn_bits.proofs.Prefixes.{bool_byte-is}
use Rattle.asn_rules.specs.Components.{bit_of}
use Rattle.asn_per.proofs.Write.Doubled.{doubled_width}
use Rattle.asn_plan.proofs.FieldBits.{one_mark_bit}
use Rattle.asn_per.proofs.Write.IndexBits.{index_fits, root_index_bits}
use Rattle.asn_per.proofs.integers.write_near.Goals as goal

-- the count of bits, as it was worked out
count_is : (highest w : ℕ) → w ≡ width (2 * highest + 1 + 1) → w ≡ suc (width (suc highest))
count_is highest w f =
    let twice : 2 * highest + 1 + 1 ≡ 2 * suc highest = omega arith in
    f ∙ ap width twice ∙ doubled_width (suc highest) (omega arith)

pub overflow_sub-count : goal.overflow_sub-count
overflow_sub-count g c =
    let w = count_is c.args.highest c.width_up_to-count.result c.width_up_to-count.ensures.width in
    omega (arith, w)

pub push_number-requires-clause-few : goal.push_number-requires-clause-few
push_number-requires-clause-few g c =
    let mark : c.from-mark_bits.result ≡ bit_of c.args.ext = c.from-mark_bits.ensures ∙ bool_byte-is c.args.ext in
    omega (arith, mark, one_mark_bit c.args.ext, c.width_up_to-count.ensures.few)

pub push_number-requires-clause-fits : goal.push_number-requires-clause-fits
push_number-requires-clause-fits g c =
    let w = count_is c.args.highest c.width_up_to-count.result c.width_up_to-count.ensures.width in
    let count : c.width_up_to-count.result - 1 ≡ width (suc c.args.highest) = omega (arith, w) in
    rw count (index_fits (suc c.args.highest) c.args.offset (omega (arith, c.requires.inside)) c.from-mark_bits.result)

pub returns : goal.returns
returns g c =
    let mark : c.from-mark_bits.result ≡ bit_of c.args.ext = c.from-mark_bits.ensures ∙ bool_byte-is c.args.ext in
    let w = count_is c.args.highest c.width_up_to-count.result c.width_up_to-count.ensures.width in
    let count : c.width_up_to-count.result - 1 ≡ width (suc c.args.highest) = omega (arith, w) in
    rw (root_index_bits (suc c.args.highest) c.args.offset (omega (arith, c.requires.inside)) c.args.ext c.from-mark_bits.result mark, ← count) c.push_number.ensures
