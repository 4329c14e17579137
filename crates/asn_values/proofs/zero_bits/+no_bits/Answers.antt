use Rattle.std.proofs.Common.{◌≡◌, ◌≤◌, ◌<◌, ◌-◌, ◌&&◌, get_or, ap, ◌∙◌, ℕ, Bool, true, false, List, [], ◌∷◌, map, length, Option, Some, None, is_some, Vec, Global, refl, arith}
use Rattle.std.proofs.lemmas.Bool.{lt-ltb}
use Rattle.asn_values.specs.declared.types.Alt.{Alt}
use Rattle.asn_values.specs.declared.types.AsnType.{AsnType, Seq, Choice}
use Rattle.asn_values.specs.declared.types.Field.{Field}
use Rattle.asn_values.specs.Walk.{no_bits_within, no_field_bits_within, single_no_bits_within}
use Rattle.asn_values.specs.View.{shape_of, fields_of, part_of_field, alternatives_of, branch_of}
use Rattle.asn_values.proofs.Alternatives.{shape_of_branch}
use Rattle.asn_values.proofs.Views.{shape_of-Seq, shape_of-Choice}
use Rattle.asn_values.proofs.zero_bits.+no_bits.Goals as goal

and_false : (b : Bool) → false ≡ (b && false)
and_false true = refl
and_false false = refl

-- an extension marker is encoded as a bit
marked_sequence : (levels : ℕ) (t : AsnType) (root : Vec Field Global) (ext : Option (Vec Field Global)) → t ≡ Seq root ext → is_some ext ≡ true → false ≡ no_bits_within levels (shape_of t)
marked_sequence levels t root None e m = absurd (cc)
marked_sequence levels t root (Some more) e m = rw (e, shape_of-Seq) (and_false (no_field_bits_within levels (fields_of (map part_of_field root.items))))

marked_choice : (levels : ℕ) (t : AsnType) (root : Vec Alt Global) (ext : Option (Vec Alt Global)) → t ≡ Choice root ext → is_some ext ≡ true → false ≡ no_bits_within levels (shape_of t)
marked_choice levels t root None e m = absurd (cc)
marked_choice levels t root (Some more) e m = rw (e, shape_of-Choice) (and_false (single_no_bits_within levels (alternatives_of (map branch_of root.items))))

pub has_no_bits-returns-else-is_none : goal.has_no_bits-returns-else-is_none
has_no_bits-returns-else-is_none t c =
    rw c.if-is_none.false (marked_sequence c.args.levels c.args.ty.now c.in-Seq.root c.in-Seq.ext c.in-Seq.is c.if-is_none.ensures)

pub has_no_bits-returns-else-is_none-2 : goal.has_no_bits-returns-else-is_none-2
has_no_bits-returns-else-is_none-2 t c =
    rw c.if-is_none-2.false (marked_choice c.args.levels c.args.ty.now c.in-Choice.root c.in-Choice.ext c.in-Choice.is c.if-is_none-2.ensures)

-- several alternatives have bits: those of their index
several : (levels : ℕ) (alts : List Alt) → 2 ≤ length alts → false ≡ single_no_bits_within levels (alternatives_of (map branch_of alts))
several levels [] h = absurd (omega arith)
several levels (a ∷ []) h = absurd (omega arith)
several levels (a ∷ b ∷ alts) h = refl

pub is_single_without_bits-returns-in_default-2 : goal.is_single_without_bits-returns-in_default-2
is_single_without_bits-returns-in_default-2 t c = several c.args.levels c.args.root.now c.in_default.len_at_least

-- the only alternative
only : (levels : ℕ) (alts : List Alt) (a : Alt) (b : Bool) → 1 ≤ length alts → length alts < 2 → a ≡ get_or alts 0 a → 0 < levels
    → b ≡ no_bits_within (levels - 1) (shape_of a.ty) → b ≡ single_no_bits_within levels (alternatives_of (map branch_of alts))
only levels [] a b some few e h f = absurd (omega arith)
only levels (x ∷ []) a b some few e h f = rw (lt-ltb 0 levels h, shape_of_branch x) (f ∙ ap (λ (y : Alt). no_bits_within (levels - 1) (shape_of y.ty)) e)
only levels (x ∷ y ∷ alts) a b some few e h f = absurd (omega arith)

pub is_single_without_bits-returns-then-levels-gt0 : goal.is_single_without_bits-returns-then-levels-gt0
is_single_without_bits-returns-then-levels-gt0 t c =
    only c.args.levels c.args.root.now c.only-item.result c.has_no_bits.result c.in-len1.len_at_least c.in-len1.len_below c.only-item.is (omega arith) c.has_no_bits.ensures
