-- What has no units, also by rules that spell the only value of a type by nothing, has no bits.
use Rattle.std.proofs.Common.{◌≡◌, true, false, ◌&&◌, ◌||◌, ◌==◌, Bool, length, refl, sym, ap, ◌∙◌}
use Rattle.std.proofs.lemmas.Bool.{and_parts, true≢false}
use Rattle.asn_values.specs.Shape.{Shape, null, integer, enumerated, bit_string, octet_string, restricted, sequence, Fields, no_fields, field, must, closed}
use Rattle.asn_values.specs.Profile.{somewhere, some_field, zero_width_element, no_bits, no_field_bits, is_one_number, is_zero_size, is_closed}
use Rattle.asn_plan.specs.Nothing.{HasNothing, has_nothing, have_nothing, SpellsNothing}
use Rattle.asn_per.specs.Per.{per}
use Rattle.asn_per.specs.Walk.{per_coding}
use Rattle.asn_per.proofs.Encodings.Empty.{spelt_by_nothing}

mutual
  has_no_bits : (single : Bool) (t : Shape) → HasNothing single t → no_bits t ≡ true
  has_no_bits single null h = refl
  has_no_bits single (integer b) h = (and_parts single (is_one_number b) h).1
  has_no_bits single (enumerated root more) h = (and_parts single (length root == 1 && is_closed more) h).1
  has_no_bits single (bit_string s) h = (and_parts single (is_zero_size s) h).1
  has_no_bits single (octet_string s) h = (and_parts single (is_zero_size s) h).1
  has_no_bits single (restricted k s) h = (and_parts single (is_zero_size s) h).1
  has_no_bits single (sequence root closed) h = ap (λ (b : Bool). b && true) (have_no_bits single root h)
  has_no_bits single t h = absurd (true≢false (sym h))

  have_no_bits : (single : Bool) (fs : Fields) → have_nothing single fs ≡ true → no_field_bits fs ≡ true
  have_no_bits single no_fields h = refl
  have_no_bits single (field name must t fs) h =
      let w = and_parts (has_nothing single t) (have_nothing single fs) h in
      ap (λ (b : Bool). b && no_field_bits fs) (has_no_bits single t w.0) ∙ have_no_bits single fs w.1
  have_no_bits single (field name demand t fs) h = absurd (true≢false (sym h))

-- nor are there lists inside
mutual
  no_lists : (single : Bool) (t : Shape) → HasNothing single t → somewhere zero_width_element t ≡ false
  no_lists single null h = refl
  no_lists single (integer b) h = refl
  no_lists single (enumerated root more) h = refl
  no_lists single (bit_string s) h = refl
  no_lists single (octet_string s) h = refl
  no_lists single (restricted k s) h = refl
  no_lists single (sequence root closed) h = ap (λ (b : Bool). b || false) (no_lists_inside single root h)
  no_lists single t h = absurd (true≢false (sym h))

  no_lists_inside : (single : Bool) (fs : Fields) → have_nothing single fs ≡ true → some_field zero_width_element fs ≡ false
  no_lists_inside single no_fields h = refl
  no_lists_inside single (field name must t fs) h =
      let w = and_parts (has_nothing single t) (have_nothing single fs) h in
      ap (λ (b : Bool). b || some_field zero_width_element fs) (no_lists single t w.0) ∙ no_lists_inside single fs w.1
  no_lists_inside single (field name demand t fs) h = absurd (true≢false (sym h))

pub nothing_spelt : (single : Bool) → SpellsNothing single per_coding.code
unfolding per_coding
nothing_spelt single t d h f = spelt_by_nothing t d (no_lists single t h) (has_no_bits single t h) f
