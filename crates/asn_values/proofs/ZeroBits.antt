-- What the search for types without bits finds within some levels.
use Rattle.std.proofs.Common.{◌≡◌, ◌≤◌, ◌<◌, ◌+◌, ◌-◌, ◌&&◌, ◌||◌, ℕ, Bool, true, false, refl, sym, ◌∙◌, nat_lt, arith}
use Rattle.std.proofs.lemmas.Bool.{lt-ltb}
use Rattle.asn_values.specs.Shape.{Shape, boolean, null, integer, enumerated, bit_string, octet_string, restricted, utf8_string, sequence, sequence_of, choice, must, optional, default, Fields, no_fields, field, Alternatives, no_alternatives, one_of}
use Rattle.asn_values.specs.Measures.{depth, fields_depth, choice_depth}
use Rattle.asn_values.specs.Profile.{no_bits, no_field_bits, single_no_bits, no_more_bits, no_more_choice, is_zero_size, is_fixed_size}
use Rattle.asn_values.specs.Walk.{no_bits_within, no_field_bits_within, single_no_bits_within}

-- ---- tests that find no more than others

-- the first finds no more than the second
abbrev Finds : Bool → Bool → Type 0
Finds a b = a ≡ true → b ≡ true

both_find : (a b c : Bool) → Finds a b → Finds (a && c) (b && c)
both_find true true c h e = e
both_find true false c h e = absurd (no (h refl))
  where
    no : false ≡ true → ⊥
    no f = cc
both_find false b c h e = absurd (no e)
  where
    no : false ≡ true → ⊥
    no f = cc

after_finds : (c a b : Bool) → Finds a b → Finds (c && a) (c && b)
after_finds true a b h e = h e
after_finds false a b h e = e

or_finds : (c a b : Bool) → Finds a b → Finds (c || a) (c || b)
or_finds true a b h e = e
or_finds false a b h e = h e

cut_finds : (c a b : Bool) → Finds a b → Finds (c && a) b
cut_finds true a b h e = h e
cut_finds false a b h e = absurd (no e)
  where
    no : false ≡ true → ⊥
    no f = cc

chain : (a b c : Bool) → Finds a b → Finds b c → Finds a c
chain a b c f g h = g (f h)

mutual
  -- what is found within some levels holds
  pub found_within : (levels : ℕ) (t : Shape) → Finds (no_bits_within levels t) (no_bits t)
  found_within levels boolean = λ h. h
  found_within levels null = λ h. h
  found_within levels (integer b) = λ h. h
  found_within levels (enumerated root more) = λ h. h
  found_within levels (bit_string s) = λ h. h
  found_within levels (octet_string s) = λ h. h
  found_within levels (restricted k s) = λ h. h
  found_within levels utf8_string = λ h. h
  found_within levels (sequence root more) = both_find (no_field_bits_within levels root) (no_field_bits root) (no_more_bits more) (found_fields levels root)
  found_within levels (sequence_of t s) =
      or_finds (is_zero_size s) _ _ (after_finds (is_fixed_size s) _ _ (cut_finds (nat_lt 0 levels) _ _ (found_within (levels - 1) t)))
  found_within levels (choice root more) = both_find (single_no_bits_within levels root) (single_no_bits root) (no_more_choice more) (found_single levels root)

  found_fields : (levels : ℕ) (fs : Fields) → Finds (no_field_bits_within levels fs) (no_field_bits fs)
  found_fields levels no_fields = λ h. h
  found_fields levels (field name must t fs) =
      let here = cut_finds (nat_lt 0 levels) (no_bits_within (levels - 1) t) (no_bits t) (found_within (levels - 1) t) in
      chain _ (no_bits t && no_field_bits_within levels fs) _
      (both_find (nat_lt 0 levels && no_bits_within (levels - 1) t) (no_bits t) (no_field_bits_within levels fs) here)
      (after_finds (no_bits t) _ _ (found_fields levels fs))
  found_fields levels (field name optional t fs) = λ h. h
  found_fields levels (field name (default d) t fs) = λ h. h

  found_single : (levels : ℕ) (alts : Alternatives) → Finds (single_no_bits_within levels alts) (single_no_bits alts)
  found_single levels no_alternatives = λ h. h
  found_single levels (one_of name t no_alternatives) = cut_finds (nat_lt 0 levels) _ _ (found_within (levels - 1) t)
  found_single levels (one_of name t (one_of other u alts)) = λ h. h

-- ---- all levels

-- each type has a level
pub one_level : (t : Shape) → 1 ≤ depth t
one_level boolean = omega arith
one_level null = omega arith
one_level (integer b) = omega arith
one_level (enumerated root more) = omega arith
one_level (bit_string s) = omega arith
one_level (octet_string s) = omega arith
one_level (restricted k s) = omega arith
one_level utf8_string = omega arith
one_level (sequence root more) = omega arith
one_level (sequence_of t s) = omega arith
one_level (choice root more) = omega arith

-- what is found in a type inside another is what is found inside it, where there is a level for it
inside_is : (levels : ℕ) (t : Shape) → depth t ≤ levels → no_bits_within (levels - 1) t ≡ no_bits t → (nat_lt 0 levels && no_bits_within (levels - 1) t) ≡ no_bits t
inside_is levels t h e =
    let some : 0 < levels = omega (arith, h, one_level t) in
    rw (lt-ltb 0 levels some) e

-- and one level less is enough for it
less : (levels : ℕ) (t : Shape) → depth t ≤ levels → depth t ≤ levels - 1 + 1
less levels t h = omega (arith, h, one_level t)

mutual
  -- where the levels suffice, all is found
  pub all_within : (levels : ℕ) (t : Shape) → depth t ≤ levels + 1 → no_bits_within levels t ≡ no_bits t
  all_within levels boolean h = refl
  all_within levels null h = refl
  all_within levels (integer b) h = refl
  all_within levels (enumerated root more) h = refl
  all_within levels (bit_string s) h = refl
  all_within levels (octet_string s) h = refl
  all_within levels (restricted k s) h = refl
  all_within levels utf8_string h = refl
  all_within levels (sequence root more) h = rw (all_fields levels root (omega (arith, h))) refl
  all_within levels (sequence_of t s) h =
      let few : depth t ≤ levels = omega (arith, h) in
      rw (inside_is levels t few (all_within (levels - 1) t (less levels t few))) refl
  all_within levels (choice root more) h = rw (all_single levels root (omega (arith, h))) refl

  all_fields : (levels : ℕ) (fs : Fields) → fields_depth fs ≤ levels → no_field_bits_within levels fs ≡ no_field_bits fs
  all_fields levels no_fields h = refl
  all_fields levels (field name must t fs) h =
      let few : depth t ≤ levels = omega (arith, h) in
      rw (inside_is levels t few (all_within (levels - 1) t (less levels t few)), all_fields levels fs (omega (arith, h))) refl
  all_fields levels (field name optional t fs) h = refl
  all_fields levels (field name (default d) t fs) h = refl

  all_single : (levels : ℕ) (alts : Alternatives) → choice_depth alts ≤ levels → single_no_bits_within levels alts ≡ single_no_bits alts
  all_single levels no_alternatives h = refl
  all_single levels (one_of name t no_alternatives) h =
      let few : depth t ≤ levels = omega (arith, h) in
      inside_is levels t few (all_within (levels - 1) t (less levels t few))
  all_single levels (one_of name t (one_of other u alts)) h = refl

-- ---- a list

-- where the levels suffice for its element, a test of the element that finds nothing tells that it has bits
pub has_bits : (levels : ℕ) (t : Shape) → depth t ≤ levels → no_bits_within levels t ≡ false → no_bits t ≡ false
has_bits levels t h e = sym (all_within levels t (omega (arith, h))) ∙ e
