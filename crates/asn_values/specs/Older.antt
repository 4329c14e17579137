-- The limits of the profiles that came before this one.
use Rattle.std.specs.Prelude.{◌≡◌, ℕ, ℤ, suc, max, pos, Bool, false, not, List, map, ◌++◌, ◌||◌}
use Rattle.std.specs.List.{list_any, list_all}
use Rattle.std.specs.Int.RustNames.{int_lt}
use Rattle.asn_values.specs.Shape.{Shape, enumerated, more_labels, sequence, sequence_of, choice, Fields, no_fields, field, MoreFields, closed, marked, Alternatives, no_alternatives, one_of, MoreAlternatives, closed_choice, marked_choice}
use Rattle.asn_values.specs.Fits.{Limits, highest_integer}
use Rattle.asn_values.specs.Profile.{somewhere, int_eq, has_twice, is_not_32_bits, is_rising, bad_enumeration}

-- ---- the types inside one another, a SEQUENCE OF counting one

abbrev mutual
  pub nesting : Shape → ℕ
  nesting (sequence root more) = suc (max (fields_nesting root) (more_nesting more))
  nesting (sequence_of t s) = suc (nesting t)
  nesting (choice root more) = suc (max (choice_nesting root) (more_choice_nesting more))
  nesting _ = 1

  pub fields_nesting : Fields → ℕ
  fields_nesting no_fields = 0
  fields_nesting (field name demand t fs) = max (nesting t) (fields_nesting fs)

  pub more_nesting : MoreFields → ℕ
  more_nesting closed = 0
  more_nesting (marked fs) = fields_nesting fs

  pub choice_nesting : Alternatives → ℕ
  choice_nesting no_alternatives = 0
  choice_nesting (one_of name t alts) = max (nesting t) (choice_nesting alts)

  pub more_choice_nesting : MoreAlternatives → ℕ
  more_choice_nesting closed_choice = 0
  more_choice_nesting (marked_choice alts) = choice_nesting alts

-- ---- limits

-- 200 alternatives and extension additions, 10,000 types inside a type, and 32 of them inside one another; bounds of sizes
-- ended at 65,535, which is no part of these limits: what is said of them is said of sizes with higher bounds too
abbrev pub older_limits : Limits
older_limits = record {
  highest = highest_integer;
  alternatives = 200;
  item_additions = 200;
  nodes = 10000;
  levels_of = nesting;
  levels = 32;
}

-- before those: integers of 64 bits in two's complement, a CHOICE of 63 alternatives and an ENUMERATED of 64 extension
-- additions
abbrev pub oldest_limits : Limits
oldest_limits = record {
  highest = pos 9223372036854775807;
  alternatives = 63;
  item_additions = 64;
  nodes = 10000;
  levels_of = nesting;
  levels = 32;
}

-- ---- numbers of items: those of additions were above all of the root

abbrev pub older_bad_numbers : List ℤ → List ℤ → Bool
older_bad_numbers root more =
    has_twice int_eq root
    || (list_any is_not_32_bits (root ++ more)
    || (not (is_rising more) || not (list_all (λ x. list_all (int_lt x) more) root)))

abbrev pub older_bad_enumeration : Shape → Bool
older_bad_enumeration (enumerated root more) =
    older_bad_numbers (map (λ l. l.number) root) (map (λ l. l.number) (more_labels more))
older_bad_enumeration _ = false

-- what was good so is good still
abbrev pub NumbersStay : Type 0
NumbersStay = (t : Shape) → somewhere older_bad_enumeration t ≡ false → somewhere bad_enumeration t ≡ false
