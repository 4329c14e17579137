-- The types inside a type of the profile are of the profile: the element of a SEQUENCE OF, the alternatives of a
-- CHOICE, and the extension additions of a SEQUENCE, which are OPTIONAL.
use Rattle.std.proofs.Common.{◌≡◌, ◌≤◌, Bool, true, false, not, ◌||◌, nat_lt, arith}
use Rattle.std.proofs.lemmas.Bool.{not-false, ltb-false, le-ltb}
use Rattle.std.specs.List.{list_all}
use Rattle.asn_values.specs.Shape.{Shape, SizeRange, sequence, sequence_of, choice, must, optional, default, Fields, no_fields, field, marked, demands, Alternatives, no_alternatives, one_of, MoreAlternatives, marked_choice}
use Rattle.asn_values.specs.Measures.{depth, nodes, fields_nodes, fields_depth, choice_nodes, choice_depth}
use Rattle.asn_values.specs.Profile.{EmptyRange, SizeTooLarge, DuplicateName, BadEnumeration, UselessMark, BadDefault, ZeroWidthElement, AdditionNotOptional, TooMany, TooDeep, somewhere, some_field, some_alternative, some_more, empty_range, size_too_large, duplicate_name, bad_enumeration, useless_mark, bad_default, zero_width_element, addition_not_optional, is_optional, too_many_here, most_nodes, most_levels, InProfile}
use Rattle.asn_values.specs.Parts.{AreOfProfile, AreAllOfProfile}
use Rattle.asn_values.proofs.Parts.{left_false, right_false}

module _ (whole : Shape) (good : InProfile whole) where
  -- it has at most this many types inside it
  few : nodes whole ≤ most_nodes
  few = ltb-false most_nodes (nodes whole) (right_false (somewhere too_many_here whole) (nat_lt most_nodes (nodes whole)) (good TooMany))

  -- and at most this many levels
  deep : depth whole ≤ most_levels
  deep = ltb-false most_levels (depth whole) (good TooDeep)

  -- a type inside it
  pub inner_of_profile : (t : Shape) → ((test : Shape → Bool) → somewhere test whole ≡ false → somewhere test t ≡ false) → nodes t ≤ nodes whole → depth t ≤ depth whole → InProfile t
  inner_of_profile t f n d EmptyRange = f empty_range (good EmptyRange)
  inner_of_profile t f n d SizeTooLarge = f size_too_large (good SizeTooLarge)
  inner_of_profile t f n d DuplicateName = f duplicate_name (good DuplicateName)
  inner_of_profile t f n d BadEnumeration = f bad_enumeration (good BadEnumeration)
  inner_of_profile t f n d UselessMark = f useless_mark (good UselessMark)
  inner_of_profile t f n d BadDefault = f bad_default (good BadDefault)
  inner_of_profile t f n d ZeroWidthElement = f zero_width_element (good ZeroWidthElement)
  inner_of_profile t f n d AdditionNotOptional = f addition_not_optional (good AdditionNotOptional)
  inner_of_profile t f n d TooMany =
      let here : somewhere too_many_here t ≡ false = f too_many_here (left_false (somewhere too_many_here whole) (nat_lt most_nodes (nodes whole)) (good TooMany)) in
      rw here (le-ltb most_nodes (nodes t) (omega (arith, few)))
  inner_of_profile t f n d TooDeep = le-ltb most_levels (depth t) (omega (arith, deep))

  -- alternatives inside it
  pub alternatives_inside : (alts : Alternatives) → ((test : Shape → Bool) → somewhere test whole ≡ false → some_alternative test alts ≡ false) → choice_nodes alts ≤ nodes whole → choice_depth alts ≤ depth whole → AreAllOfProfile alts
  alternatives_inside no_alternatives f n d = tt
  alternatives_inside (one_of name t alts) f n d = (
    inner_of_profile t (λ test h. left_false (somewhere test t) (some_alternative test alts) (f test h)) (omega arith) (omega arith),
    alternatives_inside alts (λ test h. right_false (somewhere test t) (some_alternative test alts) (f test h)) (omega arith) (omega arith),
  )

  -- components inside it, where each is OPTIONAL
  pub optional_inside : (fs : Fields) → ((test : Shape → Bool) → somewhere test whole ≡ false → some_field test fs ≡ false) → fields_nodes fs ≤ nodes whole → fields_depth fs ≤ depth whole → list_all is_optional (demands fs) ≡ true → AreOfProfile fs
  optional_inside no_fields f n d o = tt
  optional_inside (field name optional t fs) f n d o = (
    inner_of_profile t (λ test h. left_false (somewhere test t) (some_field test fs) (f test h)) (omega arith) (omega arith),
    tt,
    optional_inside fs (λ test h. right_false (somewhere test t) (some_field test fs) (f test h)) (omega arith) (omega arith) o,
  )
  optional_inside (field name must t fs) f n d o = absurd (cc)
  optional_inside (field name (default e) t fs) f n d o = absurd (cc)

-- the element of a SEQUENCE OF
pub element_of_profile : (t : Shape) (s : SizeRange) → InProfile (sequence_of t s) → InProfile t
element_of_profile t s good = inner_of_profile (sequence_of t s) good t (λ test h. right_false (test (sequence_of t s)) (somewhere test t) h) (omega arith) (omega arith)

-- the root of a CHOICE
pub root_alternatives_of_profile : (root : Alternatives) (more : MoreAlternatives) → InProfile (choice root more) → AreAllOfProfile root
root_alternatives_of_profile root more good =
    alternatives_inside (choice root more) good root
    (λ test h. left_false (some_alternative test root) (some_more test more) (right_false (test (choice root more)) (some_alternative test root || some_more test more) h)) (omega arith) (omega arith)

-- its additions
pub added_alternatives_of_profile : (root more : Alternatives) → InProfile (choice root (marked_choice more)) → AreAllOfProfile more
added_alternatives_of_profile root more good =
    alternatives_inside (choice root (marked_choice more)) good more
    (λ test h. right_false (some_alternative test root) (some_alternative test more) (right_false (test (choice root (marked_choice more))) (some_alternative test root || some_alternative test more) h)) (omega arith) (omega arith)

-- the additions of a SEQUENCE are OPTIONAL
pub additions_optional : (root fs : Fields) → InProfile (sequence root (marked fs)) → list_all is_optional (demands fs) ≡ true
additions_optional root fs good = not-false (list_all is_optional (demands fs)) (left_false (not (list_all is_optional (demands fs))) (some_field addition_not_optional root || some_field addition_not_optional fs) (good AdditionNotOptional))

-- and of the profile
pub additions_of_profile : (root fs : Fields) → InProfile (sequence root (marked fs)) → AreOfProfile fs
additions_of_profile root fs good =
    optional_inside (sequence root (marked fs)) good fs
    (λ test h. right_false (some_field test root) (some_field test fs) (right_false (test (sequence root (marked fs))) (some_field test root || some_field test fs) h)) (omega arith) (omega arith) (additions_optional root fs good)
