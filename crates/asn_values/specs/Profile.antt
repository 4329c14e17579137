-- Which types are types of the profile: those in which none of ten conditions holds.
use Rattle.std.specs.Prelude.{◌+◌, ℕ, ℤ, pos, negsuc, Bool, true, false, not, ◌&&◌, ◌||◌, List, [], ◌∷◌, ◌++◌, map, length, Option, Some, None, IsFalse, nat_lt, nat_le, ◌==◌, bytes_eq}
use Rattle.std.specs.List.{list_all, list_any}
use Rattle.std.specs.Int.RustNames.{int_le, int_lt}
pub use Rattle.asn_limits.specs.Limits.{largest_size_bound, most_items, most_components, most_additions, most_item_additions, most_alternatives, most_nodes, most_levels}
use Rattle.asn_values.specs.Datum.{Datum, truth, number, item}
use Rattle.asn_values.specs.Shape.{Range, SizeRange, Shape, boolean, null, integer, enumerated, bit_string, octet_string, restricted, utf8_string, sequence, sequence_of, choice, Demand, must, optional, default, MoreLabels, closed_labels, marked_labels, more_labels, Fields, no_fields, field, MoreFields, closed, marked, more_fields, demands, field_names, Alternatives, no_alternatives, one_of, MoreAlternatives, closed_choice, marked_choice, more_alternatives, alternative_names, count}
use Rattle.asn_values.specs.Measures.{nodes}
use Rattle.asn_values.specs.Fits.{Limits, limits, lowest_integer, at_least, at_most, in_range}

-- ---- every node of a type

abbrev mutual
  -- the test holds of the type, or of one inside it
  pub somewhere : (Shape → Bool) → Shape → Bool
  somewhere test boolean = test boolean
  somewhere test null = test null
  somewhere test (integer b) = test (integer b)
  somewhere test (enumerated root more) = test (enumerated root more)
  somewhere test (bit_string s) = test (bit_string s)
  somewhere test (octet_string s) = test (octet_string s)
  somewhere test (restricted k s) = test (restricted k s)
  somewhere test utf8_string = test utf8_string
  somewhere test (sequence root more) = test (sequence root more) || (some_field test root || some_addition test more)
  somewhere test (sequence_of t s) = test (sequence_of t s) || somewhere test t
  somewhere test (choice root more) = test (choice root more) || (some_alternative test root || some_more test more)

  pub some_field : (Shape → Bool) → Fields → Bool
  some_field test no_fields = false
  some_field test (field name demand t fs) = somewhere test t || some_field test fs

  pub some_addition : (Shape → Bool) → MoreFields → Bool
  some_addition test closed = false
  some_addition test (marked fs) = some_field test fs

  pub some_alternative : (Shape → Bool) → Alternatives → Bool
  some_alternative test no_alternatives = false
  some_alternative test (one_of name t alts) = somewhere test t || some_alternative test alts

  pub some_more : (Shape → Bool) → MoreAlternatives → Bool
  some_more test closed_choice = false
  some_more test (marked_choice alts) = some_alternative test alts

-- ---- EmptyRange: a low bound above the high one, a bound outside the profile, no item or alternative in the root

abbrev pub is_outside_under : Limits → Option ℤ → Bool
is_outside_under l None = false
is_outside_under l (Some z) = int_lt z lowest_integer || int_lt l.highest z

abbrev pub is_outside : Option ℤ → Bool
is_outside = is_outside_under limits

abbrev pub low_above_high : Option ℤ → Option ℤ → Bool
low_above_high (Some low) high = not (at_most high low)
low_above_high None high = false

abbrev pub size_above : SizeRange → Bool
size_above s = above s.high
  where
    above : Option ℕ → Bool
    above None = false
    above (Some high) = nat_lt high s.low

abbrev pub empty_range_under : Limits → Shape → Bool
empty_range_under l (integer b) = low_above_high b.low b.high || (is_outside_under l b.low || is_outside_under l b.high)
empty_range_under l (enumerated root more) = length root == 0
empty_range_under l (bit_string s) = size_above s
empty_range_under l (octet_string s) = size_above s
empty_range_under l (restricted k s) = size_above s
empty_range_under l (sequence_of t s) = size_above s
empty_range_under l (choice root more) = count root == 0
empty_range_under l _ = false

abbrev pub empty_range : Shape → Bool
empty_range = empty_range_under limits

-- ---- SizeTooLarge: a SIZE bound above 2 ^ 28 - 1

abbrev pub size_of : Shape → Option SizeRange
size_of (bit_string s) = Some s
size_of (octet_string s) = Some s
size_of (restricted k s) = Some s
size_of (sequence_of t s) = Some s
size_of _ = None

abbrev pub is_large : Option ℕ → Bool
is_large None = false
is_large (Some n) = nat_lt largest_size_bound n

abbrev pub large_size : Option SizeRange → Bool
large_size None = false
large_size (Some s) = nat_lt largest_size_bound s.low || is_large s.high

abbrev pub size_too_large : Shape → Bool
size_too_large t = large_size (size_of t)

-- ---- DuplicateName: a name twice in one type, or no identifier (X.680, identifiers)

abbrev pub is_small_letter : ℕ → Bool
is_small_letter c = nat_le 97 c && nat_le c 122

abbrev pub is_letter_or_digit : ℕ → Bool
is_letter_or_digit c = is_small_letter c || ((nat_le 65 c && nat_le c 90) || (nat_le 48 c && nat_le c 57))

-- letters and digits, each hyphen before one of these
abbrev pub goes_on : List ℕ → Bool
goes_on [] = true
goes_on (c ∷ []) = is_letter_or_digit c
goes_on (c ∷ d ∷ cs) = (is_letter_or_digit c || (c == 45 && is_letter_or_digit d)) && goes_on (d ∷ cs)

abbrev pub is_identifier : List ℕ → Bool
is_identifier [] = false
is_identifier (c ∷ cs) = is_small_letter c && goes_on cs

abbrev pub has_twice : {A : Type 0} → (A → A → Bool) → List A → Bool
has_twice eq [] = false
has_twice eq (x ∷ xs) = list_any (eq x) xs || has_twice eq xs

abbrev pub bad_names : List (List ℕ) → Bool
bad_names names = has_twice bytes_eq names || not (list_all is_identifier names)

abbrev pub duplicate_name : Shape → Bool
duplicate_name (enumerated root more) = bad_names (map (λ l. l.name) (root ++ more_labels more))
duplicate_name (sequence root more) = bad_names (field_names root ++ field_names (more_fields more))
duplicate_name (choice root more) = bad_names (alternative_names root ++ alternative_names (more_alternatives more))
duplicate_name _ = false

-- ---- BadEnumeration: a number twice or outside 32 signed bits, or additions that do not rise (X.680, "enumerated type":
-- an addition's number is above those of the additions before it, and no item of the root has it)

abbrev pub int_eq : ℤ → ℤ → Bool
int_eq x y = int_le x y && int_le y x

abbrev pub is_not_32_bits : ℤ → Bool
is_not_32_bits z = int_lt z (negsuc 2147483647) || int_lt (pos 2147483647) z

-- each number above those before it
abbrev pub is_rising : List ℤ → Bool
is_rising [] = true
is_rising (x ∷ xs) = list_all (int_lt x) xs && is_rising xs

abbrev pub bad_numbers : List ℤ → List ℤ → Bool
bad_numbers root more =
    has_twice int_eq (root ++ more) || (list_any is_not_32_bits (root ++ more) || not (is_rising more))

abbrev pub bad_enumeration : Shape → Bool
bad_enumeration (enumerated root more) = bad_numbers (map (λ l. l.number) root) (map (λ l. l.number) (more_labels more))
bad_enumeration _ = false

-- ---- UselessMark: an extension marker on a root that is already every value of the profile

-- no length of the profile is above the high bound
abbrev pub is_no_limit : Option ℕ → Bool
is_no_limit None = true
is_no_limit (Some high) = nat_le largest_size_bound high

abbrev pub is_every_length : Option SizeRange → Bool
is_every_length None = false
is_every_length (Some s) = s.extensible && (s.low == 0 && is_no_limit s.high)

abbrev pub useless_mark_under : Limits → Shape → Bool
useless_mark_under l (integer b) = b.extensible && (at_least b.low lowest_integer && at_most b.high l.highest)
useless_mark_under l t = is_every_length (size_of t)

abbrev pub useless_mark : Shape → Bool
useless_mark = useless_mark_under limits

-- ---- BadDefault: a DEFAULT on another type than BOOLEAN, ENUMERATED or INTEGER, on one with an
-- extension marker or one value only, or no value of it

-- the bounds of the numbers of a range, where one is missing the profile's
abbrev pub lowest_of : Option ℤ → ℤ
lowest_of None = lowest_integer
lowest_of (Some low) = low

abbrev pub highest_of_under : Limits → Option ℤ → ℤ
highest_of_under l None = l.highest
highest_of_under l (Some high) = high

abbrev pub highest_of : Option ℤ → ℤ
highest_of = highest_of_under limits

-- a BOOLEAN, ENUMERATED or INTEGER without a mark, of more than one value, and a value of it
abbrev pub good_default_under : Limits → Shape → Datum → Bool
good_default_under l boolean (truth b) = true
good_default_under l (integer b) (number z) =
    not b.extensible
    && (in_range b z && (not (is_outside_under l (Some z)) && int_lt (lowest_of b.low) (highest_of_under l b.high)))
good_default_under l (enumerated root closed_labels) (item p) = nat_lt p (length root) && nat_lt 1 (length root)
good_default_under l _ _ = false

abbrev pub good_default : Shape → Datum → Bool
good_default = good_default_under limits

abbrev pub bad_default_at_under : Limits → Fields → Bool
bad_default_at_under l no_fields = false
bad_default_at_under l (field name (default d) t fs) = not (good_default_under l t d) || bad_default_at_under l fs
bad_default_at_under l (field name _ t fs) = bad_default_at_under l fs

abbrev pub bad_default_at : Fields → Bool
bad_default_at = bad_default_at_under limits

abbrev pub bad_default_under : Limits → Shape → Bool
bad_default_under l (sequence root more) = bad_default_at_under l root || bad_default_at_under l (more_fields more)
bad_default_under l _ = false

abbrev pub bad_default : Shape → Bool
bad_default = bad_default_under limits

-- ---- ZeroWidthElement: a SEQUENCE OF whose element has an empty encoding in PER

abbrev pub is_zero_size : SizeRange → Bool
is_zero_size s = not s.extensible && at_zero s.high
  where
    at_zero : Option ℕ → Bool
    at_zero None = false
    at_zero (Some high) = s.low == 0 && high == 0

abbrev pub is_fixed_size : SizeRange → Bool
is_fixed_size s = not s.extensible && same s.high
  where
    same : Option ℕ → Bool
    same None = false
    same (Some high) = s.low == high

abbrev pub is_one_number : Range → Bool
is_one_number b = not b.extensible && one b.low b.high
  where
    one : Option ℤ → Option ℤ → Bool
    one (Some low) (Some high) = int_eq low high
    one _ _ = false

abbrev pub is_closed : MoreLabels → Bool
is_closed closed_labels = true
is_closed (marked_labels ls) = false

abbrev mutual
  -- no value of the type has a bit
  pub no_bits : Shape → Bool
  no_bits boolean = false
  no_bits null = true
  no_bits (integer b) = is_one_number b
  no_bits (enumerated root more) = length root == 1 && is_closed more
  no_bits (bit_string s) = is_zero_size s
  no_bits (octet_string s) = is_zero_size s
  no_bits (restricted k s) = is_zero_size s
  no_bits utf8_string = false
  no_bits (sequence root more) = no_field_bits root && no_more_bits more
  no_bits (sequence_of t s) = is_zero_size s || (is_fixed_size s && no_bits t)
  no_bits (choice root more) = single_no_bits root && no_more_choice more

  pub no_field_bits : Fields → Bool
  no_field_bits no_fields = true
  no_field_bits (field name must t fs) = no_bits t && no_field_bits fs
  no_field_bits (field name _ t fs) = false

  pub no_more_bits : MoreFields → Bool
  no_more_bits closed = true
  no_more_bits (marked fs) = false

  pub single_no_bits : Alternatives → Bool
  single_no_bits (one_of name t no_alternatives) = no_bits t
  single_no_bits _ = false

  pub no_more_choice : MoreAlternatives → Bool
  no_more_choice closed_choice = true
  no_more_choice (marked_choice alts) = false

abbrev pub zero_width_element : Shape → Bool
zero_width_element (sequence_of t s) = no_bits t
zero_width_element _ = false

-- ---- AdditionNotOptional: an addition of a SEQUENCE that is not OPTIONAL

abbrev pub is_optional : Demand → Bool
is_optional optional = true
is_optional _ = false

abbrev pub addition_not_optional : Shape → Bool
addition_not_optional (sequence root more) = not (list_all is_optional (demands (more_fields more)))
addition_not_optional _ = false

-- ---- TooMany: more parts than the profile allows

abbrev pub too_many_here_under : Limits → Shape → Bool
too_many_here_under l (enumerated root more) =
    nat_lt most_items (length root + length (more_labels more)) || nat_lt l.item_additions (length (more_labels more))
too_many_here_under l (sequence root more) =
    nat_lt most_components (length (demands root)) || nat_lt most_additions (length (demands (more_fields more)))
too_many_here_under l (choice root more) = nat_lt l.alternatives (count root + count (more_alternatives more))
too_many_here_under l _ = false

abbrev pub too_many_here : Shape → Bool
too_many_here = too_many_here_under limits

-- ---- all of them

-- what may be wrong with a type
pub data Condition : Type 0 where
  EmptyRange SizeTooLarge DuplicateName BadEnumeration UselessMark : Condition
  BadDefault ZeroWidthElement AdditionNotOptional TooMany TooDeep : Condition

-- the condition holds somewhere in the type
abbrev pub has_under : Limits → Condition → Shape → Bool
has_under l EmptyRange t = somewhere (empty_range_under l) t
has_under l SizeTooLarge t = somewhere size_too_large t
has_under l DuplicateName t = somewhere duplicate_name t
has_under l BadEnumeration t = somewhere bad_enumeration t
has_under l UselessMark t = somewhere (useless_mark_under l) t
has_under l BadDefault t = somewhere (bad_default_under l) t
has_under l ZeroWidthElement t = somewhere zero_width_element t
has_under l AdditionNotOptional t = somewhere addition_not_optional t
has_under l TooMany t = somewhere (too_many_here_under l) t || nat_lt l.nodes (nodes t)
has_under l TooDeep t = nat_lt l.levels (l.levels_of t)

abbrev pub has : Condition → Shape → Bool
has = has_under limits

-- a type of the profile
abbrev pub InProfileUnder : Limits → Shape → Type 0
InProfileUnder l t = (c : Condition) → IsFalse (has_under l c t)

abbrev pub InProfile : Shape → Type 0
InProfile = InProfileUnder limits
