-- Constraints that no encoding shows, and the values that meet them (X.680, "constraint").
use Rattle.std.specs.Prelude.{◌==◌, ◌&&◌, ◌||◌, ℕ, zero, suc, ℤ, pos, Bool, true, false, not, List, [], ◌∷◌, length, Option, Some, None, nat_le, nat_lt}
use Rattle.std.specs.Int.RustNames.{int_le}
use Rattle.std.specs.List.{list_all}
use Rattle.asn_values.specs.Datum.{component_list, element_list, Datum, number, item, bit_list, octet_list, characters, unicode, components, elements, alternative, unknown_item, unknown_alternative}
use Rattle.asn_values.specs.Equality.{datum_eq}
use Rattle.asn_constraints.specs.Times.{TimeKind, is_time}

-- whether a component has to be there: either way, PRESENT, ABSENT
pub data Presence : Type 0 where
  any must_be must_not_be : Presence

mutual
  pub data Constraint : Type 0 where
    -- each value meets it, no value meets it
    free barred : Constraint
    both either : Constraint → Constraint → Constraint
    -- an INTEGER in one of these intervals
    numbers : List (ℤ × ℤ) → Constraint
    -- an ENUMERATED at one of these positions
    items : List ℕ → Constraint
    -- a string or list, of UTF8String its characters, whose length is one of these
    lengths : List (ℕ × Option ℕ) → Constraint
    -- a restricted character string whose codes are in these intervals
    alphabet : List (ℤ × ℤ) → Constraint
    -- named bits: no last zeros above this length
    trimmed : ℕ → Constraint
    -- a canonical value of a time type
    time : TimeKind → Constraint
    -- not this value, which is the DEFAULT
    except : Datum → Constraint
    -- the components of a SEQUENCE, in order
    on_components : OnComponents → Constraint
    -- the elements of a SEQUENCE OF
    on_elements : Constraint → Constraint
    -- the alternatives of a CHOICE, in order
    on_alternatives : OnAlternatives → Constraint
    -- of the components of a SEQUENCE one is there
    some_present : Constraint
    -- an item or an alternative of a newer version, which the type has not
    unknown : Constraint

  pub data OnComponents : Type 0 where
    other_components_free : OnComponents
    on_component : Presence → Constraint → OnComponents → OnComponents

  pub data OnAlternatives : Type 0 where
    other_alternatives_barred other_alternatives_free : OnAlternatives
    on_alternative : Constraint → OnAlternatives → OnAlternatives

-- ---- numbers, lengths and characters

abbrev pub is_among : List (ℤ × ℤ) → ℤ → Bool
is_among [] z = false
is_among (i ∷ is) z = (int_le i.0 z && int_le z i.1) || is_among is z

abbrev pub is_one_of : List ℕ → ℕ → Bool
is_one_of [] p = false
is_one_of (q ∷ qs) p = (q == p) || is_one_of qs p

abbrev pub not_past : Option ℕ → ℕ → Bool
not_past None n = true
not_past (Some high) n = nat_le n high

abbrev pub is_length : List (ℕ × Option ℕ) → ℕ → Bool
is_length [] n = false
is_length (i ∷ is) n = (nat_le i.0 n && not_past i.1 n) || is_length is n

-- the characters of a UTF8String: each begins with an octet that is not 10xxxxxx
abbrev pub starts_character : ℕ → Bool
starts_character o = nat_lt o 128 || nat_le 192 o

abbrev pub scalars : List ℕ → ℕ
scalars [] = 0
scalars (o ∷ os) = elim (starts_character o) [ true ↦ suc (scalars os) | false ↦ scalars os ]

-- how many bits, octets, characters or elements a string or a list has
abbrev pub length_of : Datum → Option ℕ
length_of (bit_list bs) = Some (length bs)
length_of (octet_list os) = Some (length os)
length_of (characters cs) = Some (length cs)
length_of (unicode os) = Some (scalars os)
length_of (elements es) = Some (length (element_list es))
length_of _ = None

abbrev pub has_length : List (ℕ × Option ℕ) → Option ℕ → Bool
has_length is None = false
has_length is (Some n) = is_length is n

abbrev pub are_among : List (ℤ × ℤ) → List ℕ → Bool
are_among is cs = list_all (λ c. is_among is (pos c)) cs

-- the last bit is 1, or there are as few bits as the size lets there be
abbrev pub ends_in_one : List Bool → Bool
ends_in_one [] = false
ends_in_one (b ∷ []) = b
ends_in_one (b ∷ c ∷ bs) = ends_in_one (c ∷ bs)

abbrev pub is_trimmed : ℕ → List Bool → Bool
is_trimmed low bs = nat_le (length bs) low || ends_in_one bs

-- ---- components

abbrev pub may_be_present : Presence → Bool
may_be_present must_not_be = false
may_be_present _ = true

abbrev pub may_be_absent : Presence → Bool
may_be_absent must_be = false
may_be_absent _ = true

-- whether an entry is right, given the test of its value
abbrev pub entry_meets : Presence → (Datum → Bool) → Option Datum → Bool
entry_meets p test None = may_be_absent p
entry_meets p test (Some d) = may_be_present p && test d

abbrev pub one_present : List (Option Datum) → Bool
one_present [] = false
one_present (None ∷ es) = one_present es
one_present (Some d ∷ es) = true

abbrev pub is_unknown : Datum → Bool
is_unknown (unknown_item z) = true
is_unknown (unknown_alternative t) = true
is_unknown _ = false

-- ---- whether a value meets a constraint

abbrev mutual
  pub meets : Constraint → Datum → Bool
  meets free d = true
  meets (both c e) d = meets c d && meets e d
  meets (either c e) d = meets c d || meets e d
  meets (numbers is) (number z) = is_among is z
  meets (items ps) (item p) = is_one_of ps p
  meets (lengths is) d = has_length is (length_of d)
  meets (alphabet is) (characters cs) = are_among is cs
  meets (trimmed low) (bit_list bs) = is_trimmed low bs
  meets (time k) (characters cs) = is_time k cs
  meets (except e) d = not (datum_eq e d)
  meets (on_components cs) (components es) = meet_each cs (component_list es)
  meets (on_elements c) (elements es) = list_all (λ d. meets c d) (element_list es)
  meets (on_alternatives cs) (alternative i d) = meets_at cs i d
  meets some_present (components es) = one_present (component_list es)
  meets unknown d = is_unknown d
  meets _ d = false

  -- there is an entry for each constraint, and it is right; more entries may follow
  pub meet_each : OnComponents → List (Option Datum) → Bool
  meet_each other_components_free es = true
  meet_each (on_component p c cs) [] = false
  meet_each (on_component p c cs) (e ∷ es) = entry_meets p (λ d. meets c d) e && meet_each cs es

  -- the value of the alternative at an index
  pub meets_at : OnAlternatives → ℕ → Datum → Bool
  meets_at other_alternatives_barred i d = false
  meets_at other_alternatives_free i d = true
  meets_at (on_alternative c cs) zero d = meets c d
  meets_at (on_alternative c cs) (suc i) d = meets_at cs i d
