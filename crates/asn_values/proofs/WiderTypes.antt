-- Types of the profile under some limits are such under wider ones.
use Rattle.std.proofs.Common.{◌≡◌, ◌≤◌, ◌+◌, ◌&&◌, ◌||◌, not, ℕ, ℤ, Bool, true, false, length, Option, Some, None, nat_lt, refl, sym, ◌∙◌, ap, arith}
use Rattle.std.proofs.lemmas.Bool.{true≢false}
use Rattle.asn_values.specs.Fits.{at_least, at_most, in_range}
use Rattle.std.specs.Int.RustNames.{int_le, int_lt}
use Rattle.asn_values.specs.Datum.{Datum, truth, nothing, number, item, bit_list, octet_list, characters, unicode, components, elements, alternative, unknown_item, unknown_alternative}
use Rattle.asn_values.specs.Shape.{must, optional, default, more_fields, more_labels, more_alternatives, count, Shape, boolean, null, integer, enumerated, bit_string, octet_string, restricted, utf8_string, sequence, sequence_of, choice, Fields, no_fields, field, MoreFields, closed, marked, Alternatives, no_alternatives, one_of, MoreAlternatives, closed_choice, marked_choice}
use Rattle.std.proofs.lemmas.Bool.{ltb-false, le-ltb}
use Rattle.asn_values.specs.Measures.{nodes}
use Rattle.asn_values.specs.Fits.{Limits, AreWider, lowest_integer}
use Rattle.asn_values.proofs.Defaults.{le_also, le_true, not_below, le_not_below}
use Rattle.asn_values.specs.Profile.{EmptyRange, SizeTooLarge, DuplicateName, BadEnumeration, UselessMark, BadDefault, ZeroWidthElement, AdditionNotOptional, TooMany, TooDeep, InProfileUnder, is_outside_under, low_above_high, empty_range_under, useless_mark_under, lowest_of, highest_of_under, good_default_under, bad_default_at_under, bad_default_under, too_many_here_under, most_items, somewhere, some_field, some_addition, some_alternative, some_more}

-- a test that tells less at each node tells less of the whole
abbrev pub Less : (Shape → Bool) → (Shape → Bool) → Type 0
Less f g = (t : Shape) → f t ≡ false → g t ≡ false

or_parts_false : (a b : Bool) → (a || b) ≡ false → (a ≡ false) × (b ≡ false)
or_parts_false false false e = (refl, refl)
or_parts_false false true e = (refl, e)
or_parts_false true b e = (e, absurd_true e)
  where
    absurd_true : true ≡ false → b ≡ false
    absurd_true h = absurd (true≢false h)

or_false : (a b : Bool) → a ≡ false → b ≡ false → (a || b) ≡ false
or_false false b e f = f
or_false true b e f = e

module _ (f g : Shape → Bool) (less : Less f g) where
  mutual
    pub less_somewhere : (t : Shape) → somewhere f t ≡ false → somewhere g t ≡ false
    less_somewhere boolean h = less boolean h
    less_somewhere null h = less null h
    less_somewhere (integer b) h = less (integer b) h
    less_somewhere (enumerated root more) h = less (enumerated root more) h
    less_somewhere (bit_string s) h = less (bit_string s) h
    less_somewhere (octet_string s) h = less (octet_string s) h
    less_somewhere (restricted k s) h = less (restricted k s) h
    less_somewhere utf8_string h = less utf8_string h
    less_somewhere (sequence root more) h =
        let p = or_parts_false (f (sequence root more)) (some_field f root || some_addition f more) h in
        let q = or_parts_false (some_field f root) (some_addition f more) p.1 in
        or_false (g (sequence root more)) (some_field g root || some_addition g more) (less (sequence root more) p.0)
        (or_false (some_field g root) (some_addition g more) (less_field root q.0) (less_addition more q.1))
    less_somewhere (sequence_of t s) h =
        let p = or_parts_false (f (sequence_of t s)) (somewhere f t) h in
        or_false (g (sequence_of t s)) (somewhere g t) (less (sequence_of t s) p.0) (less_somewhere t p.1)
    less_somewhere (choice root more) h =
        let p = or_parts_false (f (choice root more)) (some_alternative f root || some_more f more) h in
        let q = or_parts_false (some_alternative f root) (some_more f more) p.1 in
        or_false (g (choice root more)) (some_alternative g root || some_more g more) (less (choice root more) p.0)
        (or_false (some_alternative g root) (some_more g more) (less_alternative root q.0) (less_more more q.1))

    less_field : (fs : Fields) → some_field f fs ≡ false → some_field g fs ≡ false
    less_field no_fields h = h
    less_field (field name demand t fs) h =
        let p = or_parts_false (somewhere f t) (some_field f fs) h in
        or_false (somewhere g t) (some_field g fs) (less_somewhere t p.0) (less_field fs p.1)

    less_addition : (more : MoreFields) → some_addition f more ≡ false → some_addition g more ≡ false
    less_addition closed h = h
    less_addition (marked fs) h = less_field fs h

    less_alternative : (alts : Alternatives) → some_alternative f alts ≡ false → some_alternative g alts ≡ false
    less_alternative no_alternatives h = h
    less_alternative (one_of name t alts) h =
        let p = or_parts_false (somewhere f t) (some_alternative f alts) h in
        or_false (somewhere g t) (some_alternative g alts) (less_somewhere t p.0) (less_alternative alts p.1)

    less_more : (more : MoreAlternatives) → some_more f more ≡ false → some_more g more ≡ false
    less_more closed_choice h = h
    less_more (marked_choice alts) h = less_alternative alts h

-- ---- tests

and_less : (e a x y : Bool) → (x ≡ false → y ≡ false) → (e && (a && x)) ≡ false → (e && (a && y)) ≡ false
and_less false a x y f h = refl
and_less true false x y f h = refl
and_less true true x y f h = f h

and_more : (e a x y u v : Bool) → (x ≡ true → u ≡ true) → (y ≡ true → v ≡ true) → (e && (a && (x && y))) ≡ true → (e && (a && (u && v))) ≡ true
and_more false a x y u v f g h = h
and_more true false x y u v f g h = h
and_more true true false y u v f g h = absurd (true≢false (sym h))
and_more true true true y u v f g h = ap (λ b. b && v) (f refl) ∙ g h

not_false : (b : Bool) → not b ≡ true → b ≡ false
not_false false h = refl
not_false true h = absurd (true≢false (sym h))

not_true : (b : Bool) → not b ≡ false → b ≡ true
not_true true h = refl
not_true false h = absurd (true≢false h)

module _ (l m : Limits)
    (over : (z : ℤ) → int_lt l.highest z ≡ false → int_lt m.highest z ≡ false)
    (under : (z : ℤ) → int_lt z l.highest ≡ true → int_lt z m.highest ≡ true)
    (reach : (z : ℤ) → int_le l.highest z ≡ false → int_le m.highest z ≡ false)
    (alternatives : l.alternatives ≤ m.alternatives) (additions : l.item_additions ≤ m.item_additions) (few : l.nodes ≤ m.nodes)
    (levels : (t : Shape) → l.levels_of t ≤ l.levels → m.levels_of t ≤ m.levels) where
  outside_wider : (o : Option ℤ) → is_outside_under l o ≡ false → is_outside_under m o ≡ false
  outside_wider None h = h
  outside_wider (Some z) h =
      let p = or_parts_false (int_lt z lowest_integer) (int_lt l.highest z) h in
      or_false (int_lt z lowest_integer) (int_lt m.highest z) p.0 (over z p.1)

  empty_wider : Less (empty_range_under l) (empty_range_under m)
  empty_wider (integer b) h =
      let p = or_parts_false (low_above_high b.low b.high) (is_outside_under l b.low || is_outside_under l b.high) h in
      let q = or_parts_false (is_outside_under l b.low) (is_outside_under l b.high) p.1 in
      or_false (low_above_high b.low b.high) (is_outside_under m b.low || is_outside_under m b.high) p.0
      (or_false (is_outside_under m b.low) (is_outside_under m b.high) (outside_wider b.low q.0) (outside_wider b.high q.1))
  empty_wider boolean h = h
  empty_wider null h = h
  empty_wider (enumerated root more) h = h
  empty_wider (bit_string s) h = h
  empty_wider (octet_string s) h = h
  empty_wider (restricted k s) h = h
  empty_wider utf8_string h = h
  empty_wider (sequence root more) h = h
  empty_wider (sequence_of t s) h = h
  empty_wider (choice root more) h = h

  most_wider : (o : Option ℤ) → at_most o l.highest ≡ false → at_most o m.highest ≡ false
  most_wider None h = h
  most_wider (Some z) h = below z h
    where
      below : (z : ℤ) → at_most (Some z) l.highest ≡ false → at_most (Some z) m.highest ≡ false
      below z h = reach z h

  useless_wider : Less (useless_mark_under l) (useless_mark_under m)
  useless_wider (integer b) h =
      and_less b.extensible (at_least b.low lowest_integer) (at_most b.high l.highest) (at_most b.high m.highest) (most_wider b.high) h
  useless_wider boolean h = h
  useless_wider null h = h
  useless_wider (enumerated root more) h = h
  useless_wider (bit_string s) h = h
  useless_wider (octet_string s) h = h
  useless_wider (restricted k s) h = h
  useless_wider utf8_string h = h
  useless_wider (sequence root more) h = h
  useless_wider (sequence_of t s) h = h
  useless_wider (choice root more) h = h

  above_wider : (x : ℤ) (o : Option ℤ) → int_lt x (highest_of_under l o) ≡ true → int_lt x (highest_of_under m o) ≡ true
  above_wider x None h = under x h
  above_wider x (Some z) h = h

  good_wider : (t : Shape) (d : Datum) → good_default_under l t d ≡ true → good_default_under m t d ≡ true
  good_wider (integer b) (number z) h =
      and_more (not b.extensible) (in_range b z) (not (is_outside_under l (Some z))) (int_lt (lowest_of b.low) (highest_of_under l b.high))
      (not (is_outside_under m (Some z))) (int_lt (lowest_of b.low) (highest_of_under m b.high))
      (λ n. ap not (outside_wider (Some z) (not_false (is_outside_under l (Some z)) n))) (above_wider (lowest_of b.low) b.high) h
  good_wider (integer b) (truth x) h = h
  good_wider (integer b) nothing h = h
  good_wider (integer b) (item p) h = h
  good_wider (integer b) (bit_list bs) h = h
  good_wider (integer b) (octet_list os) h = h
  good_wider (integer b) (characters cs) h = h
  good_wider (integer b) (unicode os) h = h
  good_wider (integer b) (components es) h = h
  good_wider (integer b) (elements ds) h = h
  good_wider (integer b) (alternative t d) h = h
  good_wider (integer b) (unknown_item z) h = h
  good_wider (integer b) (unknown_alternative t) h = h
  good_wider boolean d h = h
  good_wider null d h = h
  good_wider (enumerated root more) d h = h
  good_wider (bit_string s) d h = h
  good_wider (octet_string s) d h = h
  good_wider (restricted k s) d h = h
  good_wider utf8_string d h = h
  good_wider (sequence root more) d h = h
  good_wider (sequence_of t s) d h = h
  good_wider (choice root more) d h = h

  defaults_wider : (fs : Fields) → bad_default_at_under l fs ≡ false → bad_default_at_under m fs ≡ false
  defaults_wider no_fields h = h
  defaults_wider (field name (default d) t fs) h =
      let p = or_parts_false (not (good_default_under l t d)) (bad_default_at_under l fs) h in
      or_false (not (good_default_under m t d)) (bad_default_at_under m fs)
      (ap not (good_wider t d (not_true (good_default_under l t d) p.0))) (defaults_wider fs p.1)
  defaults_wider (field name must t fs) h = defaults_wider fs h
  defaults_wider (field name optional t fs) h = defaults_wider fs h

  default_wider : Less (bad_default_under l) (bad_default_under m)
  default_wider (sequence root more) h =
      let p = or_parts_false (bad_default_at_under l root) (bad_default_at_under l (more_fields more)) h in
      or_false (bad_default_at_under m root) (bad_default_at_under m (more_fields more)) (defaults_wider root p.0) (defaults_wider (more_fields more) p.1)
  default_wider (integer b) h = h
  default_wider boolean h = h
  default_wider null h = h
  default_wider (enumerated root more) h = h
  default_wider (bit_string s) h = h
  default_wider (octet_string s) h = h
  default_wider (restricted k s) h = h
  default_wider utf8_string h = h
  default_wider (sequence_of t s) h = h
  default_wider (choice root more) h = h

  many_wider : (a b n : ℕ) → a ≤ b → nat_lt a n ≡ false → nat_lt b n ≡ false
  many_wider a b n less h = le-ltb b n (omega (arith, less, ltb-false a n h))

  parts_wider : Less (too_many_here_under l) (too_many_here_under m)
  parts_wider (enumerated root more) h =
      let all = nat_lt most_items (length root + length (more_labels more)) in
      let p = or_parts_false all (nat_lt l.item_additions (length (more_labels more))) h in
      or_false all (nat_lt m.item_additions (length (more_labels more))) p.0
      (many_wider l.item_additions m.item_additions (length (more_labels more)) additions p.1)
  parts_wider (choice root more) h =
      many_wider l.alternatives m.alternatives (count root + count (more_alternatives more)) alternatives h
  parts_wider (integer b) h = h
  parts_wider boolean h = h
  parts_wider null h = h
  parts_wider (bit_string s) h = h
  parts_wider (octet_string s) h = h
  parts_wider (restricted k s) h = h
  parts_wider utf8_string h = h
  parts_wider (sequence root more) h = h
  parts_wider (sequence_of t s) h = h

  profile_wider : (t : Shape) → InProfileUnder l t → InProfileUnder m t
  profile_wider t h EmptyRange = less_somewhere (empty_range_under l) (empty_range_under m) empty_wider t (h EmptyRange)
  profile_wider t h SizeTooLarge = h SizeTooLarge
  profile_wider t h DuplicateName = h DuplicateName
  profile_wider t h BadEnumeration = h BadEnumeration
  profile_wider t h UselessMark = less_somewhere (useless_mark_under l) (useless_mark_under m) useless_wider t (h UselessMark)
  profile_wider t h BadDefault = less_somewhere (bad_default_under l) (bad_default_under m) default_wider t (h BadDefault)
  profile_wider t h ZeroWidthElement = h ZeroWidthElement
  profile_wider t h AdditionNotOptional = h AdditionNotOptional
  profile_wider t h TooMany =
      let p = or_parts_false (somewhere (too_many_here_under l) t) (nat_lt l.nodes (nodes t)) (h TooMany) in
      or_false (somewhere (too_many_here_under m) t) (nat_lt m.nodes (nodes t)) (less_somewhere (too_many_here_under l) (too_many_here_under m) parts_wider t p.0)
      (many_wider l.nodes m.nodes (nodes t) few p.1)
  profile_wider t h TooDeep = le-ltb m.levels (m.levels_of t) (levels t (ltb-false l.levels (l.levels_of t) (h TooDeep)))

-- ---- by the limits

module _ (l m : Limits) (w : AreWider l m) where
  higher : int_le l.highest m.highest ≡ true
  higher = le_true l.highest m.highest w.highest

  over : (z : ℤ) → int_lt l.highest z ≡ false → int_lt m.highest z ≡ false
  over z h = le_not_below m.highest z (le_also z l.highest m.highest (not_below l.highest z h) higher)

  under : (z : ℤ) → int_lt z l.highest ≡ true → int_lt z m.highest ≡ true
  under z h = by_test (int_lt z m.highest) refl
    where
      by_test : (b : Bool) → int_lt z m.highest ≡ b → b ≡ true
      by_test true e = refl
      by_test false e = absurd (true≢false (sym h ∙ le_not_below z l.highest (le_also l.highest m.highest z higher (not_below z m.highest e))))

  reach : (z : ℤ) → int_le l.highest z ≡ false → int_le m.highest z ≡ false
  reach z h = by_test (int_le m.highest z) refl
    where
      by_test : (b : Bool) → int_le m.highest z ≡ b → b ≡ false
      by_test true e = absurd (true≢false (sym (le_also l.highest m.highest z higher e) ∙ h))
      by_test false e = refl

  wider_in_profile : (t : Shape) → InProfileUnder l t → InProfileUnder m t
  wider_in_profile t h = profile_wider l m over under reach w.alternatives w.item_additions w.nodes w.levels t h

pub types_wider : (l m : Limits) → AreWider l m → (t : Shape) → InProfileUnder l t → InProfileUnder m t
types_wider l m w t h = wider_in_profile l m w t h
