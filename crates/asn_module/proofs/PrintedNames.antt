-- Identifiers, items and DEFAULT values as they are printed: they mean the same again, fit the grammar, and have a text.
use Rattle.std.proofs.Common.{◌≡◌, ◌<◌, ◌+◌, ℕ, zero, suc, ℤ, pos, negsuc, Bool, true, false, not, List, [], ◌∷◌, ◌++◌, map, length, Option, Some, None, refl, ap, arith}
use Rattle.std.proofs.lemmas.Bool.Decides.{nat_tests}
use Rattle.std.proofs.lemmas.Bool.{ltb-false, not-false}
use Rattle.std.proofs.lemmas.List.{append-nil, map-append}
use Rattle.std.specs.Prelude.{◌||◌, ◌&&◌, ◌==◌, nat_lt, IfSome, bytes_eq}
use Rattle.std.specs.List.{AllByRecursion, list_all, list_any}
use Rattle.asn_values.specs.Datum as datum
use Rattle.asn_values.specs.Datum.{Datum}
use Rattle.asn_values.specs.Fits.{highest_number}
use Rattle.asn_values.specs.Shape as s
use Rattle.asn_values.specs.Shape.{Shape, Label, MoreLabels, Demand, more_labels}
use Rattle.asn_values.specs.Profile.{is_small_letter, is_letter_or_digit, goes_on, is_identifier, has_twice, bad_names, is_not_32_bits, int_eq, bad_enumeration, duplicate_name, empty_range, too_many_here, good_default, is_outside}
use Rattle.asn_values.specs.Fits.{in_range}
use Rattle.asn_values.specs.Parts.{IsGoodDemand}
use Rattle.asn_values.proofs.Parts.{left_false, right_false}
use Rattle.asn_notation.specs.Token.{identifier}
use Rattle.asn_notation.specs.Tree as t
use Rattle.asn_notation.specs.Tree.{Item}
use Rattle.asn_notation.specs.Grammar as g
use Rattle.asn_notation.specs.Lexing.{is_letter, is_in_word, word_len}
use Rattle.asn_notation.specs.Fitting.{IsItem, IsDefault, IsNeed}
use Rattle.asn_notation.specs.Printed.{IsPrintable}
use Rattle.asn_module.specs.Meaning.{Meant, meant, labels_from, has_numbers, more_labels_meant, item_named, default_value, demand_meant}
use Rattle.asn_module.specs.Printing.{item_printed, items_printed, more_items_printed, label_name, default_printed, need_printed}
use Rattle.asn_module.proofs.PrintedBounds.{AreWords, Means, words_append, is_int, int_words}

-- ---- identifiers

in_word_end : (c : ℕ) → is_letter_or_digit c ≡ true → is_in_word c 0 ≡ true
in_word_end c e = grind (arith, nat_tests)

in_word_more : (c d : ℕ) → (is_letter_or_digit c || (c == 45 && is_letter_or_digit d)) ≡ true → is_in_word c d ≡ true
in_word_more c d e = grind (arith, nat_tests)

both : (a b : Bool) → (a && b) ≡ true → (a ≡ true) × (b ≡ true)
both true b e = (refl, e)
both false b e = absurd cc

whole_word : (s : List ℕ) → goes_on s ≡ true → word_len s ≡ length s
unfolding word_len
whole_word [] e = refl
whole_word (c ∷ []) e = rw (in_word_end c e) refl
whole_word (c ∷ d ∷ cs) e =
    let (first, rest) = both (is_letter_or_digit c || (c == 45 && is_letter_or_digit d)) (goes_on (d ∷ cs)) e in
    rw (in_word_more c d first) (ap suc (whole_word (d ∷ cs) rest))

small_goes_on : (c : ℕ) (cs : List ℕ) → is_small_letter c ≡ true → goes_on cs ≡ true → goes_on (c ∷ cs) ≡ true
small_goes_on c [] small rest = rw small refl
small_goes_on c (d ∷ cs) small rest = rw (small, rest) refl

small_is_letter : (c : ℕ) → is_small_letter c ≡ true → is_letter c ≡ true
small_is_letter c e = rw e refl

pub identifier_words : (s : List ℕ) → is_identifier s ≡ true → IsPrintable (identifier s)
identifier_words [] e = absurd cc
identifier_words (c ∷ cs) e =
    let (small, rest) = both (is_small_letter c) (goes_on cs) e in
    (record { whole = whole_word (c ∷ cs) (small_goes_on c cs small rest); letter = small_is_letter c small }, small)

-- ---- items

pub item_is_int : (z : ℤ) → is_not_32_bits z ≡ false → is_outside (Some z) ≡ false
item_is_int (pos n) e = wider n e
  where
    wider : (n : ℕ) → nat_lt 2147483647 n ≡ false → nat_lt highest_number n ≡ false
    wider n e = grind (arith, nat_tests)
item_is_int (negsuc n) e = rw (wider n (left_false (nat_lt 2147483647 n) false e)) refl
  where
    wider : (n : ℕ) → nat_lt 2147483647 n ≡ false → nat_lt 9223372036854775807 n ≡ false
    wider n e = grind (arith, nat_tests)

labels_again : (index : ℕ) (ls : List Label) → list_any is_not_32_bits (map (λ l. l.number) ls) ≡ false → labels_from true index (items_printed ls) ≡ ls
labels_again index [] e = refl
labels_again index (l ∷ ls) e =
    rw (left_false (is_not_32_bits l.number) (list_any is_not_32_bits (map (λ l. l.number) ls)) e, labels_again (suc index) ls (right_false (is_not_32_bits l.number) (list_any is_not_32_bits (map (λ l. l.number) ls)) e)) refl

items_fit : (ls : List Label) → list_any is_not_32_bits (map (λ l. l.number) ls) ≡ false → AllByRecursion IsItem (items_printed ls)
items_fit [] e = tt
items_fit (l ∷ ls) e =
    (is_int l.number (item_is_int l.number (left_false (is_not_32_bits l.number) (list_any is_not_32_bits (map (λ l. l.number) ls)) e)), items_fit ls (right_false (is_not_32_bits l.number) (list_any is_not_32_bits (map (λ l. l.number) ls)) e))

item_words : (l : Label) → is_identifier l.name ≡ true → is_not_32_bits l.number ≡ false → AreWords (g.item (item_printed l))
item_words l name number =
    (identifier_words l.name name, (tt, words_append (g.int l.number) (g.right ∷ []) (int_words l.number (is_int l.number (item_is_int l.number number))) (tt, tt)))

after_commas : (ls : List Label) → list_all is_identifier (map (λ l. l.name) ls) ≡ true → list_any is_not_32_bits (map (λ l. l.number) ls) ≡ false → AreWords (g.each_after_comma g.item (items_printed ls))
after_commas [] n e = tt
after_commas (l ∷ ls) n e =
    let (name, names) = both (is_identifier l.name) (list_all is_identifier (map (λ l. l.name) ls)) n in
    let number = left_false (is_not_32_bits l.number) (list_any is_not_32_bits (map (λ l. l.number) ls)) e in
    let numbers = right_false (is_not_32_bits l.number) (list_any is_not_32_bits (map (λ l. l.number) ls)) e in
    (tt, words_append (g.item (item_printed l)) (g.each_after_comma g.item (items_printed ls)) (item_words l name number) (after_commas ls names numbers))

with_commas : (ls : List Label) → list_all is_identifier (map (λ l. l.name) ls) ≡ true → list_any is_not_32_bits (map (λ l. l.number) ls) ≡ false → AreWords (g.with_commas g.item (items_printed ls))
with_commas [] n e = tt
with_commas (l ∷ ls) n e = (after_commas (l ∷ ls) n e).1

-- ---- lists in two parts

split_all : {X : Type 0} (p : X → Bool) (xs ys : List X) → list_all p (xs ++ ys) ≡ true → (list_all p xs ≡ true) × (list_all p ys ≡ true)
split_all p [] ys e = (refl, e)
split_all p (x ∷ xs) ys e =
    let (first, rest) = both (p x) (list_all p (xs ++ ys)) e in
    let (left, right) = split_all p xs ys rest in
    (rw (first, left) refl, right)

split_any : {X : Type 0} (p : X → Bool) (xs ys : List X) → list_any p (xs ++ ys) ≡ false → (list_any p xs ≡ false) × (list_any p ys ≡ false)
split_any p [] ys e = (refl, e)
split_any p (x ∷ xs) ys e =
    let first = left_false (p x) (list_any p (xs ++ ys)) e in
    let (left, right) = split_any p xs ys (right_false (p x) (list_any p (xs ++ ys)) e) in
    (rw (first, left) refl, right)

-- the names of both parts are identifiers
pub are_identifiers : (xs ys : List (List ℕ)) → bad_names (xs ++ ys) ≡ false → (list_all is_identifier xs ≡ true) × (list_all is_identifier ys ≡ true)
are_identifiers xs ys e = split_all is_identifier xs ys (not-false (list_all is_identifier (xs ++ ys)) (right_false (has_twice bytes_eq (xs ++ ys)) (not (list_all is_identifier (xs ++ ys))) e))

pub first_name : (name : List ℕ) (names : List (List ℕ)) → list_all is_identifier (name ∷ names) ≡ true → (is_identifier name ≡ true) × (list_all is_identifier names ≡ true)
first_name name names e = both (is_identifier name) (list_all is_identifier names) e

-- ---- ENUMERATED

has_some : (root : List Label) (more : Option (List Item)) → (length root == 0) ≡ false → has_numbers (items_printed root) more ≡ true
has_some [] more e = absurd cc
has_some (l ∷ root) None e = refl
has_some (l ∷ root) (Some more) e = refl

some_items : (root : List Label) → (length root == 0) ≡ false → 0 < length (items_printed root)
some_items [] e = absurd cc
some_items (l ∷ root) e = omega arith

more_again : (index : ℕ) (more : MoreLabels) → list_any is_not_32_bits (map (λ l. l.number) (more_labels more)) ≡ false → more_labels_meant true index (more_items_printed more) ≡ more
more_again index s.closed_labels e = refl
more_again index (s.marked_labels ls) e = ap s.marked_labels (labels_again index ls e)

more_fit : (more : MoreLabels) → list_any is_not_32_bits (map (λ l. l.number) (more_labels more)) ≡ false → IfSome (more_items_printed more) (AllByRecursion IsItem)
more_fit s.closed_labels e = tt
more_fit (s.marked_labels ls) e = items_fit ls e

more_words : (more : MoreLabels) → list_all is_identifier (map (λ l. l.name) (more_labels more)) ≡ true → list_any is_not_32_bits (map (λ l. l.number) (more_labels more)) ≡ false → AreWords (g.additions g.item (more_items_printed more))
more_words s.closed_labels n e = tt
more_words (s.marked_labels ls) n e = (tt, (tt, after_commas ls n e))

module _ (root : List Label) (more : MoreLabels) (some : empty_range (s.enumerated root more) ≡ false) (names : duplicate_name (s.enumerated root more) ≡ false) (numbers : bad_enumeration (s.enumerated root more) ≡ false) where
  abbrev all_numbers : List ℤ → List ℤ → Type 0
  all_numbers xs ys = (list_any is_not_32_bits xs ≡ false) × (list_any is_not_32_bits ys ≡ false)

  their_numbers : all_numbers (map (λ l. l.number) root) (map (λ l. l.number) (more_labels more))
  their_numbers =
      let xs = map (λ l. l.number) root in
      let ys = map (λ l. l.number) (more_labels more) in
      split_any is_not_32_bits xs ys (left_false (list_any is_not_32_bits (xs ++ ys)) _ (right_false (has_twice int_eq (xs ++ ys)) _ numbers))

  their_names : (list_all is_identifier (map (λ l. l.name) root) ≡ true) × (list_all is_identifier (map (λ l. l.name) (more_labels more)) ≡ true)
  their_names = are_identifiers (map (λ l. l.name) root) (map (λ l. l.name) (more_labels more)) (rw (map-append (λ l. l.name) root (more_labels more)) at names)

  pub enumerated_means : (look : List ℕ → Option Meant) → Means look (t.enumerated (items_printed root) (more_items_printed more)) (s.enumerated root more)
  unfolding meant
  enumerated_means look = record {
    constraint = None;
    is = rw (has_some root (more_items_printed more) some, labels_again 0 root their_numbers.0, more_again (length (items_printed root)) more their_numbers.1) refl;
  }

  pub enumerated_fits : (0 < length (items_printed root)) × AllByRecursion IsItem (items_printed root) × IfSome (more_items_printed more) (AllByRecursion IsItem)
  enumerated_fits = (some_items root some, items_fit root their_numbers.0, more_fit more their_numbers.1)

  pub enumerated_words : AreWords (g.with_commas g.item (items_printed root) ++ g.additions g.item (more_items_printed more))
  enumerated_words = words_append (g.with_commas g.item (items_printed root)) (g.additions g.item (more_items_printed more)) (with_commas root their_names.0 their_numbers.0) (more_words more their_names.1 their_numbers.1)

-- ---- DEFAULT

-- what is printed of a DEFAULT value
pub record DefaultAgain (shape : Shape) (d : Datum) : Type 0 where
  pub means : default_value shape (default_printed shape d) ≡ d
  pub fits : IsDefault (default_printed shape d)
  pub words : AreWords (g.default (default_printed shape d))

same_number : (n : ℕ) → (n == n) ≡ true
same_number n = grind (arith, nat_tests)

bytes_same : (xs : List ℕ) → bytes_eq xs xs ≡ true
bytes_same [] = refl
bytes_same (x ∷ xs) = rw (same_number x, bytes_same xs) refl

none_there : (q : List ℕ → Bool) (p : ℕ) (ls : List Label) → p < length ls → list_any q (map (λ l. l.name) ls) ≡ false → q (label_name ls p) ≡ false
none_there q p [] less e = absurd (omega arith)
none_there q zero (l ∷ ls) less e = left_false (q l.name) (list_any q (map (λ l. l.name) ls)) e
none_there q (suc p) (l ∷ ls) less e = none_there q p ls (omega arith) (right_false (q l.name) (list_any q (map (λ l. l.name) ls)) e)

all_there : (q : List ℕ → Bool) (p : ℕ) (ls : List Label) → p < length ls → list_all q (map (λ l. l.name) ls) ≡ true → q (label_name ls p) ≡ true
all_there q p [] less e = absurd (omega arith)
all_there q zero (l ∷ ls) less e = (both (q l.name) (list_all q (map (λ l. l.name) ls)) e).0
all_there q (suc p) (l ∷ ls) less e = all_there q p ls (omega arith) (both (q l.name) (list_all q (map (λ l. l.name) ls)) e).1

item_found : (p i k : ℕ) (ls : List Label) → has_twice bytes_eq (map (λ l. l.name) ls) ≡ false → p < length ls → i + p ≡ k → k < 256 → item_named (label_name ls p) i ls ≡ datum.item k
item_found p i k [] twice less e few = absurd (omega arith)
item_found zero i k (l ∷ ls) twice less e few = rw (bytes_same l.name, small i (omega arith)) (ap datum.item (omega arith))
  where
    small : (i : ℕ) → i < 256 → nat_lt i 4294967296 ≡ true
    small i h = grind (arith, nat_tests)
item_found (suc p) i k (l ∷ ls) twice less e few =
    let other = none_there (bytes_eq l.name) p ls (omega arith) (left_false (list_any (bytes_eq l.name) (map (λ l. l.name) ls)) (has_twice bytes_eq (map (λ l. l.name) ls)) twice) in
    rw other (item_found p (suc i) k ls (right_false (list_any (bytes_eq l.name) (map (λ l. l.name) ls)) (has_twice bytes_eq (map (λ l. l.name) ls)) twice) (omega arith) (omega arith) few)

number_inside : (shape : Shape) (z : ℤ) → good_default shape (datum.number z) ≡ true → is_outside (Some z) ≡ false
number_inside (s.integer b) z e = by_parts (not b.extensible) (in_range b z) (is_outside (Some z)) _ e
  where
    by_parts : (a b c d : Bool) → (a && (b && (not c && d))) ≡ true → c ≡ false
    by_parts true true false d e = refl
    by_parts true true true d e = absurd cc
    by_parts true false c d e = absurd cc
    by_parts false b c d e = absurd cc
number_inside s.boolean z e = absurd cc
number_inside s.null z e = absurd cc
number_inside (s.enumerated root s.closed_labels) z e = absurd cc
number_inside (s.enumerated root (s.marked_labels more)) z e = absurd cc
number_inside (s.bit_string b) z e = absurd cc
number_inside (s.octet_string b) z e = absurd cc
number_inside (s.restricted k b) z e = absurd cc
number_inside s.utf8_string z e = absurd cc
number_inside (s.sequence root more) z e = absurd cc
number_inside (s.sequence_of t b) z e = absurd cc
number_inside (s.choice root more) z e = absurd cc

below : (p n : ℕ) → nat_lt p n ≡ true → p < n
below p n e = grind (arith, nat_tests)

item_again : (root : List Label) (p : ℕ) → duplicate_name (s.enumerated root s.closed_labels) ≡ false → too_many_here (s.enumerated root s.closed_labels) ≡ false
    → good_default (s.enumerated root s.closed_labels) (datum.item p) ≡ true → DefaultAgain (s.enumerated root s.closed_labels) (datum.item p)
item_again root p names many e =
    let less = below p (length root) (both (nat_lt p (length root)) (nat_lt 1 (length root)) e).0 in
    let bad : bad_names (map (λ l. l.name) root) ≡ false = rw (append-nil root) at names in
    let twice = left_false (has_twice bytes_eq (map (λ l. l.name) root)) _ bad in
    let words = not-false (list_all is_identifier (map (λ l. l.name) root)) (right_false (has_twice bytes_eq (map (λ l. l.name) root)) _ bad) in
    let few = ltb-false 256 (length root + 0) (left_false (nat_lt 256 (length root + 0)) _ many) in
    record {
      means = item_found p 0 p root twice less (omega arith) (omega (arith, few));
      fits = tt;
      words = (identifier_words (label_name root p) (all_there is_identifier p root less words), tt);
    }

pub default_again : (shape : Shape) (d : Datum) → duplicate_name shape ≡ false → too_many_here shape ≡ false → good_default shape d ≡ true → DefaultAgain shape d
default_again shape (datum.truth true) n m e = record { means = refl; fits = tt; words = (tt, tt) }
default_again shape (datum.truth false) n m e = record { means = refl; fits = tt; words = (tt, tt) }
default_again shape (datum.number z) n m e = record { means = refl; fits = is_int z (number_inside shape z e); words = int_words z (is_int z (number_inside shape z e)) }
default_again (s.enumerated root s.closed_labels) (datum.item p) n m e = item_again root p n m e
default_again (s.enumerated root s.closed_labels) d n m e = absurd cc
default_again (s.enumerated root (s.marked_labels more)) d n m e = absurd cc
default_again s.boolean d n m e = absurd cc
default_again s.null d n m e = absurd cc
default_again (s.integer b) d n m e = absurd cc
default_again (s.bit_string b) d n m e = absurd cc
default_again (s.octet_string b) d n m e = absurd cc
default_again (s.restricted k b) d n m e = absurd cc
default_again s.utf8_string d n m e = absurd cc
default_again (s.sequence root more) d n m e = absurd cc
default_again (s.sequence_of t b) d n m e = absurd cc
default_again (s.choice root more) d n m e = absurd cc

-- what is printed after the type of a component
pub record NeedAgain (shape : Shape) (demand : Demand) : Type 0 where
  pub means : demand_meant shape (need_printed shape demand) ≡ demand
  pub fits : IsNeed (need_printed shape demand)
  pub words : AreWords (g.need (need_printed shape demand))

pub need_again : (shape : Shape) (demand : Demand) → duplicate_name shape ≡ false → too_many_here shape ≡ false → IsGoodDemand demand shape → NeedAgain shape demand
need_again shape s.must n m e = record { means = refl; fits = tt; words = tt }
need_again shape s.optional n m e = record { means = refl; fits = tt; words = (tt, tt) }
need_again shape (s.default d) n m e =
    let h = default_again shape d n m e in
    record { means = ap s.default h.means; fits = h.fits; words = (tt, h.words) }
