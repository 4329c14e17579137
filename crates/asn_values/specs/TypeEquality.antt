-- When two types are equal, as a test.
use Rattle.std.specs.Prelude.{◌≡◌, ◌==◌, ◌&&◌, ℕ, ℤ, Bool, true, false, List, Option, Some, None, Decides, bytes_eq}
use Rattle.std.proofs.Common.{refl, ap, sym, ◌∙◌, subst}
use mathlib.Core.Bool.{true≢false, beq}
use Rattle.std.specs.Cmp.{booleans_Decides, unsigned_Decides, signed_Decides, first_so, second_so, decided, partial_equiv_from_equiv, IsPartialEquivalence}
use Rattle.std.specs.Cmp.Lexicographic.{pointwise, pointwise_decides}
use Rattle.std.specs.Ordering.{int_eq}
use Rattle.asn_values.specs.Equality.{datum_eq, datum_eq-Decides}
use Rattle.asn_values.specs.Shape.{Range, SizeRange, Alphabet, ia5, numeric, visible, Label, MoreLabels, closed_labels, marked_labels, Demand, must, optional, default, Shape, boolean, null, integer, enumerated, bit_string, octet_string, restricted, utf8_string, sequence, sequence_of, choice, Fields, no_fields, field, MoreFields, closed, marked, Alternatives, no_alternatives, one_of, MoreAlternatives, closed_choice, marked_choice}

-- ---- what the kinds of type are made of

abbrev bound_eq : Option ℤ → Option ℤ → Bool
bound_eq None None = true
bound_eq (Some a) (Some b) = int_eq a b
bound_eq _ _ = false

abbrev most_eq : Option ℕ → Option ℕ → Bool
most_eq None None = true
most_eq (Some a) (Some b) = a == b
most_eq _ _ = false

abbrev range_eq : Range → Range → Bool
range_eq a b = bound_eq a.low b.low && (bound_eq a.high b.high && beq a.extensible b.extensible)

abbrev size_eq : SizeRange → SizeRange → Bool
size_eq a b = (a.low == b.low) && (most_eq a.high b.high && beq a.extensible b.extensible)

abbrev alphabet_eq : Alphabet → Alphabet → Bool
alphabet_eq ia5 ia5 = true
alphabet_eq numeric numeric = true
alphabet_eq visible visible = true
alphabet_eq _ _ = false

abbrev label_eq : Label → Label → Bool
label_eq a b = bytes_eq a.name b.name && int_eq a.number b.number

abbrev more_labels_eq : MoreLabels → MoreLabels → Bool
more_labels_eq closed_labels closed_labels = true
more_labels_eq (marked_labels a) (marked_labels b) = pointwise label_eq a b
more_labels_eq _ _ = false

abbrev demand_eq : Demand → Demand → Bool
demand_eq must must = true
demand_eq optional optional = true
demand_eq (default d) (default e) = datum_eq d e
demand_eq _ _ = false

-- ---- types

abbrev mutual
  pub shape_eq : Shape → Shape → Bool
  shape_eq boolean boolean = true
  shape_eq null null = true
  shape_eq (integer a) (integer b) = range_eq a b
  shape_eq (enumerated a m) (enumerated b n) = pointwise label_eq a b && more_labels_eq m n
  shape_eq (bit_string a) (bit_string b) = size_eq a b
  shape_eq (octet_string a) (octet_string b) = size_eq a b
  shape_eq (restricted k a) (restricted l b) = alphabet_eq k l && size_eq a b
  shape_eq utf8_string utf8_string = true
  shape_eq (sequence a m) (sequence b n) = fields_eq a b && more_fields_eq m n
  shape_eq (sequence_of t a) (sequence_of u b) = shape_eq t u && size_eq a b
  shape_eq (choice a m) (choice b n) = alternatives_eq a b && more_alternatives_eq m n
  shape_eq _ _ = false

  pub fields_eq : Fields → Fields → Bool
  fields_eq no_fields no_fields = true
  fields_eq (field n d t a) (field m e u b) = bytes_eq n m && (demand_eq d e && (shape_eq t u && fields_eq a b))
  fields_eq _ _ = false

  pub more_fields_eq : MoreFields → MoreFields → Bool
  more_fields_eq closed closed = true
  more_fields_eq (marked a) (marked b) = fields_eq a b
  more_fields_eq _ _ = false

  pub alternatives_eq : Alternatives → Alternatives → Bool
  alternatives_eq no_alternatives no_alternatives = true
  alternatives_eq (one_of n t a) (one_of m u b) = bytes_eq n m && (shape_eq t u && alternatives_eq a b)
  alternatives_eq _ _ = false

  pub more_alternatives_eq : MoreAlternatives → MoreAlternatives → Bool
  more_alternatives_eq closed_choice closed_choice = true
  more_alternatives_eq (marked_choice a) (marked_choice b) = alternatives_eq a b
  more_alternatives_eq _ _ = false

-- ---- each test is true exactly where the two are equal

-- a test that holds of equals, and of nothing else
from : {X : Type 0} (eq : X → X → Bool) → ((x y : X) → eq x y ≡ true → x ≡ y) → ((x : X) → eq x x ≡ true) → (x y : X)
    → Decides (eq x y) (x ≡ y)
from eq alike itself x y = (alike x y, λ e. subst (λ z. eq x z ≡ true) e (itself x))

both : (a b : Bool) → a ≡ true → b ≡ true → (a && b) ≡ true
both a b h k = rw (h, k) refl

abbrev make_range : Option ℤ → Option ℤ → Bool → Range
make_range x y z = record { low = x; high = y; extensible = z }

range_from : (a b : Range) → a.low ≡ b.low → a.high ≡ b.high → a.extensible ≡ b.extensible → a ≡ b
range_from a b h0 h1 h2 =
    ap (λ z. make_range z a.high a.extensible) h0 ∙ ap (λ z. make_range b.low z a.extensible) h1
    ∙ ap (λ z. make_range b.low b.high z) h2

abbrev make_size : ℕ → Option ℕ → Bool → SizeRange
make_size x y z = record { low = x; high = y; extensible = z }

size_from : (a b : SizeRange) → a.low ≡ b.low → a.high ≡ b.high → a.extensible ≡ b.extensible → a ≡ b
size_from a b h0 h1 h2 =
    ap (λ z. make_size z a.high a.extensible) h0 ∙ ap (λ z. make_size b.low z a.extensible) h1
    ∙ ap (λ z. make_size b.low b.high z) h2

abbrev make_label : List ℕ → ℤ → Label
make_label x y = record { name = x; number = y }

label_from : (a b : Label) → a.name ≡ b.name → a.number ≡ b.number → a ≡ b
label_from a b h0 h1 = ap (λ z. make_label z a.number) h0 ∙ ap (λ z. make_label b.name z) h1

bound_alike : (x y : Option ℤ) → bound_eq x y ≡ true → x ≡ y
bound_alike None None h = refl
bound_alike (Some a) (Some b) h = ap Some ((signed_Decides a b).0 h)
bound_alike _ _ h = absurd (true≢false (sym h))

bound_itself : (x : Option ℤ) → bound_eq x x ≡ true
bound_itself None = refl
bound_itself (Some a) = (signed_Decides a a).1 refl

most_alike : (x y : Option ℕ) → most_eq x y ≡ true → x ≡ y
most_alike None None h = refl
most_alike (Some a) (Some b) h = ap Some ((unsigned_Decides a b).0 h)
most_alike _ _ h = absurd (true≢false (sym h))

most_itself : (x : Option ℕ) → most_eq x x ≡ true
most_itself None = refl
most_itself (Some a) = (unsigned_Decides a a).1 refl

range_alike : (x y : Range) → range_eq x y ≡ true → x ≡ y
range_alike x y h =
    let low : x.low ≡ y.low = bound_alike x.low y.low (first_so (bound_eq x.low y.low) _ h) in
    let rest = second_so (bound_eq x.low y.low) _ h in
    let high : x.high ≡ y.high = bound_alike x.high y.high (first_so (bound_eq x.high y.high) _ rest) in
    let mark : x.extensible ≡ y.extensible =
    (booleans_Decides x.extensible y.extensible).0 (second_so (bound_eq x.high y.high) _ rest) in
    range_from x y low high mark

range_itself : (x : Range) → range_eq x x ≡ true
range_itself x = both _ _ (bound_itself x.low)
    (both _ _ (bound_itself x.high) ((booleans_Decides x.extensible x.extensible).1 refl))

size_alike : (x y : SizeRange) → size_eq x y ≡ true → x ≡ y
size_alike x y h =
    let low : x.low ≡ y.low = (unsigned_Decides x.low y.low).0 (first_so (x.low == y.low) _ h) in
    let rest = second_so (x.low == y.low) _ h in
    let high : x.high ≡ y.high = most_alike x.high y.high (first_so (most_eq x.high y.high) _ rest) in
    let mark : x.extensible ≡ y.extensible =
    (booleans_Decides x.extensible y.extensible).0 (second_so (most_eq x.high y.high) _ rest) in
    size_from x y low high mark

size_itself : (x : SizeRange) → size_eq x x ≡ true
size_itself x = both _ _ ((unsigned_Decides x.low x.low).1 refl)
    (both _ _ (most_itself x.high) ((booleans_Decides x.extensible x.extensible).1 refl))

alphabet_alike : (x y : Alphabet) → alphabet_eq x y ≡ true → x ≡ y
alphabet_alike ia5 ia5 h = refl
alphabet_alike numeric numeric h = refl
alphabet_alike visible visible h = refl
alphabet_alike _ _ h = absurd (true≢false (sym h))

alphabet_itself : (x : Alphabet) → alphabet_eq x x ≡ true
alphabet_itself ia5 = refl
alphabet_itself numeric = refl
alphabet_itself visible = refl

octets_alike : (x y : List ℕ) → bytes_eq x y ≡ true → x ≡ y
octets_alike x y = (pointwise_decides unsigned_Decides x y).0

octets_itself : (x : List ℕ) → bytes_eq x x ≡ true
octets_itself x = (pointwise_decides unsigned_Decides x x).1 refl

label_alike : (x y : Label) → label_eq x y ≡ true → x ≡ y
label_alike x y h =
    let name : x.name ≡ y.name = octets_alike x.name y.name (first_so (bytes_eq x.name y.name) _ h) in
    let number : x.number ≡ y.number = (signed_Decides x.number y.number).0 (second_so (bytes_eq x.name y.name) _ h) in
    label_from x y name number

label_itself : (x : Label) → label_eq x x ≡ true
label_itself x = both _ _ (octets_itself x.name) ((signed_Decides x.number x.number).1 refl)

labels_decide : (x y : List Label) → Decides (pointwise label_eq x y) (x ≡ y)
labels_decide = pointwise_decides (from label_eq label_alike label_itself)

more_labels_alike : (x y : MoreLabels) → more_labels_eq x y ≡ true → x ≡ y
more_labels_alike closed_labels closed_labels h = refl
more_labels_alike (marked_labels a) (marked_labels b) h = ap marked_labels ((labels_decide a b).0 h)
more_labels_alike _ _ h = absurd (true≢false (sym h))

more_labels_itself : (x : MoreLabels) → more_labels_eq x x ≡ true
more_labels_itself closed_labels = refl
more_labels_itself (marked_labels a) = (labels_decide a a).1 refl

demand_alike : (x y : Demand) → demand_eq x y ≡ true → x ≡ y
demand_alike must must h = refl
demand_alike optional optional h = refl
demand_alike (default d) (default e) h = ap default ((datum_eq-Decides d e).0 h)
demand_alike _ _ h = absurd (true≢false (sym h))

demand_itself : (x : Demand) → demand_eq x x ≡ true
demand_itself must = refl
demand_itself optional = refl
demand_itself (default d) = (datum_eq-Decides d d).1 refl

mutual
  shape_alike : (x y : Shape) → shape_eq x y ≡ true → x ≡ y
  shape_alike boolean boolean h = refl
  shape_alike null null h = refl
  shape_alike (integer a) (integer b) h = ap integer (range_alike a b h)
  shape_alike (enumerated a m) (enumerated b n) h =
      let root : a ≡ b = (labels_decide a b).0 (first_so (pointwise label_eq a b) _ h) in
      let more : m ≡ n = more_labels_alike m n (second_so (pointwise label_eq a b) _ h) in
      cc
  shape_alike (bit_string a) (bit_string b) h = ap bit_string (size_alike a b h)
  shape_alike (octet_string a) (octet_string b) h = ap octet_string (size_alike a b h)
  shape_alike (restricted k a) (restricted l b) h =
      let kind : k ≡ l = alphabet_alike k l (first_so (alphabet_eq k l) _ h) in
      let size : a ≡ b = size_alike a b (second_so (alphabet_eq k l) _ h) in
      cc
  shape_alike utf8_string utf8_string h = refl
  shape_alike (sequence a m) (sequence b n) h =
      let root : a ≡ b = fields_alike a b (first_so (fields_eq a b) _ h) in
      let more : m ≡ n = more_fields_alike m n (second_so (fields_eq a b) _ h) in
      cc
  shape_alike (sequence_of t a) (sequence_of u b) h =
      let element : t ≡ u = shape_alike t u (first_so (shape_eq t u) _ h) in
      let size : a ≡ b = size_alike a b (second_so (shape_eq t u) _ h) in
      cc
  shape_alike (choice a m) (choice b n) h =
      let root : a ≡ b = alternatives_alike a b (first_so (alternatives_eq a b) _ h) in
      let more : m ≡ n = more_alternatives_alike m n (second_so (alternatives_eq a b) _ h) in
      cc
  shape_alike _ _ h = absurd (true≢false (sym h))

  fields_alike : (x y : Fields) → fields_eq x y ≡ true → x ≡ y
  fields_alike no_fields no_fields h = refl
  fields_alike (field n d t a) (field m e u b) h =
      let name : n ≡ m = octets_alike n m (first_so (bytes_eq n m) _ h) in
      let kept = second_so (bytes_eq n m) _ h in
      let demand : d ≡ e = demand_alike d e (first_so (demand_eq d e) _ kept) in
      let rest = second_so (demand_eq d e) _ kept in
      let type : t ≡ u = shape_alike t u (first_so (shape_eq t u) _ rest) in
      let others : a ≡ b = fields_alike a b (second_so (shape_eq t u) _ rest) in
      cc
  fields_alike _ _ h = absurd (true≢false (sym h))

  more_fields_alike : (x y : MoreFields) → more_fields_eq x y ≡ true → x ≡ y
  more_fields_alike closed closed h = refl
  more_fields_alike (marked a) (marked b) h = ap marked (fields_alike a b h)
  more_fields_alike _ _ h = absurd (true≢false (sym h))

  alternatives_alike : (x y : Alternatives) → alternatives_eq x y ≡ true → x ≡ y
  alternatives_alike no_alternatives no_alternatives h = refl
  alternatives_alike (one_of n t a) (one_of m u b) h =
      let name : n ≡ m = octets_alike n m (first_so (bytes_eq n m) _ h) in
      let rest = second_so (bytes_eq n m) _ h in
      let type : t ≡ u = shape_alike t u (first_so (shape_eq t u) _ rest) in
      let others : a ≡ b = alternatives_alike a b (second_so (shape_eq t u) _ rest) in
      cc
  alternatives_alike _ _ h = absurd (true≢false (sym h))

  more_alternatives_alike : (x y : MoreAlternatives) → more_alternatives_eq x y ≡ true → x ≡ y
  more_alternatives_alike closed_choice closed_choice h = refl
  more_alternatives_alike (marked_choice a) (marked_choice b) h = ap marked_choice (alternatives_alike a b h)
  more_alternatives_alike _ _ h = absurd (true≢false (sym h))

mutual
  shape_itself : (x : Shape) → shape_eq x x ≡ true
  shape_itself boolean = refl
  shape_itself null = refl
  shape_itself (integer a) = range_itself a
  shape_itself (enumerated a m) = both _ _ ((labels_decide a a).1 refl) (more_labels_itself m)
  shape_itself (bit_string a) = size_itself a
  shape_itself (octet_string a) = size_itself a
  shape_itself (restricted k a) = both _ _ (alphabet_itself k) (size_itself a)
  shape_itself utf8_string = refl
  shape_itself (sequence a m) = both _ _ (fields_itself a) (more_fields_itself m)
  shape_itself (sequence_of t a) = both _ _ (shape_itself t) (size_itself a)
  shape_itself (choice a m) = both _ _ (alternatives_itself a) (more_alternatives_itself m)

  fields_itself : (x : Fields) → fields_eq x x ≡ true
  fields_itself no_fields = refl
  fields_itself (field n d t a) =
      both _ _ (octets_itself n) (both _ _ (demand_itself d) (both _ _ (shape_itself t) (fields_itself a)))

  more_fields_itself : (x : MoreFields) → more_fields_eq x x ≡ true
  more_fields_itself closed = refl
  more_fields_itself (marked a) = fields_itself a

  alternatives_itself : (x : Alternatives) → alternatives_eq x x ≡ true
  alternatives_itself no_alternatives = refl
  alternatives_itself (one_of n t a) = both _ _ (octets_itself n) (both _ _ (shape_itself t) (alternatives_itself a))

  more_alternatives_itself : (x : MoreAlternatives) → more_alternatives_eq x x ≡ true
  more_alternatives_itself closed_choice = refl
  more_alternatives_itself (marked_choice a) = alternatives_itself a

pub shape_eq-Decides : (x y : Shape) → Decides (shape_eq x y) (x ≡ y)
shape_eq-Decides = from shape_eq shape_alike shape_itself

-- so it is an equivalence
pub shape_eq_per : IsPartialEquivalence shape_eq
shape_eq_per = partial_equiv_from_equiv (decided shape_eq shape_eq-Decides)
