-- When two data are equal, as a test.
use Rattle.std.specs.Prelude.{◌≡◌, ◌==◌, ◌&&◌, Bool, true, false, Decides, bytes_eq}
use Rattle.std.proofs.Common.{refl, ap, sym, subst}
use mathlib.Core.Bool.{true≢false, beq}
use Rattle.std.specs.Cmp.{booleans_Decides, unsigned_Decides, signed_Decides, first_so, second_so, decided, partial_equiv_from_equiv, IsPartialEquivalence}
use Rattle.std.specs.Cmp.Lexicographic.{pointwise, pointwise_decides}
use Rattle.std.specs.Ordering.{int_eq}
use Rattle.asn_values.specs.Datum.{Datum, Components, Elements, truth, nothing, number, item, bit_list, octet_list, characters, unicode, components, elements, alternative, unknown_item, unknown_alternative, no_components, absent, present, no_elements, element}

abbrev mutual
  pub datum_eq : Datum → Datum → Bool
  datum_eq (truth a) (truth b) = beq a b
  datum_eq nothing nothing = true
  datum_eq (number a) (number b) = int_eq a b
  datum_eq (item a) (item b) = a == b
  datum_eq (bit_list a) (bit_list b) = pointwise beq a b
  datum_eq (octet_list a) (octet_list b) = bytes_eq a b
  datum_eq (characters a) (characters b) = bytes_eq a b
  datum_eq (unicode a) (unicode b) = bytes_eq a b
  datum_eq (components a) (components b) = components_eq a b
  datum_eq (elements a) (elements b) = elements_eq a b
  datum_eq (alternative m a) (alternative n b) = (m == n) && datum_eq a b
  datum_eq (unknown_item a) (unknown_item b) = int_eq a b
  datum_eq (unknown_alternative a) (unknown_alternative b) = a == b
  datum_eq _ _ = false

  pub components_eq : Components → Components → Bool
  components_eq no_components no_components = true
  components_eq (absent a) (absent b) = components_eq a b
  components_eq (present d a) (present e b) = datum_eq d e && components_eq a b
  components_eq _ _ = false

  pub elements_eq : Elements → Elements → Bool
  elements_eq no_elements no_elements = true
  elements_eq (element d a) (element e b) = datum_eq d e && elements_eq a b
  elements_eq _ _ = false

-- ---- it is true exactly where they are equal

mutual
  datum_alike : (x y : Datum) → datum_eq x y ≡ true → x ≡ y
  datum_alike (truth a) (truth b) h = ap truth ((booleans_Decides a b).0 h)
  datum_alike nothing nothing h = refl
  datum_alike (number a) (number b) h = ap number ((signed_Decides a b).0 h)
  datum_alike (item a) (item b) h = ap item ((unsigned_Decides a b).0 h)
  datum_alike (bit_list a) (bit_list b) h = ap bit_list ((pointwise_decides booleans_Decides a b).0 h)
  datum_alike (octet_list a) (octet_list b) h = ap octet_list ((pointwise_decides unsigned_Decides a b).0 h)
  datum_alike (characters a) (characters b) h = ap characters ((pointwise_decides unsigned_Decides a b).0 h)
  datum_alike (unicode a) (unicode b) h = ap unicode ((pointwise_decides unsigned_Decides a b).0 h)
  datum_alike (components a) (components b) h = ap components (components_alike a b h)
  datum_alike (elements a) (elements b) h = ap elements (elements_alike a b h)
  datum_alike (alternative m a) (alternative n b) h =
      let tags : m ≡ n = (unsigned_Decides m n).0 (first_so (m == n) (datum_eq a b) h) in
      let values : a ≡ b = datum_alike a b (second_so (m == n) (datum_eq a b) h) in
      cc
  datum_alike (unknown_item a) (unknown_item b) h = ap unknown_item ((signed_Decides a b).0 h)
  datum_alike (unknown_alternative a) (unknown_alternative b) h = ap unknown_alternative ((unsigned_Decides a b).0 h)
  datum_alike _ _ h = absurd (true≢false (sym h))

  components_alike : (x y : Components) → components_eq x y ≡ true → x ≡ y
  components_alike no_components no_components h = refl
  components_alike (absent a) (absent b) h = ap absent (components_alike a b h)
  components_alike (present d a) (present e b) h =
      let values : d ≡ e = datum_alike d e (first_so (datum_eq d e) (components_eq a b) h) in
      let others : a ≡ b = components_alike a b (second_so (datum_eq d e) (components_eq a b) h) in
      cc
  components_alike _ _ h = absurd (true≢false (sym h))

  elements_alike : (x y : Elements) → elements_eq x y ≡ true → x ≡ y
  elements_alike no_elements no_elements h = refl
  elements_alike (element d a) (element e b) h =
      let values : d ≡ e = datum_alike d e (first_so (datum_eq d e) (elements_eq a b) h) in
      let others : a ≡ b = elements_alike a b (second_so (datum_eq d e) (elements_eq a b) h) in
      cc
  elements_alike _ _ h = absurd (true≢false (sym h))

both : (a b : Bool) → a ≡ true → b ≡ true → (a && b) ≡ true
both a b h k = rw (h, k) refl

mutual
  datum_itself : (x : Datum) → datum_eq x x ≡ true
  datum_itself (truth a) = (booleans_Decides a a).1 refl
  datum_itself nothing = refl
  datum_itself (number a) = (signed_Decides a a).1 refl
  datum_itself (item a) = (unsigned_Decides a a).1 refl
  datum_itself (bit_list a) = (pointwise_decides booleans_Decides a a).1 refl
  datum_itself (octet_list a) = (pointwise_decides unsigned_Decides a a).1 refl
  datum_itself (characters a) = (pointwise_decides unsigned_Decides a a).1 refl
  datum_itself (unicode a) = (pointwise_decides unsigned_Decides a a).1 refl
  datum_itself (components a) = components_itself a
  datum_itself (elements a) = elements_itself a
  datum_itself (alternative m a) = both (m == m) (datum_eq a a) ((unsigned_Decides m m).1 refl) (datum_itself a)
  datum_itself (unknown_item a) = (signed_Decides a a).1 refl
  datum_itself (unknown_alternative a) = (unsigned_Decides a a).1 refl

  components_itself : (x : Components) → components_eq x x ≡ true
  components_itself no_components = refl
  components_itself (absent a) = components_itself a
  components_itself (present d a) = both (datum_eq d d) (components_eq a a) (datum_itself d) (components_itself a)

  elements_itself : (x : Elements) → elements_eq x x ≡ true
  elements_itself no_elements = refl
  elements_itself (element d a) = both (datum_eq d d) (elements_eq a a) (datum_itself d) (elements_itself a)

pub datum_eq-Decides : (x y : Datum) → Decides (datum_eq x y) (x ≡ y)
datum_eq-Decides x y = (datum_alike x y, λ e. subst (λ z. datum_eq x z ≡ true) e (datum_itself x))

-- so it is an equivalence
pub datum_eq_per : IsPartialEquivalence datum_eq
datum_eq_per = partial_equiv_from_equiv (decided datum_eq datum_eq-Decides)
