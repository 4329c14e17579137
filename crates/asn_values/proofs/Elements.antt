-- The elements of a SEQUENCE OF, in a type's values and in two values that are compared.
use Rattle.std.proofs.Common.{◌≡◌, ◌↔◌, Bool, IsTrue, List, map, Vec, Global, ap, ◌∙◌, sym}
use Rattle.asn_values.specs.declared.value.Value.{Value}
use Rattle.asn_values.specs.declared.value.Value.TheVariants as value
use Rattle.asn_values.specs.Datum.{Datum, elements, elements_of, element_list}
use Rattle.asn_values.specs.View.{datum_of}
use Rattle.asn_values.proofs.Views.{datum_of-List, element_list-elements_of}

-- ---- two lists

-- values of SEQUENCE OF are the same where their elements are
pub same_elements_of : (xs ys : List Datum) → (xs ≡ ys) ↔ (elements (elements_of xs) ≡ elements (elements_of ys))
same_elements_of xs ys = (
  λ e. ap (λ ds. elements (elements_of ds)) e,
  λ e.
      let inner : elements_of xs ≡ elements_of ys = cc in
      sym (element_list-elements_of xs) ∙ (ap element_list inner ∙ element_list-elements_of ys),
)

-- a test of the elements of two lists is one of the values
pub same_lists :
    (x y : Value) (v w : Vec Value Global) → x ≡ value.List v → y ≡ value.List w →
    (vs ws : List Value) → vs ≡ v.items → ws ≡ w.items →
    (b : Bool) → IsTrue b ↔ (map datum_of vs ≡ map datum_of ws) →
    IsTrue b ↔ (datum_of x ≡ datum_of y)
same_lists x y v w ex ey vs ws ev ew b (there, back) =
    let left : datum_of x ≡ elements (elements_of (map datum_of vs)) = rw (ex, ev) (datum_of-List v) in
    let right : datum_of y ≡ elements (elements_of (map datum_of ws)) = rw (ey, ew) (datum_of-List w) in
    let both = same_elements_of (map datum_of vs) (map datum_of ws) in
    (λ h. left ∙ (both.0 (there h) ∙ sym right), λ e. back (both.1 (sym left ∙ (e ∙ right))))
