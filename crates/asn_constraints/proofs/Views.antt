-- What a constraint stands for, variant by variant, and what meets it.
use Rattle.std.specs.Global.{Box}
use Rattle.std.proofs.Common.{◌≡◌, ◌<◌, ◌≤◌, ℕ, zero, suc, Bool, false, not, List, [], ◌∷◌, map, length, get_or, Option, Some, option_map, Vec, Global, refl, ap, ◌∙◌, sym, rules, arith}
use Rattle.std.specs.List.{list_all}
use Rattle.std.proofs.Math.Bool.{and-false}
use Rattle.std.proofs.lemmas.List.{length-map}
use Rattle.asn_values.specs.declared.value.Value.{Value}
use Rattle.asn_values.specs.declared.value.Value.TheVariants as value
use Rattle.asn_values.specs.Datum.{Datum}
use Rattle.asn_values.specs.Equality.{datum_eq}
use Rattle.asn_values.specs.View.{datum_of}
use Rattle.asn_values.proofs.Views.{datum_of-Seq, datum_of-List, component_list-components_of, element_list-elements_of}
use Rattle.asn_constraints.specs.declared.constraint.Component.{Component}
use Rattle.asn_constraints.specs.declared.constraint.Constraint.{Constraint, Except, Components, Elements, SomePresent, the_lemmas}
use Rattle.asn_constraints.specs.Constraints.{except, on_components, on_elements, some_present, meets, meet_each, meets_at, one_present, length_of}
use Rattle.asn_constraints.specs.View.{constraint_of, on_one, on_components_of, on_alternatives_of, meets_one}

pub constraint_of-Except : (v : Value) → constraint_of (Except v) ≡ except (datum_of v)
constraint_of-Except v = search (rules, the_lemmas)

pub constraint_of-Components : (cs : Vec Component Global) → constraint_of (Components cs) ≡ on_components (on_components_of (map on_one cs.items))
constraint_of-Components cs = search (rules, the_lemmas)

pub constraint_of-SomePresent : constraint_of SomePresent ≡ some_present
constraint_of-SomePresent = search (rules, the_lemmas)

pub constraint_of-Elements : (c : Box Constraint) → constraint_of (Elements c) ≡ on_elements (constraint_of c.value)
constraint_of-Elements c = search (rules, the_lemmas)

-- ---- what meets them

-- a value that is not the DEFAULT
pub meets_except : (c : Constraint) (v : Value) (d : Datum) (b : Bool) → c ≡ Except v → b ≡ datum_eq (datum_of v) d → not b ≡ meets (constraint_of c) d
meets_except c v d b ec eb = rw (ec, constraint_of-Except v, eb) refl

-- entries of a SEQUENCE
pub meets_sequence :
    (c : Constraint) (x : Value) (cs : Vec Component Global) (v : Vec (Option Value) Global) → c ≡ Components cs → x ≡ value.Seq v →
    (ds : List Component) (vs : List (Option Value)) → ds ≡ cs.items → vs ≡ v.items →
    (b : Bool) → b ≡ meet_each (on_components_of (map on_one ds)) (map (option_map datum_of) vs) → b ≡ meets (constraint_of c) (datum_of x)
meets_sequence c x cs v ec ex ds vs ed ev b h =
    rw (ec, ex, constraint_of-Components cs, datum_of-Seq v)
    (rw (← ed, ← ev) h ∙ sym (ap (meet_each (on_components_of (map on_one cs.items))) (component_list-components_of (map (option_map datum_of) v.items))))

-- elements of a SEQUENCE OF
pub meets_list :
    (c : Constraint) (x : Value) (inner : Box Constraint) (v : Vec Value Global) → c ≡ Elements inner → x ≡ value.List v →
    (e : Constraint) (vs : List Value) → e ≡ inner.value → vs ≡ v.items →
    (b : Bool) → b ≡ list_all (λ d. meets (constraint_of e) d) (map datum_of vs) → b ≡ meets (constraint_of c) (datum_of x)
meets_list c x inner v ec ex e vs ee ev b h =
    rw (ec, ex, constraint_of-Elements inner, datum_of-List v)
    (rw (← ee, ← ev) h ∙ sym (ap (list_all (λ d. meets (constraint_of inner.value) d)) (element_list-elements_of (map datum_of v.items))))

-- too few entries
pub too_few : (cs : List Component) (vs : List (Option Value)) → length vs < length cs → false ≡ meet_each (on_components_of (map on_one cs)) (map (option_map datum_of) vs)
too_few [] vs h = absurd (omega arith)
too_few (c ∷ cs) [] h = refl
too_few (c ∷ cs) (v ∷ vs) h = rw (← too_few cs vs (omega arith)) (sym (and-false (meets_one (on_one c) (option_map datum_of v))))

-- the constraint of the alternative at an index, and none after the last
pub meets_alternative : (cs : List Constraint) (i : ℕ) (c : Constraint) (d : Datum) → i < length cs → c ≡ get_or cs i c → meets (constraint_of c) d ≡ meets_at (on_alternatives_of (map constraint_of cs)) i d
meets_alternative [] i c d h e = absurd (omega arith)
meets_alternative (q ∷ cs) zero c d h e = rw e refl
meets_alternative (q ∷ cs) (suc i) c d h e = meets_alternative cs i c d (omega arith) e

pub meets_no_alternative : (cs : List Constraint) (i : ℕ) (d : Datum) → length cs ≤ i → false ≡ meets_at (on_alternatives_of (map constraint_of cs)) i d
meets_no_alternative [] i d h = refl
meets_no_alternative (q ∷ cs) zero d h = absurd (omega arith)
meets_no_alternative (q ∷ cs) (suc i) d h = meets_no_alternative cs i d (omega arith)

-- some entry of a SEQUENCE
pub meets_some_present :
    (c : Constraint) (x : Value) (v : Vec (Option Value) Global) → c ≡ SomePresent → x ≡ value.Seq v → (vs : List (Option Value)) → vs ≡ v.items →
    (b : Bool) → b ≡ one_present (map (option_map datum_of) vs) → b ≡ meets (constraint_of c) (datum_of x)
meets_some_present c x v ec ex vs ev b h =
    rw (ec, ex, constraint_of-SomePresent, datum_of-Seq v) (rw (← ev) h ∙ sym (ap one_present (component_list-components_of (map (option_map datum_of) v.items))))

-- how many elements a list has
pub length_of_list : (x : Value) (v : Vec Value Global) (n : ℕ) → x ≡ value.List v → n ≡ length v.items → Some n ≡ length_of (datum_of x)
length_of_list x v n ex en =
    rw (ex, datum_of-List v, en) (ap Some (sym (ap length (element_list-elements_of (map datum_of v.items)) ∙ length-map v.items datum_of)))
