-- What meets the spelling of a constraint.
use Rattle.std.specs.Global.{Box}
use Rattle.std.proofs.Common.{◌≡◌, ◌<◌, ◌≤◌, ◌+◌, ◌&&◌, ℕ, zero, suc, Bool, true, false, List, [], ◌∷◌, map, length, get_or, drop, Option, option_map, Vec, Global, refl, ap, ◌∙◌, sym, rules, arith}
use Rattle.std.specs.List.{list_all}
use Rattle.std.proofs.Math.Bool.{and-false}
use Rattle.std.proofs.lemmas.List.{drop_more}
use Rattle.asn_values.specs.declared.value.Value.{Value}
use Rattle.asn_values.specs.declared.value.Value.TheVariants as value
use Rattle.asn_values.specs.Datum.{Datum}
use Rattle.asn_values.specs.View.{datum_of, entries_seen}
use Rattle.asn_values.proofs.Views.{datum_of-Seq, datum_of-List, component_list-components_of, element_list-elements_of}
use Rattle.asn_constraints.specs.declared.constraint.Component.{Component}
use Rattle.asn_constraints.specs.declared.constraint.Constraint.{Components, Elements, the_lemmas}
use Rattle.asn_constraints.specs.declared.constraint.Constraint as declared
use Rattle.asn_constraints.specs.Constraints.{any, entry_meets, meets, meet_each, meets_at}
use Rattle.asn_constraints.specs.Spelling.{spelling, spelling_of_components, spelling_of_alternatives}
use Rattle.asn_constraints.specs.View.{constraint_of, on_one, components_seen, alternatives_seen}
use Rattle.asn_constraints.proofs.Views.{constraint_of-Components, constraint_of-Elements}

-- ---- the program's values

-- too few entries
pub too_few_spelt : (cs : List Component) (vs : List (Option Value)) → length vs < length cs → false ≡ meet_each (spelling_of_components (components_seen cs)) (entries_seen vs)
too_few_spelt [] vs h = absurd (omega arith)
too_few_spelt (c ∷ cs) [] h = refl
too_few_spelt (c ∷ cs) (v ∷ vs) h =
    rw (← too_few_spelt cs vs (omega arith)) (sym (and-false (entry_meets any (λ d. meets (spelling (on_one c).constraint) d) (option_map datum_of v))))

on_one_constraint : (c : Component) → (on_one c).constraint ≡ constraint_of c.constraint
on_one_constraint c = search (rules, the_lemmas)

-- one entry, and those after it
pub spelt_step :
    (cs : List Component) (vs : List (Option Value)) (i : ℕ) (c : Component) (v : Option Value) (b : Bool) →
    i < length cs → i < length vs → c ≡ get_or cs i c → v ≡ get_or vs i v →
    b ≡ entry_meets any (λ d. meets (spelling (constraint_of c.constraint)) d) (option_map datum_of v) →
    meet_each (spelling_of_components (components_seen (drop i cs))) (entries_seen (drop i vs))
    ≡ (b && meet_each (spelling_of_components (components_seen (drop (i + 1) cs))) (entries_seen (drop (i + 1) vs)))
spelt_step cs vs i c v b hc hv ec ev eb =
    let front : drop i cs ≡ c ∷ drop (i + 1) cs = drop_more cs i c hc ∙ ap (λ x. x ∷ drop (i + 1) cs) (sym ec) in
    let entry : drop i vs ≡ v ∷ drop (i + 1) vs = drop_more vs i v hv ∙ ap (λ x. x ∷ drop (i + 1) vs) (sym ev) in
    let judged : b ≡ entry_meets any (λ d. meets (spelling (on_one c).constraint) d) (option_map datum_of v) =
    eb ∙ ap (λ x. entry_meets any (λ d. meets (spelling x) d) (option_map datum_of v)) (sym (on_one_constraint c)) in
    ap (λ x. meet_each (spelling_of_components (components_seen x)) (entries_seen (drop i vs))) front
    ∙ (ap (λ x. meet_each (spelling_of_components (components_seen (c ∷ drop (i + 1) cs))) (entries_seen x)) entry
    ∙ ap (λ x. x && meet_each (spelling_of_components (components_seen (drop (i + 1) cs))) (entries_seen (drop (i + 1) vs))) (sym judged))

-- an entry that is not right, and one that is
pub spelt_not :
    (cs : List Component) (vs : List (Option Value)) (i : ℕ) (c : Component) (v : Option Value) (b whole : Bool) →
    i < length cs → i < length vs → c ≡ get_or cs i c → v ≡ get_or vs i v →
    b ≡ entry_meets any (λ d. meets (spelling (constraint_of c.constraint)) d) (option_map datum_of v) → b ≡ false →
    meet_each (spelling_of_components (components_seen (drop i cs))) (entries_seen (drop i vs)) ≡ whole → false ≡ whole
spelt_not cs vs i c v b whole hc hv ec ev eb h e =
    let rest = meet_each (spelling_of_components (components_seen (drop (i + 1) cs))) (entries_seen (drop (i + 1) vs)) in
    sym (ap (λ x. x && rest) h) ∙ (sym (spelt_step cs vs i c v b hc hv ec ev eb) ∙ e)

pub spelt_on :
    (cs : List Component) (vs : List (Option Value)) (i : ℕ) (c : Component) (v : Option Value) (b whole : Bool) →
    i < length cs → i < length vs → c ≡ get_or cs i c → v ≡ get_or vs i v →
    b ≡ entry_meets any (λ d. meets (spelling (constraint_of c.constraint)) d) (option_map datum_of v) → b ≡ true →
    meet_each (spelling_of_components (components_seen (drop i cs))) (entries_seen (drop i vs)) ≡ whole →
    meet_each (spelling_of_components (components_seen (drop (i + 1) cs))) (entries_seen (drop (i + 1) vs)) ≡ whole
spelt_on cs vs i c v b whole hc hv ec ev eb h e =
    let rest = meet_each (spelling_of_components (components_seen (drop (i + 1) cs))) (entries_seen (drop (i + 1) vs)) in
    sym (ap (λ x. x && rest) h) ∙ (sym (spelt_step cs vs i c v b hc hv ec ev eb) ∙ e)

-- entries of a SEQUENCE
pub spelt_sequence :
    (c : declared.Constraint) (x : Value) (cs : Vec Component Global) (v : Vec (Option Value) Global) → c ≡ Components cs → x ≡ value.Seq v →
    (ds : List Component) (vs : List (Option Value)) → ds ≡ cs.items → vs ≡ v.items →
    (b : Bool) → b ≡ meet_each (spelling_of_components (components_seen ds)) (entries_seen vs) → b ≡ meets (spelling (constraint_of c)) (datum_of x)
spelt_sequence c x cs v ec ex ds vs ed ev b h =
    rw (ec, ex, constraint_of-Components cs, datum_of-Seq v)
    (rw (← ed, ← ev) h ∙ sym (ap (meet_each (spelling_of_components (components_seen cs.items))) (component_list-components_of (map (option_map datum_of) v.items))))

-- elements of a SEQUENCE OF
pub spelt_list :
    (c : declared.Constraint) (x : Value) (inner : Box declared.Constraint) (v : Vec Value Global) → c ≡ Elements inner → x ≡ value.List v →
    (e : declared.Constraint) (vs : List Value) → e ≡ inner.value → vs ≡ v.items →
    (b : Bool) → b ≡ list_all (λ d. meets (spelling (constraint_of e)) d) (map datum_of vs) → b ≡ meets (spelling (constraint_of c)) (datum_of x)
spelt_list c x inner v ec ex e vs ee ev b h =
    rw (ec, ex, constraint_of-Elements inner, datum_of-List v)
    (rw (← ee, ← ev) h ∙ sym (ap (list_all (λ d. meets (spelling (constraint_of inner.value)) d)) (element_list-elements_of (map datum_of v.items))))

-- the alternative at an index
pub spelt_alternative :
    (cs : List declared.Constraint) (i : ℕ) (c : declared.Constraint) (d : Datum) → i < length cs → c ≡ get_or cs i c →
    meets (spelling (constraint_of c)) d ≡ meets_at (spelling_of_alternatives (alternatives_seen cs)) i d
spelt_alternative [] i c d h e = absurd (omega arith)
spelt_alternative (q ∷ cs) zero c d h e = rw e refl
spelt_alternative (q ∷ cs) (suc i) c d h e = spelt_alternative cs i c d (omega arith) e

pub spelt_no_alternative : (cs : List declared.Constraint) (i : ℕ) (d : Datum) → length cs ≤ i → true ≡ meets_at (spelling_of_alternatives (alternatives_seen cs)) i d
spelt_no_alternative [] i d h = refl
spelt_no_alternative (q ∷ cs) zero d h = absurd (omega arith)
spelt_no_alternative (q ∷ cs) (suc i) d h = spelt_no_alternative cs i d (omega arith)
