-- Where the program finds a broken place, and that it is one.
use Rattle.std.specs.Global.{Box}
use Rattle.std.proofs.Common.{◌≡◌, ◌<◌, ◌≤◌, ℕ, zero, suc, Bool, true, false, List, [], ◌∷◌, map, length, get_or, take, ◌+◌, ◌&&◌, Option, Some, None, option_map, Result, IfOk, Vec, Global, reverse, refl, ap, ◌∙◌, sym, subst, rules, arith, nat_le}
use Rattle.std.specs.declared.alloc.AllocError.{AllocError}
use Rattle.std.specs.List.{list_all, slice_get}
use Rattle.std.proofs.lemmas.Bool.{lt-leb}
use Rattle.std.proofs.lemmas.List.{length-map, take_all}
use Rattle.std.proofs.lemmas.Option.{slice_get_read, slice_get-map}
use Rattle.std.proofs.lemmas.Result.{IfOk-weaker}
use Rattle.asn_values.specs.declared.value.Value.{Value}
use Rattle.asn_values.specs.declared.value.Value.TheVariants as value
use Rattle.asn_values.specs.Datum.{Datum, components_of, component_list, elements_of, element_list, alternative}
use Rattle.asn_values.specs.View.{datum_of, entries_seen}
use Rattle.asn_values.proofs.Views.{datum_of-Seq, component_list-components_of, element_list-elements_of}
use Rattle.asn_constraints.specs.declared.broken.Broken.{Broken}
use Rattle.asn_constraints.specs.declared.broken.Reason.TheVariants as reason
use Rattle.asn_constraints.specs.declared.constraint.Component.{Component}
use Rattle.asn_constraints.specs.declared.constraint.Constraint.{Constraint, Barred, Both, Components, the_lemmas}
use Rattle.asn_constraints.specs.Constraints.{barred, both, on_components, on_elements, on_alternatives, meets, meet_each, meets_at}
use Rattle.std.specs.Cmp.{first_so, second_so}
use Rattle.asn_constraints.specs.View.{constraint_of, on_one, components_seen, alternatives_seen, sequence_seen, list_seen, meets_one}
use Rattle.asn_constraints.specs.Broken.{presence_at, component_at, alternative_at, count, right_before, BreaksAt, without_parts, first, second, in_element, in_alternative}
use Rattle.asn_constraints.specs.Finding.{Finds, FindsEntry}
use Rattle.asn_constraints.proofs.Breaking.{alternative_judged, in_entry}
use Rattle.asn_constraints.proofs.Views.{constraint_of-Components}

constraint_of-Barred : constraint_of Barred ≡ barred
constraint_of-Barred = search (rules, the_lemmas)

constraint_of-Both : (a b : Box Constraint) → constraint_of (Both a b) ≡ both (constraint_of a.value) (constraint_of b.value)
constraint_of-Both a b = search (rules, the_lemmas)

-- ---- one of two constraints

pub finds_first :
    (c : Constraint) (a b : Box Constraint) (e : Constraint) (d : Datum) (found : Option Broken) (o : Broken) →
    c ≡ Both a b → e ≡ a.value → found ≡ Some o → Finds (constraint_of e) d found → BreaksAt (constraint_of c) d (reverse o.path.items) o.reason
finds_first c a b e d found o ec ee ef h =
    let there : Finds (constraint_of a.value) d found = subst (λ x. Finds (constraint_of x) d found) ee h in
    let broken : BreaksAt (constraint_of a.value) d (reverse o.path.items) o.reason = subst (λ x. Finds (constraint_of a.value) d x) ef there in
    let whole : constraint_of c ≡ both (constraint_of a.value) (constraint_of b.value) = ap constraint_of ec ∙ constraint_of-Both a b in
    subst (λ x. BreaksAt x d (reverse o.path.items) o.reason) (sym whole) (first (constraint_of a.value) (constraint_of b.value) d (reverse o.path.items) o.reason broken)

-- what the second gives, where the first is met
second_of : (a b : Constraint) (d : Datum) → meets (constraint_of a) d ≡ true → (found : Option Broken) → Finds (constraint_of b) d found → Finds (both (constraint_of a) (constraint_of b)) d found
second_of a b d h None k = rw (h, k) refl
second_of a b d h (Some o) k = second (constraint_of a) (constraint_of b) d (reverse o.path.items) o.reason h k

pub finds_second :
    (c : Constraint) (a b : Box Constraint) (e f : Constraint) (d : Datum) (found : Option Broken) (r : Result (Option Broken) AllocError) →
    c ≡ Both a b → e ≡ a.value → f ≡ b.value → found ≡ None → Finds (constraint_of e) d found →
    IfOk r (λ x. Finds (constraint_of f) d x) → IfOk r (λ x. Finds (constraint_of c) d x)
finds_second c a b e f d found r ec ee ef en h k =
    let there : Finds (constraint_of e) d None = subst (λ x. Finds (constraint_of e) d x) en h in
    let met : meets (constraint_of a.value) d ≡ true = subst (λ x. meets (constraint_of x) d ≡ true) ee there in
    let whole : constraint_of c ≡ both (constraint_of a.value) (constraint_of b.value) = ap constraint_of ec ∙ constraint_of-Both a b in
    let inner : IfOk r (λ x. Finds (constraint_of b.value) d x) = subst (λ y. IfOk r (λ x. Finds (constraint_of y) d x)) ef k in
    subst (λ y. IfOk r (λ x. Finds y d x)) (sym whole)
    (IfOk-weaker r (λ x. Finds (constraint_of b.value) d x) (λ x. Finds (both (constraint_of a.value) (constraint_of b.value)) d x) (second_of a.value b.value d met) inner)

-- ---- components

pub finds_sequence :
    (c : Constraint) (x : Value) (cs : Vec Component Global) (v : Vec (Option Value) Global) → c ≡ Components cs → x ≡ value.Seq v →
    (ds : List Component) (vs : List (Option Value)) → ds ≡ cs.items → vs ≡ v.items → (r : Result (Option Broken) AllocError) →
    IfOk r (λ f. Finds (on_components (components_seen ds)) (sequence_seen vs) f) → IfOk r (λ f. Finds (constraint_of c) (datum_of x) f)
finds_sequence c x cs v ec ex ds vs ed ev r h =
    let whole : constraint_of c ≡ on_components (components_seen ds) = ap constraint_of ec ∙ (constraint_of-Components cs ∙ ap (λ y. on_components (components_seen y)) (sym ed)) in
    let entries : datum_of x ≡ sequence_seen vs = ap datum_of ex ∙ (datum_of-Seq v ∙ ap sequence_seen (sym ev)) in
    subst (λ y. IfOk r (λ f. Finds y (datum_of x) f)) (sym whole) (subst (λ y. IfOk r (λ f. Finds (on_components (components_seen ds)) y f)) (sym entries) h)

counted : (cs : List Component) → count (components_seen cs) ≡ length cs
counted [] = refl
counted (c ∷ cs) = ap (λ n. suc n) (counted cs)

pub too_few_parts :
    (cs : List Component) (vs : List (Option Value)) → length vs < length cs → BreaksAt (on_components (components_seen cs)) (sequence_seen vs) [] reason.Kind
too_few_parts cs vs h =
    let entries : length (component_list (components_of (entries_seen vs))) ≡ length vs = ap length (component_list-components_of (entries_seen vs)) ∙ length-map vs (option_map datum_of) in
    let fewer : nat_le (count (components_seen cs)) (length (component_list (components_of (entries_seen vs)))) ≡ false = rw (counted cs, entries) (lt-leb (length cs) (length vs) h) in
    without_parts (on_components (components_seen cs)) (sequence_seen vs) fewer

-- the constraint on the component with an index, and its entry
presence_seen : (cs : List Component) (i : ℕ) (c : Component) → i < length cs → c ≡ get_or cs i c → presence_at (components_seen cs) i ≡ (on_one c).presence
presence_seen [] i c h e = absurd (omega arith)
presence_seen (x ∷ cs) zero c h e = rw e refl
presence_seen (x ∷ cs) (suc i) c h e = presence_seen cs i c (omega arith) e

component_seen : (cs : List Component) (i : ℕ) (c : Component) → i < length cs → c ≡ get_or cs i c → component_at (components_seen cs) i ≡ (on_one c).constraint
component_seen [] i c h e = absurd (omega arith)
component_seen (x ∷ cs) zero c h e = rw e refl
component_seen (x ∷ cs) (suc i) c h e = component_seen cs i c (omega arith) e

entry_seen :
    (vs : List (Option Value)) (i : ℕ) (v : Option Value) → i < length vs → v ≡ get_or vs i v →
    slice_get (component_list (components_of (entries_seen vs))) i ≡ Some (option_map datum_of v)
entry_seen vs i v h e =
    ap (λ es. slice_get es i) (component_list-components_of (entries_seen vs))
    ∙ (slice_get-map (option_map datum_of) vs i ∙ ap (option_map (option_map datum_of)) (slice_get_read vs (length vs) i v refl h e))

pub finds_entry :
    (cs : List Component) (vs : List (Option Value)) (i : ℕ) (c : Component) (v : Option Value) (found : Option Broken) (o p : Broken) →
    i < length cs → i < length vs → right_before i (components_seen cs) (entries_seen vs) ≡ true →
    c ≡ get_or cs i c → v ≡ get_or vs i v → found ≡ Some o → FindsEntry (on_one c) (option_map datum_of v) found →
    reverse p.path.items ≡ i ∷ reverse o.path.items → p.reason ≡ o.reason →
    BreaksAt (on_components (components_seen cs)) (sequence_seen vs) (reverse p.path.items) p.reason
finds_entry cs vs i c v found o p hc hv before ec ev ef h ep er =
    let entries : right_before i (components_seen cs) (component_list (components_of (entries_seen vs))) ≡ true =
    ap (λ x. right_before i (components_seen cs) x) (component_list-components_of (entries_seen vs)) ∙ before in
    let there : FindsEntry (on_one c) (option_map datum_of v) (Some o) = subst (λ x. FindsEntry (on_one c) (option_map datum_of v) x) ef h in
    rw (ep, er)
    (in_entry (components_seen cs) (components_of (entries_seen vs)) i (on_one c) (option_map datum_of v) (reverse o.path.items) o.reason
    (presence_seen cs i c hc ec) (component_seen cs i c hc ec) (entry_seen vs i v hv ev) entries there)

and_both : (a b : Bool) → a ≡ true → b ≡ true → (a && b) ≡ true
and_both a b h k = rw (h, k) refl

-- one more entry is right
right_on :
    (i : ℕ) (cs : List Component) (vs : List (Option Value)) (c : Component) (v : Option Value) →
    i < length cs → i < length vs → c ≡ get_or cs i c → v ≡ get_or vs i v →
    right_before i (components_seen cs) (entries_seen vs) ≡ true → meets_one (on_one c) (option_map datum_of v) ≡ true →
    right_before (suc i) (components_seen cs) (entries_seen vs) ≡ true
right_on i [] vs c v hc hv ec ev before h = absurd (omega arith)
right_on i (x ∷ cs) [] c v hc hv ec ev before h = absurd (omega arith)
right_on zero (x ∷ cs) (y ∷ vs) c v hc hv ec ev before h =
    and_both (meets_one (on_one x) (option_map datum_of y)) true
    (ap (λ k. meets_one (on_one k) (option_map datum_of y)) (sym ec) ∙ (ap (λ k. meets_one (on_one c) (option_map datum_of k)) (sym ev) ∙ h)) refl
right_on (suc i) (x ∷ cs) (y ∷ vs) c v hc hv ec ev before h =
    let here = meets_one (on_one x) (option_map datum_of y) in
    let others = right_before i (components_seen cs) (entries_seen vs) in
    and_both here (right_before (suc i) (components_seen cs) (entries_seen vs)) (first_so here others before)
    (right_on i cs vs c v (omega arith) (omega arith) ec ev (second_so here others before) h)

pub right_next :
    (i : ℕ) (cs : List Component) (vs : List (Option Value)) (c : Component) (v : Option Value) (found : Option Broken) →
    i < length cs → i < length vs → c ≡ get_or cs i c → v ≡ get_or vs i v →
    right_before i (components_seen cs) (entries_seen vs) ≡ true → found ≡ None → FindsEntry (on_one c) (option_map datum_of v) found →
    right_before (i + 1) (components_seen cs) (entries_seen vs) ≡ true
right_next i cs vs c v found hc hv ec ev before en h =
    let right : meets_one (on_one c) (option_map datum_of v) ≡ true = subst (λ x. FindsEntry (on_one c) (option_map datum_of v) x) en h in
    let next : i + 1 ≡ suc i = omega arith in
    rw next (right_on i cs vs c v hc hv ec ev before right)

-- all are right
all_right :
    (n : ℕ) (cs : List Component) (vs : List (Option Value)) → length cs ≤ n → length cs ≤ length vs →
    right_before n (components_seen cs) (entries_seen vs) ≡ true → meet_each (components_seen cs) (entries_seen vs) ≡ true
all_right n [] vs h k before = refl
all_right n (c ∷ cs) [] h k before = absurd (omega arith)
all_right zero (c ∷ cs) (v ∷ vs) h k before = absurd (omega arith)
all_right (suc n) (c ∷ cs) (v ∷ vs) h k before =
    let here = meets_one (on_one c) (option_map datum_of v) in
    let others = right_before n (components_seen cs) (entries_seen vs) in
    and_both here (meet_each (components_seen cs) (entries_seen vs)) (first_so here others before)
    (all_right n cs vs (omega arith) (omega arith) (second_so here others before))

pub all_entries :
    (n : ℕ) (cs : List Component) (vs : List (Option Value)) → length cs ≤ n → length cs ≤ length vs →
    right_before n (components_seen cs) (entries_seen vs) ≡ true → meet_each (components_seen cs) (component_list (components_of (entries_seen vs))) ≡ true
all_entries n cs vs h k before =
    ap (λ x. meet_each (components_seen cs) x) (component_list-components_of (entries_seen vs)) ∙ all_right n cs vs h k before

-- ---- elements

element_seen : (vs : List Value) (i : ℕ) (v : Value) → i < length vs → v ≡ get_or vs i v → slice_get (element_list (elements_of (map datum_of vs))) i ≡ Some (datum_of v)
element_seen vs i v h e =
    ap (λ es. slice_get es i) (element_list-elements_of (map datum_of vs))
    ∙ (slice_get-map datum_of vs i ∙ ap (option_map datum_of) (slice_get_read vs (length vs) i v refl h e))

pub finds_element :
    (c : Constraint) (vs : List Value) (i : ℕ) (v : Value) (found : Option Broken) (o p : Broken) →
    i < length vs → list_all (λ x. meets (constraint_of c) x) (take i (map datum_of vs)) ≡ true →
    v ≡ get_or vs i v → found ≡ Some o → Finds (constraint_of c) (datum_of v) found →
    reverse p.path.items ≡ i ∷ reverse o.path.items → p.reason ≡ o.reason →
    BreaksAt (on_elements (constraint_of c)) (list_seen vs) (reverse p.path.items) p.reason
finds_element c vs i v found o p h before e ef k ep er =
    let elements : list_all (λ x. meets (constraint_of c) x) (take i (element_list (elements_of (map datum_of vs)))) ≡ true =
    ap (λ ds. list_all (λ x. meets (constraint_of c) x) (take i ds)) (element_list-elements_of (map datum_of vs)) ∙ before in
    let there : BreaksAt (constraint_of c) (datum_of v) (reverse o.path.items) o.reason = subst (λ x. Finds (constraint_of c) (datum_of v) x) ef k in
    rw (ep, er)
    (in_element (constraint_of c) (elements_of (map datum_of vs)) i (datum_of v) (reverse o.path.items) o.reason elements (element_seen vs i v h e) there)

-- one more element meets the constraint
meet_on : (f : Datum → Bool) (ds : List Datum) (i : ℕ) (d : Datum) → slice_get ds i ≡ Some d → list_all f (take i ds) ≡ true → f d ≡ true → list_all f (take (suc i) ds) ≡ true
meet_on f [] i d h before k = refl
meet_on f (x ∷ ds) zero d h before k =
    let same : x ≡ d = cc in
    and_both (f x) true (rw same k) refl
meet_on f (x ∷ ds) (suc i) d h before k =
    and_both (f x) (list_all f (take (suc i) ds)) (first_so (f x) (list_all f (take i ds)) before) (meet_on f ds i d h (second_so (f x) (list_all f (take i ds)) before) k)

pub meet_next :
    (c : Constraint) (vs : List Value) (i : ℕ) (v : Value) (found : Option Broken) → i < length vs → v ≡ get_or vs i v →
    list_all (λ x. meets (constraint_of c) x) (take i (map datum_of vs)) ≡ true → found ≡ None → Finds (constraint_of c) (datum_of v) found →
    list_all (λ x. meets (constraint_of c) x) (take (i + 1) (map datum_of vs)) ≡ true
meet_next c vs i v found h e before en k =
    let met : meets (constraint_of c) (datum_of v) ≡ true = subst (λ x. Finds (constraint_of c) (datum_of v) x) en k in
    let there : slice_get (map datum_of vs) i ≡ Some (datum_of v) = slice_get-map datum_of vs i ∙ ap (option_map datum_of) (slice_get_read vs (length vs) i v refl h e) in
    let next : i + 1 ≡ suc i = omega arith in
    rw next (meet_on (λ x. meets (constraint_of c) x) (map datum_of vs) i (datum_of v) there before met)

pub all_elements :
    (c : Constraint) (vs : List Value) (i : ℕ) → length vs ≤ i → list_all (λ x. meets (constraint_of c) x) (take i (map datum_of vs)) ≡ true →
    list_all (λ d. meets (constraint_of c) d) (element_list (elements_of (map datum_of vs))) ≡ true
all_elements c vs i h before =
    let whole : take i (map datum_of vs) ≡ map datum_of vs = take_all i (map datum_of vs) (rw (length-map vs datum_of) h) in
    ap (λ x. list_all (λ d. meets (constraint_of c) d) x) (element_list-elements_of (map datum_of vs)) ∙ (ap (λ x. list_all (λ d. meets (constraint_of c) d) x) (sym whole) ∙ before)

-- ---- alternatives

pub barred_seen : (cs : List Constraint) (i : ℕ) (x : Constraint) → i < length cs → get_or cs i x ≡ Barred → alternative_at (alternatives_seen cs) i ≡ barred
barred_seen [] i x h e = absurd (omega arith)
barred_seen (c ∷ cs) zero x h e = ap constraint_of e ∙ constraint_of-Barred
barred_seen (c ∷ cs) (suc i) x h e = barred_seen cs i x (omega arith) e

pub alternative_seen : (cs : List Constraint) (i : ℕ) (c : Constraint) → i < length cs → c ≡ get_or cs i c → alternative_at (alternatives_seen cs) i ≡ constraint_of c
alternative_seen [] i c h e = absurd (omega arith)
alternative_seen (x ∷ cs) zero c h e = rw e refl
alternative_seen (x ∷ cs) (suc i) c h e = alternative_seen cs i c (omega arith) e

pub no_alternative_seen : (cs : List Constraint) (i : ℕ) → length cs ≤ i → alternative_at (alternatives_seen cs) i ≡ barred
no_alternative_seen [] i h = refl
no_alternative_seen (x ∷ cs) zero h = absurd (omega arith)
no_alternative_seen (x ∷ cs) (suc i) h = no_alternative_seen cs i (omega arith)

pub finds_alternative :
    (cs : List Constraint) (i : ℕ) (c : Constraint) (d : Datum) (found : Option Broken) (o p : Broken) →
    i < length cs → c ≡ get_or cs i c → found ≡ Some o → Finds (constraint_of c) d found →
    reverse p.path.items ≡ i ∷ reverse o.path.items → p.reason ≡ o.reason →
    BreaksAt (on_alternatives (alternatives_seen cs)) (alternative i d) (reverse p.path.items) p.reason
finds_alternative cs i c d found o p h e ef k ep er =
    let there : BreaksAt (constraint_of c) d (reverse o.path.items) o.reason = subst (λ x. Finds (constraint_of c) d x) ef k in
    let inside : BreaksAt (alternative_at (alternatives_seen cs) i) d (reverse o.path.items) o.reason =
    subst (λ x. BreaksAt x d (reverse o.path.items) o.reason) (sym (alternative_seen cs i c h e)) there in
    rw (ep, er) (in_alternative (alternatives_seen cs) i d (reverse o.path.items) o.reason inside)

pub alternative_is_met :
    (cs : List Constraint) (i : ℕ) (c : Constraint) (d : Datum) (found : Option Broken) →
    i < length cs → c ≡ get_or cs i c → found ≡ None → Finds (constraint_of c) d found → meets_at (alternatives_seen cs) i d ≡ true
alternative_is_met cs i c d found h e en k =
    let met : meets (constraint_of c) d ≡ true = subst (λ x. Finds (constraint_of c) d x) en k in
    alternative_judged (alternatives_seen cs) i d ∙ (ap (λ x. meets x d) (alternative_seen cs i c h e) ∙ met)
