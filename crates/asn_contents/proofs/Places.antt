-- The octets that are found in a value, one turn of a loop at a time, and in a whole value.
use Rattle.std.specs.Global.{Box}
use Rattle.std.proofs.Common.{◌≡◌, ◌<◌, ◌≤◌, ◌+◌, ℕ, zero, suc, ℤ, Bool, true, false, List, [], ◌∷◌, ◌++◌, length, drop, get_or, map, Vec, Global, Option, Some, None, option_map, append_assoc, append-nil, refl, sym, ap, ◌∙◌, rules, arith}
use Rattle.std.proofs.lemmas.List.{drop_all}
use Rattle.std.proofs.Math.Seq.{drop-cons}
use Rattle.std.proofs.Math.Numerals.{add-one}
use Rattle.asn_values.specs.declared.value.Value.{Value}
use Rattle.asn_values.specs.declared.value.Value.TheVariants as value
use Rattle.asn_values.specs.Datum.{Datum}
use Rattle.asn_values.specs.View.{datum_of, entries_seen}
use Rattle.asn_values.proofs.Views.{datum_of-Seq, datum_of-List, datum_of-Choice, component_list-components_of, element_list-elements_of}
use Rattle.asn_contents.specs.declared.contents.Contents.{Contents, Components, Elements, Alternatives, Both, Selected, the_lemmas}
use Rattle.asn_contents.specs.declared.contents.Selection.{Selection}
use Rattle.asn_contents.specs.Contents as spec
use Rattle.asn_contents.specs.Contents.{Content, places_in, of_parts, of_entry, of_elements, of_alternative, of_selected, octets_of_type, type_at, one_content, number_at, octets_at}
use Rattle.asn_contents.specs.View.{contents_of, parts_of, parts_seen, selected_of, row_of}

next : {A : Type 0} (xs : List A) (i : ℕ) (x : A) → i < length xs → x ≡ get_or xs i x → drop i xs ≡ x ∷ drop (i + 1) xs
next xs i x h e = rw (add-one, drop-cons xs i x h, ← e) refl

-- ---- the components of a SEQUENCE

no_entries : (cs : spec.Parts) (p : List ℕ) (i : ℕ) → of_parts cs p i [] ≡ []
no_entries spec.no_parts p i = refl
no_entries (spec.part c cs) p i = refl

-- those still to be looked at, from an index on
abbrev pub rest_of_parts : List Contents → List ℕ → ℕ → List (Option Value) → List Content
rest_of_parts cs p i es = of_parts (parts_of (map contents_of (drop i cs))) p i (map (option_map datum_of) (drop i es))

-- the first entry and those after it
parts_next : (c : spec.Contents) (cs : spec.Parts) (p : List ℕ) (i : ℕ) (es : List (Option Datum)) → of_parts (spec.part c cs) p i es ≡ of_entry (λ q d. places_in c q d) (p ++ (i ∷ [])) (get_or es 0 None) ++ of_parts cs p (suc i) (drop 1 es)
parts_next c cs p i [] = sym (no_entries cs p (suc i))
parts_next c cs p i (None ∷ es) = refl
parts_next c cs p i (Some d ∷ es) = refl

first_seen : (es : List (Option Value)) (i : ℕ) → get_or (entries_seen (drop i es)) 0 None ≡ get_or (entries_seen es) i None
first_seen [] zero = refl
first_seen [] (suc i) = refl
first_seen (e ∷ es) zero = refl
first_seen (e ∷ es) (suc i) = first_seen es i

rest_seen : (es : List (Option Value)) (i : ℕ) → drop 1 (entries_seen (drop i es)) ≡ entries_seen (drop (suc i) es)
rest_seen [] zero = refl
rest_seen [] (suc i) = refl
rest_seen (e ∷ es) zero = refl
rest_seen (e ∷ es) (suc i) = rest_seen es i

pub part_next : (cs : List Contents) (es : List (Option Value)) (p : List ℕ) (i : ℕ) (c : Contents) (before after all : List Content)
    → i < length cs → c ≡ get_or cs i c → after ≡ before ++ of_entry (λ q d. places_in (contents_of c) q d) (p ++ (i ∷ [])) (get_or (entries_seen es) i None)
    → before ++ rest_of_parts cs p i es ≡ all → after ++ rest_of_parts cs p (i + 1) es ≡ all
part_next cs es p i c before after all less is added h =
    let inside = λ (q : List ℕ) (d : Datum). places_in (contents_of c) q d in
    let others = parts_of (map contents_of (drop (suc i) cs)) in
    let first = of_entry inside (p ++ (i ∷ [])) (get_or (entries_seen es) i None) in
    let cut : rest_of_parts cs p i es ≡ of_entry inside (p ++ (i ∷ [])) (get_or (entries_seen (drop i es)) 0 None) ++ of_parts others p (suc i) (drop 1 (entries_seen (drop i es))) =
    rw (next cs i c less is, add-one) (parts_next (contents_of c) others p i (entries_seen (drop i es))) in
    let split : rest_of_parts cs p i es ≡ first ++ rest_of_parts cs p (suc i) es =
    cut ∙ ap (λ e. of_entry inside (p ++ (i ∷ [])) e ++ of_parts others p (suc i) (drop 1 (entries_seen (drop i es)))) (first_seen es i)
    ∙ ap (λ l. first ++ of_parts others p (suc i) l) (rest_seen es i) in
    let joined : before ++ (first ++ rest_of_parts cs p (suc i) es) ≡ all = ap (λ l. before ++ l) (sym split) ∙ h in
    rw (added, append_assoc, add-one) joined

pub parts_done : (cs : List Contents) (es : List (Option Value)) (p : List ℕ) (i : ℕ) (before all : List Content) → length cs ≤ i → before ++ rest_of_parts cs p i es ≡ all → before ≡ all
parts_done cs es p i before all h e =
    let past : drop i cs ≡ [] = drop_all i cs h in
    rw (past, append-nil) at e

-- ---- the elements of a SEQUENCE OF

abbrev pub rest_of_elements : Contents → List ℕ → ℕ → List Value → List Content
rest_of_elements c p i vs = of_elements (λ q d. places_in (contents_of c) q d) p i (map datum_of (drop i vs))

pub element_next : (c : Contents) (vs : List Value) (p : List ℕ) (i : ℕ) (v : Value) (before after all : List Content)
    → i < length vs → v ≡ get_or vs i v → after ≡ before ++ places_in (contents_of c) (p ++ (i ∷ [])) (datum_of v)
    → before ++ rest_of_elements c p i vs ≡ all → after ++ rest_of_elements c p (i + 1) vs ≡ all
element_next c vs p i v before after all less is added h =
    rw (added, append_assoc, add-one) (rw (next vs i v less is, add-one) at h)

pub elements_done : (c : Contents) (vs : List Value) (p : List ℕ) (i : ℕ) (before all : List Content) → length vs ≤ i → before ++ rest_of_elements c p i vs ≡ all → before ≡ all
elements_done c vs p i before all h e =
    let past : drop i vs ≡ [] = drop_all i vs h in
    rw (past, append-nil) at e

-- ---- an alternative

pub at_alternative : (cs : List Contents) (i : ℕ) (c : Contents) (p : List ℕ) (d : Datum) → i < length cs → c ≡ get_or cs i c
    → places_in (contents_of c) p d ≡ of_alternative (parts_of (map contents_of cs)) i p d
at_alternative [] i c p d h e = absurd (omega arith)
at_alternative (q ∷ cs) zero c p d h e = rw e refl
at_alternative (q ∷ cs) (suc i) c p d h e = at_alternative cs i c p d (omega arith) e

pub no_alternative : (cs : List Contents) (i : ℕ) (p : List ℕ) (d : Datum) → length cs ≤ i → [] ≡ of_alternative (parts_of (map contents_of cs)) i p d
no_alternative [] i p d h = refl
no_alternative (q ∷ cs) zero p d h = absurd (omega arith)
no_alternative (q ∷ cs) (suc i) p d h = no_alternative cs i p d (omega arith)

-- ---- a whole value

contents_of-Components : (cs : Vec Contents Global) → contents_of (Components cs) ≡ spec.in_components (parts_of (map contents_of cs.items))
contents_of-Components cs = search (rules, the_lemmas)

contents_of-Elements : (c : Box Contents) → contents_of (Elements c) ≡ spec.in_elements (contents_of c.value)
contents_of-Elements c = search (rules, the_lemmas)

contents_of-Alternatives : (cs : Vec Contents Global) → contents_of (Alternatives cs) ≡ spec.in_alternatives (parts_of (map contents_of cs.items))
contents_of-Alternatives cs = search (rules, the_lemmas)

contents_of-Both : (c e : Box Contents) → contents_of (Both c e) ≡ spec.at_both (contents_of c.value) (contents_of e.value)
contents_of-Both c e = search (rules, the_lemmas)

contents_of-Selected : (s : Selection) → contents_of (Selected s) ≡ selected_of s
contents_of-Selected s = search (rules, the_lemmas)

pub in_sequence : (c : Contents) (x : Value) (cs : Vec Contents Global) (v : Vec (Option Value) Global) → c ≡ Components cs → x ≡ value.Seq v
    → (ds : List Contents) (es : List (Option Value)) → ds ≡ cs.items → es ≡ v.items → (p : List ℕ) (before after : List Content)
    → after ≡ before ++ of_parts (parts_seen ds) p 0 (entries_seen es) → after ≡ before ++ places_in (contents_of c) p (datum_of x)
in_sequence c x cs v ec ex ds es ed ev p before after h =
    rw (ec, ex, contents_of-Components cs, datum_of-Seq v)
    (rw (ed, ev) at h ∙ ap (λ l. before ++ of_parts (parts_of (map contents_of cs.items)) p 0 l) (sym (component_list-components_of (map (option_map datum_of) v.items))))

pub in_list : (c : Contents) (x : Value) (inner : Box Contents) (v : Vec Value Global) → c ≡ Elements inner → x ≡ value.List v
    → (e : Contents) (vs : List Value) → e ≡ inner.value → vs ≡ v.items → (p : List ℕ) (before after : List Content)
    → after ≡ before ++ of_elements (λ q d. places_in (contents_of e) q d) p 0 (map datum_of vs) → after ≡ before ++ places_in (contents_of c) p (datum_of x)
in_list c x inner v ec ex e vs ee ev p before after h =
    rw (ec, ex, contents_of-Elements inner, datum_of-List v)
    (rw (ee, ev) at h ∙ ap (λ l. before ++ of_elements (λ q d. places_in (contents_of inner.value) q d) p 0 l) (sym (element_list-elements_of (map datum_of v.items))))

pub in_choice : (c : Contents) (x : Value) (cs : Vec Contents Global) (i : ℕ) (b : Box Value) → c ≡ Alternatives cs → x ≡ value.Choice i b
    → (ds : List Contents) (w : Value) → ds ≡ cs.items → w ≡ b.value → (p : List ℕ) (before after : List Content)
    → after ≡ before ++ of_alternative (parts_seen ds) i (p ++ (i ∷ [])) (datum_of w) → after ≡ before ++ places_in (contents_of c) p (datum_of x)
in_choice c x cs i b ec ex ds w ed ew p before after h = rw (ec, ex, contents_of-Alternatives cs, datum_of-Choice i b) (rw (ed, ew) at h)

pub in_both : (c : Contents) (first second : Box Contents) → c ≡ Both first second → (e f : Contents) → e ≡ first.value → f ≡ second.value
    → (d : Datum) (p : List ℕ) (before between after : List Content) → between ≡ before ++ places_in (contents_of e) p d → after ≡ between ++ places_in (contents_of f) p d
    → after ≡ before ++ places_in (contents_of c) p d
in_both c first second ec e f ee ef d p before between after h k =
    rw (ec, contents_of-Both first second) (rw (ef, h, ee, append_assoc) at k)

pub in_selected : (c : Contents) (x : Value) (s : Selection) (v : Vec (Option Value) Global) → c ≡ Selected s → x ≡ value.Seq v
    → (es : List (Option Value)) → es ≡ v.items → (p : List ℕ) (before after : List Content)
    → after ≡ before ++ of_selected (map row_of s.rows.items) s.extensible (p ++ (s.open ∷ [])) (number_at s.by (entries_seen es)) (octets_at s.open (entries_seen es))
    → after ≡ before ++ places_in (contents_of c) p (datum_of x)
in_selected c x s v ec ex es ev p before after h =
    rw (ec, ex, contents_of-Selected s, datum_of-Seq v)
    (rw ev at h ∙ ap (λ l. before ++ of_selected (map row_of s.rows.items) s.extensible (p ++ (s.open ∷ [])) (number_at s.by l) (octets_at s.open l)) (sym (component_list-components_of (map (option_map datum_of) v.items))))

-- ---- an open type

pub selected_absent : (rows : List (ℤ × ℕ)) (marked : Bool) (p : List ℕ) (z : Option ℤ) (o : Option (List ℕ)) (before : List Content) → None ≡ o → before ≡ before ++ of_selected rows marked p z o
selected_absent rows marked p z o before e = rw (← e) (sym (append-nil before))

pub selected_there : (rows : List (ℤ × ℕ)) (marked : Bool) (p : List ℕ) (z n : Option ℤ) (o : Option (List ℕ)) (os : List ℕ) (before after : List Content) → Some os ≡ o → n ≡ z
    → after ≡ before ++ octets_of_type marked p (type_at rows n) os → after ≡ before ++ of_selected rows marked p z o
selected_there rows marked p z n o os before after e en h = rw (← e, ← en) h

pub any_octets : (marked : Bool) (p : List ℕ) (k : Option ℕ) (os : List ℕ) (before : List Content) → None ≡ k → marked ≡ true → before ≡ before ++ octets_of_type marked p k os
any_octets marked p k os before e m = rw (← e, m) (sym (append-nil before))

pub octets_of_a_type : (marked : Bool) (p : List ℕ) (k : ℕ) (t : Option ℕ) (os : List ℕ) (before after : List Content) → Some k ≡ t
    → after ≡ before ++ one_content p (Some k) os ∷ [] → after ≡ before ++ octets_of_type marked p t os
octets_of_a_type true p k t os before after e h = rw (← e) h
octets_of_a_type false p k t os before after e h = rw (← e) h

pub octets_of_no_type : (marked : Bool) (p : List ℕ) (t : Option ℕ) (os : List ℕ) (before after : List Content) → None ≡ t → marked ≡ false
    → after ≡ before ++ one_content p None os ∷ [] → after ≡ before ++ octets_of_type marked p t os
octets_of_no_type marked p t os before after e m h = rw (← e, m) h
