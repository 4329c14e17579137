-- The leaves of parts of a value, one part after the other.
use Rattle.std.proofs.Common.{◌≡◌, ◌<◌, ◌+◌, ◌++◌, ℕ, List, [], ◌∷◌, map, length, take, get_or, Option, Some, None, option_map, Vec, Global, refl, sym, ◌∙◌, ap, append_assoc}
use Rattle.std.proofs.lemmas.List.{append-nil, map_more}
use Rattle.asn_values.specs.declared.value.Value.{Value}
use Rattle.asn_values.specs.declared.value.Value.TheVariants as value
use Rattle.asn_values.specs.Datum.{Datum, components_of, elements_of}
use Rattle.asn_values.specs.View.{datum_of}
use Rattle.asn_values.proofs.Views.{datum_of-Seq}
use Rattle.asn_fields.specs.Leaves.{leaves, leaves_in, leaves_present, leaves_each}

-- one component more
present_more : (es : List (Option Datum)) (e : Option Datum) → leaves_present (components_of (es ++ e ∷ [])) ≡ leaves_present (components_of es) ++ leaves_in e
present_more [] None = refl
present_more [] (Some d) = append-nil (leaves d)
present_more (None ∷ es) e = present_more es e
present_more (Some d ∷ es) e = ap (λ l. leaves d ++ l) (present_more es e) ∙ sym (append_assoc (leaves d) (leaves_present (components_of es)) (leaves_in e))

-- one element more
each_more : (ds : List Datum) (d : Datum) → leaves_each (elements_of (ds ++ d ∷ [])) ≡ leaves_each (elements_of ds) ++ leaves d
each_more [] d = append-nil (leaves d)
each_more (x ∷ ds) d = ap (λ l. leaves x ++ l) (each_more ds d) ∙ sym (append_assoc (leaves x) (leaves_each (elements_of ds)) (leaves d))

-- what was added of the entries so far, and of the next one
pub entries_more : (all now next : List Datum) (es : List (Option Value)) (i : ℕ) (e : Option Value) → i < length es → e ≡ get_or es i e
    → now ≡ all ++ leaves_present (components_of (map (option_map datum_of) (take i es))) → next ≡ now ++ leaves_in (option_map datum_of e)
    → next ≡ all ++ leaves_present (components_of (map (option_map datum_of) (take (i + 1) es)))
entries_more all now next es i e h g a b =
    b ∙ ap (λ l. l ++ leaves_in (option_map datum_of e)) a ∙ append_assoc all (leaves_present (components_of (map (option_map datum_of) (take i es)))) (leaves_in (option_map datum_of e))
    ∙ ap (λ l. all ++ l) (sym (present_more (map (option_map datum_of) (take i es)) (option_map datum_of e))
    ∙ ap (λ l. leaves_present (components_of l)) (ap (λ (x : Option Value). map (option_map datum_of) (take i es) ++ option_map datum_of x ∷ []) g ∙ sym (map_more (option_map datum_of) es i e h)))

-- of the elements
pub elements_more : (all now next : List Datum) (vs : List Value) (i : ℕ) (v : Value) → i < length vs → v ≡ get_or vs i v
    → now ≡ all ++ leaves_each (elements_of (map datum_of (take i vs))) → next ≡ now ++ leaves (datum_of v)
    → next ≡ all ++ leaves_each (elements_of (map datum_of (take (i + 1) vs)))
elements_more all now next vs i v h g a b =
    b ∙ ap (λ l. l ++ leaves (datum_of v)) a ∙ append_assoc all (leaves_each (elements_of (map datum_of (take i vs)))) (leaves (datum_of v))
    ∙ ap (λ l. all ++ l) (sym (each_more (map datum_of (take i vs)) (datum_of v))
    ∙ ap (λ l. leaves_each (elements_of l)) (ap (λ (x : Value). map datum_of (take i vs) ++ datum_of x ∷ []) g ∙ sym (map_more datum_of vs i v h)))

-- those of a SEQUENCE
pub of_sequence : (x : Value) (v : Vec (Option Value) Global) (vs : List (Option Value)) → x ≡ value.Seq v → vs ≡ v.items
    → leaves_present (components_of (map (option_map datum_of) vs)) ≡ leaves (datum_of x)
of_sequence x v vs e f = rw (e, f, datum_of-Seq v) refl
