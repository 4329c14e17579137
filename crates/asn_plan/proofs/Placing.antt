-- Values that are put over those of a value before.
use Rattle.std.proofs.Common.{◌≡◌, ◌≤◌, ◌<◌, ◌+◌, ◌∙◌, ◌∷◌, [], ◌++◌, ℕ, zero, suc, List, Option, Some, None, map, take, get_or, slice_set, slice_get, length, refl, sym, ap, subst, arith, rules, ◌%◌}
use Rattle.std.specs.Option.{option_map}
use Rattle.std.proofs.lemmas.List.{take_more_set, take_all, take-append-le, take-set, take-set-le, length-set, map_push, map_more, length-map}
use Rattle.std.proofs.lemmas.Option.{slice_get-map, slice_get-get_or, slice_get_within, same_Some}
use Rattle.asn_values.specs.Datum.{Datum}
use Rattle.asn_values.specs.declared.value.Value.{Value}
use Rattle.asn_values.specs.View.{datum_of, entries_seen}
use Rattle.std.specs.Vec.{with_item}
use Rattle.asn_plan.specs.declared.place.Place.{Place}
use Rattle.asn_plan.specs.Placed.{IsAbsent, IsPut, taken}

-- what stands at an index where it was written
pub written_there : (es : List (Option Value)) (i : ℕ) (e : Option Value) → i < length es
    → slice_get (entries_seen (slice_set es i e)) i ≡ Some (option_map datum_of e)
written_there [] i e h = absurd (omega arith)
written_there (x ∷ es) zero e h = refl
written_there (x ∷ es) (suc i) e h = written_there es i e (omega arith)

-- what was added stands at the end
pub added_there : (es : List (Option Value)) (i : ℕ) (e : Option Value) → length es ≡ i
    → slice_get (entries_seen (es ++ e ∷ [])) i ≡ Some (option_map datum_of e)
added_there [] zero e h = refl
added_there [] (suc i) e h = absurd (omega arith)
added_there (x ∷ es) zero e h = absurd (omega arith)
added_there (x ∷ es) (suc i) e h = added_there es i e (omega arith)

-- what stands at an index, as the program reads it
pub found_there : (es : List (Option Value)) (i : ℕ) (e : Option Value) (d : Option Datum) → i < length es
    → slice_get (entries_seen es) i ≡ Some d → e ≡ get_or es i e → option_map datum_of e ≡ d
found_there es i e d h t r =
    same_Some (option_map datum_of e) d
    (ap (λ x. Some (option_map datum_of x)) r ∙ sym (ap (option_map (option_map datum_of)) (slice_get-get_or es i e h))
    ∙ sym (slice_get-map (option_map datum_of) es i) ∙ t)

-- the entries up to the next one
pub next_there : (es : List (Option Value)) (i : ℕ) (d : Option Datum)
    → slice_get (entries_seen es) i ≡ Some d → entries_seen (take (i + 1) es) ≡ entries_seen (take i es) ++ d ∷ []
next_there es i d t =
    let f = option_map datum_of in
    let h : i < length es = subst (λ n. i < n) (length-map es f) (slice_get_within (entries_seen es) i d t) in
    map_more f es i None h
    ∙ ap (λ x. entries_seen (take i es) ++ x ∷ [])
    (same_Some (f (get_or es i None)) d (sym (ap (option_map f) (slice_get-get_or es i None h)) ∙ sym (slice_get-map f es i) ∙ t))

-- what is put in the place of an entry is put there
pub placed : (p : Place) (v : Value) (d : Datum) → p.at < length p.items.items → datum_of v ≡ d
    → IsPut p (record { items = with_item p.items p.at (Some v); at = p.at }) d
placed p v d h e = record {
  same = ap entries_seen (take-set p.items.items p.at (Some v));
  there = written_there p.items.items p.at (Some v) h ∙ ap (λ x. Some (Some x)) e;
}

-- what is added at the end is put there
pub added : (p r : Place) (v : Value) → length p.items.items ≡ p.at → r.items.items ≡ p.items.items ++ Some v ∷ [] → r.at ≡ p.at
    → IsPut p r (datum_of v)
added p r v h e a = record {
  same = ap entries_seen (ap (λ es. take r.at es) e ∙ ap (λ n. take n (p.items.items ++ Some v ∷ [])) a ∙ take-append-le p.at p.items.items (Some v ∷ []) (omega arith));
  there = ap (λ es. slice_get (entries_seen es) r.at) e ∙ ap (λ n. slice_get (entries_seen (p.items.items ++ Some v ∷ [])) n) a
      ∙ added_there p.items.items p.at (Some v) h;
}

-- an entry that was put is one more
pub passed : (s p : Place) (d : Datum) → IsPut s p d
    → entries_seen (take (p.at + 1) p.items.items) ≡ taken s ++ Some d ∷ []
passed s p d q = next_there p.items.items p.at (Some d) q.there ∙ ap (λ es. es ++ Some d ∷ []) q.same

-- an element that is put over another is one more
pub element_over : (es : List Value) (i : ℕ) (v : Value) (d : Datum) → i < length es → datum_of v ≡ d
    → map datum_of (take (i + 1) (slice_set es i v)) ≡ map datum_of (take i es) ++ d ∷ []
element_over es i v d h e =
    ap (map datum_of) (take_more_set es i v h) ∙ map_push datum_of (take i es) v ∙ ap (λ x. map datum_of (take i es) ++ x ∷ []) e

-- and so where the one after it was taken away
pub element_before : (es : List Value) (i : ℕ) (w v : Value) (d : Datum) → i + 1 < length es → datum_of v ≡ d
    → map datum_of (take (i + 1) (slice_set (slice_set es (i + 1) w) i v)) ≡ map datum_of (take i es) ++ d ∷ []
element_before es i w v d h e =
    element_over (slice_set es (i + 1) w) i v d (omega (arith, h, length-set es (i + 1) w)) e
    ∙ ap (λ xs. map datum_of xs ++ d ∷ []) (take-set-le i es (i + 1) w (omega arith))

-- an element that is added behind all others is one more
pub element_added : (es rs : List Value) (n k : ℕ) (v : Value) → length es ≤ n → rs ≡ es ++ v ∷ [] → length rs ≡ k
    → map datum_of (take k rs) ≡ map datum_of (take n es) ++ datum_of v ∷ []
element_added es rs n k v h e l =
    ap (map datum_of) (take_all k rs (omega (arith, l)) ∙ e ∙ ap (λ xs. xs ++ v ∷ []) (sym (take_all n es h))) ∙ map_push datum_of (take n es) v

-- the next index, as the program counts, is the one behind it
pub counted_on : (p : Place) (e : Option Datum) → slice_get (entries_seen p.items.items) p.at ≡ Some e
    → (p.at + 1) % 18446744073709551616 ≡ p.at + 1
counted_on p e q =
    let inside : p.at < length (entries_seen p.items.items) = slice_get_within (entries_seen p.items.items) p.at e q in
    let within : p.at < length p.items.items = subst (λ n. p.at < n) (length-map p.items.items (option_map datum_of)) inside in
    let most : length p.items.items ≤ p.items.cap = subst (λ n. n ≤ p.items.cap) p.items.ok.0 p.items.ok.1 in
    let small : p.items.cap < 9223372036854775808 = p.items.small in
    search (rules, arith)

-- so behind an entry that was put it is one more
pub passed_on : (s p : Place) (d : Datum) → IsPut s p d
    → entries_seen (take ((p.at + 1) % 18446744073709551616) p.items.items) ≡ taken s ++ Some d ∷ []
passed_on s p d q = ap (λ n. entries_seen (take n p.items.items)) (counted_on p (Some d) q.there) ∙ passed s p d q

-- and so behind one without a value
pub absent_on : (p : Place) → IsAbsent p
    → entries_seen (take ((p.at + 1) % 18446744073709551616) p.items.items) ≡ taken p ++ None ∷ []
absent_on p q = ap (λ n. entries_seen (take n p.items.items)) (counted_on p None q) ∙ next_there p.items.items p.at None q
