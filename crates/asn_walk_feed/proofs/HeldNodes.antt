-- What nodes hold, as the program counts it.
use Rattle.std.proofs.Common.{Vec, Global, ◌≡◌, ◌≤◌, ◌<◌, ◌+◌, ◌-◌, ◌^◌, ℕ, suc, min, List, [], ◌∷◌, ◌++◌, length, map, take, get_or, Option, None, refl, sym, ap, ◌∙◌, arith}
use Rattle.std.specs.Prelude.{reverse}
use Rattle.std.proofs.lemmas.List.{reverse-append, take_more, take_all, map-append}
use Rattle.asn_values.specs.Datum.{components_of, elements_of}
use Rattle.asn_values.specs.Measures.{cells, components_cells, elements_cells}
use Rattle.asn_values.specs.View.{datum_of, entries_seen}
use Rattle.asn_values.specs.declared.value.Value.{Value}
use Rattle.asn_values.specs.declared.value.Value.TheVariants as value
use Rattle.asn_values.proofs.Views.{datum_of-Seq, datum_of-List}
use Rattle.asn_walk_feed.specs.Holding.{entry_cells, built, held_in, counted}
use Rattle.asn_walk_feed.specs.Weights.{total}
use Rattle.asn_walk_feed.specs.declared.frame.Frame.{Frame}
use Rattle.asn_walk_feed.proofs.Cells.{components_total, elements_total}
use Rattle.asn_walk_feed.proofs.Weights.{total-last}

-- the order of the nodes does not matter
total_reverse : {A : Type 0} (w : A → ℕ) (xs : List A) → total w (reverse xs) ≡ total w xs
total_reverse w [] = refl
total_reverse w (x ∷ xs) =
    let turned : total w (reverse (x ∷ xs)) ≡ total w (reverse xs ++ x ∷ []) = ap (total w) (reverse-append (x ∷ []) xs) in
    let sum = total-last w (reverse xs) x in
    let same = total_reverse w xs in
    omega (arith, turned, sum, same)

each_node : {F : Type 0} (fs : List (Frame F)) → held_in fs ≡ total (λ f. suc (built f)) fs
each_node [] = refl
each_node (f ∷ fs) = (let e = each_node fs in omega (arith, e))

pub held_reverse : {F : Type 0} (fs : List (Frame F)) → held_in (reverse fs) ≡ total (λ f. suc (built f)) fs
held_reverse fs = each_node (reverse fs) ∙ total_reverse (λ f. suc (built f)) fs

-- the next one is counted
pub counts_next : {A B : Type 0} (seen : A → B) (w : B → ℕ) (xs : List A) (i : ℕ) (x : A) (sum more new : ℕ) → i < length xs → x ≡ get_or xs i x → sum ≡ counted (total w (map seen (take i xs)))
    → more ≡ counted (w (seen x)) → new ≡ min (sum + more) (2 ^ 64 - 1) → new ≡ counted (total w (map seen (take (i + 1) xs)))
counts_next {A = A} seen w xs i x sum more new h g s m n =
    let split = ap (map seen) (take_more xs i x h) ∙ map-append seen (take i xs) (get_or xs i x ∷ []) ∙ ap (λ (y : A). map seen (take i xs) ++ seen y ∷ []) (sym g) in
    let all = ap (total w) split in
    let e = total-last w (map seen (take i xs)) (seen x) in
    omega (arith, s, m, n, e, all)

-- a node and what it has
pub counts_node : {F : Type 0} (fs : List (Frame F)) (i : ℕ) (f : Frame F) (sum one more new : ℕ) → i < length fs → f ≡ get_or fs i f → sum ≡ counted (total (λ x. suc (built x)) (take i fs))
    → one ≡ min (sum + 1) (2 ^ 64 - 1) → more ≡ counted (built f) → new ≡ min (one + more) (2 ^ 64 - 1) → new ≡ counted (total (λ x. suc (built x)) (take (i + 1) fs))
counts_node {F = F} fs i f sum one more new h g s o m n =
    let split : take (i + 1) fs ≡ take i fs ++ f ∷ [] = take_more fs i f h ∙ ap (λ (y : Frame F). take i fs ++ y ∷ []) (sym g) in
    let all : total (λ (x : Frame F). suc (built x)) (take (i + 1) fs) ≡ total (λ (x : Frame F). suc (built x)) (take i fs ++ f ∷ []) = ap (total (λ (x : Frame F). suc (built x))) split in
    let e = total-last (λ (x : Frame F). suc (built x)) (take i fs) f in
    omega (arith, s, o, m, n, e, all)

-- all are counted
pub counts_all : {A : Type 0} (w : A → ℕ) (xs : List A) (i n : ℕ) → length xs ≤ i → n ≡ counted (total w (take i xs)) → n ≡ counted (total w xs)
counts_all w xs i n h e = (let all = ap (total w) (take_all i xs h) in omega (arith, e, all))

-- an absent entry is one cell
pub one_counted : 1 ≡ counted (entry_cells None)
one_counted = refl

-- the value of a SEQUENCE and of a SEQUENCE OF has one cell more than its entries and elements
pub sequence_counted : (x : Value) (v : Vec (Option Value) Global) (vs : List (Option Value)) (sum new : ℕ) → x ≡ value.Seq v → vs ≡ v.items → sum ≡ counted (total entry_cells (entries_seen vs))
    → new ≡ min (sum + 1) (2 ^ 64 - 1) → new ≡ counted (cells (datum_of x))
sequence_counted x v vs sum new e f s n =
    let here : cells (datum_of x) ≡ suc (components_cells (components_of (entries_seen v.items))) = ap cells (ap datum_of e ∙ datum_of-Seq v) in
    let all = components_total (entries_seen v.items) in
    let same : total entry_cells (entries_seen vs) ≡ total entry_cells (entries_seen v.items) = ap (λ (us : List (Option Value)). total entry_cells (entries_seen us)) f in
    omega (arith, here, all, same, s, n)

pub list_counted : (x : Value) (v : Vec Value Global) (vs : List Value) (sum new : ℕ) → x ≡ value.List v → vs ≡ v.items → sum ≡ counted (total cells (map datum_of vs))
    → new ≡ min (sum + 1) (2 ^ 64 - 1) → new ≡ counted (cells (datum_of x))
list_counted x v vs sum new e f s n =
    let here : cells (datum_of x) ≡ suc (elements_cells (elements_of (map datum_of v.items))) = ap cells (ap datum_of e ∙ datum_of-List v) in
    let all = elements_total (map datum_of v.items) in
    let same : total cells (map datum_of vs) ≡ total cells (map datum_of v.items) = ap (λ (us : List Value). total cells (map datum_of us)) f in
    omega (arith, here, all, same, s, n)
