-- Names and their indexes: one name more in front, and what stands at an index.
use Rattle.std.proofs.Common.{◌≡◌, ◌+◌, ◌-◌, ◌<◌, ◌≤◌, ℕ, zero, suc, Bool, true, false, cond, ◌||◌, List, [], ◌∷◌, map, get_or, drop, length, Option, Some, None, refl, sym, ap, ◌∙◌, arith}
use denote.Ref.{Bor}
use Rattle.std.specs.Prelude.{bytes_eq, string_bytes, is_some, MatchOption}
use Rattle.std.specs.HashMap.{HashMap}
use Rattle.std.specs.Option.{option_copied}
use Rattle.std.specs.List.{list_any}
use Rattle.std.specs.Cmp.Lexicographic.{nat_list_eq_equiv}
use Rattle.asn_values.specs.Profile.{has_twice}
use Rattle.asn_notation.specs.declared.notation.AssignmentNotation.{AssignmentNotation}
use Rattle.asn_notation.specs.Tree.{Assignment, assignments_view}
use Rattle.asn_module.specs.declared.known.Known.{Known}
use Rattle.asn_module.specs.declared.known.Named.{Named}
use Rattle.asn_module.specs.Meaning.{Meant}
use Rattle.asn_values.specs.Shape.{Shape}
use Rattle.asn_values.specs.View.{shape_of}
use Rattle.asn_module.specs.Accepted.{type_in}
use Rattle.asn_module.specs.Known.{known_view, known_if, look, AreSound, counted, unbuilt, typed_if, types_of}
use Rattle.asn_module.specs.Lookup.{Finds, index_from, names_in, assigned_names}

-- ---- one name more

pub name_first : (xs : List AssignmentNotation) (i : ℕ) (x : AssignmentNotation) → i < length xs → x ≡ get_or xs i x
    → drop i (assigned_names (assignments_view xs)) ≡ x.name.now ∷ drop (suc i) (assigned_names (assignments_view xs))
name_first [] i x less e = absurd (omega arith)
name_first (y ∷ xs) zero x less e = ap (λ (z : AssignmentNotation). z.name.now ∷ assigned_names (assignments_view xs)) (sym e)
name_first (y ∷ xs) (suc i) x less e = name_first xs i x (omega arith) e

-- a name has an index where it is one of the names
pub has_index : (i : ℕ) (q : List ℕ) (ns : List (List ℕ)) → is_some (index_from i q ns) ≡ list_any (bytes_eq q) ns
has_index i q [] = refl
has_index i q (n ∷ ns) = rw (nat_list_eq_equiv.symm n q) (by_test (bytes_eq q n) (has_index (suc i) q ns))
  where
    by_test : (b : Bool) → is_some (index_from (suc i) q ns) ≡ list_any (bytes_eq q) ns → is_some (cond b (Some i) (index_from (suc i) q ns)) ≡ (b || list_any (bytes_eq q) ns)
    by_test true e = refl
    by_test false e = e

-- the index of each name among those from k on, and then among those from i on, one more
pub found_step : (ns : List (List ℕ)) (k i : ℕ) (n : List ℕ) (old new : List ℕ → Option ℕ) → k ≡ suc i → drop i ns ≡ n ∷ drop (suc i) ns
    → ((q : List ℕ) → old q ≡ index_from k q (drop k ns)) → ((q : List ℕ) → new q ≡ cond (bytes_eq n q) (Some i) (old q))
    → (q : List ℕ) → new q ≡ index_from i q (drop i ns)
found_step ns k i n old new e first found put q =
    let others = rw e at (found q) in
    rw (first, put q, others) refl

pub found_next : (xs : List AssignmentNotation) (k i : ℕ) (x : AssignmentNotation) (old new : List ℕ → Option ℕ) → k ≡ suc i → k ≤ length xs → x ≡ get_or xs i x
    → ((q : List ℕ) → old q ≡ index_from k q (drop k (assigned_names (assignments_view xs)))) → ((q : List ℕ) → new q ≡ cond (bytes_eq x.name.now q) (Some i) (old q))
    → (q : List ℕ) → new q ≡ index_from i q (drop i (assigned_names (assignments_view xs)))
found_next xs k i x old new e inside ex found put =
    found_step (assigned_names (assignments_view xs)) k i x.name.now old new e (name_first xs i x (omega (arith, e, inside)) ex) found put

-- the same for names with their types
pub named_first : (xs : List Named) (i : ℕ) (x : Named) → i < length xs → x ≡ get_or xs i x → drop i (names_in xs) ≡ string_bytes x.name ∷ drop (suc i) (names_in xs)
named_first [] i x less e = absurd (omega arith)
named_first (y ∷ xs) zero x less e = ap (λ (z : Named). string_bytes z.name ∷ names_in xs) (sym e)
named_first (y ∷ xs) (suc i) x less e = named_first xs i x (omega arith) e

-- a name is assigned twice from i on where it has an index from k on, or one is there
pub twice_next : (xs : List AssignmentNotation) (k i : ℕ) (x : AssignmentNotation) (old : List ℕ → Option ℕ) → k ≡ suc i → k ≤ length xs → x ≡ get_or xs i x
    → ((q : List ℕ) → old q ≡ index_from k q (drop k (assigned_names (assignments_view xs)))) → has_twice bytes_eq (drop k (assigned_names (assignments_view xs))) ≡ false
    → has_twice bytes_eq (drop i (assigned_names (assignments_view xs))) ≡ is_some (old x.name.now)
twice_next xs k i x old e inside ex found distinct =
    let first = name_first xs i x (omega (arith, e, inside)) ex in
    let others = rw e at distinct in
    let some = rw e at (ap is_some (found x.name.now)) in
    rw (first, others, some, has_index (suc i) x.name.now (drop (suc i) (assigned_names (assignments_view xs)))) (by_test (list_any (bytes_eq x.name.now) (drop (suc i) (assigned_names (assignments_view xs)))))
  where
    by_test : (b : Bool) → (b || false) ≡ b
    by_test true = refl
    by_test false = refl

pub twice_within : (i : ℕ) (ns : List (List ℕ)) → has_twice bytes_eq (drop i ns) ≡ true → has_twice bytes_eq ns ≡ true
twice_within zero ns e = e
twice_within (suc i) [] e = e
twice_within (suc i) (n ∷ ns) e = by_test (list_any (bytes_eq n) ns) (twice_within i ns e)
  where
    by_test : (b : Bool) → has_twice bytes_eq ns ≡ true → (b || has_twice bytes_eq ns) ≡ true
    by_test true h = refl
    by_test false h = h

-- ---- what stands at an index

same_index : (i j : ℕ) → Some i ≡ Some j → i ≡ j
same_index i j e = cc

pub looked_from : (ns : List Named) (from j : ℕ) (q : List ℕ) (n : Named) → index_from from q (names_in ns) ≡ Some j
    → (from ≤ j) × (j < from + length ns) × (n ≡ get_or ns (j - from) n → look ns q ≡ known_if n.known)
looked_from [] from j q n e = absurd cc
looked_from (m ∷ ns) from j q n e = by_test (bytes_eq (string_bytes m.name) q) e (looked_from ns (suc from) j q n)
  where
    by_test : (b : Bool) → cond b (Some from) (index_from (suc from) q (names_in ns)) ≡ Some j
        → (index_from (suc from) q (names_in ns) ≡ Some j → (suc from ≤ j) × (j < suc from + length ns) × (n ≡ get_or ns (j - suc from) n → look ns q ≡ known_if n.known))
        → (from ≤ j) × (j < from + length (m ∷ ns)) × (n ≡ get_or (m ∷ ns) (j - from) n → cond b (known_if m.known) (look ns q) ≡ known_if n.known)
    by_test true h after =
        let same : from ≡ j = same_index from j h in
        let none : j - from ≡ 0 = omega (arith, same) in
        (omega (arith, same), omega (arith, same), λ here. ap (λ (z : Named). known_if z.known) (sym (rw none at here)))
    by_test false h after =
        let others = after h in
        let more = others.0 in
        let less = others.1 in
        let back : j - from ≡ suc (j - suc from) = omega (arith, more) in
        (omega (arith, more), omega (arith, less), λ here. others.2 (rw back at here))

pub looked_nowhere : (ns : List Named) (from : ℕ) (q : List ℕ) → index_from from q (names_in ns) ≡ None → look ns q ≡ None
looked_nowhere [] from q e = refl
looked_nowhere (m ∷ ns) from q e = by_test (bytes_eq (string_bytes m.name) q) e (looked_nowhere ns (suc from) q)
  where
    by_test : (b : Bool) → cond b (Some from) (index_from (suc from) q (names_in ns)) ≡ None → (index_from (suc from) q (names_in ns) ≡ None → look ns q ≡ None) → cond b (known_if m.known) (look ns q) ≡ None
    by_test true h after = absurd cc
    by_test false h after = after h

-- each index is below the number of the names
pub nowhere_above : (ns : List Named) (j : ℕ) (q : List ℕ) → index_from 0 q (names_in ns) ≡ Some j → length ns ≤ j → look ns q ≡ None
nowhere_above [] j q e high = refl
nowhere_above (m ∷ ns) j q e high =
    let at = looked_from (m ∷ ns) 0 j q m e in
    absurd (omega (arith, at.1, high))

-- the names that are built so far are those that are assigned
pub same_names : (all rest : List Assignment) (ns : List Named) → AreSound all rest ns → names_in ns ≡ assigned_names rest
same_names all [] [] h = refl
same_names all [] (n ∷ ns) h = absurd h
same_names all (a ∷ rest) [] h = absurd h
same_names all (a ∷ rest) (n ∷ ns) h = rw (h.0, same_names all rest ns h.2) refl

-- a map that finds the names that are assigned finds those that are built so far
pub finds_built : {S : Type 0} (indices : HashMap (Bor (List ℕ)) ℕ S) (all : List Assignment) (ns : List Named) → AreSound all all ns → Finds indices (assigned_names all) → Finds indices (names_in ns)
finds_built indices all ns sound finds q = rw (same_names all all ns sound) (finds q)

-- what a reference to the type built at an index says of the name
pub is_looked : (look : Option Meant) (o : Option Known) (r : Option (Bor Known)) → look ≡ known_if o → option_copied r ≡ o → MatchOption r (look ≡ None) (λ k. look ≡ Some (known_view k.now))
is_looked look o None here e = here ∙ ap known_if (sym e)
is_looked look o (Some k) here e = here ∙ ap known_if (sym e)

-- ---- the type of a name, where all are built

abbrev pub shape_if : Option Meant → Option Shape
shape_if None = None
shape_if (Some m) = Some m.shape

-- what a name has as its type is that of what it stands for
pub type_looked : (ns : List Named) (q : List ℕ) → unbuilt ns ≡ 0 → type_in (types_of ns) q ≡ shape_if (look ns q)
type_looked [] q e = refl
type_looked (n ∷ ns) q e = by_known n.known e (type_looked ns q)
  where
    by_known : (o : Option Known) → counted o (unbuilt ns) ≡ 0 → (unbuilt ns ≡ 0 → type_in (types_of ns) q ≡ shape_if (look ns q))
        → type_in (typed_if (string_bytes n.name) o (types_of ns)) q ≡ shape_if (cond (bytes_eq (string_bytes n.name) q) (known_if o) (look ns q))
    by_known None e others = absurd (omega (arith, e))
    by_known (Some k) e others = by_test (bytes_eq (string_bytes n.name) q) (others e)
      where
        by_test : (b : Bool) → type_in (types_of ns) q ≡ shape_if (look ns q)
            → cond b (Some (shape_of k.ty)) (type_in (types_of ns) q) ≡ shape_if (cond b (Some (known_view k)) (look ns q))
        by_test true h = refl
        by_test false h = h

-- ---- the names of all types, where all are built

pub names_typed : (ns : List Named) → unbuilt ns ≡ 0 → map (λ t. t.name) (types_of ns) ≡ names_in ns
names_typed [] e = refl
names_typed (n ∷ ns) e = by_known n.known e (names_typed ns)
  where
    by_known : (o : Option Known) → counted o (unbuilt ns) ≡ 0 → (unbuilt ns ≡ 0 → map (λ t. t.name) (types_of ns) ≡ names_in ns)
        → map (λ t. t.name) (typed_if (string_bytes n.name) o (types_of ns)) ≡ string_bytes n.name ∷ names_in ns
    by_known None e others = absurd (omega (arith, e))
    by_known (Some k) e others = ap (λ names. string_bytes n.name ∷ names) (others e)
