-- What trees stand for, where more is known of names.
use Rattle.std.proofs.Common.{◌≡◌, ◌+◌, ℕ, zero, suc, List, Option, Some, None, refl, sym, ◌∙◌, arith}
use Rattle.asn_values.specs.Shape.{Fields, MoreFields, Alternatives, MoreAlternatives}
use Rattle.asn_values.specs.Shape as s
use Rattle.asn_notation.specs.Tree as t
use Rattle.asn_notation.specs.Tree.{Tree, Components, More, Assignment}
use Rattle.asn_module.specs.Meaning.{Meant, ◌>>=◌, meant, fields_meant, more_meant, alternatives_meant, more_alternatives_meant, list_meant, constrained, demand_meant, assigned, stands_for, free}

-- what the second names stand for agrees with the first, where these stand for something
abbrev pub Extends : (List ℕ → Option Meant) → (List ℕ → Option Meant) → Type 0
Extends look more = (name : List ℕ) (m : Meant) → look name ≡ Some m → more name ≡ Some m

-- a step that gives a value, and the value of what follows it
pub taken : {A B : Type 0} (r : Option A) (f : A → Option B) (y : B) → (r >>= f) ≡ Some y → (x : A) × (r ≡ Some x) × (f x ≡ Some y)
taken None f y e = absurd cc
taken (Some x) f y e = (x, refl, e)

pub same_some : {A : Type 0} (x y : A) → Some x ≡ Some y → x ≡ y
same_some x y e = cc

module _ (look more : List ℕ → Option Meant) (extends : Extends look more) where
  mutual
    unfolding meant

    pub meant_more : (tree : Tree) (m : Meant) → meant look tree ≡ Some m → meant more tree ≡ Some m
    meant_more t.boolean m e = e
    meant_more t.null m e = e
    meant_more t.utf8 m e = e
    meant_more (t.integer r) m e = e
    meant_more (t.enumerated root items) m e = e
    meant_more (t.text kind size) m e = e
    meant_more (t.sequence root rest) m e =
        let (fs, ef, after) = taken (fields_meant look root) (λ fs. more_meant look rest >>= (λ ms. Some (free (s.sequence fs ms)))) m e in
        let (ms, em, last) = taken (more_meant look rest) (λ ms. Some (free (s.sequence fs ms))) m after in
        rw (fields_more root fs ef, additions_more rest ms em) last
    meant_more (t.sequence_of size element) m e =
        let (x, ex, last) = taken (meant look element) (λ x. Some (list_meant x.shape size)) m e in
        rw (meant_more element x ex) last
    meant_more (t.choice root rest) m e =
        let (xs, ex, after) = taken (alternatives_meant look root) (λ xs. more_alternatives_meant look rest >>= (λ ms. Some (free (s.choice xs ms)))) m e in
        let (ms, em, last) = taken (more_alternatives_meant look rest) (λ ms. Some (free (s.choice xs ms))) m after in
        rw (alternatives_more root xs ex, choices_more rest ms em) last
    meant_more (t.reference name c) m e =
        let (x, ex, last) = taken (look name) (λ x. constrained x c) m e in
        rw (extends name x ex) last

    fields_more : (cs : Components) (fs : Fields) → fields_meant look cs ≡ Some fs → fields_meant more cs ≡ Some fs
    fields_more t.no_components fs e = e
    fields_more (t.component name tree need rest) fs e =
        let (x, ex, after) = taken (meant look tree) (λ x. fields_meant look rest >>= (λ fs. Some (s.field name (demand_meant x.shape need) x.shape fs))) fs e in
        let (inner, ei, last) = taken (fields_meant look rest) (λ inner. Some (s.field name (demand_meant x.shape need) x.shape inner)) fs after in
        rw (meant_more tree x ex, fields_more rest inner ei) last

    additions_more : (cs : More) (fs : MoreFields) → more_meant look cs ≡ Some fs → more_meant more cs ≡ Some fs
    additions_more t.closed fs e = e
    additions_more (t.marked rest) fs e =
        let (inner, ei, last) = taken (fields_meant look rest) (λ inner. Some (s.marked inner)) fs e in
        rw (fields_more rest inner ei) last

    alternatives_more : (cs : t.Alternatives) (xs : Alternatives) → alternatives_meant look cs ≡ Some xs → alternatives_meant more cs ≡ Some xs
    alternatives_more t.no_alternatives xs e = e
    alternatives_more (t.alternative name tree rest) xs e =
        let (x, ex, after) = taken (meant look tree) (λ x. alternatives_meant look rest >>= (λ xs. Some (s.one_of name x.shape xs))) xs e in
        let (inner, ei, last) = taken (alternatives_meant look rest) (λ inner. Some (s.one_of name x.shape inner)) xs after in
        rw (meant_more tree x ex, alternatives_more rest inner ei) last

    choices_more : (cs : t.MoreAlternatives) (xs : MoreAlternatives) → more_alternatives_meant look cs ≡ Some xs → more_alternatives_meant more cs ≡ Some xs
    choices_more t.closed_choice xs e = e
    choices_more (t.marked_choice rest) xs e =
        let (inner, ei, last) = taken (alternatives_meant look rest) (λ inner. Some (s.marked_choice inner)) xs e in
        rw (alternatives_more rest inner ei) last

-- ---- more references

-- what one step of a name gives
pub step_at : (n : ℕ) (all : List Assignment) (name : List ℕ) (m : Meant) → stands_for (suc n) all name ≡ Some m → (tree : Tree) × (assigned name all ≡ Some tree) × (meant (stands_for n all) tree ≡ Some m)
unfolding stands_for
step_at n all name m e = taken (assigned name all) (meant (stands_for n all)) m e

pub stands_by : (n : ℕ) (all : List Assignment) (name : List ℕ) (tree : Tree) (m : Meant) → assigned name all ≡ Some tree → meant (stands_for n all) tree ≡ Some m → stands_for (suc n) all name ≡ Some m
unfolding stands_for
stands_by n all name tree m e h = rw e h

pub nothing_yet : (all : List Assignment) (name : List ℕ) (m : Meant) → stands_for zero all name ≡ Some m → ⊥
unfolding stands_for
nothing_yet all name m e = absurd cc

pub more_steps : (n k : ℕ) (all : List Assignment) → Extends (stands_for n all) (stands_for (n + k) all)
more_steps zero k all name m e = absurd (nothing_yet all name m e)
more_steps (suc n) k all name m e =
    let (tree, here, there) = step_at n all name m e in
    let one : suc n + k ≡ suc (n + k) = omega arith in
    rw one (stands_by (n + k) all name tree m here (meant_more (stands_for n all) (stands_for (n + k) all) (more_steps n k all) tree m there))

-- a tree stands for one type, however many steps are taken
pub one_meaning : (n k : ℕ) (all : List Assignment) (tree : Tree) (x y : Meant) → meant (stands_for n all) tree ≡ Some x → meant (stands_for k all) tree ≡ Some y → x ≡ y
one_meaning n k all tree x y ex ey =
    let turned : k + n ≡ n + k = omega arith in
    let left = meant_more (stands_for n all) (stands_for (n + k) all) (more_steps n k all) tree x ex in
    let right = meant_more (stands_for k all) (stands_for (k + n) all) (more_steps k n all) tree y ey in
    same_some x y (sym left ∙ (rw turned at right))
