-- The types built so far: what is built stands, and where no more can be built, all that have a type are.
use Rattle.std.proofs.Common.{◌≡◌, ◌+◌, ◌<◌, ◌≤◌, ℕ, zero, suc, Bool, true, false, cond, List, [], ◌∷◌, ◌++◌, get_or, set, take, length, Option, Some, None, refl, sym, ap, subst, arith}
use Rattle.std.specs.Prelude.{bytes_eq, string_bytes}
use Rattle.std.specs.List.{AllByRecursion}
use Rattle.asn_values.specs.View.{shape_of}
use Rattle.asn_values.specs.Profile.{InProfile}
use Rattle.asn_notation.specs.declared.notation.AssignmentNotation.{AssignmentNotation}
use Rattle.asn_notation.specs.Tree.{Tree, Assignment, assignment_view, assignments_view}
use Rattle.asn_module.specs.declared.known.Known.{Known}
use Rattle.asn_module.specs.declared.known.Named.{Named}
use Rattle.asn_module.specs.Meaning.{Meant, meant, assigned, stands_for}
use Rattle.asn_module.specs.Known.{known_view, known_if, look, IsSound, AreSound, AreAllSound, IsDone, AreDone, IsBuiltAt, Attempted, counted, unbuilt, typed_if, types_of, size_if, built_size}
use Rattle.asn_module.specs.Accepted.{Typed, AreTypes, StandsFor}
use Rattle.asn_module.specs.Sizes.{type_size, types_size}
use Rattle.asn_module.specs.Bounded.{AreLarger}
use Rattle.asn_module.proofs.Meanings.{Extends, same_some, meant_more, stands_by, more_steps, one_meaning, step_at, nothing_yet}

abbrev with_known : Named → Known → Named
with_known n k = record { name = n.name; known = Some k }

-- ---- one more is built

pub same_length : (all rest : List Assignment) (ns : List Named) → AreSound all rest ns → length ns ≡ length rest
same_length all [] [] h = refl
same_length all [] (n ∷ ns) h = absurd h
same_length all (a ∷ rest) [] h = absurd h
same_length all (a ∷ rest) (n ∷ ns) h = ap suc (same_length all rest ns h.2)

set_sound : (all rest : List Assignment) (ns : List Named) (i : ℕ) (a : Assignment) (n : Named) (k : Known) → AreSound all rest ns → i < length ns → a ≡ get_or rest i a → n ≡ get_or ns i n
    → IsSound all a.tree (Some k) → AreSound all rest (set ns i (with_known n k))
set_sound all [] [] i a n k h less ea en s = absurd (omega arith)
set_sound all [] (m ∷ ns) i a n k h less ea en s = absurd h
set_sound all (b ∷ rest) [] i a n k h less ea en s = absurd h
set_sound all (b ∷ rest) (m ∷ ns) zero a n k h less ea en s =
    (subst (λ (z : Named). string_bytes z.name ≡ b.name) (sym en) h.0, subst (λ (z : Assignment). IsSound all z.tree (Some k)) ea s, h.2)
set_sound all (b ∷ rest) (m ∷ ns) (suc i) a n k h less ea en s = (h.0, h.1, set_sound all rest ns i a n k h.2 (omega arith) ea en s)

counted_less : (o : Option Known) (a b : ℕ) → a < b → counted o a < counted o b
counted_less None a b h = omega arith
counted_less (Some k) a b h = h

set_fewer : (ns : List Named) (i : ℕ) (n : Named) (k : Known) → i < length ns → n ≡ get_or ns i n → n.known ≡ None → unbuilt (set ns i (with_known n k)) < unbuilt ns
set_fewer [] i n k less en none = absurd (omega arith)
set_fewer (m ∷ ns) zero n k less en none =
    let here : m.known ≡ None = subst (λ (z : Named). z.known ≡ None) en none in
    rw here (omega arith)
set_fewer (m ∷ ns) (suc i) n k less en none = counted_less m.known (unbuilt (set ns i (with_known n k))) (unbuilt ns) (set_fewer ns i n k (omega arith) en none)

-- ---- what is built of names is what they stand for, all in one number of steps

-- what a name has among these, where all is built in n steps
abbrev HasWithin : List Assignment → List Assignment → List Named → ℕ → Type 0
HasWithin all rest ns n = (q : List ℕ) (m : Meant) → look ns q ≡ Some m → (tree : Tree) × (assigned q rest ≡ Some tree) × (meant (stands_for n all) tree ≡ Some m)

head_within : (all : List Assignment) (tree : Tree) (o : Option Known) → IsSound all tree o → (n : ℕ) × ((m : Meant) → known_if o ≡ Some m → meant (stands_for n all) tree ≡ Some m)
head_within all tree None h = (zero, λ m e. absurd cc)
head_within all tree (Some k) h =
    let (n, is) = h.0 in
    (n, λ m e. subst (λ (z : Meant). meant (stands_for n all) tree ≡ Some z) (same_some (known_view k) m e) is)

more_meant : (all : List Assignment) (n k : ℕ) (tree : Tree) (m : Meant) → meant (stands_for n all) tree ≡ Some m → meant (stands_for (n + k) all) tree ≡ Some m
more_meant all n k tree m e = meant_more (stands_for n all) (stands_for (n + k) all) (more_steps n k all) tree m e

one_of_both : (all rest : List Assignment) (b : Bool) (tree : Tree) (o : Option Known) (ns : List Named) (x y : ℕ) (q : List ℕ) (m : Meant)
    → ((m : Meant) → known_if o ≡ Some m → meant (stands_for x all) tree ≡ Some m) → HasWithin all rest ns y
    → cond b (known_if o) (look ns q) ≡ Some m → (t : Tree) × (cond b (Some tree) (assigned q rest) ≡ Some t) × (meant (stands_for (x + y) all) t ≡ Some m)
one_of_both all rest true tree o ns x y q m here others e = (tree, refl, more_meant all x y tree m (here m e))
one_of_both all rest false tree o ns x y q m here others e =
    let (t, et, em) = others q m e in
    let turned : y + x ≡ x + y = omega arith in
    (t, et, rw turned at (more_meant all y x t m em))

within : (all rest : List Assignment) (ns : List Named) → AreSound all rest ns → (n : ℕ) × HasWithin all rest ns n
within all [] [] h = (zero, λ q m e. absurd cc)
within all [] (n ∷ ns) h = absurd h
within all (a ∷ rest) [] h = absurd h
within all (a ∷ rest) (n ∷ ns) h =
    let (x, here) = head_within all a.tree n.known h.1 in
    let (y, others) = within all rest ns h.2 in
    (x + y, λ q m e. one_of_both all rest (bytes_eq a.name q) a.tree n.known ns x y q m here others (rw h.0 at e))

looked : (all : List Assignment) (ns : List Named) → AreSound all all ns → (n : ℕ) × Extends (look ns) (stands_for n all)
looked all ns h =
    let (n, has) = within all all ns h in
    (suc n, λ q m e. by_tree n q m (has q m e))
  where
    by_tree : (n : ℕ) (q : List ℕ) (m : Meant) → ((tree : Tree) × (assigned q all ≡ Some tree) × (meant (stands_for n all) tree ≡ Some m)) → stands_for (suc n) all q ≡ Some m
    by_tree n q m (tree, here, is) = stands_by n all q tree m here is

pub attempt_sound : (all : List Assignment) (old new : List Named) (i : ℕ) (a : Assignment) → AreSound all all old → i < length old → a ≡ get_or all i a → IsBuiltAt a.tree i old new → AreSound all all new
attempt_sound all old new i a h less ea built =
    let (n, extends) = looked all old h in
    let stands = meant_more (look old) (stands_for n all) extends a.tree (known_view built.known) built.is in
    rw built.now (set_sound all all old i a built.named built.known h less ea built.there ((n, stands), built.of_profile))

-- what is built stands after an attempt, whatever came of it
pub attempted_sound : (b : Bool) (all : List Assignment) (old new : List Named) (i : ℕ) (a : Assignment) → AreSound all all old → i < length old → a ≡ get_or all i a → Attempted b a.tree i old new → AreSound all all new
attempted_sound true all old new i a h less ea tried = attempt_sound all old new i a h less ea tried
attempted_sound false all old new i a h less ea tried = subst (λ (z : List Named). AreSound all all z) (sym tried.0) h

pub attempt_fewer : (tree : Tree) (old new : List Named) (i : ℕ) → i < length old → IsBuiltAt tree i old new → unbuilt new < unbuilt old
attempt_fewer tree old new i less built = rw built.now (set_fewer old i built.named built.known less built.there built.before)

-- ---- where no more can be built

-- each has a type of the profile
pub record HasType (all : List Assignment) (a : Assignment) : Type 0 where
  pub steps : ℕ
  pub meaning : Meant
  pub is : meant (stands_for steps all) a.tree ≡ Some meaning
  pub of_profile : InProfile meaning.shape

-- what is done of a tree that has a type is built
done_known : (all : List Assignment) (known : List ℕ → Option Meant) (a : Assignment) (o : Option Known) (n : ℕ) (m : Meant) → IsSound all a.tree o → IsDone known a.tree o → HasType all a
    → meant (stands_for n all) a.tree ≡ Some m → meant known a.tree ≡ Some m → known_if o ≡ Some m
done_known all known a None n m sound done has e h =
    let same : has.meaning ≡ m = one_meaning has.steps n all a.tree has.meaning m has.is e in
    absurd (done m h (subst (λ (z : Meant). InProfile z.shape) same has.of_profile))
done_known all known a (Some k) n m sound done has e h =
    let (steps, is) = sound.0 in
    ap Some (one_meaning steps n all a.tree (known_view k) m is e)

found : (all : List Assignment) (known : List ℕ → Option Meant) (rest : List Assignment) (ns : List Named) (q : List ℕ) (tree : Tree) (n : ℕ) (m : Meant)
    → AreSound all rest ns → AreDone known rest ns → AllByRecursion (HasType all) rest → assigned q rest ≡ Some tree
    → meant (stands_for n all) tree ≡ Some m → meant known tree ≡ Some m → look ns q ≡ Some m
found all known [] ns q tree n m sound done has here e h = absurd cc
found all known (a ∷ rest) [] q tree n m sound done has here e h = absurd sound
found all known (a ∷ rest) (x ∷ ns) q tree n m sound done has here e h =
    rw sound.0 (by_test (bytes_eq a.name q) here (λ other. found all known rest ns q tree n m sound.2 done.1 has.1 other e h))
  where
    by_test : (b : Bool) → cond b (Some a.tree) (assigned q rest) ≡ Some tree → (assigned q rest ≡ Some tree → look ns q ≡ Some m) → cond b (known_if x.known) (look ns q) ≡ Some m
    by_test true same after =
        let it : a.tree ≡ tree = same_tree a.tree tree same in
        done_known all known a x.known n m sound.1 done.0 has.0 (subst (λ (z : Tree). meant (stands_for n all) z ≡ Some m) (sym it) e) (subst (λ (z : Tree). meant known z ≡ Some m) (sym it) h)
      where
        same_tree : (x y : Tree) → Some x ≡ Some y → x ≡ y
        same_tree x y e = cc
    by_test false other after = after other

all_looked : (all : List Assignment) (ns : List Named) → AllByRecursion (HasType all) all → AreSound all all ns → AreDone (look ns) all ns → (n : ℕ) → Extends (stands_for n all) (look ns)
all_looked all ns has sound done zero q m e = absurd (nothing_yet all q m e)
all_looked all ns has sound done (suc n) q m e =
    let (tree, here, there) = step_at n all q m e in
    found all (look ns) all ns q tree n m sound done has here there (meant_more (stands_for n all) (look ns) (all_looked all ns has sound done n) tree m there)

none_left : (all : List Assignment) (known : List ℕ → Option Meant) → ((n : ℕ) → Extends (stands_for n all) known) → (rest : List Assignment) (ns : List Named)
    → AreSound all rest ns → AreDone known rest ns → AllByRecursion (HasType all) rest → unbuilt ns ≡ 0
none_left all known looks [] [] sound done has = refl
none_left all known looks [] (n ∷ ns) sound done has = absurd sound
none_left all known looks (a ∷ rest) [] sound done has = absurd sound
none_left all known looks (a ∷ rest) (n ∷ ns) sound done has = by_known n.known sound.1 done.0 (none_left all known looks rest ns sound.2 done.1 has.1)
  where
    by_known : (o : Option Known) → IsSound all a.tree o → IsDone known a.tree o → unbuilt ns ≡ 0 → counted o (unbuilt ns) ≡ 0
    by_known None s d others = absurd (d has.0.meaning (meant_more (stands_for has.0.steps all) known (looks has.0.steps) a.tree has.0.meaning has.0.is) has.0.of_profile)
    by_known (Some k) s d others = others

-- where each has a type, and no more can be built, all are built
pub all_built : (all : List Assignment) (ns : List Named) → AllByRecursion (HasType all) all → AreSound all all ns → AreDone (look ns) all ns → unbuilt ns ≡ 0
all_built all ns has sound done = none_left all (look ns) (all_looked all ns has sound done) all ns sound done has

-- ---- all are built

pub are_types : (all rest : List Assignment) (ns : List Named) → AreSound all rest ns → unbuilt ns ≡ 0 → AreTypes all rest (types_of ns)
are_types all [] [] sound e = tt
are_types all [] (n ∷ ns) sound e = absurd sound
are_types all (a ∷ rest) [] sound e = absurd sound
are_types all (a ∷ rest) (n ∷ ns) sound e = by_known n.known sound.1 e (are_types all rest ns sound.2)
  where
    by_known : (o : Option Known) → IsSound all a.tree o → counted o (unbuilt ns) ≡ 0 → (unbuilt ns ≡ 0 → AreTypes all rest (types_of ns)) → AreTypes all (a ∷ rest) (typed_if (string_bytes n.name) o (types_of ns))
    by_known None s e others = absurd (omega arith)
    by_known (Some k) s e others =
        let (steps, is) = s.0 in
        (sound.0, record { steps = steps; constraint = k.constraint; is = is }, s.1, others e)

pub have_types : (all rest : List Assignment) (ts : List Typed) → AreTypes all rest ts → AllByRecursion (HasType all) rest
have_types all [] [] h = tt
have_types all [] (t ∷ ts) h = absurd h
have_types all (a ∷ rest) [] h = absurd h
have_types all (a ∷ rest) (t ∷ ts) h =
    (record { steps = h.1.steps; meaning = record { shape = t.shape; constraint = h.1.constraint }; is = h.1.is; of_profile = h.2 }, have_types all rest ts h.3)

-- ---- one turn of a loop over the assignments

pub view_at : (xs : List AssignmentNotation) (i : ℕ) (x : AssignmentNotation) → i < length xs → x ≡ get_or xs i x → assignment_view x ≡ get_or (assignments_view xs) i (assignment_view x)
view_at [] i x less e = absurd (omega arith)
view_at (y ∷ xs) zero x less e = ap assignment_view e
view_at (y ∷ xs) (suc i) x less e = view_at xs i x (omega arith) e

pub length_view : (xs : List AssignmentNotation) → length (assignments_view xs) ≡ length xs
length_view [] = refl
length_view (x ∷ xs) = ap suc (length_view xs)

pub done_next : (known : List ℕ → Option Meant) (rest : List Assignment) (ns : List Named) (i : ℕ) (a : Assignment) → length ns ≡ length rest → i < length rest → a ≡ get_or rest i a
    → AreDone known (take i rest) ns → ((n : Named) → n ≡ get_or ns i n → IsDone known a.tree n.known) → AreDone known (take (suc i) rest) ns
done_next known [] ns i a same less ea done h = absurd (omega arith)
done_next known (b ∷ rest) [] i a same less ea done h = absurd (omega arith)
done_next known (b ∷ rest) (m ∷ ns) zero a same less ea done h = (subst (λ (z : Assignment). IsDone known z.tree m.known) ea (h m refl), tt)
done_next known (b ∷ rest) (m ∷ ns) (suc i) a same less ea done h = (done.0, done_next known rest ns i a (omega arith) (omega arith) ea done.1 h)

pub names_next : (all rest : List Assignment) (ns : List Named) (i : ℕ) (a : Assignment) (n : Named) → i < length rest → a ≡ get_or rest i a → AreSound all (take i rest) ns → string_bytes n.name ≡ a.name → n.known ≡ None
    → AreSound all (take (suc i) rest) (ns ++ n ∷ [])
names_next all [] ns i a n less ea sound e none = absurd (omega arith)
names_next all (b ∷ rest) [] zero a n less ea sound e none = (subst (λ (z : Assignment). string_bytes n.name ≡ z.name) ea e, subst (λ (z : Option Known). IsSound all b.tree z) (sym none) tt, tt)
names_next all (b ∷ rest) (m ∷ ns) zero a n less ea sound e none = absurd sound
names_next all (b ∷ rest) [] (suc i) a n less ea sound e none = absurd sound
names_next all (b ∷ rest) (m ∷ ns) (suc i) a n less ea sound e none = (sound.0, sound.1, names_next all rest ns i a n (omega arith) ea sound.2 e none)

-- ---- how large what is built is

pub size_built : (ns : List Named) → types_size (types_of ns) ≡ built_size ns
size_built [] = refl
size_built (n ∷ ns) = by_known n.known (size_built ns)
  where
    by_known : (o : Option Known) → types_size (types_of ns) ≡ built_size ns → types_size (typed_if (string_bytes n.name) o (types_of ns)) ≡ size_if o + built_size ns
    by_known None e = omega (arith, e)
    by_known (Some k) e = rw e refl

-- the type of a name is no smaller than what is built of it
one_at_most : (all : List Assignment) (a : Assignment) (t : Typed) (o : Option Known) → IsSound all a.tree o → StandsFor all a t.shape → size_if o ≤ type_size t.shape
one_at_most all a t None sound stands = omega arith
one_at_most all a t (Some k) sound stands =
    let (n, is) = sound.0 in
    let same = one_meaning n stands.steps all a.tree (known_view k) (record { shape = t.shape; constraint = stands.constraint }) is stands.is in
    let equal : type_size (shape_of k.ty) ≡ type_size t.shape = ap (λ (m : Meant). type_size m.shape) same in
    omega (arith, equal)

built_at_most : (all rest : List Assignment) (ns : List Named) (ts : List Typed) → AreSound all rest ns → AreTypes all rest ts → built_size ns ≤ types_size ts
built_at_most all [] [] ts sound typed = omega arith
built_at_most all [] (n ∷ ns) ts sound typed = absurd sound
built_at_most all (a ∷ rest) [] ts sound typed = absurd sound
built_at_most all (a ∷ rest) (n ∷ ns) [] sound typed = absurd typed
built_at_most all (a ∷ rest) (n ∷ ns) (t ∷ ts) sound typed =
    let here = one_at_most all a t n.known sound.1 typed.1 in
    let others = built_at_most all rest ns ts sound.2 typed.3 in
    omega (arith, here, others)

-- where what is built is larger than a bound, whatever types the assignments have are
pub larger_than : (all : List AssignmentNotation) (ns : List Named) (most : ℕ) → AreAllSound all ns → most < built_size ns → AreLarger all (Some most)
larger_than all ns most sound more ts typed =
    let few = built_at_most (assignments_view all) (assignments_view all) ns ts sound typed in
    omega (arith, more, few)
