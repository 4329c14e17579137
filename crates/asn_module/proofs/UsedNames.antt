-- Names that are put into a set, one after the other.
use Rattle.std.proofs.Common.{◌≡◌, ◌∙◌, ◌+◌, ◌<◌, ◌||◌, ℕ, zero, suc, Bool, true, false, cond, List, [], ◌∷◌, drop, length, get_or, Option, Some, None, refl, ap, arith}
use Rattle.std.specs.Prelude.{bytes_eq, is_some}
use Rattle.std.specs.Borrow.{Bor}
use Rattle.std.specs.Cmp.Lexicographic.{nat_list_eq_equiv}
use Rattle.asn_module.specs.Uses.{names_now}

first_name : (xs : List (Bor (List ℕ))) (i : ℕ) (d : Bor (List ℕ)) → i < length xs → names_now (drop i xs) ≡ (get_or xs i d).now ∷ names_now (drop (suc i) xs)
first_name [] i d h = absurd (omega arith)
first_name (x ∷ xs) zero d h = refl
first_name (x ∷ xs) (suc i) d h = first_name xs i d (omega arith)

-- the first of the names left, and the others
pub name_next : (xs : List (Bor (List ℕ))) (i : ℕ) (d : Bor (List ℕ)) → i < length xs → names_now (drop i xs) ≡ (get_or xs i d).now ∷ names_now (drop (i + 1) xs)
name_next xs i d h =
    let same : suc i ≡ i + 1 = omega arith in
    first_name xs i d h ∙ ap (λ k. (get_or xs i d).now ∷ names_now (drop k xs)) same

by_test : {V : Type 0} (v : V) (b : Bool) (old : Option V) (rest : Bool) → (is_some (cond b (Some v) old) || rest) ≡ (is_some old || (b || rest))
by_test v true None rest = refl
by_test v true (Some x) rest = refl
by_test v false None rest = refl
by_test v false (Some x) rest = refl

-- a name is in the set with one more, or among the rest, where it was in the set, or is that one, or is among the rest
pub put : {V : Type 0} (key q : List ℕ) (v : V) (old new : Option V) (rest : Bool) → new ≡ cond (bytes_eq key q) (Some v) old →
    (is_some new || rest) ≡ (is_some old || (bytes_eq q key || rest))
put key q v old new rest e = rw (e, nat_list_eq_equiv.symm q key) (by_test v (bytes_eq key q) old rest)
