-- What was pushed, told otherwise, and what is said of a call that succeeded.
use Rattle.std.proofs.Common.{◌≡◌, ℕ, List, subst, Result, Ok, Err}
use Rattle.std.specs.Prelude.{OnOk}

-- the same bits, told otherwise
pub pushed_same : {Sink : Type 0} (push : Sink → Sink → List ℕ → Type 0) (a b : Sink) {xs ys : List ℕ} → xs ≡ ys → push a b xs → push a b ys
pushed_same push a b e p = subst (λ x. push a b x) e p

-- what is said of a call that succeeded, told otherwise
pub on_ok : {A E P Q : Type 0} (r : Result A E) → (P → Q) → OnOk r P → OnOk r Q
on_ok (Ok x) f p = f p
on_ok (Err e) f p = p
