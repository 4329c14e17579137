-- What is said of a value that is there, said otherwise.
use Rattle.std.specs.Prelude.{Option, Some, None, IfSome, IsSomeAnd, ⊤}

-- where there is one of which one thing holds, another holds of it that follows
pub some_then : {A : Type 0} (o : Option A) (P Q : A → Type 0) → ((x : A) → P x → Q x) → IsSomeAnd o P → IsSomeAnd o Q
some_then None P Q f h = h
some_then (Some x) P Q f h = f x h

-- and so where there is one or none
pub if_some : {A : Type 0} (o : Option A) (P Q : A → Type 0) → ((x : A) → P x → Q x) → IsSomeAnd o P → IfSome o Q
if_some None P Q f h = tt
if_some (Some x) P Q f h = f x h
