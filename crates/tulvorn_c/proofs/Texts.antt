-- Texts, and what is asked of an object that is there.
use Rattle.std.proofs.Common.{◌≡◌, List, ℕ, [], ◌∷◌, ◌++◌, Option, Some, None}
use Rattle.std.specs.Prelude.{codes, IsSome, ⊤}
use Rattle.tulvorn_c.specs.declared.fault.Fault.{Fault}
use Rattle.tulvorn_c.specs.Answers.{Asked}

-- a text with a colon is not empty
pub not_empty : (path reason : List ℕ) → path ++ (codes ": " ++ reason) ≡ [] → ⊥
not_empty [] reason e = cc
not_empty (x ∷ xs) reason e = cc

-- a text with words in front is not empty
pub refused_at : (rest : List ℕ) → codes "refused at " ++ rest ≡ [] → ⊥
refused_at rest e = cc

-- what is told of a thing that is there does not rest on what would stay else
pub asked_some : {A : Type 0} (thing : Option A) (Stays : Type 0) (Tells : A → Fault → Type 0) (fault : Fault) → IsSome thing → Asked thing ⊤ Tells fault → Asked thing Stays Tells fault
asked_some None Stays Tells fault some told = cc
asked_some (Some a) Stays Tells fault some told = told
