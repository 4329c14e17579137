-- Where a window was begun.
use Rattle.std.specs.Prelude.{ℕ, List}
use Rattle.std.specs.Borrow.{GName}
use Rattle.asn_rules.specs.Held.{Held}

-- the writer and its state, and all bits that are to come
pub record Start : Type 0 where
  pub name : GName
  pub state : Held
  pub all : List ℕ
