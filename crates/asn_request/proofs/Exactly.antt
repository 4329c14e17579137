-- A value of which it is said what it is.
use Rattle.std.proofs.Common.{◌≡◌, ap, Option, Some, None}
use Rattle.std.specs.Option.{IsSomeAnd}

pub exactly : {X : Type 0} (o : Option X) (v : X) → IsSomeAnd o (λ r. r ≡ v) → o ≡ Some v
exactly (Some x) v is = ap Some is
exactly None v is = absurd is
