-- What was read with one length determinant of a list.
use Rattle.std.specs.Prelude.{◌≡◌, ◌≢◌, ◌+◌, ◌*◌, ◌≤◌, ◌⊎◌, ℕ, List, []}
use Rattle.asn_bits.specs.LengthBits.{BegunLengths, CountsLeft}
use Rattle.asn_rules.specs.Chunks.{Chunk}
use Rattle.asn_rules.specs.Live.{Fielding}
use Rattle.asn_rules.specs.Languages.{Spells}
use Rattle.asn_rules.specs.General.{Length, last, fragment, Header}

-- the lengths with which a list may go on
abbrev pub LengthsLeft : BegunLengths → Length → List Chunk → Type 0
LengthsLeft old = Header (CountsLeft old.counts old.blocks)

-- the length of the last items, with which the list ends
pub record LastLength (old : BegunLengths) (n : ℕ) (us rest : List ℕ) (new : BegunLengths) : Type 0 where
  pub spells : (R : Fielding) → Spells R (LengthsLeft old) (last n) us rest
  pub ends : new.bits ≢ []

-- the length of a fragment, after whose items another length comes
pub record FragmentLength (old : BegunLengths) (n : ℕ) (us rest : List ℕ) (new : BegunLengths) : Type 0 where
  pub blocks : ℕ
  pub some : 1 ≤ blocks
  pub most : blocks ≤ 4
  pub items : n ≡ 16384 * blocks
  pub spells : (R : Fielding) → Spells R (LengthsLeft old) (fragment blocks) us rest
  pub goes : new ≡ record { counts = old.counts; blocks = old.blocks + blocks; bits = [] }

-- this count of items follows at once
pub record NextLength (old : BegunLengths) (n : ℕ) (us rest : List ℕ) (new : BegunLengths) : Type 0 where
  pub read : LastLength old n us rest new ⊎ FragmentLength old n us rest new
