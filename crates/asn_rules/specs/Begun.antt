-- What is left of a language after plain units.
use Rattle.std.specs.Prelude.{◌≡◌, ℕ, List, ◌++◌}
use Rattle.asn_rules.specs.Chunks.{Chunk, ones}

-- the spellings that these units begin, without them
pub record After {V : Type 0} (us : List ℕ) (L : V → List Chunk → Type 0) (v : V) (cs : List Chunk) : Type 0 where
  pub spelt : L v (ones us ++ cs)

-- each spelling is plain units
pub record AllPlain {V : Type 0} (L : V → List Chunk → Type 0) : Type 0 where
  pub plain : (v : V) (cs : List Chunk) → L v cs → (us : List ℕ) × (cs ≡ ones us)
