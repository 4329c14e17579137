-- What is left of a number some of whose digits have been read.
use Rattle.std.specs.Prelude.{◌+◌, ◌*◌, ◌^◌, ℕ, List}
use Rattle.asn_rules.specs.Chunks.{Chunk}
use Rattle.asn_rules.specs.Languages.{Map, Plain}
use Rattle.asn_bits.specs.Sets.{InDigits}

-- the number that begins with the digits of p and ends with r more, which hold m
abbrev pub ending : ℕ → ℕ → ℕ → ℕ → ℕ
ending base p r m = p * base ^ r + m

-- the last r digits of the numbers of the set that begin with the digits of p
abbrev pub NumberLeft : ℕ → (ℕ → Type 0) → ℕ → ℕ → ℕ → List Chunk → Type 0
NumberLeft base S p r = Map (ending base p r) (Plain (InDigits base r (λ m. S (ending base p r m))))
