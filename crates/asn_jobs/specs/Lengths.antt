-- How long messages are.
use Rattle.std.specs.Prelude.{◌≡◌, ◌≤◌, ◌<◌, ◌+◌, ◌⊎◌, ◌^◌, ℕ, List, length, sum}
use Rattle.std.specs.List.{All, Contains}
use Rattle.asn_jobs.specs.declared.sizes.Sizes.{Sizes}

-- the sizes of messages of these lengths
pub record AreSizesOf (lengths : List ℕ) (s : Sizes) : Type 0 where
  pub count : s.count ≡ length lengths
  pub octets : s.octets ≡ sum lengths
  -- the least and the greatest are lengths, where there is one, and no length is beyond them
  pub least : All (λ n. s.least ≤ n) lengths
  pub greatest : All (λ n. n ≤ s.greatest) lengths
  pub least_is_one : 0 < length lengths → Contains lengths s.least
  pub greatest_is_one : 0 < length lengths → Contains lengths s.greatest
  pub none : length lengths ≡ 0 → (s.least ≡ 0) × (s.greatest ≡ 0)

-- one message more, of this length, makes the messages or their octets more than 2^64 - 1
abbrev pub PassCounts : Sizes → ℕ → Type 0
PassCounts s octets = (2 ^ 64 ≤ s.count + 1) ⊎ (2 ^ 64 ≤ s.octets + octets)
