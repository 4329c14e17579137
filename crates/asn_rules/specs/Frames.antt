-- Sealed fields by their spelling, whatever is in them.
use Rattle.std.specs.Prelude.{◌≡◌, ℕ, List}
use Rattle.asn_rules.specs.Chunks.{Kind, Chunk, field_units}
use Rattle.asn_rules.specs.Live.{Fielding, IsContent}
use Rattle.asn_rules.specs.Languages.{Plain}

-- the units are the sealed field of the content, which such a field may have
pub record IsField (R : Fielding) (k : Kind) (c us : List ℕ) : Type 0 where
  pub contents : IsContent R k c
  pub same : us ≡ field_units R.spelled k c

-- the contents of a kind of sealed field, spelt by the units of the field
abbrev pub Frame : Fielding → Kind → List ℕ → List Chunk → Type 0
Frame R k = Plain (IsField R k)
