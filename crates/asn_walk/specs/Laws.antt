-- The laws that the parts keep: from them follow the readers of all composite kinds.
use Rattle.std.specs.Prelude.{◌≡◌, ◌≤◌, ◌<◌, ◌*◌, ℕ, true, false, List, length, Option, Some, None}
use Rattle.asn_values.specs.Datum.{Datum}
use Rattle.asn_values.specs.Shape.{SizeRange, Shape, boolean, null, integer, enumerated, bit_string, octet_string, restricted, utf8_string, sequence, sequence_of, choice, Fields, MoreFields, Alternatives, MoreAlternatives}
use Rattle.asn_values.specs.Profile.{InProfile, size_above, large_size, is_every_length}
use Rattle.asn_bits.specs.Numbers.{unpacked}
use Rattle.asn_rules.specs.Chunks.{Chunk}
use Rattle.asn_rules.specs.Forks.{Same}
use Rattle.asn_rules.specs.Languages.{Lawful}
use Rattle.asn_rules.specs.Laws.{AreOctets, WholesTell}
use Rattle.asn_rules.specs.Listed.{Spelt}
use Rattle.asn_rules.specs.Padding.{Padded}
use Rattle.asn_rules.specs.Parted.{SpellingsPart}
use Rattle.asn_rules.specs.Reading.{Wholes, RulesTell}
use Rattle.asn_walk.specs.Ahead.{Ahead, SomeAhead}
use Rattle.asn_walk.specs.Coding.{Coding, PreambleOf, AdditionBitmapOf, AreFew, IndexOf, SequencesOf, ListsOf, ChoicesOf}

-- a size of the profile: its bounds are in order and not too large, and its mark adds counts
pub record IsSizeOfProfile (s : SizeRange) : Type 0 where
  pub ordered : size_above s ≡ false
  pub small : large_size (Some s) ≡ false
  pub useful : is_every_length (Some s) ≡ false

-- the kinds of type that the rules read by themselves
abbrev pub IsSimple : Shape → Type 0
IsSimple (sequence root more) = ⊥
IsSimple (sequence_of t s) = ⊥
IsSimple (choice root more) = ⊥
IsSimple _ = Unit {0}

pub record Laws (c : Coding) : Type 0 where
  pub tells : RulesTell c.ruling
  pub wholes : WholesTell c.ruling
  pub part : SpellingsPart c.code
  -- octets under a cursor are the units of the rules
  pub over : (o : List ℕ) → AreOctets o → c.to_units (unpacked o) ≡ c.ruling.units o
  -- an octet has one to eight units
  pub count : (o : List ℕ) → length (c.ruling.units o) ≡ c.octet_units * length o
  pub some : 1 ≤ c.octet_units
  pub few : c.octet_units ≤ 8
  pub begin : (o : List ℕ) → AreOctets o → c.at_unit (unpacked o)
  -- the parts tell their values
  pub preamble : (n : ℕ) (more : Option ℕ) → Lawful (PreambleOf c n more)
  pub addition_bitmap : (n : ℕ) → Lawful (AdditionBitmapOf c n)
  pub index : (root : ℕ) (more : Option ℕ) → AreFew root more → Lawful (IndexOf c root more)
  pub list_start : (s : SizeRange) → IsSizeOfProfile s → Lawful (c.list_start s)
  pub list_ahead : (s : SizeRange) → IsSizeOfProfile s → (a : Ahead) (cs : List Chunk) → c.list_start s a cs
      → SomeAhead a
  -- the kinds are put together from the parts
  pub sequences : (root : Fields) (more : MoreFields) → InProfile (sequence root more)
      → Same (SequencesOf c root more) (Spelt c.code None (sequence root more))
  pub lists : (t : Shape) (s : SizeRange) → InProfile (sequence_of t s)
      → Same (ListsOf c t s) (Spelt c.code None (sequence_of t s))
  pub choices : (root : Alternatives) (more : MoreAlternatives) → InProfile (choice root more)
      → Same (ChoicesOf c root more) (Spelt c.code None (choice root more))
  pub filled : (t : Shape) → InProfile t
      → Same (Padded c.ruling.fielding c.padding (Spelt c.code None t)) (Wholes c.ruling t)
