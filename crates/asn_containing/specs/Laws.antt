-- What contents keep.
use Rattle.std.specs.Prelude.{◌+◌, ℕ, List}
use Rattle.asn_values.specs.Datum.{Datum}
use Rattle.asn_rules.specs.Answer.{Ruling}
use Rattle.asn_contents.specs.Contents.{Contents}
use Rattle.asn_containing.specs.Containing.{TableType, MeetWithin}

-- what meets in at most so many contents meets in at most more
abbrev pub MoreLevelsServe : Ruling → Type 0
MoreLevelsServe r = (T : List TableType) (c : Contents) (d : Datum) (n more : ℕ) → MeetWithin r T n c d → MeetWithin r T (n + more) c d
