-- What a text says of how a type differs from the published one.
use Rattle.std.specs.Prelude.{◌≡◌, ◌++◌, ℕ, List, Option, Some, false, codes, option_map, string_bytes}
use Rattle.asn_published_types.specs.Words.{words_of}
use Rattle.asn_published.specs.declared.marks.Looked.{Looked}
use Rattle.asn_published.specs.declared.marks.Marks.{Marks}
use Rattle.asn_published.specs.declared.marks.Place.{Place}
use Rattle.asn_published.specs.declared.told.Said.{Said}
use Rattle.asn_published.specs.declared.told.Said.TheVariants as said

-- the words of what is said
abbrev pub said_words : Said → List ℕ
said_words (said.Remark remark) = words_of remark
said_words (said.Told words) = string_bytes words

-- what a text says of how the type differs, if it does
abbrev pub told_of : Marks → Option (List ℕ)
told_of m = option_map string_bytes m.told

-- the words say that the type is narrower
abbrev pub IsNarrower : List ℕ → Type 0
IsNarrower words = (rest : List ℕ) × (words ≡ codes "narrower" ++ rest)

-- these words are said of the value itself, and nothing else is
abbrev pub IsSaidOfAll : List ℕ → Looked → Type 0
IsSaidOfAll words l =
    ((place : Place) × (l.first ≡ Some place) × (string_bytes place.path ≡ codes "$") × (said_words place.said ≡ words))
    × (l.others ≡ 0) × (l.is_deeper ≡ false)
