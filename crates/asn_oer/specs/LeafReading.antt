-- What the readers of ENUMERATED and BIT STRING read from octets in Canonical OER (X.696).
use Rattle.std.specs.Prelude.{◌≡◌, ◌<◌, ℕ, List, ◌++◌, length, Option}
use Rattle.std.specs.Global.{Vec}
use Rattle.std.specs.Option.{option_map}
use Rattle.asn_values.specs.declared.types.Item.{Item}
use Rattle.asn_values.specs.Datum.{Datum, item}
use Rattle.asn_values.specs.declared.types.Size.{Size}
use Rattle.asn_values.specs.declared.types.TextKind.{TextKind}
use Rattle.asn_values.specs.Shape.{bit_string, octet_string, restricted, Label}
use Rattle.asn_values.specs.View.{size_range_of, alphabet_of}
use Rattle.asn_rules.specs.Chunks.{Chunk}
use Rattle.asn_rules.specs.Components.{number_at}
use Rattle.asn_rules.specs.Listed.{IsOther, Spelt}
use Rattle.asn_walk.specs.Items.{enumeration_of, items_of}
use Rattle.asn_oer.specs.Oer.{oer, item_number}
use Rattle.asn_oer.specs.Reading.{ValuesOf}

-- its items, but for one that is left out
abbrev pub ItemsBut : Option ℕ → List Item → Option (Vec Item) → Datum → List Chunk → Type 0
ItemsBut excluded root additions = Spelt oer (option_map item excluded) (enumeration_of root additions)

-- the item at this position is not the one that is left out, and its octets are these and the rest
pub record ItemBegins (labels : List Label) (excluded : Option ℕ) (position : ℕ) (os rest : List ℕ) : Type 0 where
  pub there : position < length labels
  pub other : IsOther (option_map item excluded) (item position)
  pub whole : item_number (number_at labels position) ≡ os ++ rest

-- the item at this position, which is not the one that is left out, begins with these octets, and this many follow them
abbrev pub BeginsWith : List Item → Option (Vec Item) → Option ℕ → List ℕ → ℕ → ℕ → Type 0
BeginsWith root additions excluded os position left =
    (rest : List ℕ) × ItemBegins (items_of root additions) excluded position os rest × (length rest ≡ left)

-- it does not begin so
abbrev pub BeginsOtherwise : List Item → Option (Vec Item) → Option ℕ → List ℕ → ℕ → Type 0
BeginsOtherwise root additions excluded os position =
    (rest : List ℕ) → ItemBegins (items_of root additions) excluded position os rest → ⊥

-- the values of the type BIT STRING that has this size
abbrev pub BitStringsOf : Size → Datum → List Chunk → Type 0
BitStringsOf s = ValuesOf (bit_string (size_range_of s))

-- of the type OCTET STRING
abbrev pub OctetStringsOf : Size → Datum → List Chunk → Type 0
OctetStringsOf s = ValuesOf (octet_string (size_range_of s))

-- of a restricted character string type
abbrev pub TextsOf : TextKind → Size → Datum → List Chunk → Type 0
TextsOf k s = ValuesOf (restricted (alphabet_of k) (size_range_of s))
