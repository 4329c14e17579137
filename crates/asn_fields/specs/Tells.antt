-- What is told of octets: their fields, and whether they are a message.
use Rattle.std.specs.Prelude.{◌≡◌, ℕ, List, length, take, Result, Ok, Err, ⊤}
use Rattle.asn_values.specs.declared.value.Value.{Value}
use Rattle.asn_values.specs.Datum.{Datum}
use Rattle.asn_values.specs.Shape.{Shape}
use Rattle.asn_values.specs.View.{datum_of}
use Rattle.asn_rules.specs.Answer.{Ruling, max_octets}
use Rattle.asn_rules.specs.Codec.{Decoded}
use Rattle.asn_rules.specs.declared.fault.DecodeFault.{DecodeFault}
use Rattle.asn_rules.specs.declared.fault.DecodeFault.TheVariants as decode
use Rattle.asn_fields.specs.declared.message.MessageFields.{MessageFields}
use Rattle.asn_fields.specs.Leaves.{leaves}
use Rattle.asn_fields.specs.Tiles.{Tiles, contents}

-- the last unit that is told: the refused one, or the last of the octets that are read
abbrev pub last_told : Ruling → List ℕ → Result Value DecodeFault → ℕ
last_told r o (Err (decode.Refused at why)) = at
last_told r o _ = length (r.units (take max_octets o))

-- of a message, the values that are told are the parts of its value that have no parts, in order
abbrev pub AreContents : Result Value DecodeFault → List Datum → Type 0
AreContents (Ok v) ds = ds ≡ leaves (datum_of v)
AreContents (Err fault) ds = ⊤

-- the answer is a decoder's, the fields are all units up to that one, and say the value
pub record Tells (r : Ruling) (t : Shape) (o : List ℕ) (told : MessageFields) : Type 0 where
  pub answered : Decoded r told.answer t o
  pub fields : Tiles 0 (last_told r o told.answer) told.fields.items
  pub values : AreContents told.answer (contents told.fields.items)
