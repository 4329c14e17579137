-- What an ENUMERATED and an item stand for, as the program has them.
use Rattle.std.proofs.Common.{◌≡◌, ℕ, List, map, Option, Vec, Global, rules}
use Rattle.asn_values.specs.declared.types.Item.{Item}
use Rattle.asn_values.specs.declared.types.AsnType.{AsnType}
use Rattle.asn_values.specs.declared.types.AsnType as asn_type
use Rattle.asn_values.specs.declared.value.Value as values
use Rattle.asn_values.specs.declared.value.Value.TheVariants as value
use Rattle.asn_values.specs.Datum.{item}
use Rattle.asn_values.specs.Shape.{enumerated}
use Rattle.asn_values.specs.View.{shape_of, datum_of, label_of, more_labels_of}
use Rattle.asn_values.proofs.Views.{shape_of-Enum}

-- a type that is seen to be one, and a list that is seen to be its items
pub enumerated_of_items : (t : AsnType) (root : Vec Item Global) (ext : Option (Vec Item Global)) (is : List Item) → t ≡ asn_type.Enum root ext → is ≡ root.items
    → shape_of t ≡ enumerated (map label_of is) (more_labels_of ext)
enumerated_of_items t root ext is et ei = rw (et, ei) (shape_of-Enum root ext)

-- an item as a value
pub datum_of-Enum : (p : ℕ) → datum_of (value.Enum p) ≡ item p
datum_of-Enum p = search (rules, values.the_lemmas)
