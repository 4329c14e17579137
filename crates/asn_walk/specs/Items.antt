-- The items of an ENUMERATED, as the program has them.
use Rattle.std.specs.Prelude.{◌≡◌, ◌<◌, ℕ, pos, List, ◌++◌, map, Option}
use Rattle.std.specs.Global.{Vec}
use Rattle.asn_values.specs.declared.types.Item.{Item}
use Rattle.asn_values.specs.Shape.{Shape, enumerated, Label, more_labels}
use Rattle.asn_values.specs.View.{label_of, more_labels_of}
use Rattle.asn_bits.specs.Numbers.{bits}
use Rattle.asn_rules.specs.Components.{number_at}

-- the type ENUMERATED that has these items in its root and these additions
abbrev pub enumeration_of : List Item → Option (Vec Item) → Shape
enumeration_of root additions = enumerated (map label_of root) (more_labels_of additions)

-- all items, those after the mark too
abbrev pub items_of : List Item → Option (Vec Item) → List Label
items_of root additions = map label_of root ++ more_labels (more_labels_of additions)

-- the units go on after an octet below 128, which is the number of the item at position p
abbrev pub IsNumberOctet : List Label → ℕ → List ℕ → List ℕ → Type 0
IsNumberOctet items p old new = (n : ℕ) × (n < 128) × (number_at items p ≡ pos n) × (old ≡ bits 8 n ++ new)
