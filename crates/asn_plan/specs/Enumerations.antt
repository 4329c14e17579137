-- An ENUMERATED, with what is worked out of its items.
use Rattle.std.specs.Prelude.{◌≡◌, ◌+◌, ◌^◌, ◌<◌, ℕ, pos, Bool, true, false, List, [], length, Some, slice_get}
use Rattle.asn_values.specs.Profile.{InProfile}
use Rattle.asn_values.specs.Shape.{Shape, Label, MoreLabels, enumerated, closed_labels, has_more_labels}
use Rattle.asn_values.specs.View.{shape_of}
use Rattle.asn_bits.specs.Numbers.{width}
use Rattle.asn_bits.specs.Sink.{bit_of}
use Rattle.asn_rules.specs.Components.{number_at}
use Rattle.asn_plan.specs.Ranks.{rank}
use Rattle.asn_plan.specs.declared.enumeration.Enumeration.{Enumeration}
use Rattle.asn_plan.specs.declared.enumeration.Order.{Order}

-- the items of the root of an ENUMERATED, and those after the extension mark
abbrev pub root_items_of : Shape → List Label
root_items_of (enumerated root more) = root
root_items_of _ = []

abbrev pub other_items_of : Shape → MoreLabels
other_items_of (enumerated root more) = more
other_items_of _ = closed_labels

abbrev pub is_enumerated : Shape → Bool
is_enumerated (enumerated root more) = true
is_enumerated _ = false

-- the index of each item, which is how many have a lower number, is its position
abbrev pub AreInOrder : List Label → Type 0
AreInOrder ls = (p : ℕ) → p < length ls → rank ls (number_at ls p) ≡ p

-- the item at position p is one of these, and has this index
abbrev pub HasIndex : List Label → ℕ → ℕ → Type 0
HasIndex ls p n = (p < length ls) × (rank ls (number_at ls p) ≡ n)

-- a position of an item that stands at place n has the index n
abbrev pub AreSorted : List ℕ → List Label → Type 0
AreSorted places ls = (n p : ℕ) → slice_get places n ≡ Some p → p < length ls → rank ls (number_at ls p) ≡ n

-- so many items have their position as index, and each that is listed has that of its place
pub record IsOrder (o : Order) (ls : List Label) : Type 0 where
  pub in_place : (p : ℕ) → p < o.in_place → HasIndex ls p p
  pub sorted : AreSorted o.sorted.items ls

-- the numbers of the items run on from n, and none is above 127
abbrev pub AreInRow : ℕ → List Label → Type 0
AreInRow n ls = (p : ℕ) → p < length ls → (number_at ls p ≡ pos (n + p)) × (n + p < 128)

-- the type is an ENUMERATED of the profile, and what stands beside it was worked out of it
pub record IsEnumeration (e : Enumeration) : Type 0 where
  pub is : is_enumerated (shape_of e.ty) ≡ true
  pub of_profile : InProfile (shape_of e.ty)
  pub order : IsOrder e.order (root_items_of (shape_of e.ty))
  pub count : e.highest + 1 ≡ length (root_items_of (shape_of e.ty))
  pub bits : e.bits ≡ bit_of (has_more_labels (other_items_of (shape_of e.ty)))
      + width (length (root_items_of (shape_of e.ty)))
  pub mask : e.mask + 1 ≡ 2 ^ e.bits
  pub octets : 0 < e.octets → AreInRow e.first (root_items_of (shape_of e.ty))
