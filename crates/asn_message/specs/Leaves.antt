-- The leaves of slots: the values of those that have no parts.
use Rattle.std.specs.Prelude.{◌≡◌, ℕ, List, [], ◌∷◌, ◌++◌, map}
use Rattle.asn_values.specs.declared.value.Value.{Value}
use Rattle.asn_values.specs.Datum.{Datum, nothing}
use Rattle.asn_values.specs.View.{datum_of}
use Rattle.asn_message.specs.declared.slots.Content.{Content}
use Rattle.asn_message.specs.declared.slots.Content.TheVariants as content
use Rattle.asn_message.specs.declared.slots.Slot.{Slot}
use Rattle.asn_message.specs.Slots.{value_at}

-- the value of a slot that has no parts; NULL of another
abbrev pub leaf_at : List ℕ → Content → Datum
leaf_at os (content.Sequence taken absent) = nothing
leaf_at os (content.List count) = nothing
leaf_at os (content.Choice place) = nothing
leaf_at os c = value_at os c []

-- these are the leaves of the slots, and NULL after them
abbrev pub AreLeaves : List ℕ → List Slot → List Value → Type 0
AreLeaves os ss vs = map datum_of vs ≡ map (λ s. leaf_at os s.content) ss ++ nothing ∷ []
