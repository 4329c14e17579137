-- What stands in slots: values one after the other, the slot of each before those of the values inside it.
use Rattle.std.specs.Prelude.{◌≡◌, ◌≤◌, ℕ, pos, Bool, List, [], ◌∷◌, ◌++◌, length, map, take, drop, Option, Some, None, ◌==◌, ⊤}
use Rattle.asn_values.specs.Datum.{Datum, truth, nothing, number, item, bit_list, octet_list, characters, unicode, components, components_of, elements, elements_of, alternative}
use Rattle.asn_plan.specs.Plans.{absents}
use Rattle.asn_message.specs.declared.slots.Content.{Content}
use Rattle.asn_message.specs.declared.slots.Content.TheVariants as content
use Rattle.asn_message.specs.declared.slots.Slot.{Slot}
use Rattle.asn_message.specs.declared.slots.Span.{Span}

-- the octets of a string, among those of the message
abbrev pub octets_at : List ℕ → Span → List ℕ
octets_at os s = take s.length (drop s.begin os)

-- an octet of a BIT STRING is one bit
abbrev pub bits_at : List ℕ → Span → List Bool
bits_at os s = map (λ n. n == 1) (octets_at os s)

-- the values that are present
abbrev pub values_of : List (Option Datum) → List Datum
values_of [] = []
values_of (None ∷ es) = values_of es
values_of (Some d ∷ es) = d ∷ values_of es

-- the first of the entries; NULL if it is absent or there is none
abbrev pub first_of : List (Option Datum) → Datum
first_of [] = nothing
first_of (None ∷ es) = nothing
first_of (Some d ∷ es) = d

-- the value of a slot, where these entries stand after it: those inside it first
abbrev pub value_at : List ℕ → Content → List (Option Datum) → Datum
value_at os (content.Truth b) es = truth b
value_at os content.Null es = nothing
value_at os (content.Number z) es = number z
value_at os (content.Large n) es = number (pos n)
value_at os (content.Item i) es = item i
value_at os (content.Bits s) es = bit_list (bits_at os s)
value_at os (content.Octets s) es = octet_list (octets_at os s)
value_at os (content.Text s) es = characters (octets_at os s)
value_at os (content.Utf8 s) es = unicode (octets_at os s)
value_at os (content.Sequence taken absent) es = components (components_of (take taken es ++ absents absent))
value_at os (content.List count) es = elements (elements_of (values_of (take count es)))
value_at os (content.Choice place) es = alternative place (first_of es)

-- how many of the entries after it are inside it
abbrev pub entries_inside : Content → ℕ
entries_inside (content.Sequence taken absent) = taken
entries_inside (content.List count) = count
entries_inside (content.Choice place) = 1
entries_inside _ = 0

-- the entries that stand in the slots, in their order, and after them these
abbrev pub entries_in : List ℕ → List Slot → List (Option Datum) → List (Option Datum)
entries_in os [] es = es
entries_in os (s ∷ ss) es =
    absents s.absent_before
    ++ (Some (value_at os s.content (entries_in os ss es)) ∷ drop (entries_inside s.content) (entries_in os ss es))

-- the value of the first slot; NULL if there is none
abbrev pub value_in : List ℕ → List Slot → Datum
value_in os [] = nothing
value_in os (s ∷ ss) = value_at os s.content (entries_in os ss [])

-- the entries after those inside the first value
abbrev pub entries_after : List ℕ → List Slot → List (Option Datum)
entries_after os [] = []
entries_after os (s ∷ ss) = drop (entries_inside s.content) (entries_in os ss [])

-- the entries from the first value on, without those that are absent before it
abbrev pub entries_from : List ℕ → List Slot → List (Option Datum)
entries_from os [] = []
entries_from os (s ∷ ss) = Some (value_in os (s ∷ ss)) ∷ entries_after os (s ∷ ss)

-- a SEQUENCE OF has as many elements as its slot tells
abbrev pub IsCounted : Content → List (Option Datum) → Type 0
IsCounted (content.List count) es = length (values_of (take count es)) ≡ count
IsCounted _ es = ⊤

-- each slot tells how many slots the values inside it have: after these stand the entries that are not inside it
abbrev pub AreNested : List ℕ → List (Option Datum) → List Slot → Type 0
AreNested os es [] = ⊤
AreNested os es (s ∷ ss) =
    (s.inside ≤ length ss)
    × ((drop (entries_inside s.content) (entries_in os ss es) ≡ entries_in os (drop s.inside ss) es)
    × (IsCounted s.content (entries_in os ss es) × AreNested os es ss))
