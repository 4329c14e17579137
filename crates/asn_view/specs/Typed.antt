-- A value beside its type, and its parts by their names and indexes (X.680).
use Rattle.std.specs.Prelude.{ℕ, ℤ, Bool, List, [], ◌∷◌, ◌++◌, length, map, drop, slice_get, Option, Some, None, option_map, cond, bytes_eq}
use Rattle.std.specs.Option.{option_or}
use Rattle.asn_values.specs.Datum.{Datum, truth, number, item, bit_list, octet_list, characters, unicode, components, component_list, elements, element_list, alternative}
use Rattle.asn_values.specs.Shape.{Shape, enumerated, sequence, sequence_of, choice, Label, more_labels, Demand, must, optional, default, Fields, no_fields, field, more_fields, Alternatives, no_alternatives, one_of, more_alternatives}
use Rattle.asn_values.specs.View.{Part, Branch}

-- a value beside its type
pub record Typed : Type 0 where
  pub shape : Shape
  pub datum : Datum

abbrev pub typed : Shape → Datum → Typed
typed t d = record { shape = t; datum = d }

-- a name, and the value that stands at it, if one does
abbrev pub Named : Type 0
Named = List ℕ × Option Typed

-- ---- components of a SEQUENCE

-- the value of a component: that of its entry or, where it is absent, its DEFAULT, if it has one
abbrev pub given : Demand → Option Datum → Option Datum
given demand (Some d) = Some d
given must None = None
given optional None = None
given (default d) None = Some d

abbrev pub component_value : Part → Option Datum → Option Typed
component_value p entry = option_map (typed p.shape) (given p.demand entry)

-- the first of the entries, which is absent where there is none
abbrev pub first_entry : List (Option Datum) → Option Datum
first_entry [] = None
first_entry (e ∷ es) = e

-- the components as a list
abbrev pub parts : Fields → List Part
parts no_fields = []
parts (field n demand t fs) = record { name = n; demand = demand; shape = t } ∷ parts fs

-- the components that have these entries, in their order
abbrev pub values_of_parts : List Part → List (Option Datum) → List Named
values_of_parts [] es = []
values_of_parts (p ∷ ps) es = (p.name, component_value p (first_entry es)) ∷ values_of_parts ps (drop 1 es)

abbrev pub values_of_entries : List Part → Datum → List Named
values_of_entries ps (components es) = values_of_parts ps (component_list es)
values_of_entries ps _ = []

-- the components of a SEQUENCE with their values, root and then additions
abbrev pub components_by : Shape → Datum → List Named
components_by (sequence root more) d = values_of_entries (parts root ++ parts (more_fields more)) d
components_by _ d = []

abbrev pub components_in : Typed → List Named
components_in v = components_by v.shape v.datum

-- ---- the alternative of a CHOICE

-- the alternatives as a list
abbrev pub branches : Alternatives → List Branch
branches no_alternatives = []
branches (one_of n t alts) = record { name = n; shape = t } ∷ branches alts

-- the name of an alternative, and its value
abbrev pub branch_value : Branch → Datum → List ℕ × Typed
branch_value b d = (b.name, typed b.shape d)

-- of the alternative of that tag
abbrev pub chosen_among : List Branch → Datum → Option (List ℕ × Typed)
chosen_among bs (alternative tag d) = option_map (λ b. branch_value b d) (slice_get bs tag)
chosen_among bs _ = None

-- the chosen alternative, by tags that count root and then additions
abbrev pub chosen_by : Shape → Datum → Option (List ℕ × Typed)
chosen_by (choice root more) d = chosen_among (branches root ++ branches (more_alternatives more)) d
chosen_by _ d = None

abbrev pub chosen_in : Typed → Option (List ℕ × Typed)
chosen_in v = chosen_by v.shape v.datum

-- ---- by name

-- what stands at the first of these names that is the one given
abbrev pub value_at_name : List ℕ → List Named → Option Typed
value_at_name name [] = None
value_at_name name (n ∷ ns) = cond (bytes_eq name n.0) n.1 (value_at_name name ns)

-- the chosen alternative, where it has that name
abbrev pub value_if_named : List ℕ → Option (List ℕ × Typed) → Option Typed
value_if_named name None = None
value_if_named name (Some chosen) = cond (bytes_eq name chosen.0) (Some chosen.1) None

-- the component of that name, or the chosen alternative
abbrev pub value_named : List ℕ → Typed → Option Typed
value_named name v = option_or (value_at_name name (components_in v)) (value_if_named name (chosen_in v))

-- ---- elements of a SEQUENCE OF

abbrev pub elements_of_type : Shape → Datum → List Typed
elements_of_type t (elements ds) = map (typed t) (element_list ds)
elements_of_type t _ = []

abbrev pub elements_by : Shape → Datum → List Typed
elements_by (sequence_of t s) d = elements_of_type t d
elements_by _ d = []

abbrev pub elements_in : Typed → List Typed
elements_in v = elements_by v.shape v.datum

-- ---- items of an ENUMERATED

abbrev pub label_at : List Label → Datum → Option (List ℕ)
label_at ls (item p) = option_map (λ l. l.name) (slice_get ls p)
label_at ls _ = None

-- the name of the item, by indexes that count root and then additions
abbrev pub item_name_by : Shape → Datum → Option (List ℕ)
item_name_by (enumerated root more) d = label_at (root ++ more_labels more) d
item_name_by _ d = None

abbrev pub item_name_in : Typed → Option (List ℕ)
item_name_in v = item_name_by v.shape v.datum

-- ---- values without parts

abbrev pub truth_of : Datum → Option Bool
truth_of (truth b) = Some b
truth_of _ = None

abbrev pub integer_of : Datum → Option ℤ
integer_of (number z) = Some z
integer_of _ = None

abbrev pub octets_of : Datum → Option (List ℕ)
octets_of (octet_list os) = Some os
octets_of _ = None

abbrev pub bits_of : Datum → Option (List Bool)
bits_of (bit_list bs) = Some bs
bits_of _ = None

-- the octets of a character string
abbrev pub text_of : Datum → Option (List ℕ)
text_of (characters cs) = Some cs
text_of (unicode os) = Some os
text_of _ = None

-- how many elements, bits, octets or characters (of a UTF8String octets) there are
abbrev pub length_of : Datum → ℕ
length_of (elements ds) = length (element_list ds)
length_of (bit_list bs) = length bs
length_of (octet_list os) = length os
length_of (characters cs) = length cs
length_of (unicode os) = length os
length_of _ = 0
