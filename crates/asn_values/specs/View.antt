-- What the types, values and faults of the program stand for.
use Rattle.std.specs.Prelude.{◌≡◌, true, ⊤, List, [], ◌∷◌, ℕ, ℤ, string_bytes, map, Option, Some, None}
use Rattle.std.specs.Option.{option_map}
use Rattle.std.specs.Global.{Vec}
use Rattle.asn_values.specs.declared.types.Bounds.{Bounds}
use Rattle.asn_values.specs.declared.types.Size.{Size}
use Rattle.asn_values.specs.declared.types.TextKind.{TextKind}
use Rattle.asn_values.specs.declared.types.TextKind.TheVariants as text_kind
use Rattle.asn_values.specs.declared.types.Item.{Item}
use Rattle.asn_values.specs.declared.types.Need.{Need}
use Rattle.asn_values.specs.declared.types.Need.TheVariants as need
use Rattle.asn_values.specs.declared.types.AsnType.{AsnType}
use Rattle.asn_values.specs.declared.types.Field.{Field}
use Rattle.asn_values.specs.declared.types.Alt.{Alt}
use Rattle.asn_values.specs.declared.types.AsnType.TheOpen.{AsnType-F, Field-F, Alt-F}
use Rattle.asn_values.specs.declared.types.AsnType.TheFolds.{fold-AsnType, fold-Field, fold-Alt}
use Rattle.asn_values.specs.declared.value.Value.{Value, fold-Value}
use Rattle.asn_values.specs.declared.value.Value.TheOpen.{Value-F}
use Rattle.asn_values.specs.declared.fault.TypeFault.{TypeFault}
use Rattle.asn_values.specs.declared.fault.TypeFault.TheVariants as fault
use Rattle.asn_values.specs.Datum.{Datum, truth, nothing, number, item, bit_list, octet_list, characters, unicode, components, components_of, elements, elements_of, alternative, unknown_item, unknown_alternative}
use Rattle.asn_values.specs.Shape.{Range, SizeRange, Alphabet, ia5, numeric, visible, Label, MoreLabels, closed_labels, marked_labels, Shape, boolean, null, integer, enumerated, bit_string, octet_string, restricted, utf8_string, sequence, sequence_of, choice, Demand, must, optional, default, Fields, no_fields, field, MoreFields, closed, marked, Alternatives, no_alternatives, one_of, MoreAlternatives, closed_choice, marked_choice}
use Rattle.asn_values.specs.Profile.{EmptyRange, SizeTooLarge, DuplicateName, BadEnumeration, UselessMark, BadDefault, ZeroWidthElement, AdditionNotOptional, TooMany, TooDeep, has}

-- ---- values

-- one level of a value, the values inside already seen as data
abbrev pub datum_step : Value-F Datum → Datum
datum_step (Value-F.Bool b) = truth b
datum_step Value-F.Null = nothing
datum_step (Value-F.Int z) = number z
datum_step (Value-F.Enum p) = item p
datum_step (Value-F.Bits v) = bit_list v.items
datum_step (Value-F.Octets v) = octet_list v.items
datum_step (Value-F.Text v) = characters v.items
datum_step (Value-F.Utf8 s) = unicode (string_bytes s)
datum_step (Value-F.Seq v) = components (components_of v.items)
datum_step (Value-F.List v) = elements (elements_of v.items)
datum_step (Value-F.Choice t b) = alternative t b.value
datum_step (Value-F.UnknownItem z) = unknown_item z
datum_step (Value-F.UnknownAlternative t) = unknown_alternative t

abbrev pub datum_of : Value → Datum
datum_of = fold-Value Datum datum_step

-- ---- types

abbrev pub range_of : Bounds → Range
range_of b = record { low = b.low; high = b.high; extensible = b.ext }

abbrev pub size_range_of : Size → SizeRange
size_range_of s = record { low = s.low; high = s.high; extensible = s.ext }

abbrev pub alphabet_of : TextKind → Alphabet
alphabet_of text_kind.Ia5 = ia5
alphabet_of text_kind.Numeric = numeric
alphabet_of text_kind.Visible = visible

abbrev pub label_of : Item → Label
label_of i = record { name = string_bytes i.name; number = i.number }

-- the additions of an ENUMERATED, where it has an extension marker
abbrev pub more_labels_of : Option (Vec Item) → MoreLabels
more_labels_of None = closed_labels
more_labels_of (Some more) = marked_labels (map label_of more.items)

abbrev pub demand_of : Need → Demand
demand_of need.Must = must
demand_of need.Optional = optional
demand_of (need.Default v) = default (datum_of v)

-- a component, taken apart
pub record Part : Type 0 where
  pub name : List ℕ
  pub demand : Demand
  pub shape : Shape

abbrev pub fields_of : List Part → Fields
fields_of [] = no_fields
fields_of (p ∷ ps) = field p.name p.demand p.shape (fields_of ps)

-- the extension additions, where there is a mark
abbrev pub more_parts : Option (Vec Part) → MoreFields
more_parts None = closed
more_parts (Some more) = marked (fields_of more.items)

-- an alternative, taken apart
pub record Branch : Type 0 where
  pub name : List ℕ
  pub shape : Shape

abbrev pub alternatives_of : List Branch → Alternatives
alternatives_of [] = no_alternatives
alternatives_of (b ∷ bs) = one_of b.name b.shape (alternatives_of bs)

-- the additions of a CHOICE, where it has an extension marker
abbrev pub more_branches : Option (Vec Branch) → MoreAlternatives
more_branches None = closed_choice
more_branches (Some more) = marked_choice (alternatives_of more.items)

-- one level of a type, the types inside already seen as shapes
abbrev pub shape_step : AsnType-F Shape Branch Part → Shape
shape_step AsnType-F.Bool = boolean
shape_step AsnType-F.Null = null
shape_step (AsnType-F.Int b) = integer (range_of b)
shape_step (AsnType-F.Enum root ext) = enumerated (map label_of root.items) (more_labels_of ext)
shape_step (AsnType-F.Bits s) = bit_string (size_range_of s)
shape_step (AsnType-F.Octets s) = octet_string (size_range_of s)
shape_step (AsnType-F.Text k s) = restricted (alphabet_of k) (size_range_of s)
shape_step AsnType-F.Utf8 = utf8_string
shape_step (AsnType-F.Seq root ext) = sequence (fields_of root.items) (more_parts ext)
shape_step (AsnType-F.SeqOf b s) = sequence_of b.value (size_range_of s)
shape_step (AsnType-F.Choice root ext) = choice (alternatives_of root.items) (more_branches ext)

abbrev pub field_step : Field-F Shape Branch Part → Part
field_step f = record { name = string_bytes f.name; demand = demand_of f.need; shape = f.ty }

abbrev pub branch_step : Alt-F Shape Branch Part → Branch
branch_step a = record { name = string_bytes a.name; shape = a.ty }

abbrev pub shape_of : AsnType → Shape
shape_of = fold-AsnType Shape Branch Part shape_step branch_step field_step

abbrev pub part_of_field : Field → Part
part_of_field = fold-Field Shape Branch Part shape_step branch_step field_step

abbrev pub branch_of : Alt → Branch
branch_of = fold-Alt Shape Branch Part shape_step branch_step field_step

-- components or extension additions, alternatives, items, and the entries of a SEQUENCE, as the program's lists have
-- them
abbrev pub fields_seen : List Field → Fields
fields_seen fs = fields_of (map part_of_field fs)

abbrev pub alternatives_seen : List Alt → Alternatives
alternatives_seen alts = alternatives_of (map branch_of alts)

abbrev pub labels_seen : List Item → List Label
labels_seen items = map label_of items

abbrev pub numbers_seen : List Item → List ℤ
numbers_seen items = map (λ l. l.number) (labels_seen items)

abbrev pub entries_seen : List (Option Value) → List (Option Datum)
entries_seen es = map (option_map datum_of) es

-- the same of the additions, as the program holds them
abbrev pub more_fields_of : Option (Vec Field) → MoreFields
more_fields_of None = closed
more_fields_of (Some more) = marked (fields_of (map part_of_field more.items))

abbrev pub more_alternatives_of : Option (Vec Alt) → MoreAlternatives
more_alternatives_of None = closed_choice
more_alternatives_of (Some more) = marked_choice (alternatives_of (map branch_of more.items))

-- the types of components and of alternatives
abbrev pub types_of_fields : List Field → List Shape
types_of_fields fs = map (λ f. shape_of f.ty) fs

abbrev pub types_of_alternatives : List Alt → List Shape
types_of_alternatives alts = map (λ a. shape_of a.ty) alts

-- an ENUMERATED, a SEQUENCE, a SEQUENCE OF and a CHOICE of these parts, as the program holds them
abbrev pub enumerated_seen : List Item → Option (Vec Item) → Shape
enumerated_seen root ext = enumerated (labels_seen root) (more_labels_of ext)

abbrev pub sequence_seen : List Field → Option (Vec Field) → Shape
sequence_seen root ext = sequence (fields_seen root) (more_fields_of ext)

abbrev pub sequence_of_seen : AsnType → Size → Shape
sequence_of_seen element size = sequence_of (shape_of element) (size_range_of size)

abbrev pub choice_seen : List Alt → Option (Vec Alt) → Shape
choice_seen root ext = choice (alternatives_seen root) (more_alternatives_of ext)

-- ---- faults

-- what a fault says of a type: its condition holds there; of the memory nothing is said
abbrev pub Holds : TypeFault → Shape → Type 0
Holds fault.EmptyRange t = has EmptyRange t ≡ true
Holds fault.SizeTooLarge t = has SizeTooLarge t ≡ true
Holds fault.DuplicateName t = has DuplicateName t ≡ true
Holds fault.BadEnumeration t = has BadEnumeration t ≡ true
Holds fault.UselessMark t = has UselessMark t ≡ true
Holds fault.BadDefault t = has BadDefault t ≡ true
Holds fault.ZeroWidthElement t = has ZeroWidthElement t ≡ true
Holds fault.AdditionNotOptional t = has AdditionNotOptional t ≡ true
Holds fault.TooMany t = has TooMany t ≡ true
Holds fault.TooDeep t = has TooDeep t ≡ true
Holds fault.Memory t = ⊤
