-- The JSON that is written of a value. It stands in serde_json's own words (`view` of its `Value`), and so do its
-- objects, in which `put` keeps the members in order of their keys.
use Rattle.std.specs.Prelude.{◌≡◌, ◌-◌, ℕ, zero, suc, Bool, true, false, List, [], ◌∷◌, ◌++◌, map, take, drop, length, Option, Some, None, nat_lt, if◌then◌else◌, slice_get, ⊤}
use Rattle.std.specs.Fmt.{decimal, signed_decimal}
use Rattle.std.specs.Str.{encode_utf8_all}
use Rattle.hex.specs.Hex.{encode_lower}
use Rattle.serde_json.specs.Data.{Data, null, boolean, number, string, array, object, Members, no_members, member, put}
use Rattle.serde_json.specs.Find.{of_integer}
use Rattle.serde_json.specs.View.{items_of}
use Rattle.asn_values.specs.Datum.{Datum, truth, item, bit_list, octet_list, characters, unicode, components, elements, alternative, unknown_item, unknown_alternative, component_list, element_list}
use Rattle.asn_values.specs.Datum as datum
use Rattle.asn_values.specs.Shape.{Range, Shape, integer, enumerated, bit_string, octet_string, restricted, utf8_string, sequence, sequence_of, choice, Label, MoreLabels, more_labels, Fields, no_fields, field, MoreFields, closed, marked, demands, Alternatives, no_alternatives, one_of, MoreAlternatives, closed_choice, marked_choice, count}
use Rattle.asn_values.specs.Shape as shape
use Rattle.asn_values.specs.Fits.{Limits, limits, lowest_integer, in_range}
use Rattle.asn_values.specs.Received.{FitsReceived}
use Rattle.asn_json.specs.declared.fault.JsonFault.{JsonFault}
use Rattle.asn_json.specs.declared.fault.JsonFault.TheVariants as fault

-- ---- types without parts
-- null stands where a value is none of the type: what fits has no such part

abbrev pub json_truth : Datum → Data
json_truth (truth b) = boolean b
json_truth _ = null

-- all integers of a profile
abbrev pub integers_under : Limits → Range
integers_under l = record { low = Some lowest_integer; high = Some l.highest; extensible = false }

abbrev pub integers : Range
integers = integers_under limits

-- an integer
abbrev pub json_number : Datum → Data
json_number (datum.number z) = if in_range integers z then number (of_integer z) else null
json_number _ = null

abbrev pub json_name : Option (List ℕ) → Data
json_name None = null
json_name (Some name) = string name

-- the name of the item; of one that the type has not, `?` and its number in decimal
abbrev pub json_item : List (List ℕ) → Datum → Data
json_item names (item p) = json_name (slice_get names p)
json_item names (unknown_item z) = string (63 ∷ signed_decimal z)
json_item names _ = null

-- the characters 0 and 1
abbrev pub bit_character : Bool → ℕ
bit_character false = 48
bit_character true = 49

abbrev pub json_bits : Datum → Data
json_bits (bit_list bs) = string (map bit_character bs)
json_bits _ = null

-- two hexadecimal digits an octet, in small letters
abbrev pub json_octets : Datum → Data
json_octets (octet_list os) = string (encode_lower os)
json_octets _ = null

-- the characters of these codes
abbrev pub json_characters : Datum → Data
json_characters (characters cs) = string (encode_utf8_all cs)
json_characters _ = null

abbrev pub json_unicode : Datum → Data
json_unicode (unicode os) = string os
json_unicode _ = null

-- ---- types with parts

abbrev pub json_components : (List (Option Datum) → Members) → Datum → Data
json_components f (components es) = object (f (component_list es))
json_components f _ = null

abbrev pub json_elements : (Datum → Data) → Datum → Data
json_elements f (elements ds) = array (items_of (map f (element_list ds)))
json_elements f _ = null

-- of an alternative that the type has not, `?` and its tag in decimal
abbrev pub json_unknown_at : ℕ → Data
json_unknown_at tag = object (member (63 ∷ decimal tag) null no_members)

abbrev pub json_unknown : Datum → Data
json_unknown (unknown_alternative tag) = json_unknown_at tag
json_unknown _ = null

abbrev pub json_chosen : (ℕ → Datum → Data) → Datum → Data
json_chosen f (alternative tag d) = f tag d
json_chosen f (unknown_alternative tag) = json_unknown_at tag
json_chosen f _ = null

-- a member for an entry that is there; an absent one has none
abbrev pub with_member : List ℕ → (Datum → Data) → Option Datum → Members → Members
with_member name f None ms = ms
with_member name f (Some d) ms = put name (f d) ms

-- the names of items
abbrev pub label_names : List Label → List (List ℕ)
label_names ls = map (λ l. l.name) ls

-- those of all items of an ENUMERATED, root and then additions
abbrev pub item_names : List Label → MoreLabels → List (List ℕ)
item_names root more = label_names (root ++ more_labels more)

-- how many components there are
abbrev pub field_count : Fields → ℕ
field_count fs = length (demands fs)

abbrev mutual
  -- the JSON of a value of the type
  pub json_of : Shape → Datum → Data
  json_of shape.boolean d = json_truth d
  json_of shape.null d = null
  json_of (integer b) d = json_number d
  json_of (enumerated root more) d = json_item (item_names root more) d
  json_of (bit_string s) d = json_bits d
  json_of (octet_string s) d = json_octets d
  json_of (restricted k s) d = json_characters d
  json_of utf8_string d = json_unicode d
  json_of (sequence root more) d =
      json_components (λ es.
      added_members more (drop (field_count root) es) (members root (take (field_count root) es) no_members)) d
  json_of (sequence_of t s) d = json_elements (λ e. json_of t e) d
  json_of (choice root more) d =
      json_chosen (λ tag e.
      if nat_lt tag (count root) then json_alternative root tag e else json_addition more (tag - count root) e) d

  -- the members given, and one for each entry that is there, by the name of its component
  pub members : Fields → List (Option Datum) → Members → Members
  members no_fields es ms = ms
  members (field name demand t fs) [] ms = ms
  members (field name demand t fs) (e ∷ es) ms = members fs es (with_member name (λ d. json_of t d) e ms)

  pub added_members : MoreFields → List (Option Datum) → Members → Members
  added_members closed es ms = ms
  added_members (marked fs) es ms = members fs es ms

  -- an object with one member: the name of the alternative, and its value
  pub json_alternative : Alternatives → ℕ → Datum → Data
  json_alternative no_alternatives p d = null
  json_alternative (one_of name t alts) zero d = object (member name (json_of t d) no_members)
  json_alternative (one_of name t alts) (suc p) d = json_alternative alts p d

  pub json_addition : MoreAlternatives → ℕ → Datum → Data
  json_addition closed_choice p d = null
  json_addition (marked_choice alts) p d = json_alternative alts p d

-- j is what is written of v, which is a value of the type, or one that a receiver gives of a message of a newer sender
pub record Written (t : Shape) (v : Datum) (j : Data) : Type 0 where
  pub fits : FitsReceived t v
  pub is : j ≡ json_of t v

-- a part is told where it is right, as P says, and is then a; else nothing is told
abbrev pub Told : {A : Type 0} → Type 0 → A → Option A → Type 0
Told P a None = ¬ P
Told P a (Some x) = P × (x ≡ a)

-- neither SEQUENCE, SEQUENCE OF nor CHOICE
abbrev pub IsSimple : Shape → Type 0
IsSimple (sequence root more) = ⊥
IsSimple (sequence_of t s) = ⊥
IsSimple (choice root more) = ⊥
IsSimple _ = ⊤

-- an alternative that the type has not
abbrev pub IsUnknownAlternative : Datum → Type 0
IsUnknownAlternative (unknown_alternative tag) = ⊤
IsUnknownAlternative _ = ⊥

-- what a fault of writing tells
abbrev pub Unwritten : Shape → Datum → JsonFault → Type 0
Unwritten t v (fault.Shape path) = ⊥
Unwritten t v fault.NotOfType = ¬ FitsReceived t v
Unwritten t v fault.Memory = FitsReceived t v

-- the same where memory may be wanting before it is seen that the value is none of the type
abbrev pub NoJson : Shape → Datum → JsonFault → Type 0
NoJson t v (fault.Shape path) = ⊥
NoJson t v fault.NotOfType = ¬ FitsReceived t v
NoJson t v fault.Memory = ⊤
