-- The value that JSON shows of a type, and where it is not of the type's shape.
use Rattle.std.specs.Prelude.{◌-◌, ◌==◌, ◌||◌, ℕ, zero, suc, ℤ, Bool, List, [], ◌∷◌, ◌++◌, map, Option, Some, None, option_map, option_and_then, unwrap_or, nat_lt, if◌then◌else◌}
use Rattle.std.specs.List.{list_all}
use Rattle.std.specs.Result.{result_ok}
use Rattle.hex.specs.Hex.{decode_of}
use Rattle.serde_json.specs.Data.{Data, Items, no_items, item, Members, no_members, member}
use Rattle.serde_json.specs.Find.{as_null, as_bool, as_number, as_integer, as_str, as_array, as_object, get_member}
use Rattle.asn_values.specs.Datum.{Datum, truth, nothing, number, bit_list, octet_list, characters, unicode, components, components_of, elements, elements_of, alternative}
use Rattle.asn_values.specs.Datum as datum
use Rattle.asn_values.specs.Shape.{Shape, boolean, null, integer, enumerated, bit_string, octet_string, restricted, utf8_string, sequence, sequence_of, choice, Demand, must, optional, default, Fields, no_fields, field, MoreFields, closed, marked, more_fields, field_names, Alternatives, no_alternatives, one_of, MoreAlternatives, closed_choice, marked_choice, more_alternatives, alternative_names, count}
use Rattle.asn_values.specs.Fits.{Limits, limits, in_range}
use Rattle.asn_view.specs.Names.{index_of}
use Rattle.asn_json.specs.Written.{integers_under, item_names}

-- ---- types without parts: the value, where the JSON is of the shape

abbrev pub truth_in : Data → Option Datum
truth_in j = option_map truth (as_bool j)

abbrev pub nothing_in : Data → Option Datum
nothing_in j = option_map (λ _. nothing) (as_null j)

-- an integer, as serde_json keeps them, that is one of the profile
abbrev pub if_integer_under : Limits → ℤ → Option Datum
if_integer_under l z = if in_range (integers_under l) z then Some (number z) else None

abbrev pub number_in_under : Limits → Data → Option Datum
number_in_under l j = option_and_then (if_integer_under l) (option_and_then as_integer (as_number j))

abbrev pub number_in : Data → Option Datum
number_in = number_in_under limits

-- the name of an item
abbrev pub item_in : List (List ℕ) → Data → Option Datum
item_in names j = option_map datum.item (option_and_then (λ name. index_of name names) (as_str j))

-- the characters 0 and 1, and no others
abbrev pub is_bit_character : ℕ → Bool
is_bit_character c = (c == 48) || (c == 49)

abbrev pub bits_of : List ℕ → Option (List Bool)
bits_of cs = if list_all is_bit_character cs then Some (map (λ c. c == 49) cs) else None

abbrev pub bits_in : Data → Option Datum
bits_in j = option_map bit_list (option_and_then bits_of (as_str j))

-- two hexadecimal digits an octet, in either case
abbrev pub octets_in : Data → Option Datum
octets_in j = option_map octet_list (option_and_then (λ text. result_ok (decode_of text)) (as_str j))

-- the octets of the text. A character above 127 has octets above 127, and such a string is none of the type
abbrev pub characters_in : Data → Option Datum
characters_in j = option_map characters (as_str j)

abbrev pub unicode_in : Data → Option Datum
unicode_in j = option_map unicode (as_str j)

-- ---- types with parts

-- the elements of an array
abbrev pub item_list : Items → List Data
item_list no_items = []
item_list (item d ds) = d ∷ item_list ds

-- the one member of an object that has one, and not two
abbrev pub single : Members → Option (List ℕ × Data)
single no_members = None
single (member k d no_members) = Some (k, d)
single (member k d (member l e ms)) = None

abbrev pub only_member : Data → Option (List ℕ × Data)
only_member j = option_and_then single (as_object j)

-- where the object has no such key, a component with a DEFAULT has that value, and another is absent
abbrev pub entry_of : Demand → (Data → Datum) → Option Data → Option Datum
entry_of demand f (Some j) = Some (f j)
entry_of must f None = None
entry_of optional f None = None
entry_of (default d) f None = Some d

-- `nothing` stands where the JSON is not of the shape
abbrev pub or_nothing : Option Datum → Datum
or_nothing o = unwrap_or o nothing

-- the value of the alternative at an index
abbrev pub chosen_value : (ℕ → Datum) → Option ℕ → Datum
chosen_value f None = nothing
chosen_value f (Some p) = alternative p (f p)

-- the value with these entries, and that of the elements of an array
abbrev pub of_entries : List (Option Datum) → Datum
of_entries es = components (components_of es)

abbrev pub of_elements : (Data → Datum) → Items → Datum
of_elements f ds = elements (elements_of (map f (item_list ds)))

-- the value of the one member of an object, for a CHOICE whose alternatives have these names
abbrev pub value_of_member : (ℕ → Data → Datum) → List (List ℕ) → List ℕ × Data → Datum
value_of_member f names m = chosen_value (λ p. f p m.1) (index_of m.0 names)

abbrev pub member_value : (ℕ → Data → Datum) → List (List ℕ) → Option (List ℕ × Data) → Datum
member_value f names found = or_nothing (option_map (λ m. value_of_member f names m) found)

-- the names of the alternatives
abbrev pub choice_names : Alternatives → MoreAlternatives → List (List ℕ)
choice_names root more = alternative_names root ++ alternative_names (more_alternatives more)

-- the names of the components
abbrev pub component_names : Fields → MoreFields → List (List ℕ)
component_names root more = field_names root ++ field_names (more_fields more)

abbrev mutual
  -- the value that the JSON shows
  pub value_of_under : Limits → Shape → Data → Datum
  value_of_under l boolean j = or_nothing (truth_in j)
  value_of_under l null j = nothing
  value_of_under l (integer b) j = or_nothing (number_in_under l j)
  value_of_under l (enumerated root more) j = or_nothing (item_in (item_names root more) j)
  value_of_under l (bit_string s) j = or_nothing (bits_in j)
  value_of_under l (octet_string s) j = or_nothing (octets_in j)
  value_of_under l (restricted k s) j = or_nothing (characters_in j)
  value_of_under l utf8_string j = or_nothing (unicode_in j)
  value_of_under l (sequence root more) j =
      or_nothing (option_map (λ ms.
      of_entries (entries_under l root ms ++ added_entries_under l more ms)) (as_object j))
  value_of_under l (sequence_of t s) j =
      or_nothing (option_map (λ ds. of_elements (λ e. value_of_under l t e) ds) (as_array j))
  value_of_under l (choice root more) j =
      member_value (λ p e.
      if nat_lt p (count root) then value_at_under l root p e else added_value_at_under l more (p - count root) e)
      (choice_names root more) (only_member j)

  -- the entries of a SEQUENCE, one for each component
  pub entries_under : Limits → Fields → Members → List (Option Datum)
  entries_under l no_fields ms = []
  entries_under l (field name demand t fs) ms =
      entry_of demand (λ j. value_of_under l t j) (get_member name ms) ∷ entries_under l fs ms

  pub added_entries_under : Limits → MoreFields → Members → List (Option Datum)
  added_entries_under l closed ms = []
  added_entries_under l (marked fs) ms = entries_under l fs ms

  -- the value of the alternative at this index
  pub value_at_under : Limits → Alternatives → ℕ → Data → Datum
  value_at_under l no_alternatives p j = nothing
  value_at_under l (one_of name t alts) zero j = value_of_under l t j
  value_at_under l (one_of name t alts) (suc p) j = value_at_under l alts p j

  pub added_value_at_under : Limits → MoreAlternatives → ℕ → Data → Datum
  added_value_at_under l closed_choice p j = nothing
  added_value_at_under l (marked_choice alts) p j = value_at_under l alts p j

abbrev pub value_of : Shape → Data → Datum
value_of = value_of_under limits

abbrev pub entries : Fields → Members → List (Option Datum)
entries = entries_under limits

abbrev pub added_entries : MoreFields → Members → List (Option Datum)
added_entries = added_entries_under limits

abbrev pub value_at : Alternatives → ℕ → Data → Datum
value_at = value_at_under limits

abbrev pub added_value_at : MoreAlternatives → ℕ → Data → Datum
added_value_at = added_value_at_under limits
