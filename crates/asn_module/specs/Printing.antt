-- What the types of a module are printed as: a tree for each type, and a line for each name.
use Rattle.std.specs.Prelude.{◌≡◌, ℕ, zero, suc, Bool, true, false, ◌||◌, List, [], ◌∷◌, ◌++◌, map, Option, Some, None}
use Rattle.std.specs.Prelude.{is_some, nat_lt, if◌then◌else◌, Result, OnOk, String, string_bytes}
use Rattle.asn_values.specs.Datum as datum
use Rattle.asn_values.specs.Datum.{Datum}
use Rattle.asn_values.specs.Shape as s
use Rattle.asn_values.specs.Shape.{Shape, Range, SizeRange, Alphabet, Label, MoreLabels, Demand, Fields, MoreFields}
use Rattle.asn_values.specs.Shape.{Alternatives, MoreAlternatives}
use Rattle.asn_notation.specs.declared.token.Word.TheVariants as words
use Rattle.asn_notation.specs.declared.notation.Limits.TheVariants.{Between}
use Rattle.asn_notation.specs.declared.notation.RangeNotation.{RangeNotation}
use Rattle.asn_notation.specs.declared.notation.SizeNotation.{SizeNotation}
use Rattle.asn_notation.specs.declared.notation.SizeEnd.{SizeEnd}
use Rattle.asn_notation.specs.declared.notation.SizeEnd.TheVariants.{To, ToMax}
use Rattle.asn_notation.specs.declared.notation.ListSize.{ListSize}
use Rattle.asn_notation.specs.declared.notation.ListSize.TheVariants as list_size
use Rattle.asn_notation.specs.declared.notation.StringKind.{StringKind}
use Rattle.asn_notation.specs.declared.notation.StringKind.TheVariants as string_kind
use Rattle.asn_notation.specs.Token.{Token, word}
use Rattle.asn_notation.specs.Tree as t
use Rattle.asn_notation.specs.Tree.{Item, Default, Need, Tree, Components, More}
use Rattle.asn_notation.specs.Grammar as g
use Rattle.asn_notation.specs.Printed.{token_text, line}
use Rattle.asn_module.specs.Accepted.{Typed, ModuleTypes}

-- ---- bounds

-- both bounds with `..`; nothing where there are none
abbrev pub range_printed : Range → Option RangeNotation
range_printed b =
    if (is_some b.low || is_some b.high) || b.extensible
    then Some (record { limits = Between b.low b.high; marked = b.extensible }) else None

abbrev pub size_end_printed : Option ℕ → SizeEnd
size_end_printed None = ToMax
size_end_printed (Some high) = To high

-- both bounds with `..`; nothing where any length is allowed
abbrev pub size_printed : SizeRange → Option SizeNotation
size_printed b =
    if (nat_lt 0 b.low || is_some b.high) || b.extensible
    then Some (record { low = b.low; high = size_end_printed b.high; marked = b.extensible }) else None

-- ---- ENUMERATED: each item with its number

abbrev pub item_printed : Label → Item
item_printed l = record { name = l.name; number = Some l.number }

abbrev pub items_printed : List Label → List Item
items_printed ls = map item_printed ls

-- ---- strings

abbrev pub kind_printed : Alphabet → StringKind
kind_printed s.ia5 = string_kind.Ia5
kind_printed s.numeric = string_kind.Numeric
kind_printed s.visible = string_kind.Visible

-- ---- ENUMERATED, its additions

abbrev pub more_items_printed : MoreLabels → Option (List Item)
more_items_printed s.closed_labels = None
more_items_printed (s.marked_labels ls) = Some (items_printed ls)

-- ---- DEFAULT

-- the name of the item at an index; empty where there is none
abbrev pub label_name : List Label → ℕ → List ℕ
label_name [] index = []
label_name (l ∷ ls) zero = l.name
label_name (l ∷ ls) (suc index) = label_name ls index

abbrev pub item_name : Shape → ℕ → List ℕ
item_name (s.enumerated root more) index = label_name root index
item_name _ index = []

-- a type of the profile has no DEFAULT that is no BOOLEAN, number or item: FALSE stands for these
abbrev pub default_printed : Shape → Datum → Default
default_printed shape (datum.truth b) = t.truth b
default_printed shape (datum.number z) = t.number z
default_printed shape (datum.item index) = t.item (item_name shape index)
default_printed shape _ = t.truth false

abbrev pub need_printed : Shape → Demand → Need
need_printed shape s.must = t.must
need_printed shape s.optional = t.optional
need_printed shape (s.default d) = t.default (default_printed shape d)

-- ---- types

-- in parentheses, where there is a size
abbrev pub bracketed : Option SizeNotation → ListSize
bracketed None = list_size.Any
bracketed (Some size) = list_size.Bracketed size

-- the tree that a type is printed as: references are followed, and bounds are effective
abbrev mutual
  pub type_printed : Shape → Tree
  type_printed s.boolean = t.boolean
  type_printed s.null = t.null
  type_printed (s.integer b) = t.integer (range_printed b)
  type_printed (s.enumerated root more) = t.enumerated (items_printed root) (more_items_printed more)
  type_printed (s.bit_string b) = t.text string_kind.Bits (size_printed b)
  type_printed (s.octet_string b) = t.text string_kind.Octets (size_printed b)
  type_printed (s.restricted k b) = t.text (kind_printed k) (size_printed b)
  type_printed s.utf8_string = t.utf8
  type_printed (s.sequence root more) = t.sequence (components_printed root) (additions_printed more)
  type_printed (s.sequence_of element b) = t.sequence_of (bracketed (size_printed b)) (type_printed element)
  type_printed (s.choice root more) = t.choice (alternatives_printed root) (more_alternatives_printed more)

  pub components_printed : Fields → Components
  components_printed s.no_fields = t.no_components
  components_printed (s.field name demand shape fs) =
      t.component name (type_printed shape) (need_printed shape demand) (components_printed fs)

  pub additions_printed : MoreFields → More
  additions_printed s.closed = t.closed
  additions_printed (s.marked fs) = t.marked (components_printed fs)

  pub alternatives_printed : Alternatives → t.Alternatives
  alternatives_printed s.no_alternatives = t.no_alternatives
  alternatives_printed (s.one_of name shape alts) = t.alternative name (type_printed shape) (alternatives_printed alts)

  pub more_alternatives_printed : MoreAlternatives → t.MoreAlternatives
  more_alternatives_printed s.closed_choice = t.closed_choice
  more_alternatives_printed (s.marked_choice alts) = t.marked_choice (alternatives_printed alts)

-- ---- modules: a line up to BEGIN, a line for each name, and END

-- a name with its type
abbrev pub line_printed : List ℕ → Shape → List ℕ
line_printed name shape = line (g.assignment (record { name = name; tree = type_printed shape }))

abbrev pub lines_printed : List Typed → List ℕ
lines_printed [] = []
lines_printed (x ∷ xs) = line_printed x.name x.shape ++ lines_printed xs

-- the text that a module is printed as
abbrev pub printed : ModuleTypes → List ℕ
printed m = line (g.heading m.name) ++ lines_printed m.types ++ line (word words.End ∷ [])

-- ---- text that is added

-- items with commas between them, and one before the first where they follow others
abbrev pub items_tokens : Bool → List Label → List Token
items_tokens false ls = g.with_commas g.item (items_printed ls)
items_tokens true ls = g.each_after_comma g.item (items_printed ls)

-- tokens, each after one SPACE
abbrev pub after_spaces : List Token → List ℕ
after_spaces [] = []
after_spaces (x ∷ xs) = 32 ∷ (token_text x ++ after_spaces xs)

-- the tokens were added to a text
abbrev pub Adds : List Token → List ℕ → List ℕ → Type 0
Adds ts old new = new ≡ old ++ after_spaces ts

-- the same of a text of the program, unless memory ran out
abbrev pub Writes : {T E Y : Type 0} → List Token → Result T E → String Y → String Y → Type 0
Writes ts r old new = OnOk r (Adds ts (string_bytes old) (string_bytes new))

-- a comma, where something stands before
abbrev pub comma_if : Bool → List Token
comma_if false = []
comma_if true = g.comma ∷ []

-- the extension mark, after a comma where something stands before it
abbrev pub dots_tokens : Bool → List Token
dots_tokens b = comma_if b ++ g.dots ∷ []

-- components with commas between them, and one before the first where they follow others
abbrev pub components_tokens : Bool → Fields → List Token
components_tokens false fs = g.components (components_printed fs)
components_tokens true fs = g.following_components (components_printed fs)

-- alternatives in the same way
abbrev pub alternatives_tokens : Bool → Alternatives → List Token
alternatives_tokens false alts = g.alternatives (alternatives_printed alts)
alternatives_tokens true alts = g.following_alternatives (alternatives_printed alts)
