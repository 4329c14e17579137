-- What the types of a module stand for (X.680): references followed, and the bounds written along the way met.
use Rattle.std.specs.Prelude.{ℕ, zero, suc, ℤ, pos, negsuc, Bool, true, false, not, ◌&&◌, ◌||◌, List, [], ◌∷◌, length}
use Rattle.std.specs.Prelude.{Option, Some, None, bytes_eq, nat_lt, if◌then◌else◌, is_some, int_lt}
use Rattle.std.specs.List.{list_any}
use Rattle.asn_values.specs.Datum as datum
use Rattle.asn_values.specs.Datum.{Datum}
use Rattle.asn_values.specs.Shape as s
use Rattle.asn_values.specs.Shape.{Shape, Range, SizeRange, Alphabet, Label, MoreLabels, Demand, Fields, MoreFields}
use Rattle.asn_values.specs.Shape.{Alternatives, MoreAlternatives}
use Rattle.asn_notation.specs.declared.notation.RangeNotation.{RangeNotation}
use Rattle.asn_notation.specs.declared.notation.SizeNotation.{SizeNotation}
use Rattle.asn_notation.specs.declared.notation.ListSize.{ListSize}
use Rattle.asn_notation.specs.declared.notation.ListSize.TheVariants as list_size
use Rattle.asn_notation.specs.declared.notation.Constraint.{Constraint}
use Rattle.asn_notation.specs.declared.notation.Constraint.TheVariants as constraint
use Rattle.asn_notation.specs.declared.notation.StringKind.{StringKind}
use Rattle.asn_notation.specs.declared.notation.StringKind.TheVariants as string_kind
use Rattle.asn_notation.specs.Tree as t
use Rattle.asn_notation.specs.Tree.{Tree, Item, Default, Need, Components, More, Assignment}
use Rattle.asn_module.specs.Bounds.{range_meant, size_meant, any_range, any_size, ranges_meet, sizes_meet}

infixl 10 ◌>>=◌
abbrev pub ◌>>=◌ : {A B : Type 0} → Option A → (A → Option B) → Option B
None >>= f = None
(Some x) >>= f = f x

-- a type, and the constraint that was written on it or on a type that it refers to: None, or whether it has the
-- extension mark
pub record Meant : Type 0 where
  pub shape : Shape
  pub constraint : Option Bool

-- a type on which no constraint was written
abbrev pub free : Shape → Meant
free shape = record { shape = shape; constraint = None }

-- ---- INTEGER and strings

abbrev pub integer_meant : Option RangeNotation → Meant
integer_meant None = free (s.integer any_range)
integer_meant (Some r) = record { shape = s.integer (range_meant r); constraint = Some r.marked }

abbrev pub string_shape : StringKind → SizeRange → Shape
string_shape string_kind.Bits size = s.bit_string size
string_shape string_kind.Octets size = s.octet_string size
string_shape string_kind.Ia5 size = s.restricted s.ia5 size
string_shape string_kind.Numeric size = s.restricted s.numeric size
string_shape string_kind.Visible size = s.restricted s.visible size

abbrev pub string_meant : StringKind → Option SizeNotation → Meant
string_meant kind None = free (string_shape kind any_size)
string_meant kind (Some size) = record { shape = string_shape kind (size_meant size); constraint = Some size.marked }

-- ---- ENUMERATED: numbers as written, or from 0 where no item carries one

abbrev pub has_number : Item → Bool
has_number i = is_some i.number

abbrev pub has_numbers : List Item → Option (List Item) → Bool
has_numbers root None = list_any has_number root
has_numbers root (Some more) = list_any has_number root || list_any has_number more

-- 2^31: a number that no item of the profile has
abbrev pub no_number : ℤ
no_number = pos 2147483648

-- a number past 32 bits is none of the profile, whichever it is
abbrev pub written_number : Option ℤ → ℤ
written_number None = no_number
written_number (Some z) = if int_lt z (negsuc 2147483647) || int_lt (pos 2147483647) z then no_number else z

abbrev pub item_number : Bool → ℕ → Option ℤ → ℤ
item_number true index written = written_number written
item_number false index written = written_number (Some (pos index))

-- the items from an index on; where some carry numbers, one that carries none has no number of the profile
abbrev pub labels_from : Bool → ℕ → List Item → List Label
labels_from numbered index [] = []
labels_from numbered index (i ∷ items) =
    (record { name = i.name; number = item_number numbered index i.number }) ∷ labels_from numbered (suc index) items

abbrev pub more_labels_meant : Bool → ℕ → Option (List Item) → MoreLabels
more_labels_meant numbered index None = s.closed_labels
more_labels_meant numbered index (Some more) = s.marked_labels (labels_from numbered index more)

abbrev pub enumerated_shape : Bool → List Item → Option (List Item) → Shape
enumerated_shape numbered root more =
    s.enumerated (labels_from numbered 0 root) (more_labels_meant numbered (length root) more)

abbrev pub enumerated_meant : List Item → Option (List Item) → Meant
enumerated_meant root more = free (enumerated_shape (has_numbers root more) root more)

-- ---- DEFAULT

-- the first item with this name, its index counted from `index`; where there is none, no value of the type, and none
-- either past 32 bits
abbrev pub item_named : List ℕ → ℕ → List Label → Datum
item_named name index [] = datum.nothing
item_named name index (l ∷ ls) =
    if bytes_eq l.name name then (if nat_lt index 4294967296 then datum.item index else datum.nothing)
    else item_named name (suc index) ls

-- of the items before the extension mark: an ENUMERATED with the mark has no DEFAULT in the profile
abbrev pub named_value : Shape → List ℕ → Datum
named_value (s.enumerated root more) name = item_named name 0 root
named_value _ name = datum.nothing

abbrev pub default_value : Shape → Default → Datum
default_value shape (t.truth b) = datum.truth b
default_value shape (t.number z) = datum.number z
default_value shape (t.item name) = named_value shape name

abbrev pub demand_meant : Shape → Need → Demand
demand_meant shape t.must = s.must
demand_meant shape t.optional = s.optional
demand_meant shape (t.default d) = s.default (default_value shape d)

-- ---- a constraint on a reference

-- none may be added to one with the extension mark, and none with the mark to any
abbrev pub may_add : Option Bool → Bool → Bool
may_add None marked = true
may_add (Some before) marked = not before && not marked

abbrev pub ranged : Shape → RangeNotation → Option Shape
ranged (s.integer b) r = Some (s.integer (ranges_meet b (range_meant r)))
ranged _ r = None

abbrev pub sized : Shape → SizeNotation → Option Shape
sized (s.bit_string b) size = Some (s.bit_string (sizes_meet b (size_meant size)))
sized (s.octet_string b) size = Some (s.octet_string (sizes_meet b (size_meant size)))
sized (s.restricted k b) size = Some (s.restricted k (sizes_meet b (size_meant size)))
sized (s.sequence_of element b) size = Some (s.sequence_of element (sizes_meet b (size_meant size)))
sized _ size = None

abbrev pub with_shape : Bool → Shape → Option Meant
with_shape marked shape = Some (record { shape = shape; constraint = Some marked })

-- the type that a reference with this constraint stands for; None where the constraint may not stand on the type
abbrev pub constrained : Meant → Constraint → Option Meant
constrained m constraint.None = Some m
constrained m (constraint.Range r) =
    if may_add m.constraint r.marked then ranged m.shape r >>= with_shape r.marked else None
constrained m (constraint.Size size) =
    if may_add m.constraint size.marked then sized m.shape size >>= with_shape size.marked else None

-- ---- types

abbrev pub list_meant : Shape → ListSize → Meant
list_meant element list_size.Any = free (s.sequence_of element any_size)
list_meant element (list_size.Bare size) =
    record { shape = s.sequence_of element (size_meant size); constraint = Some size.marked }
list_meant element (list_size.Bracketed size) =
    record { shape = s.sequence_of element (size_meant size); constraint = Some size.marked }

-- the type that a tree stands for, where `look` tells what names stand for; None where a name stands for nothing, or a
-- constraint may not stand where it does
unfoldable mutual
  pub meant : (List ℕ → Option Meant) → Tree → Option Meant
  meant look t.boolean = Some (free s.boolean)
  meant look t.null = Some (free s.null)
  meant look t.utf8 = Some (free s.utf8_string)
  meant look (t.integer r) = Some (integer_meant r)
  meant look (t.enumerated root more) = Some (enumerated_meant root more)
  meant look (t.text kind size) = Some (string_meant kind size)
  meant look (t.sequence root more) =
      fields_meant look root >>= (λ fs. more_meant look more >>= (λ ms. Some (free (s.sequence fs ms))))
  meant look (t.sequence_of size element) = meant look element >>= (λ m. Some (list_meant m.shape size))
  meant look (t.choice root more) =
      alternatives_meant look root
      >>= (λ xs. more_alternatives_meant look more >>= (λ ms. Some (free (s.choice xs ms))))
  meant look (t.reference name c) = look name >>= (λ m. constrained m c)

  pub fields_meant : (List ℕ → Option Meant) → Components → Option Fields
  fields_meant look t.no_components = Some s.no_fields
  fields_meant look (t.component name tree need rest) =
      meant look tree
      >>= (λ m. fields_meant look rest >>= (λ fs. Some (s.field name (demand_meant m.shape need) m.shape fs)))

  pub more_meant : (List ℕ → Option Meant) → More → Option MoreFields
  more_meant look t.closed = Some s.closed
  more_meant look (t.marked rest) = fields_meant look rest >>= (λ fs. Some (s.marked fs))

  pub alternatives_meant : (List ℕ → Option Meant) → t.Alternatives → Option Alternatives
  alternatives_meant look t.no_alternatives = Some s.no_alternatives
  alternatives_meant look (t.alternative name tree rest) =
      meant look tree >>= (λ m. alternatives_meant look rest >>= (λ xs. Some (s.one_of name m.shape xs)))

  pub more_alternatives_meant : (List ℕ → Option Meant) → t.MoreAlternatives → Option MoreAlternatives
  more_alternatives_meant look t.closed_choice = Some s.closed_choice
  more_alternatives_meant look (t.marked_choice rest) =
      alternatives_meant look rest >>= (λ xs. Some (s.marked_choice xs))

-- ---- references

-- the type that is assigned to a name
abbrev pub assigned : List ℕ → List Assignment → Option Tree
assigned name [] = None
assigned name (a ∷ rest) = if bytes_eq a.name name then Some a.tree else assigned name rest

-- the type that a name stands for in a module of these assignments, where fewer than n references follow one another
unfoldable pub stands_for : ℕ → List Assignment → List ℕ → Option Meant
stands_for zero all name = None
stands_for (suc n) all name = assigned name all >>= meant (stands_for n all)
