-- How large a module is, references followed: each type counts one, each item of an ENUMERATED one, and each name in
-- them its octets.
use Rattle.std.specs.Prelude.{◌+◌, ◌<◌, ◌≤◌, ℕ, suc, min, ⊤, List, [], ◌∷◌, length, Option, Some, None}
use Rattle.asn_values.specs.Shape.{Shape, Label, MoreLabels, closed_labels, marked_labels, enumerated, sequence, sequence_of, choice}
use Rattle.asn_values.specs.Shape.{Fields, no_fields, field, MoreFields, closed, marked}
use Rattle.asn_values.specs.Shape.{Alternatives, no_alternatives, one_of, MoreAlternatives, closed_choice, marked_choice}
use Rattle.asn_module.specs.Accepted.{Typed, ModuleTypes, Accepted}

abbrev pub labels_size : List Label → ℕ
labels_size [] = 0
labels_size (l ∷ ls) = suc (length l.name) + labels_size ls

abbrev pub more_labels_size : MoreLabels → ℕ
more_labels_size closed_labels = 0
more_labels_size (marked_labels ls) = labels_size ls

abbrev mutual
  pub type_size : Shape → ℕ
  type_size (enumerated root more) = suc (labels_size root + more_labels_size more)
  type_size (sequence root more) = suc (fields_size root + more_fields_size more)
  type_size (sequence_of t size) = suc (type_size t)
  type_size (choice root more) = suc (alternatives_size root + more_alternatives_size more)
  type_size _ = 1

  pub fields_size : Fields → ℕ
  fields_size no_fields = 0
  fields_size (field name demand t fs) = length name + type_size t + fields_size fs

  pub more_fields_size : MoreFields → ℕ
  more_fields_size closed = 0
  more_fields_size (marked fs) = fields_size fs

  pub alternatives_size : Alternatives → ℕ
  alternatives_size no_alternatives = 0
  alternatives_size (one_of name t alts) = length name + type_size t + alternatives_size alts

  pub more_alternatives_size : MoreAlternatives → ℕ
  more_alternatives_size closed_choice = 0
  more_alternatives_size (marked_choice alts) = alternatives_size alts

-- of the types of all names
abbrev pub types_size : List Typed → ℕ
types_size [] = 0
types_size (t ∷ ts) = type_size t.shape + types_size ts

-- the most that a module may be that is read without another bound
abbrev pub most_size : ℕ
most_size = 10000000

-- as far as it is counted
abbrev pub capped_size : ℕ → ℕ
capped_size n = min 4294967296 n

-- no larger than a bound, where there is one
abbrev pub IsAtMost : Option ℕ → ℕ → Type 0
IsAtMost None n = ⊤
IsAtMost (Some most) n = n ≤ most

-- there is a bound, and whatever module the text is is larger
abbrev pub IsLarger : List ℕ → Option ℕ → Type 0
IsLarger text None = ⊥
IsLarger text (Some most) = (m : ModuleTypes) → Accepted text m → most < types_size m.types
