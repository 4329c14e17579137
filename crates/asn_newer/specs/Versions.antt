-- Versions of a type, and what a receiver that has one of them makes of a value of a sender that has another.
use Rattle.std.specs.Prelude.{◌≡◌, ◌-◌, ◌+◌, ℕ, zero, suc, Bool, true, false, List, [], ◌∷◌, map, length, take, drop, Option, Some, None, IsTrue, nat_lt, ⊤}
use Rattle.asn_values.specs.Datum.{Datum, item, components, component_list, elements, element_list, alternative}
use Rattle.asn_values.specs.Shape.{Shape, enumerated, sequence, sequence_of, choice, Label, MoreLabels, closed_labels, marked_labels, Fields, no_fields, field, MoreFields, closed, marked, demands, Alternatives, no_alternatives, one_of, MoreAlternatives, closed_choice, marked_choice, count}
use Rattle.asn_walk.specs.Coding.{Coding, absent_entries}
use Rattle.asn_newer.specs.declared.path.PathStep.TheVariants as step
use Rattle.asn_newer.specs.Skipped.{SkippedAt, Reading, Entries, nothing_skipped, skipped_here, part_read, entry_read, entry_left, sequence_read, list_read, alternative_read, alternative_skipped, item_skipped}
use Rattle.asn_newer.specs.Loose.{LooseCoding}

-- ---- which types are versions of one another

-- Two lists of additions of which one begins the other; `a` says whether the first may be the longer one, `b` whether
-- the second.
abbrev pub LabelVersions : Bool → Bool → List Label → List Label → Type 0
LabelVersions a b [] [] = ⊤
LabelVersions a b (x ∷ xs) [] = IsTrue a
LabelVersions a b [] (y ∷ ys) = IsTrue b
LabelVersions a b (x ∷ xs) (y ∷ ys) = (x ≡ y) × LabelVersions a b xs ys

abbrev pub MoreLabelVersions : Bool → Bool → MoreLabels → MoreLabels → Type 0
MoreLabelVersions a b closed_labels closed_labels = ⊤
MoreLabelVersions a b (marked_labels xs) (marked_labels ys) = LabelVersions a b xs ys
MoreLabelVersions a b _ _ = ⊥

abbrev mutual
  -- the types are one but for additions at the end of marked lists, at any depth
  pub Versions : Bool → Bool → Shape → Shape → Type 0
  Versions a b (enumerated root more) (enumerated roots mores) = (root ≡ roots) × MoreLabelVersions a b more mores
  Versions a b (enumerated root more) _ = ⊥
  Versions a b (sequence root more) (sequence roots mores) = FieldVersions a b root roots × MoreVersions a b more mores
  Versions a b (sequence root more) _ = ⊥
  Versions a b (sequence_of t s) (sequence_of u z) = Versions a b t u × (s ≡ z)
  Versions a b (sequence_of t s) _ = ⊥
  Versions a b (choice root more) (choice roots mores) =
      AlternativeVersions a b root roots × MoreChoiceVersions a b more mores
  Versions a b (choice root more) _ = ⊥
  Versions a b t u = t ≡ u

  pub FieldVersions : Bool → Bool → Fields → Fields → Type 0
  FieldVersions a b no_fields no_fields = ⊤
  FieldVersions a b (field name demand t fs) (field other need u gs) =
      (name ≡ other) × (demand ≡ need) × Versions a b t u × FieldVersions a b fs gs
  FieldVersions a b _ _ = ⊥

  pub MoreVersions : Bool → Bool → MoreFields → MoreFields → Type 0
  MoreVersions a b closed closed = ⊤
  MoreVersions a b (marked fs) (marked gs) = AddedVersions a b fs gs
  MoreVersions a b _ _ = ⊥

  pub AddedVersions : Bool → Bool → Fields → Fields → Type 0
  AddedVersions a b no_fields no_fields = ⊤
  AddedVersions a b (field name demand t fs) no_fields = IsTrue a
  AddedVersions a b no_fields (field name demand t fs) = IsTrue b
  AddedVersions a b (field name demand t fs) (field other need u gs) =
      (name ≡ other) × (demand ≡ need) × Versions a b t u × AddedVersions a b fs gs

  pub AlternativeVersions : Bool → Bool → Alternatives → Alternatives → Type 0
  AlternativeVersions a b no_alternatives no_alternatives = ⊤
  AlternativeVersions a b (one_of name t alts) (one_of other u others) =
      (name ≡ other) × Versions a b t u × AlternativeVersions a b alts others
  AlternativeVersions a b _ _ = ⊥

  pub MoreChoiceVersions : Bool → Bool → MoreAlternatives → MoreAlternatives → Type 0
  MoreChoiceVersions a b closed_choice closed_choice = ⊤
  MoreChoiceVersions a b (marked_choice alts) (marked_choice others) = AddedAlternatives a b alts others
  MoreChoiceVersions a b _ _ = ⊥

  pub AddedAlternatives : Bool → Bool → Alternatives → Alternatives → Type 0
  AddedAlternatives a b no_alternatives no_alternatives = ⊤
  AddedAlternatives a b (one_of name t alts) no_alternatives = IsTrue a
  AddedAlternatives a b no_alternatives (one_of name t alts) = IsTrue b
  AddedAlternatives a b (one_of name t alts) (one_of other u others) =
      (name ≡ other) × Versions a b t u × AddedAlternatives a b alts others

-- the second type is the first with no, one or more additions at the end of marked lists, at any depth
abbrev pub Newer : Shape → Shape → Type 0
Newer old new = Versions false true old new

-- at each marked list one of the two types has the additions of the other, and perhaps more
abbrev pub AreVersions : Shape → Shape → Type 0
AreVersions t u = Versions true true t u

-- ---- what the receiver makes of a value

-- an item that the receiver has, or one that it has not
abbrev pub item_received : LooseCoding → List Label → List Label → List Label → List Label → ℕ → Reading
item_received l root additions roots more p =
    elim (nat_lt p (length roots + length more)) [
      | true ↦ nothing_skipped (item p)
      | false ↦ item_skipped (l.told_number root additions p)
    ]

-- the addition at an index, which the receiver has not: the octets of its complete encoding
abbrev pub unknown : Coding → ℕ → Shape → Datum → SkippedAt
unknown c place t d = skipped_here place (c.complete (c.code t d))

abbrev mutual
  -- of a value of the sender's type, the first: the value with the entries of the receiver's type, the second, and the
  -- fields that it skips
  pub received : LooseCoding → Shape → Shape → Datum → Reading
  received l (enumerated root (marked_labels ls)) (enumerated roots (marked_labels more)) (item p) =
      item_received l root ls roots more p
  received l (sequence root more) (sequence roots mores) (components cs) =
      sequence_read (
        entries_received l 0 root roots (take (length (demands root)) (component_list cs)),
        more_received l more mores (drop (length (demands root)) (component_list cs)),
      )
  received l (sequence_of t s) (sequence_of u z) (elements ds) =
      list_read (map (λ d. received l t u d) (element_list ds))
  received l (choice root more) (choice roots mores) (alternative tag d) =
      elim (nat_lt tag (count root)) [
        | true ↦ root_received l tag root roots tag d
        | false ↦ other_received l tag more mores (tag - count root) d
      ]
  received l t u d = nothing_skipped d

  -- the components of the root from an index on
  pub entries_received : LooseCoding → ℕ → Fields → Fields → List (Option Datum) → Entries
  entries_received l i (field name demand t fs) (field other need u gs) (Some d ∷ es) =
      entry_read (part_read (step.Component i) (received l t u d), entries_received l (suc i) fs gs es)
  entries_received l i (field name demand t fs) (field other need u gs) (None ∷ es) =
      entry_left None (entries_received l (suc i) fs gs es)
  entries_received l i _ _ _ = ([], [])

  pub more_received : LooseCoding → MoreFields → MoreFields → List (Option Datum) → Entries
  more_received l (marked fs) (marked gs) es = added_received l 0 fs gs es
  more_received l _ _ es = ([], [])

  -- the additions from an index on: those that the sender has not are absent, those that the receiver has not are
  -- skipped
  pub added_received : LooseCoding → ℕ → Fields → Fields → List (Option Datum) → Entries
  added_received l place (field name demand t fs) (field other need u gs) (Some d ∷ es) =
      entry_read (part_read (step.Addition place) (received l t u d), added_received l (suc place) fs gs es)
  added_received l place (field name demand t fs) (field other need u gs) (None ∷ es) =
      entry_left None (added_received l (suc place) fs gs es)
  added_received l place (field name demand t fs) no_fields (Some d ∷ es) =
      let rest = added_received l (suc place) fs no_fields es in
      (rest.0, unknown l.coding place t d ∷ rest.1)
  added_received l place (field name demand t fs) no_fields (None ∷ es) = added_received l (suc place) fs no_fields es
  added_received l place _ gs es = (absent_entries gs, [])

  pub root_received : LooseCoding → ℕ → Alternatives → Alternatives → ℕ → Datum → Reading
  root_received l tag (one_of name t alts) (one_of other u others) zero d =
      alternative_read tag (part_read (step.Alternative tag) (received l t u d))
  root_received l tag (one_of name t alts) (one_of other u others) (suc i) d = root_received l tag alts others i d
  root_received l tag _ _ i d = nothing_skipped d

  pub other_received : LooseCoding → ℕ → MoreAlternatives → MoreAlternatives → ℕ → Datum → Reading
  other_received l tag (marked_choice alts) (marked_choice others) i d = addition_received l tag i alts others i d
  other_received l tag _ _ i d = nothing_skipped d

  -- the addition i further on, whose index among the additions is known
  pub addition_received : LooseCoding → ℕ → ℕ → Alternatives → Alternatives → ℕ → Datum → Reading
  addition_received l tag place (one_of name t alts) (one_of other u others) zero d =
      alternative_read tag (part_read (step.Alternative tag) (received l t u d))
  addition_received l tag place (one_of name t alts) (one_of other u others) (suc i) d =
      addition_received l tag place alts others i d
  addition_received l tag place (one_of name t alts) no_alternatives zero d =
      alternative_skipped tag (unknown l.coding place t d)
  addition_received l tag place (one_of name t alts) no_alternatives (suc i) d =
      addition_received l tag place alts no_alternatives i d
  addition_received l tag place no_alternatives others i d = nothing_skipped d

-- what an older receiver keeps of a value, and what it skips
abbrev pub cut : LooseCoding → Shape → Shape → Datum → Datum
cut l old new v = (received l new old v).0

abbrev pub dropped : LooseCoding → Shape → Shape → Datum → List SkippedAt
dropped l old new v = (received l new old v).1

-- what a newer receiver has of a value: the additions that the sender has not are absent
abbrev pub wide : LooseCoding → Shape → Shape → Datum → Datum
wide l old new v = (received l old new v).0
