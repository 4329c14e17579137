-- Messages as a receiver takes them that may be older or newer than the sender: an encoding, with three more clauses.
-- A SEQUENCE may count fewer additions than its type has, or more; a CHOICE may have an alternative and an ENUMERATED
-- an item that its type has not. All three only where the type has an extension mark.
use Rattle.std.specs.Prelude.{◌≡◌, ◌-◌, ◌+◌, ◌^◌, ◌<◌, ◌≤◌, ◌⊎◌, ℕ, zero, suc, ℤ, Bool, true, false, List, [], ◌∷◌, ◌++◌, length, Option, Some, None}
use mathlib.Core.Logic.{inl, inr}
use Rattle.std.specs.List.{AllByRecursion}
use Rattle.asn_values.specs.Datum.{Datum}
use Rattle.asn_values.specs.Shape.{Shape, boolean, null, integer, enumerated, bit_string, octet_string, restricted, utf8_string, sequence, sequence_of, choice, Label, closed_labels, marked_labels, must, optional, default, Fields, no_fields, field, MoreFields, closed, marked, Alternatives, no_alternatives, one_of, MoreAlternatives, closed_choice, marked_choice, count}
use Rattle.asn_values.specs.Profile.{most_additions, most_alternatives}
use Rattle.asn_bits.specs.Numbers.{bits}
use Rattle.asn_rules.specs.Chunks.{Chunk, open_field, ones, flat}
use Rattle.asn_rules.specs.General.{after_first}
use Rattle.asn_rules.specs.Languages.{Then, Map, Nothing, Sealed}
use Rattle.asn_rules.specs.Listed.{Spelt, bitmap_length}
use Rattle.asn_rules.specs.Spellings.{SpelledBy}
use Rattle.asn_walk.specs.Coding.{Coding, PreambleOf, ListingOf, IndexOf, absent_entries}
use Rattle.asn_newer.specs.declared.path.PathStep.TheVariants as step
use Rattle.asn_newer.specs.Skipped.{Skipped, SkippedAt, Reading, Entries, Inside, fields_of_all, skipped_here, nothing_skipped, entry_read, entry_left, sequence_read, list_read, alternative_read, alternative_skipped, item_skipped}

-- what a set of encoding rules says of items that a type has not, beside what it says of the parts
pub record LooseCoding : Type 1 where
  pub coding : Coding
  -- the number that tells such an item of an ENUMERATED with this root and these additions
  pub IsUnknown : List Label → List Label → ℤ → Type 0
  -- its units
  pub unknown_units : ℤ → List ℕ
  -- what the number is of the item at a position of the sender's root and additions
  pub told_number : List Label → List Label → ℕ → ℤ

abbrev pub field_spelling : Coding → List ℕ → List ℕ
field_spelling c = c.ruling.fielding.spelled

-- ---- open type fields

-- content that no one looks into: octets, as many as an open type field has at the least
pub record AnyOctets (c : Coding) (os content : List ℕ) : Type 0 where
  pub same : content ≡ os
  pub octets : AllByRecursion (λ o. o < 256) os
  pub some : c.ruling.fielding.shortest open_field ≤ length os

-- the open type field of an addition that the type has not
abbrev pub Unknown : Coding → ℕ → SkippedAt → List Chunk → Type 0
Unknown c place = Map (skipped_here place) (Sealed open_field (AnyOctets c))

-- the octets of a complete encoding whose spelling is of the language
pub record Complete {A : Type 0} (c : Coding) (L : A → List Chunk → Type 0) (a : A) (o : List ℕ) : Type 0 where
  pub octets : AllByRecursion (λ b. b < 256) o
  pub chunks : List Chunk
  pub spelt : L a chunks
  pub units : c.ruling.units o ≡ flat (field_spelling c) chunks ++ c.padding (length (flat (field_spelling c) chunks))

-- the open type field of an addition that the type has
abbrev pub Known : {A : Type 0} → Coding → (A → List Chunk → Type 0) → A → List Chunk → Type 0
Known c L = Sealed open_field (Complete c L)

-- additions that the type has not, by their presence bits from an index on
abbrev pub AllUnknown : Coding → ℕ → List ℕ → List SkippedAt → List Chunk → Type 0
AllUnknown c place [] = Nothing []
AllUnknown c place (zero ∷ present) = AllUnknown c (suc place) present
AllUnknown c place (suc b ∷ present) =
    Map (λ p. p.0 ∷ p.1) (Then (Unknown c place) (λ _. AllUnknown c (suc place) present))

-- ---- counts, indexes and items that the type may not have

-- how many additions there may be, where there is a mark
abbrev pub additions_to_come : MoreFields → Option ℕ
additions_to_come closed = None
additions_to_come (marked fs) = Some most_additions

-- a presence bitmap of any count of additions, of which one is present: the count, and the bits as a number
pub record IsBitmap (p : ℕ × ℕ) : Type 0 where
  pub few : p.0 ≤ most_additions
  pub some : 0 < p.1
  pub below : p.1 < 2 ^ p.0

abbrev pub AnyBitmap : Coding → ℕ × ℕ → List Chunk → Type 0
AnyBitmap c = SpelledBy IsBitmap (λ p. ones (c.addition_bitmap (bits p.0 p.1)))

-- how many alternatives there may be after the mark
abbrev pub alternatives_to_come : Alternatives → MoreAlternatives → Option ℕ
alternatives_to_come root closed_choice = None
alternatives_to_come root (marked_choice alts) = Some (most_alternatives - count root)

-- by an index of the root or of the additions
abbrev pub by_index :
    {A : Type 0} → (ℕ → A → List Chunk → Type 0) → (ℕ → A → List Chunk → Type 0) → ℕ ⊎ ℕ → A → List Chunk → Type 0
by_index L M (inl i) = L i
by_index L M (inr i) = M i

-- an item of the type, or one that it has not
abbrev pub AnyItem : LooseCoding → List Label → List Label → Reading → List Chunk → Type 0
AnyItem l root additions r cs =
    Map nothing_skipped (Spelt l.coding.code None (enumerated root (marked_labels additions))) r cs
    ⊎ Map item_skipped (SpelledBy (l.IsUnknown root additions) (λ z. ones (l.unknown_units z))) r cs

-- ---- all types

abbrev mutual
  -- what is read as this value, with these fields skipped
  pub Loose : LooseCoding → Shape → Reading → List Chunk → Type 0
  Loose l (enumerated root (marked_labels additions)) = AnyItem l root additions
  Loose l (sequence root more) =
      Map (λ p. sequence_read p.1) (Then (PreambleOf l.coding (bitmap_length root) (additions_to_come more))
      (λ p. Then (LooseEach l 0 root (bits (bitmap_length root) p.1)) (λ _. LooseMore l more p.0)))
  Loose l (sequence_of t s) = Map list_read (ListingOf l.coding s (Loose l t))
  Loose l (choice root more) =
      Map after_first (Then (IndexOf l.coding (count root) (alternatives_to_come root more))
      (by_index (λ i. LooseRoot l i root i) (λ i. LooseOther l (count root) more i)))
  Loose l boolean = Map nothing_skipped (Spelt l.coding.code None boolean)
  Loose l null = Map nothing_skipped (Spelt l.coding.code None null)
  Loose l (integer b) = Map nothing_skipped (Spelt l.coding.code None (integer b))
  Loose l (enumerated root closed_labels) =
      Map nothing_skipped (Spelt l.coding.code None (enumerated root closed_labels))
  Loose l (bit_string s) = Map nothing_skipped (Spelt l.coding.code None (bit_string s))
  Loose l (octet_string s) = Map nothing_skipped (Spelt l.coding.code None (octet_string s))
  Loose l (restricted k s) = Map nothing_skipped (Spelt l.coding.code None (restricted k s))
  Loose l utf8_string = Map nothing_skipped (Spelt l.coding.code None utf8_string)

  -- the components of the root, the first of which has this index, under their presence bits
  pub LooseEach : LooseCoding → ℕ → Fields → List ℕ → Entries → List Chunk → Type 0
  LooseEach l i no_fields present = Nothing ([], [])
  LooseEach l i (field name must t fs) present =
      Map entry_read (Then (Inside (step.Component i) (Loose l t)) (λ _. LooseEach l (suc i) fs present))
  LooseEach l i (field name optional t fs) (suc b ∷ present) =
      Map entry_read (Then (Inside (step.Component i) (Loose l t)) (λ _. LooseEach l (suc i) fs present))
  LooseEach l i (field name optional t fs) (zero ∷ present) = Map (entry_left None) (LooseEach l (suc i) fs present)
  LooseEach l i (field name (default d) t fs) (suc b ∷ present) =
      Map entry_read (Then (Map nothing_skipped (Spelt l.coding.code (Some d) t)) (λ _. LooseEach l (suc i) fs present))
  LooseEach l i (field name (default d) t fs) (zero ∷ present) =
      Map (entry_left (Some d)) (LooseEach l (suc i) fs present)
  LooseEach l i (field name optional t fs) [] = λ es cs. ⊥
  LooseEach l i (field name (default d) t fs) [] = λ es cs. ⊥

  -- the additions by the extension bit
  pub LooseMore : LooseCoding → MoreFields → Bool → Entries → List Chunk → Type 0
  LooseMore l closed extended = Nothing ([], [])
  LooseMore l (marked fs) false = Nothing (absent_entries fs, [])
  LooseMore l (marked fs) true = Map after_first (Then (AnyBitmap l.coding) (λ p. LooseOpen l 0 fs (bits p.0 p.1)))

  -- and by their presence bits from an index on: those past the count are absent, those that the type has not are
  -- skipped
  pub LooseOpen : LooseCoding → ℕ → Fields → List ℕ → Entries → List Chunk → Type 0
  LooseOpen l place no_fields present = Map (λ s. ([], s)) (AllUnknown l.coding place present)
  LooseOpen l place (field name demand t fs) [] = Nothing (absent_entries (field name demand t fs), [])
  LooseOpen l place (field name demand t fs) (zero ∷ present) =
      Map (entry_left None) (LooseOpen l (suc place) fs present)
  LooseOpen l place (field name demand t fs) (suc b ∷ present) =
      Map entry_read (Then (Inside (step.Addition place) (Known l.coding (Loose l t)))
      (λ _. LooseOpen l (suc place) fs present))

  -- the alternative at an index of the root, with this tag
  pub LooseRoot : LooseCoding → ℕ → Alternatives → ℕ → Reading → List Chunk → Type 0
  LooseRoot l tag no_alternatives i = λ r cs. ⊥
  LooseRoot l tag (one_of name t alts) zero =
      Map (alternative_read tag) (Inside (step.Alternative tag) (Loose l t))
  LooseRoot l tag (one_of name t alts) (suc i) = LooseRoot l tag alts i

  pub LooseOther : LooseCoding → ℕ → MoreAlternatives → ℕ → Reading → List Chunk → Type 0
  LooseOther l roots closed_choice i = λ r cs. ⊥
  LooseOther l roots (marked_choice alts) i = LooseAdded l (roots + i) i alts i

  -- the same of the additions, with this tag and index: one that the type has not is skipped
  pub LooseAdded : LooseCoding → ℕ → ℕ → Alternatives → ℕ → Reading → List Chunk → Type 0
  LooseAdded l tag place no_alternatives i = Map (alternative_skipped tag) (Unknown l.coding place)
  LooseAdded l tag place (one_of name t alts) zero =
      Map (alternative_read tag) (Inside (step.Alternative tag) (Known l.coding (Loose l t)))
  LooseAdded l tag place (one_of name t alts) (suc i) = LooseAdded l tag place alts i

-- ---- messages

-- the octets are read as the value, with these fields skipped, each at its path
abbrev pub IsLooseAt : LooseCoding → Shape → Datum → List SkippedAt → List ℕ → Type 0
IsLooseAt l t w s o = Complete l.coding (Loose l t) (w, s) o

-- the same, wherever the fields are
pub record IsLoose (l : LooseCoding) (t : Shape) (w : Datum) (s : List Skipped) (o : List ℕ) : Type 0 where
  pub skipped : List SkippedAt
  pub same : s ≡ fields_of_all skipped
  pub read : IsLooseAt l t w skipped o
