-- What a SEQUENCE of the profile and a value of it are made of.
use Rattle.std.proofs.Common.{◌≡◌, ◌↔◌, ℕ, List, length, map, take, drop, Option, Some, None, is_some, Vec, Global, refl, sym, ap, subst, ◌∙◌}
use Rattle.std.proofs.lemmas.List.{length-map}
use Rattle.asn_values.specs.declared.types.AsnType.{AsnType, Seq}
use Rattle.asn_values.specs.declared.types.Field.{Field}
use Rattle.asn_values.specs.Datum.{Datum, components, components_of}
use Rattle.asn_values.specs.Shape.{Shape, Fields, MoreFields, sequence, closed, marked, is_marked, demands}
use Rattle.asn_values.specs.Fits.{Fits, FitsEach, FitsSequence}
use Rattle.asn_values.specs.Profile.{InProfile}
use Rattle.asn_values.specs.Parts.{AreOfProfile}
use Rattle.asn_values.specs.View.{Part, shape_of, fields_of, more_fields_of, part_of_field}
use Rattle.asn_values.proofs.Parts.{components_of_profile}
use Rattle.asn_values.proofs.InnerTypes.{additions_optional}
use Rattle.asn_values.proofs.Views.{component_list-components_of, sequence_of_fields}
use Rattle.asn_values.proofs.Entries.{each_of_closed, each_length}
use Rattle.asn_walk.specs.Writing.{AreOptional}
use Rattle.asn_walk.proofs.Parts.{count_of_fields}

-- whether there is an extension mark
pub mark_of_fields : (ext : Option (Vec Field Global)) → is_marked (more_fields_of ext) ≡ is_some ext
mark_of_fields None = refl
mark_of_fields (Some more) = refl

-- ---- a type and a value

-- the components of the root, what follows them, and the entries
pub record OfSequence (t : Shape) (d : Datum) (parts : List Part) (more : MoreFields) (entries : List (Option Datum)) : Type 0 where
  pub shape : t ≡ sequence (fields_of parts) more
  pub datum : d ≡ components (components_of entries)

pub of_sequence : (t : AsnType) (d : Datum) (root : Vec Field Global) (ext : Option (Vec Field Global))
    (fs : List Field) (es : List (Option Datum))
    → t ≡ Seq root ext → d ≡ components (components_of es) → fs ≡ root.items
    → OfSequence (shape_of t) d (map part_of_field fs) (more_fields_of ext) es
of_sequence t d root ext fs es p q f = record { shape = sequence_of_fields t root ext fs p f; datum = q }

module _ {t : Shape} {d : Datum} {parts : List Part} {more : MoreFields} {entries : List (Option Datum)} (s : OfSequence t d parts more entries) where
  pub parts_of_profile : InProfile t → AreOfProfile (fields_of parts)
  parts_of_profile good = components_of_profile (fields_of parts) more (subst InProfile s.shape good)

  -- a value of the type is what fits its components and what follows them
  pub entries_fit : FitsSequence (fields_of parts) more entries ↔ Fits t d
  entries_fit = rw (s.shape, s.datum, component_list-components_of entries) (λ h. h, λ h. h)

  -- one entry for each component, where there is no mark
  pub unmarked_fits : more ≡ closed → FitsEach (fields_of parts) entries ↔ Fits t d
  unmarked_fits none =
      let both = each_of_closed (fields_of parts) entries in
      let inner : FitsEach (fields_of parts) entries ↔ FitsSequence (fields_of parts) more entries = rw none both in
      (λ h. entries_fit.0 (inner.0 h), λ h. inner.1 (entries_fit.1 h))

-- ---- the entries of the root, and those of the additions

module _ (fs : List Field) (es : List (Option Datum)) where
  -- the first ones
  pub root_entries_are : (root_entries : List (Option Datum)) → root_entries ≡ take (length fs) es
      → root_entries ≡ take (length (demands (fields_of (map part_of_field fs)))) es
  root_entries_are root_entries e = e ∙ ap (λ k. take k es) (sym (count_of_fields fs))

  -- and the others
  pub addition_entries_are : (addition_entries : List (Option Datum)) → addition_entries ≡ drop (length fs) es
      → addition_entries ≡ drop (length (demands (fields_of (map part_of_field fs)))) es
  addition_entries_are addition_entries e = e ∙ ap (λ k. drop k es) (sym (count_of_fields fs))

  -- a SEQUENCE with a mark has the values with one entry for each component and each addition
  pub marked_fits : {t : Shape} {d : Datum} {more : MoreFields} (gs : List Field)
      → OfSequence t d (map part_of_field fs) more es
      → more ≡ marked (fields_of (map part_of_field gs))
      → (root_entries addition_entries : List (Option Datum)) → root_entries ≡ take (length fs) es
      → addition_entries ≡ drop (length fs) es
      → (FitsEach (fields_of (map part_of_field fs)) root_entries
      × FitsEach (fields_of (map part_of_field gs)) addition_entries) ↔ Fits t d
  marked_fits {t} {d} gs s m root_entries addition_entries o h =
      let root = fields_of (map part_of_field fs) in
      let added = fields_of (map part_of_field gs) in
      let both : FitsSequence root (marked added) es ↔ Fits t d = subst (λ x. FitsSequence root x es ↔ Fits t d) m (entries_fit s) in
      rw (root_entries_are root_entries o, addition_entries_are addition_entries h) both

-- entries of another number are none
pub other_number : (fs : List Field) (es : List (Option Datum)) → (length fs ≡ length es → ⊥)
    → FitsEach (fields_of (map part_of_field fs)) es → ⊥
other_number fs es other each = other (sym (length-map fs part_of_field) ∙ each_length (map part_of_field fs) es each)

-- ---- the additions

-- they are OPTIONAL
pub added_optional : {t : Shape} {root : Fields} (fs : List Field)
    → t ≡ sequence root (marked (fields_of (map part_of_field fs))) → InProfile t
    → AreOptional (fields_of (map part_of_field fs))
added_optional {root = root} fs e good = additions_optional root (fields_of (map part_of_field fs)) (subst InProfile e good)
