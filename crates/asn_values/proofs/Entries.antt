-- The entries of a SEQUENCE, one for each component.
use Rattle.std.proofs.Common.{◌≡◌, ◌≢◌, ◌↔◌, suc, List, [], ◌∷◌, map, length, take, drop, Option, option_map, refl, ap}
use Rattle.std.proofs.lemmas.List.{length-map}
use Rattle.asn_values.specs.declared.types.Field.{Field}
use Rattle.asn_values.specs.declared.value.Value.{Value}
use Rattle.asn_values.specs.Datum.{Datum, components, components_of}
use Rattle.asn_values.specs.Shape.{Fields, no_fields, field, sequence, closed, demands}
use Rattle.asn_values.specs.Fits.{Fits, FitsEach, FitsMore}
use Rattle.asn_values.specs.View.{Part, datum_of, fields_of, part_of_field}
use Rattle.asn_values.proofs.Views.{component_list-components_of}

-- the root's part and nothing after it is one entry for each component of the root
pub each_of_closed : (fs : Fields) (es : List (Option Datum)) → FitsEach fs es ↔ (FitsEach fs (take (length (demands fs)) es) × FitsMore closed (drop (length (demands fs)) es))
each_of_closed no_fields [] = (λ h. (tt, tt), λ h. tt)
each_of_closed no_fields (e ∷ es) = (λ h. absurd h, λ h. absurd h.1)
each_of_closed (field name demand t fs) [] = (λ h. absurd h, λ h. absurd h.0)
each_of_closed (field name demand t fs) (e ∷ es) = (
  λ h. let rest = (each_of_closed fs es).0 h.1 in ((h.0, rest.0), rest.1),
  λ h. (h.0.0, (each_of_closed fs es).1 (h.0.1, h.1)),
)

-- a SEQUENCE without a mark has the values with one entry for each component
pub fits_sequence : (fs : Fields) (es : List (Option Datum)) → FitsEach fs es ↔ Fits (sequence fs closed) (components (components_of es))
fits_sequence fs es = rw component_list-components_of (each_of_closed fs es)

-- how many components there are
pub length-demands : (ps : List Part) → length (demands (fields_of ps)) ≡ length ps
length-demands [] = refl
length-demands (p ∷ ps) = ap suc (length-demands ps)

-- entries that fit are as many as the components
pub each_length : (ps : List Part) (es : List (Option Datum)) → FitsEach (fields_of ps) es → length ps ≡ length es
each_length [] [] h = refl
each_length [] (e ∷ es) h = absurd h
each_length (p ∷ ps) [] h = absurd h
each_length (p ∷ ps) (e ∷ es) h = ap suc (each_length ps es h.1)

pub other_length : (fs : List Field) (vs : List (Option Value)) → FitsEach (fields_of (map part_of_field fs)) (map (option_map datum_of) vs) → length fs ≢ length vs → ⊥
other_length fs vs h differ =
    differ (simp length-map at (each_length (map part_of_field fs) (map (option_map datum_of) vs) h))
