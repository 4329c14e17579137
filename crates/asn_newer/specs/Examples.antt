-- What receivers make of values of other versions of their types, worked out.
use Rattle.std.specs.Prelude.{◌≡◌, pos, true, [], ◌∷◌, Some, None, refl, codes}
use Rattle.asn_values.specs.Datum.{truth, number}
use Rattle.asn_values.specs.Shape.{Shape, boolean, integer, sequence, no_fields, marked}
use Rattle.asn_values.specs.ExampleTypes.{hex, between, entries, component, optional_component}
use Rattle.asn_oer.specs.Walk.{oer_coding}
use Rattle.asn_per.specs.Walk.{per_coding}
use Rattle.asn_newer.specs.Skipped.{skipped_here}
use Rattle.asn_newer.specs.Versions.{Newer, received}
use Rattle.asn_newer.specs.Rules.{per_loose, oer_loose}

-- SEQUENCE { a BOOLEAN, ... }
abbrev pub old_type : Shape
old_type = sequence (component (codes "a") boolean no_fields) (marked no_fields)

-- SEQUENCE { a BOOLEAN, ..., b INTEGER (0..255) OPTIONAL }
abbrev pub new_type : Shape
new_type =
    sequence (component (codes "a") boolean no_fields)
    (marked (optional_component (codes "b") (integer (between (pos 0) (pos 255))) no_fields))

new_is_newer : Newer old_type new_type
new_is_newer = ((refl, refl, refl, tt), refl)

-- the addition is skipped, octet for octet
an_older_one_reads :
    received per_loose new_type old_type (entries (Some (truth true) ∷ Some (number (pos 7)) ∷ []))
    ≡ (entries (Some (truth true) ∷ []), skipped_here 0 (hex "07") ∷ [])
unfolding per_loose per_coding
an_older_one_reads = refl

-- the addition is absent
a_newer_one_reads :
    received oer_loose old_type new_type (entries (Some (truth true) ∷ []))
    ≡ (entries (Some (truth true) ∷ None ∷ []), [])
unfolding oer_loose oer_coding
a_newer_one_reads = refl
