-- What encodings of SEQUENCE consist of in Canonical OER (X.696).
use Rattle.std.specs.Prelude.{◌/◌, ◌^◌, ℕ, zero, suc, List, [], ◌∷◌, ◌++◌, length, Option, None, replicate}
use Rattle.asn_values.specs.Datum.{Datum, components, components_of}
use Rattle.asn_values.specs.Shape.{Fields, no_fields, field, MoreFields, closed, marked, more_fields, demands}
use Rattle.asn_bits.specs.Numbers.{bits}
use Rattle.asn_rules.specs.Chunks.{Chunk}
use Rattle.asn_rules.specs.Languages.{Then, Map, Nothing}
use Rattle.asn_rules.specs.General.{after_first}
use Rattle.asn_rules.specs.Listed.{Before, Listed, bitmap_length}
use Rattle.asn_oer.specs.Oer.{oer}
use Rattle.asn_oer.specs.Constructed.{InOpenField}
use Rattle.asn_oer.specs.Preambles.{Preamble, Bitmap}

-- the entries of the additions under the bits of their bitmap: an open field or nothing
abbrev pub OpenListed : Fields → List ℕ → List (Option Datum) → List Chunk → Type 0
OpenListed no_fields bits = Nothing []
OpenListed (field name demand t fs) (suc b ∷ bits) = Before (InOpenField t) (OpenListed fs bits)
OpenListed (field name demand t fs) (zero ∷ bits) = Map (λ es. None ∷ es) (OpenListed fs bits)
OpenListed (field name demand t fs) [] = λ es cs. ⊥

-- the additions by the extension bit: none of them, or their bitmap and open fields
abbrev pub Additions : MoreFields → ℕ → List (Option Datum) → List Chunk → Type 0
Additions more zero = Nothing (replicate (length (demands (more_fields more))) None)
Additions closed (suc e) = λ es cs. ⊥
Additions (marked fs) (suc e) =
    Map after_first (Then (Bitmap (length (demands fs))) (λ m. OpenListed fs (bits (length (demands fs)) m)))

-- the components and additions, without the preamble
abbrev pub sequence_told : ℕ × (List (Option Datum) × List (Option Datum)) → Datum
sequence_told p = components (components_of (p.1.0 ++ p.1.1))

-- the preamble, the components under its presence bits, and the additions under its extension bit
abbrev pub Sequences : Fields → MoreFields → Datum → List Chunk → Type 0
Sequences root more =
    Map sequence_told (Then (Preamble root more)
    (λ m. Then (Listed oer root (bits (bitmap_length root) m)) (λ _. Additions more (m / 2 ^ bitmap_length root))))
