-- What is written of a value, whatever it is taken from.
use Rattle.std.specs.Global.{Vec}
use Rattle.std.specs.Prelude.{◌≡◌, ◌<◌, ◌^◌, ◌++◌, ℕ, Bool, true, List, [], length, map, Option}
use Rattle.asn_values.specs.declared.types.Alt.{Alt}
use Rattle.asn_values.specs.declared.types.AsnType.{AsnType, Seq}
use Rattle.asn_values.specs.declared.types.Field.{Field}
use Rattle.asn_values.specs.declared.types.Size.{Size}
use Rattle.asn_values.specs.Datum.{Datum, components, components_of, elements, elements_of}
use Rattle.asn_values.specs.Fits.{FitsEach}
use Rattle.asn_values.specs.View.{shape_of, fields_seen, alternatives_seen, sequence_of_seen}
use Rattle.asn_bits.specs.Lengths.{joined}
use Rattle.asn_bits.specs.Numbers.{unpacked}
use Rattle.asn_sinks.specs.Sink.{Context, Standing}
use Rattle.asn_walk.specs.Coding.{Coding}
use Rattle.asn_walk.specs.Composites.{in_open_field, alternative_code, root_code, additions_code}
use Rattle.asn_walk.specs.Writing.{Pushing, Writes, mark_bits}

-- a sink has taken the spelling of a value
abbrev pub WritesDatum : {Sink : Type 0} → Pushing Sink → Coding → Sink → Sink → AsnType → Datum → Type 0
WritesDatum push c old new t d = Writes push c old new (c.code (shape_of t) d)

-- and one in an open type field
abbrev pub WritesOpenDatum : {Sink : Type 0} → Pushing Sink → Coding → Sink → Sink → AsnType → Datum → Type 0
WritesOpenDatum push c old new t d = Writes push c old new (in_open_field c (c.code (shape_of t) d))

-- the octets of a complete encoding were taken, and nothing before them
abbrev pub WritesWhole : {Sink Origin : Type 0} → Standing Sink Origin → Bool → ℕ → Coding → Sink → Sink → AsnType
    → Datum → Type 0
WritesWhole {Sink} {Origin} stands wants level c old new t d =
    let octets = unpacked (c.complete (c.code (shape_of t) d)) in
    (k : Context Origin) (coming : List ℕ) → length k.around ≡ level
    → (wants ≡ true → length (octets ++ coming) < 2 ^ 63)
    → stands old k [] (octets ++ coming) → stands new k octets coming

-- ---- SEQUENCE

-- each entry is one of its component
abbrev pub EachFits : List Field → List (Option Datum) → Type 0
EachFits fs es = FitsEach (fields_seen fs) es

-- the type is a SEQUENCE of these components, and of these additions where there is an extension mark
pub record IsSequence (t : AsnType) : Type 0 where
  pub root : Vec Field
  pub ext : Option (Vec Field)
  pub is : t ≡ Seq root ext

-- entries as a value
abbrev pub sequence_of : List (Option Datum) → Datum
sequence_of es = components (components_of es)

-- a sink has taken the root of a SEQUENCE, with this extension bit; and its extension additions
abbrev pub WritesRootOf : {Sink : Type 0} → Pushing Sink → Coding → Sink → Sink → Option Bool → List Field
    → List (Option Datum) → Type 0
WritesRootOf push c old new extended fs es =
    Writes push c old new (root_code c (mark_bits extended) (fields_seen fs) es)

abbrev pub WritesAdditionsOf : {Sink : Type 0} → Pushing Sink → Coding → Sink → Sink → List Field → List (Option Datum)
    → Type 0
WritesAdditionsOf push c old new fs es = Writes push c old new (additions_code c (fields_seen fs) es)

-- ---- CHOICE

-- a sink has taken a value of the alternative with this index; and one in an open type field
abbrev pub WritesAlternativeOf : {Sink : Type 0} → Pushing Sink → Coding → Sink → Sink → List Alt → ℕ → Datum → Type 0
WritesAlternativeOf push c old new alts i d = Writes push c old new (alternative_code c (alternatives_seen alts) i d)

abbrev pub WritesOpenAlternativeOf : {Sink : Type 0} → Pushing Sink → Coding → Sink → Sink → List Alt → ℕ → Datum → Type 0
WritesOpenAlternativeOf push c old new alts i d =
    Writes push c old new (in_open_field c (alternative_code c (alternatives_seen alts) i d))

-- ---- SEQUENCE OF

-- elements as a value
abbrev pub list_of : List Datum → Datum
list_of ds = elements (elements_of ds)

-- a sink has taken a list; and values in a row
abbrev pub WritesListOf : {Sink : Type 0} → Pushing Sink → Coding → Sink → Sink → AsnType → Size → List Datum → Type 0
WritesListOf push c old new t s ds = Writes push c old new (c.code (sequence_of_seen t s) (list_of ds))

abbrev pub WritesRowOf : {Sink : Type 0} → Pushing Sink → Coding → Sink → Sink → AsnType → List Datum → Type 0
WritesRowOf push c old new t ds = Writes push c old new (joined (map (λ d. c.code (shape_of t) d) ds))
