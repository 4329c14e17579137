-- Encodings under the limits of the profile before are encodings, and encoders and decoders keep them.
use Rattle.std.proofs.Common.{◌≡◌, ◌≤◌, ◌<◌, ℕ, List, length, refl, arith}
use Rattle.asn_values.specs.Datum.{Datum}
use Rattle.asn_values.specs.Shape.{Shape}
use Rattle.asn_values.specs.Fits.{limits, Fits}
use Rattle.asn_values.specs.Older.{older_limits}
use Rattle.asn_values.specs.Profile.{InProfile}
use Rattle.asn_values.proofs.Older.{limits_wider}
use Rattle.asn_values.proofs.Wider.{values_wider}
use Rattle.asn_values.proofs.WiderTypes.{types_wider}
use Rattle.asn_rules.specs.declared.fault.EncodeFault.{EncodeFault}
use Rattle.asn_rules.specs.declared.fault.EncodeFault.TheVariants as encode
use Rattle.asn_rules.specs.Answer.{Ruling, IsEncoding, max_octets}
use Rattle.asn_rules.specs.Codec.{NotEncoded}
use Rattle.asn_rules.specs.Laws.{RulesLaws}
use Rattle.asn_rules.specs.Older.{EncodedBefore, StaysEncoding, EncodesAsBefore, OnlyMemoryIsWantingAsBefore, DecodesAsBefore}
use Rattle.asn_rules.proofs.Answer.CodecLaws.{decodes_encoded}

pub stays_encoding : (r : Ruling) → StaysEncoding r
stays_encoding r t v o e = (values_wider older_limits limits limits_wider t v e.encoding.0, e.encoding.1)

of_profile : (r : Ruling) (t : Shape) (v : Datum) (o : List ℕ) → EncodedBefore r t v o → InProfile t
of_profile r t v o e = types_wider older_limits limits limits_wider t e.of_profile

pub encodes_as_before : (r : Ruling) → RulesLaws r → EncodesAsBefore r
encodes_as_before r laws t v o p e octets encoding =
    laws.one_encoding t v p o (of_profile r t v o e) octets e.octets encoding (stays_encoding r t v o e)

too_long_within : (n : ℕ) → n ≤ max_octets → max_octets < n → ⊥
too_long_within n within above = omega arith

pub only_memory_as_before : (r : Ruling) → OnlyMemoryIsWantingAsBefore r
only_memory_as_before r t v o encode.NotOfType e h = absurd (h (stays_encoding r t v o e).0)
only_memory_as_before r t v o encode.TooLong e h =
    absurd (too_long_within (length o) e.within (h.1 o (stays_encoding r t v o e)))
only_memory_as_before r t v o encode.Memory e h = refl

pub decodes_as_before : (r : Ruling) → RulesLaws r → DecodesAsBefore r
decodes_as_before r laws t v o answer e decoded =
    decodes_encoded r laws t v o answer (of_profile r t v o e)
    (record { octets = e.octets; encoding = stays_encoding r t v o e; within = e.within }) decoded
