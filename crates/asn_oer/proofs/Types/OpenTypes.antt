-- Open fields in OER: the values of a type, in an open field each.
use Rattle.std.proofs.Common.{◌≡◌, refl}
use Rattle.asn_values.specs.Datum.{Datum}
use Rattle.asn_values.specs.Shape.{Shape}
use Rattle.asn_values.specs.Fits.{Fits}
use Rattle.asn_values.specs.Profile.{InProfile}
use Rattle.asn_rules.specs.Chunks.{flat}
use Rattle.asn_rules.specs.Laws.{AreOctets}
use Rattle.asn_rules.specs.Forks.{Same}
use Rattle.asn_rules.specs.Spellings.{SpelledBy}
use Rattle.asn_rules.proofs.Sealed.OpenFields.{open_spelled}
use Rattle.asn_oer.specs.Oer.{oer, oer_octets, an_open_field}
use Rattle.asn_oer.specs.Rules.{oer_ruling}
use Rattle.asn_oer.specs.Constructed.{InOpenField}
use Rattle.asn_oer.proofs.Law.GoodTypes.{good}
use Rattle.asn_oer.proofs.Encodings.SpeltTypes.{oer_spelt, few_levels}
use Rattle.asn_oer.proofs.Encodings.Tells.{oer_tells}
use Rattle.asn_oer.proofs.Encodings.Whole.{oer_wholes}

-- the octets of a value are the whole encoding of it
octets_given : (t : Shape) → InProfile t → (v : Datum) → Fits t v → AreOctets (oer_octets t v) × (oer_ruling.units (oer_octets t v) ≡ flat oer_ruling.fielding.spelled (oer_ruling.whole t v))
unfolding oer_ruling
octets_given t h v f = ((oer_spelt t (good t h) (few_levels t h) v f).units.octets, refl)

-- an open field holds the encoding of a value
pub open_language : (t : Shape) → InProfile t → Same (InOpenField t) (SpelledBy (Fits t) (λ v. an_open_field (oer t v)))
open_language t h = open_spelled oer_ruling oer_tells t h oer_wholes (oer_octets t) (octets_given t h)
