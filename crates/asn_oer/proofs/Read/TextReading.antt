-- The characters of a string, an octet each: where octets that were taken are characters of the kind, where they are too
-- few, and the first that is none.
use Rattle.std.proofs.Common.{ℕ, List}
use Rattle.asn_values.specs.Datum.{characters}
use Rattle.asn_values.specs.Profile.{InProfile, EmptyRange, SizeTooLarge, UselessMark}
use Rattle.asn_values.specs.Shape.{Alphabet, SizeRange, restricted}
use Rattle.asn_rules.proofs.Languages.Leads.{Leads, leads_on, leads_map, leads_same}
use Rattle.asn_rules.proofs.Languages.Spellings.{same_after}
use Rattle.asn_rules.specs.OctetStrings.{Character}
use Rattle.asn_walk.specs.Laws.{IsSizeOfProfile}
use Rattle.asn_oer.specs.Oer.{oer_fields}
use Rattle.asn_oer.specs.Reading.{ValuesOf}
use Rattle.asn_oer.specs.Strings.{Sized}
use Rattle.asn_oer.proofs.Types.LeftOut.{none_left_out}
use Rattle.asn_oer.proofs.Types.StringLanguages.{restricted_language}

-- ---- of a size

pub text_leads : (k : Alphabet) (s : SizeRange) (us : List ℕ) → InProfile (restricted k s) → Leads oer_fields (Sized s (Character k)) us characters (ValuesOf (restricted k s)) us
text_leads k s us good = leads_on (leads_map oer_fields characters (Sized s (Character k)) us) (leads_same oer_fields us (same_after (restricted_language k s good) (none_left_out (restricted k s))))

pub text_size : (k : Alphabet) (s : SizeRange) → InProfile (restricted k s) → IsSizeOfProfile s
text_size k s good = record { ordered = good EmptyRange; small = good SizeTooLarge; useful = good UselessMark }
