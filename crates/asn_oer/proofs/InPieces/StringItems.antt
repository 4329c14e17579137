-- Strings of OER as the items that they have.
use Rattle.std.proofs.Common.{ℕ, List, length, IsUtf8, refl, sym, subst, ◌∙◌, arith}
use Rattle.asn_values.specs.Datum.{octet_list, characters, unicode}
use Rattle.asn_values.specs.Fits.{max_len}
use Rattle.asn_values.specs.Profile.{InProfile}
use Rattle.asn_values.specs.Shape.{SizeRange, Alphabet, Shape, bit_string, octet_string, restricted, utf8_string}
use Rattle.asn_bits.specs.Sets.{Between}
use Rattle.asn_rules.specs.Fields.{OneOctet, OctetLength, OctetsAfterLength, octet_fields}
use Rattle.asn_rules.specs.Forks.{Same}
use Rattle.asn_rules.specs.Languages.{Refused}
use Rattle.asn_rules.specs.OctetStrings.{Character}
use Rattle.asn_rules.specs.declared.stop.Stop.{Stop}
use Rattle.asn_rules.specs.declared.stop.Stop.TheVariants as stop
use Rattle.asn_rules.proofs.Languages.Leads.{LeadsStops, Leads, leads_on, leads_same, stops_on, stops_by}
use Rattle.asn_rules.proofs.Languages.Spellings.{same_after}
use Rattle.asn_rules.proofs.Numbers.OctetLengths.{one_octet_lawful, one_octet_inhabited}
use Rattle.asn_rules.proofs.Numbers.Sets.{set_lawful}
use Rattle.asn_rules.proofs.Octets.Characters.{character_inhabited}
use Rattle.asn_rules.proofs.Sealed.Fields.{open_octets}
use Rattle.asn_walk.specs.Sizes.{Count}
use Rattle.asn_walk_feed.specs.Octets.{OctetsOf, OctetLaws}
use Rattle.asn_walk_feed.specs.OpenFields.{FieldLaws, StopsAfter}
use Rattle.asn_walk_feed.specs.Strings.{IsString, StringLaws}
use Rattle.asn_oer.specs.Oer.{oer_fields}
use Rattle.asn_oer.specs.Reading.{ValuesOf}
use Rattle.asn_oer.specs.Rules.{oer_ruling}
use Rattle.asn_oer.specs.Walk.{oer_coding}
use Rattle.asn_oer.proofs.Read.SizeCounts.{octets_lead}
use Rattle.asn_oer.proofs.Read.TextReading.{text_leads}
use Rattle.asn_oer.proofs.Read.Utf8Reading.{octets_stop, text_spells, no_text, utf8_leads}
use Rattle.asn_oer.specs.SingleItems.{any_octets, items_of_size, oer_parts, AreText, AreNoText}
use Rattle.asn_oer.proofs.InPieces.BitItems.{bits_stop}
use Rattle.asn_oer.proofs.InPieces.Brief.{few_digits, few_more}
use Rattle.asn_oer.proofs.InPieces.Starts.{any_laws, items_laws, bits_laws, counted_same, sized_same}

-- ---- OCTET STRING and restricted character strings

pub octets_string : (s : SizeRange) (us : List ℕ) → InProfile (octet_string s) → Leads oer_fields (OctetsOf (items_of_size s OneOctet)) us octet_list (ValuesOf (octet_string s)) us
octets_string s us good =
    leads_on (leads_same oer_fields us (same_after (counted_same (Count s) OneOctet) (sized_same s OneOctet))) (octets_lead s us good)

pub characters_string : (k : Alphabet) (s : SizeRange) (us : List ℕ) → InProfile (restricted k s)
    → Leads oer_fields (OctetsOf (items_of_size s (Character k))) us characters (ValuesOf (restricted k s)) us
characters_string k s us good =
    leads_on (leads_same oer_fields us (same_after (counted_same (Count s) (Character k)) (sized_same s (Character k)))) (text_leads k s us good)

-- ---- octets of any number

pub any_same : Same (OctetsOf any_octets) (OctetsAfterLength (Between 0 max_len))
any_same = counted_same (OctetLength (Between 0 max_len)) OneOctet

-- UTF8String
text_stops : (us : List ℕ) → LeadsStops oer_fields (OctetsOf any_octets) us (ValuesOf utf8_string) us
text_stops us = stops_on (leads_same oer_fields us any_same).stops (stops_on (octets_stop us) (utf8_leads us).stops)

pub is_text : (os : List ℕ) → IsUtf8 os → AreText os os
unfolding oer_coding oer_ruling
is_text os t us r h = (utf8_leads us).done (unicode os) r (text_spells t ((leads_same oer_fields us any_same).done os r h))

pub is_no_text : (os : List ℕ) (left : ℕ) (why : Stop) → (IsUtf8 os → ⊥) → StopsAfter left why → AreNoText os left why
unfolding oer_coding oer_ruling
is_no_text os left (stop.Refused m w) never e us r h l =
    let n : Refused oer_fields (ValuesOf utf8_string) us (length r) = (utf8_leads us).stops.refused (length r) (no_text never ((leads_same oer_fields us any_same).done os r h)) in
    record { told = subst (Refused oer_fields (ValuesOf utf8_string) us) (l ∙ sym e) n }
is_no_text os left stop.Short never e us r h l = absurd e
is_no_text os left stop.Memory never e us r h l = record { told = tt }

-- ---- all strings

string_laws : (t : Shape) → InProfile t → IsString t → OctetLaws oer_coding (oer_parts.string t)
string_laws (bit_string s) good h = bits_laws s
string_laws (octet_string s) good h = items_laws s OneOctet one_octet_lawful one_octet_inhabited (few_more 1 16 (omega arith) (few_digits 256 1 _))
string_laws (restricted k s) good h = items_laws s (Character k) (set_lawful 256 1 _) (character_inhabited k) (few_more 1 16 (omega arith) (few_digits 256 1 _))
string_laws utf8_string good h = any_laws
string_laws _ good h = absurd h

string_stops : (t : Shape) → InProfile t → IsString t → (us : List ℕ) → LeadsStops oer_fields (OctetsOf (oer_parts.string t)) us (ValuesOf t) us
string_stops (bit_string s) good h us = bits_stop s good us
string_stops (octet_string s) good h us = (octets_string s us good).stops
string_stops (restricted k s) good h us = (characters_string k s us good).stops
string_stops utf8_string good h us = text_stops us
string_stops _ good h us = absurd h

pub oer_string_laws : StringLaws oer_coding oer_parts
unfolding oer_coding oer_ruling
oer_string_laws = record { items = string_laws; stops = λ t good h us why s. stops_by why (string_stops t good h us) s }

pub oer_field_laws : FieldLaws oer_coding oer_parts
unfolding oer_coding oer_ruling
oer_field_laws = record { octets = any_laws; same = same_after any_same (open_octets octet_fields (λ c. refl)) }
