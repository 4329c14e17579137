-- A UTF8String is read as octets after their length, which are judged when all have been read.
use Rattle.std.proofs.Common.{◌≡◌, ◌≤◌, ◌<◌, ℕ, List, [], length, IsUtf8, refl, arith}
use Rattle.std.specs.List.{AllByRecursion}
use Rattle.asn_values.specs.Datum.{unicode}
use Rattle.asn_values.specs.Shape.{utf8_string}
use Rattle.asn_bits.specs.Numbers.{octet_count}
use Rattle.asn_bits.specs.Sets.{Between}
use Rattle.asn_bits.proofs.Octets.{octet_count_below}
use Rattle.asn_rules.specs.Chunks.{utf8_field}
use Rattle.asn_rules.specs.Fields.{OctetsAfterLength, spelled}
use Rattle.asn_rules.specs.Forks.{Same}
use Rattle.asn_rules.specs.Frames.{IsField, Frame}
use Rattle.asn_rules.specs.Languages.{Spells, Refused, SomeContent}
use Rattle.asn_rules.proofs.Languages.Exits.{stops_field}
use Rattle.asn_rules.proofs.Sealed.Fields.{field_spells, field_refused_content}
use Rattle.asn_rules.proofs.Languages.Forks.{same_flip}
use Rattle.asn_rules.proofs.Languages.Leads.{LeadsStops, Leads, leads_same}
use Rattle.asn_rules.proofs.Numbers.OctetLengths.{octets_after_length}
use Rattle.asn_rules.proofs.Languages.Spellings.{same_after, plain_spelled}
use Rattle.asn_rules.proofs.Octets.OctetFields.{octet_fields_part}
use Rattle.asn_oer.specs.Oer.{oer_fields}
use Rattle.asn_oer.specs.Reading.{ValuesOf}
use Rattle.asn_oer.specs.Strings.{IsUnicodeOf, Utf8Strings}
use Rattle.asn_oer.proofs.Types.LeftOut.{none_left_out}
use Rattle.asn_oer.proofs.Types.StringLanguages.{utf8_language}

-- octets of any number of the profile
abbrev pub AnyCount : ℕ → Type 0
AnyCount = Between 0 268435455

few : (n : ℕ) → AnyCount n → octet_count n < 128
few n h = let l : octet_count n ≤ 4 = octet_count_below n 4 (omega arith) (omega (arith, h.1)) in omega (arith, l)

-- they are spelt as the field is
text_spelled : Same (OctetsAfterLength AnyCount) (Frame oer_fields utf8_field)
text_spelled = same_after (octets_after_length AnyCount few) (same_flip (plain_spelled there back))
  where
    there : (c us : List ℕ) → IsField oer_fields utf8_field c us → (AnyCount (length c) × AllByRecursion (λ o. o < 256) c) × (us ≡ spelled c)
    there c us h = (((omega arith, h.contents.1), h.contents.2), h.same)

    back : (c : List ℕ) → AnyCount (length c) × AllByRecursion (λ o. o < 256) c → IsField oer_fields utf8_field c (spelled c)
    back c h = record { contents = (omega arith, h.0.1, h.1); same = refl }

-- the field may be empty
some_text : SomeContent IsUnicodeOf
some_text = record { value = unicode []; content = []; spelt = record { seen = refl; few = omega arith; utf8 = ([], (refl, refl)) } }

-- the octets stop
pub octets_stop : (us : List ℕ) → LeadsStops oer_fields (OctetsAfterLength AnyCount) us Utf8Strings us
octets_stop us = stops_field us octet_fields_part some_text text_spelled

-- they are UTF-8
pub text_spells : {os us r : List ℕ} → IsUtf8 os → Spells oer_fields (OctetsAfterLength AnyCount) os us r → Spells oer_fields Utf8Strings (unicode os) us r
text_spells {os} t h =
    let s = (octets_after_length AnyCount few).to os h.chunks h.spelt in
    field_spells text_spelled h (record { seen = refl; few = s.fits.0.1; utf8 = t })

-- they are not
pub no_text : {os us r : List ℕ} → (IsUtf8 os → ⊥) → Spells oer_fields (OctetsAfterLength AnyCount) os us r → Refused oer_fields Utf8Strings us (length r)
no_text {os} never h = field_refused_content octet_fields_part some_text text_spelled h (λ a d. never d.utf8)

-- they are the values of the type
pub utf8_leads : (us : List ℕ) → Leads oer_fields Utf8Strings us (λ v. v) (ValuesOf utf8_string) us
utf8_leads us = leads_same oer_fields us (same_after utf8_language (none_left_out utf8_string))
