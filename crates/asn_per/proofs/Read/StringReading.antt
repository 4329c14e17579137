-- What the reader of values cites of strings: their readers answer for the values of the types.
use Rattle.std.proofs.Common.{ℕ, List, None}
use Rattle.asn_values.specs.Datum.{bit_list, octet_list, characters, unicode}
use Rattle.asn_values.specs.Shape.{SizeRange, Alphabet, bit_string, octet_string, restricted, utf8_string}
use Rattle.asn_values.specs.Profile.{InProfile, EmptyRange, SizeTooLarge, UselessMark}
use Rattle.asn_rules.specs.Chunks.{utf8_field}
use Rattle.asn_rules.specs.Fields.{Octet}
use Rattle.asn_rules.specs.Languages.{Sealed}
use Rattle.asn_rules.specs.Listed.{Spelt}
use Rattle.asn_rules.proofs.Languages.Leads.{Leads, leads_on, leads_map, leads_same}
use Rattle.asn_rules.proofs.Languages.Spellings.{same_after}
use Rattle.asn_per.specs.Per.{per, per_fields}
use Rattle.asn_per.specs.Kinds.{Bit, Character, Sized, IsUtf8Content}
use Rattle.asn_walk.specs.Laws.{IsSizeOfProfile}
use Rattle.asn_per.proofs.Types.LeftOut.{none_left_out}
use Rattle.asn_per.proofs.Types.StringLanguages.{bit_strings_compose, octet_strings_compose, texts_compose, utf8_strings_compose}

-- the sizes of types of the profile are of the profile
pub bits_size : (s : SizeRange) → InProfile (bit_string s) → IsSizeOfProfile s
bits_size s good = record { ordered = good EmptyRange; small = good SizeTooLarge; useful = good UselessMark }

pub octets_size : (s : SizeRange) → InProfile (octet_string s) → IsSizeOfProfile s
octets_size s good = record { ordered = good EmptyRange; small = good SizeTooLarge; useful = good UselessMark }

pub text_size : (k : Alphabet) (s : SizeRange) → InProfile (restricted k s) → IsSizeOfProfile s
text_size k s good = record { ordered = good EmptyRange; small = good SizeTooLarge; useful = good UselessMark }

-- BIT STRING
pub bits_lead : (s : SizeRange) (us : List ℕ) → InProfile (bit_string s) → Leads per_fields (Sized s Bit) us bit_list (Spelt per None (bit_string s)) us
bits_lead s us good = leads_on (leads_map per_fields bit_list (Sized s Bit) us) (leads_same per_fields us (same_after (bit_strings_compose s good) (none_left_out (bit_string s))))

-- OCTET STRING
pub octets_lead : (s : SizeRange) (us : List ℕ) → InProfile (octet_string s) → Leads per_fields (Sized s Octet) us octet_list (Spelt per None (octet_string s)) us
octets_lead s us good = leads_on (leads_map per_fields octet_list (Sized s Octet) us) (leads_same per_fields us (same_after (octet_strings_compose s good) (none_left_out (octet_string s))))

-- the restricted character strings
pub text_leads : (k : Alphabet) (s : SizeRange) (us : List ℕ) → InProfile (restricted k s) → Leads per_fields (Sized s (Character k)) us characters (Spelt per None (restricted k s)) us
text_leads k s us good = leads_on (leads_map per_fields characters (Sized s (Character k)) us) (leads_same per_fields us (same_after (texts_compose k s good) (none_left_out (restricted k s))))

-- UTF8String
pub utf8_leads : (us : List ℕ) → Leads per_fields (Sealed utf8_field IsUtf8Content) us unicode (Spelt per None utf8_string) us
utf8_leads us = leads_on (leads_map per_fields unicode (Sealed utf8_field IsUtf8Content) us) (leads_same per_fields us (same_after utf8_strings_compose (none_left_out utf8_string)))
