-- The items of strings are the strings.
use Rattle.std.proofs.Common.{◌≡◌, ◌<◌, ℕ, zero, suc, Bool, true, false, List, [], ◌∷◌, map, IsUtf8, None, String, Global, string_bytes, rules, refl, sym, ap, subst, arith}
use Rattle.std.proofs.lemmas.List.{length-map}
use Rattle.std.specs.List.{AllByRecursion}
use Rattle.asn_values.specs.Datum.{Datum, bit_list, octet_list, characters, unicode}
use Rattle.asn_values.specs.View.{datum_of}
use Rattle.asn_values.specs.declared.value.Value as values
use Rattle.asn_values.specs.declared.value.Value.TheVariants as value
use Rattle.asn_values.specs.Fits.{Fits, FitsLength}
use Rattle.asn_values.specs.Profile.{InProfile, EmptyRange, SizeTooLarge}
use Rattle.asn_values.specs.Shape.{SizeRange, Shape, Alphabet, bit_string, octet_string, restricted, utf8_string}
use Rattle.asn_bits.specs.Numbers.{bits}
use Rattle.asn_rules.specs.Components.{bit_of}
use Rattle.asn_rules.specs.Chunks.{Chunk, one, ones, utf8_field}
use Rattle.asn_rules.specs.Fields.{Octet}
use Rattle.asn_rules.specs.Forks.{Same}
use Rattle.asn_rules.specs.Languages.{Refused, Sealed, Map}
use Rattle.asn_rules.specs.Listed.{Spelt}
use Rattle.asn_rules.specs.Spellings.{SpelledBy}
use Rattle.asn_rules.specs.declared.fault.Why.{Why}
use Rattle.asn_rules.specs.declared.stop.Stop.TheVariants as stop
use Rattle.asn_rules.proofs.Languages.Forks.{same_spells, same_lawful}
use Rattle.asn_rules.proofs.Languages.Leads.{LeadsStops, Leads, leads_on, leads_map, leads_same, stops_on, stops_by}
use Rattle.asn_rules.proofs.Languages.Spellings.{same_after, same_map, same_spelled, set_spelled, map_spelled}
use Rattle.asn_rules.proofs.Numbers.Sets.{set_lawful}
use Rattle.asn_per.specs.Kinds.{Values, Sized, Character, IsUtf8Content, truth_of}
use Rattle.asn_per.specs.Per.{per, per_fields, sized}
use Rattle.asn_per.specs.Rules.{per_ruling}
use Rattle.asn_per.specs.Walk.{per_coding}
use Rattle.asn_per.proofs.Read.StringReading.{bits_size, octets_size, text_size, octets_lead, text_leads, utf8_leads}
use Rattle.asn_per.proofs.Read.Utf8Reading.{octets_stop, text_spells, no_text}
use Rattle.asn_per.proofs.Types.LeftOut.{none_left_out}
use Rattle.asn_per.proofs.Types.SizedLists.{FitSize, same_sized, sized_spelled}
use Rattle.asn_walk_feed.specs.Octets.{OctetsOf, OctetLaws}
use Rattle.asn_walk_feed.specs.Strings.{IsString, StringLaws, IsStringOf, IsNoString}
use Rattle.asn_per.specs.SingleItems.{at_least, under_size, BitHeld, string_items, per_field_coding}
use Rattle.asn_per.proofs.InPieces.Fields.{items_sized, octets_laws, bits_laws, characters_laws, at_least_none}

-- ---- BIT STRING, of bits that are held as 0 or 1

-- such a bit
held_spelled : Same BitHeld (SpelledBy (λ n. n < 2) (λ n. ones (n ∷ [])))
held_spelled = same_after (set_spelled 1 (λ n. n < 2) (λ n h. omega (arith, h))) (same_spelled (λ n h. h) (λ n h. h) (λ n h. ap ones (one_bit n h)))
  where
    one_bit : (n : ℕ) → n < 2 → bits 1 n ≡ n ∷ []
    one_bit zero h = refl
    one_bit (suc zero) h = refl
    one_bit (suc (suc n)) h = absurd (omega arith)

-- as truth values
held_truths : (ns : List ℕ) → AllByRecursion (λ n. n < 2) ns → map (λ b. one (bit_of b) ∷ []) (map truth_of ns) ≡ map (λ n. ones (n ∷ [])) ns
held_truths [] h = refl
held_truths (zero ∷ ns) h = ap (λ (l : List (List Chunk)). (one 0 ∷ []) ∷ l) (held_truths ns h.1)
held_truths (suc zero ∷ ns) h = ap (λ (l : List (List Chunk)). (one 1 ∷ []) ∷ l) (held_truths ns h.1)
held_truths (suc (suc n) ∷ ns) h = absurd (omega (arith, h.0))

-- each truth value is held
truths_held : (bs : List Bool) → bs ≡ map truth_of (map bit_of bs)
truths_held [] = refl
truths_held (true ∷ bs) = ap (λ (l : List Bool). true ∷ l) (truths_held bs)
truths_held (false ∷ bs) = ap (λ (l : List Bool). false ∷ l) (truths_held bs)

held_bits : (bs : List Bool) → AllByRecursion (λ n. n < 2) (map bit_of bs)
held_bits [] = tt
held_bits (true ∷ bs) = (omega arith, held_bits bs)
held_bits (false ∷ bs) = (omega arith, held_bits bs)

-- bits under a size
held_compose : (s : SizeRange) → InProfile (bit_string s) → Same (Map (λ ns. bit_list (map truth_of ns)) (Sized s BitHeld)) (Values (bit_string s))
held_compose s good =
    same_after (same_map (same_after (same_sized held_spelled s) (sized_spelled (λ n. n < 2) (λ n. ones (n ∷ [])) (same_lawful held_spelled (set_lawful 2 1 (λ n. n < 2))) s (record { ordered = good EmptyRange; small = good SizeTooLarge }))))
    (map_spelled there back)
  where
    there : (ns : List ℕ) → FitSize (λ n. n < 2) (λ n. ones (n ∷ [])) s ns → Fits (bit_string s) (bit_list (map truth_of ns)) × (sized s (map (λ n. ones (n ∷ [])) ns) ≡ per (bit_string s) (bit_list (map truth_of ns)))
    there ns h = (subst (λ (n : ℕ). FitsLength s n) (sym (length-map ns truth_of)) h.0, ap (λ (l : List (List Chunk)). sized s l) (sym (held_truths ns h.1)))

    back : (v : Datum) → Fits (bit_string s) v → (ns : List ℕ) × FitSize (λ n. n < 2) (λ n. ones (n ∷ [])) s ns × (v ≡ bit_list (map truth_of ns))
    back (bit_list bs) h = (map bit_of bs, (subst (λ (n : ℕ). FitsLength s n) (sym (length-map bs bit_of)) h, held_bits bs), ap bit_list (truths_held bs))
    back _ h = absurd h

-- ---- the items of a string lead to the string

bits_lead : (s : SizeRange) (us : List ℕ) → InProfile (bit_string s) → Leads per_fields (OctetsOf (under_size s BitHeld)) us (λ ns. bit_list (map truth_of ns)) (Spelt per None (bit_string s)) us
bits_lead s us good =
    leads_on (leads_same per_fields us (items_sized s BitHeld (bits_size s good)))
    (leads_on (leads_map per_fields (λ ns. bit_list (map truth_of ns)) (Sized s BitHeld) us) (leads_same per_fields us (same_after (held_compose s good) (none_left_out (bit_string s)))))

octets_to : (s : SizeRange) (us : List ℕ) → InProfile (octet_string s) → Leads per_fields (OctetsOf (under_size s Octet)) us octet_list (Spelt per None (octet_string s)) us
octets_to s us good = leads_on (leads_same per_fields us (items_sized s Octet (octets_size s good))) (octets_lead s us good)

characters_to : (k : Alphabet) (s : SizeRange) (us : List ℕ) → InProfile (restricted k s) → Leads per_fields (OctetsOf (under_size s (Character k))) us characters (Spelt per None (restricted k s)) us
characters_to k s us good = leads_on (leads_same per_fields us (items_sized s (Character k) (text_size k s good))) (text_leads k s us good)

text_to : (us : List ℕ) → LeadsStops per_fields (OctetsOf (under_size (at_least 0) Octet)) us (Spelt per None utf8_string) us
text_to us = stops_on (leads_same per_fields us (items_sized (at_least 0) Octet at_least_none)).stops (stops_on (octets_stop us) (utf8_leads us).stops)

-- ---- the strings

pub bits_held : (s : SizeRange) → InProfile (bit_string s) → (items : List ℕ) → IsStringOf per_coding per_field_coding (bit_string s) items (bit_list (map truth_of items))
unfolding per_coding per_ruling per_field_coding
bits_held s good items us r h = (bits_lead s us good).done items r h

pub octets_held : (s : SizeRange) → InProfile (octet_string s) → (items : List ℕ) → IsStringOf per_coding per_field_coding (octet_string s) items (octet_list items)
unfolding per_coding per_ruling per_field_coding
octets_held s good items us r h = (octets_to s us good).done items r h

pub characters_held : (k : Alphabet) (s : SizeRange) → InProfile (restricted k s) → (items : List ℕ) → IsStringOf per_coding per_field_coding (restricted k s) items (characters items)
unfolding per_coding per_ruling per_field_coding
characters_held k s good items us r h = (characters_to k s us good).done items r h

pub text_held : (items : List ℕ) → IsUtf8 items → IsStringOf per_coding per_field_coding utf8_string items (unicode items)
unfolding per_coding per_ruling per_field_coding
text_held items t us r h = (utf8_leads us).done items r (text_spells t (same_spells (items_sized (at_least 0) Octet at_least_none) h))

-- octets that are no UTF-8
pub no_text_held : (items : List ℕ) (left : ℕ) (why : Why) → (IsUtf8 items → ⊥) → IsNoString per_coding per_field_coding utf8_string items left (stop.Refused left why)
unfolding per_coding per_ruling per_field_coding
no_text_held items left why never us r h e = record { told = (utf8_leads us).stops.refused left (subst (λ (n : ℕ). Refused per_fields (Sealed utf8_field IsUtf8Content) us n) e (no_text never (same_spells (items_sized (at_least 0) Octet at_least_none) h))) }

-- what a UTF8String stands for
pub datum_of-Utf8 : (t : String Global) → datum_of (value.Utf8 t) ≡ unicode (string_bytes t)
datum_of-Utf8 t = search (rules, values.the_lemmas)

-- ---- their laws

items_of : (t : Shape) → InProfile t → IsString t → OctetLaws per_coding (string_items t)
items_of (bit_string s) good h = bits_laws s (bits_size s good)
items_of (octet_string s) good h = octets_laws s (octets_size s good)
items_of (restricted k s) good h = characters_laws k s (text_size k s good)
items_of utf8_string good h = octets_laws (at_least 0) at_least_none
items_of _ good h = absurd h

stops_of : (t : Shape) → InProfile t → IsString t → (us : List ℕ) → LeadsStops per_fields (OctetsOf (string_items t)) us (Spelt per None t) us
stops_of (bit_string s) good h us = (bits_lead s us good).stops
stops_of (octet_string s) good h us = (octets_to s us good).stops
stops_of (restricted k s) good h us = (characters_to k s us good).stops
stops_of utf8_string good h us = text_to us
stops_of _ good h us = absurd h

pub per_string_laws : StringLaws per_coding per_field_coding
unfolding per_coding per_ruling per_field_coding
per_string_laws = record {
  items = items_of;
  stops = λ t good h us why s. stops_by why (stops_of t good h us) s;
}
