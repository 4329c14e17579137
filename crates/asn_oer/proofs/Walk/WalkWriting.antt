-- The spellings of OER keep the laws of the walk's writers.
use Rattle.std.proofs.Common.{◌≡◌, ◌<◌, ◌+◌, ◌-◌, ℕ, zero, suc, Bool, true, false, nat_lt, List, [], ◌∷◌, ◌++◌, length, map, take, drop, Option, refl, sym, ap, ◌∙◌, arith}
use Rattle.std.proofs.lemmas.Bool.{ltb-false}
use Rattle.std.specs.List.{AllByRecursion}
use Rattle.std.proofs.lemmas.List.{length-map, append-nil}
use Rattle.asn_values.specs.Datum.{Datum, Components, components, component_list, Elements, elements, element_list, alternative}
use Rattle.asn_values.specs.Fits.{Fits}
use Rattle.asn_values.specs.Profile.{InProfile}
use Rattle.asn_values.specs.Shape.{Shape, SizeRange, Fields, no_fields, field, MoreFields, closed, marked, is_marked, demands, sequence, sequence_of, Alternatives, no_alternatives, one_of, MoreAlternatives, closed_choice, marked_choice, choice, count}
use Rattle.asn_bits.specs.Lengths.{joined}
use Rattle.asn_bits.specs.Numbers.{least, unpacked}
use Rattle.asn_bits.proofs.Splits.{unpacked-append}
use Rattle.asn_sinks.specs.Sink.{framed}
use Rattle.asn_sinks.specs.declared.sink.Framing.TheVariants.{Single}
use Rattle.asn_rules.specs.Chunks.{Chunk, ones, flat}
use Rattle.asn_rules.specs.Components.{presence, if_spelled, any_present, extension_bit}
use Rattle.asn_rules.specs.Fields.{spelled}
use Rattle.asn_rules.specs.Filled.{filled_bits}
use Rattle.asn_walk.specs.Composites.{each_code, open_code, alternative_code, added_code, more_code, sequence_code, choice_code, choice_parts}
use Rattle.asn_walk.specs.WriteLaws.{WriteLaws, OpenLaws}
use Rattle.asn_walk.specs.Writing.{written, filling_bits}
use Rattle.asn_rules.proofs.Octets.OctetsWritten.{content}
use Rattle.asn_oer.proofs.Law.GoodTypes.{good as good_type}
use Rattle.asn_oer.proofs.Encodings.SpeltTypes.{oer_spelt, few_levels}
use Rattle.asn_oer.specs.Oer.{oer_octets, variable_bits, tag, oer, oer_each, oer_open, oer_additions, oer_alternative, oer_more, an_open_field}
use Rattle.asn_oer.specs.Rules.{oer_ruling}
use Rattle.asn_oer.specs.Walk.{oer_coding}

-- ---- the components of a SEQUENCE

each_is : (fs : Fields) (es : List (Option Datum)) → oer_each fs es ≡ each_code oer_coding fs es
unfolding oer_coding
each_is no_fields es = refl
each_is (field name demand t fs) [] = refl
each_is (field name demand t fs) (e ∷ es) = ap (λ (cs : List Chunk). if_spelled demand e (λ d. oer t d) ++ cs) (each_is fs es)

open_is : (fs : Fields) (es : List (Option Datum)) → oer_open fs es ≡ open_code oer_coding fs es
unfolding oer_coding
open_is no_fields es = refl
open_is (field name demand t fs) [] = refl
open_is (field name demand t fs) (e ∷ es) = ap (λ (cs : List Chunk). if_spelled demand e (λ d. an_open_field (oer t d)) ++ cs) (open_is fs es)

more_is : (more : MoreFields) (es : List (Option Datum)) → oer_additions more es ≡ more_code oer_coding more es
unfolding oer_coding
more_is closed es = refl
more_is (marked fs) es = ap (λ (cs : List Chunk). elim (any_present es) [ true ↦ ones (variable_bits (presence (demands fs) es)) ++ cs | false ↦ [] ]) (open_is fs es)

oer_sequences : (root : Fields) (more : MoreFields) (es : Components) → InProfile (sequence root more) → Fits (sequence root more) (components es)
    → oer_coding.code (sequence root more) (components es) ≡ sequence_code oer_coding root more (component_list es)
unfolding oer_coding
oer_sequences root more es good fits =
    let n = length (demands root) in
    let root_entries = take n (component_list es) in
    let added_entries = drop n (component_list es) in
    let front = ones (filled_bits (extension_bit (is_marked more) (any_present added_entries) ++ presence (demands root) root_entries)) in
    ap (λ (cs : List Chunk). (front ++ cs) ++ oer_additions more added_entries) (each_is root root_entries)
    ∙ ap (λ (cs : List Chunk). (front ++ each_code oer_coding root root_entries) ++ cs) (more_is more added_entries)

-- ---- the elements of a SEQUENCE OF

oer_lists : (t : Shape) (s : SizeRange) (ds : Elements) → oer_coding.code (sequence_of t s) (elements ds) ≡ oer_coding.sized s (map (λ d. oer_coding.code t d) (element_list ds))
unfolding oer_coding
oer_lists t s ds =
    let items = map (λ d. oer t d) (element_list ds) in
    ap (λ (n : ℕ). ones (spelled (least n)) ++ joined items) (sym (length-map (element_list ds) (λ d. oer t d)))

-- ---- the alternatives of a CHOICE

alternative_is : (alts : Alternatives) (i : ℕ) (d : Datum) → oer_alternative alts i d ≡ alternative_code oer_coding alts i d
unfolding oer_coding
alternative_is no_alternatives i d = refl
alternative_is (one_of name t alts) zero d = refl
alternative_is (one_of name t alts) (suc i) d = alternative_is alts i d

added_is : (more : MoreAlternatives) (i : ℕ) (d : Datum) → oer_more more i d ≡ added_code oer_coding more i d
unfolding oer_coding
added_is closed_choice i d = refl
added_is (marked_choice alts) i d = ap an_open_field (alternative_is alts i d)

-- the chunks of a CHOICE, by whether the tag is one of the root
abbrev chosen : Alternatives → MoreAlternatives → Bool → ℕ → Datum → List Chunk
chosen root more b t d = ones (tag t) ++ elim b [ true ↦ oer_alternative root t d | false ↦ oer_more more (t - count root) d ]

parts_are : (root : Alternatives) (more : MoreAlternatives) (b : Bool) (t : ℕ) (d : Datum) → nat_lt t (count root) ≡ b → chosen root more b t d ≡ choice_parts oer_coding root more b t d
unfolding oer_coding
parts_are root more true t d h = ap (λ (cs : List Chunk). ones (tag t) ++ cs) (alternative_is root t d)
parts_are root more false t d h =
    let there : t ≡ count root + (t - count root) = omega (arith, ltb-false t (count root) h) in
    ap (λ (n : ℕ). ones (tag n) ++ oer_more more (t - count root) d) there
    ∙ ap (λ (cs : List Chunk). ones (tag (count root + (t - count root))) ++ cs) (added_is more (t - count root) d)

oer_choices : (root : Alternatives) (more : MoreAlternatives) (tag : ℕ) (d : Datum) → oer_coding.code (choice root more) (alternative tag d) ≡ choice_code oer_coding root more tag d
unfolding oer_coding
oer_choices root more tag d = parts_are root more (nat_lt tag (count root)) tag d refl

-- ---- the laws

oer_complete : (t : Shape) (d : Datum) → InProfile t → Fits t d → oer_coding.ruling.units (oer_coding.complete (oer_coding.code t d)) ≡ flat oer_coding.ruling.fielding.spelled (oer_coding.ruling.whole t d)
unfolding oer_coding oer_ruling
oer_complete t d good fits = refl

oer_long : (o p : List ℕ) → oer_coding.ruling.units o ≡ oer_coding.ruling.units p → length o ≡ length p
unfolding oer_coding oer_ruling
oer_long o p e = ap length e

oer_none : oer_coding.to_bits [] ≡ []
unfolding oer_coding
oer_none = refl

oer_joined : (us vs : List ℕ) → oer_coding.to_bits (us ++ vs) ≡ oer_coding.to_bits us ++ oer_coding.to_bits vs
unfolding oer_coding
oer_joined us vs = unpacked-append us vs

pub oer_write_laws : WriteLaws oer_coding
oer_write_laws = record {
  none = oer_none;
  joined = oer_joined;
  sequences = oer_sequences;
  lists = oer_lists;
  choices = oer_choices;
  complete = oer_complete;
  long = oer_long;
}

-- open type fields hold complete encodings, whose octets are those of the spelling
oer_filled : (t : Shape) (d : Datum) → InProfile t → Fits t d → written oer_coding (oer_coding.code t d) ++ filling_bits oer_coding (oer_coding.code t d) ≡ unpacked (oer_coding.complete (oer_coding.code t d))
unfolding oer_coding oer_ruling
oer_filled t d good fits = append-nil (unpacked (oer_octets t d))

oer_octets_are : (t : Shape) (d : Datum) → InProfile t → Fits t d → AllByRecursion (λ o. o < 256) (oer_coding.complete (oer_coding.code t d))
unfolding oer_coding oer_ruling
oer_octets_are t d good fits = (oer_spelt t (good_type t good) (few_levels t good) d fits).units.octets

oer_framed : (os : List ℕ) → oer_coding.to_bits (oer_coding.ruling.fielding.spelled os) ≡ framed Single os
unfolding oer_coding oer_ruling
oer_framed os = content os

pub oer_open_laws : OpenLaws Single oer_coding
oer_open_laws = record { filled = oer_filled; octets = oer_octets_are; spelt = oer_framed }
