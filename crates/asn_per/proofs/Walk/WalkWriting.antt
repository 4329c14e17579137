-- The spellings of PER keep the laws of the walk's writers.
use Rattle.std.proofs.Common.{◌≡◌, ◌<◌, ◌*◌, ◌-◌, ℕ, zero, suc, Bool, true, false, nat_lt, inl, inr, List, [], ◌∷◌, ◌++◌, length, map, take, drop, Option, refl, sym, ap, ◌∙◌, arith}
use Rattle.std.specs.List.{list_all, AllByRecursion}
use Rattle.asn_values.specs.Datum.{Datum, Components, components, component_list, Elements, elements, element_list, alternative}
use Rattle.asn_values.specs.Fits.{Fits}
use Rattle.asn_values.specs.Profile.{InProfile, is_optional}
use Rattle.asn_values.specs.Shape.{Shape, SizeRange, Demand, must, optional, default, Fields, no_fields, field, MoreFields, closed, marked, is_marked, demands, sequence, sequence_of, Alternatives, no_alternatives, one_of, MoreAlternatives, closed_choice, marked_choice, is_marked_choice, choice, count}
use Rattle.asn_values.proofs.InnerTypes.{additions_optional}
use Rattle.asn_bits.proofs.Splits.{length-unpacked}
use Rattle.asn_bits.specs.Numbers.{unpacked}
use Rattle.asn_sinks.specs.Sink.{framed}
use Rattle.asn_sinks.specs.declared.sink.Framing.TheVariants.{General}
use Rattle.asn_rules.specs.Chunks.{Chunk, ones, flat}
use Rattle.asn_rules.specs.Components.{presence, if_spelled, any_present, extension_bit}
use Rattle.asn_walk.specs.Composites.{each_code, open_code, alternative_code, added_code, more_code, sequence_code, choice_code, choice_parts}
use Rattle.asn_walk.specs.WriteLaws.{WriteLaws, OpenLaws}
use Rattle.asn_walk.specs.Writing.{written, filling_bits}
use Rattle.asn_per.specs.Indexes.{index_bits}
use Rattle.asn_per.specs.Per.{per, per_each, per_open, per_additions, per_alternative, per_more, an_open_field, small_length}
use Rattle.asn_per.specs.Rules.{per_ruling}
use Rattle.asn_per.specs.Walk.{per_coding}
use Rattle.asn_per.proofs.Law.Choices.{choice_chunks}
use Rattle.asn_per.proofs.Encodings.Complete.{filled_is, complete_full, complete_octets}
use Rattle.asn_per.proofs.Write.Spellings.{entries_count}
use Rattle.asn_per.proofs.Encodings.Spelt.{per_spelt}

-- ---- the components of a SEQUENCE

each_is : (fs : Fields) (es : List (Option Datum)) → per_each fs es ≡ each_code per_coding fs es
unfolding per_coding
each_is no_fields es = refl
each_is (field name demand t fs) [] = refl
each_is (field name demand t fs) (e ∷ es) = ap (λ (cs : List Chunk). if_spelled demand e (λ d. per t d) ++ cs) (each_is fs es)

open_is : (fs : Fields) (es : List (Option Datum)) → per_open fs es ≡ open_code per_coding fs es
unfolding per_coding
open_is no_fields es = refl
open_is (field name demand t fs) [] = refl
open_is (field name demand t fs) (e ∷ es) = ap (λ (cs : List Chunk). if_spelled demand e (λ d. an_open_field (per t d)) ++ cs) (open_is fs es)

-- each OPTIONAL component has a presence bit
presence_length : (ds : List Demand) (es : List (Option Datum)) → list_all is_optional ds ≡ true → length es ≡ length ds → length (presence ds es) ≡ length ds
presence_length [] [] o n = refl
presence_length [] (e ∷ es) o n = refl
presence_length (optional ∷ ds) [] o n = n
presence_length (optional ∷ ds) (e ∷ es) o n = ap suc (presence_length ds es o (omega (arith, n)))
presence_length (must ∷ ds) es o n = absurd (cc)
presence_length (default d ∷ ds) es o n = absurd (cc)

more_is : (root : Fields) (more : MoreFields) (es : Components) → InProfile (sequence root more) → Fits (sequence root more) (components es)
    → per_additions more (drop (length (demands root)) (component_list es)) ≡ more_code per_coding more (drop (length (demands root)) (component_list es))
unfolding per_coding
more_is root closed es good fits = refl
more_is root (marked fs) es good fits =
    let added_entries = drop (length (demands root)) (component_list es) in
    let bits = presence (demands fs) added_entries in
    let n : length (demands fs) ≡ length bits = sym (presence_length (demands fs) added_entries (additions_optional root fs good) (entries_count fs added_entries fits.1)) in
    ap (λ (k : ℕ). elim (any_present added_entries) [ true ↦ ones (small_length k ++ bits) ++ per_open fs added_entries | false ↦ [] ]) n
    ∙ ap (λ (cs : List Chunk). elim (any_present added_entries) [ true ↦ ones (small_length (length bits) ++ bits) ++ cs | false ↦ [] ]) (open_is fs added_entries)

per_sequences : (root : Fields) (more : MoreFields) (es : Components) → InProfile (sequence root more) → Fits (sequence root more) (components es)
    → per_coding.code (sequence root more) (components es) ≡ sequence_code per_coding root more (component_list es)
unfolding per_coding
per_sequences root more es good fits =
    let n = length (demands root) in
    let root_entries = take n (component_list es) in
    let added_entries = drop n (component_list es) in
    let front = ones (extension_bit (is_marked more) (any_present added_entries) ++ presence (demands root) root_entries) in
    ap (λ (cs : List Chunk). (front ++ cs) ++ per_additions more added_entries) (each_is root root_entries)
    ∙ ap (λ (cs : List Chunk). (front ++ each_code per_coding root root_entries) ++ cs) (more_is root more es good fits)

-- ---- the alternatives of a CHOICE

alternative_is : (alts : Alternatives) (i : ℕ) (d : Datum) → per_alternative alts i d ≡ alternative_code per_coding alts i d
unfolding per_coding
alternative_is no_alternatives i d = refl
alternative_is (one_of name t alts) zero d = refl
alternative_is (one_of name t alts) (suc i) d = alternative_is alts i d

added_is : (more : MoreAlternatives) (i : ℕ) (d : Datum) → per_more more i d ≡ added_code per_coding more i d
unfolding per_coding
added_is closed_choice i d = refl
added_is (marked_choice alts) i d = ap an_open_field (alternative_is alts i d)

parts_are : (root : Alternatives) (more : MoreAlternatives) (b : Bool) (tag : ℕ) (d : Datum) → choice_chunks root more b tag d ≡ choice_parts per_coding root more b tag d
unfolding per_coding
parts_are root more true tag d = ap (λ (cs : List Chunk). ones (index_bits (count root) (is_marked_choice more) (inl tag)) ++ cs) (alternative_is root tag d)
parts_are root more false tag d = ap (λ (cs : List Chunk). ones (index_bits (count root) true (inr (tag - count root))) ++ cs) (added_is more (tag - count root) d)

per_choices : (root : Alternatives) (more : MoreAlternatives) (tag : ℕ) (d : Datum) → per_coding.code (choice root more) (alternative tag d) ≡ choice_code per_coding root more tag d
unfolding per_coding
per_choices root more tag d = parts_are root more (nat_lt tag (count root)) tag d

-- ---- the laws

per_lists : (t : Shape) (s : SizeRange) (ds : Elements) → per_coding.code (sequence_of t s) (elements ds) ≡ per_coding.sized s (map (λ d. per_coding.code t d) (element_list ds))
unfolding per_coding
per_lists t s ds = refl

per_complete : (t : Shape) (d : Datum) → InProfile t → Fits t d → per_coding.ruling.units (per_coding.complete (per_coding.code t d)) ≡ flat per_coding.ruling.fielding.spelled (per_coding.ruling.whole t d)
unfolding per_coding per_ruling
per_complete t d good fits = complete_full (per t d) (per_spelt t d fits).bits ∙ sym (filled_is (per t d))

per_long : (o p : List ℕ) → per_coding.ruling.units o ≡ per_coding.ruling.units p → length o ≡ length p
unfolding per_coding per_ruling
per_long o p e =
    let f : 8 * length o ≡ 8 * length p = sym (length-unpacked o) ∙ ap length e ∙ length-unpacked p in
    omega (arith, f)

per_none : per_coding.to_bits [] ≡ []
unfolding per_coding
per_none = refl

per_joined : (us vs : List ℕ) → per_coding.to_bits (us ++ vs) ≡ per_coding.to_bits us ++ per_coding.to_bits vs
unfolding per_coding
per_joined us vs = refl

pub per_write_laws : WriteLaws per_coding
per_write_laws = record {
  none = per_none;
  joined = per_joined;
  sequences = per_sequences;
  lists = per_lists;
  choices = per_choices;
  complete = per_complete;
  long = per_long;
}

-- open type fields hold complete encodings, whose octets are those of the bits of the spelling and of what fills them up
per_filled : (t : Shape) (d : Datum) → InProfile t → Fits t d → written per_coding (per_coding.code t d) ++ filling_bits per_coding (per_coding.code t d) ≡ unpacked (per_coding.complete (per_coding.code t d))
unfolding per_coding per_ruling
per_filled t d good fits = sym (complete_full (per t d) (per_spelt t d fits).bits)

per_octets_are : (t : Shape) (d : Datum) → InProfile t → Fits t d → AllByRecursion (λ o. o < 256) (per_coding.complete (per_coding.code t d))
unfolding per_coding per_ruling
per_octets_are t d good fits = complete_octets (per t d) (per_spelt t d fits).bits

per_framed : (os : List ℕ) → per_coding.to_bits (per_coding.ruling.fielding.spelled os) ≡ framed General os
unfolding per_coding per_ruling
per_framed os = refl

pub per_open_laws : OpenLaws General per_coding
per_open_laws = record { filled = per_filled; octets = per_octets_are; spelt = per_framed }
