-- Every spelling in PER is bits, and its sealed fields hold what such fields may.
use Rattle.std.proofs.Common.{◌≤◌, ◌-◌, ℕ, zero, suc, Bool, true, false, List, [], ◌∷◌, ◌++◌, length, map, take, drop, Option, Some, None, sym, subst, arith, nat_lt, MatchBool, IsUtf8}
use Rattle.std.specs.List.{AllByRecursion}
use Rattle.asn_values.specs.Datum.{Datum, truth, number, item, bit_list, octet_list, characters, unicode, components, elements, alternative, component_list, element_list}
use Rattle.asn_values.specs.Shape.{SizeRange, Shape, boolean, null, integer, enumerated, bit_string, octet_string, restricted, utf8_string, sequence, sequence_of, choice, Demand, Fields, no_fields, field, MoreFields, closed, marked, is_marked, demands, Alternatives, no_alternatives, one_of, MoreAlternatives, closed_choice, marked_choice, is_marked_choice, count}
use Rattle.asn_values.specs.Fits.{Fits, FitsEach, FitsMore, FitsAlternative, FitsMoreAlternatives, FitsChoice, in_size, max_len}
use Rattle.asn_bits.specs.Numbers.{bits}
use Rattle.asn_bits.specs.Lengths.{Length, lengths, joined, with_lengths, general}
use Rattle.asn_bits.proofs.GeneralLengths.{all_take}
use Rattle.asn_bits.proofs.FilledBits.{AreBits, bits_append}
use Rattle.asn_bits.proofs.Utf8.{utf8_octets}
use Rattle.asn_rules.specs.Chunks.{utf8_field, Chunk, one, sealed, ones, flat}
use Rattle.asn_rules.specs.Components.{bit_of, presence, if_spelled, any_present, extension_bit}
use Rattle.asn_rules.proofs.Law.Entries.{bit_of_is, extension_bits, presence_bits, front_bits, entry_has}
use Rattle.asn_rules.proofs.Live.Flat.{flat-append, flat-ones}
use Rattle.asn_rules.specs.Reading.{AllSealed}
use Rattle.asn_rules.proofs.Live.Fronts.{sealed-ones, sealed-append}
use Rattle.asn_per.specs.Per.{spelled, complete, an_open_field, constrained, small, small_length, after_mark, within, sized, character_bits, additions, per, per_each, per_additions, per_open, per_alternative, per_more, per_fields}
use Rattle.asn_per.proofs.Encodings.Bits.{AllLengths, digits_bits, lengths_bits, spelled_bits, number_bits, small_bits, item_bits, character_bits_are}
use Rattle.asn_per.proofs.Encodings.Complete.{complete_octets, complete_some}

-- bits, with sealed fields that hold what such fields may
pub record Spelt (cs : List Chunk) : Type 0 where
  pub bits : AreBits (flat spelled cs)
  pub fields : AllSealed per_fields cs

-- ---- parts of spellings

-- nothing
spelt_none : Spelt []
spelt_none = record { bits = tt; fields = tt }

-- plain bits
pub spelt_ones : (us : List ℕ) → AreBits us → Spelt (ones us)
spelt_ones us h = record { bits = subst AreBits (sym (flat-ones spelled us)) h; fields = sealed-ones per_fields us }

-- two parts
pub spelt_append : (xs ys : List Chunk) → Spelt xs → Spelt ys → Spelt (xs ++ ys)
spelt_append xs ys p q = record {
  bits = subst AreBits (sym (flat-append spelled xs ys)) (bits_append (flat spelled xs) (flat spelled ys) p.bits q.bits);
  fields = sealed-append per_fields xs ys p.fields q.fields;
}

-- a UTF8String
spelt_utf8 : (os : List ℕ) → length os ≤ max_len → IsUtf8 os → Spelt (sealed utf8_field os ∷ [])
spelt_utf8 os l u = record { bits = bits_append (spelled os) [] (spelled_bits os) tt; fields = ((λ b. (omega arith, l, utf8_octets os u)), tt) }

-- an open field
spelt_open : (cs : List Chunk) → Spelt cs → Spelt (an_open_field cs)
spelt_open cs h = record {
  bits = bits_append (spelled (complete cs)) [] (spelled_bits (complete cs)) tt;
  fields = ((λ b. (complete_some cs h.bits, b, complete_octets cs h.bits)), tt);
}

-- ---- lists

-- parts one after the other
spelt_joined : (xs : List (List Chunk)) → AllByRecursion Spelt xs → Spelt (joined xs)
spelt_joined [] h = spelt_none
spelt_joined (x ∷ xs) h = spelt_append x (joined xs) h.0 (spelt_joined xs h.1)

-- items under lengths
spelt_with_lengths : (ls : List Length) (items : List (List Chunk)) → AllLengths ls → AllByRecursion Spelt items → Spelt (with_lengths one ls items)
spelt_with_lengths [] items p q = spelt_none
spelt_with_lengths (l ∷ ls) items p q =
    let parts = all_take Spelt l.items items q in
    let rest = with_lengths one ls (drop l.items items) in
    spelt_append (ones l.bits) (joined (take l.items items) ++ rest) (spelt_ones l.bits p.0)
    (spelt_append (joined (take l.items items)) rest (spelt_joined (take l.items items) parts.0) (spelt_with_lengths ls (drop l.items items) p.1 parts.1))

-- items under their general length
spelt_general : (items : List (List Chunk)) → AllByRecursion Spelt items → Spelt (general one items)
spelt_general items h = spelt_with_lengths (lengths (length items)) items (lengths_bits (length items)) h

-- items of a count in the root of a size
spelt_within : (low : ℕ) (high : Option ℕ) (items : List (List Chunk)) → AllByRecursion Spelt items → Spelt (within low high items)
spelt_within low None items h = spelt_general items h
spelt_within low (Some high) items h = go (nat_lt high 65536)
  where
    count_bits : List ℕ
    count_bits = constrained (suc (high - low)) (length items - low)

    go : (b : Bool) → Spelt (elim b [ true ↦ ones count_bits ++ joined items | false ↦ general one items ])
    go true = spelt_append (ones count_bits) (joined items) (spelt_ones count_bits (digits_bits _ _)) (spelt_joined items h)
    go false = spelt_general items h

-- items under a size
spelt_sized : (z : SizeRange) (items : List (List Chunk)) → AllByRecursion Spelt items → Spelt (sized z items)
spelt_sized z items h = go z.extensible (in_size z (length items))
  where
    go : (m i : Bool) → Spelt (after_mark one m i (within z.low z.high items) (general one items))
    go false i = spelt_within z.low z.high items h
    go true true = spelt_append (ones (0 ∷ [])) (within z.low z.high items) (spelt_ones (0 ∷ []) (omega arith, tt)) (spelt_within z.low z.high items h)
    go true false = spelt_append (ones (1 ∷ [])) (general one items) (spelt_ones (1 ∷ []) (omega arith, tt)) (spelt_general items h)

-- of each element
spelt_each : {A : Type 0} (P : A → Type 0) (code : A → List Chunk) → ((x : A) → P x → Spelt (code x)) → (xs : List A) → AllByRecursion P xs → AllByRecursion Spelt (map code xs)
spelt_each P code h [] p = tt
spelt_each P code h (x ∷ xs) p = (h x p.0, spelt_each P code h xs p.1)

-- of elements that are plain bits
spelt_plain : {A : Type 0} (code : A → List ℕ) → ((x : A) → AreBits (code x)) → (xs : List A) → AllByRecursion Spelt (map (λ x. ones (code x)) xs)
spelt_plain code h [] = tt
spelt_plain code h (x ∷ xs) = (spelt_ones (code x) (h x), spelt_plain code h xs)

-- ---- components and alternatives

-- the additions of a SEQUENCE, where one is present
spelt_additions : (ds : List Demand) (es : List (Option Datum)) (cs : List Chunk) → Spelt cs → Spelt (additions ds es cs)
spelt_additions ds es cs h = go (any_present es)
  where
    front : List ℕ
    front = small_length (length ds) ++ presence ds es

    go : (b : Bool) → Spelt (elim b [ true ↦ ones front ++ cs | false ↦ [] ])
    go true = spelt_append (ones front) cs (spelt_ones front (bits_append (small_length (length ds)) (presence ds es) (omega arith, digits_bits 6 _) (presence_bits ds es))) h
    go false = spelt_none

-- an alternative after its index
spelt_choice : (root : Alternatives) (more : MoreAlternatives) (i : ℕ) (d : Datum)
    → (FitsAlternative root i d → Spelt (per_alternative root i d)) → (FitsMoreAlternatives more (i - count root) d → Spelt (per_more more (i - count root) d))
    → FitsChoice root more i d → Spelt (per (choice root more) (alternative i d))
spelt_choice root more i d p q f = go (nat_lt i (count root)) f
  where
    index : List ℕ
    index = extension_bit (is_marked_choice more) false ++ constrained (count root) i

    go : (b : Bool) → MatchBool b (FitsAlternative root i d) (FitsMoreAlternatives more (i - count root) d)
        → Spelt (elim b [ true ↦ ones index ++ per_alternative root i d | false ↦ ones (1 ∷ small (i - count root)) ++ per_more more (i - count root) d ])
    go true f = spelt_append (ones index) (per_alternative root i d) (spelt_ones index (bits_append (extension_bit (is_marked_choice more) false) (constrained (count root) i) (extension_bits (is_marked_choice more) false) (digits_bits _ _))) (p f)
    go false f = spelt_append (ones (1 ∷ small (i - count root))) (per_more more (i - count root) d) (spelt_ones (1 ∷ small (i - count root)) (omega arith, small_bits (i - count root))) (q f)

-- ---- all types

mutual
  -- each value of a type
  pub per_spelt : (t : Shape) (d : Datum) → Fits t d → Spelt (per t d)
  per_spelt boolean (truth b) f = spelt_ones (bit_of b ∷ []) (bit_of_is b, tt)
  per_spelt boolean _ f = absurd f
  per_spelt null d f = spelt_none
  per_spelt (integer b) (number z) f = spelt_ones _ (number_bits b z)
  per_spelt (integer b) _ f = absurd f
  per_spelt (enumerated root more) (item p) f = spelt_ones _ (item_bits root more p)
  per_spelt (enumerated root more) _ f = absurd f
  per_spelt (bit_string z) (bit_list bs) f = spelt_sized z _ (spelt_plain (λ b. bit_of b ∷ []) (λ b. (bit_of_is b, tt)) bs)
  per_spelt (bit_string z) _ f = absurd f
  per_spelt (octet_string z) (octet_list os) f = spelt_sized z _ (spelt_plain (λ o. bits 8 o) (λ o. digits_bits 8 o) os)
  per_spelt (octet_string z) _ f = absurd f
  per_spelt (restricted k z) (characters cs) f = spelt_sized z _ (spelt_plain (λ c. character_bits k c) (λ c. character_bits_are k c) cs)
  per_spelt (restricted k z) _ f = absurd f
  per_spelt utf8_string (unicode os) f = spelt_utf8 os f.0 f.1
  per_spelt utf8_string _ f = absurd f
  per_spelt (sequence root more) (components cs) f =
      let es = take (length (demands root)) (component_list cs) in
      let gs = drop (length (demands root)) (component_list cs) in
      let front = extension_bit (is_marked more) (any_present gs) ++ presence (demands root) es in
      spelt_append (ones front ++ per_each root es) (per_additions more gs)
      (spelt_append (ones front) (per_each root es) (spelt_ones front (front_bits (is_marked more) (any_present gs) (demands root) es)) (each_spelt root es f.0)) (more_spelt more gs f.1)
  per_spelt (sequence root more) _ f = absurd f
  per_spelt (sequence_of t z) (elements ds) f = spelt_sized z _ (spelt_each (λ e. Fits t e) (λ e. per t e) (λ e p. per_spelt t e p) (element_list ds) f.1)
  per_spelt (sequence_of t z) _ f = absurd f
  per_spelt (choice root more) (alternative i d) f = spelt_choice root more i d (λ p. alternative_spelt root i d p) (λ p. other_spelt more (i - count root) d p) f
  per_spelt (choice root more) _ f = absurd f

  -- the components of the root
  each_spelt : (fs : Fields) (es : List (Option Datum)) → FitsEach fs es → Spelt (per_each fs es)
  each_spelt no_fields es f = spelt_none
  each_spelt (field name demand t fs) [] f = spelt_none
  each_spelt (field name demand t fs) (e ∷ es) f =
      spelt_append (if_spelled demand e (λ d. per t d)) (per_each fs es) (entry_has Spelt (λ d. Fits t d) (λ d. per t d) spelt_none (λ d p. per_spelt t d p) demand e f.0) (each_spelt fs es f.1)

  -- the additions
  more_spelt : (more : MoreFields) (es : List (Option Datum)) → FitsMore more es → Spelt (per_additions more es)
  more_spelt closed es f = spelt_none
  more_spelt (marked fs) es f = spelt_additions (demands fs) es (per_open fs es) (open_spelt fs es f)

  -- their open fields
  open_spelt : (fs : Fields) (es : List (Option Datum)) → FitsEach fs es → Spelt (per_open fs es)
  open_spelt no_fields es f = spelt_none
  open_spelt (field name demand t fs) [] f = spelt_none
  open_spelt (field name demand t fs) (e ∷ es) f =
      spelt_append (if_spelled demand e (λ d. an_open_field (per t d))) (per_open fs es)
      (entry_has Spelt (λ d. Fits t d) (λ d. an_open_field (per t d)) spelt_none (λ d p. spelt_open (per t d) (per_spelt t d p)) demand e f.0) (open_spelt fs es f.1)

  -- an alternative
  pub alternative_spelt : (alts : Alternatives) (i : ℕ) (d : Datum) → FitsAlternative alts i d → Spelt (per_alternative alts i d)
  alternative_spelt no_alternatives i d f = spelt_none
  alternative_spelt (one_of name shape alts) zero d f = per_spelt shape d f
  alternative_spelt (one_of name shape alts) (suc i) d f = alternative_spelt alts i d f

  -- an addition of a CHOICE
  other_spelt : (more : MoreAlternatives) (i : ℕ) (d : Datum) → FitsMoreAlternatives more i d → Spelt (per_more more i d)
  other_spelt closed_choice i d f = spelt_none
  other_spelt (marked_choice alts) i d f = spelt_open (per_alternative alts i d) (alternative_spelt alts i d f)
