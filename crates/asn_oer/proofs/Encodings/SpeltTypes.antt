-- The spelling of a value of any type of the profile is octets, and its sealed fields hold what such may.
use Rattle.std.proofs.Common.{◌≡◌, ◌≤◌, ◌+◌, ◌-◌, ◌*◌, ℕ, zero, suc, max, Bool, true, false, List, [], ◌∷◌, ◌++◌, length, map, take, drop, Option, refl, sym, subst, arith, nat_lt, MatchBool, length-append}
use Rattle.std.proofs.lemmas.Bool.{ltb-false, or_parts}
use Rattle.std.proofs.lemmas.List.{length-map}
use Rattle.std.proofs.Math.Nat.{suc-mul, mul-le-mul_right}
use Rattle.asn_values.specs.Datum.{Datum, truth, number, item, bit_list, octet_list, characters, unicode, components, elements, alternative, component_list, element_list}
use Rattle.asn_values.specs.Shape.{Shape, boolean, null, integer, enumerated, bit_string, octet_string, restricted, utf8_string, sequence, sequence_of, choice, more_labels, Fields, no_fields, field, MoreFields, closed, marked, is_marked, more_fields, demands, Alternatives, no_alternatives, one_of, MoreAlternatives, closed_choice, marked_choice, count}
use Rattle.asn_values.specs.Measures.{depth, fields_depth, more_depth, choice_depth, more_choice_depth}
use Rattle.asn_values.specs.Fits.{Fits, FitsEach, FitsMore, FitsAlternative, FitsMoreAlternatives, max_len}
use Rattle.asn_values.specs.Profile.{InProfile, TooDeep, too_many_here}
use Rattle.asn_bits.specs.Numbers.{least}
use Rattle.asn_bits.specs.Lengths.{joined}
use Rattle.asn_bits.proofs.Utf8.{utf8_octets}
use Rattle.asn_rules.specs.Chunks.{ones}
use Rattle.asn_rules.specs.Components.{bit_of, number_at, presence, if_spelled, any_present, extension_bit}
use Rattle.asn_rules.proofs.Law.Entries.{front_bits, entry_has, presence_bits, few_presence, few_extension}
use Rattle.asn_rules.proofs.Law.Items.{good_items}
use Rattle.asn_rules.specs.Fields.{spelled}
use Rattle.asn_rules.specs.Filled.{filled_bits}
use Rattle.asn_rules.proofs.Octets.Characters.{characters_octets}
use Rattle.asn_rules.proofs.Octets.BitStrings.{list_bits}
use Rattle.asn_walk.proofs.ItemNumbers.{number_is_small}
use Rattle.asn_oer.specs.Oer.{whole_number, bit_octets, sized_octets, item_number, tag, variable_bits, an_open_field, oer, oer_each, oer_open, oer_additions, oer_alternative, oer_more}
use Rattle.asn_oer.proofs.Law.GoodTypes.{Good, GoodFields, GoodAlternatives, first_good, rest_good, here_good, later_good, root_good, additions_good, choice_good, choice_additions_good, few_alternatives, tag_below}
use Rattle.asn_oer.proofs.Law.Spellings.{front}
use Rattle.asn_oer.proofs.Encodings.Spelt.{room, room_grows, room_first, room_next, room_some, Short, short_append, short_more, Spelt, spelt_none, spelt_more, spelt_ones, spelt_append, spelt_open, spelt_joined}
use Rattle.asn_oer.proofs.Encodings.SpeltLeaves.{number_short, item_short, bits_short, variable_short, preamble_short, content_short, sized_short, quantity_short, tag_short}

-- ---- room

-- a spelling of a simple type
leaf : (n : ℕ) (us : List ℕ) → n ≤ 2147483648 → Short n us → Spelt (room 1) (ones us)
leaf n us h p = spelt_ones (room 1) us (short_more n (room 1) us (omega (arith, room_first)) p)

-- a SEQUENCE has at most 64 components and 64 additions
few_components : (root : Fields) (more : MoreFields) → Good (sequence root more) → length (demands root) ≤ 64
few_components root more h =
    ltb-false 64 (length (demands root)) (or_parts (nat_lt 64 (length (demands root))) (nat_lt 64 (length (demands (more_fields more)))) (or_parts (too_many_here (sequence root more)) _ h.parts).0).0

-- and at most 64 additions
pub few_additions : (root fs : Fields) → Good (sequence root (marked fs)) → length (demands fs) ≤ 64
few_additions root fs h =
    ltb-false 64 (length (demands fs)) (or_parts (nat_lt 64 (length (demands root))) (nat_lt 64 (length (demands fs))) (or_parts (too_many_here (sequence root (marked fs))) _ h.parts).0).1

-- n times x, where n is at most 64
at_most_64 : (n x : ℕ) → n ≤ 64 → n * x ≤ 64 * x
at_most_64 n x h = mul-le-mul_right x h

-- so there are at most 65 bits in front of it
few_in_front : (root : Fields) (m e : Bool) (es : List (Option Datum)) → length (demands root) ≤ 64 → length (front m e (demands root) es) ≤ 65
few_in_front root m e es h = omega (arith, length-append (extension_bit m e) (presence (demands root) es), few_extension m e, few_presence (demands root) es)

-- ---- all types

mutual
  -- of at most as many levels as the profile has
  pub oer_spelt : (t : Shape) → Good t → depth t ≤ 64 → (d : Datum) → Fits t d → Spelt (room (depth t)) (oer t d)
  oer_spelt boolean h l (truth true) f = leaf 1 (255 ∷ []) (omega arith) (record { octets = (omega arith, tt); most = omega arith })
  oer_spelt boolean h l (truth false) f = leaf 1 (0 ∷ []) (omega arith) (record { octets = (omega arith, tt); most = omega arith })
  oer_spelt boolean h l _ f = absurd f
  oer_spelt null h l d f = spelt_none (room 1)
  oer_spelt (integer b) h l (number z) f = leaf 20 (whole_number b z) (omega arith) (number_short b z f)
  oer_spelt (integer b) h l _ f = absurd f
  oer_spelt (enumerated root more) h l (item p) f =
      let z = number_at (root ++ more_labels more) p in
      leaf 5 (item_number z) (omega arith) (item_short z (number_is_small (root ++ more_labels more) p (good_items root more h.numbers).bits_32))
  oer_spelt (enumerated root more) h l _ f = absurd f
  oer_spelt (bit_string z) h l (bit_list bs) f =
      leaf 2147483648 (bit_octets z (map bit_of bs)) (omega arith) (bits_short z (map bit_of bs) (subst (λ n. n ≤ max_len) (sym (length-map bs bit_of)) f.0) (list_bits bs))
  oer_spelt (bit_string z) h l _ f = absurd f
  oer_spelt (octet_string z) h l (octet_list os) f = leaf 2147483648 (sized_octets z os) (omega arith) (sized_short z os f.0.0 f.1)
  oer_spelt (octet_string z) h l _ f = absurd f
  oer_spelt (restricted k z) h l (characters cs) f = leaf 2147483648 (sized_octets z cs) (omega arith) (sized_short z cs f.0.0 (characters_octets k cs f.1))
  oer_spelt (restricted k z) h l _ f = absurd f
  oer_spelt utf8_string h l (unicode os) f =
      let are = utf8_octets os f.1 in
      let short : Short (2147483648 + 0) (spelled os ++ []) = short_append 2147483648 0 (spelled os) [] (content_short os f.0 are) (record { octets = tt; most = omega arith }) in
      record { units = short_more (2147483648 + 0) (room 1) (spelled os ++ []) (omega (arith, room_first)) short; held = ((λ _. (omega arith, f.0, are)), tt) }
  oer_spelt utf8_string h l _ f = absurd f
  oer_spelt (sequence root more) h l (components cs) f =
      let k = max (fields_depth root) (more_depth more) in
      let n = length (demands root) in
      let es = take n (component_list cs) in
      let gs = drop n (component_list cs) in
      let bs = front (is_marked more) (any_present gs) (demands root) es in
      let few = few_components root more h in
      let many = at_most_64 n (room k) few in
      let some = room_some k in
      spelt_more ((72 + n * room k) + (146 + 64 * (2 * room k + 2))) (room (suc k)) (oer (sequence root more) (components cs)) (omega (arith, room_next k))
      (spelt_append (72 + n * room k) (146 + 64 * (2 * room k + 2)) (ones (filled_bits bs) ++ oer_each root es) (oer_additions more gs)
      (spelt_append 72 (n * room k) (ones (filled_bits bs)) (oer_each root es)
      (spelt_ones 72 (filled_bits bs) (preamble_short bs (few_in_front root (is_marked more) (any_present gs) es few) (front_bits (is_marked more) (any_present gs) (demands root) es)))
      (each_spelt root (root_good root more h) k (omega arith) (omega arith) es f.0))
      (more_spelt root more h k (omega arith) (omega arith) gs f.1))
  oer_spelt (sequence root more) h l _ f = absurd f
  oer_spelt (sequence_of t z) h l (elements ds) f =
      let k = depth t in
      let xs = element_list ds in
      let n = length xs in
      let short : n ≤ max_len = f.0.0 in
      let many : n * room k ≤ max_len * room k = mul-le-mul_right (room k) short in
      let some = room_some k in
      spelt_more (536870914 + n * room k) (room (suc (suc k))) (oer (sequence_of t z) (elements ds)) (omega (arith, room_next k, room_next (suc k)))
      (spelt_append 536870914 (n * room k) (ones (spelled (least n))) (joined (map (λ e. oer t e) xs)) (spelt_ones 536870914 (spelled (least n)) (quantity_short n short))
      (spelt_joined (room k) (λ e. Fits t e) (λ e. oer t e) (λ e p. oer_spelt t (record { numbers = h.numbers; parts = h.parts }) (omega arith) e p) xs f.1))
  oer_spelt (sequence_of t z) h l _ f = absurd f
  oer_spelt (choice root more) h l (alternative i e) f =
      let k = max (choice_depth root) (more_choice_depth more) in
      let some = room_some k in
      let few = few_alternatives root more h in
      spelt_more (3 + (2 * room k + 2)) (room (suc k)) (oer (choice root more) (alternative i e)) (omega (arith, room_next k))
      (spelt_append 3 (2 * room k + 2) (ones (tag i)) _ (spelt_ones 3 (tag i) (tag_short i (omega (arith, few, tag_below root more i e f))))
      (go (nat_lt i (count root)) f (λ p. alternative_spelt root (choice_good root more h) k (omega arith) (omega arith) i e p) (λ p. other_spelt root more h k (omega arith) (omega arith) (i - count root) e p)))
    where
      go : (b : Bool) → MatchBool b (FitsAlternative root i e) (FitsMoreAlternatives more (i - count root) e)
          → (FitsAlternative root i e → Spelt (room (max (choice_depth root) (more_choice_depth more))) (oer_alternative root i e))
          → (FitsMoreAlternatives more (i - count root) e → Spelt (2 * room (max (choice_depth root) (more_choice_depth more)) + 2) (oer_more more (i - count root) e))
          → Spelt (2 * room (max (choice_depth root) (more_choice_depth more)) + 2) (elim b [ true ↦ oer_alternative root i e | false ↦ oer_more more (i - count root) e ])
      go true f p q = let k = room (max (choice_depth root) (more_choice_depth more)) in spelt_more k (2 * k + 2) (oer_alternative root i e) (omega arith) (p f)
      go false f p q = q f
  oer_spelt (choice root more) h l _ f = absurd f

  -- the components of a SEQUENCE
  each_spelt : (fs : Fields) → GoodFields fs → (k : ℕ) → fields_depth fs ≤ k → k ≤ 64 → (es : List (Option Datum)) → FitsEach fs es → Spelt (length (demands fs) * room k) (oer_each fs es)
  each_spelt no_fields h k l m es f = spelt_none (0 * room k)
  each_spelt (field name demand t fs) h k l m [] f = absurd f
  each_spelt (field name demand t fs) h k l m (e ∷ es) f =
      spelt_more (room k + length (demands fs) * room k) (suc (length (demands fs)) * room k) (oer_each (field name demand t fs) (e ∷ es)) (omega (arith, suc-mul (length (demands fs)) (room k)))
      (spelt_append (room k) (length (demands fs) * room k) (if_spelled demand e (λ d. oer t d)) (oer_each fs es)
      (entry_has (Spelt (room k)) (λ d. Fits t d) (λ d. oer t d) (spelt_none (room k))
      (λ d p. spelt_more (room (depth t)) (room k) (oer t d) (room_grows (depth t) k (omega arith)) (oer_spelt t (first_good name demand t fs h) (omega arith) d p)) demand e f.0)
      (each_spelt fs (rest_good name demand t fs h) k (omega arith) m es f.1))

  -- its additions
  more_spelt : (root : Fields) (more : MoreFields) → Good (sequence root more) → (k : ℕ) → more_depth more ≤ k → k ≤ 64 → (es : List (Option Datum)) → FitsMore more es
      → Spelt (146 + 64 * (2 * room k + 2)) (oer_additions more es)
  more_spelt root closed h k l m es f = spelt_none (146 + 64 * (2 * room k + 2))
  more_spelt root (marked fs) h k l m es f = go (any_present es) (opens_spelt fs (additions_good root fs h) k l m es f)
    where
      few : length (demands fs) ≤ 64
      few = few_additions root fs h

      go : (b : Bool) → Spelt (length (demands fs) * (2 * room k + 2)) (oer_open fs es)
          → Spelt (146 + 64 * (2 * room k + 2)) (elim b [ true ↦ ones (variable_bits (presence (demands fs) es)) ++ oer_open fs es | false ↦ [] ])
      go true p =
          spelt_more (146 + length (demands fs) * (2 * room k + 2)) (146 + 64 * (2 * room k + 2)) _ (omega (arith, at_most_64 (length (demands fs)) (2 * room k + 2) few))
          (spelt_append 146 (length (demands fs) * (2 * room k + 2)) (ones (variable_bits (presence (demands fs) es))) (oer_open fs es)
          (spelt_ones 146 (variable_bits (presence (demands fs) es)) (variable_short 64 (presence (demands fs) es) (omega arith) (omega (arith, few, few_presence (demands fs) es)) (presence_bits (demands fs) es))) p)
      go false p = spelt_none (146 + 64 * (2 * room k + 2))

  -- the open fields of those that are present
  opens_spelt : (fs : Fields) → GoodFields fs → (k : ℕ) → fields_depth fs ≤ k → k ≤ 64 → (es : List (Option Datum)) → FitsEach fs es → Spelt (length (demands fs) * (2 * room k + 2)) (oer_open fs es)
  opens_spelt no_fields h k l m es f = spelt_none (0 * (2 * room k + 2))
  opens_spelt (field name demand t fs) h k l m [] f = absurd f
  opens_spelt (field name demand t fs) h k l m (e ∷ es) f =
      let x = 2 * room k + 2 in
      spelt_more (x + length (demands fs) * x) (suc (length (demands fs)) * x) (oer_open (field name demand t fs) (e ∷ es)) (omega (arith, suc-mul (length (demands fs)) x))
      (spelt_append x (length (demands fs) * x) (if_spelled demand e (λ d. an_open_field (oer t d))) (oer_open fs es)
      (entry_has (Spelt x) (λ d. Fits t d) (λ d. an_open_field (oer t d)) (spelt_none x)
      (λ d p. spelt_open (room k) k (oer t d) (omega arith) m (spelt_more (room (depth t)) (room k) (oer t d) (room_grows (depth t) k (omega arith)) (oer_spelt t (first_good name demand t fs h) (omega arith) d p))) demand e f.0)
      (opens_spelt fs (rest_good name demand t fs h) k (omega arith) m es f.1))

  -- the values of one alternative of the root
  alternative_spelt : (alts : Alternatives) → GoodAlternatives alts → (k : ℕ) → choice_depth alts ≤ k → k ≤ 64 → (i : ℕ) (d : Datum) → FitsAlternative alts i d → Spelt (room k) (oer_alternative alts i d)
  alternative_spelt no_alternatives h k l m i d f = absurd f
  alternative_spelt (one_of name t alts) h k l m zero d f =
      spelt_more (room (depth t)) (room k) (oer t d) (room_grows (depth t) k (omega arith)) (oer_spelt t (here_good name t alts h) (omega arith) d f)
  alternative_spelt (one_of name t alts) h k l m (suc i) d f = alternative_spelt alts (later_good name t alts h) k (omega arith) m i d f

  -- the values of one addition, in an open field
  other_spelt : (root : Alternatives) (more : MoreAlternatives) → Good (choice root more) → (k : ℕ) → more_choice_depth more ≤ k → k ≤ 64 → (i : ℕ) (d : Datum) → FitsMoreAlternatives more i d
      → Spelt (2 * room k + 2) (oer_more more i d)
  other_spelt root closed_choice h k l m i d f = absurd f
  other_spelt root (marked_choice alts) h k l m i d f =
      spelt_open (room k) k (oer_alternative alts i d) (omega arith) m (alternative_spelt alts (choice_additions_good root alts h) k l m i d f)

-- the levels of a type of the profile
pub few_levels : (t : Shape) → InProfile t → depth t ≤ 64
few_levels t h = ltb-false 64 (depth t) (h TooDeep)
