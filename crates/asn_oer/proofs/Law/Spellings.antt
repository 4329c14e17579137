-- Two spellings in OER face each other, for all types of the profile.
use Rattle.std.proofs.Common.{◌≡◌, ◌<◌, ◌+◌, ◌-◌, ℕ, zero, suc, Bool, true, false, List, [], ◌∷◌, ◌++◌, length, map, take, drop, Option, refl, sym, ◌∙◌, ap, subst, arith, IsTrue, nat_lt, MatchBool, length-append}
use Rattle.std.proofs.lemmas.Bool.{true≢false}
use Rattle.std.proofs.lemmas.List.{take-append-drop}
use Rattle.asn_values.specs.Datum.{Datum, truth, nothing, number, item, bit_list, octet_list, characters, unicode, components, elements, alternative, component_list, element_list}
use Rattle.asn_values.specs.Shape.{Shape, boolean, null, integer, enumerated, bit_string, octet_string, restricted, utf8_string, sequence, sequence_of, choice, more_labels, Demand, Fields, no_fields, field, MoreFields, closed, marked, is_marked, demands, Alternatives, no_alternatives, one_of, MoreAlternatives, closed_choice, marked_choice, count}
use Rattle.asn_values.specs.Fits.{Fits, FitsEach, FitsMore, FitsAlternative, FitsMoreAlternatives, FitsLength, FitsNumber}
use Rattle.asn_bits.specs.Numbers.{least}
use Rattle.asn_bits.specs.Lengths.{joined}
use Rattle.asn_bits.proofs.Codes.{IsCode}
use Rattle.asn_bits.proofs.Octets.{least_once}
use Rattle.asn_bits.proofs.FilledBits.{AreBits, filled_up_code}
use Rattle.asn_rules.specs.Chunks.{open_field, Chunk, ones, flat}
use Rattle.asn_rules.specs.Components.{bit_of, number_at, presence, if_spelled, any_present, extension_bit}
use Rattle.asn_rules.proofs.Law.Entries.{front_bits, presence_bits, length-extension_bit, same_elements, same_components, presence_first, length-presence, each_length, none_present, SameFront, front_code, entry_facing}
use Rattle.asn_rules.proofs.Law.Facing.{FieldsTell, Facing, IsFacing, facing_parts, plain_facing, code_facing, sealed_facing, joined_facing}
use Rattle.asn_rules.proofs.Law.FromFacing.{SpellingsFace, facing_code}
use Rattle.asn_rules.proofs.Law.Items.{good_items, item_once}
use Rattle.asn_rules.specs.Fields.{spelled}
use Rattle.asn_rules.specs.Filled.{filled_bits}
use Rattle.asn_rules.proofs.Octets.OctetFields.{spelled_code}
use Rattle.asn_oer.specs.Oer.{whole_number, bit_octets, sized_octets, item_number, tag, variable_bits, truth_octet, an_open_field, oer, oer_each, oer_open, oer_additions, oer_alternative, oer_more}
use Rattle.asn_oer.proofs.Law.GoodTypes.{Good, GoodFields, GoodAlternatives, good, first_good, rest_good, here_good, later_good, root_good, additions_good, choice_good, choice_additions_good, few_alternatives, tag_below}
use Rattle.asn_oer.proofs.Law.Integers.{number_code}
use Rattle.asn_oer.proofs.Law.Leaves.{item_code}
use Rattle.asn_oer.proofs.Law.TagForms.{tag_code}
use Rattle.asn_oer.proofs.Law.Strings.{sized_code, bits_code, variable_code}

-- ---- parts

-- facing in OER
abbrev Face : Type 0 → List Chunk → List Chunk → Type 0
Face E xs ys = Facing spelled E xs ys

-- a truth value is a code
truth_code : IsCode (λ b. IsTrue true) (λ b. truth_octet b ∷ [])
truth_code false false r s p q e = (refl, cc)
truth_code true true r s p q e = (refl, cc)
truth_code false true r s p q e = let z : ◌≡◌ {A = ℕ} 0 255 = cc in absurd (omega arith)
truth_code true false r s p q e = let z : ◌≡◌ {A = ℕ} 255 0 = cc in absurd (omega arith)

-- a field tells its content
field_tells : (c d : List ℕ) → FieldsTell spelled open_field c open_field d
field_tells c d r s e = spelled_code c d r s e

-- an open field of a type whose spellings face each other
open_facing : {A : Type 0} (P : A → Type 0) (code : A → List Chunk) → IsFacing spelled P code → IsFacing spelled P (λ x. an_open_field (code x))
open_facing P code h =
    sealed_facing spelled P open_field (λ x. flat spelled (code x)) (λ x y p q. field_tells (flat spelled (code x)) (flat spelled (code y)))
    (λ x y p q e. (facing_code spelled P code h x y [] [] p q (ap (λ t. t ++ []) e)).0)

-- the bits in front of a SEQUENCE
abbrev pub front : Bool → Bool → List Demand → List (Option Datum) → List ℕ
front m a ds es = extension_bit m a ++ presence ds es

-- the octets of the preamble tell its bits
preamble_code : (m a b : Bool) (ds : List Demand) (es gs : List (Option Datum)) (r s : List ℕ) → length es ≡ length ds → length gs ≡ length ds
    → filled_bits (front m a ds es) ++ r ≡ filled_bits (front m b ds gs) ++ s → SameFront m a b ds es gs × (filled_bits (front m a ds es) ≡ filled_bits (front m b ds gs))
preamble_code m a b ds es gs r s p q e =
    let us = front m a ds es in
    let ws = front m b ds gs in
    let l : length us ≡ length ws =
    omega (arith, length-append (extension_bit m a) (presence ds es), length-append (extension_bit m b) (presence ds gs), length-extension_bit m a b, length-presence ds es gs p q) in
    let w = filled_up_code us ws r s (front_bits m a ds es) (front_bits m b ds gs) l e in
    (front_code m a b ds es gs [] [] p q (ap (λ t. t ++ []) w.0), ap filled_bits w.0)

-- the number of elements
quantity_code : IsCode (λ n. IsTrue true) (λ n. spelled (least n))
quantity_code m n r s p q e = let w = spelled_code (least m) (least n) r s e in (least_once m n w.0, w.1)

-- ---- alternatives

-- the values of one alternative
chosen_facing : (root : Alternatives) (more : MoreAlternatives) (i : ℕ) → IsFacing spelled (λ d. FitsAlternative root i d) (λ d. oer_alternative root i d)
    → IsFacing spelled (λ d. FitsMoreAlternatives more (i - count root) d) (λ d. oer_more more (i - count root) d)
    → (b : Bool) → IsFacing spelled (λ d. MatchBool b (FitsAlternative root i d) (FitsMoreAlternatives more (i - count root) d))
    (λ d. elim b [ true ↦ oer_alternative root i d | false ↦ oer_more more (i - count root) d ])
chosen_facing root more i hr hm true E x y r s p q next = hr E x y r s p q next
chosen_facing root more i hr hm false E x y r s p q next = hm E x y r s p q next

-- ---- all types

mutual
  -- of every type of the profile
  pub oer_facing : (t : Shape) → Good t → IsFacing spelled (λ d. Fits t d) (λ d. oer t d)
  oer_facing boolean h E (truth a) (truth b) r s p q next = code_facing spelled (λ b. IsTrue true) (λ b. truth_octet b ∷ []) truth_code E a b r s refl refl (λ e. next (ap truth e))
  oer_facing boolean h E (truth a) _ r s p q next = absurd q
  oer_facing boolean h E _ y r s p q next = absurd p
  oer_facing null h E nothing nothing r s p q next = next refl
  oer_facing null h E nothing _ r s p q next = absurd q
  oer_facing null h E _ y r s p q next = absurd p
  oer_facing (integer b) h E (number a) (number c) r s p q next = code_facing spelled (FitsNumber b) (whole_number b) (number_code b) E a c r s p q (λ e. next (ap number e))
  oer_facing (integer b) h E (number a) _ r s p q next = absurd q
  oer_facing (integer b) h E _ y r s p q next = absurd p
  oer_facing (enumerated root more) h E (item a) (item c) r s p q next =
      code_facing spelled (λ i. i < length root + length (more_labels more)) (λ i. item_number (number_at (root ++ more_labels more) i))
      (λ i j r s p q e. (let w = item_code (number_at (root ++ more_labels more) i) (number_at (root ++ more_labels more) j) r s e in (item_once root more (good_items root more h.numbers) i j p q w.0, w.1)))
      E a c r s p q (λ e. next (ap item e))
  oer_facing (enumerated root more) h E (item a) _ r s p q next = absurd q
  oer_facing (enumerated root more) h E _ y r s p q next = absurd p
  oer_facing (bit_string z) h E (bit_list a) (bit_list c) r s p q next =
      code_facing spelled (λ bs. FitsLength z (length bs)) (λ bs. bit_octets z (map bit_of bs)) (bits_code z) E a c r s p q (λ e. next (ap bit_list e))
  oer_facing (bit_string z) h E (bit_list a) _ r s p q next = absurd q
  oer_facing (bit_string z) h E _ y r s p q next = absurd p
  oer_facing (octet_string z) h E (octet_list a) (octet_list c) r s p q next =
      code_facing spelled (λ os. FitsLength z (length os)) (sized_octets z) (sized_code z) E a c r s p.0 q.0 (λ e. next (ap octet_list e))
  oer_facing (octet_string z) h E (octet_list a) _ r s p q next = absurd q
  oer_facing (octet_string z) h E _ y r s p q next = absurd p
  oer_facing (restricted k z) h E (characters a) (characters c) r s p q next =
      code_facing spelled (λ os. FitsLength z (length os)) (sized_octets z) (sized_code z) E a c r s p.0 q.0 (λ e. next (ap characters e))
  oer_facing (restricted k z) h E (characters a) _ r s p q next = absurd q
  oer_facing (restricted k z) h E _ y r s p q next = absurd p
  oer_facing utf8_string h E (unicode a) (unicode c) r s p q next = record { told = (refl, (λ t u e. spelled_code a c t u e), λ e. (next (ap unicode e)).told) }
  oer_facing utf8_string h E (unicode a) _ r s p q next = absurd q
  oer_facing utf8_string h E _ y r s p q next = absurd p
  oer_facing (sequence root more) h E (components a) (components c) r s p q next =
      let n = length (demands root) in
      let es = component_list a in
      let gs = component_list c in
      let us = filled_bits (front (is_marked more) (any_present (drop n es)) (demands root) (take n es)) in
      let ws = filled_bits (front (is_marked more) (any_present (drop n gs)) (demands root) (take n gs)) in
      facing_parts spelled E (ones us ++ oer_each root (take n es)) (oer_additions more (drop n es)) r (ones ws ++ oer_each root (take n gs)) (oer_additions more (drop n gs)) s
      (facing_parts spelled E (ones us) (oer_each root (take n es)) (oer_additions more (drop n es) ++ r) (ones ws) (oer_each root (take n gs)) (oer_additions more (drop n gs) ++ s)
      (plain_facing spelled E (SameFront (is_marked more) (any_present (drop n es)) (any_present (drop n gs)) (demands root) (take n es) (take n gs)) us ws _ _
      (λ t u e. preamble_code (is_marked more) (any_present (drop n es)) (any_present (drop n gs)) (demands root) (take n es) (take n gs) t u (each_length root _ p.0) (each_length root _ q.0) e)
      (λ w. each_facing root (root_good root more h) E (take n es) (take n gs) _ _ p.0 q.0 w.entries
      (λ front. more_facing root more h E (drop n es) (drop n gs) r s p.1 q.1 w.extended
      (λ back. next (same_components a c (sym (take-append-drop n es) ∙ cc (front, back) ∙ take-append-drop n gs)))))))
  oer_facing (sequence root more) h E (components a) _ r s p q next = absurd q
  oer_facing (sequence root more) h E _ y r s p q next = absurd p
  oer_facing (sequence_of t z) h E (elements a) (elements c) r s p q next =
      let xs = element_list a in
      let ys = element_list c in
      facing_parts spelled E (ones (spelled (least (length xs)))) (joined (map (λ e. oer t e) xs)) r (ones (spelled (least (length ys)))) (joined (map (λ e. oer t e) ys)) s
      (code_facing spelled (λ n. IsTrue true) (λ n. spelled (least n)) quantity_code E (length xs) (length ys) _ _ refl refl
      (λ l. joined_facing spelled (λ e. Fits t e) (λ e. oer t e) (λ G u v r' s' p' q' n'. oer_facing t (record { numbers = h.numbers; parts = h.parts }) G u v r' s' p' q' n') E xs ys r s l p.1 q.1
      (λ e. next (same_elements a c e))))
  oer_facing (sequence_of t z) h E (elements a) _ r s p q next = absurd q
  oer_facing (sequence_of t z) h E _ y r s p q next = absurd p
  oer_facing (choice root more) h E (alternative i a) (alternative j c) r s p q next =
      let few = few_alternatives root more h in
      let rest : ℕ → Datum → List Chunk = λ t e. elim (nat_lt t (count root)) [ true ↦ oer_alternative root t e | false ↦ oer_more more (t - count root) e ] in
      facing_parts spelled E (ones (tag i)) (rest i a) r (ones (tag j)) (rest j c) s
      (code_facing spelled (λ t. t < 16384) tag tag_code E i j _ _ (omega (arith, few, tag_below root more i a p)) (omega (arith, few, tag_below root more j c q))
      (λ same. (let q' : MatchBool (nat_lt i (count root)) (FitsAlternative root i c) (FitsMoreAlternatives more (i - count root) c) =
      subst (λ k. MatchBool (nat_lt k (count root)) (FitsAlternative root k c) (FitsMoreAlternatives more (k - count root) c)) (sym same) q in
      subst (λ k. Face E (rest i a ++ r) (rest k c ++ s)) same
      (chosen_facing root more i (alternative_facing root (choice_good root more h) i) (other_facing root more h (i - count root)) (nat_lt i (count root)) E a c r s p q' (λ e. next (cc (same, e)))))))
  oer_facing (choice root more) h E (alternative i a) _ r s p q next = absurd q
  oer_facing (choice root more) h E _ y r s p q next = absurd p

  -- the components that are spelt
  each_facing : (fs : Fields) → GoodFields fs → (E : Type 0) (es gs : List (Option Datum)) (r s : List Chunk) → FitsEach fs es → FitsEach fs gs → presence (demands fs) es ≡ presence (demands fs) gs
      → (es ≡ gs → Face E r s) → Face E (oer_each fs es ++ r) (oer_each fs gs ++ s)
  each_facing no_fields h E [] [] r s p q b next = next refl
  each_facing no_fields h E (x ∷ es) gs r s p q b next = absurd p
  each_facing no_fields h E [] (y ∷ gs) r s p q b next = absurd q
  each_facing (field name demand t fs) h E [] gs r s p q b next = absurd p
  each_facing (field name demand t fs) h E (x ∷ es) [] r s p q b next = absurd q
  each_facing (field name demand t fs) h E (x ∷ es) (y ∷ gs) r s p q b next =
      let bit = presence_first demand (demands fs) x y es gs b in
      facing_parts spelled E (if_spelled demand x (λ d. oer t d)) (oer_each fs es) r (if_spelled demand y (λ d. oer t d)) (oer_each fs gs) s
      (entry_facing spelled (λ d. Fits t d) (λ d. oer t d) (λ G u v r' s' p' q' n'. oer_facing t (first_good name demand t fs h) G u v r' s' p' q' n') E demand x y (oer_each fs es ++ r) (oer_each fs gs ++ s) p.0 q.0 bit.0
      (λ first. each_facing fs (rest_good name demand t fs h) E es gs r s p.1 q.1 bit.1 (λ rest. next (cc (first, rest)))))

  -- the extension additions
  more_facing : (root : Fields) (more : MoreFields) → Good (sequence root more) → (E : Type 0) (es gs : List (Option Datum)) (r s : List Chunk) → FitsMore more es → FitsMore more gs
      → (IsTrue (is_marked more) → any_present es ≡ any_present gs) → (es ≡ gs → Face E r s) → Face E (oer_additions more es ++ r) (oer_additions more gs ++ s)
  more_facing root closed h E [] [] r s p q b next = next refl
  more_facing root closed h E (x ∷ es) gs r s p q b next = absurd p
  more_facing root closed h E [] (y ∷ gs) r s p q b next = absurd q
  more_facing root (marked fs) h E es gs r s p q b next = go (any_present es) (any_present gs) refl refl (opens_facing fs (additions_good root fs h) E es gs r s p q)
    where
      go : (i j : Bool) → any_present es ≡ i → any_present gs ≡ j
          → (presence (demands fs) es ≡ presence (demands fs) gs → (es ≡ gs → Face E r s) → Face E (oer_open fs es ++ r) (oer_open fs gs ++ s))
          → Face E (elim i [ true ↦ ones (variable_bits (presence (demands fs) es)) ++ oer_open fs es | false ↦ [] ] ++ r)
          (elim j [ true ↦ ones (variable_bits (presence (demands fs) gs)) ++ oer_open fs gs | false ↦ [] ] ++ s)
      go true true ei ej opens =
          facing_parts spelled E (ones (variable_bits (presence (demands fs) es))) (oer_open fs es) r (ones (variable_bits (presence (demands fs) gs))) (oer_open fs gs) s
          (code_facing spelled AreBits variable_bits variable_code E (presence (demands fs) es) (presence (demands fs) gs) (oer_open fs es ++ r) (oer_open fs gs ++ s)
          (presence_bits (demands fs) es) (presence_bits (demands fs) gs) (λ w. opens w next))
      go false false ei ej opens = next (none_present es gs (each_length fs es p ∙ sym (each_length fs gs q)) ei ej)
      go true false ei ej opens = absurd (true≢false (sym ei ∙ b refl ∙ ej))
      go false true ei ej opens = absurd (true≢false (sym ej ∙ sym (b refl) ∙ ei))

  -- the open fields of those that are present
  opens_facing : (fs : Fields) → GoodFields fs → (E : Type 0) (es gs : List (Option Datum)) (r s : List Chunk) → FitsEach fs es → FitsEach fs gs → presence (demands fs) es ≡ presence (demands fs) gs
      → (es ≡ gs → Face E r s) → Face E (oer_open fs es ++ r) (oer_open fs gs ++ s)
  opens_facing no_fields h E [] [] r s p q b next = next refl
  opens_facing no_fields h E (x ∷ es) gs r s p q b next = absurd p
  opens_facing no_fields h E [] (y ∷ gs) r s p q b next = absurd q
  opens_facing (field name demand t fs) h E [] gs r s p q b next = absurd p
  opens_facing (field name demand t fs) h E (x ∷ es) [] r s p q b next = absurd q
  opens_facing (field name demand t fs) h E (x ∷ es) (y ∷ gs) r s p q b next =
      let bit = presence_first demand (demands fs) x y es gs b in
      facing_parts spelled E (if_spelled demand x (λ d. an_open_field (oer t d))) (oer_open fs es) r (if_spelled demand y (λ d. an_open_field (oer t d))) (oer_open fs gs) s
      (entry_facing spelled (λ d. Fits t d) (λ d. an_open_field (oer t d)) (open_facing (λ d. Fits t d) (λ d. oer t d) (λ G u v r' s' p' q' n'. oer_facing t (first_good name demand t fs h) G u v r' s' p' q' n'))
      E demand x y (oer_open fs es ++ r) (oer_open fs gs ++ s) p.0 q.0 bit.0
      (λ first. opens_facing fs (rest_good name demand t fs h) E es gs r s p.1 q.1 bit.1 (λ rest. next (cc (first, rest)))))

  -- the values of one alternative of the root
  alternative_facing : (alts : Alternatives) → GoodAlternatives alts → (i : ℕ) → IsFacing spelled (λ d. FitsAlternative alts i d) (λ d. oer_alternative alts i d)
  alternative_facing no_alternatives h i E x y r s p q next = absurd p
  alternative_facing (one_of name t alts) h zero E x y r s p q next = oer_facing t (here_good name t alts h) E x y r s p q next
  alternative_facing (one_of name t alts) h (suc i) E x y r s p q next = alternative_facing alts (later_good name t alts h) i E x y r s p q next

  -- the values of one addition, in an open field
  other_facing : (root : Alternatives) (more : MoreAlternatives) → Good (choice root more) → (i : ℕ) → IsFacing spelled (λ d. FitsMoreAlternatives more i d) (λ d. oer_more more i d)
  other_facing root closed_choice h i E x y r s p q next = absurd p
  other_facing root (marked_choice alts) h i E x y r s p q next =
      open_facing (λ d. FitsAlternative alts i d) (λ d. oer_alternative alts i d) (λ G u v r' s' p' q' n'. alternative_facing alts (choice_additions_good root alts h) i G u v r' s' p' q' n') E x y r s p q next

-- the spellings of each type of the profile face each other
pub oer_faces : SpellingsFace spelled oer
oer_faces t h E x y r s p q next = oer_facing t (good t h) E x y r s p q next
