-- The spellings of each type in PER face each other: from this follow that the bits tell the value, and that
-- two spellings are one or part.
use Rattle.std.proofs.Common.{◌≡◌, ◌≤◌, ◌<◌, ◌+◌, ℕ, zero, suc, Bool, true, false, List, [], ◌∷◌, ◌++◌, length, take, drop, Option, refl, sym, ◌∙◌, ap, arith, append_assoc, IsTrue, IsUtf8}
use Rattle.std.specs.Bool.{⊤}
use Rattle.std.proofs.lemmas.Bool.{true≢false, or_parts}
use Rattle.std.proofs.lemmas.List.{take-append-drop, append_cancel_left}
use Rattle.std.specs.List.{AllByRecursion}
use Rattle.asn_values.specs.Datum.{Datum, truth, nothing, number, item, bit_list, octet_list, characters, unicode, components, elements, alternative, component_list, element_list}
use Rattle.asn_values.specs.Shape.{Shape, boolean, null, integer, enumerated, bit_string, octet_string, restricted, utf8_string, sequence, sequence_of, choice, more_labels, Demand, Fields, no_fields, field, MoreFields, closed, marked, is_marked, demands, Alternatives, no_alternatives, one_of, MoreAlternatives, closed_choice, marked_choice}
use Rattle.asn_values.specs.Fits.{Fits, FitsEach, FitsMore, FitsAlternative, FitsMoreAlternatives, FitsNumber, is_of_kind, max_len}
use Rattle.asn_values.specs.Profile.{BadEnumeration, bad_enumeration, somewhere, some_field, some_addition, some_alternative, some_more}
use Rattle.asn_bits.specs.Numbers.{bits}
use Rattle.asn_bits.proofs.Digits.{digits_code}
use Rattle.asn_bits.proofs.FilledBits.{AreBits}
use Rattle.asn_bits.proofs.Octets.{octets_code}
use Rattle.asn_bits.proofs.Utf8.{utf8_octets}
use Rattle.asn_rules.specs.Chunks.{open_field, utf8_field, Chunk, one, sealed, ones, flat}
use Rattle.asn_rules.specs.Components.{bit_of, presence, if_spelled, any_present, extension_bit}
use Rattle.asn_rules.proofs.Law.Entries.{same_elements, same_components, each_length, none_present, bit_of_same, presence_code, presence_first, SameFront, front_code, entry_facing}
use Rattle.asn_rules.proofs.Law.Facing.{Facing, IsFacing, facing_parts, plain_facing, code_facing, sealed_facing}
use Rattle.asn_rules.proofs.Law.FromFacing.{SpellingsFace, facing_code}
use Rattle.asn_rules.proofs.Law.Items.{good_items}
use Rattle.asn_per.specs.Per.{spelled, complete, whole_number, enumeration, character_bits, an_open_field, small_length, per, per_each, per_open, per_additions, per_alternative, per_more}
use Rattle.asn_per.proofs.Law.Choices.{choice_facing}
use Rattle.asn_per.proofs.Law.Characters.{character_code}
use Rattle.asn_per.proofs.Encodings.Complete.{complete_code, complete_octets}
use Rattle.asn_per.proofs.Law.Enumerations.{enumeration_code}
use Rattle.asn_per.proofs.Law.Lists.{sized_facing}
use Rattle.asn_per.proofs.Encodings.Spelt.{per_spelt, alternative_spelt}
use Rattle.asn_per.proofs.Law.Numbers.{number_code}

-- ---- bits, octets and open fields

-- one bit
bit_facing : IsFacing spelled (λ b. ⊤) (λ b. one (bit_of b) ∷ [])
bit_facing E a b xs ys p q next = record { told = λ e. (next (bit_of_same a b e)).told }

-- an octet in 8 bits
octet_facing : IsFacing spelled (λ o. o < 256) (λ o. ones (bits 8 o))
octet_facing = code_facing spelled (λ o. o < 256) (λ o. bits 8 o) (λ a b r s p q e. digits_code 2 (omega arith) 8 a b r s p q e)

-- of truth values nothing is asked
all_bits : (bs : List Bool) → AllByRecursion (λ b. ⊤) bs
all_bits [] = tt
all_bits (b ∷ bs) = (tt, all_bits bs)

-- a UTF8String, as a sealed field
utf8_facing : IsFacing spelled (λ os. (length os ≤ max_len) × IsUtf8 os) (λ os. sealed utf8_field os ∷ [])
utf8_facing =
    sealed_facing spelled (λ os. (length os ≤ max_len) × IsUtf8 os) utf8_field (λ os. os)
    (λ x y p q r s e. octets_code x y r s (utf8_octets x p.1) (utf8_octets y q.1) e) (λ x y p q e. e)

-- open fields of facing spellings
open_facing : (P : Datum → Type 0) (code : Datum → List Chunk) → ((x : Datum) → P x → AreBits (flat spelled (code x))) → IsFacing spelled P code → IsFacing spelled P (λ x. an_open_field (code x))
open_facing P code b h =
    sealed_facing spelled P open_field (λ x. complete (code x))
    (λ x y p q r s e. octets_code (complete (code x)) (complete (code y)) r s (complete_octets (code x) (b x p)) (complete_octets (code y) (b y q)) e)
    (λ x y p q e. (complete_code P code b (facing_code spelled P code h) x y [] [] p q (ap (λ t. t ++ []) e)).0)

-- the number of additions and their presence bits
additions_code : (n : List ℕ) (ds : List Demand) (es gs : List (Option Datum)) (r s : List ℕ) → length es ≡ length ds → length gs ≡ length ds
    → (n ++ presence ds es) ++ r ≡ (n ++ presence ds gs) ++ s → (presence ds es ≡ presence ds gs) × (n ++ presence ds es ≡ n ++ presence ds gs)
additions_code n ds es gs r s p q e =
    let v = presence_code ds es gs r s p q (append_cancel_left n _ _ (sym (append_assoc n (presence ds es) r) ∙ e ∙ append_assoc n (presence ds gs) s)) in
    (v.0, ap (λ t. n ++ t) v.0)

-- ---- all types

-- in no ENUMERATED inside the type are the numbers at fault
abbrev GoodNumbers : Shape → Type 0
GoodNumbers t = somewhere bad_enumeration t ≡ false

mutual
  -- the values of a type in which no ENUMERATED is at fault
  pub per_facing : (t : Shape) → GoodNumbers t → (E : Type 0) (x y : Datum) (r s : List Chunk) → Fits t x → Fits t y → (x ≡ y → Facing spelled E r s) → Facing spelled E (per t x ++ r) (per t y ++ s)
  per_facing boolean h E (truth a) (truth b) r s p q next = bit_facing E a b r s tt tt (λ e. next (ap truth e))
  per_facing boolean h E (truth a) _ r s p q next = absurd q
  per_facing boolean h E _ y r s p q next = absurd p
  per_facing null h E nothing nothing r s p q next = next refl
  per_facing null h E nothing _ r s p q next = absurd q
  per_facing null h E _ y r s p q next = absurd p
  per_facing (integer b) h E (number a) (number c) r s p q next = code_facing spelled (FitsNumber b) (whole_number b) (number_code b) E a c r s p q (λ e. next (ap number e))
  per_facing (integer b) h E (number a) _ r s p q next = absurd q
  per_facing (integer b) h E _ y r s p q next = absurd p
  per_facing (enumerated root more) h E (item a) (item c) r s p q next =
      code_facing spelled (λ i. i < length root + length (more_labels more)) (enumeration root more) (enumeration_code root more (good_items root more h).root_once) E a c r s p q (λ e. next (ap item e))
  per_facing (enumerated root more) h E (item a) _ r s p q next = absurd q
  per_facing (enumerated root more) h E _ y r s p q next = absurd p
  per_facing (bit_string z) h E (bit_list a) (bit_list c) r s p q next =
      sized_facing (λ b. ⊤) (λ b. one (bit_of b) ∷ []) bit_facing z E a c r s (p, all_bits a) (q, all_bits c) (λ e. next (ap bit_list e))
  per_facing (bit_string z) h E (bit_list a) _ r s p q next = absurd q
  per_facing (bit_string z) h E _ y r s p q next = absurd p
  per_facing (octet_string z) h E (octet_list a) (octet_list c) r s p q next =
      sized_facing (λ o. o < 256) (λ o. ones (bits 8 o)) octet_facing z E a c r s p q (λ e. next (ap octet_list e))
  per_facing (octet_string z) h E (octet_list a) _ r s p q next = absurd q
  per_facing (octet_string z) h E _ y r s p q next = absurd p
  per_facing (restricted k z) h E (characters a) (characters c) r s p q next =
      sized_facing (λ c. IsTrue (is_of_kind k c)) (λ c. ones (character_bits k c)) (code_facing spelled (λ c. IsTrue (is_of_kind k c)) (character_bits k) (character_code k)) z E a c r s p q (λ e. next (ap characters e))
  per_facing (restricted k z) h E (characters a) _ r s p q next = absurd q
  per_facing (restricted k z) h E _ y r s p q next = absurd p
  per_facing utf8_string h E (unicode a) (unicode c) r s p q next = utf8_facing E a c r s p q (λ e. next (ap unicode e))
  per_facing utf8_string h E (unicode a) _ r s p q next = absurd q
  per_facing utf8_string h E _ y r s p q next = absurd p
  per_facing (sequence root more) h E (components a) (components c) r s p q next =
      let n = length (demands root) in
      let es = component_list a in
      let gs = component_list c in
      let good = or_parts (some_field bad_enumeration root) (some_addition bad_enumeration more) h in
      let us = extension_bit (is_marked more) (any_present (drop n es)) ++ presence (demands root) (take n es) in
      let ws = extension_bit (is_marked more) (any_present (drop n gs)) ++ presence (demands root) (take n gs) in
      facing_parts spelled E (ones us ++ per_each root (take n es)) (per_additions more (drop n es)) r (ones ws ++ per_each root (take n gs)) (per_additions more (drop n gs)) s
      (facing_parts spelled E (ones us) (per_each root (take n es)) (per_additions more (drop n es) ++ r) (ones ws) (per_each root (take n gs)) (per_additions more (drop n gs) ++ s)
      (plain_facing spelled E (SameFront (is_marked more) (any_present (drop n es)) (any_present (drop n gs)) (demands root) (take n es) (take n gs)) us ws _ _
      (λ t u e. (let w = front_code (is_marked more) (any_present (drop n es)) (any_present (drop n gs)) (demands root) (take n es) (take n gs) t u (each_length root _ p.0) (each_length root _ q.0) e in (w, w.bits)))
      (λ w. each_facing root good.0 E (take n es) (take n gs) (per_additions more (drop n es) ++ r) (per_additions more (drop n gs) ++ s) p.0 q.0 w.entries
      (λ front. more_facing more good.1 E (drop n es) (drop n gs) r s p.1 q.1 w.extended
      (λ back. next (same_components a c (sym (take-append-drop n es) ∙ cc (front, back) ∙ take-append-drop n gs)))))))
  per_facing (sequence root more) h E (components a) _ r s p q next = absurd q
  per_facing (sequence root more) h E _ y r s p q next = absurd p
  per_facing (sequence_of t z) h E (elements a) (elements c) r s p q next =
      sized_facing (λ d. Fits t d) (λ d. per t d) (λ E u v r' s' p' q' n'. per_facing t h E u v r' s' p' q' n') z E (element_list a) (element_list c) r s p q (λ e. next (same_elements a c e))
  per_facing (sequence_of t z) h E (elements a) _ r s p q next = absurd q
  per_facing (sequence_of t z) h E _ y r s p q next = absurd p
  per_facing (choice root more) h E (alternative i a) (alternative j c) r s p q next =
      let good = or_parts (some_alternative bad_enumeration root) (some_more bad_enumeration more) h in
      choice_facing E root more (λ E i u v r' s' p' q' n'. alternative_facing root good.0 E i u v r' s' p' q' n') (λ E i u v r' s' p' q' n'. other_facing more good.1 E i u v r' s' p' q' n') i j a c r s p q (λ e f. next (cc (e, f)))
  per_facing (choice root more) h E (alternative i a) _ r s p q next = absurd q
  per_facing (choice root more) h E _ y r s p q next = absurd p

  -- components that agree in their presence bits
  each_facing : (fs : Fields) → some_field bad_enumeration fs ≡ false → (E : Type 0) (es gs : List (Option Datum)) (r s : List Chunk) → FitsEach fs es → FitsEach fs gs → presence (demands fs) es ≡ presence (demands fs) gs
      → (es ≡ gs → Facing spelled E r s) → Facing spelled E (per_each fs es ++ r) (per_each fs gs ++ s)
  each_facing no_fields h E [] [] r s p q b next = next refl
  each_facing no_fields h E (x ∷ es) gs r s p q b next = absurd p
  each_facing no_fields h E [] (y ∷ gs) r s p q b next = absurd q
  each_facing (field name demand t fs) h E [] gs r s p q b next = absurd p
  each_facing (field name demand t fs) h E (x ∷ es) [] r s p q b next = absurd q
  each_facing (field name demand t fs) h E (x ∷ es) (y ∷ gs) r s p q b next =
      let good = or_parts (somewhere bad_enumeration t) (some_field bad_enumeration fs) h in
      let bit = presence_first demand (demands fs) x y es gs b in
      facing_parts spelled E (if_spelled demand x (λ d. per t d)) (per_each fs es) r (if_spelled demand y (λ d. per t d)) (per_each fs gs) s
      (entry_facing spelled (λ d. Fits t d) (λ d. per t d) (λ E u v r' s' p' q' n'. per_facing t good.0 E u v r' s' p' q' n') E demand x y (per_each fs es ++ r) (per_each fs gs ++ s) p.0 q.0 bit.0
      (λ first. each_facing fs good.1 E es gs r s p.1 q.1 bit.1 (λ rest. next (cc (first, rest)))))

  -- additions that agree in the extension bit
  more_facing : (more : MoreFields) → some_addition bad_enumeration more ≡ false → (E : Type 0) (es gs : List (Option Datum)) (r s : List Chunk) → FitsMore more es → FitsMore more gs → (IsTrue (is_marked more) → any_present es ≡ any_present gs)
      → (es ≡ gs → Facing spelled E r s) → Facing spelled E (per_additions more es ++ r) (per_additions more gs ++ s)
  more_facing closed h E [] [] r s p q b next = next refl
  more_facing closed h E (x ∷ es) gs r s p q b next = absurd p
  more_facing closed h E [] (y ∷ gs) r s p q b next = absurd q
  more_facing (marked fs) h E es gs r s p q b next = go (any_present es) (any_present gs) refl refl (open_each_facing fs h E es gs r s p q)
    where
      n : List ℕ
      n = small_length (length (demands fs))

      go : (i j : Bool) → any_present es ≡ i → any_present gs ≡ j
          → (presence (demands fs) es ≡ presence (demands fs) gs → (es ≡ gs → Facing spelled E r s) → Facing spelled E (per_open fs es ++ r) (per_open fs gs ++ s))
          → Facing spelled E (elim i [ true ↦ ones (n ++ presence (demands fs) es) ++ per_open fs es | false ↦ [] ] ++ r) (elim j [ true ↦ ones (n ++ presence (demands fs) gs) ++ per_open fs gs | false ↦ [] ] ++ s)
      go true true ei ej opens =
          facing_parts spelled E (ones (n ++ presence (demands fs) es)) (per_open fs es) r (ones (n ++ presence (demands fs) gs)) (per_open fs gs) s
          (plain_facing spelled E (presence (demands fs) es ≡ presence (demands fs) gs) (n ++ presence (demands fs) es) (n ++ presence (demands fs) gs) (per_open fs es ++ r) (per_open fs gs ++ s)
          (λ t u e. additions_code n (demands fs) es gs t u (each_length fs es p) (each_length fs gs q) e)
          (λ w. opens w next))
      go false false ei ej opens = next (none_present es gs (each_length fs es p ∙ sym (each_length fs gs q)) ei ej)
      go true false ei ej opens = absurd (true≢false (sym ei ∙ b refl ∙ ej))
      go false true ei ej opens = absurd (true≢false (sym ej ∙ sym (b refl) ∙ ei))

  -- the open fields of additions that agree in their presence bits
  open_each_facing : (fs : Fields) → some_field bad_enumeration fs ≡ false → (E : Type 0) (es gs : List (Option Datum)) (r s : List Chunk) → FitsEach fs es → FitsEach fs gs → presence (demands fs) es ≡ presence (demands fs) gs
      → (es ≡ gs → Facing spelled E r s) → Facing spelled E (per_open fs es ++ r) (per_open fs gs ++ s)
  open_each_facing no_fields h E [] [] r s p q b next = next refl
  open_each_facing no_fields h E (x ∷ es) gs r s p q b next = absurd p
  open_each_facing no_fields h E [] (y ∷ gs) r s p q b next = absurd q
  open_each_facing (field name demand t fs) h E [] gs r s p q b next = absurd p
  open_each_facing (field name demand t fs) h E (x ∷ es) [] r s p q b next = absurd q
  open_each_facing (field name demand t fs) h E (x ∷ es) (y ∷ gs) r s p q b next =
      let good = or_parts (somewhere bad_enumeration t) (some_field bad_enumeration fs) h in
      let bit = presence_first demand (demands fs) x y es gs b in
      facing_parts spelled E (if_spelled demand x (λ d. an_open_field (per t d))) (per_open fs es) r (if_spelled demand y (λ d. an_open_field (per t d))) (per_open fs gs) s
      (entry_facing spelled (λ d. Fits t d) (λ d. an_open_field (per t d)) (open_facing (λ d. Fits t d) (λ d. per t d) (λ d p. (per_spelt t d p).bits) (λ E u v r' s' p' q' n'. per_facing t good.0 E u v r' s' p' q' n')) E demand x y (per_open fs es ++ r) (per_open fs gs ++ s) p.0 q.0 bit.0
      (λ first. open_each_facing fs good.1 E es gs r s p.1 q.1 bit.1 (λ rest. next (cc (first, rest)))))

  -- the values of one alternative
  alternative_facing : (alts : Alternatives) → some_alternative bad_enumeration alts ≡ false → (E : Type 0) (t : ℕ) (x y : Datum) (r s : List Chunk) → FitsAlternative alts t x → FitsAlternative alts t y
      → (x ≡ y → Facing spelled E r s) → Facing spelled E (per_alternative alts t x ++ r) (per_alternative alts t y ++ s)
  alternative_facing no_alternatives h E t x y r s p q next = absurd p
  alternative_facing (one_of name shape alts) h E zero x y r s p q next = per_facing shape (or_parts (somewhere bad_enumeration shape) (some_alternative bad_enumeration alts) h).0 E x y r s p q next
  alternative_facing (one_of name shape alts) h E (suc t) x y r s p q next = alternative_facing alts (or_parts (somewhere bad_enumeration shape) (some_alternative bad_enumeration alts) h).1 E t x y r s p q next

  -- the values of one addition of a CHOICE, as open fields
  other_facing : (more : MoreAlternatives) → some_more bad_enumeration more ≡ false → (E : Type 0) (t : ℕ) (x y : Datum) (r s : List Chunk) → FitsMoreAlternatives more t x → FitsMoreAlternatives more t y
      → (x ≡ y → Facing spelled E r s) → Facing spelled E (per_more more t x ++ r) (per_more more t y ++ s)
  other_facing closed_choice h E t x y r s p q next = absurd p
  other_facing (marked_choice alts) h E t x y r s p q next =
      open_facing (λ d. FitsAlternative alts t d) (λ d. per_alternative alts t d) (λ d p. (alternative_spelt alts t d p).bits) (λ E u v r' s' p' q' n'. alternative_facing alts h E t u v r' s' p' q' n') E x y r s p q next

-- of each type of the profile
pub spellings_face : SpellingsFace spelled per
spellings_face t h E v w r s p q next = per_facing t (h BadEnumeration) E v w r s p q next
