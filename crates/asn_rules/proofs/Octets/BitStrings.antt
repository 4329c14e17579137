-- Bits as octets of which the last ends in zeros, and those after a length and the number of unused bits, as they are
-- spelt and as they are read.
use Rattle.std.proofs.Common.{◌≡◌, ◌≤◌, ◌<◌, ◌+◌, ◌-◌, ◌*◌, ◌/◌, ◌%◌, ◌^◌, ℕ, zero, suc, Bool, true, false, List, [], ◌∷◌, ◌++◌, map, length, take, drop, length-append, length-drop, refl, sym, ap, ◌∙◌, subst, arith, append_assoc, None, min}
use Rattle.std.specs.Prelude.{replicate}
use Rattle.std.proofs.lemmas.List.{append-nil, length-map, take-append-drop, length-take-le, length-replicate}
use Rattle.std.proofs.lemmas.Nat.{pow_pos}
use Rattle.std.proofs.Math.Nat.{mul-mod_left}
use Rattle.std.proofs.Math.Seq.{take-append_seam}
use Rattle.std.specs.List.{AllByRecursion}
use Rattle.asn_values.specs.Fits.{max_len}
use Rattle.asn_bits.specs.Numbers.{digits, bits, octet_count, padding, packed, unpacked}
use Rattle.asn_bits.specs.Lengths.{octet_length}
use Rattle.asn_bits.proofs.FilledBits.{unpacked-packed, length-packed, length-padding, bits_append, padding_bits}
use Rattle.asn_bits.proofs.Octets.{length-digits, packed_octets, octet_count_below}
use Rattle.asn_bits.proofs.Packing.{bits_zero}
use Rattle.asn_bits.proofs.Splits.{digits-add, digits-mod, unpacked-append, length-unpacked}
use Rattle.asn_rules.specs.Chunks.{one, ones, Chunk}
use Rattle.asn_rules.specs.Components.{bit_of}
use Rattle.asn_rules.specs.Languages.{Then, Row, Plain, Inhabited, Map, Spells}
use Rattle.asn_bits.specs.Sets.{AreBits, weighted, IsBits, InDigits, Between}
use Rattle.asn_rules.specs.Forks.{Same}
use Rattle.asn_rules.specs.Fields.{OneOctet, OctetLength, octet_fields}
use Rattle.asn_rules.specs.Spellings.{SpelledBy}
use Rattle.asn_rules.proofs.Live.Chunks.{ones-append}
use Rattle.asn_bits.proofs.Weights.{digits-append, digits-first, digits-second, weighted-append, bits_are, bits_only, are_digits}
use Rattle.asn_bits.proofs.LengthsInOctets.{one_is}
use Rattle.asn_rules.proofs.Numbers.OctetLengths.{octets_itself, length_spelled, length_lawful, one_octet_lawful}
use Rattle.asn_rules.proofs.Languages.Spellings.{same_after, same_then, same_map, same_spelled, digits_spelled, map_spelled, then_spelled, spelled_inhabited}
use Rattle.asn_rules.specs.Filled.{filled_bits}
use Rattle.asn_rules.proofs.Octets.Octetwise.{packed_again, packed_front}
use Rattle.asn_bits.proofs.Unions.{set_meets}
use Rattle.asn_rules.specs.NumberSets.{Admits}
use Rattle.asn_rules.specs.declared.number_reader.NumberSet.{NumberSet}
use Rattle.asn_rules.proofs.Languages.Forks.{same_flip, same_inhabited}
use Rattle.asn_rules.proofs.Languages.Leads.{LeadsStops, Leads, leads_on, leads_map, leads_same, leads_second, stops_first, stops_on}
use Rattle.asn_rules.proofs.Languages.Rows.{row_lawful}
use Rattle.asn_rules.proofs.Numbers.Sets.{set_inhabited, set_lawful}
use Rattle.asn_rules.proofs.Languages.Then.{Follows, then_inhabited}
use Rattle.asn_rules.specs.OctetReading.{FilledFields, OctetsIn}
use Rattle.asn_rules.proofs.Octets.OctetFields.{octet_fields_part}
use Rattle.asn_rules.specs.OctetStrings.{EndOctet, is_one, bits_told, PackedBits, BitsLength, UnusedBits, last_told, VariableBits}
use Rattle.asn_rules.proofs.Octets.Characters.{items_themselves}
use Rattle.asn_rules.proofs.Law.Entries.{bit_of_is}

-- truth values are bits
pub list_bits : (bs : List Bool) → AreBits (map bit_of bs)
list_bits [] = tt
list_bits (b ∷ bs) = (bit_of_is b, list_bits bs)

-- ---- bits and truth values

-- the bits of truth values give them back
pub truths_again : (bs : List Bool) → map is_one (map bit_of bs) ≡ bs
truths_again [] = refl
truths_again (true ∷ bs) = ap (λ (l : List Bool). true ∷ l) (truths_again bs)
truths_again (false ∷ bs) = ap (λ (l : List Bool). false ∷ l) (truths_again bs)

-- truth values of bits give the bits back
pub bits_again : (us : List ℕ) → AreBits us → map bit_of (map is_one us) ≡ us
bits_again [] h = refl
bits_again (zero ∷ us) h = ap (λ (l : List ℕ). 0 ∷ l) (bits_again us h.1)
bits_again (suc zero ∷ us) h = ap (λ (l : List ℕ). 1 ∷ l) (bits_again us h.1)
bits_again (suc (suc u) ∷ us) h = absurd (omega (arith, h.0))

-- the bits of octets are bits
pub unpacked_bits : (os : List ℕ) → AreBits (unpacked os)
unpacked_bits [] = tt
unpacked_bits (o ∷ os) = digits-append 2 (bits 8 o) (unpacked os) (are_digits 2 8 o (omega arith)) (unpacked_bits os)

-- ---- the last octet

-- an octet that ends in as many zeros as r bits leave
abbrev IsEnd : ℕ → ℕ → Type 0
IsEnd r o = (o < 256) × (o % 2 ^ (8 - r) ≡ 0)

-- the last octet is spelt by itself
end_itself : (r : ℕ) → Same (EndOctet r) (SpelledBy (IsEnd r) (λ o. one o ∷ []))
end_itself r = same_after (digits_spelled 256 1 (IsEnd r) (λ o h. omega (arith, h.0))) (same_spelled (λ o h. h) (λ o h. h) (λ o h. ap ones (one_is o h.0)))

-- its bits are r and zeros
end_bits : (r u o : ℕ) → r + u ≡ 8 → o % 2 ^ u ≡ 0 → bits 8 o ≡ bits r (o / 2 ^ u) ++ replicate u 0
end_bits r u o e z =
    ap (λ (k : ℕ). bits k o) (sym e) ∙ digits-add 2 r u o
    ∙ ap (λ (l : List ℕ). bits r (o / 2 ^ u) ++ l) (sym (digits-mod 2 (omega arith) u o) ∙ ap (bits u) z ∙ bits_zero u)

-- an octet whose bits end in zeros is a multiple
zeros_end : (o u : ℕ) (us : List ℕ) → o < 256 → bits 8 o ≡ us ++ replicate u 0 → o % 2 ^ u ≡ 0
zeros_end o u us h e =
    let b = bits_are 8 o (omega arith) in
    let z : IsBits u 0 (bits u 0) = bits_are u 0 (pow_pos u) in
    let zero_sum : weighted 2 (replicate u 0) ≡ 0 = ap (λ (l : List ℕ). weighted 2 l) (sym (bits_zero u)) ∙ z.sum in
    let zero_count : length {A = ℕ} (replicate u 0) ≡ u = ap (λ (l : List ℕ). length l) (sym (bits_zero u)) ∙ z.count in
    let is : o ≡ weighted 2 us * 2 ^ u =
    sym b.sum ∙ ap (weighted 2) e ∙ weighted-append 2 us (replicate u 0) ∙ ap (λ (i : ℕ). weighted 2 us * 2 ^ length {A = ℕ} (replicate u 0) + i) zero_sum ∙ ap (λ (i : ℕ). weighted 2 us * 2 ^ i + 0) zero_count ∙ omega arith in
    ap (λ (i : ℕ). i % 2 ^ u) is ∙ mul-mod_left (weighted 2 us) (2 ^ u)

-- ---- this many bits

-- the octets have these bits, and zeros after them
record Unpacks (n : ℕ) (os us : List ℕ) : Type 0 where
  are : AreBits us
  count : length us ≡ n
  whole : unpacked os ≡ us ++ padding n
  octets : AllByRecursion (λ o. o < 256) os

-- the octets that n bits fill, and one for those that are left
abbrev Parts : ℕ → List ℕ × List ℕ → Type 0
Parts n p = ((length p.0 ≡ n / 8) × AllByRecursion (λ o. o < 256) p.0) × ((length p.1 ≡ (n % 8 + 7) / 8) × AllByRecursion (IsEnd (n % 8)) p.1)

-- these octets are spelt by themselves
parts_spelled : (n : ℕ) → Same (Then (Row OneOctet (n / 8)) (λ _. Row (EndOctet (n % 8)) ((n % 8 + 7) / 8))) (SpelledBy (Parts n) (λ p. ones p.0 ++ ones p.1))
parts_spelled n = same_after (same_then (octets_itself (n / 8)) (λ _. items_themselves (end_itself (n % 8)) ((n % 8 + 7) / 8))) then_spelled

-- such octets have n bits, and zeros after them
parts_unpack : (n : ℕ) (os ls : List ℕ) → length os ≡ n / 8 → AllByRecursion (λ o. o < 256) os → length ls ≡ (n % 8 + 7) / 8 → AllByRecursion (IsEnd (n % 8)) ls → (us : List ℕ) × Unpacks n (os ++ ls) us
parts_unpack n os [] l p m q =
    let none : (8 - n % 8) % 8 ≡ 0 = omega arith in
    let pad : padding n ≡ [] = ap (λ (i : ℕ). replicate i 0) none in
    let all : os ++ [] ≡ os = append-nil os in (
      unpacked os,
      record {
        are = unpacked_bits os;
        count = length-unpacked os ∙ omega arith;
        whole = ap unpacked all ∙ sym (append-nil (unpacked os)) ∙ ap (λ (z : List ℕ). unpacked os ++ z) (sym pad);
        octets = subst (AllByRecursion (λ o. o < 256)) (sym all) p;
      },
    )
parts_unpack n os (o ∷ []) l p m q =
    let r = n % 8 in
    let u = 8 - r in
    let few : (8 - n % 8) % 8 ≡ u = omega arith in
    let pad : padding n ≡ replicate u 0 = ap (λ (i : ℕ). replicate i 0) few in
    let b = bits r (o / 2 ^ u) in
    let last : bits 8 o ≡ b ++ replicate u 0 = end_bits r u o (omega arith) q.0.1 in
    let i = are_digits 2 r (o / 2 ^ u) (omega arith) in (
      unpacked os ++ b,
      record {
        are = digits-append 2 (unpacked os) b (unpacked_bits os) i;
        count = length-append (unpacked os) b ∙ omega (arith, length-unpacked os, length-digits 2 r (o / 2 ^ u), l);
        whole =
            unpacked-append os (o ∷ []) ∙ ap (λ (z : List ℕ). unpacked os ++ z) (append-nil (bits 8 o) ∙ last ∙ ap (λ (z : List ℕ). b ++ z) (sym pad))
            ∙ sym (append_assoc (unpacked os) b (padding n));
        octets = digits-append 256 os (o ∷ []) p (q.0.0, tt);
      },
    )
parts_unpack n os (o ∷ x ∷ ls) l p m q = absurd (omega arith)

-- the first bits of the octets are those
first_bits : (n : ℕ) (os us : List ℕ) → Unpacks n os us → take n (unpacked os) ≡ us
first_bits n os us w = ap (take n) w.whole ∙ ap (λ (i : ℕ). take i (us ++ padding n)) (sym w.count) ∙ take-append_seam us (padding n)

-- and filled up they are the octets
filled_again : (n : ℕ) (os us : List ℕ) → Unpacks n os us → filled_bits us ≡ os
filled_again n os us w = ap (λ (i : ℕ). packed (us ++ padding i)) w.count ∙ ap packed (sym w.whole) ∙ packed_again os w.octets

-- the last octet of bits that were filled up ends in zeros
ends : (n : ℕ) (e ls : List ℕ) → length ls ≡ (n % 8 + 7) / 8 → AllByRecursion (λ o. o < 256) ls → unpacked ls ≡ e ++ padding n → AllByRecursion (IsEnd (n % 8)) ls
ends n e [] l p u = tt
ends n e (o ∷ []) l p u =
    let few : (8 - n % 8) % 8 ≡ 8 - n % 8 = omega arith in
    let pad : padding n ≡ replicate (8 - n % 8) 0 = ap (λ (i : ℕ). replicate i 0) few in
    ((p.0, zeros_end o (8 - n % 8) e p.0 (sym (append-nil (bits 8 o)) ∙ u ∙ ap (λ (z : List ℕ). e ++ z) pad)), tt)
ends n e (o ∷ x ∷ ls) l p u = absurd (omega arith)

-- bits of the count have such octets
unpack_parts : (n : ℕ) (us : List ℕ) → AreBits us → length us ≡ n → (p : List ℕ × List ℕ) × Parts n p × Unpacks n (p.0 ++ p.1) us
unpack_parts n us b l =
    let k = 8 * (n / 8) in
    let f = take k us in
    let e = drop k us in
    let whole : f ++ e ≡ us = take-append-drop k us in
    let all : AreBits (f ++ e) = subst AreBits (sym whole) b in
    let bf = digits-first 2 f e all in
    let be = digits-second 2 f e all in
    let lf : length f ≡ k = length-take-le k us (omega arith) in
    let le : length e ≡ n - k = length-drop k us ∙ ap (λ (i : ℕ). i - k) l in
    let mf : length f % 8 ≡ 0 = omega arith in
    let g = e ++ padding n in
    let lg : length g ≡ n - k + (8 - n % 8) % 8 = length-append e (padding n) ∙ omega (arith, le, length-padding n) in
    let mg : length g % 8 ≡ 0 = omega arith in
    let bg = bits_append e (padding n) be (padding_bits n) in
    let os = packed f in
    let ls = packed g in
    let uo : unpacked os ≡ f = unpacked-packed f bf mf in
    let ul : unpacked ls ≡ g = unpacked-packed g bg mg in
    let po = packed_octets f bf in
    let pl = packed_octets g bg in
    let lo : length os ≡ n / 8 = omega (arith, length-packed f mf) in
    let ll : length ls ≡ (n % 8 + 7) / 8 = omega (arith, length-packed g mg) in (
      (os, ls),
      ((lo, po), (ll, ends n e ls ll pl ul)),
      record {
        are = b;
        count = l;
        whole =
            unpacked-append os ls ∙ ap (λ (z : List ℕ). z ++ unpacked ls) uo ∙ ap (λ (z : List ℕ). f ++ z) ul ∙ sym (append_assoc f e (padding n))
            ∙ ap (λ (z : List ℕ). z ++ padding n) whole;
        octets = digits-append 256 os ls po pl;
      },
    )

-- n bits in octets
pub packed_language : (n : ℕ) → Same (PackedBits n) (SpelledBy (λ bs. length bs ≡ n) (λ bs. ones (filled_bits (map bit_of bs))))
packed_language n = same_after (same_map (parts_spelled n)) (map_spelled there back)
  where
    there : (p : List ℕ × List ℕ) → Parts n p → (length (bits_told n p) ≡ n) × (ones p.0 ++ ones p.1 ≡ ones (filled_bits (map bit_of (bits_told n p))))
    there p h =
        let w = parts_unpack n p.0 p.1 h.0.0 h.0.1 h.1.0 h.1.1 in
        let us = w.0 in
        let told : bits_told n p ≡ map is_one us = ap (map is_one) (first_bits n (p.0 ++ p.1) us w.1) in
        let same : map bit_of (bits_told n p) ≡ us = ap (map bit_of) told ∙ bits_again us w.1.are in
        (ap length told ∙ length-map us is_one ∙ w.1.count, sym (ones-append p.0 p.1) ∙ ap ones (sym (filled_again n (p.0 ++ p.1) us w.1)) ∙ ap (λ (l : List ℕ). ones (filled_bits l)) (sym same))

    back : (bs : List Bool) → length bs ≡ n → (p : List ℕ × List ℕ) × Parts n p × (bs ≡ bits_told n p)
    back bs l =
        let us = map bit_of bs in
        let w = unpack_parts n us (list_bits bs) (length-map bs bit_of ∙ l) in
        (w.0, w.1, sym (truths_again bs) ∙ ap (map is_one) (sym (first_bits n (w.0.0 ++ w.0.1) us w.2)))

-- ---- bits of a count that is told

-- a length of some set, unused bits of some set, and the bits
pub three_parts : (A : ℕ → Type 0) (B : ℕ → ℕ → Type 0) → ((l : ℕ) → A l → octet_count l < 128) → ((l u : ℕ) → B l u → u < 256)
    → Same (Then (OctetLength A) (λ l. Then (Plain (InDigits 256 1 (B l))) (λ u. PackedBits (8 * (l - 1) - u))))
    (SpelledBy (λ p. A p.0 × (B p.0 p.1.0 × (length p.1.1 ≡ 8 * (p.0 - 1) - p.1.0))) (λ p. ones (octet_length p.0) ++ (ones (digits 256 1 p.1.0) ++ ones (filled_bits (map bit_of p.1.1)))))
three_parts A B short byte =
    same_after (same_then (length_spelled A short) (λ l. same_after (same_then (digits_spelled 256 1 (B l) (byte l)) (λ u. packed_language (8 * (l - 1) - u))) then_spelled)) then_spelled

-- such a length has few octets
pub short : (S : ℕ → Type 0) → ((n : ℕ) → S n → n ≤ 268435455) → (l : ℕ) → BitsLength S l → octet_count l < 128
short S few l h =
    let n = few h.count h.member in
    let c : octet_count l ≤ 4 = octet_count_below l 4 (omega arith) (omega (arith, h.same)) in
    omega arith

-- ---- n bits and the zeros after them

module _ (n : ℕ) where
  -- the octets that the bits fill
  abbrev Octets : List ℕ → List Chunk → Type 0
  Octets = Row OneOctet (n / 8)

  -- an octet of those that are left, where some are
  abbrev Rest : ℕ × ℕ → List Chunk → Type 0
  Rest = FilledFields 0 0 (n % 8) 0

  -- the bits of both
  abbrev pub read_bits : List ℕ × (ℕ × ℕ) → List ℕ
  read_bits p = unpacked p.0 ++ bits (n % 8) p.1.1

  abbrev told : List ℕ × (ℕ × ℕ) → List Bool
  told p = map is_one (read_bits p)

  same_padding : (k : ℕ) → k ≡ n % 8 → padding k ≡ padding n
  same_padding k e = ap (λ (i : ℕ). replicate i 0) (omega (arith, e))

  packed_read : Same (Map told (Then Octets (λ _. Rest))) (PackedBits n)
  packed_read = same_after (same_map (same_after (same_then (octets_itself (n / 8)) (λ _. record { to = λ v cs h. h; from = λ v cs h. h })) then_spelled)) (same_after (map_spelled there back) (same_flip (packed_language n)))
    where
      there : (p : List ℕ × (ℕ × ℕ)) → ((length p.0 ≡ n / 8) × AllByRecursion (λ o. o < 256) p.0) × ((p.1.0 ≤ 0) × (0 ≤ p.1.1) × (p.1.1 < 2 ^ (n % 8)))
          → (length (told p) ≡ n) × (ones p.0 ++ ones (filled_bits (bits 0 p.1.0 ++ bits (n % 8) p.1.1)) ≡ ones (filled_bits (map bit_of (told p))))
      there p h =
          let os = p.0 in
          let b = bits (n % 8) p.1.1 in
          let us = read_bits p in
          let are : AreBits us = digits-append 2 (unpacked os) b (unpacked_bits os) (are_digits 2 (n % 8) p.1.1 (omega arith)) in
          let lb : length b ≡ n % 8 = length-digits 2 (n % 8) p.1.1 in
          let count : length us ≡ n = length-append (unpacked os) b ∙ omega (arith, length-unpacked os, lb, h.0.0) in
          let again : map bit_of (told p) ≡ us = bits_again us are in
          let one : filled_bits us ≡ packed (us ++ padding n) = ap (λ (i : ℕ). packed (us ++ padding i)) count in
          let two : packed (us ++ padding n) ≡ os ++ packed (b ++ padding n) = ap packed (append_assoc (unpacked os) b (padding n)) ∙ packed_front os (b ++ padding n) h.0.1 in
          let three : packed (b ++ padding n) ≡ filled_bits b = ap (λ (l : List ℕ). packed (b ++ l)) (sym (same_padding (length b) lb)) in
          let all : filled_bits us ≡ os ++ filled_bits b = one ∙ two ∙ ap (λ (l : List ℕ). os ++ l) three in
          (length-map us is_one ∙ count, sym (ones-append os (filled_bits b)) ∙ ap ones (sym all) ∙ ap (λ (l : List ℕ). ones (filled_bits l)) (sym again))

      back : (bs : List Bool) → length bs ≡ n → (p : List ℕ × (ℕ × ℕ)) × (((length p.0 ≡ n / 8) × AllByRecursion (λ o. o < 256) p.0) × ((p.1.0 ≤ 0) × (0 ≤ p.1.1) × (p.1.1 < 2 ^ (n % 8)))) × (bs ≡ told p)
      back bs l =
          let us = map bit_of bs in
          let k = 8 * (n / 8) in
          let f = take k us in
          let g = drop k us in
          let whole : f ++ g ≡ us = take-append-drop k us in
          let count : length us ≡ n = length-map bs bit_of ∙ l in
          let all : AreBits (f ++ g) = subst AreBits (sym whole) (list_bits bs) in
          let bf = digits-first 2 f g all in
          let bg = digits-second 2 f g all in
          let lf : length f ≡ k = length-take-le k us (omega (arith, count)) in
          let lg : length g ≡ n % 8 = length-drop k us ∙ omega (arith, count) in
          let mf : length f % 8 ≡ 0 = omega (arith, lf) in
          let w = bits_only (n % 8) (weighted 2 g) g (record { digits = bg; count = lg; sum = refl }) in
          let parts : unpacked (packed f) ++ bits (n % 8) (weighted 2 g) ≡ us = ap (λ (t : List ℕ). t ++ bits (n % 8) (weighted 2 g)) (unpacked-packed f bf mf) ∙ ap (λ (t : List ℕ). f ++ t) (sym w.1) ∙ whole in (
            (packed f, (0, weighted 2 g)),
            ((omega (arith, length-packed f mf, lf), packed_octets f bf), (omega arith, omega arith, w.0)),
            sym (truths_again bs) ∙ ap (map is_one) (sym parts),
          )

  rest_follows : Follows Octets (λ _. Rest)
  rest_follows = record { follow = λ os x h. spelled_inhabited (0, 0) (omega arith, omega arith, pow_pos (n % 8)) }

  whole_bits : (us : List ℕ) → Leads octet_fields (Then Octets (λ _. Rest)) us told (PackedBits n) us
  whole_bits us = leads_on (leads_map octet_fields told (Then Octets (λ _. Rest)) us) (leads_same octet_fields us packed_read)

  pub stops_at_octets : (us : List ℕ) → LeadsStops octet_fields Octets us (PackedBits n) us
  stops_at_octets us = stops_on (stops_first octet_fields us rest_follows) (whole_bits us).stops

  pub rest_leads : (os us r : List ℕ) → Spells octet_fields Octets os us r → Leads octet_fields Rest r (λ p. told (os, p)) (PackedBits n) us
  rest_leads os us r h = leads_on (leads_second {M = λ _. Rest} octet_fields_part (row_lawful one_octet_lawful (n / 8)) h) (whole_bits us)

  -- the truth values that have these bits
  pub bits_done : (os : List ℕ) (e x : ℕ) (us r s : List ℕ) (bs : List Bool) → Spells octet_fields Octets os us r → Spells octet_fields Rest (e, x) r s → map bit_of bs ≡ unpacked os ++ bits (n % 8) x → Spells octet_fields (PackedBits n) bs us s
  bits_done os e x us r s bs h g same =
      let is : told (os, (e, x)) ≡ bs = ap (map is_one) (sym same) ∙ truths_again bs in
      subst (λ (v : List Bool). Spells octet_fields (PackedBits n) v us s) is ((rest_leads os us r h).done (e, x) s g)

-- ---- after a length and the number of unused bits

module _ (low high : ℕ) (ordered : low ≤ high) (few : high ≤ max_len) where
  abbrev fewest : ℕ
  fewest = 1 + (low + 7) / 8

  abbrev most : ℕ
  most = 1 + (high + 7) / 8

  -- how many bits may be unused
  abbrev pub unused_in : ℕ → NumberSet
  unused_in l = record { low = 8 * (l - 1) - high; high = min (8 * (l - 1) - low) 7; excluded = None }

  abbrev Lengths : ℕ → List Chunk → Type 0
  Lengths = OctetLength (Between fewest most)

  abbrev Bits : ℕ → ℕ → List Bool → List Chunk → Type 0
  Bits l u = PackedBits (8 * (l - 1) - u)

  abbrev UnusedAndBits : ℕ → ℕ × List Bool → List Chunk → Type 0
  UnusedAndBits l = Then (OctetsIn 1 (unused_in l)) (λ u. Bits l u)

  length_short : (l : ℕ) → Between fewest most l → octet_count l < 128
  length_short l h =
      let c : octet_count l ≤ 4 = octet_count_below l 4 (omega arith) (omega (arith, h.1, few)) in
      omega arith

  -- the number of unused bits of a length
  pub some_unused : (l : ℕ) → Between fewest most l → Admits (unused_in l) (8 * (l - 1) - high) × (8 * (l - 1) - high < 256)
  some_unused l h = ((omega arith, omega (arith, h.0, h.1, ordered), tt), omega (arith, h.1))

  abbrev Told : ℕ × (ℕ × List Bool) → Type 0
  Told p = Between fewest most p.0 × (Admits (unused_in p.0) p.1.0 × (length p.1.1 ≡ 8 * (p.0 - 1) - p.1.0))

  abbrev Tells : ℕ × (ℕ × List Bool) → Type 0
  Tells p = BitsLength (Between low high) p.0 × (UnusedBits (Between low high) p.0 p.1.0 × (length p.1.1 ≡ 8 * (p.0 - 1) - p.1.0))

  to_tells : (p : ℕ × (ℕ × List Bool)) → Told p → Tells p
  to_tells p h =
      let l = p.0 in
      let a = h.0.0 in
      let b = h.0.1 in
      let c = h.1.0.0 in
      let d = h.1.0.1 in (
        record { count = min (8 * (l - 1)) high; member = (omega (arith, a, ordered), omega arith); same = omega (arith, a, b) },
        (record { few = omega (arith, d); left = omega (arith, d); member = (omega (arith, a, d), omega (arith, c)) }, h.1.1),
      )

  from_tells : (p : ℕ × (ℕ × List Bool)) → Tells p → Told p
  from_tells p h =
      let n = h.0.count in
      let s = h.0.same in
      let a = h.0.member.0 in
      let b = h.0.member.1 in
      let f = h.1.0.few in
      let g = h.1.0.left in
      let c = h.1.0.member.0 in
      let d = h.1.0.member.1 in (
        (omega (arith, s, a), omega (arith, s, b)),
        ((omega (arith, d, g), omega (arith, c, f, g), tt), h.1.1),
      )

  variable_read : Same (Map last_told (Then Lengths UnusedAndBits)) (VariableBits (Between low high))
  variable_read =
      same_map
      (same_after (three_parts (Between fewest most) (λ l u. Admits (unused_in l) u) length_short (λ l u h. omega (arith, h.1))) (same_after (same_spelled to_tells from_tells (λ p h. refl)) (same_flip (three_parts (BitsLength (Between low high)) (UnusedBits (Between low high)) (short (Between low high) (λ n h. omega (arith, h.1, few))) (λ l u h. omega (arith, h.few))))))

  some_bits : (n : ℕ) → Inhabited (PackedBits n)
  some_bits n = same_inhabited (same_flip (packed_language n)) (spelled_inhabited (replicate n false) (length-replicate n false))

  bits_follow : (l : ℕ) → Follows (OctetsIn 1 (unused_in l)) (λ u. Bits l u)
  bits_follow l = record { follow = λ u x h. some_bits (8 * (l - 1) - u) }

  unused_follow : Follows Lengths UnusedAndBits
  unused_follow = record {
    follow = λ l x h.
        let w = some_unused l (((length_spelled (Between fewest most) length_short).to l x h).fits) in
        then_inhabited (set_inhabited (set_meets 256 1 (8 * (l - 1) - high) w.0 (omega (arith, w.1)))) (bits_follow l);
  }

  whole_variable : (us : List ℕ) → Leads octet_fields (Then Lengths UnusedAndBits) us last_told (VariableBits (Between low high)) us
  whole_variable us = leads_on (leads_map octet_fields last_told (Then Lengths UnusedAndBits) us) (leads_same octet_fields us variable_read)

  pub stops_at_length : (us : List ℕ) → LeadsStops octet_fields Lengths us (VariableBits (Between low high)) us
  stops_at_length us = stops_on (stops_first octet_fields us unused_follow) (whole_variable us).stops

  after_length : (l : ℕ) (us r : List ℕ) → Spells octet_fields Lengths l us r → Leads octet_fields (UnusedAndBits l) r (λ p. p.1) (VariableBits (Between low high)) us
  after_length l us r h = leads_on (leads_second {M = UnusedAndBits} octet_fields_part (length_lawful (Between fewest most)) h) (whole_variable us)

  pub stops_at_unused : (l : ℕ) (us r : List ℕ) → Spells octet_fields Lengths l us r → LeadsStops octet_fields (OctetsIn 1 (unused_in l)) r (VariableBits (Between low high)) us
  stops_at_unused l us r h = stops_on (stops_first octet_fields r (bits_follow l)) (after_length l us r h).stops

  pub bits_lead : (l u : ℕ) (us r s : List ℕ) → Spells octet_fields Lengths l us r → Spells octet_fields (OctetsIn 1 (unused_in l)) u r s → Leads octet_fields (Bits l u) s (λ bs. bs) (VariableBits (Between low high)) us
  bits_lead l u us r s h g = leads_on (leads_second {M = λ v. Bits l v} octet_fields_part (set_lawful 256 1 (λ n. Admits (unused_in l) n)) g) (after_length l us r h)
