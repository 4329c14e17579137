-- Rows of octets, read many at once: in front of what follows them, or too few.
use Rattle.std.proofs.Common.{◌≡◌, ℕ, zero, suc, ◌+◌, ◌-◌, ◌*◌, ◌<◌, List, [], ◌∷◌, ◌++◌, map, length, take, drop, length-append, length-drop, refl, sym, ap, ◌∙◌, subst, arith}
use Rattle.std.specs.Prelude.{replicate}
use Rattle.std.proofs.lemmas.List.{length-take-le, length-replicate, take-append-drop}
use Rattle.std.specs.List.{AllByRecursion}
use Rattle.asn_bits.specs.Numbers.{bits, unpacked}
use Rattle.asn_bits.specs.Lengths.{joined}
use Rattle.asn_rules.specs.Chunks.{Chunk, ones}
use Rattle.asn_rules.specs.Live.{Fielding}
use Rattle.asn_rules.specs.Languages.{Spells, Short, Row}
use Rattle.asn_bits.specs.Sets.{AreBits, AreDigits, weighted, IsBits}
use Rattle.asn_rules.specs.Forks.{Same}
use Rattle.asn_rules.specs.Fields.{Octet, OneOctet}
use Rattle.asn_rules.specs.Spellings.{SpelledBy}
use Rattle.asn_rules.proofs.Live.Chunks.{FieldsPart, ones-append}
use Rattle.asn_rules.proofs.Live.Lists.{no_length}
use Rattle.asn_rules.proofs.Languages.Rows.{row_lawful}
use Rattle.asn_bits.proofs.Weights.{digits-append, digits-first, digits-second, bits_only}
use Rattle.asn_rules.proofs.Languages.Spellings.{same_after, same_row, same_spelled, row_spelled, units_front, units_short}
use Rattle.asn_rules.proofs.Sealed.Fields.{octet_lawful, octet_spelled}
use Rattle.asn_rules.proofs.Numbers.OctetLengths.{one_octet_lawful, octets_itself}

-- ---- octets as units

-- this many octets stand in front
pub octets_front : (R : Fielding) (n : ℕ) (c r : List ℕ) → length c ≡ n → AllByRecursion (λ o. o < 256) c → Spells R (Row OneOctet n) c (c ++ r) r
octets_front R n c r l p = units_front (λ c. c) R (octets_itself n) c (l, p) r

-- zeros are octets
zero_octets : (n : ℕ) → AreDigits 256 (replicate n 0)
zero_octets zero = tt
zero_octets (suc n) = (omega arith, zero_octets n)

-- there are too few
pub octets_few : {R : Fielding} → FieldsPart R → (n : ℕ) (us : List ℕ) → AllByRecursion (λ o. o < 256) us → length us < n → Short R (Row OneOctet n) us
octets_few ok n us p l =
    let m = n - length us - 1 in
    let count : length (us ++ 0 ∷ replicate m 0) ≡ n = length-append us (0 ∷ replicate m 0) ∙ ap (λ (i : ℕ). length us + suc i) (length-replicate {A = ℕ} m 0) ∙ omega arith in
    units_short (λ c. c) ok (row_lawful one_octet_lawful n) (octets_itself n) (us ++ 0 ∷ replicate m 0) (count, digits-append 256 us (0 ∷ replicate m 0) p (omega arith, zero_octets m)) us 0 (replicate m 0) refl

-- ---- octets as bits

-- octets one after the other
joined_bits : (c : List ℕ) → joined (map (λ o. ones (bits 8 o)) c) ≡ ones (unpacked c)
joined_bits [] = refl
joined_bits (o ∷ c) = ap (λ (l : List Chunk). ones (bits 8 o) ++ l) (joined_bits c) ∙ sym (ones-append (bits 8 o) (unpacked c))

-- n octets in a row are spelt by their bits
pub octets_unpacked : (n : ℕ) → Same (Row Octet n) (SpelledBy (λ c. (length c ≡ n) × AllByRecursion (λ o. o < 256) c) (λ c. ones (unpacked c)))
octets_unpacked n = same_after (same_row octet_spelled n) (same_after (row_spelled n) (same_spelled (λ c h. h) (λ c h. h) (λ c h. joined_bits c)))

-- the bits of this many octets stand in front
pub octet_bits_front : (R : Fielding) (n : ℕ) (c r : List ℕ) → length c ≡ n → AllByRecursion (λ o. o < 256) c → Spells R (Row Octet n) c (unpacked c ++ r) r
octet_bits_front R n c r l p = units_front unpacked R (octets_unpacked n) c (l, p) r

-- bits that fill octets, as octets
pub record Packs (us : List ℕ) (k : ℕ) : Type 0 where
  pub octets : List ℕ
  pub are : AllByRecursion (λ o. o < 256) octets
  pub same : unpacked octets ≡ us
  pub count : length octets ≡ k

-- bits that fill octets are those of some
pub packs : (k : ℕ) (us : List ℕ) → AreBits us → length us ≡ 8 * k → Packs us k
packs zero us b l = record { octets = []; are = tt; same = sym (no_length us (omega (arith, l))); count = refl }
packs (suc k) us b l =
    let e = take-append-drop 8 us in
    let all : AreBits (take 8 us ++ drop 8 us) = subst AreBits (sym e) b in
    let front = digits-first 2 (take 8 us) (drop 8 us) all in
    let n : length (take 8 us) ≡ 8 = length-take-le 8 us (omega (arith, l)) in
    let again = packs k (drop 8 us) (digits-second 2 (take 8 us) (drop 8 us) all) (length-drop 8 us ∙ omega (arith, l)) in
    let is : IsBits 8 (weighted 2 (take 8 us)) (take 8 us) = record { digits = front; count = n; sum = refl } in
    let w = bits_only 8 (weighted 2 (take 8 us)) (take 8 us) is in
    record {
      octets = weighted 2 (take 8 us) ∷ again.octets;
      are = (omega (arith, w.0), again.are);
      same = ap (λ (l : List ℕ). l ++ unpacked again.octets) (sym w.1) ∙ ap (λ (l : List ℕ). take 8 us ++ l) again.same ∙ e;
      count = ap suc again.count;
    }

-- zeros are bits
zero_bits : (n : ℕ) → AreBits (replicate n 0)
zero_bits zero = tt
zero_bits (suc n) = (omega arith, zero_bits n)

-- there are too few bits for this many octets
pub octet_bits_few : {R : Fielding} → FieldsPart R → (n : ℕ) (us : List ℕ) → AreBits us → length us < 8 * n → Short R (Row Octet n) us
octet_bits_few {R} ok n us p l = go (packs n whole bits_whole count)
  where
    m : ℕ
    m = 8 * n - length us - 1

    whole : List ℕ
    whole = us ++ 0 ∷ replicate m 0

    bits_whole : AreBits whole
    bits_whole = digits-append 2 us (0 ∷ replicate m 0) p (omega arith, zero_bits m)

    count : length whole ≡ 8 * n
    count = length-append us (0 ∷ replicate m 0) ∙ ap (λ (i : ℕ). length us + suc i) (length-replicate {A = ℕ} m 0) ∙ omega arith

    go : Packs whole n → Short R (Row Octet n) us
    go k = units_short unpacked ok (row_lawful octet_lawful n) (octets_unpacked n) k.octets (k.count, k.are) us 0 (replicate m 0) (sym k.same)
