-- Numbers under the count of their octets: the laws, and what readers of the parts say of the whole.
use Rattle.std.proofs.Common.{◌≡◌, ℕ, zero, suc, ◌+◌, ◌*◌, ◌/◌, ◌%◌, ◌^◌, ◌<◌, ◌≤◌, ◌-◌, ℤ, pos, negsuc, Bool, true, false, nat_lt, inl, inr, take, List, [], ◌∷◌, ◌++◌, map, length, length-append, refl, sym, ap, ◌∙◌, subst, arith}
use Rattle.std.proofs.Math.Nat.{pow-zero, pow-succ', one-le-pow, mod-eq_of_lt}
use Rattle.std.proofs.Math.Arith.{mod-mul}
use Rattle.std.proofs.lemmas.Bool.{ltb-true, lt-ltb}
use Rattle.std.proofs.lemmas.List.{append-nil, length-map}
use Rattle.std.proofs.Math.Seq.{take-length}
use Rattle.asn_bits.specs.Numbers.{digits, bits, octets, octet_count, least, magnitude, signed_octet_count, least_signed}
use Rattle.asn_bits.specs.Lengths.{joined, last_length, lengths, with_lengths, general_octets, octet_length}
use Rattle.asn_bits.proofs.Octets.{length-digits, octet_power, octet_count_fits, residue, half, signed_is, signed_fits, residue_fits, signed_count_some}
use Rattle.asn_bits.proofs.GeneralLengths.{lengths_cases}
use Rattle.asn_rules.specs.Chunks.{ones}
use Rattle.asn_rules.specs.Live.{Fielding}
use Rattle.asn_rules.specs.Languages.{Spells, Short, Refused, Lawful, Inhabited, Map, Plain}
use Rattle.asn_bits.specs.Sets.{weighted, IsBits, InDigits}
use Rattle.asn_rules.specs.Forks.{Same}
use Rattle.asn_rules.specs.Spellings.{SpelledBy}
use Rattle.asn_rules.specs.Counted.{SomeOf, Counted, number_of, Least, signed_number, LeastSigned}
use Rattle.asn_rules.proofs.Live.Chunks.{FieldsPart, ones-append}
use Rattle.asn_rules.proofs.Languages.Then.{Follows, then_lawful, then_inhabited, then_spells, then_short_first, then_short_second, then_refused_first, then_refused_second}
use Rattle.asn_rules.proofs.Languages.Parts.{plain_inhabited}
use Rattle.asn_bits.proofs.Weights.{digits-append, weighted-append, bits_are, bits_only, digits_only}
use Rattle.asn_bits.proofs.Unions.{set_spelt}
use Rattle.asn_rules.proofs.Numbers.Sets.{set_lawful}
use Rattle.asn_rules.proofs.Languages.Spellings.{same_after, same_then, same_spelled, same_map as map_same, digits_spelled, then_spelled, map_spelled}

-- h digits of the base are an octet
abbrev pub AreAnOctet : ℕ → ℕ → Type 0
AreAnOctet base h = (k : ℕ) → 256 ^ k ≡ base ^ (h * k)

-- in PER an octet is eight bits
pub eight_bits : AreAnOctet 2 8
eight_bits k = octet_power k

-- in OER it is one unit
pub one_octet : AreAnOctet 256 1
one_octet k = ap (λ (i : ℕ). 256 ^ i) (omega arith)

-- an octet holds the count
count_fits : (base h k : ℕ) → AreAnOctet base h → k < 128 → k < base ^ h
count_fits base h k octet few =
    let e : h * 1 ≡ h = omega arith in
    let one : 256 ^ 1 ≡ base ^ h = octet 1 ∙ ap (λ (i : ℕ). base ^ i) e in
    omega (arith, few, one)

-- ---- laws

-- counted numbers are one or part
pub counted_lawful : (base h : ℕ) (T : ℕ → ℕ → Type 0) → Lawful (Counted base h T)
counted_lawful base h T = then_lawful (set_lawful base h (SomeOf T)) (λ k. set_lawful base (h * k) (T k))

-- after each count some number stands
pub counted_follows : (base h : ℕ) (T : ℕ → ℕ → Type 0) → AreAnOctet base h → Follows (Plain (InDigits base h (SomeOf T))) (λ k. Plain (InDigits base (h * k) (T k)))
counted_follows base h T octet = record { follow = λ k cs s. number k s.spelt.member }
  where
    number : (k : ℕ) → SomeOf T k → Inhabited (Plain (InDigits base (h * k) (T k)))
    number k s = plain_inhabited s.number (digits base (h * k) s.number) (set_spelt base (h * k) s.number s.member (omega (arith, s.fits, octet k)))

-- some number has a count
pub counted_inhabited : {base h : ℕ} {T : ℕ → ℕ → Type 0} → AreAnOctet base h → (k : ℕ) → SomeOf T k → Inhabited (Counted base h T)
counted_inhabited {base} {h} {T} octet k s =
    then_inhabited (plain_inhabited k (digits base h k) (set_spelt base h k s (count_fits base h k octet s.few))) (counted_follows base h T octet)

-- ---- the answers

-- the count is not over
pub counted_short_count : {base h : ℕ} {R : Fielding} {T : ℕ → ℕ → Type 0} {us : List ℕ} → AreAnOctet base h → Short R (Plain (InDigits base h (SomeOf T))) us → Short R (Counted base h T) us
counted_short_count {base} {h} {T = T} octet s = then_short_first (counted_follows base h T octet) s

-- no number has such a count
pub counted_refused_count : {base h : ℕ} {R : Fielding} {T : ℕ → ℕ → Type 0} {us : List ℕ} {n : ℕ} → AreAnOctet base h → Refused R (Plain (InDigits base h (SomeOf T))) us n → Refused R (Counted base h T) us n
counted_refused_count {base} {h} {T = T} octet s = then_refused_first (counted_follows base h T octet) s

-- the octets are not over
pub counted_short_octets : {base h : ℕ} {R : Fielding} {T : ℕ → ℕ → Type 0} {k : ℕ} {us r : List ℕ} → FieldsPart R → Spells R (Plain (InDigits base h (SomeOf T))) k us r → Short R (Plain (InDigits base (h * k) (T k))) r → Short R (Counted base h T) us
counted_short_octets {base} {h} {T = T} ok s g = then_short_second ok (set_lawful base h (SomeOf T)) s g

-- no number goes on so
pub counted_refused_octets : {base h : ℕ} {R : Fielding} {T : ℕ → ℕ → Type 0} {k : ℕ} {us r : List ℕ} {n : ℕ} → FieldsPart R → Spells R (Plain (InDigits base h (SomeOf T))) k us r → Refused R (Plain (InDigits base (h * k) (T k))) r n → Refused R (Counted base h T) us n
counted_refused_octets {base} {h} {T = T} ok s g = then_refused_second ok (set_lawful base h (SomeOf T)) s g

-- the count, and the number
pub counted_spells : {base h : ℕ} {R : Fielding} {T : ℕ → ℕ → Type 0} {k n : ℕ} {us r s : List ℕ} → Spells R (Plain (InDigits base h (SomeOf T))) k us r → Spells R (Plain (InDigits base (h * k) (T k))) n r s → Spells R (Counted base h T) (k, n) us s
counted_spells s g = then_spells s g

-- ---- octets as bits

-- a view that changes no unit
same_map : (us : List ℕ) → map (λ u. u) us ≡ us
same_map [] = refl
same_map (u ∷ us) = ap (λ (t : List ℕ). u ∷ t) (same_map us)

-- the bits of a number's octets are its bits
pub octets_bits : (k n : ℕ) → IsBits (8 * k) (n % 256 ^ k) (joined (map (λ o. map (λ u. u) (bits 8 o)) (octets k n)))
octets_bits zero n = record { digits = tt; count = refl; sum = nothing n ∙ ap (λ (b : ℕ). n % b) (sym (pow-zero 256)) }
  where
    nothing : (n : ℕ) → 0 ≡ n % 1
    nothing n = omega arith
octets_bits (suc k) n = go (octets_bits k n)
  where
    o : ℕ
    o = (n / 256 ^ k) % 256

    rest : List ℕ
    rest = joined (map (λ o. map (λ u. u) (bits 8 o)) (octets k n))

    byte : IsBits 8 o (map (λ u. u) (bits 8 o))
    byte = subst (λ (l : List ℕ). IsBits 8 o l) (sym (same_map (bits 8 o))) (bits_are 8 o (omega arith))

    step : n % 256 ^ suc k ≡ o * 256 ^ k + n % 256 ^ k
    step = ap (λ b. n % b) (pow-succ' 256 k) ∙ mod-mul n (omega arith) (one-le-pow k 256 (omega arith))

    go : IsBits (8 * k) (n % 256 ^ k) rest → IsBits (8 * suc k) (n % 256 ^ suc k) (map (λ u. u) (bits 8 o) ++ rest)
    go again =
        let power : 2 ^ length rest ≡ 256 ^ k = ap (λ (i : ℕ). 2 ^ i) again.count ∙ sym (octet_power k) in
        let first = map (λ u. u) (bits 8 o) in
        let lead : weighted 2 first * 2 ^ length rest ≡ o * 256 ^ k = ap (λ (i : ℕ). i * 2 ^ length rest) byte.sum ∙ ap (λ (i : ℕ). o * i) power in
        record {
          digits = digits-append 2 first rest byte.digits again.digits;
          count = omega (arith, length-append first rest, byte.count, again.count);
          sum = weighted-append 2 first rest ∙ ap (λ (i : ℕ). i + weighted 2 rest) lead ∙ ap (λ (i : ℕ). o * 256 ^ k + i) again.sum ∙ sym step;
        }

-- a count below 128 in 8 bits is a length
short_length : (k : ℕ) → k < 128 → (last_length k).bits ≡ bits 8 k
short_length k h = go (nat_lt k 128) refl (lt-ltb k 128 h)
  where
    go : (b : Bool) → nat_lt k 128 ≡ b → nat_lt k 128 ≡ true → (last_length k).bits ≡ bits 8 k
    go b e f =
        let i = bits_are 7 k (omega (arith, h)) in
        let w : IsBits 8 k (0 ∷ bits 7 k) = record { digits = (omega arith, i.digits); count = ap suc i.count; sum = omega (arith, i.sum) } in
        rw (f, last_length) (bits_only 8 k (0 ∷ bits 7 k) w).1

-- a count below 128 has one length
lengths_short : (k : ℕ) → k < 128 → lengths k ≡ last_length k ∷ []
lengths_short k h = elim (lengths_cases (k / 16384) k (omega arith)) [ inl a ↦ a.1 | inr b ↦ absurd (omega (arith, b.1)) ]

-- a number in few octets, under their general length
pub octets_counted : (k n : ℕ) → k < 128 → n < 2 ^ (8 * k) → general_octets (λ u. u) (octets k n) ≡ bits 8 k ++ bits (8 * k) n
octets_counted k n h w =
    let items = map (λ o. map (λ u. u) (bits 8 o)) (octets k n) in
    let count : length items ≡ k = length-map (octets k n) (λ o. map (λ u. u) (bits 8 o)) ∙ length-digits 256 k n in
    let ls : lengths (length items) ≡ last_length k ∷ [] = ap lengths count ∙ lengths_short k h in
    let all : take k items ≡ items = ap (λ (i : ℕ). take i items) (sym count) ∙ take-length items in
    let power : n < 256 ^ k = omega (arith, w, octet_power k) in
    let is : IsBits (8 * k) n (joined items) = subst (λ (i : ℕ). IsBits (8 * k) i (joined items)) (mod-eq_of_lt power) (octets_bits k n) in
    ap (λ l. with_lengths (λ u. u) l items) ls
    ∙ ap (λ (l : List ℕ). l ++ (joined (take k items) ++ [])) (same_map (last_length k).bits ∙ short_length k h)
    ∙ ap (λ (l : List ℕ). bits 8 k ++ l) (append-nil (joined (take k items)) ∙ ap joined all ∙ (bits_only (8 * k) n (joined items) is).1)

-- a count below 128 in an octet is a length, and the octets follow
units_length : (k n : ℕ) → k < 128 → digits 256 1 k ++ digits 256 (1 * k) n ≡ octet_length k ++ octets k n
units_length k n h = go (nat_lt k 128) refl (lt-ltb k 128 h)
  where
    one : digits 256 1 k ≡ k ∷ []
    one = sym (digits_only 256 1 k (k ∷ []) (record { digits = (omega (arith, h), tt); count = refl; sum = omega arith })).1

    go : (b : Bool) → nat_lt k 128 ≡ b → nat_lt k 128 ≡ true → digits 256 1 k ++ digits 256 (1 * k) n ≡ octet_length k ++ octets k n
    go b e f = rw (f, octet_length) (ap (λ (l : List ℕ). l ++ digits 256 (1 * k) n) one ∙ ap (λ (i : ℕ). (k ∷ []) ++ digits 256 i n) (omega arith))

-- ---- numbers in the fewest octets

-- the digits of a count of octets and of a number in them
abbrev pub counted_units : ℕ → ℕ → ℕ → ℕ → List ℕ
counted_units base h k n = digits base h k ++ digits base (h * k) n

-- counts with their numbers, as they are spelt
counted_pairs : (base h : ℕ) (T : ℕ → ℕ → Type 0) → AreAnOctet base h → ((k n : ℕ) → T k n → n < 256 ^ k) → Same (Counted base h T) (SpelledBy (λ (p : ℕ × ℕ). SomeOf T p.0 × T p.0 p.1) (λ (p : ℕ × ℕ). ones (digits base h p.0) ++ ones (digits base (h * p.0) p.1)))
counted_pairs base h T octet fit = same_after (same_then (digits_spelled base h (SomeOf T) (λ k s. count_fits base h k octet s.few)) (λ k. digits_spelled base (h * k) (T k) (λ n l. omega (arith, fit k n l, octet k)))) then_spelled

-- a number fits the least count of octets that holds it
least_fits : {S : ℕ → Type 0} (k n : ℕ) → Least S k n → n < 256 ^ k
least_fits k n l = subst (λ (i : ℕ). n < 256 ^ i) l.count (octet_count_fits n)

-- numbers in the fewest octets, as they are spelt
pub counted_least : (base h : ℕ) (S : ℕ → Type 0) → AreAnOctet base h → ((n : ℕ) → S n → octet_count n < 128) → Same (Map number_of (Counted base h (Least S))) (SpelledBy S (λ n. ones (counted_units base h (octet_count n) n)))
counted_least base h S octet few = same_after (map_same (counted_pairs base h (Least S) octet least_fits)) (map_spelled there back)
  where
    there : (p : ℕ × ℕ) → SomeOf (Least S) p.0 × Least S p.0 p.1 → S p.1 × (ones (digits base h p.0) ++ ones (digits base (h * p.0) p.1) ≡ ones (counted_units base h (octet_count p.1) p.1))
    there p l = (l.1.member, sym (ones-append (digits base h p.0) (digits base (h * p.0) p.1)) ∙ ap (λ (i : ℕ). ones (counted_units base h i p.1)) (sym l.1.count))

    back : (n : ℕ) → S n → (p : ℕ × ℕ) × (SomeOf (Least S) p.0 × Least S p.0 p.1) × (n ≡ p.1)
    back n s =
        let l : Least S (octet_count n) n = record { member = s; count = refl } in
        ((octet_count n, n), (record { few = few n s; number = n; member = l; fits = octet_count_fits n }, l), refl)

-- in PER, where the count is a general length
pub counted_bits : (S : ℕ → Type 0) → ((n : ℕ) → S n → octet_count n < 128) → Same (Map number_of (Counted 2 8 (Least S))) (SpelledBy S (λ n. ones (general_octets (λ u. u) (least n))))
counted_bits S few = same_after (counted_least 2 8 S eight_bits few) (same_spelled (λ n s. s) (λ n s. s) (λ n s. ap ones (sym (octets_counted (octet_count n) n (few n s) (omega (arith, octet_count_fits n, octet_power (octet_count n)))))))

-- in OER, where it is a length in one octet
pub counted_octets : (S : ℕ → Type 0) → ((n : ℕ) → S n → octet_count n < 128) → Same (Map number_of (Counted 256 1 (Least S))) (SpelledBy S (λ n. ones (octet_length (octet_count n) ++ least n)))
counted_octets S few = same_after (counted_least 256 1 S one_octet few) (same_spelled (λ n s. s) (λ n s. s) (λ n s. ap ones (units_length (octet_count n) n (few n s))))

-- ---- numbers in the fewest octets of two's complement

-- what k octets hold stands for the number whose octets they are
pub residue_of : (k r : ℕ) → 1 ≤ k → r < 256 ^ k → residue k (signed_number (k, r)) ≡ r
residue_of k r h w = go (nat_lt r (2 ^ (8 * k - 1))) refl
  where
    go : (b : Bool) → nat_lt r (2 ^ (8 * k - 1)) ≡ b → residue k (signed_number (k, r)) ≡ r
    go true e = rw (e, signed_number) refl
    go false e =
        let back : 256 ^ k - 1 - (256 ^ k - 1 - r) ≡ r = omega (arith, w) in
        rw (e, signed_number) back

-- a number of two's complement is told by its octets
pub number_again : (k : ℕ) (z : ℤ) → 1 ≤ k → magnitude z < 2 ^ (8 * k - 1) → signed_number (k, residue k z) ≡ z
number_again k (pos n) h f =
    let e : nat_lt n (2 ^ (8 * k - 1)) ≡ true = lt-ltb n (2 ^ (8 * k - 1)) f in
    rw (e, signed_number) refl
number_again k (negsuc n) h f = go (nat_lt r (2 ^ (8 * k - 1))) refl
  where
    r : ℕ
    r = 256 ^ k - 1 - n

    go : (b : Bool) → nat_lt r (2 ^ (8 * k - 1)) ≡ b → signed_number (k, r) ≡ negsuc n
    go true e = absurd (let l = ltb-true r (2 ^ (8 * k - 1)) e in omega (arith, half k h, f, l))
    go false e =
        let same : 256 ^ k - 1 - r ≡ n = omega (arith, half k h, f) in
        rw (e, signed_number) (ap negsuc same)

-- numbers in the fewest octets of two's complement, as they are spelt
pub counted_least_signed : (base h : ℕ) (S : ℤ → Type 0) → AreAnOctet base h → ((z : ℤ) → S z → signed_octet_count z < 128) → Same (Map signed_number (Counted base h (LeastSigned S))) (SpelledBy S (λ z. ones (counted_units base h (signed_octet_count z) (residue (signed_octet_count z) z))))
counted_least_signed base h S octet few = same_after (map_same (counted_pairs base h (LeastSigned S) octet (λ k n l. l.fits))) (map_spelled there back)
  where
    there : (p : ℕ × ℕ) → SomeOf (LeastSigned S) p.0 × LeastSigned S p.0 p.1 → S (signed_number p) × (ones (digits base h p.0) ++ ones (digits base (h * p.0) p.1) ≡ ones (counted_units base h (signed_octet_count (signed_number p)) (residue (signed_octet_count (signed_number p)) (signed_number p))))
    there p l =
        let some : 1 ≤ p.0 = subst (λ (i : ℕ). 1 ≤ i) l.1.count (signed_count_some (signed_number p)) in
        let again : p.1 ≡ residue (signed_octet_count (signed_number p)) (signed_number p) = sym (residue_of p.0 p.1 some l.1.fits) ∙ ap (λ (i : ℕ). residue i (signed_number p)) (sym l.1.count) in (
          l.1.member,
          sym (ones-append (digits base h p.0) (digits base (h * p.0) p.1)) ∙ ap (λ (i : ℕ). ones (counted_units base h p.0 i)) again ∙ ap (λ (i : ℕ). ones (counted_units base h i (residue (signed_octet_count (signed_number p)) (signed_number p)))) (sym l.1.count),
        )

    back : (z : ℤ) → S z → (p : ℕ × ℕ) × (SomeOf (LeastSigned S) p.0 × LeastSigned S p.0 p.1) × (z ≡ signed_number p)
    back z s =
        let k = signed_octet_count z in
        let r = residue k z in
        let again : signed_number (k, r) ≡ z = number_again k z (signed_count_some z) (signed_fits z) in
        let fit = residue_fits k z (signed_count_some z) (signed_fits z) in
        let l : LeastSigned S k r = record { member = subst S (sym again) s; count = ap signed_octet_count again; fits = fit } in
        ((k, r), (record { few = few z s; number = r; member = l; fits = fit }, l), sym again)

-- the octets of the number are those of what stands for it
least_signed_is : (z : ℤ) → least_signed z ≡ octets (signed_octet_count z) (residue (signed_octet_count z) z)
least_signed_is z = signed_is (signed_octet_count z) z

-- in PER
pub counted_signed_bits : (S : ℤ → Type 0) → ((z : ℤ) → S z → signed_octet_count z < 128) → Same (Map signed_number (Counted 2 8 (LeastSigned S))) (SpelledBy S (λ z. ones (general_octets (λ u. u) (least_signed z))))
counted_signed_bits S few = same_after (counted_least_signed 2 8 S eight_bits few) (same_spelled (λ z s. s) (λ z s. s) (λ z s. ap ones (same z s)))
  where
    same : (z : ℤ) → S z → counted_units 2 8 (signed_octet_count z) (residue (signed_octet_count z) z) ≡ general_octets (λ u. u) (least_signed z)
    same z s =
        let k = signed_octet_count z in
        let fit = residue_fits k z (signed_count_some z) (signed_fits z) in
        sym (ap (λ (os : List ℕ). general_octets (λ u. u) os) (least_signed_is z) ∙ octets_counted k (residue k z) (few z s) (omega (arith, fit, octet_power k)))

-- in OER
pub counted_signed_octets : (S : ℤ → Type 0) → ((z : ℤ) → S z → signed_octet_count z < 128) → Same (Map signed_number (Counted 256 1 (LeastSigned S))) (SpelledBy S (λ z. ones (octet_length (signed_octet_count z) ++ least_signed z)))
counted_signed_octets S few = same_after (counted_least_signed 256 1 S one_octet few) (same_spelled (λ z s. s) (λ z s. s) (λ z s. ap ones (same z s)))
  where
    same : (z : ℤ) → S z → counted_units 256 1 (signed_octet_count z) (residue (signed_octet_count z) z) ≡ octet_length (signed_octet_count z) ++ least_signed z
    same z s =
        let k = signed_octet_count z in
        units_length k (residue k z) (few z s) ∙ ap (λ (os : List ℕ). octet_length k ++ os) (sym (least_signed_is z))
