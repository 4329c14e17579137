-- Where the reader of the number of an item in OER stands.
use Rattle.std.proofs.Common.{◌≡◌, ◌≢◌, ◌+◌, ◌-◌, ◌*◌, ◌<◌, ◌≤◌, ◌^◌, ◌%◌, ℕ, zero, suc, ℤ, pos, negsuc, Bool, true, false, IsFalse, IsTrue, map, List, [], ◌∷◌, ◌++◌, length, length-append, append_assoc, nat_le, nat_lt, refl, sym, ap, subst, ◌∙◌, arith, to_z, of_z, ◌-ℤ◌, ◌≤ℤ◌, ◌&&◌, ◌||◌}
use Rattle.std.proofs.lemmas.Int.{ints}
use mir.Syntax.{w128}
use Rattle.asn_values.specs.Fits.{lowest_integer, highest_integer}
use Rattle.std.proofs.lemmas.Bool.{true≢false, and_parts, ltb-true, ltb-false, lt-ltb, le-leb, leb-true, or_parts, or_from, false_from_ne_true}
use Rattle.std.specs.List.{AllByRecursion, list_all, list_any}
use Rattle.std.specs.Int.RustNames.{int_le, int_lt}
use Rattle.asn_values.specs.Shape.{Label}
use Rattle.asn_values.specs.Profile.{is_not_32_bits, int_eq}
use Rattle.asn_bits.specs.Numbers.{bits, octets, packed, magnitude, signed_octet_count, least_signed}
use Rattle.asn_bits.proofs.Digits.{digits_code}
use Rattle.asn_bits.proofs.Octets.{residue, signed_is, residue_fits, length-least_signed, length-digits, signed_count_below, signed_count_some, signed_fits, all_octets, octet_power, half}
use Rattle.asn_bits.proofs.FilledBits.{length-packed}
use Rattle.asn_bits.proofs.Splits.{unpacked-octets}
use Rattle.asn_rules.specs.Counted.{signed_number}
use Rattle.asn_rules.specs.OctetReading.{AtOctet}
use Rattle.asn_rules.proofs.Numbers.CountedCodes.{residue_of, number_again}
use Rattle.asn_bits.proofs.LengthsInOctets.{one_is}
use Rattle.asn_rules.proofs.Plain.SignedNumbers.{number_neg}
use Rattle.asn_rules.proofs.Octets.Octetwise.{packed_front}
use Rattle.asn_rules.specs.Chunks.{Chunk, ones, flat}
use Rattle.asn_rules.specs.Languages.{Spells, NoSpelling}
use Rattle.asn_rules.proofs.Live.Flat.{flat-ones}
use Rattle.asn_rules.proofs.Languages.Parts.{contents-ones}
use Rattle.asn_rules.proofs.Law.Items.{int_eq_refl}
use Rattle.asn_oer.specs.Oer.{item_number}
use Rattle.asn_oer.specs.Walk.{oer_coding}
use Rattle.asn_oer.proofs.Law.Leaves.{item_code}
use Rattle.asn_newer.specs.Rules.{oer_loose, IsUnknownNumber}
use Rattle.asn_newer.specs.Walking.{UnknownItem}
use Rattle.asn_newer.specs.Halting.{NoBeginning, Halts}
use Rattle.asn_newer.specs.ItemNumbers.{IsItemNumber, NoItemNumber, TellsItemNumber}
use Rattle.asn_newer.specs.declared.halt.Halt.{Halt}
use Rattle.asn_newer.specs.declared.halt.Halt.TheVariants as halt

-- ---- octets

-- k octets are taken
pub octets_taken : (k n : ℕ) (us vs : List ℕ) → us ≡ bits (8 * k) n ++ vs → packed us ≡ octets k n ++ packed vs
octets_taken k n us vs e = ap packed (e ∙ ap (λ (l : List ℕ). l ++ vs) (sym (unpacked-octets k n))) ∙ packed_front (octets k n) vs (all_octets k n)

pub octet_taken : (n : ℕ) (us vs : List ℕ) → n < 2 ^ 8 → us ≡ bits 8 n ++ vs → packed us ≡ n ∷ packed vs
octet_taken n us vs h e = octets_taken 1 n us vs e ∙ ap (λ (l : List ℕ). l ++ packed vs) (one_is n (omega (arith, h)))

-- ---- numbers

abbrev pub is_short : ℤ → Bool
is_short z = int_le (pos 0) z && int_lt z (pos 128)

short_code : (b : ℕ) → b < 128 → item_number (pos b) ≡ b ∷ []
short_code b h =
    let low : nat_le 0 b ≡ true = le-leb 0 b (omega arith) in
    let high = lt-ltb b 128 h in
    rw (low, high, item_number) refl

long_code : (z : ℤ) → is_short z ≡ false → item_number z ≡ (128 + signed_octet_count z) ∷ octets (signed_octet_count z) (residue (signed_octet_count z) z)
long_code z e = rw (e, item_number) (ap (λ (k : ℕ). (128 + k) ∷ least_signed z) (length-least_signed z) ∙ ap (λ (os : List ℕ). (128 + signed_octet_count z) ∷ os) (signed_is (signed_octet_count z) z))

short_is : (z : ℤ) → is_short z ≡ true → (n : ℕ) × (n < 128) × (z ≡ pos n)
short_is (pos n) e = let w = and_parts (int_le (pos 0) (pos n)) (int_lt (pos n) (pos 128)) e in (n, ltb-true n 128 w.1, refl)
short_is (negsuc n) e = absurd (true≢false (sym e))

-- what is at least another is not below it
ltb-not : (m n : ℕ) → n ≤ m → nat_lt m n ≡ false
ltb-not m n h = go (nat_lt m n) refl
  where
    go : (b : Bool) → nat_lt m n ≡ b → b ≡ false
    go true e = absurd (let l = ltb-true m n e in omega (arith, l, h))
    go false e = refl

-- a number of 32 signed bits
narrow_is : (z : ℤ) → IsFalse (is_not_32_bits z) → magnitude z < 2147483648
narrow_is (pos n) h = let w = ltb-false 2147483647 n (or_parts (int_lt (pos n) (negsuc 2147483647)) _ h).1 in omega (arith, w)
narrow_is (negsuc n) h = let w = ltb-false 2147483647 n (or_parts (nat_lt 2147483647 n) _ h).0 in omega (arith, w)

narrow_again : (z : ℤ) → magnitude z < 2147483648 → IsFalse (is_not_32_bits z)
narrow_again (pos n) h = ltb-not 2147483647 n (omega (arith, h))
narrow_again (negsuc n) h = ap (λ (b : Bool). b || false) (ltb-not 2147483647 n (omega (arith, h)))

-- what stands after a first octet from 128 on
pub record LongAt (z : ℤ) (first : ℕ) (after rest : List ℕ) : Type 0 where
  pub long : is_short z ≡ false
  pub count : signed_octet_count z ≡ first - 128
  pub some : 1 ≤ first - 128
  pub few : first - 128 ≤ 4
  pub split : after ≡ octets (first - 128) (residue (first - 128) z) ++ rest

heads : {u v : ℕ} {us vs : List ℕ} → u ∷ us ≡ v ∷ vs → u ≡ v
heads h = cc

tails : {u v : ℕ} {us vs : List ℕ} → u ∷ us ≡ v ∷ vs → us ≡ vs
tails h = cc

long_at : (z : ℤ) (os rest after : List ℕ) (first : ℕ) → IsItemNumber z os rest → os ≡ first ∷ after → 128 ≤ first → LongAt z first after rest
long_at z os rest after first h e l = go (is_short z) refl
  where
    go : (b : Bool) → is_short z ≡ b → LongAt z first after rest
    go true s =
        let n = short_is z s in
        let f : first ∷ after ≡ n.0 ∷ rest = sym e ∙ h.split ∙ ap (λ (y : ℤ). item_number y ++ rest) n.2 ∙ ap (λ (t : List ℕ). t ++ rest) (short_code n.0 n.1) in
        absurd (omega (arith, heads f, n.1, l))
    go false s =
        let k = signed_octet_count z in
        let f : first ∷ after ≡ (128 + k) ∷ (octets k (residue k z) ++ rest) = sym e ∙ h.split ∙ ap (λ (t : List ℕ). t ++ rest) (long_code z s) in
        let c : k ≡ first - 128 = omega (arith, heads f) in
        record {
          long = s;
          count = c;
          some = subst (λ (i : ℕ). 1 ≤ i) c (signed_count_some z);
          few = subst (λ (i : ℕ). i ≤ 4) c (signed_count_below z 4 (omega arith) (omega (arith, narrow_is z h.narrow)));
          split = tails f ∙ ap (λ (i : ℕ). octets i (residue i z) ++ rest) c;
        }

-- ---- where none stands

-- no octet is left
pub none_here : (us : List ℕ) → AtOctet us → length us < 8 → NoItemNumber (packed us)
none_here us at few z rest h = go (is_short z) refl
  where
    empty : length (packed us) ≡ 0
    empty = omega (arith, length-packed us at, few)

    go : (b : Bool) → is_short z ≡ b → ⊥
    go true s =
        let n = short_is z s in
        absurd (omega (arith, empty, ap length (h.split ∙ ap (λ (y : ℤ). item_number y ++ rest) n.2 ∙ ap (λ (t : List ℕ). t ++ rest) (short_code n.0 n.1))))
    go false s = absurd (omega (arith, empty, ap length (h.split ∙ ap (λ (t : List ℕ). t ++ rest) (long_code z s))))

module _ (us vs : List ℕ) (first : ℕ) (fits : first < 2 ^ 8) (e : us ≡ bits 8 first ++ vs) where
  -- a short number
  pub short_read : first < 128 → IsItemNumber (pos first) (packed us) (packed vs)
  short_read h = record { narrow = narrow_again (pos first) (omega (arith, h)); split = octet_taken first us vs fits e ∙ ap (λ (t : List ℕ). t ++ packed vs) (sym (short_code first h)) }

  module _ (large : 128 ≤ first) where
    at_long : (after : List ℕ) (z : ℤ) (rest : List ℕ) → IsItemNumber z (packed us ++ after) rest → LongAt z first (packed vs ++ after) rest
    at_long after z rest h = long_at z (packed us ++ after) rest (packed vs ++ after) first h (ap (λ (t : List ℕ). t ++ after) (octet_taken first us vs fits e)) large

    -- a wrong count of octets
    pub none_of_count : ((1 ≤ first - 128) → (first - 128 ≤ 4) → ⊥) → (after : List ℕ) → NoItemNumber (packed us ++ after)
    none_of_count never after z rest h = let w = at_long after z rest h in never w.some w.few

    -- too few octets are left
    pub none_after : AtOctet vs → length vs < 8 * (first - 128) → NoItemNumber (packed us)
    none_after at few z rest h =
        let w = long_at z (packed us) rest (packed vs) first h (octet_taken first us vs fits e) large in
        absurd (omega (arith, length-packed vs at, few, ap length w.split ∙ length-append (octets (first - 128) (residue (first - 128) z)) rest, length-digits 256 (first - 128) (residue (first - 128) z)))

    module _ (ws : List ℕ) (r : ℕ) (r_fits : r < 2 ^ (8 * (first - 128))) (f : vs ≡ bits (8 * (first - 128)) r ++ ws) where
      r_below : r < 256 ^ (first - 128)
      r_below = omega (arith, r_fits, octet_power (first - 128))

      -- only one number has these octets
      same_number : (after : List ℕ) (z : ℤ) (rest : List ℕ) → IsItemNumber z (packed us ++ after) rest → z ≡ signed_number (first - 128, r)
      same_number after z rest h =
          let w = at_long after z rest h in
          let k = first - 128 in
          let room : magnitude z < 2 ^ (8 * k - 1) = subst (λ (i : ℕ). magnitude z < 2 ^ (8 * i - 1)) w.count (signed_fits z) in
          let d = digits_code 256 (omega arith) k (residue k z) r rest (packed ws ++ after) (residue_fits k z w.some room) r_below (sym w.split ∙ ap (λ (t : List ℕ). t ++ after) (octets_taken k r vs ws f) ∙ append_assoc (octets k r) (packed ws) after) in
          sym (number_again k z w.some room) ∙ ap (λ (n : ℕ). signed_number (k, n)) d.0

      -- a number that has other octets
      pub none_else : ((is_short (signed_number (first - 128, r)) ≡ false) → (signed_octet_count (signed_number (first - 128, r)) ≡ first - 128) → ⊥) → (after : List ℕ) → NoItemNumber (packed us ++ after)
      none_else never after z rest h =
          let w = at_long after z rest h in
          let s = same_number after z rest h in
          never (subst (λ (y : ℤ). is_short y ≡ false) s w.long) (subst (λ (y : ℤ). signed_octet_count y ≡ first - 128) s w.count)

      -- a long number
      pub long_read : (1 ≤ first - 128) → (first - 128 ≤ 4) → (is_short (signed_number (first - 128, r)) ≡ false) → (signed_octet_count (signed_number (first - 128, r)) ≡ first - 128) → IsItemNumber (signed_number (first - 128, r)) (packed us) (packed ws)
      long_read some few long count =
          let k = first - 128 in
          let z = signed_number (k, r) in
          let room : magnitude z < 2 ^ (8 * k - 1) = subst (λ (i : ℕ). magnitude z < 2 ^ (8 * i - 1)) count (signed_fits z) in
          let whole : item_number z ≡ first ∷ octets k r = long_code z long ∙ ap (λ (i : ℕ). (128 + i) ∷ octets i (residue i z)) count ∙ ap (λ (n : ℕ). (128 + k) ∷ octets k n) (residue_of k r some r_below) ∙ ap (λ (n : ℕ). n ∷ octets k r) (omega (arith, large)) in
          record {
            narrow = narrow_again z (below k few room);
            split = octet_taken first us vs fits e ∙ ap (λ (t : List ℕ). first ∷ t) (octets_taken k r vs ws f) ∙ ap (λ (t : List ℕ). t ++ packed ws) (sym whole);
          }
        where
          below : (k : ℕ) {n : ℕ} → k ≤ 4 → n < 2 ^ (8 * k - 1) → n < 2147483648
          below zero few h = omega (arith, h)
          below (suc zero) few h = omega (arith, h)
          below (suc (suc zero)) few h = omega (arith, h)
          below (suc (suc (suc zero))) few h = omega (arith, h)
          below (suc (suc (suc (suc zero)))) few h = omega (arith, h)
          below (suc (suc (suc (suc (suc k))))) few h = absurd (omega (arith, few))

-- ---- as the program counts

two_pow_32 : (k : ℕ) → k ≤ 4 → 2 ^ (8 * k) ≤ 4294967296
two_pow_32 zero few = omega arith
two_pow_32 (suc zero) few = omega arith
two_pow_32 (suc (suc zero)) few = omega arith
two_pow_32 (suc (suc (suc zero))) few = omega arith
two_pow_32 (suc (suc (suc (suc zero)))) few = omega arith
two_pow_32 (suc (suc (suc (suc (suc k))))) few = absurd (omega (arith, few))

number_pos : (c n : ℕ) → n < 2 ^ (8 * c - 1) → signed_number (c, n) ≡ pos n
number_pos c n h = rw (lt-ltb n (2 ^ (8 * c - 1)) h, signed_number) refl

-- four octets at most hold numbers of 32 signed bits
pub number_near : (k r : ℕ) → 1 ≤ k → k ≤ 4 → r < 2 ^ (8 * k) → magnitude (signed_number (k, r)) < 2147483648
number_near k r some few fits = go (nat_lt r (2 ^ (8 * k - 1))) refl
  where
    two : 2 ^ (8 * k) ≡ 2 * 2 ^ (8 * k - 1)
    two = sym (octet_power k) ∙ half k some

    go : (b : Bool) → nat_lt r (2 ^ (8 * k - 1)) ≡ b → magnitude (signed_number (k, r)) < 2147483648
    go true e = (let l = ltb-true r (2 ^ (8 * k - 1)) e in subst (λ (z : ℤ). magnitude z < 2147483648) (sym (number_pos k r l)) (omega (arith, l, two, two_pow_32 k few)))
    go false e = (let l = ltb-false r (2 ^ (8 * k - 1)) e in subst (λ (z : ℤ). magnitude z < 2147483648) (sym (number_neg k r l)) (omega (arith, l, two, fits, octet_power k, two_pow_32 k few)))

pub kept_32 : (z : ℤ) → magnitude z < 2147483648 → to_z w128 (of_z w128 z) ≡ z
kept_32 (pos n) h = omega (arith, ints)
kept_32 (negsuc n) h = omega (arith, ints)

pub low_32 : (z : ℤ) → magnitude z < 2147483648 → lowest_integer ≤ℤ z
low_32 (pos n) h = omega (arith, ints)
low_32 (negsuc n) h = omega (arith, ints)

pub high_32 : (z : ℤ) → magnitude z < 2147483648 → z ≤ℤ highest_integer
high_32 (pos n) h = omega (arith, ints)
high_32 (negsuc n) h = omega (arith, ints)

-- octets after octets
pub octets_after_length : (k n : ℕ) (us vs : List ℕ) → us ≡ bits (8 * k) n ++ vs → AtOctet us → AtOctet vs
octets_after_length k n us vs e at = omega (arith, at, ap length e ∙ length-append (bits (8 * k) n) vs, length-digits 2 (8 * k) n)

-- the weights of the program
whole_is : (k : ℕ) → k ≤ 4 → 1 * 2 ^ (8 * k) % 18446744073709551616 ≡ 2 ^ (8 * k)
whole_is k few = omega (arith, two_pow_32 k few)

half_is : (k : ℕ) → 1 ≤ k → k ≤ 4 → 1 * 2 ^ (8 * k - 1) % 18446744073709551616 ≡ 2 ^ (8 * k - 1)
half_is k some few = omega (arith, two_pow_32 k few, octet_power k, half k some)

-- from zero on
pub from_zero : (k r : ℕ) (x : ℤ) → x ≡ pos r → 1 ≤ k → k ≤ 4 → r < 1 * 2 ^ (8 * k - 1) % 18446744073709551616 → r < 2 ^ (8 * k) → (x ≡ signed_number (k, r)) × (magnitude x < 2147483648)
from_zero k r x e some few small fits =
    let l : r < 2 ^ (8 * k - 1) = omega (arith, small, half_is k some few) in
    let n : x ≡ signed_number (k, r) = e ∙ sym (number_pos k r l) in
    (n, subst (λ (z : ℤ). magnitude z < 2147483648) (sym n) (number_near k r some few fits))

-- below zero
pub below_zero : (k r : ℕ) (x : ℤ) → x ≡ pos (1 * 2 ^ (8 * k) % 18446744073709551616 - 1 - r) → 1 ≤ k → k ≤ 4 → 1 * 2 ^ (8 * k - 1) % 18446744073709551616 ≤ r → r < 2 ^ (8 * k)
    → (to_z w128 (of_z w128 (negsuc 0 -ℤ to_z w128 (of_z w128 x))) ≡ signed_number (k, r)) × (magnitude (to_z w128 (of_z w128 (negsuc 0 -ℤ to_z w128 (of_z w128 x)))) < 2147483648)
below_zero k r x e some few large fits =
    let m = 1 * 2 ^ (8 * k) % 18446744073709551616 - 1 - r in
    let small : m < 4294967296 = omega (arith, two_pow_32 k few, whole_is k few) in
    let same : m ≡ 256 ^ k - 1 - r = omega (arith, octet_power k, whole_is k few) in
    let high : 2 ^ (8 * k - 1) ≤ r = omega (arith, large, half_is k some few) in
    let n : to_z w128 (of_z w128 (negsuc 0 -ℤ to_z w128 (of_z w128 x))) ≡ signed_number (k, r) = ap (λ (y : ℤ). to_z w128 (of_z w128 (negsuc 0 -ℤ to_z w128 (of_z w128 y)))) e ∙ there m small ∙ ap negsuc same ∙ sym (number_neg k r high) in
    (n, subst (λ (z : ℤ). magnitude z < 2147483648) (sym n) (number_near k r some few fits))
  where
    there : (m : ℕ) → m < 4294967296 → to_z w128 (of_z w128 (negsuc 0 -ℤ to_z w128 (of_z w128 (pos m)))) ≡ negsuc m
    there m h = omega (arith, ints)

-- ---- items that the type has not

-- a number is above each
above_each : (z : ℤ) (ls : List Label) → list_all (λ (x : ℤ). int_lt x z) (map (λ (l : Label). l.number) ls) ≡ true → AllByRecursion (λ (l : Label). IsTrue (int_lt l.number z)) ls
above_each z [] h = tt
above_each z (l ∷ ls) h = (let p = and_parts (int_lt l.number z) (list_all (λ (x : ℤ). int_lt x z) (map (λ (l : Label). l.number) ls)) h in (p.0, above_each z ls p.1))

all_above : (z : ℤ) (ls : List Label) → AllByRecursion (λ (l : Label). IsTrue (int_lt l.number z)) ls → list_all (λ (x : ℤ). int_lt x z) (map (λ (l : Label). l.number) ls) ≡ true
all_above z [] h = refl
all_above z (l ∷ ls) h = rw (h.0, all_above z ls h.1) refl

-- none has the number
other_each : (z : ℤ) (ls : List Label) → list_any (int_eq z) (map (λ (l : Label). l.number) ls) ≡ false → AllByRecursion (λ (l : Label). l.number ≢ z) ls
other_each z [] h = tt
other_each z (l ∷ ls) h =
    let p = or_parts (int_eq z l.number) (list_any (int_eq z) (map (λ (k : Label). k.number) ls)) h in
    ((λ e. true≢false (sym (int_eq_refl z) ∙ subst (λ (y : ℤ). int_eq z y ≡ false) e p.0)), other_each z ls p.1)

equal_is : (x y : ℤ) → int_eq x y ≡ true → x ≡ y
equal_is (pos a) (pos b) e = let p = and_parts (nat_le a b) (nat_le b a) e in ap pos (omega (arith, leb-true a b p.0, leb-true b a p.1))
equal_is (pos a) (negsuc b) e = absurd (true≢false (sym e))
equal_is (negsuc a) (pos b) e = absurd (true≢false (sym e))
equal_is (negsuc a) (negsuc b) e = let p = and_parts (nat_le b a) (nat_le a b) e in ap negsuc (omega (arith, leb-true b a p.0, leb-true a b p.1))

no_other : (z : ℤ) (ls : List Label) → AllByRecursion (λ (l : Label). l.number ≢ z) ls → list_any (int_eq z) (map (λ (l : Label). l.number) ls) ≡ false
no_other z [] h = refl
no_other z (l ∷ ls) h =
    or_from (int_eq z l.number) (list_any (int_eq z) (map (λ (k : Label). k.number) ls)) (false_from_ne_true (int_eq z l.number) (λ e. h.0 (sym (equal_is z l.number e)))) (no_other z ls h.1)

module _ (root additions : List Label) where
  -- the number of one
  pub number_read : (z y : ℤ) (us r : List ℕ) → IsItemNumber z us r → y ≡ to_z w128 (of_z w128 z) → list_all (λ (x : ℤ). int_lt x y) (map (λ (l : Label). l.number) additions) ≡ true → list_any (int_eq y) (map (λ (l : Label). l.number) root) ≡ false
      → Spells oer_coding.ruling.fielding (UnknownItem oer_loose root additions) y us r
  unfolding oer_loose
  number_read z y us r h e f g =
      let k : y ≡ z = e ∙ kept_32 z (narrow_is z h.narrow) in
      record {
        chunks = ones (item_number y);
        spelt = record { fits = record { above = above_each y additions f; other = other_each y root g; narrow = subst (λ (x : ℤ). IsFalse (is_not_32_bits x)) (sym k) h.narrow }; same = refl };
        contents = contents-ones oer_coding.ruling.fielding (item_number y);
        split = h.split ∙ ap (λ (x : ℤ). item_number x ++ r) (sym k) ∙ ap (λ (l : List ℕ). l ++ r) (sym (flat-ones oer_coding.ruling.fielding.spelled (item_number y)));
      }

  number_of : (z : ℤ) (us r : List ℕ) → Spells oer_coding.ruling.fielding (UnknownItem oer_loose root additions) z us r → IsItemNumber z us r × IsUnknownNumber root additions z
  unfolding oer_loose
  number_of z us r k = (
    record {
      narrow = k.spelt.fits.narrow;
      split = k.split ∙ ap (λ (cs : List Chunk). flat oer_coding.ruling.fielding.spelled cs ++ r) k.spelt.same ∙ ap (λ (l : List ℕ). l ++ r) (flat-ones oer_coding.ruling.fielding.spelled (item_number z));
    },
    k.spelt.fits,
  )

  -- no number stands there
  no_number : (us : List ℕ) → NoItemNumber us → NoSpelling oer_coding.ruling.fielding (UnknownItem oer_loose root additions) us
  no_number us n = λ z r k. n z r (number_of z us r k).0

  pub number_halts : (us : List ℕ) (why : Halt) → TellsItemNumber us why → Halts oer_coding (UnknownItem oer_loose root additions) us why
  number_halts us halt.Refused n = record { told = λ after. no_number (us ++ after) (n after) }
  number_halts us halt.Short n = record { told = no_number us n }
  number_halts us halt.TooMany n = record { told = λ after. no_number (us ++ after) (n after) }
  number_halts us halt.Memory n = record { told = tt }

  -- that of an item of the type, or one below an addition's
  pub not_unknown : (z x : ℤ) (us r : List ℕ) → IsItemNumber z us r → x ≡ to_z w128 (of_z w128 z) → (list_all (λ (k : ℤ). int_lt k x) (map (λ (l : Label). l.number) additions) ≡ true → list_any (int_eq x) (map (λ (l : Label). l.number) root) ≡ false → ⊥)
      → NoBeginning oer_coding.ruling.fielding (UnknownItem oer_loose root additions) us
  not_unknown z x us r h f never = λ after y s k.
      let n = number_of y (us ++ after) s k in
      let here : us ++ after ≡ item_number z ++ (r ++ after) = ap (λ (t : List ℕ). t ++ after) h.split ∙ append_assoc (item_number z) r after in
      let e : y ≡ x = (item_code y z s (r ++ after) (sym n.0.split ∙ here)).0 ∙ sym (f ∙ kept_32 z (narrow_is z h.narrow)) in
      let unknown : IsUnknownNumber root additions x = subst (IsUnknownNumber root additions) e n.1 in
      never (all_above x additions unknown.above) (no_other x root unknown.other)
