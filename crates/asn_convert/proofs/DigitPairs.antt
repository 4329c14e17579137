-- Hexadecimal digits, two an octet.
use Rattle.std.proofs.Common.{◌≡◌, ◌≤◌, ◌<◌, ◌+◌, ◌-◌, ◌*◌, ◌%◌, ◌&&◌, ℕ, Bool, true, false, List, ◌==◌, ◌≢◌, length, take, drop, slice_index, slice_set, Option, Some, None, Result, Ok, Err, refl, sym, ap, ◌∙◌, arith}
use Rattle.std.specs.Prelude.{MatchOption, ⊤, nat_le}
use Rattle.std.proofs.lemmas.Bool.Decides.{nat_tests}
use Rattle.hex.specs.Hex.{decode_of, decode_pairs, hex_digit_value, pair_value, value_at}
use Rattle.hex.specs.declared.error.FromHexError.{FromHexError}
use Rattle.hex.specs.declared.error.FromHexError.TheVariants.{InvalidHexCharacter}
use Rattle.hex.proofs.HexLemmas.{decode_of-even}
use Rattle.hex.proofs.Pairs.{prepend, decode_step, decode_err, decode_done, decode_start}

-- ---- one digit

-- the value of a digit is below 16
small : (c : ℕ) → MatchOption (hex_digit_value c) ⊤ (λ v. v < 16)
small c = capital (nat_le 65 c && nat_le c 70) refl
  where
    digit : (b : Bool) → (nat_le 48 c && nat_le c 57) ≡ b → (nat_le 65 c && nat_le c 70) ≡ false → (nat_le 97 c && nat_le c 102) ≡ false → MatchOption (hex_digit_value c) ⊤ (λ v. v < 16)
    digit true e f g = rw (f, g, e) (grind (arith, nat_tests))
    digit false e f g = rw (f, g, e) tt

    letter : (b : Bool) → (nat_le 97 c && nat_le c 102) ≡ b → (nat_le 65 c && nat_le c 70) ≡ false → MatchOption (hex_digit_value c) ⊤ (λ v. v < 16)
    letter true e f = rw (f, e) (grind (arith, nat_tests))
    letter false e f = digit (nat_le 48 c && nat_le c 57) refl f e

    capital : (b : Bool) → (nat_le 65 c && nat_le c 70) ≡ b → MatchOption (hex_digit_value c) ⊤ (λ v. v < 16)
    capital true e = rw e (grind (arith, nat_tests))
    capital false e = letter (nat_le 97 c && nat_le c 102) refl e

-- what stands for an octet: its value, or 255 where it is no digit
abbrev pub IsValue : ℕ → ℕ → Type 0
IsValue c r = MatchOption (hex_digit_value c) (r ≡ 255) (λ v. r ≡ v)

pub digit_read : (c r : ℕ) → IsValue c r → r < 16 → (i : ℕ) → value_at c i ≡ Ok r
digit_read c r h below i = go (hex_digit_value c) refl h
  where
    go : (o : Option ℕ) → hex_digit_value c ≡ o → MatchOption o (r ≡ 255) (λ v. r ≡ v) → value_at c i ≡ Ok r
    go None e h = absurd (omega (arith, h, below))
    go (Some v) e h = rw (e, h) refl

pub no_digit : (c r : ℕ) → IsValue c r → 16 ≤ r → (i : ℕ) → value_at c i ≡ Err (InvalidHexCharacter c i)
no_digit c r h over i = go (hex_digit_value c) refl h (small c)
  where
    go : (o : Option ℕ) → hex_digit_value c ≡ o → MatchOption o (r ≡ 255) (λ v. r ≡ v) → MatchOption o ⊤ (λ v. v < 16) → value_at c i ≡ Err (InvalidHexCharacter c i)
    go None e h s = rw e refl
    go (Some v) e h s = absurd (omega (arith, h, s, over))

-- ---- two digits

pub pair_read : (a b x y : ℕ) → IsValue a x → IsValue b y → x < 16 → y < 16 → (i : ℕ) → pair_value a b i ≡ Ok (x * 16 + y)
pair_read a b x y hx hy p q i = rw (digit_read a x hx p i, digit_read b y hy q (i + 1)) refl

-- without the first digit, or without the second
pub no_first : (a b x : ℕ) → IsValue a x → 16 ≤ x → (i v : ℕ) → pair_value a b i ≡ Ok v → ⊥
no_first a b x h over i v e = differ (rw (no_digit a x h over i) at e)
  where
    differ : {A : Type 0} {x : FromHexError} {v : A} → Err x ≡ Ok v → ⊥
    differ e = absurd (cc)

pub no_second : (a b x y : ℕ) → IsValue a x → IsValue b y → x < 16 → 16 ≤ y → (i v : ℕ) → pair_value a b i ≡ Ok v → ⊥
no_second a b x y hx hy p over i v e = differ (rw (digit_read a x hx p i, no_digit b y hy over (i + 1)) at e)
  where
    differ : {A : Type 0} {x : FromHexError} {v : A} → Err x ≡ Ok v → ⊥
    differ e = absurd (cc)

-- ---- the pairs so far

-- the first n octets are read of the first pairs, if all of these are digits; else the line stands for none
pub record ReadUpTo (line octets : List ℕ) (all_digits : Bool) (n : ℕ) : Type 0 where
  pub read : all_digits ≡ true → decode_pairs 0 line ≡ prepend (take n octets) (decode_pairs (2 * n) (drop (2 * n) line))
  pub none : all_digits ≡ false → (os : List ℕ) → decode_pairs 0 line ≡ Ok os → ⊥

pub read_starts : (line octets : List ℕ) → ReadUpTo line octets true 0
read_starts line octets = record { read = λ _. decode_start line octets; none = λ e. absurd (cc) }

no_value : (r : Result ℕ FromHexError) → ((v : ℕ) → r ≡ Ok v → ⊥) → (x : FromHexError) × (r ≡ Err x)
no_value (Ok v) h = absurd (h v refl)
no_value (Err x) h = (x, refl)

pub read_further : (line octets : List ℕ) (n v : ℕ) (all_digits are_digits : Bool) → 2 * n + 1 < length line → n < length octets → ReadUpTo line octets all_digits n
    → (are_digits ≡ true → (i : ℕ) → pair_value (slice_index line (2 * n)) (slice_index line (2 * n + 1)) i ≡ Ok v)
    → (are_digits ≡ false → (i w : ℕ) → pair_value (slice_index line (2 * n)) (slice_index line (2 * n + 1)) i ≡ Ok w → ⊥)
    → ReadUpTo line (slice_set octets n v) (all_digits && are_digits) (n + 1)
read_further line octets n v true true there room h are_two not_two = record {
  read = λ _. decode_step line octets n v there room (are_two refl (2 * n)) (h.read refl);
  none = λ e. absurd (cc);
}
read_further line octets n v true false there room h are_two not_two =
    let bad = no_value (pair_value (slice_index line (2 * n)) (slice_index line (2 * n + 1)) (2 * n)) (λ w. not_two refl (2 * n) w) in
    record {
      read = λ e. absurd (cc);
      none = λ _ os e. differ (rw (decode_err line octets n bad.0 there bad.1 (h.read refl)) at e);
    }
  where
    differ : {A : Type 0} {x : FromHexError} {v : A} → Err x ≡ Ok v → ⊥
    differ e = absurd (cc)
read_further line octets n v false b there room h are_two not_two = record { read = λ e. absurd (cc); none = λ _. h.none refl }

-- ---- the whole line

pub read_whole : (line octets : List ℕ) (all_digits : Bool) (n : ℕ) → length line ≡ 2 * length octets → length octets ≤ n → ReadUpTo line octets all_digits n → all_digits ≡ true → decode_of line ≡ Ok octets
read_whole line octets all_digits n twice all h e =
    decode_of-even line (omega (arith, twice)) ∙ decode_done line octets n all (omega (arith, twice, all)) (h.read e)

pub read_none : (line octets : List ℕ) (all_digits : Bool) (n : ℕ) → length line ≡ 2 * length octets → ReadUpTo line octets all_digits n → all_digits ≡ false → (os : List ℕ) → decode_of line ≡ Ok os → ⊥
read_none line octets all_digits n twice h e os is = h.none e os (sym (decode_of-even line (omega (arith, twice))) ∙ is)

-- an odd count of digits
pub odd_none : (line os : List ℕ) → length line % 2 ≢ 0 → decode_of line ≡ Ok os → ⊥
odd_none line os odd e =
    let one : (length line % 2 == 1) ≡ true = grind (arith, nat_tests) in
    differ (rw one at e)
  where
    differ : {A : Type 0} {x : FromHexError} {v : A} → Err x ≡ Ok v → ⊥
    differ e = absurd (cc)
