-- Digits and the numbers that they stand for; the digits of one number and count are one list.
use Rattle.std.proofs.Common.{◌≡◌, ℕ, zero, suc, ◌+◌, ◌-◌, ◌*◌, ◌/◌, ◌%◌, ◌^◌, ◌<◌, ◌≤◌, ⊎_elim, List, [], ◌∷◌, ◌++◌, length, length-append, pow-add, refl, sym, ap, ◌∙◌, arith}
use Rattle.std.proofs.Math.Nat.{pow-zero, pow-succ', one-le-pow, mod-lt, mod-eq_of_lt, mul-le-mul_right}
use Rattle.std.proofs.Math.Arith.{mod-mul}
use Rattle.std.proofs.lemmas.Bool.{cases_lt}
use Rattle.asn_bits.specs.Numbers.{digits, bits}
use Rattle.asn_bits.proofs.Octets.{length-digits}
use Rattle.asn_bits.specs.Sets.{AreDigits, weighted, IsDigits, IsBits}

-- digits after digits
pub digits-append : (base : ℕ) (xs ys : List ℕ) → AreDigits base xs → AreDigits base ys → AreDigits base (xs ++ ys)
digits-append base [] ys f g = g
digits-append base (x ∷ xs) ys f g = (f.0, digits-append base xs ys f.1 g)

-- the first of them
pub digits-first : (base : ℕ) (xs ys : List ℕ) → AreDigits base (xs ++ ys) → AreDigits base xs
digits-first base [] ys f = tt
digits-first base (x ∷ xs) ys f = (f.0, digits-first base xs ys f.1)

-- the last of them
pub digits-second : (base : ℕ) (xs ys : List ℕ) → AreDigits base (xs ++ ys) → AreDigits base ys
digits-second base [] ys f = f
digits-second base (x ∷ xs) ys f = digits-second base xs ys f.1

-- this many digits stand for less than that power of the base
pub weighted_bound : (base : ℕ) (ds : List ℕ) → AreDigits base ds → weighted base ds < base ^ length ds
weighted_bound base [] h = omega (arith, pow-zero base)
weighted_bound base (d ∷ ds) h =
    let w = weighted_bound base ds h.1 in
    let room : (d + 1) * base ^ length ds ≤ base * base ^ length ds = mul-le-mul_right (base ^ length ds) (omega (arith, h.0)) in
    omega (arith, w, room, pow-succ' base (length ds))

-- digits after digits stand for the first, moved up, and the second
pub weighted-append : (base : ℕ) (xs ys : List ℕ) → weighted base (xs ++ ys) ≡ weighted base xs * base ^ length ys + weighted base ys
weighted-append base [] ys = omega arith
weighted-append base (x ∷ xs) ys =
    let again = weighted-append base xs ys in
    let count = ap (λ (n : ℕ). base ^ n) (length-append xs ys) in
    let powers = pow-add base (length xs) (length ys) in
    let lead = ap (λ (n : ℕ). x * n) (count ∙ powers) in
    omega (arith, again, lead)

-- one digit more
pub weighted_more : (base : ℕ) (ds : List ℕ) (d : ℕ) → weighted base (ds ++ d ∷ []) ≡ base * weighted base ds + d
weighted_more base ds d =
    let none : base ^ 0 ≡ 1 = pow-zero base in
    let one : base ^ 1 ≡ base = pow-succ' base 0 ∙ ap (λ (n : ℕ). base * n) none ∙ omega arith in
    weighted-append base ds (d ∷ []) ∙ ap (λ (n : ℕ). weighted base ds * n + (d * base ^ 0 + 0)) one ∙ ap (λ (n : ℕ). weighted base ds * base + (d * n + 0)) none ∙ omega arith

-- a digit is not less where more follows it
not_less : (x y a b p : ℕ) → a < p → x * p + a ≡ y * p + b → x < y → ⊥
not_less x y a b p h e l =
    let room : (x + 1) * p ≤ y * p = mul-le-mul_right p (omega (arith, l)) in
    omega (arith, h, e, room)

-- two numbers that are one have one first digit
same_digit : (x y a b p : ℕ) → a < p → b < p → x * p + a ≡ y * p + b → x ≡ y
same_digit x y a b p h i e = ⊎_elim (λ l. absurd (not_less x y a b p h e l)) (λ g. ⊎_elim (λ l. absurd (not_less y x b a p i (sym e) l)) (λ f. omega (arith, f, g)) (cases_lt y x)) (cases_lt x y)

-- digits of one count that stand for one number are the same
pub same_digits : (base : ℕ) (xs ys : List ℕ) → AreDigits base xs → AreDigits base ys → length xs ≡ length ys → weighted base xs ≡ weighted base ys → xs ≡ ys
same_digits base [] [] f g l e = refl
same_digits base [] (y ∷ ys) f g l e = absurd (omega arith)
same_digits base (x ∷ xs) [] f g l e = absurd (omega arith)
same_digits base (x ∷ xs) (y ∷ ys) f g l e =
    let m : length xs ≡ length ys = omega arith in
    let p = base ^ length ys in
    let q : base ^ length xs ≡ p = ap (λ (n : ℕ). base ^ n) m in
    let h : x * p + weighted base xs ≡ y * p + weighted base ys = ap (λ (n : ℕ). x * n + weighted base xs) (sym q) ∙ e in
    let b = weighted_bound base xs f.1 in
    let c = weighted_bound base ys g.1 in
    let same : x ≡ y = same_digit x y (weighted base xs) (weighted base ys) p (omega (arith, b, q)) c h in
    let lead : x * p ≡ y * p = ap (λ (n : ℕ). n * p) same in
    let again = same_digits base xs ys f.1 g.1 m (omega (arith, h, lead)) in
    cc

-- ---- the digits of a number

-- the digits of a number are digits
pub are_digits : (base k n : ℕ) → 0 < base → AreDigits base (digits base k n)
are_digits base zero n h = tt
are_digits base (suc k) n h = (mod-lt (n / base ^ k) h, are_digits base k n h)

-- they stand for the number, but for what they cannot hold
weighted_digits : (base k n : ℕ) → 0 < base → weighted base (digits base k n) ≡ n % base ^ k
weighted_digits base zero n h = mod_one n ∙ ap (λ b. n % b) (sym (pow-zero base))
  where
    mod_one : (n : ℕ) → 0 ≡ n % 1
    mod_one n = omega arith
weighted_digits base (suc k) n h =
    let step : n % base ^ suc k ≡ (n / base ^ k) % base * base ^ k + n % base ^ k = ap (λ b. n % b) (pow-succ' base k) ∙ mod-mul n h (one-le-pow k base h) in
    let count : base ^ length (digits base k n) ≡ base ^ k = ap (λ (i : ℕ). base ^ i) (length-digits base k n) in
    ap (λ (i : ℕ). (n / base ^ k) % base * i + weighted base (digits base k n)) count ∙ ap (λ (i : ℕ). (n / base ^ k) % base * base ^ k + i) (weighted_digits base k n h) ∙ sym step

-- a number that k digits hold, in k digits
pub digits_are : (base k n : ℕ) → n < base ^ k → IsDigits base k n (digits base k n)
digits_are base zero n h = record { digits = tt; count = refl; sum = omega (arith, h, pow-zero base) }
digits_are zero (suc k) n h = absurd (omega (arith, h, pow-succ' 0 k))
digits_are (suc b) (suc k) n h =
    let base = suc b in
    let some : 0 < base = omega arith in
    record { digits = are_digits base (suc k) n some; count = length-digits base (suc k) n; sum = weighted_digits base (suc k) n some ∙ mod-eq_of_lt h }

-- its digits are no others
pub digits_only : (base k n : ℕ) (ds : List ℕ) → IsDigits base k n ds → (n < base ^ k) × (ds ≡ digits base k n)
digits_only base k n ds h =
    let below : weighted base ds < base ^ length ds = weighted_bound base ds h.digits in
    let fits : n < base ^ k = omega (arith, below, h.sum, ap (λ (i : ℕ). base ^ i) h.count) in
    let i = digits_are base k n fits in
    (fits, same_digits base ds (digits base k n) h.digits i.digits (h.count ∙ sym i.count) (h.sum ∙ sym i.sum))

-- digits and a number that begins so: the rest of its digits
pub extended : (base k n r : ℕ) (ds : List ℕ) → AreDigits base ds → length ds + r ≡ k → weighted base ds * base ^ r ≤ n → n < (weighted base ds + 1) * base ^ r → IsDigits base k n (ds ++ digits base r (n - weighted base ds * base ^ r))
extended base k n r ds b c l m =
    let more = digits base r (n - weighted base ds * base ^ r) in
    let i = digits_are base r (n - weighted base ds * base ^ r) (omega arith) in
    let q = ap (λ (x : ℕ). weighted base ds * base ^ x) i.count in
    record {
      digits = digits-append base ds more b i.digits;
      count = omega (arith, length-append ds more, i.count);
      sum = omega (arith, weighted-append base ds more, i.sum, q);
    }

-- ---- bits

-- a number that k bits hold, in k bits
pub bits_are : (k n : ℕ) → n < 2 ^ k → IsBits k n (bits k n)
bits_are k n h = digits_are 2 k n h

-- its bits are no others
pub bits_only : (k n : ℕ) (bs : List ℕ) → IsBits k n bs → (n < 2 ^ k) × (bs ≡ bits k n)
bits_only k n bs h = digits_only 2 k n bs h
