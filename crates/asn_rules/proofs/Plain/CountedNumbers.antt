-- Which counts of octets, and which numbers after a count, a reader of numbers in the fewest octets admits.
use Rattle.std.proofs.Common.{◌≡◌, ◌≢◌, ◌≤◌, ◌<◌, ◌+◌, ◌-◌, ◌*◌, ◌^◌, ◌⊎◌, ℕ, suc, min, Option, Some, None, inl, inr, refl, ap, subst, ◌∙◌, arith}
use Rattle.std.proofs.lemmas.Bool.{cases_eq, cases_lt, lt-ltb, le-ltb}
use Rattle.std.proofs.Math.Nat.{pow-le-pow_right, one-le-pow, pow-succ'}
use Rattle.asn_bits.specs.Numbers.{octet_count}
use Rattle.asn_bits.proofs.Octets.{octet_count_fits, octet_count_some, octet_count_below}
use Rattle.asn_rules.specs.Counted.{SomeOf, Least}
use Rattle.asn_rules.specs.NumberSets.{IsNot, Admits, up_to, least_of}

power_up : (i j : ℕ) → i ≤ j → 256 ^ i ≤ 256 ^ j
power_up i j h = pow-le-pow_right {n = 256} (omega arith) {i = i} {j = j} h

-- ---- which numbers need a count of octets

least_one : (c : ℕ) → c ≤ 1 → least_of c ≡ 0
least_one c h = rw (le-ltb 1 c h, least_of) refl

pub least_more : (c : ℕ) → 1 < c → least_of c ≡ 256 ^ (c - 1)
least_more c h = rw (lt-ltb 1 c h, least_of) refl

-- a number that needs a count of octets is at or above the least one
pub least_holds : (n c : ℕ) → octet_count n ≡ c → least_of c ≤ n
least_holds n c e = go (cases_lt 1 c)
  where
    go : (1 < c) ⊎ (c ≤ 1) → least_of c ≤ n
    go (inr h) = omega (arith, least_one c h)
    go (inl h) = below (cases_lt n (256 ^ (c - 1)))
      where
        below : (n < 256 ^ (c - 1)) ⊎ (256 ^ (c - 1) ≤ n) → least_of c ≤ n
        below (inl k) = absurd (omega (arith, octet_count_below n (c - 1) (omega arith) k))
        below (inr k) = omega (arith, least_more c h)

-- and below the next power
pub power_holds : (n c : ℕ) → octet_count n ≡ c → n < 256 ^ c
power_holds n c e = subst (λ k. n < 256 ^ k) e (octet_count_fits n)

-- such numbers need that count
pub count_is : (n c : ℕ) → 1 ≤ c → least_of c ≤ n → n < 256 ^ c → octet_count n ≡ c
count_is n c some low high = go (cases_lt (octet_count n) c)
  where
    go : (octet_count n < c) ⊎ (c ≤ octet_count n) → octet_count n ≡ c
    go (inr h) = omega (arith, octet_count_below n c some high)
    go (inl h) =
        let more : least_of c ≡ 256 ^ (c - 1) = least_more c (omega (arith, octet_count_some n)) in
        let up : 256 ^ octet_count n ≤ 256 ^ (c - 1) = power_up (octet_count n) (c - 1) (omega arith) in
        absurd (omega (arith, octet_count_fits n, more, up, low))

-- a larger number needs no fewer
pub count_up : (m n : ℕ) → m ≤ n → octet_count m ≤ octet_count n
count_up m n h = octet_count_below m (octet_count n) (octet_count_some n) (omega (arith, octet_count_fits n))

-- ---- the numbers after a count

module _ (top : ℕ) (e : Option ℕ) (c : ℕ) (some : 1 ≤ c) (last : ℕ) (power : last + 1 ≡ 256 ^ c) where
  pub number_there : (n : ℕ) → (least_of c ≤ n) × (n ≤ min top last) × IsNot e n → Least (λ m. Admits (up_to top e) m) c n
  number_there n h = record { member = (omega arith, omega (arith, h.1), h.2); count = count_is n c some h.0 (omega (arith, h.1, power)) }

  pub number_back : (n : ℕ) → Least (λ m. Admits (up_to top e) m) c n → (least_of c ≤ n) × (n ≤ min top last) × IsNot e n
  number_back n h = (least_holds n c h.count, omega (arith, power_holds n c h.count, power, h.member.1), h.member.2)

-- ---- the counts

-- of two numbers one is not left out
one_of_two : (e : Option ℕ) (a b : ℕ) → a < b → IsNot e a ⊎ IsNot e b
one_of_two None a b h = inl tt
one_of_two (Some x) a b h = go (cases_eq a x)
  where
    go : (a ≡ x) ⊎ (a ≢ x) → (a ≢ x) ⊎ (b ≢ x)
    go (inl f) = inr (λ g. omega arith)
    go (inr f) = inl f

-- some number of the interval has the count, where two lie there
two_have : (top : ℕ) (e : Option ℕ) (c a b : ℕ) → 1 ≤ c → c < 128 → a < b → least_of c ≤ a → b < 256 ^ c → b ≤ top → SomeOf (Least (λ m. Admits (up_to top e) m)) c
two_have top e c a b some few h low high within = go (one_of_two e a b h)
  where
    go : IsNot e a ⊎ IsNot e b → SomeOf (Least (λ m. Admits (up_to top e) m)) c
    go (inl n) = record { few = few; number = a; member = record { member = (omega arith, omega arith, n); count = count_is a c some low (omega arith) }; fits = omega arith }
    go (inr n) = record { few = few; number = b; member = record { member = (omega arith, within, n); count = count_is b c some (omega arith) high }; fits = high }

least_below : (c : ℕ) → 1 ≤ c → least_of c + 1 < 256 ^ c
least_below c h = go (cases_lt 1 c)
  where
    one_more : c ≡ suc (c - 1)
    one_more = omega arith

    next : 256 ^ c ≡ 256 * 256 ^ (c - 1)
    next = ap (λ k. 256 ^ k) one_more ∙ pow-succ' 256 (c - 1)

    go : (1 < c) ⊎ (c ≤ 1) → least_of c + 1 < 256 ^ c
    go (inl k) = omega (arith, least_more c k, next, one-le-pow (c - 1) 256 (omega arith))
    go (inr k) = omega (arith, least_one c k, next, one-le-pow (c - 1) 256 (omega arith))

-- a count below that of the highest number
pub lower_count : (top : ℕ) (e : Option ℕ) (c : ℕ) → 1 ≤ c → c < octet_count top → octet_count top ≤ 9 → SomeOf (Least (λ m. Admits (up_to top e) m)) c
lower_count top e c some h few =
    let up : 256 ^ c ≤ 256 ^ (octet_count top - 1) = power_up c (octet_count top - 1) (omega arith) in
    let more : least_of (octet_count top) ≡ 256 ^ (octet_count top - 1) = least_more (octet_count top) (omega arith) in
    let low : least_of (octet_count top) ≤ top = least_holds top (octet_count top) refl in
    two_have top e c (least_of c) (least_of c + 1) some (omega arith) (omega arith) (omega arith) (least_below c some) (omega (arith, least_below c some))

-- the count of the highest number, where that is not left out, or is not the least with its count
pub highest_count : (top : ℕ) (e : Option ℕ) → octet_count top ≤ 9 → IsNot e top ⊎ (top ≢ least_of (octet_count top)) → SomeOf (Least (λ m. Admits (up_to top e) m)) (octet_count top)
highest_count top e few (inl n) =
    record { few = omega arith; number = top; member = record { member = (omega arith, omega arith, n); count = refl }; fits = octet_count_fits top }
highest_count top e few (inr n) =
    let low : least_of (octet_count top) ≤ top = least_holds top (octet_count top) refl in
    two_have top e (octet_count top) (least_of (octet_count top)) top (octet_count_some top) (omega arith) (omega arith) (omega arith) (octet_count_fits top) (omega arith)

-- no count is higher
pub count_within : (top : ℕ) (e : Option ℕ) (c : ℕ) → SomeOf (Least (λ m. Admits (up_to top e) m)) c → (1 ≤ c) × (c ≤ octet_count top)
count_within top e c s = (
  omega (arith, octet_count_some s.number, s.member.count),
  omega (arith, count_up s.number top s.member.member.1, s.member.count),
)

-- and where the highest number is left out and is the least with its count, that one is not there
pub count_below : (top c : ℕ) → top ≡ least_of (octet_count top) → SomeOf (Least (λ m. Admits (up_to top (Some top)) m)) c → c < octet_count top
count_below top c e s =
    let within = count_within top (Some top) c s in
    go (cases_eq c (octet_count top))
  where
    go : (c ≡ octet_count top) ⊎ (c ≢ octet_count top) → c < octet_count top
    go (inr n) = omega (arith, (count_within top (Some top) c s).1)
    go (inl f) =
        let low : least_of (octet_count top) ≤ s.number = least_holds s.number (octet_count top) (s.member.count ∙ f) in
        absurd (s.member.member.2 (omega (arith, low, s.member.member.1)))
