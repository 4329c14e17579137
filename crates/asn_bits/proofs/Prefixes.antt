-- Numbers of a set of which the first bits are given.
use Rattle.std.proofs.Common.{◌≡◌, ℕ, zero, suc, ◌==◌, Bool, true, false, ◌+◌, ◌*◌, ◌^◌, ◌<◌, ◌≤◌, List, [], ◌∷◌, ◌++◌, length, length-append, refl, sym, ap, ◌∙◌, add-one, arith}
use Rattle.std.proofs.Math.Nat.{pow-suc}
use Rattle.asn_bits.specs.Numbers.{bits}
use Rattle.asn_bits.specs.Sets.{IsBits, InSet, Meets, weighted}
use Rattle.asn_bits.specs.Sink.{bit_of}
use Rattle.asn_bits.specs.Begun.{Begins, StandsFirst}
use Rattle.asn_bits.proofs.Codes.{equal_fronts}
use mir.Val.{bool_byte}
use Rattle.asn_bits.proofs.Weights.{bits_are, bits_only, digits-append, digits-second, weighted-append, weighted_bound, weighted_more, extended}
use Rattle.asn_bits.proofs.Unions.{meets_member}
use Rattle.asn_bits.proofs.Octets.{length-digits}

-- one bit more
pub bits_further : (g p b : ℕ) → p < 2 ^ g → b < 2 → bits (g + 1) (2 * p + b) ≡ bits g p ++ b ∷ []
bits_further g p b h l =
    let i = bits_are g p h in
    let more : IsBits (g + 1) (2 * p + b) (bits g p ++ b ∷ []) = record {
      digits = digits-append 2 (bits g p) (b ∷ []) i.digits (l, tt);
      count = omega (arith, length-append (bits g p) (b ∷ []), i.count);
      sum = omega (arith, weighted_more 2 (bits g p) b, i.sum);
    } in
    sym (bits_only (g + 1) (2 * p + b) (bits g p ++ b ∷ []) more).1

-- a number of the set begins with these bits: then it meets what they stand for
pub begins_meets : (k g r p : ℕ) {S : ℕ → Type 0} → p < 2 ^ g → g + r ≡ k → Begins k S (bits g p) → Meets S p r
begins_meets k g r p h e b =
    let i = bits_are g p h in
    let few : length b.more ≡ r = omega (arith, b.spelt.digits.count, length-append (bits g p) b.more, i.count) in
    let power = ap (λ (x : ℕ). 2 ^ x) few in
    let lead : weighted 2 (bits g p) * 2 ^ length b.more ≡ p * 2 ^ r = ap (λ (x : ℕ). x * 2 ^ length b.more) i.sum ∙ ap (λ (x : ℕ). p * x) power in
    let below = weighted_bound 2 b.more (digits-second 2 (bits g p) b.more b.spelt.digits.digits) in
    let whole : p * 2 ^ r + weighted 2 b.more ≡ b.number = omega (arith, weighted-append 2 (bits g p) b.more, b.spelt.digits.sum, lead) in
    record { number = b.number; member = b.spelt.member; least = omega (arith, whole); below = omega (arith, whole, below, power) }

-- the other way round
pub meets_begins : (k g r p : ℕ) {S : ℕ → Type 0} → p < 2 ^ g → g + r ≡ k → Meets S p r → Begins k S (bits g p)
meets_begins k g r p h e m =
    let i = bits_are g p h in
    let v : weighted 2 (bits g p) * 2 ^ r ≡ p * 2 ^ r = ap (λ (x : ℕ). x * 2 ^ r) i.sum in
    record {
      number = m.number;
      more = _;
      spelt = record { digits = extended 2 k m.number r (bits g p) i.digits (omega (arith, i.count, e)) (omega (arith, m.least, v)) (omega (arith, m.below, v)); member = m.member };
    }

-- no bit is left: the bits are a number of the set
pub meets_whole : (k g r p : ℕ) {S : ℕ → Type 0} → p < 2 ^ g → g + r ≡ k → r ≡ 0 → Meets S p r → InSet k S p (bits g p)
meets_whole k g r p h e z m =
    let i = bits_are g p h in
    record { digits = record { digits = i.digits; count = omega (arith, i.count, e, z); sum = i.sum }; member = meets_member (rw z at m) }

-- this many bits are given
pub given_length : (g p : ℕ) → length (bits g p) ≡ g
given_length g p = length-digits 2 g p

-- a number with one bit more has room in one bit more
pub prefix_room : (g p b : ℕ) → p < 2 ^ g → b < 2 → 2 * p + b < 2 ^ (g + 1)
prefix_room g p b h l = omega (arith, pow-suc 2 g, ap (λ (x : ℕ). 2 ^ x) (add-one g))

-- the number that a truth value converts to is its bit
pub bool_byte-is : (b : Bool) → bool_byte b ≡ bit_of b
bool_byte-is true = refl
bool_byte-is false = refl

-- and this is 0 or 1
pub bit_below : (b : Bool) → bit_of b < 2
bit_below true = omega arith
bit_below false = omega arith

-- a bit that is 1 where its truth value is
pub bit_again : (b : ℕ) → b < 2 → bit_of (b == 1) ≡ b
bit_again zero h = refl
bit_again (suc zero) h = refl
bit_again (suc (suc b)) h = absurd (omega arith)

-- only one number stands in the first k bits
pub first_number : {S : ℕ → Type 0} {us rest : List ℕ} (k n m : ℕ) (more : List ℕ) → StandsFirst k S n us rest → m < 2 ^ k → us ≡ bits k m ++ more → n ≡ m
first_number {us = us} {rest} k n m more s h e =
    let i = bits_are k m h in
    let same : s.number ≡ bits k m = (equal_fronts s.number (bits k m) rest more (s.spelt.digits.count ∙ sym i.count) (sym s.split ∙ e)).0 in
    sym s.spelt.digits.sum ∙ ap (weighted 2) same ∙ i.sum

-- where no number of the set stands first, it has bits
pub first_bits : {S : ℕ → Type 0} {us : List ℕ} (k : ℕ) → Meets S 0 k → ((n : ℕ) (rest : List ℕ) → StandsFirst k S n us rest → ⊥) → 1 ≤ k
first_bits {us = us} zero m none = absurd (none 0 us (record { number = []; spelt = record { digits = record { digits = tt; count = refl; sum = refl }; member = meets_member m }; split = refl }))
first_bits (suc k) m none = omega arith

-- a number in k bits has no more
pub in_bits : {S : ℕ → Type 0} (k n : ℕ) (ds : List ℕ) → InSet k S n ds → n < 2 ^ k
in_bits k n ds i = omega (arith, weighted_bound 2 ds i.digits.digits, i.digits.sum, ap (λ (j : ℕ). 2 ^ j) i.digits.count)
