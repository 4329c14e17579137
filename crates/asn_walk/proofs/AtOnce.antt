-- Numbers that hold the bits of parts that are taken at once.
use Rattle.std.proofs.Common.{◌≡◌, ◌≤◌, ◌<◌, ◌+◌, ◌*◌, ◌/◌, ◌%◌, ◌^◌, ℕ, zero, suc, Bool, true, false, nat_eq, nat_lt, List, ◌∷◌, ◌++◌, map, Option, Some, None, refl, sym, ◌∙◌, ap, arith, append_assoc}
use Rattle.std.proofs.lemmas.Bool.{true≢false}
use Rattle.std.proofs.lemmas.Nat.{shr_below, pow_pos}
use Rattle.std.proofs.Math.Nat.{div-eq_of_lt, mod-lt}
use Rattle.asn_bits.specs.Begun.{StandsFirst}
use Rattle.asn_bits.specs.Numbers.{bits}
use Rattle.asn_bits.specs.Sink.{bit_of}
use Rattle.asn_bits.proofs.Packing.{bits_low}
use Rattle.asn_bits.proofs.Weights.{bits_only}
use Rattle.asn_rules.specs.Components.{extension_bit}
use Rattle.asn_rules.specs.NumberSets.{Admits, up_to}
use Rattle.asn_walk.specs.AtOnce.{MarkedFirst}

-- a bit, as a number and as a truth value
truth_of_bit : (q : ℕ) → q < 2 → bit_of (nat_eq q 1) ≡ q % 2
truth_of_bit zero h = refl
truth_of_bit (suc zero) h = refl
truth_of_bit (suc (suc q)) h = absurd (omega arith)

-- the highest bit is 0 where nothing is listed
listed_some : (n k w high : ℕ) → w ≤ high → high + 1 ≡ 2 ^ (n + bit_of (nat_lt 0 k)) → nat_eq (w / 2 ^ n) 1 ≡ true → 0 < k
listed_some n zero w high h e one =
    let same : n + 0 ≡ n = omega arith in
    let few : w < 2 ^ n = omega (arith, h, e, ap (λ i. 2 ^ i) same) in
    absurd (true≢false (sym one ∙ ap (λ q. nat_eq q 1) (div-eq_of_lt few)))
listed_some n (suc k) w high h e one = omega arith

-- an extension bit and presence bits, as one number
pub marked_first : (n k w high : ℕ) (a : Option ℕ) (us r : List ℕ) → a ≡ Some k → us ≡ bits (n + 1) w ++ r → w < 2 ^ (n + 1) → w ≤ high → high + 1 ≡ 2 ^ (n + bit_of (nat_lt 0 k))
    → MarkedFirst n a (nat_eq (w / 2 ^ n) 1, w % 2 ^ n) us r
marked_first n k w high a us r mark e fits most all =
    let turned : n + 1 ≡ 1 + n = omega arith in
    let order : 2 ^ (n + 1) ≡ 2 ^ (1 + n) = ap (λ i. 2 ^ i) turned in
    let small : w / 2 ^ n < 2 = shr_below w 1 n (omega (arith, fits, order)) in
    let more : n + 1 ≡ suc n = omega arith in
    let next : bits (n + 1) w ≡ bits (suc n) w = ap (λ i. bits i w) more in
    record {
      listed = k;
      mark = mark;
      some = λ one. listed_some n k w high most all one;
      fits = mod-lt w (pow_pos n);
      split =
          e ∙ ap (λ t. t ++ r) next ∙ ap (λ d. d ∷ (bits n w ++ r)) (sym (truth_of_bit (w / 2 ^ n) small))
          ∙ ap (λ t. bit_of (nat_eq (w / 2 ^ n) 1) ∷ (t ++ r)) (sym (bits_low n n w (omega arith)));
    }

-- a number after an extension bit 0
pub after_no_mark : (m : Bool) (n w : ℕ) → w < 2 ^ n → bits (bit_of m + n) w ≡ extension_bit m false ++ bits n w
after_no_mark false n w h = let same : 0 + n ≡ n = omega arith in ap (λ i. bits i w) same
after_no_mark true n w h =
    let more : 1 + n ≡ suc n = omega arith in
    ap (λ i. bits i w) more ∙ ap (λ q. q % 2 ∷ bits n w) (div-eq_of_lt h)

-- the bits of a string, as one number after an extension bit 0
pub bits_split : (m : Bool) (n w high : ℕ) (truths : List Bool) (us r : List ℕ) → StandsFirst (bit_of m + n) (λ v. Admits (up_to high None) v) w us r → high + 1 ≡ 2 ^ n → map bit_of truths ≡ bits n w
    → us ≡ extension_bit m false ++ (map bit_of truths ++ r)
bits_split m n w high truths us r h all e =
    let is = bits_only (bit_of m + n) w h.number h.spelt.digits in
    let fits : w < 2 ^ n = omega (arith, h.spelt.member.1, all) in
    h.split ∙ ap (λ t. t ++ r) (is.1 ∙ after_no_mark m n w fits) ∙ append_assoc (extension_bit m false) (bits n w) r
    ∙ ap (λ t. extension_bit m false ++ (t ++ r)) (sym e)
