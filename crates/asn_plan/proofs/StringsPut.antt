-- Strings that are told by a number in their bits, put one bit or octet after the other.
use Rattle.std.proofs.Common.{Vec, Global, ◌≡◌, ◌+◌, ◌-◌, ◌*◌, ◌/◌, ◌%◌, ◌^◌, ◌++◌, ◌∷◌, [], ◌<◌, ℕ, zero, suc, Bool, true, false, ◌==◌, List, length, map, take, slice_set, refl, sym, ap, subst, ◌∙◌, arith}
use Rattle.std.proofs.lemmas.Bool.{true≢false}
use Rattle.std.proofs.lemmas.List.{take_more_set, map_push, length-map}
use Rattle.std.proofs.Math.Nat.{div-one}
use Rattle.std.proofs.lemmas.Nat.{shr-shr}
use Rattle.asn_values.specs.Datum.{Datum, bit_list, octet_list}
use Rattle.asn_values.specs.View.{datum_of}
use Rattle.asn_values.specs.declared.value.Value.{Value}
use Rattle.asn_values.specs.declared.value.Value.TheVariants as value
use Rattle.asn_values.proofs.Views.{datum_of-Bits, datum_of-Octets}
use Rattle.asn_bits.specs.Numbers.{bits, octets}
use Rattle.asn_bits.proofs.Octets.{length-digits}
use Rattle.asn_bits.specs.Sink.{bit_of}
use Rattle.asn_bits.proofs.Packing.{octets_more}
use Rattle.asn_bits.proofs.Splits.{digits-add}
use Rattle.asn_plan.specs.FixedStrings.{IsStringOf}
use Rattle.asn_plan.specs.declared.fixed.FixedString.{FixedString}

-- what is said of the octets of the number is said of the string
pub of_octets : (f : FixedString) (n : ℕ) (d : Datum) (P : Datum → Type 0) → f.of_octets ≡ true → IsStringOf f n d
    → P (octet_list (octets f.length n)) → P d
of_octets f n (bit_list bs) P e is p = absurd (true≢false (sym e ∙ is.0))
of_octets f n (octet_list os) P e is p = subst (λ (l : List ℕ). P (octet_list l)) (sym is.1) p
of_octets f n _ P e is p = absurd is

-- and what is said of each string whose bits are those of the number
pub of_bits : (f : FixedString) (n : ℕ) (d : Datum) (P : Datum → Type 0) → f.of_octets ≡ false → IsStringOf f n d
    → ((bs : List Bool) → map bit_of bs ≡ bits f.length n → P (bit_list bs)) → P d
of_bits f n (bit_list bs) P e is p = p bs is.1
of_bits f n (octet_list os) P e is p = absurd (true≢false (sym is.0 ∙ e))
of_bits f n _ P e is p = absurd is

-- an octet for each bit tells the truth values
pub truths_back : (bs : List Bool) → map (λ (n : ℕ). n == 1) (map bit_of bs) ≡ bs
truths_back [] = refl
truths_back (true ∷ bs) = ap (λ (l : List Bool). true ∷ l) (truths_back bs)
truths_back (false ∷ bs) = ap (λ (l : List Bool). false ∷ l) (truths_back bs)

-- so truth values of the same bits are the same
pub same_truths : (xs bs : List Bool) (ns : List ℕ) → map bit_of xs ≡ ns → map bit_of bs ≡ ns → xs ≡ bs
same_truths xs bs ns a b =
    sym (truths_back xs) ∙ ap (λ (l : List ℕ). map (λ (n : ℕ). n == 1) l) (a ∙ sym b) ∙ truths_back bs

-- one bit more of the number
pub bit_more : (row : List ℕ) (count i n o : ℕ) → i < count → row ≡ bits i (n / 2 ^ (count - i))
    → o ≡ n / 2 ^ (count - 1 - i) % 2 → row ++ o ∷ [] ≡ bits (i + 1) (n / 2 ^ (count - (i + 1)))
bit_more row count i n o less e is =
    let here = count - 1 - i in
    let m = n / 2 ^ here in
    let one_more : count - i ≡ here + 1 = omega (arith, less) in
    let next : count - (i + 1) ≡ here = omega (arith, less) in
    let sofar : row ≡ bits i (n / 2 ^ (here + 1)) = e ∙ ap (λ t. bits i (n / 2 ^ t)) one_more in
    let last : bits 1 m ≡ m % 2 ∷ [] = ap (λ t. t ∷ []) (omega arith) in
    let split : bits (i + 1) m ≡ bits i (n / 2 ^ (here + 1)) ++ m % 2 ∷ [] = digits-add 2 i 1 m ∙ ap (λ t. bits i t ++ bits 1 m) (shr-shr n here 1) ∙ ap (λ t. bits i (n / 2 ^ (here + 1)) ++ t) last in
    ap (λ t. row ++ t ∷ []) is ∙ ap (λ t. t ++ m % 2 ∷ []) sofar ∙ sym split ∙ ap (λ t. bits (i + 1) (n / 2 ^ t)) (sym next)

-- all bits of the number
pub bits_whole : (row : List ℕ) (count i n : ℕ) → i ≡ count → row ≡ bits i (n / 2 ^ (count - i)) → row ≡ bits count n
bits_whole row count i n all e =
    let none : count - i ≡ 0 = omega (arith, all) in
    let whole : n / 2 ^ (count - i) ≡ n = ap (λ t. n / 2 ^ t) none ∙ div-one n in
    e ∙ ap (λ t. bits i t) whole ∙ ap (λ t. bits t n) all

-- one octet more of the number
pub octet_more : (row : List ℕ) (count i n o : ℕ) → i < count → row ≡ octets i (n / 2 ^ (8 * (count - i)))
    → o ≡ n / 2 ^ (8 * (count - 1 - i)) % 256 → row ++ o ∷ [] ≡ octets (i + 1) (n / 2 ^ (8 * (count - (i + 1))))
octet_more row count i n o less e is =
    let here = 8 * (count - 1 - i) in
    let one_more : 8 * (count - i) ≡ here + 8 = omega (arith, less) in
    let next : 8 * (count - (i + 1)) ≡ here = omega (arith, less) in
    let sofar : row ≡ octets i (n / 2 ^ (here + 8)) = e ∙ ap (λ t. octets i (n / 2 ^ t)) one_more in
    ap (λ t. row ++ t ∷ []) is ∙ ap (λ t. t ++ n / 2 ^ here % 256 ∷ []) sofar ∙ sym (octets_more i here n)
    ∙ ap (λ t. octets (i + 1) (n / 2 ^ t)) (sym next)

-- all octets of the number
pub octets_whole : (row : List ℕ) (count i n : ℕ) → i ≡ count → row ≡ octets i (n / 2 ^ (8 * (count - i)))
    → row ≡ octets count n
octets_whole row count i n all e =
    let none : 8 * (count - i) ≡ 0 = omega (arith, all) in
    let whole : n / 2 ^ (8 * (count - i)) ≡ n = ap (λ t. n / 2 ^ t) none ∙ div-one n in
    e ∙ ap (λ t. octets i t) whole ∙ ap (λ t. octets t n) all

-- the truth of a bit is the bit
truth_of_bit : (m : ℕ) → bit_of (m % 2 == 1) ≡ m % 2
truth_of_bit m = cases (m % 2) (omega arith)
  where
    cases : (r : ℕ) → r < 2 → bit_of (r == 1) ≡ r
    cases zero h = refl
    cases (suc zero) h = refl
    cases (suc (suc r)) h = absurd (omega (arith, h))

-- a bit that is set at its place among those of the number
pub bit_set : (xs : List Bool) (count i n : ℕ) (b : Bool) → i < length xs → i < count
    → map bit_of (take i xs) ≡ bits i (n / 2 ^ (count - i)) → b ≡ (n / 2 ^ (count - 1 - i) % 2 == 1)
    → map bit_of (take (i + 1) (slice_set xs i b)) ≡ bits (i + 1) (n / 2 ^ (count - (i + 1)))
bit_set xs count i n b inside less e is =
    ap (λ (l : List Bool). map bit_of l) (take_more_set xs i b inside) ∙ map_push bit_of (take i xs) b
    ∙ bit_more (map bit_of (take i xs)) count i n (bit_of b) less e (ap bit_of is ∙ truth_of_bit (n / 2 ^ (count - 1 - i)))

-- an octet that is set at its place among those of the number
pub octet_set : (xs : List ℕ) (count i n o : ℕ) → i < length xs → i < count
    → take i xs ≡ octets i (n / 2 ^ (8 * (count - i))) → o ≡ n / 2 ^ (8 * (count - 1 - i)) % 256
    → take (i + 1) (slice_set xs i o) ≡ octets (i + 1) (n / 2 ^ (8 * (count - (i + 1))))
octet_set xs count i n o inside less e is =
    take_more_set xs i o inside ∙ octet_more (take i xs) count i n o less e is

-- a string of one length has that length
pub bits_long : (f : FixedString) (n : ℕ) (v : Value) (bs : Vec Bool Global) → v ≡ value.Bits bs
    → IsStringOf f n (datum_of v) → length bs.items ≡ f.length
bits_long f n v bs is h = of_list (rw (is, datum_of-Bits bs) at h)
  where
    of_list : IsStringOf f n (bit_list bs.items) → length bs.items ≡ f.length
    of_list s = sym (length-map bs.items bit_of) ∙ ap length s.1 ∙ length-digits 2 f.length n

pub octets_long : (f : FixedString) (n : ℕ) (v : Value) (os : Vec ℕ Global) → v ≡ value.Octets os
    → IsStringOf f n (datum_of v) → length os.items ≡ f.length
octets_long f n v os is h = of_list (rw (is, datum_of-Octets os) at h)
  where
    of_list : IsStringOf f n (octet_list os.items) → length os.items ≡ f.length
    of_list s = ap length s.1 ∙ length-digits 256 f.length n
