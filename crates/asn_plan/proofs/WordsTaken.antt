-- Bits that are taken from a word.
use Rattle.std.proofs.Common.{◌≡◌, ◌+◌, ◌++◌, ◌/◌, ◌%◌, ◌^◌, ℕ, List, sym, ap, ◌∙◌, arith}
use Rattle.asn_bits.specs.Numbers.{bits}
use Rattle.asn_bits.proofs.Splits.{digits-add, digits-mod}
use Rattle.asn_walk.specs.Coding.{Coding}
use Rattle.asn_plan.specs.Words.{units_in, before}
use Rattle.asn_plan.specs.declared.word.Word.{Word}

-- the first of the bits that are left
pub taken_first : (m left after count n : ℕ) → after + count ≡ left → n ≡ m / 2 ^ after % 2 ^ count → bits left m ≡ bits count n ++ bits after m
taken_first m left after count n e is =
    let all : left ≡ count + after = omega (arith, e) in
    let split : bits left m ≡ bits count (m / 2 ^ after) ++ bits after m = ap (λ (k : ℕ). bits k m) all ∙ digits-add 2 count after m in
    let same : bits count n ≡ bits count (m / 2 ^ after) = ap (bits count) is ∙ digits-mod 2 (omega arith) count (m / 2 ^ after) in
    split ∙ ap (λ (t : List ℕ). t ++ bits after m) (sym same)

-- an empty word has no units
pub nothing_left : (c : Coding) (w : Word) (us : List ℕ) → w.left ≡ 0 → before c w us ≡ us
nothing_left c w us e = ap (λ (n : ℕ). units_in c n w.bits ++ us) e
