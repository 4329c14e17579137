-- The spelling of items of a string one after the other.
use Rattle.std.proofs.Common.{◌≡◌, ◌+◌, ◌-◌, ℕ, List, [], ◌∷◌, ◌++◌, map, take, drop, refl, ◌∙◌, ap, arith}
use Rattle.std.proofs.lemmas.List.{take-map, drop-map}
use Rattle.asn_bits.specs.Numbers.{bits, unpacked}
use Rattle.asn_bits.specs.Lengths.{joined}
use Rattle.asn_rules.specs.Chunks.{ones}
use Rattle.asn_rules.proofs.Live.Flat.{flat-append, flat-ones}
use Rattle.asn_per.specs.Per.{spelled}
use Rattle.asn_per.specs.StringItems.{row_bits}

-- plain items in bits
pub row_of : {A : Type 0} (code : A → List ℕ) (xs : List A) → row_bits (map (λ x. ones (code x)) xs) ≡ joined (map code xs)
row_of code [] = refl
row_of code (x ∷ xs) =
    flat-append spelled (ones (code x)) (joined (map (λ x. ones (code x)) xs))
    ∙ ap (λ (t : List ℕ). t ++ row_bits (map (λ x. ones (code x)) xs)) (flat-ones spelled (code x)) ∙ ap (λ (t : List ℕ). code x ++ t) (row_of code xs)

-- octets one after the other
pub octets_joined : (os : List ℕ) → joined (map (λ o. bits 8 o) os) ≡ unpacked os
octets_joined [] = refl
octets_joined (o ∷ os) = ap (λ (t : List ℕ). bits 8 o ++ t) (octets_joined os)

-- a part of the items, as the program takes it
pub part_of : {A : Type 0} (code : A → List ℕ) (xs : List A) (from count : ℕ)
    → row_bits (take count (drop from (map (λ x. ones (code x)) xs))) ≡ joined (map code (take (from + count - from) (drop from xs)))
part_of code xs from count =
    ap (λ ys. row_bits (take count ys)) (drop-map (λ x. ones (code x)) from xs)
    ∙ ap row_bits (take-map (λ x. ones (code x)) count (drop from xs))
    ∙ row_of code (take count (drop from xs)) ∙ ap (λ (i : ℕ). joined (map code (take i (drop from xs)))) (omega arith)
