-- Two numbers and the zeros after them in one octet.
use Rattle.std.proofs.Common.{◌≡◌, ◌≤◌, ◌<◌, ◌+◌, ◌-◌, ◌/◌, ◌%◌, ◌^◌, ℕ, List, [], ◌∷◌, ◌++◌, length, replicate, sym, ap, ◌∙◌, subst, arith}
use Rattle.std.proofs.lemmas.List.{append-nil}
use Rattle.std.proofs.Math.Nat.{mod-lt, one-le-pow}
use Rattle.asn_bits.specs.Numbers.{bits, packed, padding}
use Rattle.asn_bits.proofs.Octets.{length-digits}
use Rattle.asn_bits.proofs.Packing.{bits_zero}
use Rattle.asn_bits.proofs.Splits.{digits-add, digits-mod}
use Rattle.asn_rules.specs.Fields.{octet_fields}
use Rattle.asn_rules.specs.Filled.{filled_bits}
use Rattle.asn_rules.specs.Forks.{Same}
use Rattle.asn_rules.specs.Languages.{Spells}
use Rattle.asn_rules.specs.OctetReading.{FilledFields}
use Rattle.asn_rules.proofs.Octets.Octetwise.{next_octet}
use Rattle.asn_rules.proofs.Languages.Spellings.{units_front}

-- the bits of both numbers, and the zeros
bits_of_both : (k n o : ℕ) → 0 < k + n → k + n ≤ 8 → o % 2 ^ (8 - (k + n)) ≡ 0
    → (bits k (o / 2 ^ (8 - (k + n)) / 2 ^ n) ++ bits n (o / 2 ^ (8 - (k + n)) % 2 ^ n)) ++ padding (length (bits k (o / 2 ^ (8 - (k + n)) / 2 ^ n) ++ bits n (o / 2 ^ (8 - (k + n)) % 2 ^ n))) ≡ bits 8 o
bits_of_both k n o some few none =
    let z = 8 - (k + n) in
    let both = o / 2 ^ z in
    let front : bits k (both / 2 ^ n) ++ bits n (both % 2 ^ n) ≡ bits (k + n) both =
    ap (λ (l : List ℕ). bits k (both / 2 ^ n) ++ l) (digits-mod 2 (omega arith) n both) ∙ sym (digits-add 2 k n both) in
    let count : length (bits (k + n) both) ≡ k + n = length-digits 2 (k + n) both in
    let unused : (8 - (k + n) % 8) % 8 ≡ z = omega arith in
    let zeros : padding (k + n) ≡ bits z o =
    ap (λ (i : ℕ). replicate i 0) unused ∙ sym (bits_zero z) ∙ ap (bits z) (sym none) ∙ digits-mod 2 (omega arith) z o in
    let all : (k + n) + z ≡ 8 = omega arith in
    ap (λ (l : List ℕ). l ++ padding (length l)) front ∙ ap (λ (i : ℕ). bits (k + n) both ++ padding i) count
    ∙ ap (λ (l : List ℕ). bits (k + n) both ++ l) zeros ∙ sym (digits-add 2 (k + n) z o) ∙ ap (λ (i : ℕ). bits i o) all

-- an octet with both numbers, before others
pub octet_filled : (k a n low o : ℕ) (us rest : List ℕ) → 0 < k + n → k + n ≤ 8 → o < 256 → o % 2 ^ (8 - (k + n)) ≡ 0 → o / 2 ^ (8 - (k + n)) / 2 ^ n ≤ a → low ≤ o / 2 ^ (8 - (k + n)) % 2 ^ n → us ≡ bits 8 o ++ rest
    → Spells octet_fields (FilledFields k a n low) (o / 2 ^ (8 - (k + n)) / 2 ^ n, o / 2 ^ (8 - (k + n)) % 2 ^ n) (packed us) (packed rest)
octet_filled k a n low o us rest some few octet none mark least e =
    let both = o / 2 ^ (8 - (k + n)) in
    let p : ℕ × ℕ = (both / 2 ^ n, both % 2 ^ n) in
    let code = λ (q : ℕ × ℕ). filled_bits (bits k q.0 ++ bits n q.1) in
    let one : code p ≡ o ∷ [] = ap packed (bits_of_both k n o some few none ∙ sym (append-nil (bits 8 o))) ∙ next_octet o [] octet in
    let less : both % 2 ^ n < 2 ^ n = mod-lt both (one-le-pow n 2 (omega arith)) in
    let same : Same (FilledFields k a n low) (FilledFields k a n low) = record { to = λ q cs h. h; from = λ q cs h. h } in
    let split : packed us ≡ code p ++ packed rest = ap packed e ∙ next_octet o rest octet ∙ ap (λ (l : List ℕ). l ++ packed rest) (sym one) in
    subst (λ (l : List ℕ). Spells octet_fields (FilledFields k a n low) p l (packed rest)) (sym split) (units_front code octet_fields same p (mark, least, less) (packed rest))

-- where there is no bit, there is no octet
pub none_filled : (k a n low : ℕ) (us : List ℕ) → k + n ≡ 0 → low < 2 ^ n → Spells octet_fields (FilledFields k a n low) (0, 0) us us
none_filled k a n low us none some =
    let no : k ≡ 0 = omega arith in
    let nor : n ≡ 0 = omega arith in
    let code = λ (q : ℕ × ℕ). filled_bits (bits k q.0 ++ bits n q.1) in
    let empty : code (0, 0) ≡ [] = ap (λ (i : ℕ). filled_bits (bits i 0 ++ bits n 0)) no ∙ ap (λ (i : ℕ). filled_bits (bits i 0)) nor in
    let one : 2 ^ n ≡ 1 = ap (λ (i : ℕ). 2 ^ i) nor in
    let same : Same (FilledFields k a n low) (FilledFields k a n low) = record { to = λ q cs h. h; from = λ q cs h. h } in
    subst (λ (l : List ℕ). Spells octet_fields (FilledFields k a n low) (0, 0) (l ++ us) us) empty (units_front code octet_fields same (0, 0) (omega arith, omega (arith, some, one), omega (arith, one)) us)
