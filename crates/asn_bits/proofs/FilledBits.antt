-- Bits filled up to whole octets and packed: the octets give the bits back.
use Rattle.std.proofs.Common.{◌≡◌, ◌<◌, ◌+◌, ◌-◌, ◌*◌, ◌/◌, ◌%◌, ℕ, zero, suc, List, [], ◌∷◌, ◌++◌, length, replicate, refl, sym, ◌∙◌, ap, arith, length-append}
use Rattle.std.proofs.lemmas.List.{length-replicate}
use Rattle.std.specs.List.{AllByRecursion}
use Rattle.asn_bits.specs.Numbers.{bits, padding, packed, unpacked}
use Rattle.asn_bits.proofs.Codes.{equal_fronts}
use Rattle.asn_bits.proofs.Octets.{packed_octets}

-- each is 0 or 1
abbrev pub AreBits : List ℕ → Type 0
AreBits us = AllByRecursion (λ u. u < 2) us

-- ---- lists of bits

-- bits after bits are bits
pub bits_append : (xs ys : List ℕ) → AreBits xs → AreBits ys → AreBits (xs ++ ys)
bits_append [] ys p q = q
bits_append (x ∷ xs) ys p q = (p.0, bits_append xs ys p.1 q)

-- zeros are bits
zeros : (n : ℕ) → AreBits (replicate n 0)
zeros zero = tt
zeros (suc n) = (omega arith, zeros n)

-- what fills up the last octet is bits
pub padding_bits : (n : ℕ) → AreBits (padding n)
padding_bits n = zeros ((8 - n % 8) % 8)

-- how many zeros fill up the last octet
pub length-padding : (n : ℕ) → length (padding n) ≡ (8 - n % 8) % 8
length-padding n = length-replicate ((8 - n % 8) % 8) 0

-- ---- whole octets

-- eight bits come back from their octet
octet_of : (a b c d e f g h : ℕ) → a < 2 → b < 2 → c < 2 → d < 2 → e < 2 → f < 2 → g < 2 → h < 2
    → bits 8 (128 * a + 64 * b + 32 * c + 16 * d + 8 * e + 4 * f + 2 * g + h) ≡ a ∷ b ∷ c ∷ d ∷ e ∷ f ∷ g ∷ h ∷ []
octet_of a b c d e f g h pa pb pc pd pe pf pg ph =
    let n = 128 * a + 64 * b + 32 * c + 16 * d + 8 * e + 4 * f + 2 * g + h in
    let qa : (n / 128) % 2 ≡ a = omega arith in
    let qb : (n / 64) % 2 ≡ b = omega arith in
    let qc : (n / 32) % 2 ≡ c = omega arith in
    let qd : (n / 16) % 2 ≡ d = omega arith in
    let qe : (n / 8) % 2 ≡ e = omega arith in
    let qf : (n / 4) % 2 ≡ f = omega arith in
    let qg : (n / 2) % 2 ≡ g = omega arith in
    let qh : (n / 1) % 2 ≡ h = omega arith in
    cc (qa, qb, qc, qd, qe, qf, qg, qh)

-- bits that fill octets come back
pub unpacked-packed : (us : List ℕ) → AreBits us → length us % 8 ≡ 0 → unpacked (packed us) ≡ us
unpacked-packed (a ∷ b ∷ c ∷ d ∷ e ∷ f ∷ g ∷ h ∷ rest) p l =
    let again = unpacked-packed rest p.1.1.1.1.1.1.1.1 (omega arith) in
    let here = octet_of a b c d e f g h p.0 p.1.0 p.1.1.0 p.1.1.1.0 p.1.1.1.1.0 p.1.1.1.1.1.0 p.1.1.1.1.1.1.0 p.1.1.1.1.1.1.1.0 in
    cc (here, again)
unpacked-packed [] p l = refl
unpacked-packed (a ∷ []) p l = absurd (omega arith)
unpacked-packed (a ∷ b ∷ []) p l = absurd (omega arith)
unpacked-packed (a ∷ b ∷ c ∷ []) p l = absurd (omega arith)
unpacked-packed (a ∷ b ∷ c ∷ d ∷ []) p l = absurd (omega arith)
unpacked-packed (a ∷ b ∷ c ∷ d ∷ e ∷ []) p l = absurd (omega arith)
unpacked-packed (a ∷ b ∷ c ∷ d ∷ e ∷ f ∷ []) p l = absurd (omega arith)
unpacked-packed (a ∷ b ∷ c ∷ d ∷ e ∷ f ∷ g ∷ []) p l = absurd (omega arith)

-- an octet for each eight bits
pub length-packed : (us : List ℕ) → length us % 8 ≡ 0 → 8 * length (packed us) ≡ length us
length-packed (a ∷ b ∷ c ∷ d ∷ e ∷ f ∷ g ∷ h ∷ rest) l = let again = length-packed rest (omega arith) in omega arith
length-packed [] l = refl
length-packed (a ∷ []) l = absurd (omega arith)
length-packed (a ∷ b ∷ []) l = absurd (omega arith)
length-packed (a ∷ b ∷ c ∷ []) l = absurd (omega arith)
length-packed (a ∷ b ∷ c ∷ d ∷ []) l = absurd (omega arith)
length-packed (a ∷ b ∷ c ∷ d ∷ e ∷ []) l = absurd (omega arith)
length-packed (a ∷ b ∷ c ∷ d ∷ e ∷ f ∷ []) l = absurd (omega arith)
length-packed (a ∷ b ∷ c ∷ d ∷ e ∷ f ∷ g ∷ []) l = absurd (omega arith)

-- as many of them are a code
pub packed_code : (us ws r s : List ℕ) → AreBits us → AreBits ws → length us ≡ length ws → length us % 8 ≡ 0 → packed us ++ r ≡ packed ws ++ s → (us ≡ ws) × (r ≡ s)
packed_code us ws r s p q l m e =
    let n : length ws % 8 ≡ 0 = omega arith in
    let w = equal_fronts (packed us) (packed ws) r s (omega (arith, length-packed us m, length-packed ws n)) e in
    (sym (unpacked-packed us p m) ∙ ap unpacked w.0 ∙ unpacked-packed ws q n, w.1)

-- ---- bits filled up with zeros

-- bits and the zeros that fill up their last octet
abbrev pub filled_up : List ℕ → List ℕ
filled_up bs = bs ++ padding (length bs)

-- filled up, bits are bits
pub filled_up_bits : (bs : List ℕ) → AreBits bs → AreBits (filled_up bs)
filled_up_bits bs h = bits_append bs (padding (length bs)) h (padding_bits (length bs))

-- and fill octets
pub filled_up_fills : (bs : List ℕ) → length (filled_up bs) % 8 ≡ 0
filled_up_fills bs = omega (arith, length-append bs (padding (length bs)), length-padding (length bs))

-- so their packing is octets
pub filled_up_octets : (bs : List ℕ) → AreBits bs → AllByRecursion (λ o. o < 256) (packed (filled_up bs))
filled_up_octets bs h = packed_octets (filled_up bs) (filled_up_bits bs h)

-- as many bits are a code
pub filled_up_code : (bs cs r s : List ℕ) → AreBits bs → AreBits cs → length bs ≡ length cs → packed (filled_up bs) ++ r ≡ packed (filled_up cs) ++ s → (bs ≡ cs) × (r ≡ s)
filled_up_code bs cs r s p q l e =
    let same : length (filled_up bs) ≡ length (filled_up cs) =
    omega (arith, length-append bs (padding (length bs)), length-append cs (padding (length cs)), length-padding (length bs), length-padding (length cs)) in
    let w = packed_code (filled_up bs) (filled_up cs) r s (filled_up_bits bs p) (filled_up_bits cs q) same (filled_up_fills bs) e in
    ((equal_fronts bs cs (padding (length bs)) (padding (length cs)) l w.0).0, w.1)

-- and so are bits of which the number of unused ones is known
pub filled_up_once : (bs cs : List ℕ) → AreBits bs → AreBits cs → length (padding (length bs)) ≡ length (padding (length cs)) → packed (filled_up bs) ≡ packed (filled_up cs) → bs ≡ cs
filled_up_once bs cs p q l e =
    let many : length (packed (filled_up bs)) ≡ length (packed (filled_up cs)) = ap length e in
    let same : length bs ≡ length cs =
    omega (arith, length-packed (filled_up bs) (filled_up_fills bs), length-packed (filled_up cs) (filled_up_fills cs), length-append bs (padding (length bs)), length-append cs (padding (length cs))) in
    (filled_up_code bs cs [] [] p q same (ap (λ t. t ++ []) e)).0
