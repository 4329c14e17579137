-- The octets of a complete encoding: their bits are those of the spelling and of the filling, and where the bits
-- tell the value, so do the octets.
use Rattle.std.proofs.Common.{◌≡◌, ◌≢◌, ◌≤◌, ◌+◌, ◌%◌, ℕ, zero, suc, List, [], ◌∷◌, ◌++◌, length, refl, sym, ◌∙◌, ap, subst, arith, append_assoc, length-append}
use Rattle.std.proofs.lemmas.List.{append_cancel_left}
use Rattle.asn_bits.specs.Numbers.{bits, packed, unpacked}
use Rattle.asn_bits.proofs.Codes.{IsCode}
use Rattle.asn_bits.proofs.Octets.{packed_octets}
use Rattle.asn_bits.proofs.FilledBits.{AreBits, bits_append, padding_bits, length-padding, unpacked-packed}
use Rattle.asn_rules.specs.Chunks.{Chunk, ones, flat}
use Rattle.asn_rules.specs.Laws.{AreOctets}
use Rattle.asn_rules.proofs.Live.Flat.{flat-append, flat-ones}
use Rattle.asn_per.specs.Per.{spelled, filling, filled, complete}
use Rattle.asn_per.proofs.Encodings.Bits.{digits_bits}

-- the bits of octets are those of each octet, one after the other
pub unpacked-append : (os ps : List ℕ) → unpacked (os ++ ps) ≡ unpacked os ++ unpacked ps
unpacked-append [] ps = refl
unpacked-append (o ∷ os) ps = ap (λ t. bits 8 o ++ t) (unpacked-append os ps)

-- ---- filling

-- filling is bits
filling_bits : (n : ℕ) → AreBits (filling n)
filling_bits zero = digits_bits 8 0
filling_bits (suc n) = padding_bits (suc n)

-- what is filled is whole octets
filling_fills : (n : ℕ) → (n + length (filling n)) % 8 ≡ 0
filling_fills zero = refl
filling_fills (suc n) = omega (arith, length-padding (suc n))

-- the bits of a complete encoding
abbrev pub full : List Chunk → List ℕ
full cs = flat spelled cs ++ filling (length (flat spelled cs))

-- as chunks and as bits a complete encoding is the same
pub filled_is : (cs : List Chunk) → flat spelled (filled cs) ≡ full cs
filled_is cs =
    flat-append spelled cs (ones (filling (length (flat spelled cs))))
    ∙ ap (λ t. flat spelled cs ++ t) (flat-ones spelled (filling (length (flat spelled cs))))

-- its octets are those of its bits
pub complete_is : (cs : List Chunk) → complete cs ≡ packed (full cs)
complete_is cs = ap packed (filled_is cs)

-- its bits fill octets
pub full_fills : (cs : List Chunk) → length (full cs) % 8 ≡ 0
full_fills cs = ap (λ n. n % 8) (length-append (flat spelled cs) (filling (length (flat spelled cs)))) ∙ filling_fills (length (flat spelled cs))

-- and are not none
full_not_empty : (us : List ℕ) → us ++ filling (length us) ≢ []
full_not_empty [] e = cc
full_not_empty (u ∷ us) e = cc

-- ---- of chunks that are all bits

module _ (cs : List Chunk) (h : AreBits (flat spelled cs)) where
  -- a complete encoding is bits
  full_bits : AreBits (full cs)
  full_bits = bits_append (flat spelled cs) (filling (length (flat spelled cs))) h (filling_bits (length (flat spelled cs)))

  -- a complete encoding is octets
  pub complete_octets : AreOctets (complete cs)
  complete_octets = subst AreOctets (sym (complete_is cs)) (packed_octets (full cs) full_bits)

  -- whose bits are those of the spelling and of the filling
  pub complete_full : unpacked (complete cs) ≡ full cs
  complete_full = ap unpacked (complete_is cs) ∙ unpacked-packed (full cs) full_bits (full_fills cs)

  -- it has at least one octet
  pub complete_some : 1 ≤ length (complete cs)
  complete_some = go (complete cs) complete_full
    where
      go : (os : List ℕ) → unpacked os ≡ full cs → 1 ≤ length os
      go [] e = absurd (full_not_empty (flat spelled cs) (sym e))
      go (o ∷ os) e = omega arith

  -- with more octets after it
  complete_bits : (r : List ℕ) → unpacked (complete cs ++ r) ≡ flat spelled cs ++ (filling (length (flat spelled cs)) ++ unpacked r)
  complete_bits r =
      unpacked-append (complete cs) r
      ∙ ap (λ t. t ++ unpacked r) complete_full
      ∙ append_assoc (flat spelled cs) (filling (length (flat spelled cs))) (unpacked r)

-- where spellings tell the value, so do complete encodings
pub complete_code : {A : Type 0} (P : A → Type 0) (code : A → List Chunk) → ((x : A) → P x → AreBits (flat spelled (code x))) → IsCode P (λ x. flat spelled (code x)) → IsCode P (λ x. complete (code x))
complete_code P code b h x y r s p q e =
    let w = h x y _ _ p q (sym (complete_bits (code x) (b x p) r) ∙ ap unpacked e ∙ complete_bits (code y) (b y q) s) in
    (w.0, append_cancel_left (complete (code x)) r s (e ∙ ap (λ z. complete (code z) ++ s) (sym w.0)))
