-- The bits that stand in PER spellings are bits: of lengths, numbers, items, characters and presence bits.
use Rattle.std.proofs.Common.{◌≡◌, ◌-◌, ◌*◌, ◌/◌, ℕ, zero, suc, ℤ, Bool, true, false, List, [], ◌∷◌, ◌++◌, length, map, take, drop, Option, Some, None, refl, sym, ap, subst, arith, nat_lt}
use Rattle.std.specs.List.{AllByRecursion}
use Rattle.asn_values.specs.Shape.{Alphabet, Range, ia5, numeric, visible, Label, MoreLabels, has_more_labels}
use Rattle.asn_values.specs.Fits.{in_range}
use Rattle.asn_bits.specs.Numbers.{bits, least, least_signed, above}
use Rattle.asn_bits.specs.Lengths.{Length, last_length, lengths_within, lengths, joined, with_lengths}
use Rattle.asn_bits.proofs.GeneralLengths.{all_take}
use Rattle.asn_bits.proofs.FilledBits.{AreBits, bits_append}
use Rattle.asn_per.specs.Per.{spelled, unconstrained, small, ranged, after_mark, whole_number, character_bits, enumeration}

-- ---- numbers in a given count of bits

-- a number in k bits
pub digits_bits : (k n : ℕ) → AreBits (bits k n)
digits_bits zero n = tt
digits_bits (suc k) n = (omega arith, digits_bits k n)

-- ---- general lengths

-- the length that the last items follow
last_bits : (n : ℕ) → AreBits (last_length n).bits
last_bits n = go (nat_lt n 128) refl
  where
    go : (b : Bool) → nat_lt n 128 ≡ b → AreBits (last_length n).bits
    go true e = rw (e, last_length) (omega arith, digits_bits 7 n)
    go false e = rw (e, last_length) (omega arith, (omega arith, digits_bits 14 n))

-- each length is bits
abbrev pub AllLengths : List Length → Type 0
AllLengths ls = AllByRecursion (λ l. AreBits l.bits) ls

-- all lengths of n items
lengths_within_bits : (f n : ℕ) → AllLengths (lengths_within f n)
lengths_within_bits zero n = (last_bits n, tt)
lengths_within_bits (suc f) n = go (nat_lt n 16384) refl (λ m. lengths_within_bits f (n - 16384 * m))
  where
    go : (b : Bool) → nat_lt n 16384 ≡ b → ((m : ℕ) → AllLengths (lengths_within f (n - 16384 * m))) → AllLengths (lengths_within (suc f) n)
    go true e h = rw (e, lengths_within) (last_bits n, tt)
    go false e h = rw (e, lengths_within) ((omega arith, (omega arith, digits_bits 6 _)), h _)

-- the lengths of n items are bits
pub lengths_bits : (n : ℕ) → AllLengths (lengths n)
lengths_bits n = lengths_within_bits (n / 16384) n

-- lists of bits, one after the other
joined_bits : (xs : List (List ℕ)) → AllByRecursion AreBits xs → AreBits (joined xs)
joined_bits [] h = tt
joined_bits (x ∷ xs) h = bits_append x (joined xs) h.0 (joined_bits xs h.1)

-- a list as it is
same_map : (us : List ℕ) → map (λ u. u) us ≡ us
same_map [] = refl
same_map (u ∷ us) = ap (λ t. u ∷ t) (same_map us)

-- items that are bits, under lengths
with_lengths_bits : (ls : List Length) (items : List (List ℕ)) → AllLengths ls → AllByRecursion AreBits items → AreBits (with_lengths (λ u. u) ls items)
with_lengths_bits [] items p q = tt
with_lengths_bits (l ∷ ls) items p q =
    let parts = all_take AreBits l.items items q in
    bits_append (map (λ u. u) l.bits) (joined (take l.items items) ++ with_lengths (λ u. u) ls (drop l.items items)) (subst AreBits (sym (same_map l.bits)) p.0)
    (bits_append (joined (take l.items items)) (with_lengths (λ u. u) ls (drop l.items items)) (joined_bits (take l.items items) parts.0) (with_lengths_bits ls (drop l.items items) p.1 parts.1))

-- octets in 8 bits each
octets_bits : (os : List ℕ) → AllByRecursion AreBits (map (λ o. map (λ u. u) (bits 8 o)) os)
octets_bits [] = tt
octets_bits (o ∷ os) = (digits_bits 8 o, octets_bits os)

-- octets under their general length are bits
pub spelled_bits : (os : List ℕ) → AreBits (spelled os)
spelled_bits os =
    let items = map (λ o. map (λ u. u) (bits 8 o)) os in
    with_lengths_bits (lengths (length items)) items (lengths_bits (length items)) (octets_bits os)

-- ---- numbers, items and characters

-- two forms after an extension mark
mark_bits : (m i : Bool) (us ws : List ℕ) → AreBits us → AreBits ws → AreBits (after_mark (λ u. u) m i us ws)
mark_bits false i us ws p q = p
mark_bits true true us ws p q = (omega arith, p)
mark_bits true false us ws p q = (omega arith, q)

-- a number between bounds
ranged_bits : (low high : Option ℤ) (z : ℤ) → AreBits (ranged low high z)
ranged_bits (Some low) (Some high) z = digits_bits _ _
ranged_bits (Some low) None z = spelled_bits (least (above low z))
ranged_bits None high z = spelled_bits (least_signed z)

-- an INTEGER
pub number_bits : (b : Range) (z : ℤ) → AreBits (whole_number b z)
number_bits b z = mark_bits b.extensible (in_range b z) (ranged b.low b.high z) (unconstrained z) (ranged_bits b.low b.high z) (spelled_bits (least_signed z))

-- a normally small number
pub small_bits : (n : ℕ) → AreBits (small n)
small_bits n = go (nat_lt n 64) refl
  where
    go : (b : Bool) → nat_lt n 64 ≡ b → AreBits (small n)
    go true e = rw (e, small) (omega arith, digits_bits 6 n)
    go false e = rw (e, small) (omega arith, spelled_bits (least n))

-- an ENUMERATED
pub item_bits : (root : List Label) (more : MoreLabels) (p : ℕ) → AreBits (enumeration root more p)
item_bits root more p = mark_bits (has_more_labels more) (nat_lt p (length root)) _ (small (p - length root)) (digits_bits _ _) (small_bits (p - length root))

-- a character
pub character_bits_are : (k : Alphabet) (c : ℕ) → AreBits (character_bits k c)
character_bits_are ia5 c = digits_bits 7 c
character_bits_are visible c = digits_bits 7 c
character_bits_are numeric c = digits_bits 4 _
