-- What stands in front of other parts has few octets, and tells where it ends.
use Rattle.std.proofs.Common.{◌≡◌, ◌≤◌, ◌<◌, ◌+◌, ◌⊎◌, ⊎_elim, inl, inr, ℕ, suc, Bool, true, false, List, [], ◌∷◌, ◌++◌, length, Option, Some, is_some, ap, ◌∙◌, arith, length-append}
use Rattle.asn_values.specs.Fits.{FitsLength}
use Rattle.asn_values.specs.Profile.{is_fixed_size}
use Rattle.asn_values.specs.Shape.{SizeRange}
use Rattle.asn_bits.specs.Lengths.{octet_length}
use Rattle.asn_bits.specs.Numbers.{bits, octet_count, padding}
use Rattle.asn_bits.specs.Sets.{InSet}
use Rattle.asn_bits.proofs.FilledBits.{filled_up, filled_up_fills, length-packed, length-padding}
use Rattle.asn_bits.proofs.LengthsInOctets.{length_cases}
use Rattle.asn_bits.proofs.Octets.{length-digits, octet_count_below}
use Rattle.asn_rules.specs.Chunks.{Chunk, one, ones}
use Rattle.asn_rules.specs.Components.{extension_bit}
use Rattle.asn_rules.specs.Fields.{OctetLength}
use Rattle.asn_rules.specs.Filled.{filled_bits, filled_octets}
use Rattle.asn_rules.specs.Forks.{Branch, Fork}
use Rattle.asn_rules.specs.General.{Few, Many, Blocks, Header}
use Rattle.asn_rules.specs.Languages.{Lawful, Nothing, Plain}
use Rattle.asn_rules.specs.Padding.{Fixed}
use Rattle.asn_rules.proofs.Law.Entries.{few_extension}
use Rattle.asn_rules.proofs.Numbers.OctetLengths.{length_spelled, length_lawful}
use Rattle.asn_rules.proofs.Languages.Parts.{nothing_lawful}
use Rattle.asn_walk.specs.Ahead.{Ahead, items, lengths, end}
use Rattle.asn_walk.specs.Coding.{PreambleOf, AdditionBitmapOf, AreFew, IndexOf}
use Rattle.asn_walk.specs.Sizes.{Count}
use Rattle.asn_walk_feed.specs.Feeding.{NextOf}
use Rattle.asn_oer.specs.Constructed.{Quantity}
use Rattle.asn_oer.specs.Oer.{tag, variable_bits}
use Rattle.asn_oer.specs.Walk.{oer_coding, tag_of}
use Rattle.asn_oer.proofs.Law.TagForms.{few_tag_octets}
use Rattle.asn_oer.proofs.Read.IndexReading.{tag_within}
use Rattle.asn_oer.proofs.Read.PreambleReading.{bitmap_front, bitmap_is}
use Rattle.asn_oer.proofs.InPieces.Brief.{HasFew, few_nothing, few_map, few_then, few_more, few_spelled, few_digits, few_same}

-- ---- lengths

-- a length of the profile has at most five octets
length_few : (n : ℕ) → n < 4294967296 → length (octet_length n) ≤ 5
length_few n h =
    let c : octet_count n ≤ 4 = octet_count_below n 4 (omega arith) (omega (arith, h)) in
    ⊎_elim
    (λ a. omega (arith, ap length a.1))
    (λ b. omega (arith, ap length b.1, length-digits 256 (octet_count n) n, c))
    (length_cases n)

short_count : (n : ℕ) → n < 4294967296 → octet_count n < 128
short_count n h = (let c : octet_count n ≤ 4 = octet_count_below n 4 (omega arith) (omega (arith, h)) in omega (arith, c))

pub octet_length_few : (S : ℕ → Type 0) → ((n : ℕ) → S n → n < 4294967296) → HasFew 5 (OctetLength S)
octet_length_few S small =
    few_same (length_spelled S (λ n s. short_count n (small n s))) (few_spelled octet_length 5 (λ n s. length_few n (small n s)))

-- how many items a string of a size has
pub count_few : (s : SizeRange) → HasFew 5 (Count s)
count_few s = go (is_fixed_size s)
  where
    go : (t : Bool) → HasFew {V = ℕ} 5 (elim t [ true ↦ Nothing s.low | false ↦ OctetLength (FitsLength s) ])
    go true = few_more 0 5 (omega arith) (few_nothing s.low)
    go false = octet_length_few (FitsLength s) (λ n h. omega (arith, h.0))

pub count_lawful : (s : SizeRange) → Lawful (Count s)
count_lawful s = go (is_fixed_size s)
  where
    go : (t : Bool) → Lawful {V = ℕ} (elim t [ true ↦ Nothing s.low | false ↦ OctetLength (FitsLength s) ])
    go true = nothing_lawful s.low
    go false = length_lawful (FitsLength s)

-- the quantity of a list
quantity_few : (S : ℕ → Type 0) → ((n : ℕ) → S n → n < 4294967296) → HasFew 5 (Quantity S)
quantity_few S small = few_map (few_then 1 4 (few_digits 256 1 _) (λ k. record {
  units = λ n cs h.
      let m = h.spelt.member in
      let c : octet_count n ≤ 4 = octet_count_below n 4 (omega arith) (omega (arith, small n m.member)) in
      (h.units, h.same, omega (arith, h.spelt.digits.count, m.count, c));
}))

pub list_start_few : (s : SizeRange) → HasFew 16 (oer_coding.list_start s)
unfolding oer_coding
list_start_few s = few_map (few_more 5 16 (omega arith) (quantity_few (FitsLength s) (λ n h. omega (arith, h.0))))

-- ---- bits that are filled up

filled_few : (bs : List ℕ) → length bs ≤ 65 → length (filled_bits bs) ≤ 9
filled_few bs h =
    omega (arith, length-packed (filled_up bs) (filled_up_fills bs), length-append bs (padding (length bs)), length-padding (length bs), h)

pub preamble_few : (n : ℕ) (more : Option ℕ) → n ≤ 64 → HasFew 16 (PreambleOf oer_coding n more)
unfolding oer_coding
preamble_few n more h = few_spelled (λ p. filled_bits (extension_bit (is_some more) p.0 ++ bits n p.1)) 16 (λ p g.
    (let l = filled_few (extension_bit (is_some more) p.0 ++ bits n p.1) (omega (arith, length-append (extension_bit (is_some more) p.0) (bits n p.1), few_extension (is_some more) p.0, length-digits 2 n p.1, h)) in
    omega (arith, l)))

pub bitmap_few : (n : ℕ) → n ≤ 64 → HasFew 16 (AdditionBitmapOf oer_coding n)
unfolding oer_coding
bitmap_few n h = few_spelled (λ m. variable_bits (bits n m)) 16 (λ m g.
    (let l = filled_few (bits n m) (omega (arith, length-digits 2 n m, h)) in
    let f = length_few (suc (filled_octets n)) (omega (arith, h)) in
    let front : length (bitmap_front n) ≡ length (octet_length (suc (filled_octets n))) + 1 = length-append (octet_length (suc (filled_octets n))) (length (padding n) ∷ []) in
    omega (arith, ap length (bitmap_is n m), length-append (bitmap_front n) (filled_bits (bits n m)), l, f, front)))

-- ---- tags

pub index_few : (root : ℕ) (more : Option ℕ) → AreFew root more → HasFew 16 (IndexOf oer_coding root more)
unfolding oer_coding
index_few root more few = few_spelled (λ i. tag (tag_of root i)) 16 (λ i h.
    (let w = tag_within root more i few h in
    let l = few_tag_octets (tag_of root i) (omega (arith, w.0, w.1)) in
    omega (arith, l)))

-- ---- lengths between fragments, which OER has none of

header_few : (S : ℕ → Type 0) → HasFew 16 (Header S)
header_few S = few_map (record { units = λ v cs h. outer v cs h.side })
  where
    inner : (a : ℕ ⊎ ℕ) (x : List Chunk) → Branch 0 inl (Plain (InSet 14 (Many S))) a x ⊎ Branch 1 inr (Plain (InSet 6 (Blocks S))) a x → (us : List ℕ) × (x ≡ ones us) × (length us ≤ 15)
    inner a x (inl b) = (0 ∷ b.spelt.units, b.same ∙ ap (λ (cs : List Chunk). one 0 ∷ cs) b.spelt.same, omega (arith, b.spelt.spelt.digits.count))
    inner a x (inr b) = (1 ∷ b.spelt.units, b.same ∙ ap (λ (cs : List Chunk). one 1 ∷ cs) b.spelt.same, omega (arith, b.spelt.spelt.digits.count))

    outer : (a : ℕ ⊎ (ℕ ⊎ ℕ)) (x : List Chunk) → Branch 0 inl (Plain (InSet 7 (Few S))) a x ⊎ Branch 1 inr (Fork (Plain (InSet 14 (Many S))) (Plain (InSet 6 (Blocks S)))) a x → (us : List ℕ) × (x ≡ ones us) × (length us ≤ 16)
    outer a x (inl b) = (0 ∷ b.spelt.units, b.same ∙ ap (λ (cs : List Chunk). one 0 ∷ cs) b.spelt.same, omega (arith, b.spelt.spelt.digits.count))
    outer a x (inr b) = (let i = inner b.value b.rest b.spelt.side in (1 ∷ i.0, b.same ∙ ap (λ (cs : List Chunk). one 1 ∷ cs) i.1, omega (arith, i.2)))

pub next_few : (a : Ahead) → HasFew 16 (NextOf a)
next_few (items n) = few_more 0 16 (omega arith) (few_nothing (Some n, end))
next_few end = record { units = λ p cs h. ([], h.empty, omega arith) }
next_few (lengths counts so_far closed) = few_map (header_few _)

-- ---- what fills up an encoding: nothing

pub filling_few : HasFew 16 (Fixed [])
filling_few = record { units = λ v cs h. (h.units, h.same, omega (arith, ap length h.spelt.same)) }
