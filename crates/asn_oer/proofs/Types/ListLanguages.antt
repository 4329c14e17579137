-- SEQUENCE OF in OER is a quantity and as many elements.
use Rattle.std.proofs.Common.{◌≡◌, ◌<◌, ℕ, List, [], ◌∷◌, ◌++◌, map, length, refl, sym, ap, ◌∙◌, subst}
use Rattle.std.specs.List.{AllByRecursion}
use Rattle.asn_values.specs.Datum.{Datum, Elements, no_elements, element, elements, element_list, elements_of}
use Rattle.asn_values.specs.Shape.{Shape, SizeRange, sequence_of}
use Rattle.asn_values.specs.Fits.{Fits, FitsLength}
use Rattle.asn_bits.specs.Numbers.{octet_count, least}
use Rattle.asn_bits.specs.Lengths.{octet_length, joined}
use Rattle.asn_bits.proofs.Octets.{length-digits}
use Rattle.asn_rules.specs.Chunks.{ones}
use Rattle.asn_rules.specs.Forks.{Same}
use Rattle.asn_rules.specs.Spellings.{SpelledBy}
use Rattle.asn_rules.proofs.Numbers.CountedCodes.{counted_octets}
use Rattle.asn_rules.proofs.Languages.Spellings.{same_after, same_then, same_map, same_spelled, map_spelled, row_spelled, then_spelled}
use Rattle.asn_rules.specs.Fields.{spelled}
use Rattle.asn_oer.specs.Oer.{oer}
use Rattle.asn_oer.specs.Constructed.{Values, Quantity, elements_told, Lists}
use Rattle.asn_oer.proofs.Types.StringLanguages.{length_few}

-- elements of a list are that list
list_of_elements : (ds : List Datum) → element_list (elements_of ds) ≡ ds
list_of_elements [] = refl
list_of_elements (d ∷ ds) = ap (λ (l : List Datum). d ∷ l) (list_of_elements ds)

-- and back
elements_of_list : (es : Elements) → elements_of (element_list es) ≡ es
elements_of_list no_elements = refl
elements_of_list (element d es) = ap (element d) (elements_of_list es)

-- a quantity is a length and the fewest octets
pub quantity_language : (S : ℕ → Type 0) → ((n : ℕ) → S n → octet_count n < 128) → Same (Quantity S) (SpelledBy S (λ n. ones (spelled (least n))))
quantity_language S few = same_after (counted_octets S few) (same_spelled (λ n h. h) (λ n h. h) (λ n h. ap (λ (k : ℕ). ones (octet_length k ++ least n)) (sym (length-digits 256 (octet_count n) n))))

-- a count of the size, and as many elements of the type
abbrev Told : Shape → SizeRange → ℕ × List Datum → Type 0
Told t s p = FitsLength s p.0 × ((length p.1 ≡ p.0) × AllByRecursion (Fits t) p.1)

-- SEQUENCE OF
pub sequence_of_language : (t : Shape) (s : SizeRange) → Same (Lists t s) (Values (sequence_of t s))
sequence_of_language t s = same_after (same_map (same_after (same_then (quantity_language (FitsLength s) (length_few s)) (λ n. row_spelled n)) then_spelled)) (map_spelled there back)
  where
    there : (p : ℕ × List Datum) → Told t s p → Fits (sequence_of t s) (elements_told p) × (ones (spelled (least p.0)) ++ joined (map (oer t) p.1) ≡ oer (sequence_of t s) (elements_told p))
    there p h = (
      subst (λ (l : List Datum). FitsLength s (length l) × AllByRecursion (Fits t) l) (sym (list_of_elements p.1)) (subst (FitsLength s) (sym h.1.0) h.0, h.1.1),
      ap (λ (n : ℕ). ones (spelled (least n)) ++ joined (map (oer t) p.1)) (sym h.1.0) ∙ ap (λ (l : List Datum). ones (spelled (least (length l))) ++ joined (map (oer t) l)) (sym (list_of_elements p.1)),
    )

    back : (v : Datum) → Fits (sequence_of t s) v → (p : ℕ × List Datum) × Told t s p × (v ≡ elements_told p)
    back (elements es) h = ((length (element_list es), element_list es), (h.0, (refl, h.1)), ap elements (sym (elements_of_list es)))
    back _ h = absurd h
