-- Bits that fill octets, and those after their length and the number of unused ones, as they are read.
use Rattle.std.proofs.Common.{◌≡◌, ◌≤◌, ℕ, Bool, true, false, Some, List, length, refl, subst, arith}
use Rattle.asn_values.specs.Datum.{bit_list}
use Rattle.asn_values.specs.Shape.{SizeRange, bit_string}
use Rattle.asn_values.specs.Fits.{FitsLength, max_len}
use Rattle.asn_values.specs.Profile.{is_fixed_size, large_size}
use Rattle.asn_bits.specs.Sets.{Between}
use Rattle.asn_rules.specs.Chunks.{Chunk}
use Rattle.asn_rules.specs.Forks.{Same}
use Rattle.asn_rules.specs.Languages.{Map}
use Rattle.asn_rules.specs.declared.number_reader.NumberSet.{NumberSet}
use Rattle.asn_rules.proofs.Languages.Forks.{same_flip}
use Rattle.asn_rules.proofs.Languages.Leads.{Leads, leads_on, leads_map, leads_same}
use Rattle.asn_rules.proofs.Languages.Spellings.{same_after, same_spelled}
use Rattle.asn_rules.specs.OctetStrings.{PackedBits, VariableBits}
use Rattle.asn_walk.specs.Sizes.{AreCounts}
use Rattle.asn_oer.specs.Oer.{oer_fields}
use Rattle.asn_oer.specs.Reading.{ValuesOf}
use Rattle.asn_oer.proofs.Types.BitLanguages.{bit_strings, variable_language}
use Rattle.asn_walk.proofs.Counts.{counts_there, counts_back}

-- ---- bits of a size

module _ (s : SizeRange) (small : large_size (Some s) ≡ false) where
  abbrev sized : Bool → List Bool → List Chunk → Type 0
  sized t = elim t [ true ↦ PackedBits s.low | false ↦ VariableBits (FitsLength s) ]

  whole_string : Same (Map bit_list (sized (is_fixed_size s))) (ValuesOf (bit_string s))
  whole_string = same_after (bit_strings s small) (same_spelled (λ v h. (h, tt)) (λ v h. h.0) (λ v h. refl))

  string_leads : (t : Bool) → is_fixed_size s ≡ t → (us : List ℕ) → Leads oer_fields (sized t) us bit_list (ValuesOf (bit_string s)) us
  string_leads t e us =
      subst (λ (b : Bool). Leads oer_fields (sized b) us bit_list (ValuesOf (bit_string s)) us) e (leads_on (leads_map oer_fields bit_list (sized (is_fixed_size s)) us) (leads_same oer_fields us whole_string))

  pub fixed_leads : is_fixed_size s ≡ true → (us : List ℕ) → Leads oer_fields (PackedBits s.low) us bit_list (ValuesOf (bit_string s)) us
  fixed_leads e us = string_leads true e us

  module _ (t : NumberSet) (are : AreCounts s t) where
    -- the ends of the counts are some of them
    pub counts_few : (t.low ≤ t.high) × (t.high ≤ max_len)
    counts_few = (are.some.1, (counts_there s t are t.high (are.some.1, omega arith)).0)

    pub variable_leads : is_fixed_size s ≡ false → (us : List ℕ) → Leads oer_fields (VariableBits (Between t.low t.high)) us bit_list (ValuesOf (bit_string s)) us
    variable_leads e us = leads_on (leads_same oer_fields us again) (string_leads false e us)
      where
        again : Same (VariableBits (Between t.low t.high)) (VariableBits (FitsLength s))
        again = same_after (variable_language (Between t.low t.high) (λ n h. (counts_there s t are n h).0)) (same_after (same_spelled (λ bs h. counts_there s t are (length bs) h) (λ bs h. counts_back s t are (length bs) h) (λ bs h. refl)) (same_flip (variable_language (FitsLength s) (λ n h. h.0))))
