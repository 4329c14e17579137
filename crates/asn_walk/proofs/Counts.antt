-- The counts that a size leaves, as lengths in octets.
use Rattle.std.proofs.Common.{◌≡◌, ◌-◌, ℕ, Bool, true, false, nat_lt, List, Option, None, Some, inl, inr, sym, subst}
use Rattle.asn_values.specs.Fits.{FitsLength}
use Rattle.asn_values.specs.Profile.{is_fixed_size}
use Rattle.asn_values.specs.Shape.{SizeRange}
use Rattle.asn_bits.specs.Sets.{Between, InDigits}
use Rattle.asn_rules.specs.Fields.{LongLength, FirstOctet, OctetLength, octet_fields}
use Rattle.asn_rules.specs.Forks.{Same}
use Rattle.asn_rules.specs.Languages.{Spells, Nothing, Plain}
use Rattle.asn_rules.specs.NumberSets.{IsNot}
use Rattle.asn_rules.specs.declared.number_reader.NumberSet.{NumberSet}
use Rattle.asn_rules.proofs.Languages.Leads.{Leads, leads_same}
use Rattle.asn_rules.proofs.Languages.Parts.{nothing_spells}
use Rattle.asn_rules.proofs.Languages.Spellings.{same_map, same_then}
use Rattle.asn_rules.proofs.Plain.NumberSets.{same_set}
use Rattle.asn_walk.specs.Sizes.{AreCounts, Count}

-- a set of lengths of the same numbers
first_again : {S T : ℕ → Type 0} → ((n : ℕ) → S n → T n) → (b : ℕ) → FirstOctet S b → FirstOctet T b
first_again f b (inl h) = inl (h.0, f b h.1)
first_again f b (inr h) = inr (h.0, record { few = h.1.few; number = h.1.number; length = long_again f (b - 128) h.1.number h.1.length })
  where
    long_again : {S T : ℕ → Type 0} → ((n : ℕ) → S n → T n) → (k n : ℕ) → LongLength S k n → LongLength T k n
    long_again f k n h = record { member = f n h.member; large = h.large; count = h.count }

same_length : {S T : ℕ → Type 0} → ((n : ℕ) → S n → T n) → ((n : ℕ) → T n → S n) → Same (OctetLength S) (OctetLength T)
same_length {S} {T} f g = same_map (same_then (same_set 256 1 (first_again f) (first_again g)) (λ b. after b (nat_lt b 128)))
  where
    after : (b : ℕ) (t : Bool) → Same {V = ℕ} (elim t [ true ↦ Nothing b | false ↦ Plain (InDigits 256 (b - 128) (LongLength S (b - 128))) ]) (elim t [ true ↦ Nothing b | false ↦ Plain (InDigits 256 (b - 128) (LongLength T (b - 128))) ])
    after b true = record { to = λ v cs h. h; from = λ v cs h. h }
    after b false = same_set 256 (b - 128) (λ n h. record { member = f n h.member; large = h.large; count = h.count }) (λ n h. record { member = g n h.member; large = h.large; count = h.count })

-- the counts of a size are those between the ends
pub counts_there : (s : SizeRange) (t : NumberSet) → AreCounts s t → (n : ℕ) → Between t.low t.high n → FitsLength s n
counts_there s t are n h = are.there n (h.0, h.1, any t.excluded n are.none_excluded)
  where
    any : (e : Option ℕ) (n : ℕ) → e ≡ None → IsNot e n
    any None n e = tt
    any (Some x) n e = absurd (let h = e in cc)

pub counts_back : (s : SizeRange) (t : NumberSet) → AreCounts s t → (n : ℕ) → FitsLength s n → Between t.low t.high n
counts_back s t are n h = (let w = are.back n h in (w.0, w.1))

-- ---- how many items there are

-- as many as the size says
pub fixed_count : (s : SizeRange) (us : List ℕ) → is_fixed_size s ≡ true → Spells octet_fields (Count s) s.low us us
fixed_count s us e = subst (λ (t : Bool). Spells octet_fields (elim t [ true ↦ Nothing s.low | false ↦ OctetLength (FitsLength s) ]) s.low us us) (sym e) (nothing_spells octet_fields s.low us)

-- one that stands there
pub count_leads : (s : SizeRange) (t : NumberSet) (us : List ℕ) → is_fixed_size s ≡ false → AreCounts s t → Leads octet_fields (OctetLength (Between t.low t.high)) us (λ n. n) (Count s) us
count_leads s t us e are =
    subst (λ (b : Bool). Leads octet_fields (OctetLength (Between t.low t.high)) us (λ n. n) (elim b [ true ↦ Nothing s.low | false ↦ OctetLength (FitsLength s) ]) us) (sym e)
    (leads_same octet_fields us (same_length (counts_there s t are) (counts_back s t are)))
