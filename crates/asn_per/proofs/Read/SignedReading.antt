-- The integers of a set, read by their offsets.
use Rattle.std.proofs.Common.{◌*◌, ℕ, ℤ, List}
use Rattle.asn_values.specs.Datum.{number}
use Rattle.asn_rules.specs.Counted.{LeastSigned, Counted, signed_number}
use Rattle.asn_rules.specs.Forks.{Same}
use Rattle.asn_rules.specs.Languages.{Map}
use Rattle.asn_rules.specs.OffsetSets.{HasInteger, UnconstrainedIn}
use Rattle.asn_rules.specs.declared.signed_reader.OffsetSet.{OffsetSet}
use Rattle.asn_rules.proofs.Languages.Leads.{Leads, leads_on, leads_map, leads_same}
use Rattle.asn_rules.proofs.Plain.NumberSets.{same_set}
use Rattle.asn_rules.proofs.Languages.Spellings.{same_then, same_map}
use Rattle.asn_rules.specs.IntegerSets.{AreOffsets}
use Rattle.asn_per.specs.Per.{per_fields}
use Rattle.asn_per.specs.Kinds.{Unconstrained}

same_counted : (T U : ℕ → ℕ → Type 0) → ((k n : ℕ) → T k n → U k n) → ((k n : ℕ) → U k n → T k n) → Same (Counted 2 8 T) (Counted 2 8 U)
same_counted T U there back = same_then
    (same_set 2 8 (λ k o. record { few = o.few; number = o.number; member = there k o.number o.member; fits = o.fits }) (λ k o. record { few = o.few; number = o.number; member = back k o.number o.member; fits = o.fits }))
    (λ k. same_set 2 (8 * k) (there k) (back k))

module _ (s : OffsetSet) (S : ℤ → Type 0) (same : AreOffsets s S) where
  pub signed_same : Same (UnconstrainedIn s) (Map signed_number (Counted 2 8 (LeastSigned S)))
  signed_same = same_map (same_counted (LeastSigned (λ z. HasInteger s z)) (LeastSigned S)
      (λ k n l. record { member = same.there (signed_number (k, n)) l.member; count = l.count; fits = l.fits })
      (λ k n l. record { member = same.back (signed_number (k, n)) l.member; count = l.count; fits = l.fits }))

  -- the reader of the offsets answers for the integers
  pub signed_leads : (us : List ℕ) → Leads per_fields (UnconstrainedIn s) us number (Unconstrained S) us
  signed_leads us = leads_on (leads_same per_fields us signed_same) (leads_map per_fields number (Map signed_number (Counted 2 8 (LeastSigned S))) us)
