-- A number from 0 on in a fixed count of bits is read as one below a count.
use Rattle.std.proofs.Common.{◌<◌, ℕ, suc, List, None, arith}
use Rattle.asn_bits.specs.Sets.{InSet}
use Rattle.asn_rules.specs.Languages.{Plain}
use Rattle.asn_rules.specs.NumberSets.{NumberIn, up_to}
use Rattle.asn_rules.proofs.Languages.Leads.{Leads, leads_same}
use Rattle.asn_rules.proofs.Plain.NumberSets.{same_set}
use Rattle.asn_per.specs.Per.{per_fields}

pub number_leads : (k high : ℕ) (us : List ℕ) → Leads per_fields (NumberIn k (up_to high None)) us (λ n. n) (Plain (InSet k (λ n. n < suc high))) us
number_leads k high us = leads_same per_fields us (same_set 2 k (λ c h. omega (arith, h.1)) (λ c h. (omega arith, omega (arith, h), tt)))
