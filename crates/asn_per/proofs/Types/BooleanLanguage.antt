-- The truth values, but for one that may be left out, as numbers in one bit.
use Rattle.std.proofs.Common.{◌≡◌, ◌<◌, ◌^◌, ℕ, zero, suc, Bool, true, false, nat_eq, List, Option, Some, None, refl, arith}
use Rattle.std.specs.Option.{option_map}
use Rattle.asn_values.specs.Datum.{Datum, truth}
use Rattle.asn_values.specs.Shape.{boolean}
use Rattle.asn_values.specs.Fits.{Fits}
use Rattle.asn_bits.specs.Numbers.{bits}
use Rattle.asn_bits.specs.Sink.{bit_of}
use Rattle.asn_rules.specs.Chunks.{ones}
use Rattle.asn_rules.specs.Forks.{Same}
use Rattle.asn_rules.specs.Languages.{Map, Plain}
use Rattle.asn_bits.specs.Sets.{InSet, Meets}
use Rattle.asn_rules.specs.Listed.{IsOther, Spelt}
use Rattle.asn_rules.proofs.Languages.Leads.{Leads, leads_on, leads_map, leads_same}
use Rattle.asn_rules.proofs.Languages.Spellings.{same_after, same_map, set_spelled, map_spelled}
use Rattle.asn_per.specs.Per.{per, per_fields}
use Rattle.asn_rules.specs.NumberSets.{Admits, up_to}

-- a bit as a truth value
abbrev pub truth_from : ℕ → Datum
truth_from n = truth (nat_eq n 1)

abbrev pub Truths : Option Bool → ℕ → Type 0
Truths e n = Admits (up_to 1 (option_map (λ b. bit_of b) e)) n

bit_fits : (e : Option Bool) (n : ℕ) → Truths e n → n < 2 ^ 1
bit_fits e n h = omega (arith, h.1)

there : (e : Option Bool) (n : ℕ) → Truths e n → (Fits boolean (truth_from n) × IsOther (option_map truth e) (truth_from n)) × (ones (bits 1 n) ≡ per boolean (truth_from n))
there None zero h = ((tt, tt), refl)
there None (suc zero) h = ((tt, tt), refl)
there (Some true) zero h = ((tt, refl), refl)
there (Some true) (suc zero) h = absurd (h.2 refl)
there (Some false) zero h = absurd (h.2 refl)
there (Some false) (suc zero) h = ((tt, refl), refl)
there e (suc (suc n)) h = absurd (omega (arith, h.1))

back : (e : Option Bool) (v : Datum) → Fits boolean v × IsOther (option_map truth e) v → (n : ℕ) × Truths e n × (v ≡ truth_from n)
back None (truth true) h = (1, (omega arith, omega arith, tt), refl)
back None (truth false) h = (0, (omega arith, omega arith, tt), refl)
back (Some true) (truth true) h = absurd (cc)
back (Some true) (truth false) h = (0, (omega arith, omega arith, λ e. omega arith), refl)
back (Some false) (truth true) h = (1, (omega arith, omega arith, λ e. omega arith), refl)
back (Some false) (truth false) h = absurd (cc)
back e _ h = absurd h.0

pub boolean_language : (e : Option Bool) → Same (Map truth_from (Plain (InSet 1 (Truths e)))) (Spelt per (option_map truth e) boolean)
boolean_language e = same_after (same_map (set_spelled 1 (Truths e) (bit_fits e))) (map_spelled (there e) (back e))

-- one is there
pub some_truth : (e : Option Bool) → Meets (Truths e) 0 1
some_truth None = record { number = 0; member = (omega arith, omega arith, tt); least = omega arith; below = omega arith }
some_truth (Some true) = record { number = 0; member = (omega arith, omega arith, λ e. omega arith); least = omega arith; below = omega arith }
some_truth (Some false) = record { number = 1; member = (omega arith, omega arith, λ e. omega arith); least = omega arith; below = omega arith }

-- the reader of the bit answers for the truth value
pub boolean_leads : (e : Option Bool) (us : List ℕ) → Leads per_fields (Plain (InSet 1 (λ n. Admits (up_to 1 (option_map (λ b. bit_of b) e)) n))) us truth_from (Spelt per (option_map truth e) boolean) us
boolean_leads e us = leads_on (leads_map per_fields truth_from (Plain (InSet 1 (Truths e))) us) (leads_same per_fields us (boolean_language e))
