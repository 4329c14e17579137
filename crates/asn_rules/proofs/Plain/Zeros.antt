-- The zeros that fill up a spelling, as the number 0 in a fixed count of bits.
use Rattle.std.proofs.Common.{◌≡◌, ℕ, List, replicate, None, refl, sym, ap, ◌∙◌, subst, arith}
use Rattle.std.specs.Bool.{⊤}
use Rattle.std.proofs.lemmas.Nat.{pow_pos}
use Rattle.asn_bits.specs.Numbers.{bits}
use Rattle.asn_bits.proofs.Packing.{bits_zero}
use Rattle.asn_rules.specs.Forks.{Same}
use Rattle.asn_rules.specs.Languages.{Map, Plain}
use Rattle.asn_rules.specs.Padding.{Fixed}
use Rattle.asn_bits.specs.Sets.{InSet, IsBits}
use Rattle.asn_bits.proofs.Weights.{bits_are, digits_only}
use Rattle.asn_rules.proofs.Languages.Leads.{Leads, leads_on, leads_map, leads_same}
use Rattle.asn_rules.specs.Live.{Fielding}
use Rattle.asn_rules.specs.NumberSets.{Admits, up_to}

-- the number 0 alone
abbrev pub OnlyZero : ℕ → Type 0
OnlyZero n = Admits (up_to 0 None) n

-- any number as no value
abbrev pub no_value : ℕ → ⊤
no_value n = tt

-- the bits of 0 are zeros
zero_bits : (k n : ℕ) (us : List ℕ) → InSet k OnlyZero n us → us ≡ replicate k 0
zero_bits k n us h =
    let none : n ≡ 0 = omega (arith, h.member) in
    (digits_only 2 k n us h.digits).1 ∙ ap (bits k) none ∙ bits_zero k

-- and back
zeros_are : (k : ℕ) (us : List ℕ) → us ≡ replicate k 0 → IsBits k 0 us
zeros_are k us e = subst (λ (l : List ℕ). IsBits k 0 l) (bits_zero k ∙ sym e) (bits_are k 0 (omega (arith, pow_pos k)))

-- the same spellings
pub zeros_language : (k : ℕ) → Same (Map no_value (Plain (InSet k OnlyZero))) (Fixed (replicate k 0))
zeros_language k = record {
  to = λ v cs h. record { units = h.spelt.units; spelt = record { same = zero_bits k h.source h.spelt.units h.spelt.spelt }; same = h.spelt.same };
  from = λ v cs h. record {
    source = 0;
    spelt = record { units = h.units; spelt = record { digits = zeros_are k h.units h.spelt.same; member = (omega arith, omega arith, tt) }; same = h.same };
    seen = refl;
  };
}

-- the reader of the number answers for the zeros
pub zeros_lead : (R : Fielding) (k : ℕ) (us : List ℕ) → Leads R (Plain (InSet k OnlyZero)) us no_value (Fixed (replicate k 0)) us
zeros_lead R k us = leads_on (leads_map R no_value (Plain (InSet k OnlyZero)) us) (leads_same R us (zeros_language k))
