-- The octets of truth values, but for one that is left out, as a reader of BOOLEAN admits them.
use Rattle.std.proofs.Common.{◌≡◌, ℕ, Bool, true, false, List, [], ◌∷◌, Option, Some, None, inl, inr, refl, subst, arith}
use Rattle.std.proofs.lemmas.Bool.{true≢false}
use Rattle.std.specs.Option.{option_map}
use Rattle.asn_values.specs.Datum.{truth}
use Rattle.asn_values.specs.Shape.{boolean}
use Rattle.asn_bits.specs.Sets.{Among, InDigits}
use Rattle.asn_rules.specs.Languages.{Plain, Spells}
use Rattle.asn_rules.specs.Listed.{IsOther, Spelt}
use Rattle.asn_rules.proofs.Languages.Leads.{Leads, leads_on, leads_map, leads_same}
use Rattle.asn_rules.proofs.Plain.NumberSets.{same_set}
use Rattle.asn_rules.specs.OctetReading.{OctetsAmong}
use Rattle.asn_oer.specs.Oer.{oer, oer_fields}
use Rattle.asn_oer.specs.Reading.{TruthOctet}
use Rattle.asn_oer.specs.SimpleTypes.{truth_told}
use Rattle.asn_oer.proofs.Types.LeftOut.{boolean_but_one}

-- FALSE is left out
pub true_there : (n : ℕ) → Among ((255, 255) ∷ []) n → TruthOctet (Some false) n
true_there n (inl h) = let e : 255 ≡ n = omega (arith, h.0, h.1) in subst (TruthOctet (Some false)) e (inr (inl (omega arith, omega arith)), refl)
true_there n (inr h) = absurd h

pub true_back : (n : ℕ) → TruthOctet (Some false) n → Among ((255, 255) ∷ []) n
true_back n (inl h, o) = let e : n ≡ 0 = omega (arith, h.0, h.1) in absurd (true≢false (subst (λ (m : ℕ). IsOther (Some (truth false)) (truth_told m)) e o))
true_back n (inr h, o) = h

-- TRUE is left out
pub false_there : (n : ℕ) → Among ((0, 0) ∷ []) n → TruthOctet (Some true) n
false_there n (inl h) = let e : 0 ≡ n = omega (arith, h.0, h.1) in subst (TruthOctet (Some true)) e (inl (omega arith, omega arith), refl)
false_there n (inr h) = absurd h

pub false_back : (n : ℕ) → TruthOctet (Some true) n → Among ((0, 0) ∷ []) n
false_back n (inl h, o) = inl h
false_back n (inr (inl h), o) = let e : n ≡ 255 = omega (arith, h.0, h.1) in absurd (true≢false (subst (λ (m : ℕ). IsOther (Some (truth true)) (truth_told m)) e o))
false_back n (inr (inr h), o) = absurd h

-- the reader of the octet answers for the truth value
pub truth_leads : (e : Option Bool) (is : List (ℕ × ℕ)) → ((n : ℕ) → Among is n → TruthOctet e n) → ((n : ℕ) → TruthOctet e n → Among is n) → (us : List ℕ)
    → Leads oer_fields (OctetsAmong 1 is) us truth_told (Spelt oer (option_map truth e) boolean) us
truth_leads e is there back us =
    leads_on (leads_same oer_fields us (same_set 256 1 there back))
    (leads_on (leads_map oer_fields truth_told (Plain (InDigits 256 1 (TruthOctet e))) us) (leads_same oer_fields us (boolean_but_one (option_map truth e))))

-- the octet of a truth value, of which none is left out
pub truth_at_once : (us vs : List ℕ) (n : ℕ) → Spells oer_fields (OctetsAmong 1 ((0, 0) ∷ (255, 255) ∷ [])) n us vs → Spells oer_fields (Spelt oer None boolean) (truth_told n) us vs
truth_at_once us vs n h = (truth_leads None ((0, 0) ∷ (255, 255) ∷ []) (λ n a. (a, tt)) (λ n a. a.0) us).done n vs h
