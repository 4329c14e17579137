-- The octet of the truth value that is not left out.
use Rattle.std.proofs.Common.{◌≡◌, ◌≤◌, ◌∙◌, not, ℕ, Bool, true, false, List, [], ◌∷◌, Some, inl, inr, subst, arith}
use Rattle.asn_values.specs.Datum.{truth}
use Rattle.asn_values.specs.Shape.{boolean}
use Rattle.asn_bits.specs.Sets.{Among, InDigits}
use Rattle.asn_rules.specs.Languages.{Plain, Spells}
use Rattle.asn_rules.specs.Listed.{Spelt}
use Rattle.asn_rules.specs.NumberSets.{Admits}
use Rattle.asn_rules.proofs.Languages.Leads.{leads_on, leads_map, leads_same}
use Rattle.asn_rules.proofs.Plain.NumberSets.{same_set}
use Rattle.asn_rules.specs.OctetReading.{OctetsIn, from_to}
use Rattle.asn_oer.specs.Oer.{oer, oer_fields, truth_octet}
use Rattle.asn_oer.specs.Reading.{TruthOctet}
use Rattle.asn_oer.specs.SimpleTypes.{truth_told}
use Rattle.asn_oer.proofs.Read.TruthReading.{true_there, true_back, false_there, false_back}
use Rattle.asn_oer.proofs.Types.LeftOut.{boolean_but_one}

-- a number of one interval
among_one : {m l h : ℕ} → Among ((l, h) ∷ []) m → (l ≤ m) × (m ≤ h)
among_one (inl a) = a
among_one (inr a) = absurd a

pub other_at_once : (e : Bool) (o n : ℕ) (us vs : List ℕ) → o ≡ truth_octet (not e) → Spells oer_fields (OctetsIn 1 (from_to o o)) n us vs → Spells oer_fields (Spelt oer (Some (truth e)) boolean) (truth (not e)) us vs
other_at_once e o n us vs is h = go e is
  where
    led : (e : Bool) → ((m : ℕ) → Admits (from_to o o) m → TruthOctet (Some e) m) → ((m : ℕ) → TruthOctet (Some e) m → Admits (from_to o o) m) → Spells oer_fields (Spelt oer (Some (truth e)) boolean) (truth_told n) us vs
    led e there back =
        (leads_on (leads_same oer_fields us (same_set 256 1 there back))
        (leads_on (leads_map oer_fields truth_told (Plain (InDigits 256 1 (TruthOctet (Some e)))) us) (leads_same oer_fields us (boolean_but_one (Some (truth e)))))).done n vs h

    here : n ≡ o
    here = let m = h.spelt.spelt.member in omega (arith, m.0, m.1)

    go : (e : Bool) → o ≡ truth_octet (not e) → Spells oer_fields (Spelt oer (Some (truth e)) boolean) (truth (not e)) us vs
    go false is =
        subst (λ (m : ℕ). Spells oer_fields (Spelt oer (Some (truth false)) boolean) (truth_told m) us vs) (here ∙ is)
        (led false (λ m a. true_there m (inl (omega (arith, is, a.0), omega (arith, is, a.1)))) (λ m a. (let b = among_one (true_back m a) in (omega (arith, is, b.0), omega (arith, is, b.1), tt))))
    go true is =
        subst (λ (m : ℕ). Spells oer_fields (Spelt oer (Some (truth true)) boolean) (truth_told m) us vs) (here ∙ is)
        (led true (λ m a. false_there m (inl (omega (arith, is, a.0), omega (arith, is, a.1)))) (λ m a. (let b = among_one (false_back m a) in (omega (arith, is, b.0), omega (arith, is, b.1), tt))))
