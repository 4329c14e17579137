-- INTEGER in PER as its reader takes it: without a low bound, and after an extension mark.
use Rattle.std.proofs.Common.{◌≡◌, ℕ, ℤ, Bool, true, false, List, ◌∷◌, Option, Some, None, refl, sym, ◌∙◌}
use Rattle.std.specs.Option.{option_map}
use Rattle.std.proofs.lemmas.Bool.{true≢false}
use Rattle.asn_values.specs.Datum.{Datum, number}
use Rattle.asn_values.specs.Shape.{Range, integer}
use Rattle.asn_values.specs.Fits.{Fits, lowest_integer}
use Rattle.asn_values.specs.Profile.{InProfile}
use Rattle.asn_bits.specs.Numbers.{above}
use Rattle.asn_rules.specs.Counted.{Counted, LeastSigned, signed_number}
use Rattle.asn_rules.specs.Forks.{Fork, Same}
use Rattle.asn_rules.specs.Languages.{Map, Inhabited}
use Rattle.asn_rules.specs.Listed.{IsOther, Spelt}
use Rattle.asn_rules.proofs.Languages.Forks.{same_flip}
use Rattle.asn_rules.proofs.Languages.Exits.{leads_zero, leads_one}
use Rattle.asn_rules.specs.Stops.{Stops}
use Rattle.asn_rules.specs.declared.stop.Stop.{Stop}
use Rattle.asn_rules.proofs.Languages.Leads.{Leads, leads_on, leads_map, leads_same, stops_by}
use Rattle.asn_rules.proofs.Components.Listed.{spelt_inhabited}
use Rattle.asn_rules.proofs.Languages.Spellings.{same_after, same_map, same_fork}
use Rattle.asn_rules.specs.declared.signed_reader.OffsetSet.{OffsetSet}
use Rattle.asn_per.specs.Kinds.{Values, Unconstrained, IsOutside, Ranged, of_either}
use Rattle.asn_per.specs.Per.{per, per_fields}
use Rattle.asn_rules.specs.OffsetSets.{HasOffset, HasInteger}
use Rattle.asn_rules.specs.IntegerSets.{AreOffsetsBut, IsOneBut, IsWithin, unmarked}
use Rattle.asn_per.specs.Reading.{StopsAtMark}
use Rattle.asn_per.proofs.Read.IndexReading.{fork_stops}
use Rattle.asn_per.proofs.Types.LeftOut.{none_left_out, unbounded_but_one}
use Rattle.asn_plan.proofs.Bounds.{root_of_profile}
use Rattle.asn_per.proofs.Types.MarkedIntegers.{integers_compose, ranged_compose}
use Rattle.asn_per.proofs.Read.SignedReading.{signed_leads}

-- ---- without a low bound

module _ (high e : Option ℤ) (s : OffsetSet) (same : AreOffsetsBut e (unmarked None high) s) where
  pub up_to_leads : (us : List ℕ) → Leads per_fields (Map signed_number (Counted 2 8 (LeastSigned (λ z. HasInteger s z)))) us number (Spelt per (option_map number e) (integer (unmarked None high))) us
  up_to_leads us = leads_on (signed_leads s (λ z. IsOneBut e (unmarked None high) z) same us) (leads_same per_fields us (unbounded_but_one high e))

  pub up_to_some : Inhabited (Spelt per (option_map number e) (integer (unmarked None high))) → (w : ℕ) × HasOffset s w
  up_to_some i = go i.value i.spelt.fits
    where
      go : (v : Datum) → Fits (integer (unmarked None high)) v × IsOther (option_map number e) v → (w : ℕ) × HasOffset s w
      go (number z) h = (let b = same.back z h in (above lowest_integer z, b.2))
      go _ h = absurd h.0

-- ---- after an extension mark

-- nothing is left out there
pub none_out : (b : Range) (e : Option ℤ) → IsWithin b e → b.extensible ≡ true → e ≡ None
none_out b None w m = refl
none_out b (Some d) w m = absurd (true≢false (sym m ∙ w.1))

module _ (b : Range) (good : InProfile (integer b)) (mark : b.extensible ≡ true) where
  marked : Same (Map of_either (Fork (Spelt per None (integer (unmarked b.low b.high))) (Unconstrained (λ z. IsOutside b z)))) (Spelt per None (integer b))
  marked = same_after (same_map (same_fork (same_after (same_flip (none_left_out (integer (unmarked b.low b.high)))) (same_flip (ranged_compose b.low b.high (root_of_profile b good)))) same_here)) (same_after (there b.low b.high b.extensible mark good) (none_left_out (integer b)))
    where
      same_here : Same (Unconstrained (λ z. IsOutside b z)) (Unconstrained (IsOutside b))
      same_here = record { to = λ v cs h. h; from = λ v cs h. h }

      there : (low high : Option ℤ) (m : Bool) → m ≡ true → InProfile (integer (record { low = low; high = high; extensible = m })) → Same (Map of_either (Fork (Ranged low high) (Unconstrained (IsOutside (record { low = low; high = high; extensible = m }))))) (Values (integer (record { low = low; high = high; extensible = m })))
      there low high true e g = integers_compose (record { low = low; high = high; extensible = true }) g
      there low high false e g = absurd (cc)

  -- no bit is left
  pub mark_stops : (us : List ℕ) (why : Stop) → StopsAtMark true us why → Stops per_fields (Spelt per None (integer b)) us why
  mark_stops us why h =
      let forks = fork_stops {Y = Unconstrained (λ z. IsOutside b z)} (spelt_inhabited per (integer (unmarked b.low b.high)) (root_of_profile b good)) us why h in
      stops_by why (leads_on (leads_map per_fields of_either (Fork (Spelt per None (integer (unmarked b.low b.high))) (Unconstrained (λ z. IsOutside b z))) us) (leads_same per_fields us marked)).stops forks

  -- after a 0
  pub root_leads : (us after : List ℕ) → us ≡ 0 ∷ after → Leads per_fields (Spelt per None (integer (unmarked b.low b.high))) after (λ v. v) (Spelt per None (integer b)) us
  root_leads us after e = leads_on (leads_zero per_fields e) (leads_on (leads_map per_fields of_either (Fork (Spelt per None (integer (unmarked b.low b.high))) (Unconstrained (λ z. IsOutside b z))) us) (leads_same per_fields us marked))

  -- after a 1
  pub outside_leads : (us after : List ℕ) → us ≡ 1 ∷ after → Leads per_fields (Unconstrained (λ z. IsOutside b z)) after (λ v. v) (Spelt per None (integer b)) us
  outside_leads us after e = leads_on (leads_one per_fields e) (leads_on (leads_map per_fields of_either (Fork (Spelt per None (integer (unmarked b.low b.high))) (Unconstrained (λ z. IsOutside b z))) us) (leads_same per_fields us marked))
