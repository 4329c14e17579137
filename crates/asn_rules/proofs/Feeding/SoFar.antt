-- The octets so far of a session: which of their units are live, and what is told at its end.
use Rattle.std.proofs.Common.{◌≡◌, ◌≤◌, ◌+◌, ◌-◌, inl, ℕ, zero, suc, min, List, [], ◌++◌, length, take, refl, sym, ap, ◌∙◌, subst, arith}
use Rattle.std.proofs.lemmas.List.{take_all, take_min}
use Rattle.std.proofs.Math.Seq.{take-append-add}
use Rattle.asn_values.specs.Datum.{Datum}
use Rattle.asn_values.specs.Profile.{InProfile}
use Rattle.asn_values.specs.Shape.{Shape}
use Rattle.asn_rules.specs.Answer.{Ruling, IsEncoding, NoFront, max_octets}
use Rattle.asn_rules.specs.Chunks.{flat}
use Rattle.asn_rules.specs.Live.{Live, Place}
use Rattle.asn_rules.specs.Reading.{RulesTell}
use Rattle.asn_rules.specs.Sessions.{all_so_far, LiveUnits}
use Rattle.asn_rules.specs.declared.session.Truncated.{Truncated}
use Rattle.asn_rules.proofs.Live.Fronts.{none_before}
use Rattle.asn_rules.proofs.Live.Lists.{no_length}
use Rattle.asn_rules.proofs.Feeding.Sessions.{not_whole}
use Rattle.asn_rules.proofs.Law.SomeValue.{a_value}

-- ---- how many units are live

module _ (r : Ruling) (t : Shape) where
  -- a type of the profile is live before any unit
  pub none_live : InProfile t → Live r.fielding r.whole t []
  none_live good =
      let v = a_value t good in
      (v.0, v.1, inl ((flat r.fielding.spelled (r.whole t v.0), refl), none_before r.fielding (r.whole t v.0) 0 0 (omega arith)))

  -- all units are, where they are live
  pub all_live : (us : List ℕ) (n : ℕ) → n ≡ length us → Live r.fielding r.whole t us → LiveUnits r t us n
  all_live us n e h = record {
    some = omega (arith, e);
    live = subst (λ (l : List ℕ). Live r.fielding r.whole t l) (sym (take_all n us (omega (arith, e)))) h;
    last = λ l. absurd (omega (arith, l, e));
  }

  -- and those before a refused one
  pub live_before : (us : List ℕ) (k : ℕ) → InProfile t → Place (Live r.fielding r.whole t) us k → LiveUnits r t us (k - 1)
  live_before us zero good h = absurd (h.1 (none_live good))
  live_before us (suc k) good h =
      let e : suc k - 1 ≡ k = omega arith in
      let next : k + 1 ≡ suc k = omega arith in
      let here : LiveUnits r t us k = record {
        some = omega (arith, h.0);
        live = h.2 k (omega arith);
        last = λ l live. h.1 (subst (λ (j : ℕ). Live r.fielding r.whole t (take j us)) next live);
      } in
      subst (λ (j : ℕ). LiveUnits r t us j) (sym e) here

  -- ---- what is told at the end

  -- the units of all octets, where these are live and none of their fronts is an encoding
  pub cut_short : (s : List ℕ) (cut : Truncated) → length (r.units s) ≡ cut.taken → NoFront r t s → Live r.fielding r.whole t (r.units s) → ((v : Datum) → IsEncoding r t v s → ⊥) × LiveUnits r t (r.units s) cut.taken
  cut_short s cut e none live = (not_whole r t s none, all_live (r.units s) cut.taken (sym e) live)

-- ---- the octets

-- as many of the piece as make all octets so far
pub kept_so_far : (s p : List ℕ) → length s ≤ max_octets → s ++ take (min (length p) (max_octets - length s)) p ≡ all_so_far s p
kept_so_far s p h =
    let m = max_octets - length s in
    let split : length s + m ≡ max_octets = omega (arith, h) in
    let turned : min (length p) m ≡ min m (length p) = omega arith in
    ap (λ (l : List ℕ). s ++ l) (ap (λ (i : ℕ). take i p) turned ∙ take_min m p) ∙ sym (take-append-add s p m) ∙ ap (λ (i : ℕ). take i (s ++ p)) split

-- no octets are no units
pub no_units : (r : Ruling) → RulesTell r → r.units [] ≡ []
no_units r tells = no_length (r.units []) (omega (arith, tells.count []))
