-- What is read of further octets, as an answer to all that have come.
use Rattle.std.proofs.Common.{◌≡◌, ◌≤◌, ◌+◌, ◌-◌, ◌/◌, ◌%◌, ℕ, List, [], ◌++◌, length, take, length-append, refl, sym, ap, subst, ◌∙◌, arith}
use Rattle.std.proofs.Math.Nat.{div-le_of_le-mul}
use Rattle.asn_values.specs.Datum.{Datum}
use Rattle.asn_values.specs.Shape.{Shape}
use Rattle.asn_values.specs.Profile.{InProfile}
use Rattle.asn_rules.specs.Answer.{Ruling, Answer, done, refused, max_octets}
use Rattle.asn_rules.specs.Languages.{Spells, Short, Refused}
use Rattle.asn_rules.specs.Reading.{Wholes}
use Rattle.asn_rules.proofs.Feeding.SoFar.{no_units}
use Rattle.asn_walk.specs.Ahead.{Ahead}
use Rattle.asn_walk.specs.Coding.{Coding}
use Rattle.asn_walk.specs.Laws.{Laws}
use Rattle.asn_walk.proofs.Decoding.{take_all, value_read, refusal_read, units_fill}
use Rattle.asn_walk_feed.specs.OpenFields.{FieldCoding}
use Rattle.asn_walk_feed.specs.declared.frame.Frame.{Frame}
use Rattle.asn_resuming.specs.Reached.{Reached}

-- ---- octets that are read where they lie: no others have come

pub first_value : (r : Ruling) (t : Shape) (s p : List ℕ) (v : Datum) (used : ℕ) → s ≡ [] → length p ≤ max_octets → Answer r t (take max_octets p) (done v (0 + used)) → Answer r t (s ++ p) (done v (length s + used))
first_value r t s p v used e few h =
    let plain : Answer r t p (done v (0 + used)) = subst (λ (l : List ℕ). Answer r t l (done v (0 + used))) (take_all max_octets p few) h in
    subst (λ (l : List ℕ). Answer r t (l ++ p) (done v (length l + used))) (sym e) plain

pub first_refusal : (r : Ruling) (t : Shape) (s p : List ℕ) (at : ℕ) → s ≡ [] → length p ≤ max_octets → Answer r t (take max_octets p) (refused at) → Answer r t (s ++ p) (refused at)
first_refusal r t s p at e few h =
    let plain : Answer r t p (refused at) = subst (λ (l : List ℕ). Answer r t l (refused at)) (take_all max_octets p few) h in
    subst (λ (l : List ℕ). Answer r t (l ++ p) (refused at)) (sym e) plain

-- ---- octets after others

module _ (c : Coding) (laws : Laws c) where
  pub joined : (s m : List ℕ) → c.ruling.units (s ++ m) ≡ c.ruling.units s ++ c.ruling.units m
  joined s m = laws.tells.joined s m

  pub units_joined : (s m : List ℕ) → length (c.ruling.units (s ++ m)) ≡ length (c.ruling.units s) + length (c.ruling.units m)
  units_joined s m = ap length (joined s m) ∙ length-append (c.ruling.units s) (c.ruling.units m)

  -- all units together fill octets
  pub both_fill : (s m : List ℕ) → (length (c.ruling.units s) + length (c.ruling.units m)) % c.octet_units ≡ 0
  both_fill s m = ap (λ (n : ℕ). n % c.octet_units) (sym (units_joined s m)) ∙ units_fill c laws (s ++ m)

  -- no octets brought a session to no nodes
  pub reached_none : {F : Type 0} (fc : FieldCoding) (ahead : F → Ahead) (between : F → Type 0) (fs : List (Frame F)) (t : Shape) → fs ≡ []
      → Reached c fc ahead between fs t 0 0 []
  reached_none fc ahead between fs t e =
      let none : c.ruling.units [] ≡ [] = no_units c.ruling laws.tells in
      record { took = rw e none; units_are = ap length none; octets_are = refl }

  module _ (t : Shape) (good : InProfile t) where
    pub value_on : (s m rest : List ℕ) (v : Datum) → Spells c.ruling.fielding (Wholes c.ruling t) v (c.ruling.units s ++ c.ruling.units m) rest
        → length rest ≤ length (c.ruling.units m)
        → (length rest / c.octet_units ≤ length m) × Answer c.ruling t (s ++ m) (done v (length s + (length m - length rest / c.octet_units)))
    value_on s m rest v h l =
        let k : Spells c.ruling.fielding (Wholes c.ruling t) v (c.ruling.units (s ++ m)) rest = subst (λ (us : List ℕ). Spells c.ruling.fielding (Wholes c.ruling t) v us rest) (sym (joined s m)) h in
        let few : length rest / c.octet_units ≤ length m = div-le_of_le-mul c.octet_units (omega (arith, l, laws.count m)) in
        let e : length (s ++ m) - length rest / c.octet_units ≡ length s + (length m - length rest / c.octet_units) = omega (arith, length-append s m, few) in
        (few, subst (λ (n : ℕ). Answer c.ruling t (s ++ m) (done v n)) e (value_read c laws t good (s ++ m) rest v k))

    pub refused_on : (s m : List ℕ) (left all : ℕ) → length (s ++ m) ≤ max_octets → all ≡ length (c.ruling.units s) + length (c.ruling.units m)
        → Refused c.ruling.fielding (Wholes c.ruling t) (c.ruling.units s ++ c.ruling.units m) left → Answer c.ruling t (s ++ m) (refused (all - left))
    refused_on s m left all few e h =
        let k : Refused c.ruling.fielding (Wholes c.ruling t) (c.ruling.units (s ++ m)) left = subst (λ (us : List ℕ). Refused c.ruling.fielding (Wholes c.ruling t) us left) (sym (joined s m)) h in
        let n : length (c.ruling.units (s ++ m)) - left ≡ all - left = ap (λ (i : ℕ). i - left) (units_joined s m ∙ sym e) in
        subst (λ (i : ℕ). Answer c.ruling t (s ++ m) (refused i)) n (refusal_read c laws t good (s ++ m) left few k)

    pub short_on : (s m : List ℕ) → Short c.ruling.fielding (Wholes c.ruling t) (c.ruling.units s ++ c.ruling.units m)
        → Short c.ruling.fielding (Wholes c.ruling t) (c.ruling.units (s ++ m))
    short_on s m h = subst (λ (us : List ℕ). Short c.ruling.fielding (Wholes c.ruling t) us) (sym (joined s m)) h
