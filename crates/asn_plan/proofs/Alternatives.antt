-- What is read of an alternative is read of its CHOICE.
use Rattle.std.proofs.Common.{◌≡◌, ◌≤◌, ◌<◌, ◌+◌, ◌-◌, inl, inr, ℕ, zero, suc, List, [], ◌∷◌, length, length-drop, drop, get_or, Option, None, arith}
use Rattle.std.proofs.lemmas.List.{length-take-le}
use Rattle.asn_values.specs.Datum.{Datum, alternative}
use Rattle.asn_values.specs.Parts.{AreAllOfProfile}
use Rattle.asn_values.specs.Profile.{InProfile}
use Rattle.asn_values.specs.Shape.{Shape, Alternatives, no_alternatives, one_of, MoreAlternatives, closed_choice, marked_choice, choice, count}
use Rattle.asn_rules.specs.Chunks.{Chunk}
use Rattle.asn_rules.specs.Languages.{Spells}
use Rattle.asn_rules.specs.Listed.{Spelt}
use Rattle.asn_rules.specs.Live.{Fielding}
use Rattle.asn_walk.specs.Coding.{Coding, IndexOf, ChosenOf, OpenOf, added_alternatives}
use Rattle.asn_walk.specs.Laws.{Laws}
use Rattle.asn_walk.proofs.ChoicesRead.{value_leads}
use Rattle.asn_walk.proofs.Parts.{added_good}
use Rattle.asn_plan.specs.declared.plan.Node.{Node}
use Rattle.asn_plan.specs.Plans.{IsPlan, ArePlansOfEach, ArePlansOfOthers, row}

-- the alternative that a node in its place is a plan of
pub record IsAlternative (R : Fielding) (L : Shape → Datum → List Chunk → Type 0) (ns : List Node) (alts : Alternatives) (i : ℕ) (m : Node)
    : Type 0 where
  pub shape : Shape
  pub good : InProfile shape
  pub plan : IsPlan ns shape m.kind
  pub on : (v : Datum) (us ws : List ℕ) → Spells R (L shape) v us ws → Spells R (ChosenOf L alts i) v us ws

pub alternative_at : (R : Fielding) (L : Shape → Datum → List Chunk → Type 0) (ns ms : List Node) (alts : Alternatives) (i : ℕ)
    (d : Node) → ArePlansOfEach ns ms alts → AreAllOfProfile alts → i < length ms → IsAlternative R L ns alts i (get_or ms i d)
alternative_at R L ns [] alts i d p a h = absurd (omega (arith, h))
alternative_at R L ns (m ∷ ms) no_alternatives i d p a h = absurd p
alternative_at R L ns (m ∷ ms) (one_of name t alts) zero d p a h = record { shape = t; good = a.0; plan = p.0; on = λ v us ws k. k }
alternative_at R L ns (m ∷ ms) (one_of name t alts) (suc i) d p a h =
    let n = alternative_at R L ns ms alts i d p.1 a.1 (omega (arith, h)) in
    record { shape = n.shape; good = n.good; plan = n.plan; on = λ v us ws k. n.on v us ws k }

-- how many nodes there are
pub each_count : (ns ms : List Node) (alts : Alternatives) → ArePlansOfEach ns ms alts → length ms ≡ count alts
each_count ns [] no_alternatives p = omega arith
each_count ns (m ∷ ms) (one_of name t alts) p = omega (arith, each_count ns ms alts p.1)
each_count ns [] (one_of name t alts) p = absurd p
each_count ns (m ∷ ms) no_alternatives p = absurd p

-- an index of the root, and a value of its alternative
pub root_read : (c : Coding) → Laws c → (root : Alternatives) (more : MoreAlternatives) → InProfile (choice root more)
    → (n : ℕ) (listed : Option ℕ) → n ≡ count root → listed ≡ added_alternatives more → (i : ℕ) (us vs ws : List ℕ)
    → Spells c.ruling.fielding (IndexOf c n listed) (inl i) us vs → (d : Datum)
    → Spells c.ruling.fielding (ChosenOf (λ t. Spelt c.code None t) root i) d vs ws
    → Spells c.ruling.fielding (Spelt c.code None (choice root more)) (alternative i d) us ws
root_read c laws root more good n listed e f i us vs ws h d k =
    (value_leads c laws root more good (inl i) us vs (rw (e, f) at h)).done d ws k

-- an index of the additions, and the open type field that holds a value of the alternative
pub added_read : (c : Coding) → Laws c → (root : Alternatives) (more : MoreAlternatives) → InProfile (choice root more)
    → (n : ℕ) (listed : Option ℕ) → n ≡ count root → listed ≡ added_alternatives more → (i : ℕ) (us vs ws : List ℕ)
    → Spells c.ruling.fielding (IndexOf c n listed) (inr i) us vs → (ns ms : List Node) → ArePlansOfOthers ns ms more
    → (m : Node) → i < length ms → (Q : Datum → Type 0)
    → ((t : Shape) → InProfile t → IsPlan ns t (get_or ms i m).kind → (d : Datum) × Q d × Spells c.ruling.fielding (OpenOf c t) d vs ws)
    → (d : Datum) × Q d × Spells c.ruling.fielding (Spelt c.code None (choice root more)) (alternative (n + i) d) us ws
added_read c laws root closed_choice good n listed e f i us vs ws h ns ms plans m less Q read =
    absurd (let l : Spells c.ruling.fielding (IndexOf c n (added_alternatives closed_choice)) (inr i) us vs = rw f at h in l.spelt.fits)
added_read c laws root (marked_choice alts) good n listed e f i us vs ws h ns ms plans m less Q read =
    let a = alternative_at c.ruling.fielding (λ t. OpenOf c t) ns ms alts i m plans (added_good root (marked_choice alts) good) less in
    let r = read a.shape a.good a.plan in
    (r.0, r.1, rw e ((value_leads c laws root (marked_choice alts) good (inr i) us vs (rw (e, f) at h)).done r.0 ws (a.on r.0 vs ws r.2)))

-- how many nodes of the root there are, by their places
pub root_count : (ns : List Node) (a b : ℕ) (alts : Alternatives) → a ≤ b → b ≤ length ns → length (row a b ns) ≡ count alts → b - a ≡ count alts
root_count ns a b alts h k e = omega (arith, length-take-le (b - a) (drop a ns) (omega (arith, length-drop a ns, h, k)), h, k, e)
