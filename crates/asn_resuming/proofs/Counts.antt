-- What the counter of a session says after a piece.
use Rattle.std.proofs.Common.{◌≡◌, ◌≤◌, ◌<◌, ◌+◌, ◌-◌, ◌*◌, ◌^◌, ◌++◌, ℕ, suc, Err, min, List, length, take, length-append, sym, ap, ◌∙◌, subst, arith}
use Rattle.std.proofs.Math.Nat.{mul-add, mul-le-mul_left, suc-mul}
use Rattle.asn_values.specs.Datum.{Datum}
use Rattle.asn_values.specs.Measures.{levels, sealed_depth}
use Rattle.asn_values.specs.Shape.{Shape}
use Rattle.asn_rules.specs.Answer.{Answer, done}
use Rattle.asn_rules.specs.Chunks.{Chunk, flat}
use Rattle.asn_rules.specs.Languages.{Spells}
use Rattle.asn_rules.specs.Reading.{Wholes}
use Rattle.asn_rules.specs.Ticks.{IsCountOf}
use Rattle.asn_walk.specs.Ahead.{Ahead}
use Rattle.asn_walk.specs.Coding.{Coding}
use Rattle.asn_walk_feed.specs.Counts.{count_of}
use Rattle.asn_walk_feed.specs.Levels.{OpenUnits, Costs}
use Rattle.asn_walk_feed.specs.OpenFields.{FieldCoding}
use Rattle.asn_walk_feed.specs.declared.frame.Frame.{Frame}
use Rattle.asn_walk_feed.specs.declared.units.Ticks.{Ticks}
use Rattle.asn_rules.specs.declared.session.FeedFault.{FeedFault}
use Rattle.asn_rules.specs.declared.session.FeedFault.TheVariants as feed
use Rattle.asn_resuming.specs.Counting.{Seen, SeenAtMost, Going, CountsAfter}
use Rattle.asn_resuming.specs.Reached.{AnswersOn}

-- ---- the count of the units that were seen

-- each once, and at most once a level
pub count_of_seen : (t : Shape) (seen n : ℕ) (q : Ticks) → Seen t seen q → q.taken ≤ n → n ≤ q.taken + q.inside → IsCountOf t seen n
count_of_seen t seen n q h l m =
    let all : levels t * seen ≡ sealed_depth t * seen + seen = suc-mul (sealed_depth t) seen in
    let most : n ≤ sealed_depth t * seen + seen = sum n q.taken q.inside seen (sealed_depth t * seen) m h.taken h.inside in
    record { least = omega (arith, l, h.taken); most = subst (λ (x : ℕ). n ≤ x) (sym all) most }
  where
    sum : (n a b s x : ℕ) → n ≤ a + b → a ≡ s → b ≤ x → n ≤ x + s
    sum n a b s x h e l = omega (arith, h, e, l)

-- as a number of 64 bits
pub few_of_seen : (t : Shape) (seen : ℕ) (q : Ticks) → Seen t seen q → seen < 2 ^ 64 → IsCountOf t seen (count_of q)
few_of_seen t seen q h few =
    count_of_seen t seen (count_of q) q h (omega (arith, h.taken, few)) (omega arith)

pub count_at_most : (t : Shape) (seen : ℕ) (q : Ticks) → SeenAtMost t seen q → count_of q ≤ levels t * seen
count_at_most t seen q h =
    let all : levels t * seen ≡ sealed_depth t * seen + seen = suc-mul (sealed_depth t) seen in
    subst (λ (x : ℕ). count_of q ≤ x) (sym all) (sum q.taken q.inside seen (sealed_depth t * seen) h.taken h.inside)
  where
    sum : (a b s x : ℕ) → a ≤ s → b ≤ x → min (a + b) (2 ^ 64 - 1) ≤ x + s
    sum a b s x h l = omega (arith, h, l)

module _ {F : Type 0} (c : Coding) (fc : FieldCoding) (ahead : F → Ahead) (between : F → Type 0) (fs gs : List (Frame F)) (t : Shape) (units : ℕ) (old new : Ticks) (us vs : List ℕ) {New : ℕ → Type 0} (g : Going c fc ahead between fs t units old) (x : Costs c (λ n. OpenUnits c fc ahead between fs n) New (sealed_depth t) old.inside us new.inside vs) (ticked : new.taken + length (c.to_units vs) ≡ old.taken + length (c.to_units us)) where
  abbrev k : ℕ
  k = sealed_depth t

  -- what was paid
  paid : (m : ℕ) × New m × (new.inside + (k * m + k * length (c.to_units vs)) ≤ k * units + k * length (c.to_units us))
  paid =
      let p = x.pays k g.field (omega arith) g.is_open in
      let left : k * (p.still + length (c.to_units vs)) ≡ k * p.still + k * length (c.to_units vs) = mul-add k p.still (length (c.to_units vs)) in
      let right : k * (g.field + length (c.to_units us)) ≡ k * g.field + k * length (c.to_units us) = mul-add k g.field (length (c.to_units us)) in
      let cost : new.inside + (k * p.still + k * length (c.to_units vs)) ≤ old.inside + (k * g.field + k * length (c.to_units us)) =
      subst (λ (y : ℕ). new.inside + (k * p.still + k * length (c.to_units vs)) ≤ old.inside + y) right (subst (λ (y : ℕ). new.inside + y ≤ old.inside + k * (g.field + length (c.to_units us))) left p.cost) in
      (p.still, p.is_open, both (new.inside + (k * p.still + k * length (c.to_units vs))) old.inside (k * g.field) (k * length (c.to_units us)) (k * units) cost g.inside)
    where
      both : (n o f u a : ℕ) → n ≤ o + (f + u) → o + f ≤ a → n ≤ a + u
      both n o f u a h l = omega (arith, h, l)

  -- this many were seen, and the others are left
  pub seen_of : (seen : ℕ) → seen + length (c.to_units vs) ≡ units + length (c.to_units us) → Seen t seen new
  seen_of seen e =
      let p = paid in
      let sum : k * (seen + length (c.to_units vs)) ≡ k * seen + k * length (c.to_units vs) = mul-add k seen (length (c.to_units vs)) in
      let all : k * (units + length (c.to_units us)) ≡ k * units + k * length (c.to_units us) = mul-add k units (length (c.to_units us)) in
      let same : k * seen + k * length (c.to_units vs) ≡ k * units + k * length (c.to_units us) = sym sum ∙ ap (λ (n : ℕ). k * n) e ∙ all in
      record {
        taken = omega (arith, ticked, g.taken, e);
        inside = less new.inside (k * p.0) (k * length (c.to_units vs)) (k * units + k * length (c.to_units us)) (k * seen) p.2 same;
      }
    where
      less : (i m v a s : ℕ) → i + (m + v) ≤ a → s + v ≡ a → i ≤ s
      less i m v a s h e = omega (arith, h, e)

  -- all were taken, and the message goes on
  pub going_of : (all : ℕ) → all ≡ units + length (c.to_units us) → length (c.to_units vs) ≡ 0 → ((n : ℕ) → New n → OpenUnits c fc ahead between gs n)
      → Going c fc ahead between gs t all new
  going_of all e none f =
      let p = paid in
      let sum : k * all ≡ k * units + k * length (c.to_units us) = ap (λ (n : ℕ). k * n) e ∙ mul-add k units (length (c.to_units us)) in
      record {
        taken = omega (arith, ticked, g.taken, e, none);
        field = p.0;
        is_open = f p.0 p.1;
        inside = less new.inside (k * p.0) (k * length (c.to_units vs)) (k * units + k * length (c.to_units us)) (k * all) p.2 sum;
      }
    where
      less : (i m v a s : ℕ) → i + (m + v) ≤ a → s ≡ a → i + m ≤ s
      less i m v a s h e = omega (arith, h, e)

  -- memory was wanted
  pub most_of : (all : ℕ) → all ≡ units + length (c.to_units us) → SeenAtMost t all new
  most_of all e =
      let p = paid in
      let sum : k * all ≡ k * units + k * length (c.to_units us) = ap (λ (n : ℕ). k * n) e ∙ mul-add k units (length (c.to_units us)) in
      record {
        taken = omega (arith, ticked, g.taken, e);
        inside = less new.inside (k * p.0) (k * length (c.to_units vs)) (k * units + k * length (c.to_units us)) (k * all) p.2 sum;
      }
    where
      less : (i m v a s : ℕ) → i + (m + v) ≤ a → s ≡ a → i ≤ s
      less i m v a s h e = omega (arith, h, e)

-- ---- a fault that ends the session as a want of memory does

-- at most all units with the piece were taken
pub most_after : {F : Type 0} (c : Coding) (fc : FieldCoding) (ahead : F → Ahead) (between : F → Type 0) (fs : List (Frame F)) (t : Shape) (s p : List ℕ) (f : FeedFault) (q : Ticks) → AnswersOn c fc ahead between fs t s p (Err f)
    → CountsAfter c fc ahead between fs t s p (Err f) q → SeenAtMost t (length (c.ruling.units (s ++ p))) q
most_after c fc ahead between fs t s p (feed.Refused at why) q a h =
    let more : sealed_depth t * at ≤ sealed_depth t * length (c.ruling.units (s ++ p)) = mul-le-mul_left (sealed_depth t) a.1.0 in
    record { taken = omega (arith, h.taken, a.1.0); inside = less q.inside (sealed_depth t * at) (sealed_depth t * length (c.ruling.units (s ++ p))) h.inside more }
  where
    less : (i m n : ℕ) → i ≤ m → m ≤ n → i ≤ n
    less i m n h l = omega (arith, h, l)
most_after c fc ahead between fs t s p feed.Memory q a h = h
most_after c fc ahead between fs t s p feed.TooLong q a h = absurd a
most_after c fc ahead between fs t s p feed.Spent q a h = absurd a

-- ---- the units of an encoding

-- with those that are left they are all
pub front_units : (c : Coding) (t : Shape) (all front us rest : List ℕ) (v : Datum) (n : ℕ) → front ≡ take n all → Answer c.ruling t all (done v n) → Spells c.ruling.fielding (Wholes c.ruling t) v us rest
    → length (c.ruling.units front) + length rest ≡ length us
front_units c t all front us rest v n e a h =
    let units : length (c.ruling.units front) ≡ length (flat c.ruling.fielding.spelled h.chunks) = ap (λ (o : List ℕ). length (c.ruling.units o)) e ∙ ap length a.1.1 ∙ ap (λ (cs : List Chunk). length (flat c.ruling.fielding.spelled cs)) (sym h.spelt.same) in
    let split = ap length h.split ∙ length-append (flat c.ruling.fielding.spelled h.chunks) rest in
    omega (arith, units, split)

-- ---- the first octets, read where they lie

pub seen_at_once : {F : Type 0} (c : Coding) (fc : FieldCoding) (ahead : F → Ahead) (between : F → Type 0) (fs : List (Frame F)) (t : Shape) (units seen : ℕ) (old new : Ticks) → units ≡ 0 → Going c fc ahead between fs t units old
    → new.taken ≡ old.taken + seen → new.inside ≡ old.inside → Seen t seen new
seen_at_once c fc ahead between fs t units seen old new z g e f =
    let none : sealed_depth t * units ≡ 0 = ap (λ (n : ℕ). sealed_depth t * n) z ∙ omega arith in
    record { taken = omega (arith, e, g.taken, z); inside = less new.inside old.inside (sealed_depth t * g.field) (sealed_depth t * units) (sealed_depth t * seen) f g.inside none }
  where
    less : (i j m z s : ℕ) → i ≡ j → j + m ≤ z → z ≡ 0 → i ≤ s
    less i j m z s e h n = omega (arith, e, h, n)

pub most_at_once : {F : Type 0} (c : Coding) (fc : FieldCoding) (ahead : F → Ahead) (between : F → Type 0) (fs : List (Frame F)) (t : Shape) (units all : ℕ) (q : Ticks) → units ≤ all → Going c fc ahead between fs t units q → SeenAtMost t all q
most_at_once c fc ahead between fs t units all q l g =
    let more : sealed_depth t * units ≤ sealed_depth t * all = mul-le-mul_left (sealed_depth t) l in
    record { taken = omega (arith, g.taken, l); inside = less q.inside (sealed_depth t * g.field) (sealed_depth t * units) (sealed_depth t * all) g.inside more }
  where
    less : (i m z s : ℕ) → i + m ≤ z → z ≤ s → i ≤ s
    less i m z s h l = omega (arith, h, l)
