use Rattle.std.proofs.Common.{◌≡◌, ◌≤◌, ◌++◌, [], ℕ, List, length, length-append, ⊎_elim, subst, sym, ◌∙◌, ap, append-nil, arith}
use Rattle.asn_rules.specs.Languages.{Short}
use Rattle.asn_rules.specs.Stops.{Stops}
use Rattle.asn_rules.specs.declared.stop.Stop.TheVariants as stop
use Rattle.asn_walk_feed.specs.Feeding.{ExtendsBy, Passes}
use Rattle.asn_walk_feed.proofs.Leaves.{nothing_refused, front_short, no_units}
use Rattle.asn_walk_feed.proofs.leaf.read_at_once.Goals as goal

pub returns-in-Err-Refused-clause-short : goal.returns-in-Err-Refused-clause-short
returns-in-Err-Refused-clause-short g c = λ _.
    let F = g.R.ReadLeaves.rules.ruling.fielding in
    let U = g.R.ReadLeaves.rules.to_units in
    let L = g.L.Leaf.language c.args.leaf.now in
    let a : Stops F L (U c.ahead-ahead.result) (stop.Refused c.in-Err-Refused.field-0-0 c.in-Err-Refused.field-0-1) = rw c.in-Err-Refused.field-0-is at c.in-Err-Refused.ensures.stop in
    let none : U c.args.begun.now ≡ [] = ap U (c.is_none.ensures.0 c.if-not-is_none.false) ∙ c.keep_feed_laws.ensures.none in
    subst (λ xs. Short F L xs) (sym none) (nothing_refused a.told)

-- all units of the piece came
pub returns-in-Err-Short-clause-stop : goal.returns-in-Err-Short-clause-stop
returns-in-Err-Short-clause-stop g c =
    let F = g.R.ReadLeaves.rules.ruling.fielding in
    let U = g.R.ReadLeaves.rules.to_units in
    let L = g.L.Leaf.language c.args.leaf.now in
    let a : Stops F L (U c.ahead-ahead.result) stop.Short = rw c.in-Err-Short.field-0-is at c.in-Err-Short.ensures.stop in
    let s : Short F L (U c.args.units.now) = subst (λ (us : List ℕ). Short F L (U us)) c.ahead-ahead.ensures a.told in
    let none : U c.args.begun.now ≡ [] = ap U (c.is_none.ensures.0 c.if-not-is_none.false) ∙ c.keep_feed_laws.ensures.none in
    record { told = subst (λ (us : List ℕ). Short F L (us ++ U c.args.units.now)) (sym none) s }

pub returns-in-Err-Short-clause-after : goal.returns-in-Err-Short-clause-after
returns-in-Err-Short-clause-after g c =
    let F = g.R.ReadLeaves.rules.ruling.fielding in
    let U = g.R.ReadLeaves.rules.to_units in
    let L = g.L.Leaf.language c.args.leaf.now in
    let a : Stops F L (U c.ahead-ahead.result) stop.Short = rw c.in-Err-Short.field-0-is at c.in-Err-Short.ensures.stop in
    let s : Short F L (U c.args.units.now) = subst (λ (us : List ℕ). Short F L (U us)) c.ahead-ahead.ensures a.told in
    let none : U c.args.begun.now ≡ [] = ap U (c.is_none.ensures.0 c.if-not-is_none.false) ∙ c.keep_feed_laws.ensures.none in
    let x : ExtendsBy g.R.ReadLeaves.rules c.args.begun.now c.extend-came.new.begun c.ahead.result c.extend-came.result = c.extend-came.ensures.extended in
    let all : x.front ++ x.rest ≡ U c.args.units.now = sym x.from ∙ ap U c.ahead.ensures in
    let met : U c.extend-came.new.begun ≡ x.front = x.joined ∙ ap (λ (us : List ℕ). us ++ x.front) none in
    let b : Short F L (U c.extend-came.new.begun) = subst (λ (us : List ℕ). Short F L us) (sym met) (front_short x.front x.rest (subst (λ (us : List ℕ). Short F L us) (sym all) s)) in
    let few : length c.extend-came.new.begun ≤ 120 = c.be_brief.ensures.brief c.extend-came.new.begun c.extend-came.ensures.at_unit b in
    let over : x.rest ≡ [] = ⊎_elim (λ e. e) (λ l. absurd (omega (arith, l, few))) x.full in
    let p : Passes g.R.ReadLeaves.rules c.args.units.now c.take_units.new.units c.extend-came.result = c.take_units.ensures.passed in
    no_units (U c.take_units.new.units) (omega (arith, ap length (all ∙ p.from), length-append x.front x.rest, length-append p.front (U c.take_units.new.units), ap length over, x.many, p.many))

pub returns-in-Err-Short-clause-kept : goal.returns-in-Err-Short-clause-kept
returns-in-Err-Short-clause-kept g c =
    let F = g.R.ReadLeaves.rules.ruling.fielding in
    let U = g.R.ReadLeaves.rules.to_units in
    let L = g.L.Leaf.language c.args.leaf.now in
    let a : Stops F L (U c.ahead-ahead.result) stop.Short = rw c.in-Err-Short.field-0-is at c.in-Err-Short.ensures.stop in
    let s : Short F L (U c.args.units.now) = subst (λ (us : List ℕ). Short F L (U us)) c.ahead-ahead.ensures a.told in
    let none : U c.args.begun.now ≡ [] = ap U (c.is_none.ensures.0 c.if-not-is_none.false) ∙ c.keep_feed_laws.ensures.none in
    let x : ExtendsBy g.R.ReadLeaves.rules c.args.begun.now c.extend-came.new.begun c.ahead.result c.extend-came.result = c.extend-came.ensures.extended in
    let all : x.front ++ x.rest ≡ U c.args.units.now = sym x.from ∙ ap U c.ahead.ensures in
    let met : U c.extend-came.new.begun ≡ x.front = x.joined ∙ ap (λ (us : List ℕ). us ++ x.front) none in
    let b : Short F L (U c.extend-came.new.begun) = subst (λ (us : List ℕ). Short F L us) (sym met) (front_short x.front x.rest (subst (λ (us : List ℕ). Short F L us) (sym all) s)) in
    let few : length c.extend-came.new.begun ≤ 120 = c.be_brief.ensures.brief c.extend-came.new.begun c.extend-came.ensures.at_unit b in
    let over : x.rest ≡ [] = ⊎_elim (λ e. e) (λ l. absurd (omega (arith, l, few))) x.full in
    x.joined ∙ ap (λ (us : List ℕ). U c.args.begun.now ++ us) (sym (append-nil x.front) ∙ ap (λ (us : List ℕ). x.front ++ us) (sym over) ∙ all)
