use Rattle.std.proofs.Common.{◌≡◌, ◌≤◌, ◌<◌, ◌+◌, ◌-◌, ⊎_elim, ◌++◌, [], ℕ, List, length, length-append, sym, ap, ◌∙◌, subst, append-nil, Fits, w32, arith}
use Rattle.std.proofs.lemmas.Result.{err_from_is_err_and}
use Rattle.std.specs.Prelude.{is_some}
use Rattle.asn_rules.specs.Languages.{Spells, Short, Refused}
use Rattle.asn_rules.specs.Stops.{Stops}
use Rattle.asn_rules.specs.declared.stop.Stop.TheVariants as stop
use Rattle.asn_rules.proofs.Answer.Answers.{done_later, refused_later}
use Rattle.asn_walk.proofs.Parts.{fields_part_of}
use Rattle.asn_walk_feed.specs.Feeding.{ExtendsBy, Passes}
use Rattle.asn_walk_feed.proofs.Leaves.{joined_done, joined_refused, joined_short, no_units}
use Rattle.asn_walk_feed.proofs.leaf.feed_leaf.Goals as goal

-- it was cut at once, or an allocation failed
pub returns-in_err-value-clause-stop : goal.returns-in_err-value-clause-stop
returns-in_err-value-clause-stop g c =
    let p = err_from_is_err_and c.from_residual.result c.from_residual.ensures.1 in
    rw (p.1, p.2) c.in_err-value.ensures.stop

pub returns-in_err-value-clause-after : goal.returns-in_err-value-clause-after
returns-in_err-value-clause-after g c =
    let p = err_from_is_err_and c.from_residual.result c.from_residual.ensures.1 in
    rw (p.1, p.2) c.in_err-value.ensures.after

pub returns-in_err-value-clause-kept : goal.returns-in_err-value-clause-kept
returns-in_err-value-clause-kept g c =
    let p = err_from_is_err_and c.from_residual.result c.from_residual.ensures.1 in
    rw (p.1, p.2) c.in_err-value.ensures.kept

-- fewer units are left after the part than came with the piece
pub overflow_sub-further : goal.overflow_sub-further
overflow_sub-further g c =
    let F = g.R.ReadLeaves.rules.ruling.fielding in
    let short : Short F (g.L.Leaf.language c.args.leaf.now) (g.R.ReadLeaves.rules.to_units c.args.begun.now) = c.in_ok-value.ensures.short (ap is_some c.in_default.is) in
    let still : c.read_at_once.new.units ≡ c.args.units.now = (c.in_ok-value.ensures.still (ap is_some c.in_default.is)).0 in
    let same : c.read_at_once.new.begun ≡ c.args.begun.now = (c.in_ok-value.ensures.still (ap is_some c.in_default.is)).2 in
    let U = g.R.ReadLeaves.rules.to_units in
    let L = g.L.Leaf.language c.args.leaf.now in
    let v = g.L.Leaf.seen c.in-Ok.value in
    let x : ExtendsBy g.R.ReadLeaves.rules c.copied-joined.result c.extend-further.new.begun c.ahead.result c.extend-further.result = c.extend-further.ensures.extended in
    let a : Spells F L v (U c.args.begun.now ++ x.front) (U c.read.new.units) = subst (λ (us : List ℕ). Spells F L v us (U c.read.new.units)) (ap U c.over-cursor.ensures ∙ x.joined ∙ ap (λ (us : List ℕ). U us ++ x.front) (c.copied-joined.ensures ∙ same)) c.in-Ok.ensures.done in
    omega (arith, done_later x.front short a, x.many, c.units_left-left.ensures)

pub overflow_cast-left : goal.overflow_cast-left
overflow_cast-left g c =
    let F = g.R.ReadLeaves.rules.ruling.fielding in
    let short : Short F (g.L.Leaf.language c.args.leaf.now) (g.R.ReadLeaves.rules.to_units c.args.begun.now) = c.in_ok-value.ensures.short (ap is_some c.in_default.is) in
    let still : c.read_at_once.new.units ≡ c.args.units.now = (c.in_ok-value.ensures.still (ap is_some c.in_default.is)).0 in
    let same : c.read_at_once.new.begun ≡ c.args.begun.now = (c.in_ok-value.ensures.still (ap is_some c.in_default.is)).2 in
    let U = g.R.ReadLeaves.rules.to_units in
    let L = g.L.Leaf.language c.args.leaf.now in
    let v = g.L.Leaf.seen c.in-Ok.value in
    let x : ExtendsBy g.R.ReadLeaves.rules c.copied-joined.result c.extend-further.new.begun c.ahead.result c.extend-further.result = c.extend-further.ensures.extended in
    let a : Spells F L v (U c.args.begun.now ++ x.front) (U c.read.new.units) = subst (λ (us : List ℕ). Spells F L v us (U c.read.new.units)) (ap U c.over-cursor.ensures ∙ x.joined ∙ ap (λ (us : List ℕ). U us ++ x.front) (c.copied-joined.ensures ∙ same)) c.in-Ok.ensures.done in
    let l : c.units_left-left.result ≤ 128 = omega (arith, done_later x.front short a, x.many, c.units_left-left.ensures, c.extend-further.ensures.few) in
    omega (arith, l)

pub overflow_sub-further-in-Err-Refused : goal.overflow_sub-further-in-Err-Refused
overflow_sub-further-in-Err-Refused g c =
    let F = g.R.ReadLeaves.rules.ruling.fielding in
    let short : Short F (g.L.Leaf.language c.args.leaf.now) (g.R.ReadLeaves.rules.to_units c.args.begun.now) = c.in_ok-value.ensures.short (ap is_some c.in_default.is) in
    let still : c.read_at_once.new.units ≡ c.args.units.now = (c.in_ok-value.ensures.still (ap is_some c.in_default.is)).0 in
    let same : c.read_at_once.new.begun ≡ c.args.begun.now = (c.in_ok-value.ensures.still (ap is_some c.in_default.is)).2 in
    let U = g.R.ReadLeaves.rules.to_units in
    let L = g.L.Leaf.language c.args.leaf.now in
    let w = stop.Refused c.in-Err-Refused.left c.in-Err-Refused.why in
    let x : ExtendsBy g.R.ReadLeaves.rules c.copied-joined.result c.extend-further.new.begun c.ahead.result c.extend-further.result = c.extend-further.ensures.extended in
    let a : Stops F L (U c.over-cursor.result) w = rw c.in-Err-Refused.field-0-is at c.in-Err-Refused.ensures.stop in
    let b : Stops F L (U c.args.begun.now ++ x.front) w = subst (λ (us : List ℕ). Stops F L us w) (ap U c.over-cursor.ensures ∙ x.joined ∙ ap (λ (us : List ℕ). U us ++ x.front) (c.copied-joined.ensures ∙ same)) a in
    let l : c.in-Err-Refused.left < length x.front = refused_later x.front short b.told in
    let m : c.in-Err-Refused.left ≤ c.extend-further.result = omega (arith, l, x.many) in
    rw c.in-Err-Refused.left-is m

pub overflow_cast-left-in-Err-Refused : goal.overflow_cast-left-in-Err-Refused
overflow_cast-left-in-Err-Refused g c =
    let F = g.R.ReadLeaves.rules.ruling.fielding in
    let short : Short F (g.L.Leaf.language c.args.leaf.now) (g.R.ReadLeaves.rules.to_units c.args.begun.now) = c.in_ok-value.ensures.short (ap is_some c.in_default.is) in
    let still : c.read_at_once.new.units ≡ c.args.units.now = (c.in_ok-value.ensures.still (ap is_some c.in_default.is)).0 in
    let same : c.read_at_once.new.begun ≡ c.args.begun.now = (c.in_ok-value.ensures.still (ap is_some c.in_default.is)).2 in
    let U = g.R.ReadLeaves.rules.to_units in
    let L = g.L.Leaf.language c.args.leaf.now in
    let w = stop.Refused c.in-Err-Refused.left c.in-Err-Refused.why in
    let x : ExtendsBy g.R.ReadLeaves.rules c.copied-joined.result c.extend-further.new.begun c.ahead.result c.extend-further.result = c.extend-further.ensures.extended in
    let a : Stops F L (U c.over-cursor.result) w = rw c.in-Err-Refused.field-0-is at c.in-Err-Refused.ensures.stop in
    let b : Stops F L (U c.args.begun.now ++ x.front) w = subst (λ (us : List ℕ). Stops F L us w) (ap U c.over-cursor.ensures ∙ x.joined ∙ ap (λ (us : List ℕ). U us ++ x.front) (c.copied-joined.ensures ∙ same)) a in
    let l : c.in-Err-Refused.left < length x.front = refused_later x.front short b.told in
    let m : Fits w32 c.in-Err-Refused.left = omega (arith, l, x.many, c.extend-further.ensures.few) in
    rw c.in-Err-Refused.left-is m

pub returns-in-Ok-clause-done : goal.returns-in-Ok-clause-done
returns-in-Ok-clause-done g c =
    let F = g.R.ReadLeaves.rules.ruling.fielding in
    let short : Short F (g.L.Leaf.language c.args.leaf.now) (g.R.ReadLeaves.rules.to_units c.args.begun.now) = c.in_ok-value.ensures.short (ap is_some c.in_default.is) in
    let still : c.read_at_once.new.units ≡ c.args.units.now = (c.in_ok-value.ensures.still (ap is_some c.in_default.is)).0 in
    let same : c.read_at_once.new.begun ≡ c.args.begun.now = (c.in_ok-value.ensures.still (ap is_some c.in_default.is)).2 in
    let U = g.R.ReadLeaves.rules.to_units in
    let L = g.L.Leaf.language c.args.leaf.now in
    let v = g.L.Leaf.seen c.in-Ok.value in
    let x : ExtendsBy g.R.ReadLeaves.rules c.copied-joined.result c.extend-further.new.begun c.ahead.result c.extend-further.result = c.extend-further.ensures.extended in
    let p : Passes g.R.ReadLeaves.rules c.args.units.now c.take_units.new.units (c.extend-further.result - c.units_left-left.result) = rw still at c.take_units.ensures.passed in
    let a : Spells F L v (U c.args.begun.now ++ x.front) (U c.read.new.units) = subst (λ (us : List ℕ). Spells F L v us (U c.read.new.units)) (ap U c.over-cursor.ensures ∙ x.joined ∙ ap (λ (us : List ℕ). U us ++ x.front) (c.copied-joined.ensures ∙ same)) c.in-Ok.ensures.done in
    let all : x.front ++ x.rest ≡ U c.args.units.now = sym x.from ∙ ap U (c.ahead.ensures ∙ still) in
    let l : length p.front + length (U c.read.new.units) ≡ length x.front = omega (arith, done_later x.front short a, x.many, p.many, c.units_left-left.ensures) in
    let k : Spells F L v (U c.args.begun.now ++ (x.front ++ x.rest)) (U c.take_units.new.units) = joined_done (U c.args.begun.now) x.front x.rest (U c.read.new.units) p.front (U c.take_units.new.units) a (all ∙ p.from) l in
    subst (λ (us : List ℕ). Spells F L v (U c.args.begun.now ++ us) (U c.take_units.new.units)) all k

pub returns-in-Err-Refused-clause-stop : goal.returns-in-Err-Refused-clause-stop
returns-in-Err-Refused-clause-stop g c =
    let F = g.R.ReadLeaves.rules.ruling.fielding in
    let short : Short F (g.L.Leaf.language c.args.leaf.now) (g.R.ReadLeaves.rules.to_units c.args.begun.now) = c.in_ok-value.ensures.short (ap is_some c.in_default.is) in
    let still : c.read_at_once.new.units ≡ c.args.units.now = (c.in_ok-value.ensures.still (ap is_some c.in_default.is)).0 in
    let same : c.read_at_once.new.begun ≡ c.args.begun.now = (c.in_ok-value.ensures.still (ap is_some c.in_default.is)).2 in
    let U = g.R.ReadLeaves.rules.to_units in
    let L = g.L.Leaf.language c.args.leaf.now in
    let n = c.in-Err-Refused.left in
    let w = stop.Refused n c.in-Err-Refused.why in
    let x : ExtendsBy g.R.ReadLeaves.rules c.copied-joined.result c.extend-further.new.begun c.ahead.result c.extend-further.result = c.extend-further.ensures.extended in
    let p : Passes g.R.ReadLeaves.rules c.args.units.now c.take_units-in-Err-Refused.new.units (c.extend-further.result - n) = rw (c.in-Err-Refused.left-is, still) at c.take_units-in-Err-Refused.ensures.passed in
    let a : Stops F L (U c.over-cursor.result) w = rw c.in-Err-Refused.field-0-is at c.in-Err-Refused.ensures.stop in
    let b : Stops F L (U c.args.begun.now ++ x.front) w = subst (λ (us : List ℕ). Stops F L us w) (ap U c.over-cursor.ensures ∙ x.joined ∙ ap (λ (us : List ℕ). U us ++ x.front) (c.copied-joined.ensures ∙ same)) a in
    let all : x.front ++ x.rest ≡ U c.args.units.now = sym x.from ∙ ap U (c.ahead.ensures ∙ still) in
    let l : length p.front + n ≡ length x.front = omega (arith, refused_later x.front short b.told, x.many, p.many) in
    let k : Refused F L (U c.args.begun.now ++ (x.front ++ x.rest)) (length (U c.take_units-in-Err-Refused.new.units)) = joined_refused (U c.args.begun.now) x.front x.rest p.front (U c.take_units-in-Err-Refused.new.units) (fields_part_of g.R.ReadLeaves.rules c.keep_laws.ensures) b.told (all ∙ p.from) l in
    let left : c.units_left-left-in-Err-Refused.result ≡ length (U c.take_units-in-Err-Refused.new.units) = c.units_left-left-in-Err-Refused.ensures ∙ ap (λ (us : List ℕ). length (U us)) c.ahead-in-Err-Refused.ensures in
    rw (left, ← all) (record { told = k })

-- all units of the piece came
pub returns-in-Err-Short-clause-stop : goal.returns-in-Err-Short-clause-stop
returns-in-Err-Short-clause-stop g c =
    let F = g.R.ReadLeaves.rules.ruling.fielding in
    let short : Short F (g.L.Leaf.language c.args.leaf.now) (g.R.ReadLeaves.rules.to_units c.args.begun.now) = c.in_ok-value.ensures.short (ap is_some c.in_default.is) in
    let still : c.read_at_once.new.units ≡ c.args.units.now = (c.in_ok-value.ensures.still (ap is_some c.in_default.is)).0 in
    let same : c.read_at_once.new.begun ≡ c.args.begun.now = (c.in_ok-value.ensures.still (ap is_some c.in_default.is)).2 in
    let U = g.R.ReadLeaves.rules.to_units in
    let L = g.L.Leaf.language c.args.leaf.now in
    let x : ExtendsBy g.R.ReadLeaves.rules c.copied-joined.result c.extend-further.new.begun c.ahead.result c.extend-further.result = c.extend-further.ensures.extended in
    let a : Stops F L (U c.over-cursor.result) stop.Short = rw c.in-Err-Short.field-0-is at c.in-Err-Short.ensures.stop in
    let s : Short F L (U c.extend-further.new.begun) = subst (λ (us : List ℕ). Short F L (U us)) c.over-cursor.ensures a.told in
    let few : length c.extend-further.new.begun ≤ 120 = c.be_brief.ensures.brief c.extend-further.new.begun c.extend-further.ensures.at_unit s in
    let none : x.rest ≡ [] = ⊎_elim (λ e. e) (λ l. absurd (omega (arith, l, few))) x.full in
    let t : Short F L (U c.args.begun.now ++ x.front) = subst (λ (us : List ℕ). Short F L us) (x.joined ∙ ap (λ (us : List ℕ). U us ++ x.front) (c.copied-joined.ensures ∙ same)) s in
    let all : x.front ++ x.rest ≡ U c.args.units.now = sym x.from ∙ ap U (c.ahead.ensures ∙ still) in
    rw (← all) (record { told = joined_short (U c.args.begun.now) x.front x.rest t none })

pub returns-in-Err-Short-clause-after : goal.returns-in-Err-Short-clause-after
returns-in-Err-Short-clause-after g c =
    let F = g.R.ReadLeaves.rules.ruling.fielding in
    let short : Short F (g.L.Leaf.language c.args.leaf.now) (g.R.ReadLeaves.rules.to_units c.args.begun.now) = c.in_ok-value.ensures.short (ap is_some c.in_default.is) in
    let still : c.read_at_once.new.units ≡ c.args.units.now = (c.in_ok-value.ensures.still (ap is_some c.in_default.is)).0 in
    let same : c.read_at_once.new.begun ≡ c.args.begun.now = (c.in_ok-value.ensures.still (ap is_some c.in_default.is)).2 in
    let U = g.R.ReadLeaves.rules.to_units in
    let L = g.L.Leaf.language c.args.leaf.now in
    let x : ExtendsBy g.R.ReadLeaves.rules c.copied-joined.result c.extend-further.new.begun c.ahead.result c.extend-further.result = c.extend-further.ensures.extended in
    let p : Passes g.R.ReadLeaves.rules c.args.units.now c.take_units-in-Err-Short.new.units c.extend-further.result = rw still at c.take_units-in-Err-Short.ensures.passed in
    let a : Stops F L (U c.over-cursor.result) stop.Short = rw c.in-Err-Short.field-0-is at c.in-Err-Short.ensures.stop in
    let s : Short F L (U c.extend-further.new.begun) = subst (λ (us : List ℕ). Short F L (U us)) c.over-cursor.ensures a.told in
    let few : length c.extend-further.new.begun ≤ 120 = c.be_brief.ensures.brief c.extend-further.new.begun c.extend-further.ensures.at_unit s in
    let none : x.rest ≡ [] = ⊎_elim (λ e. e) (λ l. absurd (omega (arith, l, few))) x.full in
    let all : x.front ++ x.rest ≡ U c.args.units.now = sym x.from ∙ ap U (c.ahead.ensures ∙ still) in
    no_units (U c.take_units-in-Err-Short.new.units) (omega (arith, ap length (all ∙ p.from), length-append x.front x.rest, length-append p.front (U c.take_units-in-Err-Short.new.units), ap length none, x.many, p.many))

pub returns-in-Err-Short-clause-kept : goal.returns-in-Err-Short-clause-kept
returns-in-Err-Short-clause-kept g c =
    let F = g.R.ReadLeaves.rules.ruling.fielding in
    let short : Short F (g.L.Leaf.language c.args.leaf.now) (g.R.ReadLeaves.rules.to_units c.args.begun.now) = c.in_ok-value.ensures.short (ap is_some c.in_default.is) in
    let still : c.read_at_once.new.units ≡ c.args.units.now = (c.in_ok-value.ensures.still (ap is_some c.in_default.is)).0 in
    let same : c.read_at_once.new.begun ≡ c.args.begun.now = (c.in_ok-value.ensures.still (ap is_some c.in_default.is)).2 in
    let U = g.R.ReadLeaves.rules.to_units in
    let L = g.L.Leaf.language c.args.leaf.now in
    let x : ExtendsBy g.R.ReadLeaves.rules c.copied-joined.result c.extend-further.new.begun c.ahead.result c.extend-further.result = c.extend-further.ensures.extended in
    let a : Stops F L (U c.over-cursor.result) stop.Short = rw c.in-Err-Short.field-0-is at c.in-Err-Short.ensures.stop in
    let s : Short F L (U c.extend-further.new.begun) = subst (λ (us : List ℕ). Short F L (U us)) c.over-cursor.ensures a.told in
    let few : length c.extend-further.new.begun ≤ 120 = c.be_brief.ensures.brief c.extend-further.new.begun c.extend-further.ensures.at_unit s in
    let none : x.rest ≡ [] = ⊎_elim (λ e. e) (λ l. absurd (omega (arith, l, few))) x.full in
    let all : x.front ++ x.rest ≡ U c.args.units.now = sym x.from ∙ ap U (c.ahead.ensures ∙ still) in
    x.joined ∙ ap (λ (us : List ℕ). U us ++ x.front) (c.copied-joined.ensures ∙ same) ∙ ap (λ (us : List ℕ). U c.args.begun.now ++ us) (sym (append-nil x.front) ∙ ap (λ (us : List ℕ). x.front ++ us) (sym none) ∙ all)
