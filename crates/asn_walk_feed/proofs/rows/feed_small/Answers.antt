use Rattle.std.proofs.Common.{◌≤◌, ◌++◌, List, ℕ, length, length-append, inr, refl, sym, ap, ◌∙◌, subst, arith}
use Rattle.asn_values.specs.View.{shape_of}
use Rattle.asn_rules.specs.Languages.{Short}
use Rattle.asn_walk.specs.Reading.{ValuesOf}
use Rattle.asn_walk_feed.specs.Feeding.{ExtendsBy, Passes}
use Rattle.asn_walk_feed.proofs.Leaves.{no_units}
use Rattle.asn_walk_feed.proofs.Small.{small_brief, none_left, all_joined}
use Rattle.asn_walk_feed.proofs.rows.feed_small.Goals as goal

-- the units begin a row
pub returns-then-begins_row-clause-stop : goal.returns-then-begins_row-clause-stop
returns-then-begins_row-clause-stop g c =
    let r = g.R.ReadLeaves.rules in
    let t = shape_of c.args.ty.now in
    let b = c.extend-further.new.begun in
    let s : Short r.ruling.fielding (ValuesOf r t) (r.to_units b) = c.if-begins_row.ensures refl in
    let few : length b ≤ 120 = (small_brief r c.keep_laws.ensures c.keep_feed_laws.ensures t c.requires.of_profile c.requires.small).brief b c.extend-further.ensures.at_unit s in
    let x : ExtendsBy r c.copied-joined.result b c.ahead.result c.extend-further.result = c.extend-further.ensures.extended in
    let all = all_joined r c.copied-joined.result b c.ahead.result c.extend-further.result x few in
    let come = all ∙ ap (λ (l : List ℕ). r.to_units l ++ r.to_units c.ahead.result) c.copied-joined.ensures ∙ ap (λ (l : List ℕ). r.to_units c.args.begun.now ++ r.to_units l) c.ahead.ensures in
    record { told = subst (λ (l : List ℕ). Short r.ruling.fielding (ValuesOf r t) l) come s }

pub returns-then-begins_row-clause-kept : goal.returns-then-begins_row-clause-kept
returns-then-begins_row-clause-kept g c = λ e.
    let r = g.R.ReadLeaves.rules in
    let t = shape_of c.args.ty.now in
    let b = c.extend-further.new.begun in
    let s : Short r.ruling.fielding (ValuesOf r t) (r.to_units b) = c.if-begins_row.ensures refl in
    let few : length b ≤ 120 = (small_brief r c.keep_laws.ensures c.keep_feed_laws.ensures t c.requires.of_profile c.requires.small).brief b c.extend-further.ensures.at_unit s in
    let x : ExtendsBy r c.copied-joined.result b c.ahead.result c.extend-further.result = c.extend-further.ensures.extended in
    let all = all_joined r c.copied-joined.result b c.ahead.result c.extend-further.result x few in
    record {
      come = all ∙ ap (λ (l : List ℕ). r.to_units l ++ r.to_units c.ahead.result) c.copied-joined.ensures ∙ ap (λ (l : List ℕ). r.to_units c.args.begun.now ++ r.to_units l) c.ahead.ensures;
      at_unit = c.extend-further.ensures.at_unit;
      begins = inr s;
    }

-- and all of the piece are taken
pub returns-then-begins_row-clause-after : goal.returns-then-begins_row-clause-after
returns-then-begins_row-clause-after g c =
    let r = g.R.ReadLeaves.rules in
    let t = shape_of c.args.ty.now in
    let b = c.extend-further.new.begun in
    let s : Short r.ruling.fielding (ValuesOf r t) (r.to_units b) = c.if-begins_row.ensures refl in
    let few : length b ≤ 120 = (small_brief r c.keep_laws.ensures c.keep_feed_laws.ensures t c.requires.of_profile c.requires.small).brief b c.extend-further.ensures.at_unit s in
    let x : ExtendsBy r c.copied-joined.result b c.ahead.result c.extend-further.result = c.extend-further.ensures.extended in
    let none = none_left r c.copied-joined.result b c.ahead.result c.extend-further.result x few in
    let p : Passes r c.args.units.now c.take_units.new.units c.extend-further.result = c.take_units.ensures.passed in
    no_units (r.to_units c.take_units.new.units) (omega (arith, ap length (sym x.from ∙ ap r.to_units c.ahead.ensures ∙ p.from), length-append x.front x.rest, length-append p.front (r.to_units c.take_units.new.units), ap length none, x.many, p.many))
