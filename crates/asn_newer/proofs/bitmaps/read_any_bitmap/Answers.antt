use Rattle.std.proofs.Common.{◌≡◌, ◌++◌, ◌∙◌, Bool, true, false, Option, IsNone, refl, sym, subst, arith}
use Rattle.std.proofs.lemmas.Bool.{true≢false}
use Rattle.asn_walk.specs.declared.presence.PresenceBits.{PresenceBits}
use Rattle.asn_newer.proofs.Walk.AnyBitmaps.{before_one, none_further, none_of_all}
use Rattle.asn_newer.proofs.Walk.Halts.{halts_none, halts_short}
use Rattle.asn_newer.proofs.bitmaps.read_any_bitmap.Goals as goal

-- what was not told before was not told earlier
unset : (old new : Bool) → (old ≡ true → new ≡ true) → new ≡ false → old ≡ false
unset true new f e = absurd (true≢false (sym (f refl) ∙ e))
unset false new f e = refl

pub loop-count-init : goal.loop-count-init
loop-count-init g c = (
  c.in_default.ensures.none refl,
  before_one g.R.ReadLeaves.rules (g.R.ReadLeaves.rules.to_units c.args.units.now),
  λ _ after. before_one g.R.ReadLeaves.rules (g.R.ReadLeaves.rules.to_units c.args.units.now ++ after),
)

pub loop-count-preserved : goal.loop-count-preserved
loop-count-preserved g c =
    let none = subst (λ (o : Option PresenceBits). IsNone o) (sym c.in-Ok-None.field-0-is) refl in
    let us = g.R.ReadLeaves.rules.to_units c.args.units.now in
    let here = rw c.loop-count.invariant.0 at (c.in-Ok-None.ensures.none none) in (
      c.in-Ok-None.ensures.unchanged none ∙ c.loop-count.invariant.0,
      none_further g.R.ReadLeaves.rules c.loop-count.count us c.loop-count.invariant.1 here.none,
      λ e after. none_further g.R.ReadLeaves.rules c.loop-count.count (us ++ after) (c.loop-count.invariant.2 (unset _ _ (c.in-Ok-None.ensures.stays none) e) after) (here.never e after),
    )

pub returns-then-is_short-clause-stop : goal.returns-then-is_short-clause-stop
returns-then-is_short-clause-stop g c =
    halts_short g.R.ReadLeaves.rules _ (g.R.ReadLeaves.rules.to_units c.args.units.now) (none_of_all g.R.ReadLeaves.rules (g.R.ReadLeaves.rules.to_units c.args.units.now) (λ k h. c.loop-count.invariant.1 k (omega (arith, h, c.loop-count-test.false))))

pub returns-then-is_count_past-clause-stop : goal.returns-then-is_count_past-clause-stop
returns-then-is_count_past-clause-stop g c =
    halts_none g.R.ReadLeaves.rules _ (g.R.ReadLeaves.rules.to_units c.args.units.now) _
    (λ after. none_of_all g.R.ReadLeaves.rules (g.R.ReadLeaves.rules.to_units c.args.units.now ++ after) (λ k h. c.loop-count.invariant.2 c.if-is_short.false after k (omega (arith, h, c.loop-count-test.false))))

pub returns-then-is_count_past-clause-past : goal.returns-then-is_count_past-clause-past
returns-then-is_count_past-clause-past g c = rw c.loop-count.invariant.0 at (c.is_count_past.ensures.0 c.if-is_count_past.true)

pub returns-clause-stop : goal.returns-clause-stop
returns-clause-stop g c =
    halts_none g.R.ReadLeaves.rules _ (g.R.ReadLeaves.rules.to_units c.args.units.now) _
    (λ after. none_of_all g.R.ReadLeaves.rules (g.R.ReadLeaves.rules.to_units c.args.units.now ++ after) (λ k h. c.loop-count.invariant.2 c.if-is_short.false after k (omega (arith, h, c.loop-count-test.false))))

pub returns-clause-past : goal.returns-clause-past
returns-clause-past g c = λ p. true≢false (sym (c.is_count_past.ensures.1 (rw (sym c.loop-count.invariant.0) at p)) ∙ c.if-is_count_past.false)
