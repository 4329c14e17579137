use Rattle.std.proofs.Common.{◌≡◌, ◌≤◌, ◌<◌, ◌+◌, ◌-◌, ◌/◌, ℕ, List, length, take, sym, ◌∙◌, ap, subst, arith}
use Rattle.asn_values.specs.View.{shape_of}
use Rattle.asn_rules.specs.Answer.{Answer, done, refused, too_long, more, max_octets}
use Rattle.asn_rules.specs.Languages.{Spells}
use Rattle.asn_rules.specs.Reading.{Wholes}
use Rattle.asn_rules.specs.Stops.{Stops}
use Rattle.asn_rules.specs.declared.stop.Stop.TheVariants as stop
use Rattle.asn_walk.proofs.Decoding.{front_is, units_fill, octets_left_fewer, value_read, refusal_left, refusal_read, short_read, long_read, few_units}
use Rattle.asn_rules.proofs.Feeding.Sessions.{all_read}
use Rattle.asn_walk_check.proofs.message.check_front.Goals as goal

pub units_left-all-requires : goal.units_left-all-requires
units_left-all-requires g c =
    let s = take c.min-given.result c.args.octets.now in
    record { at_unit = rw c.over-units.ensures (c.keep_laws.ensures.begin s c.are_octets.ensures) }

pub read_complete-requires-clause-at_unit : goal.read_complete-requires-clause-at_unit
read_complete-requires-clause-at_unit g c = rw c.over-units.ensures (c.keep_laws.ensures.begin (take c.min-given.result c.args.octets.now) c.are_octets.ensures)

pub read_complete-requires-clause-octets : goal.read_complete-requires-clause-octets
read_complete-requires-clause-octets g c =
    let t = shape_of c.args.ty.now in
    let o = c.args.octets.now in
    let s = take c.min-given.result o in
    let f = front_is o c.min-given.result c.min-given.ensures in
    let over : g.R.ReadLeaves.rules.to_units c.over-units.result ≡ g.R.ReadLeaves.rules.ruling.units s = ap g.R.ReadLeaves.rules.to_units c.over-units.ensures ∙ c.keep_laws.ensures.over s c.are_octets.ensures in
    rw over (units_fill g.R.ReadLeaves.rules c.keep_laws.ensures s)

pub overflow_sub-used : goal.overflow_sub-used
overflow_sub-used g c =
    let t = shape_of c.args.ty.now in
    let o = c.args.octets.now in
    let s = take c.min-given.result o in
    let f = front_is o c.min-given.result c.min-given.ensures in
    let over : g.R.ReadLeaves.rules.to_units c.over-units.result ≡ g.R.ReadLeaves.rules.ruling.units s = ap g.R.ReadLeaves.rules.to_units c.over-units.ensures ∙ c.keep_laws.ensures.over s c.are_octets.ensures in
    let v = c.in-Ok.ensures.done.value in
    let rest = g.R.ReadLeaves.rules.to_units c.read_complete.new.units in
    let read : Spells g.R.ReadLeaves.rules.ruling.fielding (Wholes g.R.ReadLeaves.rules.ruling t) v (g.R.ReadLeaves.rules.ruling.units s) rest = rw (over, c.get.ensures.same) at c.in-Ok.ensures.done.read in
    omega (arith, octets_left_fewer g.R.ReadLeaves.rules c.keep_laws.ensures t c.get.ensures.of_profile s rest v read, f.1, c.octets_left.ensures)

pub returns-in-Ok : goal.returns-in-Ok
returns-in-Ok g c =
    let t = shape_of c.args.ty.now in
    let o = c.args.octets.now in
    let s = take c.min-given.result o in
    let f = front_is o c.min-given.result c.min-given.ensures in
    let over : g.R.ReadLeaves.rules.to_units c.over-units.result ≡ g.R.ReadLeaves.rules.ruling.units s = ap g.R.ReadLeaves.rules.to_units c.over-units.ensures ∙ c.keep_laws.ensures.over s c.are_octets.ensures in
    let v = c.in-Ok.ensures.done.value in
    let rest = g.R.ReadLeaves.rules.to_units c.read_complete.new.units in
    let read : Spells g.R.ReadLeaves.rules.ruling.fielding (Wholes g.R.ReadLeaves.rules.ruling t) v (g.R.ReadLeaves.rules.ruling.units s) rest = rw (over, c.get.ensures.same) at c.in-Ok.ensures.done.read in
    let used : length s - length rest / g.R.ReadLeaves.rules.octet_units ≡ c.min-given.result - c.octets_left.result = omega (arith, f.1, c.octets_left.ensures) in
    let here : Answer g.R.ReadLeaves.rules.ruling t s (done v (c.min-given.result - c.octets_left.result)) = subst (λ (n : ℕ). Answer g.R.ReadLeaves.rules.ruling t s (done v n)) used (value_read g.R.ReadLeaves.rules c.keep_laws.ensures t c.get.ensures.of_profile s rest v read) in
    (v, subst (λ (l : List ℕ). Answer g.R.ReadLeaves.rules.ruling t l (done v (c.min-given.result - c.octets_left.result))) f.0 here)

pub overflow_sub-at : goal.overflow_sub-at
overflow_sub-at g c =
    let t = shape_of c.args.ty.now in
    let o = c.args.octets.now in
    let s = take c.min-given.result o in
    let f = front_is o c.min-given.result c.min-given.ensures in
    let over : g.R.ReadLeaves.rules.to_units c.over-units.result ≡ g.R.ReadLeaves.rules.ruling.units s = ap g.R.ReadLeaves.rules.to_units c.over-units.ensures ∙ c.keep_laws.ensures.over s c.are_octets.ensures in
    let left = c.in-Err-Refused.left in
    let told : Stops g.R.ReadLeaves.rules.ruling.fielding (Wholes g.R.ReadLeaves.rules.ruling t) (g.R.ReadLeaves.rules.ruling.units s) c.in-Err-Refused.field-0 = rw (over, c.get.ensures.same) at c.in-Err-Refused.ensures.stop in
    let stopped : Stops g.R.ReadLeaves.rules.ruling.fielding (Wholes g.R.ReadLeaves.rules.ruling t) (g.R.ReadLeaves.rules.ruling.units s) (stop.Refused left c.in-Err-Refused.why) = rw c.in-Err-Refused.field-0-is at told in
    let all : c.units_left-all.result ≡ length (g.R.ReadLeaves.rules.ruling.units s) = c.units_left-all.ensures ∙ ap length over in
    omega (arith, c.in-Err-Refused.left-is, refusal_left g.R.ReadLeaves.rules c.keep_laws.ensures t c.get.ensures.of_profile (g.R.ReadLeaves.rules.ruling.units s) left stopped.told, all)

pub overflow_cast-at : goal.overflow_cast-at
overflow_cast-at g c =
    let t = shape_of c.args.ty.now in
    let o = c.args.octets.now in
    let s = take c.min-given.result o in
    let f = front_is o c.min-given.result c.min-given.ensures in
    let over : g.R.ReadLeaves.rules.to_units c.over-units.result ≡ g.R.ReadLeaves.rules.ruling.units s = ap g.R.ReadLeaves.rules.to_units c.over-units.ensures ∙ c.keep_laws.ensures.over s c.are_octets.ensures in
    let all : c.units_left-all.result ≡ length (g.R.ReadLeaves.rules.ruling.units s) = c.units_left-all.ensures ∙ ap length over in
    omega (arith, all, few_units g.R.ReadLeaves.rules c.keep_laws.ensures s (omega (arith, f.1, c.min-given.ensures)))

pub returns-in-Err-Refused : goal.returns-in-Err-Refused
returns-in-Err-Refused g c =
    let t = shape_of c.args.ty.now in
    let o = c.args.octets.now in
    let s = take c.min-given.result o in
    let f = front_is o c.min-given.result c.min-given.ensures in
    let over : g.R.ReadLeaves.rules.to_units c.over-units.result ≡ g.R.ReadLeaves.rules.ruling.units s = ap g.R.ReadLeaves.rules.to_units c.over-units.ensures ∙ c.keep_laws.ensures.over s c.are_octets.ensures in
    let left = c.in-Err-Refused.left in
    let told : Stops g.R.ReadLeaves.rules.ruling.fielding (Wholes g.R.ReadLeaves.rules.ruling t) (g.R.ReadLeaves.rules.ruling.units s) c.in-Err-Refused.field-0 = rw (over, c.get.ensures.same) at c.in-Err-Refused.ensures.stop in
    let stopped : Stops g.R.ReadLeaves.rules.ruling.fielding (Wholes g.R.ReadLeaves.rules.ruling t) (g.R.ReadLeaves.rules.ruling.units s) (stop.Refused left c.in-Err-Refused.why) = rw c.in-Err-Refused.field-0-is at told in
    let all : c.units_left-all.result ≡ length (g.R.ReadLeaves.rules.ruling.units s) = c.units_left-all.ensures ∙ ap length over in
    let few : length s ≤ max_octets = omega (arith, f.1, c.min-given.ensures) in
    let here : Answer g.R.ReadLeaves.rules.ruling t s (refused (length (g.R.ReadLeaves.rules.ruling.units s) - left)) = refusal_read g.R.ReadLeaves.rules c.keep_laws.ensures t c.get.ensures.of_profile s left few stopped.told in
    let there : Answer g.R.ReadLeaves.rules.ruling t s (refused (c.units_left-all.result - left)) = subst (λ (n : ℕ). Answer g.R.ReadLeaves.rules.ruling t s (refused (n - left))) (sym all) here in
    let front : Answer g.R.ReadLeaves.rules.ruling t (take max_octets o) (refused (c.units_left-all.result - left)) = subst (λ (l : List ℕ). Answer g.R.ReadLeaves.rules.ruling t l (refused (c.units_left-all.result - left))) f.0 there in
    λ _. subst (λ (n : ℕ). Answer g.R.ReadLeaves.rules.ruling t (take max_octets o) (refused (c.units_left-all.result - n))) (sym c.in-Err-Refused.left-is) front

pub returns-then-given-eq-MAX_OCTETS : goal.returns-then-given-eq-MAX_OCTETS
returns-then-given-eq-MAX_OCTETS g c =
    let t = shape_of c.args.ty.now in
    let o = c.args.octets.now in
    let s = take c.min-given.result o in
    let f = front_is o c.min-given.result c.min-given.ensures in
    let over : g.R.ReadLeaves.rules.to_units c.over-units.result ≡ g.R.ReadLeaves.rules.ruling.units s = ap g.R.ReadLeaves.rules.to_units c.over-units.ensures ∙ c.keep_laws.ensures.over s c.are_octets.ensures in
    let told : Stops g.R.ReadLeaves.rules.ruling.fielding (Wholes g.R.ReadLeaves.rules.ruling t) (g.R.ReadLeaves.rules.ruling.units s) c.in-Err-Short.field-0 = rw (over, c.get.ensures.same) at c.in-Err-Short.ensures.stop in
    let stopped : Stops g.R.ReadLeaves.rules.ruling.fielding (Wholes g.R.ReadLeaves.rules.ruling t) (g.R.ReadLeaves.rules.ruling.units s) stop.Short = rw c.in-Err-Short.field-0-is at told in
    λ _. subst (λ (l : List ℕ). Answer g.R.ReadLeaves.rules.ruling t l too_long) f.0 (long_read g.R.ReadLeaves.rules c.keep_laws.ensures t c.get.ensures.of_profile s (f.1 ∙ c.if-given-eq-MAX_OCTETS.true) stopped.told)

pub overflow_cast-taken : goal.overflow_cast-taken
overflow_cast-taken g c =
    let t = shape_of c.args.ty.now in
    let o = c.args.octets.now in
    let s = take c.min-given.result o in
    let f = front_is o c.min-given.result c.min-given.ensures in
    let over : g.R.ReadLeaves.rules.to_units c.over-units.result ≡ g.R.ReadLeaves.rules.ruling.units s = ap g.R.ReadLeaves.rules.to_units c.over-units.ensures ∙ c.keep_laws.ensures.over s c.are_octets.ensures in
    let all : c.units_left-all.result ≡ length (g.R.ReadLeaves.rules.ruling.units s) = c.units_left-all.ensures ∙ ap length over in
    omega (arith, all, few_units g.R.ReadLeaves.rules c.keep_laws.ensures s (omega (arith, f.1, c.min-given.ensures)))

pub returns-else-given-eq-MAX_OCTETS : goal.returns-else-given-eq-MAX_OCTETS
returns-else-given-eq-MAX_OCTETS g c =
    let t = shape_of c.args.ty.now in
    let o = c.args.octets.now in
    let s = take c.min-given.result o in
    let f = front_is o c.min-given.result c.min-given.ensures in
    let over : g.R.ReadLeaves.rules.to_units c.over-units.result ≡ g.R.ReadLeaves.rules.ruling.units s = ap g.R.ReadLeaves.rules.to_units c.over-units.ensures ∙ c.keep_laws.ensures.over s c.are_octets.ensures in
    let told : Stops g.R.ReadLeaves.rules.ruling.fielding (Wholes g.R.ReadLeaves.rules.ruling t) (g.R.ReadLeaves.rules.ruling.units s) c.in-Err-Short.field-0 = rw (over, c.get.ensures.same) at c.in-Err-Short.ensures.stop in
    let stopped : Stops g.R.ReadLeaves.rules.ruling.fielding (Wholes g.R.ReadLeaves.rules.ruling t) (g.R.ReadLeaves.rules.ruling.units s) stop.Short = rw c.in-Err-Short.field-0-is at told in
    let few : length s < max_octets = omega (arith, f.1, c.min-given.ensures, c.if-given-eq-MAX_OCTETS.false) in
    let front : Answer g.R.ReadLeaves.rules.ruling t (take max_octets o) more = subst (λ (l : List ℕ). Answer g.R.ReadLeaves.rules.ruling t l more) f.0 (short_read g.R.ReadLeaves.rules c.keep_laws.ensures t c.get.ensures.of_profile s few stopped.told) in
    let all = all_read g.R.ReadLeaves.rules.ruling t o front in
    let same : s ≡ o = f.0 ∙ all in
    let units : c.units_left-all.result ≡ length (g.R.ReadLeaves.rules.ruling.units o) = c.units_left-all.ensures ∙ ap length over ∙ ap (λ (l : List ℕ). length (g.R.ReadLeaves.rules.ruling.units l)) same in
    λ _. (units, subst (λ (l : List ℕ). Answer g.R.ReadLeaves.rules.ruling t l more) all front)
