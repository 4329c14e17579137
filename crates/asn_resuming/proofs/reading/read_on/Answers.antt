use Rattle.std.proofs.Common.{◌≡◌, ◌≤◌, ◌+◌, ◌-◌, ◌/◌, ◌%◌, ◌++◌, ℕ, List, [], length, take, length-append, refl, sym, ap, ◌∙◌, subst, arith}
use Rattle.std.proofs.Math.Nat.{div-le_of_le-mul}
use Rattle.asn_values.specs.View.{shape_of, datum_of}
use Rattle.asn_rules.specs.Answer.{Answer, done, refused, max_octets}
use Rattle.asn_rules.specs.Languages.{Spells}
use Rattle.asn_rules.specs.Reading.{Wholes}
use Rattle.asn_rules.specs.Stops.{Stops}
use Rattle.asn_rules.specs.declared.stop.Stop.TheVariants as stop
use Rattle.asn_walk.proofs.Decoding.{few_units}
use Rattle.asn_walk_feed.specs.Nodes.{nodes}
use Rattle.asn_walk_feed.specs.Taken.{Took, KeepsFrames}
use Rattle.asn_resuming.specs.Counting.{Seen}
use Rattle.asn_resuming.proofs.Counts.{seen_of, going_of, most_of, front_units}
use Rattle.asn_resuming.proofs.NextOctets.{joined, units_joined, both_fill, value_on, refused_on, short_on}
use Rattle.asn_resuming.proofs.reading.read_on.Goals as goal

pub overflow_add-all : goal.overflow_add-all
overflow_add-all g c =
    let r = g.R.ReadLeaves.rules in
    let s = c.requires.reached.0 in
    let k = c.requires.reached.1 in
    let p = c.args.piece.now in
    let few : length (s ++ p) ≤ max_octets = omega (arith, length-append s p, k.octets_are, c.requires.few) in
    omega (arith, units_joined r c.keep_laws.ensures s p, k.units_are, c.units_of.ensures, few_units r c.keep_laws.ensures (s ++ p) few)

pub feed_complete-requires-clause-octets : goal.feed_complete-requires-clause-octets
feed_complete-requires-clause-octets g c =
    let r = g.R.ReadLeaves.rules in
    let s = c.requires.reached.0 in
    let p = c.args.piece.now in
    let over : r.to_units c.over-ahead.result ≡ r.ruling.units p = ap r.to_units c.over-ahead.ensures ∙ c.keep_laws.ensures.over p c.are_octets.ensures in
    let all : c.args.units + length (r.to_units c.over-ahead.result) ≡ length (r.ruling.units s) + length (r.ruling.units p) = omega (arith, c.requires.reached.1.units_are, ap length over) in
    ap (λ (n : ℕ). n % r.octet_units) all ∙ both_fill r c.keep_laws.ensures s p

pub feed_complete-requires-clause-few : goal.feed_complete-requires-clause-few
feed_complete-requires-clause-few g c =
    let r = g.R.ReadLeaves.rules in
    let s = c.requires.reached.0 in
    let k = c.requires.reached.1 in
    let p = c.args.piece.now in
    let over : r.to_units c.over-ahead.result ≡ r.ruling.units p = ap r.to_units c.over-ahead.ensures ∙ c.keep_laws.ensures.over p c.are_octets.ensures in
    let few : length (s ++ p) ≤ max_octets = omega (arith, length-append s p, k.octets_are, c.requires.few) in
    omega (arith, units_joined r c.keep_laws.ensures s p, k.units_are, c.requires.taken, ap length over, few_units r c.keep_laws.ensures (s ++ p) few)

pub overflow_sub-used : goal.overflow_sub-used
overflow_sub-used g c =
    let r = g.R.ReadLeaves.rules in
    let laws = c.keep_laws.ensures in
    let p = c.args.piece.now in
    let rest = r.to_units c.feed_complete.new.units in
    let over : r.to_units c.over-ahead.result ≡ r.ruling.units p = ap r.to_units c.over-ahead.ensures ∙ laws.over p c.are_octets.ensures in
    let fewer : length rest ≤ length (r.ruling.units p) = omega (arith, c.in-Ok.ensures.ticked, ap length over, c.requires.taken) in
    let left : c.octets_left.result ≡ length rest / r.octet_units = c.octets_left.ensures ∙ ap (λ (xs : List ℕ). length (r.to_units xs) / r.octet_units) c.ahead.ensures in
    let few : length rest / r.octet_units ≤ length p = div-le_of_le-mul r.octet_units (omega (arith, fewer, laws.count p)) in
    omega (arith, left, few)

pub returns-in-Ok-clause-answered : goal.returns-in-Ok-clause-answered
returns-in-Ok-clause-answered g c = λ s k.
    let r = g.R.ReadLeaves.rules in
    let laws = c.keep_laws.ensures in
    let t = shape_of c.args.ty.now in
    let p = c.args.piece.now in
    let v = datum_of c.in-Ok.value in
    let rest = r.to_units c.feed_complete.new.units in
    let over : r.to_units c.over-ahead.result ≡ r.ruling.units p = ap r.to_units c.over-ahead.ensures ∙ laws.over p c.are_octets.ensures in
    let fewer : length rest ≤ length (r.ruling.units p) = omega (arith, c.in-Ok.ensures.ticked, ap length over, c.requires.taken) in
    let left : c.octets_left.result ≡ length rest / r.octet_units = c.octets_left.ensures ∙ ap (λ (xs : List ℕ). length (r.to_units xs) / r.octet_units) c.ahead.ensures in
    let read : (us : List ℕ) → Took r g.R.FeedLeaves.fields g.R.ReadLeaves.ahead g.R.ReadLeaves.is_between (nodes c.args.frames.now) t us → length us ≡ c.args.units → Spells r.ruling.fielding (Wholes r.ruling t) v (us ++ r.ruling.units p) rest = rw (over, c.get.ensures.same) at c.in-Ok.ensures.done in
    let told = value_on r laws t c.get.ensures.of_profile s p rest v (read (r.ruling.units s) k.took k.units_are) fewer in
    subst (λ (n : ℕ). Answer r.ruling t (s ++ p) (done v (length s + (length p - n)))) (sym left) told.1

pub returns-in-Err-Refused-clause-answered : goal.returns-in-Err-Refused-clause-answered
returns-in-Err-Refused-clause-answered g c = λ s k.
    let r = g.R.ReadLeaves.rules in
    let laws = c.keep_laws.ensures in
    let t = shape_of c.args.ty.now in
    let p = c.args.piece.now in
    let left = c.in-Err-Refused.left in
    let all = c.args.units + c.units_of.result in
    let over : r.to_units c.over-ahead.result ≡ r.ruling.units p = ap r.to_units c.over-ahead.ensures ∙ laws.over p c.are_octets.ensures in
    let stops : (us : List ℕ) → Took r g.R.FeedLeaves.fields g.R.ReadLeaves.ahead g.R.ReadLeaves.is_between (nodes c.args.frames.now) t us → length us ≡ c.args.units → Stops r.ruling.fielding (Wholes r.ruling t) (us ++ r.ruling.units p) c.in-Err-Refused.field-0 = rw (over, c.get.ensures.same) at c.in-Err-Refused.ensures.stop in
    let here = stops (r.ruling.units s) k.took k.units_are in
    let stopped : Stops r.ruling.fielding (Wholes r.ruling t) (r.ruling.units s ++ r.ruling.units p) (stop.Refused left c.in-Err-Refused.why) = rw c.in-Err-Refused.field-0-is at here in
    let both : all ≡ length (r.ruling.units s) + length (r.ruling.units p) = omega (arith, k.units_are, c.units_of.ensures) in
    let few : length (s ++ p) ≤ max_octets = omega (arith, length-append s p, k.octets_are, c.requires.few) in
    subst (λ (n : ℕ). Answer r.ruling t (s ++ p) (refused (all - n))) (sym c.in-Err-Refused.left-is) (refused_on r laws t c.get.ensures.of_profile s p left all few both stopped.told)

pub returns-in-Err-Short-clause-answered : goal.returns-in-Err-Short-clause-answered
returns-in-Err-Short-clause-answered g c = λ s k.
    let r = g.R.ReadLeaves.rules in
    let laws = c.keep_laws.ensures in
    let t = shape_of c.args.ty.now in
    let p = c.args.piece.now in
    let over : r.to_units c.over-ahead.result ≡ r.ruling.units p = ap r.to_units c.over-ahead.ensures ∙ laws.over p c.are_octets.ensures in
    let stops : (us : List ℕ) → Took r g.R.FeedLeaves.fields g.R.ReadLeaves.ahead g.R.ReadLeaves.is_between (nodes c.args.frames.now) t us → length us ≡ c.args.units → Stops r.ruling.fielding (Wholes r.ruling t) (us ++ r.ruling.units p) c.in-Err-Short.field-0 = rw (over, c.get.ensures.same) at c.in-Err-Short.ensures.stop in
    let here = stops (r.ruling.units s) k.took k.units_are in
    let stopped : Stops r.ruling.fielding (Wholes r.ruling t) (r.ruling.units s ++ r.ruling.units p) stop.Short = rw c.in-Err-Short.field-0-is at here in
    let keeps : (us : List ℕ) → Took r g.R.FeedLeaves.fields g.R.ReadLeaves.ahead g.R.ReadLeaves.is_between (nodes c.args.frames.now) t us → length us ≡ c.args.units → KeepsFrames r g.R.FeedLeaves.fields g.R.ReadLeaves.ahead g.R.ReadLeaves.is_between (nodes c.feed_complete.new.frames) t (us ++ r.ruling.units p) c.in-Err-Short.field-0 = rw (over, c.get.ensures.same) at c.in-Err-Short.ensures.kept in
    let there = keeps (r.ruling.units s) k.took k.units_are in
    let kept : Took r g.R.FeedLeaves.fields g.R.ReadLeaves.ahead g.R.ReadLeaves.is_between (nodes c.feed_complete.new.frames) t (r.ruling.units s ++ r.ruling.units p) = rw c.in-Err-Short.field-0-is at there in
    record {
      short = short_on r laws t c.get.ensures.of_profile s p stopped.told;
      took = subst (λ (us : List ℕ). Took r g.R.FeedLeaves.fields g.R.ReadLeaves.ahead g.R.ReadLeaves.is_between (nodes c.feed_complete.new.frames) t us) (sym (joined r laws s p)) kept;
    }

-- ---- what was counted

pub returns-in-Ok-clause-counted : goal.returns-in-Ok-clause-counted
returns-in-Ok-clause-counted g c = λ s k w.
    let r = g.R.ReadLeaves.rules in
    let laws = c.keep_laws.ensures in
    let t = shape_of c.args.ty.now in
    let p = c.args.piece.now in
    let rest = r.to_units c.feed_complete.new.units in
    let over : r.to_units c.over-ahead.result ≡ r.ruling.units p = ap r.to_units c.over-ahead.ensures ∙ laws.over p c.are_octets.ensures in
    let cost = rw c.get.ensures.same at c.feed_complete.ensures.inside in
    let v = datum_of c.in-Ok.value in
    let fewer : length rest ≤ length (r.ruling.units p) = omega (arith, c.in-Ok.ensures.ticked, ap length over, c.in-Ok.ensures.rising) in
    let left : c.octets_left.result ≡ length rest / r.octet_units = c.octets_left.ensures ∙ ap (λ (xs : List ℕ). length (r.to_units xs) / r.octet_units) c.ahead.ensures in
    let read : (us : List ℕ) → Took r g.R.FeedLeaves.fields g.R.ReadLeaves.ahead g.R.ReadLeaves.is_between (nodes c.args.frames.now) t us → length us ≡ c.args.units → Spells r.ruling.fielding (Wholes r.ruling t) v (us ++ r.ruling.units p) rest = rw (over, c.get.ensures.same) at c.in-Ok.ensures.done in
    let here = read (r.ruling.units s) k.took k.units_are in
    let told = value_on r laws t c.get.ensures.of_profile s p rest v here fewer in
    let n = length s + (length p - c.octets_left.result) in
    let answer : Answer r.ruling t (s ++ p) (done v n) = subst (λ (i : ℕ). Answer r.ruling t (s ++ p) (done v (length s + (length p - i)))) (sym left) told.1 in
    let e = front_units r t (s ++ p) (take n (s ++ p)) (r.ruling.units s ++ r.ruling.units p) rest v n refl answer here in
    seen_of r g.R.FeedLeaves.fields g.R.ReadLeaves.ahead g.R.ReadLeaves.is_between (nodes c.args.frames.now) (nodes c.feed_complete.new.frames) t (length (r.ruling.units s)) c.args.ticks.now c.feed_complete.new.ticks c.over-ahead.result c.feed_complete.new.units w cost c.feed_complete.ensures.ticked (length (r.ruling.units (take n (s ++ p)))) (omega (arith, e, ap length over, length-append (r.ruling.units s) (r.ruling.units p)))

pub returns-in-Err-Refused-clause-counted : goal.returns-in-Err-Refused-clause-counted
returns-in-Err-Refused-clause-counted g c = λ s k w.
    let r = g.R.ReadLeaves.rules in
    let laws = c.keep_laws.ensures in
    let t = shape_of c.args.ty.now in
    let p = c.args.piece.now in
    let rest = r.to_units c.feed_complete.new.units in
    let over : r.to_units c.over-ahead.result ≡ r.ruling.units p = ap r.to_units c.over-ahead.ensures ∙ laws.over p c.are_octets.ensures in
    let cost = rw c.get.ensures.same at c.feed_complete.ensures.inside in
    let left = c.in-Err-Refused.left in
    let all = c.args.units + c.units_of.result in
    let after : length rest ≡ left = rw c.in-Err-Refused.field-0-is at c.in-Err-Refused.ensures.after in
    let fewer : length rest ≤ length (r.ruling.units p) = omega (arith, c.feed_complete.ensures.ticked, ap length over, c.feed_complete.ensures.rising) in
    let e : (all - left) + length rest ≡ length (r.ruling.units s) + length (r.to_units c.over-ahead.result) = omega (arith, after, fewer, ap length over, k.units_are, c.units_of.ensures) in
    subst (λ (n : ℕ). Seen t (all - n) c.feed_complete.new.ticks) (sym c.in-Err-Refused.left-is) (seen_of r g.R.FeedLeaves.fields g.R.ReadLeaves.ahead g.R.ReadLeaves.is_between (nodes c.args.frames.now) (nodes c.feed_complete.new.frames) t (length (r.ruling.units s)) c.args.ticks.now c.feed_complete.new.ticks c.over-ahead.result c.feed_complete.new.units w cost c.feed_complete.ensures.ticked (all - left) e)

pub returns-in-Err-Short-clause-counted : goal.returns-in-Err-Short-clause-counted
returns-in-Err-Short-clause-counted g c = λ s k w.
    let r = g.R.ReadLeaves.rules in
    let laws = c.keep_laws.ensures in
    let t = shape_of c.args.ty.now in
    let p = c.args.piece.now in
    let rest = r.to_units c.feed_complete.new.units in
    let over : r.to_units c.over-ahead.result ≡ r.ruling.units p = ap r.to_units c.over-ahead.ensures ∙ laws.over p c.are_octets.ensures in
    let cost = rw c.get.ensures.same at c.feed_complete.ensures.inside in
    let none : rest ≡ [] = rw c.in-Err-Short.field-0-is at c.in-Err-Short.ensures.after in
    going_of r g.R.FeedLeaves.fields g.R.ReadLeaves.ahead g.R.ReadLeaves.is_between (nodes c.args.frames.now) (nodes c.feed_complete.new.frames) t (length (r.ruling.units s)) c.args.ticks.now c.feed_complete.new.ticks c.over-ahead.result c.feed_complete.new.units w cost c.feed_complete.ensures.ticked (length (r.ruling.units (s ++ p))) (omega (arith, units_joined r laws s p, ap length over)) (ap length none) (λ n o. o (cc (c.in-Err-Short.is, c.in-Err-Short.field-0-is)))

pub returns-in-Err-Memory-clause-counted : goal.returns-in-Err-Memory-clause-counted
returns-in-Err-Memory-clause-counted g c = λ s k w.
    let r = g.R.ReadLeaves.rules in
    let laws = c.keep_laws.ensures in
    let t = shape_of c.args.ty.now in
    let p = c.args.piece.now in
    let rest = r.to_units c.feed_complete.new.units in
    let over : r.to_units c.over-ahead.result ≡ r.ruling.units p = ap r.to_units c.over-ahead.ensures ∙ laws.over p c.are_octets.ensures in
    let cost = rw c.get.ensures.same at c.feed_complete.ensures.inside in
    most_of r g.R.FeedLeaves.fields g.R.ReadLeaves.ahead g.R.ReadLeaves.is_between (nodes c.args.frames.now) (nodes c.feed_complete.new.frames) t (length (r.ruling.units s)) c.args.ticks.now c.feed_complete.new.ticks c.over-ahead.result c.feed_complete.new.units w cost c.feed_complete.ensures.ticked (length (r.ruling.units (s ++ p))) (omega (arith, units_joined r laws s p, ap length over))
