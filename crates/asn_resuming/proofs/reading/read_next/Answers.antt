use Rattle.std.proofs.Common.{◌<◌, ◌^◌, length-take, refl, ◌≡◌, ◌≤◌, ◌+◌, ◌++◌, ℕ, List, Ok, Err, [], length, take, sym, ap, ◌∙◌, subst, arith}
use Rattle.asn_values.specs.View.{shape_of, datum_of}
use Rattle.asn_rules.specs.Answer.{max_octets}
use Rattle.asn_rules.specs.AtOnce.{FedAtOnce}
use Rattle.asn_rules.specs.declared.session.Step.TheVariants as step
use Rattle.asn_rules.specs.declared.session.FeedFault.TheVariants as feed
use Rattle.asn_rules.proofs.Live.Lists.{no_length}
use Rattle.asn_rules.proofs.Feeding.SoFar.{no_units}
use Rattle.asn_rules.proofs.Feeding.Sessions.{take_few}
use Rattle.asn_walk.proofs.Decoding.{few_units}
use Rattle.asn_walk_feed.specs.Nodes.{nodes}
use Rattle.asn_resuming.specs.Counting.{Seen}
use Rattle.asn_resuming.proofs.Counts.{seen_at_once, most_at_once}
use Rattle.asn_resuming.proofs.NextOctets.{first_value, first_refusal, units_joined}
use Rattle.asn_resuming.proofs.reading.read_next.Goals as goal

pub slice_bounds-units_of-end : goal.slice_bounds-units_of-end
slice_bounds-units_of-end g c =
    let r = g.R.ReadLeaves.rules.ruling in
    let t = shape_of c.args.ty.now in
    let p = c.args.piece.now in
    let used = c.in-Ok-Done.used in
    let few : length p ≤ max_octets = omega (arith, c.requires.few) in
    let fed : FedAtOnce r t p (Ok (step.Done c.in-Ok-Done.value used)) = rw (c.in-Ok-Done.is, c.in-Ok-Done.field-0-is) at c.read.ensures in
    let within : 0 + used ≤ length p = (first_value r t [] p (datum_of c.in-Ok-Done.value) used refl few fed).0 in
    omega (arith, length-take used p, within)

pub add-requires : goal.add-requires
add-requires g c =
    let r = g.R.ReadLeaves.rules in
    let laws = c.keep_laws.ensures in
    let p = c.args.piece.now in
    let s = c.requires.reached.0 in
    let k = c.requires.reached.1 in
    let front = take c.in-Ok-Done.used p in
    let none : s ≡ [] = no_length s (omega (arith, k.octets_are, c.if-octets-gt0.false)) in
    let no_unit : length (r.ruling.units s) ≡ 0 = ap (λ (l : List ℕ). length (r.ruling.units l)) none ∙ ap length (no_units r.ruling laws.tells) in
    let few : length front ≤ max_octets = omega (arith, c.requires.few, (take_few c.in-Ok-Done.used p).1) in
    omega (arith, c.requires.taken, k.units_are, no_unit, c.units_of.ensures, few_units r laws front few)

pub add-requires-in-Err-Refused : goal.add-requires-in-Err-Refused
add-requires-in-Err-Refused g c =
    let r = g.R.ReadLeaves.rules in
    let laws = c.keep_laws.ensures in
    let t = shape_of c.args.ty.now in
    let p = c.args.piece.now in
    let at = c.in-Err-Refused.at in
    let s = c.requires.reached.0 in
    let k = c.requires.reached.1 in
    let none : s ≡ [] = no_length s (omega (arith, k.octets_are, c.if-octets-gt0.false)) in
    let no_unit : length (r.ruling.units s) ≡ 0 = ap (λ (l : List ℕ). length (r.ruling.units l)) none ∙ ap length (no_units r.ruling laws.tells) in
    let few : length p ≤ max_octets = omega (arith, c.requires.few) in
    let fed : FedAtOnce r.ruling t p (Err (feed.Refused at c.in-Err-Refused.why)) = rw (c.in-Err-Refused.is, c.in-Err-Refused.field-0-is) at c.read.ensures in
    let within : at ≤ length (r.ruling.units p) = (first_refusal r.ruling t [] p at refl few fed).1.0 in
    omega (arith, c.requires.taken, k.units_are, no_unit, within, few_units r laws p few)

pub returns-in-Ok-Done-clause-answered : goal.returns-in-Ok-Done-clause-answered
returns-in-Ok-Done-clause-answered g c = λ s k.
    let r = g.R.ReadLeaves.rules.ruling in
    let t = shape_of c.args.ty.now in
    let p = c.args.piece.now in
    let none : s ≡ [] = no_length s (omega (arith, k.octets_are, c.if-octets-gt0.false)) in
    let few : length p ≤ max_octets = omega (arith, c.requires.few) in
    let fed : FedAtOnce r t p (Ok (step.Done c.in-Ok-Done.value c.in-Ok-Done.used)) = rw (c.in-Ok-Done.is, c.in-Ok-Done.field-0-is) at c.read.ensures in
    first_value r t s p (datum_of c.in-Ok-Done.value) c.in-Ok-Done.used none few fed

pub returns-in-Err-Refused-clause-answered : goal.returns-in-Err-Refused-clause-answered
returns-in-Err-Refused-clause-answered g c = λ s k.
    let r = g.R.ReadLeaves.rules.ruling in
    let t = shape_of c.args.ty.now in
    let p = c.args.piece.now in
    let none : s ≡ [] = no_length s (omega (arith, k.octets_are, c.if-octets-gt0.false)) in
    let few : length p ≤ max_octets = omega (arith, c.requires.few) in
    let fed : FedAtOnce r t p (Err (feed.Refused c.in-Err-Refused.at c.in-Err-Refused.why)) = rw (c.in-Err-Refused.is, c.in-Err-Refused.field-0-is) at c.read.ensures in
    first_refusal r t s p c.in-Err-Refused.at none few fed

-- ---- what was counted

pub returns-in-Ok-Done-clause-counted : goal.returns-in-Ok-Done-clause-counted
returns-in-Ok-Done-clause-counted g c = λ s k w.
    let r = g.R.ReadLeaves.rules in
    let laws = c.keep_laws.ensures in
    let t = shape_of c.args.ty.now in
    let p = c.args.piece.now in
    let none : s ≡ [] = no_length s (omega (arith, k.octets_are, c.if-octets-gt0.false)) in
    let zero_units : length (r.ruling.units s) ≡ 0 = ap (λ (l : List ℕ). length (r.ruling.units l)) none ∙ ap length (no_units r.ruling laws.tells) in
    let used = c.in-Ok-Done.used in
    let first = length (r.ruling.units (take used p)) in
    let seen : Seen t first c.add.new.self = seen_at_once r g.R.FeedLeaves.fields g.R.ReadLeaves.ahead g.R.ReadLeaves.is_between (nodes c.args.frames.now) t (length (r.ruling.units s)) first c.args.ticks.now c.add.new.self zero_units w (c.add.ensures.taken ∙ ap (λ (n : ℕ). c.args.ticks.now.taken + n) c.units_of.ensures) c.add.ensures.inside in
    let plain : 0 + used ≡ used = omega arith in
    subst (λ (l : List ℕ). Seen t (length (r.ruling.units (take (length l + used) (l ++ p)))) c.add.new.self) (sym none) (subst (λ (n : ℕ). Seen t (length (r.ruling.units (take n p))) c.add.new.self) (sym plain) seen)

pub returns-in-Err-Refused-clause-counted : goal.returns-in-Err-Refused-clause-counted
returns-in-Err-Refused-clause-counted g c = λ s k w.
    let r = g.R.ReadLeaves.rules in
    let laws = c.keep_laws.ensures in
    let t = shape_of c.args.ty.now in
    let p = c.args.piece.now in
    let none : s ≡ [] = no_length s (omega (arith, k.octets_are, c.if-octets-gt0.false)) in
    let zero_units : length (r.ruling.units s) ≡ 0 = ap (λ (l : List ℕ). length (r.ruling.units l)) none ∙ ap length (no_units r.ruling laws.tells) in
    seen_at_once r g.R.FeedLeaves.fields g.R.ReadLeaves.ahead g.R.ReadLeaves.is_between (nodes c.args.frames.now) t (length (r.ruling.units s)) _ c.args.ticks.now _ zero_units w c.add-in-Err-Refused.ensures.taken c.add-in-Err-Refused.ensures.inside

pub returns-in-Err-Memory-clause-counted : goal.returns-in-Err-Memory-clause-counted
returns-in-Err-Memory-clause-counted g c = λ s k w.
    let r = g.R.ReadLeaves.rules in
    let laws = c.keep_laws.ensures in
    let t = shape_of c.args.ty.now in
    let p = c.args.piece.now in
    let none : s ≡ [] = no_length s (omega (arith, k.octets_are, c.if-octets-gt0.false)) in
    let zero_units : length (r.ruling.units s) ≡ 0 = ap (λ (l : List ℕ). length (r.ruling.units l)) none ∙ ap length (no_units r.ruling laws.tells) in
    most_at_once r g.R.FeedLeaves.fields g.R.ReadLeaves.ahead g.R.ReadLeaves.is_between (nodes c.args.frames.now) t (length (r.ruling.units s)) (length (r.ruling.units (s ++ p))) c.args.ticks.now (omega (arith, units_joined r laws s p)) w
