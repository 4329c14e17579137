use Rattle.std.proofs.Common.{length, refl, ap, arith}
use Rattle.asn_values.specs.View.{shape_of, part_of_field, fields_seen}
use Rattle.asn_walk_feed.proofs.Small.{first_field, all_fields, none_added, none_ends, first_ends, rest_ends}
use Rattle.asn_walk_feed.proofs.rows.+end_in.Goals as goal

-- no unit stands before what fills up
pub returns-then-bits_left-filling : goal.returns-then-bits_left-filling
returns-then-bits_left-filling g t c = λ _.
    let r = g.R.ReadLeaves.rules in
    let f = c.in-Some.field.now in
    let e = c.in-Some.ensures.cases.0 in
    let first = first_field c.requires.narrow.0 c.args.fields.now f c.in-Some.rest.now e c.requires.narrow.1 c.requires.of_profile in
    all_fields r c.keep_laws.ensures c.keep_feed_laws.ensures c.args.fields.now f c.in-Some.rest.now c.args.filling (r.to_units c.args.units.now) e
    (none_ends r c.keep_laws.ensures c.keep_feed_laws.ensures c.requires.narrow.0 (part_of_field f).name (part_of_field f).demand (shape_of f.ty) (fields_seen c.in-Some.rest.now) first c.args.filling c.args.units.now c.requires.at_unit (omega (arith, c.bits_left.ensures, c.if-bits_left-filling.true)))

pub bits_left-requires-2 : goal.bits_left-requires-2
bits_left-requires-2 g t c =
    let p = c.if-not-passes.ensures.passed refl in
    let n = none_added g.R.ReadLeaves.rules c.keep_laws.ensures c.keep_feed_laws.ensures (shape_of c.in-Some.field.now.ty) p.0 c.args.units.now c.passes.new.units p.1 c.requires.at_unit (c.if-not-passes.ensures.at_unit refl) in
    omega (arith, n, c.requires.few)

-- some of what fills up belongs to the value that was passed
pub returns-then-bits_left-filling-2 : goal.returns-then-bits_left-filling-2
returns-then-bits_left-filling-2 g t c = λ _.
    let r = g.R.ReadLeaves.rules in
    let f = c.in-Some.field.now in
    let e = c.in-Some.ensures.cases.0 in
    let p = c.if-not-passes.ensures.passed refl in
    let first = first_field c.requires.narrow.0 c.args.fields.now f c.in-Some.rest.now e c.requires.narrow.1 c.requires.of_profile in
    all_fields r c.keep_laws.ensures c.keep_feed_laws.ensures c.args.fields.now f c.in-Some.rest.now c.args.filling (r.to_units c.args.units.now) e
    (first_ends r c.keep_laws.ensures c.keep_feed_laws.ensures c.requires.narrow.0 (part_of_field f).name (part_of_field f).demand (shape_of f.ty) (fields_seen c.in-Some.rest.now) first c.args.filling p.0 c.args.units.now c.passes.new.units p.1 (c.if-not-passes.ensures.at_unit refl) (omega (arith, c.bits_left-2.ensures, c.if-bits_left-filling-2.true)))

pub end_in-requires : goal.end_in-requires
end_in-requires g t c κs within =
    let e = c.in-Some.ensures.cases.0 in
    let p = c.if-not-passes.ensures.passed refl in
    let first = first_field c.requires.narrow.0 c.args.fields.now c.in-Some.field.now c.in-Some.rest.now e c.requires.narrow.1 c.requires.of_profile in
    let n = none_added g.R.ReadLeaves.rules c.keep_laws.ensures c.keep_feed_laws.ensures (shape_of c.in-Some.field.now.ty) p.0 c.args.units.now c.passes.new.units p.1 c.requires.at_unit (c.if-not-passes.ensures.at_unit refl) in
    (omega (arith, ap length e), (within.0, (within.1, ((c.if-not-passes.ensures.at_unit refl), (first.rest_good, ((_, first.rest), (omega (arith, n, c.requires.few), omega (arith, c.bits_left-2.ensures, c.if-bits_left-filling-2.false))))))))

pub returns : goal.returns
returns g t c = λ yes.
    let r = g.R.ReadLeaves.rules in
    let f = c.in-Some.field.now in
    let e = c.in-Some.ensures.cases.0 in
    let p = c.if-not-passes.ensures.passed refl in
    let first = first_field c.requires.narrow.0 c.args.fields.now f c.in-Some.rest.now e c.requires.narrow.1 c.requires.of_profile in
    all_fields r c.keep_laws.ensures c.keep_feed_laws.ensures c.args.fields.now f c.in-Some.rest.now c.args.filling (r.to_units c.args.units.now) e
    (rest_ends r c.keep_laws.ensures c.keep_feed_laws.ensures c.requires.narrow.0 (part_of_field f).name (part_of_field f).demand (shape_of f.ty) (fields_seen c.in-Some.rest.now) first c.args.filling p.0 c.args.units.now c.passes.new.units p.1 (c.if-not-passes.ensures.at_unit refl) (omega (arith, c.bits_left-2.ensures, c.if-bits_left-filling-2.false)) (c.end_in.ensures yes))
