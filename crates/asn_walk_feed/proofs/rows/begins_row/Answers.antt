use Rattle.std.proofs.Common.{◌≡◌, ◌-◌, ◌++◌, ℕ, List, length, length-append, sym, ap, ◌∙◌, subst, arith}
use Rattle.asn_values.specs.Profile.{InProfile}
use Rattle.asn_values.specs.Shape.{Shape, sequence}
use Rattle.asn_values.specs.View.{shape_of, fields_seen, more_fields_of}
use Rattle.asn_values.proofs.Parts.{components_of_profile}
use Rattle.asn_values.proofs.Views.{sequence_of_fields}
use Rattle.asn_bits.proofs.Splits.{length-unpacked}
use Rattle.asn_rules.specs.Languages.{Short}
use Rattle.asn_walk.specs.Reading.{ValuesOf}
use Rattle.asn_walk_feed.specs.Small.{IsSmall, EndIn}
use Rattle.asn_walk_feed.proofs.Small.{row_root, row_short}
use Rattle.asn_walk_feed.proofs.rows.begins_row.Goals as goal

-- how many bits the octets have, and those that have come
pub overflow_sub-filling : goal.overflow_sub-filling
overflow_sub-filling g c =
    let b = c.filled-octets.ensures.bits in
    omega (arith, c.count-filling.ensures.count, ap length b.1, length-append c.args.begun.now b.0, length-unpacked c.filled-octets.result, c.filled-octets.ensures.count)

pub end_in-requires-clause-at_unit : goal.end_in-requires-clause-at_unit
end_in-requires-clause-at_unit g c = subst g.R.ReadLeaves.rules.at_unit (sym c.over-units.ensures) (c.keep_laws.ensures.begin c.filled-octets.result c.are_octets.ensures)

pub end_in-requires-clause-of_profile : goal.end_in-requires-clause-of_profile
end_in-requires-clause-of_profile g c =
    let is = sequence_of_fields c.args.ty.now c.in-Seq.root c.in-Seq._ext c.as_slice.result.now c.in-Seq.is c.as_slice.ensures.value in
    components_of_profile (fields_seen c.as_slice.result.now) (more_fields_of c.in-Seq._ext) (subst InProfile is c.requires.of_profile)

pub end_in-requires-clause-narrow : goal.end_in-requires-clause-narrow
end_in-requires-clause-narrow g c =
    let is = sequence_of_fields c.args.ty.now c.in-Seq.root c.in-Seq._ext c.as_slice.result.now c.in-Seq.is c.as_slice.ensures.value in
    (15, (row_root (fields_seen c.as_slice.result.now) (more_fields_of c.in-Seq._ext) (subst IsSmall is c.requires.small)).1)

pub end_in-requires-clause-few : goal.end_in-requires-clause-few
end_in-requires-clause-few g c = omega (arith, ap length c.over-units.ensures, length-unpacked c.filled-octets.result, c.filled-octets.ensures.count)

pub end_in-requires-clause-last : goal.end_in-requires-clause-last
end_in-requires-clause-last g c = omega (arith, ap length c.over-units.ensures, length-unpacked c.filled-octets.result, c.filled-octets.ensures.count)

pub returns : goal.returns
returns g c = λ yes.
    let r = g.R.ReadLeaves.rules in
    let b = c.filled-octets.ensures.bits in
    let root = fields_seen c.as_slice.result.now in
    let more = more_fields_of c.in-Seq._ext in
    let us = c.args.begun.now in
    let is : shape_of c.args.ty.now ≡ sequence root more = sequence_of_fields c.args.ty.now c.in-Seq.root c.in-Seq._ext c.as_slice.result.now c.in-Seq.is c.as_slice.ensures.value in
    let all : c.over-units.result ≡ us ++ b.0 = c.over-units.ensures ∙ b.1 in
    let left : 192 - c.count-filling.result ≡ length b.0 = omega (arith, c.count-filling.ensures.count, ap length b.1, length-append us b.0, length-unpacked c.filled-octets.result, c.filled-octets.ensures.count) in
    let at : r.at_unit (us ++ b.0) = subst r.at_unit b.1 (c.keep_laws.ensures.begin c.filled-octets.result c.are_octets.ensures) in
    let ends : EndIn r root (length b.0) (r.to_units (us ++ b.0)) = subst (λ (n : ℕ). EndIn r root n (r.to_units (us ++ b.0))) left (subst (λ (bs : List ℕ). EndIn r root (192 - c.count-filling.result) (r.to_units bs)) all (c.end_in.ensures yes)) in
    let short = row_short r c.keep_laws.ensures c.keep_feed_laws.ensures root more (subst IsSmall is c.requires.small) (subst InProfile is c.requires.of_profile) us b.0 c.requires.at_unit at ends in
    subst (λ (t : Shape). Short r.ruling.fielding (ValuesOf r t) (r.to_units us)) (sym is) short
