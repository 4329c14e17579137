use Rattle.std.proofs.Common.{refl, arith}
use Rattle.std.proofs.lemmas.List.{nil_from_length}
use Rattle.asn_plan.specs.Words.{before}
use Rattle.asn_plan.proofs.Building.{built_starts, built_further, goes_ends}
use Rattle.asn_plan.proofs.Entries.{must_entry}
use Rattle.asn_plan.proofs.packed.build_numbers.Goals as goal

pub loop-part-init : goal.loop-part-init
loop-part-init g c =
    let r = g.R.ReadLeaves.rules in
    (built_starts r (g.B.Build.listed c.args.room.now c.entries.new.room c.in_ok-entries.entries) c.args.nodes.now c.args.parts.now 0 0 (before r c.args.word.now (r.to_units c.args.units.now)) (omega arith) c.in_ok-entries.ensures, c.requires.at_unit)

pub loop-part-preserved : goal.loop-part-preserved
loop-part-preserved g c =
    let r = g.R.ReadLeaves.rules in
    let us = r.to_units c.fill.new.units in
    let next = rw c.in-Some.is at c.split_first.ensures.cases in
    let h = rw next.0 at c.loop-part.invariant.0 in
    let N = g.B.Build.listed c.args.room.now c.present.new.room c.present.new.entries in
    let b = must_entry r (g.B.Build.listed c.args.room.now c.loop-part.room c.loop-part.entries) N c.args.nodes.now c.in-Some.part.now 0 0 (before r c.fill.new.word us) (before r c.build_number.new.word us) (g.B.Build.built c.loop-part.room c.build_number.new.room c.in_ok-value.value) (λ es d l q. c.in_ok-present.ensures refl c.args.room.now c.loop-part.room es d l q) c.in-Must.is (λ s good p. (let v = c.in_ok-value.ensures s us good p in (v.value, v.of_value, v.read))) in
    (built_further N 0 (before r c.build_number.new.word us) h (rw (← c.fill.ensures.same) at b), c.fill.ensures.at_unit)

pub returns-clause-some : goal.returns-clause-some
returns-clause-some g c root good p width =
    let e = c.loop-part.invariant.0.goes root good p width in
    record { entries = e.0; of_entries = e.1; read = goes_ends e.2 (nil_from_length c.loop-part.rest.now (rw c.in_default.is at c.split_first.ensures.cases)) }
