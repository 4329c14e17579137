use Rattle.std.proofs.Common.{◌≡◌, ◌/◌, ◌%◌, ◌^◌, refl, sym, ap, ◌∙◌}
use Rattle.asn_values.specs.View.{datum_of}
use Rattle.asn_bits.specs.Sink.{bit_of}
use Rattle.asn_plan.specs.Words.{before}
use Rattle.asn_plan.proofs.Entries.{other_entry, default_entry}
use Rattle.asn_plan.proofs.component.build_default.Goals as goal

pub returns-then-not-next-clause-some : goal.returns-then-not-next-clause-some
returns-then-not-next-clause-some g c some s =
    let r = g.R.ReadLeaves.rules in
    let us = before r c.args.word.now (r.to_units c.args.units.now) in
    let bit : 0 ≡ c.args.presence.now.bitmap / 2 ^ c.next.new.self.left % 2 = ap bit_of (sym c.if-not-next.true) ∙ c.next.ensures.bit.1 in
    default_entry r (g.B.Build.listed s c.args.room.now c.args.entries.now) (g.B.Build.listed s c.present.new.room c.present.new.entries) c.args.nodes.now c.args.part.now c.args.presence.now.bitmap c.args.presence.now.left us us (g.B.Build.built c.args.room.now c.kept.new.room c.in_ok-absent.absent) (λ es d l q. c.present.ensures some s c.args.room.now es d l q) c.next.new.self.left c.next.ensures.bit.0 c.args.with_default.now c.requires.is bit (datum_of c.args.with_default.now.default) c.in_ok-absent.ensures refl refl

pub returns-clause-some : goal.returns-clause-some
returns-clause-some g c some s =
    let r = g.R.ReadLeaves.rules in
    let bit : 1 ≡ c.args.presence.now.bitmap / 2 ^ c.next.new.self.left % 2 = ap bit_of (sym c.if-not-next.false) ∙ c.next.ensures.bit.1 in
    other_entry r (g.B.Build.listed s c.args.room.now c.args.entries.now) (g.B.Build.listed s c.present-2.new.room c.present-2.new.entries) c.args.nodes.now c.args.part.now c.args.presence.now.bitmap c.args.presence.now.left (before r c.args.word.now (r.to_units c.args.units.now)) (before r c.build_other.new.word (r.to_units c.build_other.new.units)) (g.B.Build.built c.args.room.now c.build_other.new.room c.in_ok-other.other) (λ es d l q. c.present-2.ensures some s c.args.room.now es d l q) c.next.new.self.left c.next.ensures.bit.0 c.args.with_default.now c.requires.is bit (λ plan. (let b = c.in_ok-other.ensures.some plan in (b.value, b.of_value, b.read)))
