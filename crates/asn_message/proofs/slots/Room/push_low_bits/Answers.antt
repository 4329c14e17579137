use Rattle.std.proofs.Common.{rules, ◌≡◌, ◌<◌, ◌+◌, ◌-◌, ◌*◌, ◌/◌, ◌%◌, ◌^◌, ◌++◌, length, refl, sym, ap, ◌∙◌, arith}
use Rattle.asn_bits.specs.Numbers.{bits}
use Rattle.asn_bits.proofs.Prefixes.{given_length}
use Rattle.asn_message.specs.declared.slots.Span.{Span}
use Rattle.asn_message.proofs.Restored.{span_found}
use Rattle.asn_message.proofs.Strings.{bits_kept, eight_added, no_bits}
use Rattle.asn_plan.proofs.StringsPut.{truths_back}
use Rattle.asn_message.proofs.slots.Room.push_low_bits.Goals as goal

pub returns-then-count-eq0-clause-at : goal.returns-then-count-eq0-clause-at
returns-then-count-eq0-clause-at c more bs e = no_bits bs c.args.count c.args.number c.if-count-eq0.true e

pub loop-i-preserved : goal.loop-i-preserved
loop-i-preserved c =
    let inv = c.loop-i.invariant in
    let old = c.loop-i.self.octets.items in
    let less : c.loop-i.i < 8 = omega (arith, c.loop-i-test.true, c.requires.few) in
    let first = c.args.number * 2 ^ (64 - c.args.count) % 2 ^ 64 in (
      inv.0,
      inv.1,
      c.in_ok-push_eight.ensures refl ∙ ap (λ t. old ++ t) c.spread-eight.ensures
          ∙ eight_added c.args.self.now.octets.items old c.loop-i.i first c.low_octet.result less inv.2 c.low_octet.ensures,
    )

added : (c : goal.After-truncate) → c.truncate.new.self.items ≡ c.args.self.now.octets.items ++ bits c.args.count c.args.number
added c =
    let old = c.args.self.now.octets.items in
    let begin : c.in_ok-begin.begin ≡ length old = search rules in
    let all : c.loop-i.i ≡ (c.args.count + 7) / 8 = omega (arith, c.loop-i-test.false, c.loop-i.auto.i-end) in
    c.truncate.ensures.items
    ∙ bits_kept old c.loop-i.self.octets.items c.in_ok-begin.begin c.args.count c.loop-i.i c.args.number begin (omega (arith, all)) (omega (arith, all, c.requires.few)) c.loop-i.invariant.2

pub returns-clause-octets : goal.returns-clause-octets
returns-clause-octets c some = (bits c.args.count c.args.number, added c)

pub returns-clause-at : goal.returns-clause-at
returns-clause-at c more bs e =
    let old = c.args.self.now.octets.items in
    let row = bits c.args.count c.args.number in
    let begin : c.in_ok-begin.begin ≡ length old = search rules in
    let s : Span = record { begin = c.in_ok-begin.begin; length = c.args.count } in
    let found = span_found old row more s begin (sym (given_length c.args.count c.args.number)) in
    rw (added c, found, ← e) (truths_back bs)
