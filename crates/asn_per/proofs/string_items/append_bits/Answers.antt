use Rattle.std.proofs.Common.{◌≡◌, ◌+◌, ◌-◌, ℕ, List, sym, subst, arith}
use Rattle.asn_per.specs.Kinds.{Bit}
use Rattle.asn_per.specs.Reading.{Appends}
use Rattle.asn_per.proofs.Read.Appending.{appends_none, appends_more}
use Rattle.asn_per.proofs.Read.StringRows.{bits_few, after_word}
use Rattle.asn_per.proofs.string_items.append_bits.Goals as goal

pub returns-then-bits_left-count-clause-stop : goal.returns-then-bits_left-count-clause-stop
returns-then-bits_left-count-clause-stop c = record { told = bits_few c.args.count c.args.cursor.now c.bits_left.ensures.bits (omega (arith, c.bits_left.ensures.count, c.if-bits_left-count.true)) }

pub loop-left-init : goal.loop-left-init
loop-left-init c =
    let none : c.args.count - c.args.count ≡ 0 = omega arith in (
      rw (none, c.reserve.ensures.items) (appends_none Bit c.args.into.now.items c.args.cursor.now),
      omega arith,
      omega (arith, c.bits_left.ensures.count, c.if-bits_left-count.false),
      c.in_ok-reserve.ensures.ok,
    )

pub loop-left-preserved : goal.loop-left-preserved
loop-left-preserved c =
    let inv = c.loop-left.invariant in
    let count = c.args.count in
    let left = c.loop-left.left in
    let many = c.min-many.result in
    let rest = c.take_number.new.self in
    let sum : count - left + many ≡ count - (left - many) = omega (arith, inv.1) in
    let after = after_word many c.in-Some.word c.loop-left.cursor rest c.in-Some.ensures.some in
    let more : Appends Bit many c.loop-left.into.items c.append_low_bits.new.into.items c.loop-left.cursor rest =
    subst (λ (us : List ℕ). Appends Bit many c.loop-left.into.items c.append_low_bits.new.into.items us rest) (sym c.in-Some.ensures.some) (c.append_low_bits.ensures.items rest) in (
      appends_more (count - left) many (count - (left - many)) sum inv.0 more,
      omega (arith, inv.1),
      omega (arith, inv.2, after),
      omega (arith, inv.3, c.append_low_bits.ensures.len, c.append_low_bits.ensures.capacity),
    )
