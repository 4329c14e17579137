use Rattle.std.proofs.Common.{◌≡◌, ◌+◌, ◌-◌, ℕ, List, sym, subst, arith}
use Rattle.asn_walk.proofs.Listing.{appends_none, appends_more}
use Rattle.asn_per.specs.Per.{per_fields}
use Rattle.asn_per.specs.SingleItems.{BitHeld, TakesItems}
use Rattle.asn_per.proofs.Read.StringRows.{after_word}
use Rattle.asn_per.proofs.item_runs.take_bits.Goals as goal

pub loop-left-init : goal.loop-left-init
loop-left-init c =
    let count = c.min-count.result in
    let none : count - count ≡ 0 = omega arith in (
      rw (none, c.reserve.ensures.items) (appends_none per_fields BitHeld c.args.into.now.items c.args.cursor.now),
      omega arith,
      omega (arith, c.bits_left.ensures.count, c.min-count.ensures),
      c.in_ok-reserve.ensures.ok,
    )

pub loop-left-preserved : goal.loop-left-preserved
loop-left-preserved c =
    let inv = c.loop-left.invariant in
    let count = c.min-count.result in
    let left = c.loop-left.left in
    let many = c.min-many.result in
    let rest = c.take_number.new.self in
    let sum : count - left + many ≡ count - (left - many) = omega (arith, inv.1) in
    let after = after_word many c.in-Some.word c.loop-left.cursor rest c.in-Some.ensures.some in
    let more : TakesItems BitHeld many c.loop-left.into.items c.append_bits.new.into.items c.loop-left.cursor rest =
    subst (λ (us : List ℕ). TakesItems BitHeld many c.loop-left.into.items c.append_bits.new.into.items us rest) (sym c.in-Some.ensures.some) (c.append_bits.ensures.items rest) in (
      appends_more (count - left) many (count - (left - many)) sum inv.0 more,
      omega (arith, inv.1),
      omega (arith, inv.2, after),
      omega (arith, inv.3, c.append_bits.ensures.len, c.append_bits.ensures.capacity),
    )
