use Rattle.std.proofs.Common.{refl}
use Rattle.asn_bits.proofs.Prefixes.{bit_again, in_bits}
use Rattle.asn_rules.proofs.Plain.NumberSets.{number_waits, number_stops}
use Rattle.asn_rules.proofs.Numbers.Sets.{giving_starts, giving_done}
use Rattle.asn_rules.proofs.number_reader.read_number_by_bits.Goals as goal

pub loop-bit-init : goal.loop-bit-init
loop-bit-init c =
    let e = c.new-field.ensures in
    (rw e (giving_starts c.args.bits.now c.requires.many c.requires.some), rw e refl, rw e refl)

pub returns-in_default-clause-stop : goal.returns-in_default-clause-stop
returns-in_default-clause-stop c R =
    let same = c.loop-bit.invariant.2 in
    record { told = number_waits R (rw same at c.loop-bit.invariant.0) (c.in_default.ensures.none.0 refl) }

pub returns-in-Number-clause-done : goal.returns-in-Number-clause-done
returns-in-Number-clause-done c R =
    let same = c.loop-bit.invariant.2 in
    let now = c.in-Number.ensures.given in
    let bit = bit_again c.in-Some.bit c.in-Some.ensures.bit in
    let whole = rw (now, same, c.loop-bit.invariant.1, bit) at c.in-Number.ensures.state in
    giving_done R (rw same at c.loop-bit.invariant.0) c.in-Some.ensures.some whole

pub returns-in-Dead-clause-stop : goal.returns-in-Dead-clause-stop
returns-in-Dead-clause-stop c R =
    let same = c.loop-bit.invariant.2 in
    let now = c.in-Dead.ensures.given in
    let bit = bit_again c.in-Some.bit c.in-Some.ensures.bit in
    let dead = rw (now, same, c.loop-bit.invariant.1, bit) at c.in-Dead.ensures.state in
    record { told = rw c.bits_left.ensures.count (number_stops R (rw same at c.loop-bit.invariant.0) c.in-Some.ensures.some dead) }

pub returns-in-Number-clause-fits : goal.returns-in-Number-clause-fits
returns-in-Number-clause-fits c =
    let now = c.in-Number.ensures.given in
    let whole = rw (now, c.loop-bit.invariant.1) at c.in-Number.ensures.state in
    in_bits c.args.k c.in-Number.n _ whole
