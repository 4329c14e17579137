-- A number in front of 64 bits.
use Rattle.std.proofs.Common.{◌≡◌, ◌<◌, ◌+◌, ◌-◌, ◌*◌, ◌^◌, length, refl, arith}
use Rattle.std.proofs.lemmas.Bool.{true≢false}
use Rattle.asn_bits.proofs.Wide.{wide_bits, wide_fits, wide_length}
use Rattle.asn_bits.proofs.number_field.take_wide_number.Goals as goal

pub returns-in_err-rest-clause-none : goal.returns-in_err-rest-clause-none
returns-in_err-rest-clause-none c =
    let mid = c.take_number-2.new.self in
    let few : length mid < 64 = c.in_err-rest.ensures.none.0 refl in
    let count = wide_length c.args.k c.in_ok-front.front c.args.units.now mid c.in_ok-front.ensures.some in
    let less : length c.args.units.now < c.args.k = omega (arith, count, few, c.if-k-le64.false) in
    (λ e. less, λ h. rw c.from_residual-in_err-rest.ensures refl)

pub returns-clause-fits : goal.returns-clause-fits
returns-clause-fits c =
    rw c.joined.ensures (wide_fits c.args.k c.in_ok-front.front c.in_ok-rest.rest (omega (arith, c.if-k-le64.false)) c.in_ok-front.ensures.fits c.in_ok-rest.ensures.fits)

pub returns-clause-some : goal.returns-clause-some
returns-clause-some c =
    rw c.joined.ensures (wide_bits c.args.k c.in_ok-front.front c.in_ok-rest.rest c.args.units.now c.take_number-2.new.self c.take_number-3.new.self (omega (arith, c.if-k-le64.false)) c.in_ok-rest.ensures.fits c.in_ok-front.ensures.some c.in_ok-rest.ensures.some)

pub returns-clause-none : goal.returns-clause-none
returns-clause-none c =
    let mid = c.take_number-2.new.self in
    let count = wide_length c.args.k c.in_ok-front.front c.args.units.now mid c.in_ok-front.ensures.some in
    (λ e. absurd (true≢false e), λ h. c.in_ok-rest.ensures.none.1 (omega (arith, count, h, c.if-k-le64.false)))
