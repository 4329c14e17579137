use Rattle.std.proofs.Common.{[], ◌∙◌, sym, refl, arith}
use Rattle.asn_newer.proofs.Walk.PastProfile.{no_form, no_short, short_told, each_long, no_long, long_told}
use Rattle.asn_newer.proofs.per_items.is_small_past.Goals as goal

pub returns-in_default : goal.returns-in_default
returns-in_default c = no_form c.args.most c.args.bits.now [] (sym c.copied-ahead.ensures ∙ c.in_default.ensures.none.0 refl)

pub returns-in_default-take_number : goal.returns-in_default-take_number
returns-in_default-take_number c =
    no_short c.args.most c.args.bits.now c.next.new.self c.in-Some.form (sym c.copied-ahead.ensures ∙ c.in-Some.ensures.some) c.if-form-eq0.true
    (c.in_default-take_number.ensures.none.0 refl)

pub returns-then-form-eq0 : goal.returns-then-form-eq0
returns-then-form-eq0 c =
    short_told c.args.most c.args.bits.now c.next.new.self c.in-Some.form (sym c.copied-ahead.ensures ∙ c.in-Some.ensures.some) c.if-form-eq0.true
    c.in-Some-take_number.number _ c.in-Some-take_number.ensures.some c.in-Some-take_number.ensures.fits

pub returns-then-most-le-SHORT_NUMBERS : goal.returns-then-most-le-SHORT_NUMBERS
returns-then-most-le-SHORT_NUMBERS c =
    each_long c.args.most c.args.bits.now c.next.new.self c.in-Some.form (sym c.copied-ahead.ensures ∙ c.in-Some.ensures.some)
    (omega (arith, c.in-Some.ensures.bit, c.if-form-eq0.false)) c.if-most-le-SHORT_NUMBERS.true

pub returns-in_default-take_number-2 : goal.returns-in_default-take_number-2
returns-in_default-take_number-2 c =
    no_long c.args.most c.args.bits.now c.next.new.self c.in-Some.form (sym c.copied-ahead.ensures ∙ c.in-Some.ensures.some)
    (omega (arith, c.in-Some.ensures.bit, c.if-form-eq0.false)) (omega (arith, c.if-most-le-SHORT_NUMBERS.false)) (c.in_default-take_number-2.ensures.none.0 refl)

pub returns : goal.returns
returns c =
    long_told c.args.most c.args.bits.now c.next.new.self c.in-Some.form (sym c.copied-ahead.ensures ∙ c.in-Some.ensures.some)
    (omega (arith, c.in-Some.ensures.bit, c.if-form-eq0.false)) (omega (arith, c.if-most-le-SHORT_NUMBERS.false))
    c.in-Some-take_number-2.octets _ c.in-Some-take_number-2.ensures.some c.in-Some-take_number-2.ensures.fits
