use Rattle.std.proofs.Common.{◌<◌, ◌∙◌, length, sym, refl, arith, subst}
use Rattle.asn_newer.proofs.Walk.PastProfile.{no_tag, tag_short, no_tag_octet, tag_octet, tag_zero, no_second, tag_octets}
use Rattle.asn_newer.proofs.oer_items.OerReadVersions.is_index_past.Goals as goal

pub returns-in_default : goal.returns-in_default
unfolding Rattle.asn_oer.specs.Walk.oer_coding
returns-in_default c =
    no_tag c.args._root c.args.units.now c.requires.at_unit (subst (λ us. length us < 8) c.copied-ahead.ensures (c.in_default.ensures.none.0 refl))

pub returns-then-front-ne191 : goal.returns-then-front-ne191
unfolding Rattle.asn_oer.specs.Walk.oer_coding
returns-then-front-ne191 c =
    tag_short c.args.units.now _ c.in-Some.front (sym c.copied-ahead.ensures ∙ c.in-Some.ensures.some) c.in-Some.ensures.fits c.args._root c.if-front-ne191.true

pub returns-in_default-take_number : goal.returns-in_default-take_number
unfolding Rattle.asn_oer.specs.Walk.oer_coding
returns-in_default-take_number c =
    no_tag_octet c.args.units.now _ c.in-Some.front (sym c.copied-ahead.ensures ∙ c.in-Some.ensures.some) c.in-Some.ensures.fits c.if-front-ne191.false c.args._root c.requires.at_unit
    (c.in_default-take_number.ensures.none.0 refl)

pub returns-then-first-lt128 : goal.returns-then-first-lt128
unfolding Rattle.asn_oer.specs.Walk.oer_coding
returns-then-first-lt128 c =
    tag_octet c.args.units.now _ c.in-Some.front (sym c.copied-ahead.ensures ∙ c.in-Some.ensures.some) c.in-Some.ensures.fits c.if-front-ne191.false c.args._root
    c.in-Some-take_number.first _ c.in-Some-take_number.ensures.some c.in-Some-take_number.ensures.fits c.if-first-lt128.true

pub returns-then-first-eq128 : goal.returns-then-first-eq128
unfolding Rattle.asn_oer.specs.Walk.oer_coding
returns-then-first-eq128 c =
    tag_zero c.args.units.now _ c.in-Some.front (sym c.copied-ahead.ensures ∙ c.in-Some.ensures.some) c.in-Some.ensures.fits c.if-front-ne191.false c.args._root
    c.in-Some-take_number.first _ c.in-Some-take_number.ensures.some c.in-Some-take_number.ensures.fits c.if-first-eq128.true

pub returns-in_default-take_number-2 : goal.returns-in_default-take_number-2
unfolding Rattle.asn_oer.specs.Walk.oer_coding
returns-in_default-take_number-2 c =
    no_second c.args.units.now _ c.in-Some.front (sym c.copied-ahead.ensures ∙ c.in-Some.ensures.some) c.in-Some.ensures.fits c.if-front-ne191.false c.args._root
    c.in-Some-take_number.first _ c.in-Some-take_number.ensures.some c.in-Some-take_number.ensures.fits
    (omega (arith, c.if-first-lt128.false, c.if-first-eq128.false)) c.requires.at_unit (c.in_default-take_number-2.ensures.none.0 refl)

pub returns : goal.returns
unfolding Rattle.asn_oer.specs.Walk.oer_coding
returns c =
    tag_octets c.args.units.now _ c.in-Some.front (sym c.copied-ahead.ensures ∙ c.in-Some.ensures.some) c.in-Some.ensures.fits c.if-front-ne191.false c.args._root
    c.in-Some-take_number.first _ c.in-Some-take_number.ensures.some c.in-Some-take_number.ensures.fits
    (omega (arith, c.if-first-lt128.false, c.if-first-eq128.false)) c.in-Some-take_number-2.second _ c.in-Some-take_number-2.ensures.some c.in-Some-take_number-2.ensures.fits
