use Rattle.std.proofs.Common.{◌∙◌, sym, refl, arith}
use Rattle.asn_newer.proofs.Walk.PastProfile.{no_bit, of_root, of_additions}
use Rattle.asn_newer.proofs.per_items.PerReadVersions.is_index_past.Goals as goal

pub returns-in_default : goal.returns-in_default
unfolding Rattle.asn_per.specs.Walk.per_coding
returns-in_default c = no_bit c.args.root c.args.units.now (sym c.copied-ahead.ensures ∙ c.in_default.ensures.none.0 refl)

pub returns-then-extension_bit-eq0 : goal.returns-then-extension_bit-eq0
unfolding Rattle.asn_per.specs.Walk.per_coding
returns-then-extension_bit-eq0 c =
    of_root c.args.root c.args.units.now c.next.new.self c.in-Some.extension_bit (sym c.copied-ahead.ensures ∙ c.in-Some.ensures.some) c.if-extension_bit-eq0.true

pub returns : goal.returns
unfolding Rattle.asn_per.specs.Walk.per_coding
returns c =
    of_additions c.args.root c.args.units.now c.next.new.self c.in-Some.extension_bit (sym c.copied-ahead.ensures ∙ c.in-Some.ensures.some)
    (omega (arith, c.in-Some.ensures.bit, c.if-extension_bit-eq0.false)) c.is_small_past.result c.is_small_past.ensures
