use Rattle.std.proofs.Common.{◌≡◌, length, take, ◌∙◌, sym, arith}
use Rattle.std.proofs.lemmas.List.{take_all}
use Rattle.asn_plan.proofs.StringsPut.{octet_set, octets_whole}
use Rattle.asn_plan.proofs.strings.fill_octets.Goals as goal

pub loop-i-preserved : goal.loop-i-preserved
loop-i-preserved c =
    let less = c.loop-i-test.true in
    octet_set c.loop-i.into (length c.args.into.now) c.loop-i.i c.args.number c.low_octet.result (omega (arith, less, c.loop-i.auto.into)) less c.loop-i.invariant c.low_octet.ensures

pub returns : goal.returns
returns c some =
    let count = length c.args.into.now in
    let all : c.loop-i.i ≡ count = omega (arith, c.loop-i-test.false, c.loop-i.auto.i-end) in
    let whole : take c.loop-i.i c.loop-i.into ≡ c.loop-i.into = take_all c.loop-i.i c.loop-i.into (omega (arith, c.loop-i-test.false, c.loop-i.auto.into)) in
    octets_whole c.loop-i.into count c.loop-i.i c.args.number all (sym whole ∙ c.loop-i.invariant)
