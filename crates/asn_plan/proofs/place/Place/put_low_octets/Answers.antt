use Rattle.std.proofs.Common.{rules, ◌<◌, length, arith}
use Rattle.asn_plan.proofs.Placing.{placed}
use Rattle.asn_plan.proofs.place.Place.put_low_octets.Goals as goal

pub returns-then-self-len : goal.returns-then-self-len
returns-then-self-len c some =
    let p = c.args.self.now in
    let inside : p.at < length p.items.items = search (rules, arith) in
    placed p _ _ inside (c.set_low_octets.ensures c.if-set_low_octets.true)
