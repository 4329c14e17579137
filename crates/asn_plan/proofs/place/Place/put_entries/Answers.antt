use Rattle.std.proofs.Common.{rules, ◌<◌, length, arith}
use Rattle.asn_plan.proofs.Placing.{placed}
use Rattle.asn_plan.proofs.place.Place.put_entries.Goals as goal

pub returns-in-Some : goal.returns-in-Some
returns-in-Some c some =
    let p = c.args.self.now in
    let inside : p.at < length p.items.items = search (rules, arith) in
    placed p _ _ inside c.set_entries.ensures
