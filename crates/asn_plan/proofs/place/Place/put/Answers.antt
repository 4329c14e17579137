use Rattle.std.proofs.Common.{rules, ◌≡◌, ◌<◌, length, arith}
use Rattle.asn_plan.proofs.Placing.{placed, added}
use Rattle.std.proofs.Common.{refl}
use Rattle.asn_plan.proofs.place.Place.put.Goals as goal

pub returns-then-at-len : goal.returns-then-at-len
returns-then-at-len c some =
    let p = c.args.self.now in
    let inside : p.at < length p.items.items = search (rules, arith) in
    placed p c.args.value _ inside refl

pub returns : goal.returns
returns c some =
    let p = c.args.self.now in
    let at_end : length p.items.items ≡ p.at = search (rules, arith) in
    added p _ c.args.value at_end (search rules) refl
