use Rattle.std.proofs.Common.{◌≡◌, length, sym, ap, ◌∙◌, arith}
use Rattle.asn_bits.proofs.Octets.{length-digits}
use Rattle.asn_walk_feed.proofs.begun.Begun.extend.Goals as goal

pub push-requires-clause-room : goal.push-requires-clause-room
push-requires-clause-room c =
    let l : length c.args.self.now ≡ c.self.inside.count = ap length (sym c.self.view_is) ∙ length-digits 2 c.self.inside.count c.self.inside.number in
    omega (arith, l, c.if-self.true)

pub returns-clause-count : goal.returns-clause-count
returns-clause-count c =
    let l : length c.args.self.now ≡ c.self.inside.count = ap length (sym c.self.view_is) ∙ length-digits 2 c.self.inside.count c.self.inside.number in
    omega (arith, l, c.if-self.true, c.octets_left.ensures.count, c.rest_of_octet.ensures.rest, c.if-octets_left-eq1.true, c.if-rest_of_octet-eq0.true)
