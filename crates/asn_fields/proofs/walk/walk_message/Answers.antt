use Rattle.std.proofs.Common.{◌≡◌, ◌∙◌, take, ap}
use Rattle.asn_walk.proofs.Decoding.{units_fill}
use Rattle.asn_fields.proofs.walk.walk_message.Goals as goal

pub complete-requires-clause-octets : goal.complete-requires-clause-octets
complete-requires-clause-octets g c =
    let s = take c.min.result c.args.octets.now in
    let over : g.R.ReadLeaves.rules.to_units c.over-units.result ≡ g.R.ReadLeaves.rules.ruling.units s = ap g.R.ReadLeaves.rules.to_units c.over-units.ensures ∙ c.keep_laws.ensures.over s c.are_octets.ensures in
    rw over (units_fill g.R.ReadLeaves.rules c.keep_laws.ensures s)
