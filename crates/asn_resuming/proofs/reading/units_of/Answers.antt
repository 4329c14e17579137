use Rattle.std.proofs.Common.{ℕ, List, length, ap, ◌∙◌, arith}
use Rattle.asn_walk.proofs.Decoding.{few_units}
use Rattle.asn_resuming.proofs.reading.units_of.Goals as goal

pub overflow_cast-result : goal.overflow_cast-result
overflow_cast-result g c =
    let r = g.R.ReadLeaves.rules in
    let laws = c.keep_laws.ensures in
    let e = c.units_left.ensures ∙ ap (λ (xs : List ℕ). length (r.to_units xs)) c.over.ensures ∙ ap length (laws.over c.args.octets.now c.are_octets.ensures) in
    omega (arith, e, few_units r laws c.args.octets.now c.requires.few)
