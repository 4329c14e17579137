use Rattle.asn_walk.specs.Views.{preamble_seen}
use Rattle.asn_plan.proofs.Building.{empty_read}
use Rattle.asn_plan.proofs.components.build_empty.Goals as goal

pub returns-clause-some : goal.returns-clause-some
returns-clause-some g c more good none same =
    let r = g.R.ReadLeaves.rules in
    record { value = _; of_value = c.in_ok-part.ensures c.args.room.now _ c.in_ok-entries.ensures; read = empty_read r c.keep_laws.ensures more good c.args.additions same none (preamble_seen c.in-Ok.preamble) (r.to_units c.args.units.now) (r.to_units c.read_preamble.new.units) c.in-Ok.ensures.done c.if-preamble.false }
