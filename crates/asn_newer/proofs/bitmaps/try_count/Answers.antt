use Rattle.asn_walk.proofs.Parts.{fields_part_of}
use Rattle.asn_newer.proofs.Walk.AnyBitmaps.{none_of_refused, none_of_short}
use Rattle.asn_newer.proofs.bitmaps.try_count.Goals as goal

pub returns-in-Err-Refused-clause-none : goal.returns-in-Err-Refused-clause-none
returns-in-Err-Refused-clause-none g c =
    λ _. none_of_refused g.R.ReadLeaves.rules c.args.count (g.R.ReadLeaves.rules.to_units c.args.units.now) _ _ _ (fields_part_of g.R.ReadLeaves.rules c.keep_laws.ensures) (rw (c.in-Err-Refused.field-0-is, c.copied-ahead.ensures) at c.in-Err-Refused.ensures.stop)

pub returns-in-Err-Short-clause-none : goal.returns-in-Err-Short-clause-none
returns-in-Err-Short-clause-none g c =
    λ _. none_of_short g.R.ReadLeaves.rules c.args.count (g.R.ReadLeaves.rules.to_units c.args.units.now) (rw (c.in-Err-Short.field-0-is, c.copied-ahead.ensures) at c.in-Err-Short.ensures.stop)
