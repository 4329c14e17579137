use Rattle.std.proofs.lemmas.Result.{err_from_is_err_and}
use Rattle.asn_walk_feed.proofs.ListsRead.{next_stops, next_spells}
use Rattle.asn_walk_feed.proofs.parts.NextLengthFragmentsLeaf.read.Goals as goal

pub returns-in_err-count-clause-stop : goal.returns-in_err-count-clause-stop
returns-in_err-count-clause-stop g c =
    let p = err_from_is_err_and c.from_residual.result c.from_residual.ensures.1 in
    rw (p.1, p.2) (next_stops (g.R.ReadLeaves.ahead c.args.self.now.fragments.now) (g.R.ReadLeaves.rules.to_units c.args.units.now) _ (rw c.copied-fragments.ensures at c.in_err-count.ensures.stop))

pub returns-clause-done : goal.returns-clause-done
returns-clause-done g c =
    next_spells (g.R.ReadLeaves.ahead c.args.self.now.fragments.now) c.in_ok-count.count (g.R.ReadLeaves.ahead c.next_fragment.new.fragments) (g.R.ReadLeaves.rules.to_units c.args.units.now) (g.R.ReadLeaves.rules.to_units c.next_fragment.new.units) (rw c.copied-fragments.ensures at c.in_ok-count.ensures.done)
