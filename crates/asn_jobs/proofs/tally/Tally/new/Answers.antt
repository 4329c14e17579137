use Rattle.asn_jobs.proofs.Counts.{counted_by_empty}
use Rattle.asn_jobs.proofs.tally.Tally.new.Goals as goal

pub returns : goal.returns
returns c = counted_by_empty c.new.ensures.empty
