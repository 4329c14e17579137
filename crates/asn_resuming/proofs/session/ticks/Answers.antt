use Rattle.asn_resuming.proofs.Answering.{counted_of}
use Rattle.asn_resuming.proofs.session.ticks.Goals as goal

pub returns-clause-seen : goal.returns-clause-seen
returns-clause-seen g c = λ t past k.
    counted_of g.R.ReadLeaves.rules g.R.FeedLeaves.fields g.R.ReadLeaves.ahead g.R.ReadLeaves.is_between t c.args.session.now past c.count.result k c.count.ensures.least c.count.ensures.most
