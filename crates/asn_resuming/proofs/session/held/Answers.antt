use Rattle.std.proofs.Common.{◌≡◌}
use Rattle.asn_resuming.proofs.Answering.{holds_few}
use Rattle.asn_resuming.proofs.session.held.Goals as goal

pub returns-clause-few : goal.returns-clause-few
returns-clause-few g c = λ t past k.
    holds_few g.R.ReadLeaves.rules c.keep_laws.ensures g.R.FeedLeaves.fields c.keep_kept_laws.ensures c.keep_hold_laws.ensures g.R.ReadLeaves.ahead g.R.ReadLeaves.is_between t c.args.session.now c.held.result c.held.ensures past k
