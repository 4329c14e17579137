use Rattle.std.proofs.Common.{◌≡◌}
use Rattle.asn_values.specs.View.{shape_of}
use Rattle.asn_walk_feed.specs.Keeping.{kept_in}
use Rattle.asn_walk_feed.specs.Nodes.{nodes}
use Rattle.asn_resuming.proofs.Answering.{waiting_keeps}
use Rattle.asn_resuming.proofs.session.kept.Goals as goal

pub returns-in-Waiting : goal.returns-in-Waiting
returns-in-Waiting g c = λ t past k.
    let told : c.kept.result.now ≡ kept_in {F = g.row.R-Fragments.Denot} (nodes c.args.session.now.frames) (shape_of c.args.session.now.ty) = rw c.get.ensures.same at c.kept.ensures in
    waiting_keeps g.R.ReadLeaves.rules c.keep_laws.ensures c.keep_feed_laws.ensures g.R.FeedLeaves.fields c.keep_field_laws.ensures c.keep_string_laws.ensures c.keep_kept_laws.ensures g.R.ReadLeaves.ahead g.R.ReadLeaves.is_between t c.args.session.now c.kept.result.now c.in-Waiting.is told past k
