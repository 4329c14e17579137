use Rattle.asn_values.specs.View.{shape_of}
use Rattle.asn_walk_feed.proofs.Small.{small_brief}
use Rattle.asn_walk_feed.proofs.rows.RowLeaf.be_brief.Goals as goal

pub returns : goal.returns
returns g c = small_brief g.R.ReadLeaves.rules c.keep_laws.ensures c.keep_feed_laws.ensures (shape_of c.args.self.now.ty.now) c.requires.good.0 c.requires.good.1
