use Rattle.std.proofs.Common.{rules}
use Rattle.asn_jobs.proofs.Lengths.{sizes_push}
use Rattle.asn_jobs.proofs.sizes.Sizes.with.Goals as goal

pub returns-clause-sizes : goal.returns-clause-sizes
returns-clause-sizes c = λ lengths are.
    sizes_push lengths c.args.length c.args.self _ are (search rules) (search rules) c.least_of.ensures.low c.least_of.ensures.below c.least_of.ensures.one
    c.greatest_of.ensures.high c.greatest_of.ensures.above c.greatest_of.ensures.one
