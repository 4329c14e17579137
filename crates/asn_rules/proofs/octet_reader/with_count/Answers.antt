use Rattle.asn_rules.proofs.octet_reader.with_count.Goals as goal
use Rattle.asn_rules.proofs.Octets.CountedOctets.{low_end, are_with_count}

pub returns : goal.returns
returns c =
    rw (c.max.ensures, c.least_with.ensures, c.min.ensures)
    (are_with_count c.args.set c.args.count _ c.greatest_with.result c.requires.some (low_end c.args.set c.args.count) c.greatest_with.ensures)
