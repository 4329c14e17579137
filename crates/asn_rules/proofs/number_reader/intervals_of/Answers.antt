use Rattle.asn_rules.specs.NumberSets.{Admits, between_but, AreAmong}
use Rattle.asn_rules.proofs.number_reader.intervals_of.Goals as goal

pub intervals_between-requires : goal.intervals_between-requires
intervals_between-requires c = rw (c.from.ensures, c.from-2.ensures, c.widened.ensures) c.requires

pub returns : goal.returns
returns c = rw (c.from.ensures, c.from-2.ensures, c.widened.ensures) at c.intervals_between.ensures
