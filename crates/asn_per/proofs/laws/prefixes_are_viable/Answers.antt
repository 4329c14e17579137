use Rattle.asn_rules.proofs.Live.Beginnings.{beginnings_live, beginnings_not_refused}
use Rattle.asn_per.specs.Rules.{per_ruling}
use Rattle.asn_per.proofs.Encodings.Tells.{per_tells}
use Rattle.asn_per.proofs.laws.prefixes_are_viable.Goals as goal

pub returns-clause-live : goal.returns-clause-live
returns-clause-live c = beginnings_live per_ruling per_tells

pub returns-clause-not_refused : goal.returns-clause-not_refused
returns-clause-not_refused c = beginnings_not_refused per_ruling per_tells
