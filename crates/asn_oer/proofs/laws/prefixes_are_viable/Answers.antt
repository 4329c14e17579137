use Rattle.asn_rules.proofs.Live.Beginnings.{beginnings_live, beginnings_not_refused}
use Rattle.asn_oer.specs.Rules.{oer_ruling}
use Rattle.asn_oer.proofs.Encodings.Tells.{oer_tells}
use Rattle.asn_oer.proofs.laws.prefixes_are_viable.Goals as goal

pub returns-clause-live : goal.returns-clause-live
returns-clause-live c = beginnings_live oer_ruling oer_tells

pub returns-clause-not_refused : goal.returns-clause-not_refused
returns-clause-not_refused c = beginnings_not_refused oer_ruling oer_tells
