use Rattle.asn_rules.proofs.Older.{stays_encoding, encodes_as_before, only_memory_as_before, decodes_as_before}
use Rattle.asn_rules.proofs.laws.older_encodings_stay.Goals as goal

pub returns-clause-stays : goal.returns-clause-stays
returns-clause-stays g c = stays_encoding g.E.Rules.ruling

pub returns-clause-encodes : goal.returns-clause-encodes
returns-clause-encodes g c = encodes_as_before g.E.Rules.ruling assumption

pub returns-clause-only_memory : goal.returns-clause-only_memory
returns-clause-only_memory g c = only_memory_as_before g.E.Rules.ruling

pub returns-clause-decodes : goal.returns-clause-decodes
returns-clause-decodes g c = decodes_as_before g.E.Rules.ruling assumption
