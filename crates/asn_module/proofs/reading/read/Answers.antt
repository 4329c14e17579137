use Rattle.asn_module.proofs.reading.read.Goals as goal

pub returns-in-Ok-None-clause-refused : goal.returns-in-Ok-None-clause-refused
returns-in-Ok-None-clause-refused c = λ other m accepted. absurd (c.in-Ok-None.ensures.refused c.in-Ok-None.field-0-is m accepted)
