-- What is read of the octets is what the two handles hold.
use Rattle.std.proofs.Common.{rules, inr, refl}
use Rattle.tulvorn_c.proofs.newer.newer_held.Goals as goal

pub returns-in-Ok-holding-2-clause-read : goal.returns-in-Ok-holding-2-clause-read
returns-in-Ok-holding-2-clause-read g c = record {
  newer = c.in_ok-newer.newer;
  held = search rules;
  fields_held = search rules;
  read = search rules;
  spelt = search rules;
}

pub returns-then-not-admits_spelling-clause-fault : goal.returns-then-not-admits_spelling-clause-fault
returns-then-not-admits_spelling-clause-fault g c = inr (refl, record { newer = c.in_ok-newer.newer; read = search rules; broken = search rules })
