-- The octets that are given are those that the other rules have, and a fault is one of memory.
use Rattle.std.proofs.Common.{◌∙◌, Some, ap}
use Rattle.std.proofs.lemmas.Result.{err_from_is_err_and}
use Rattle.tulvorn_c.specs.Held.{held_octets}
use Rattle.tulvorn_c.proofs.Converting.{memory_alone}
use Rattle.tulvorn_c.proofs.conversions.put_converted.Goals as goal

pub returns-in_err-other-clause-memory : goal.returns-in_err-other-clause-memory
returns-in_err-other-clause-memory g c =
    let p = err_from_is_err_and c.from_residual.result c.from_residual.ensures.1 in
    rw (p.1, p.2) (λ u q h. memory_alone u _ q (c.in_err-other.ensures.exact q h))

pub returns-in-Ok-clause-exact : goal.returns-in-Ok-clause-exact
returns-in-Ok-clause-exact g c = λ p h. ap held_octets c.in-Ok.ensures.put ∙ ap Some (c.in_ok-other.ensures.exact p h)
