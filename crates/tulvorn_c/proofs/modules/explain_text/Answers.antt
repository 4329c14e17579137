-- What is explained is told of the text.
use Rattle.std.proofs.Common.{inl, refl}
use Rattle.tulvorn_c.proofs.modules.explain_text.Goals as goal

pub returns-in-Ok : goal.returns-in-Ok
returns-in-Ok c = inl (refl, c.in-Ok.ensures)
