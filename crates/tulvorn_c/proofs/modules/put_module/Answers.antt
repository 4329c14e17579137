-- The handle then holds the module, or the text is none.
use Rattle.std.proofs.Common.{inl, inr, refl}
use Rattle.tulvorn_c.proofs.modules.put_module.Goals as goal

pub returns-in-Ok : goal.returns-in-Ok
returns-in-Ok c = inl (c.plain.ensures, c.in-Ok.ensures.read)

pub returns-in-Err : goal.returns-in-Err
returns-in-Err c = inr (refl, c.in-Err.ensures.refused)
