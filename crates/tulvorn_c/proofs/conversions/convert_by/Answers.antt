use Rattle.std.proofs.Common.{◌∙◌, inl, inr}
use Rattle.tulvorn_c.proofs.conversions.convert_by.Goals as goal

pub returns-in-Ok-clause-exact : goal.returns-in-Ok-clause-exact
returns-in-Ok-clause-exact g c = record { given = λ p h. inl (c.plain.ensures, c.in-Ok.ensures.exact p h) }

pub returns-in-Err-clause-exact : goal.returns-in-Err-clause-exact
returns-in-Err-clause-exact g c = record {
  given = λ p h. inr (c.of_converted.ensures ∙ c.in-Err.ensures.memory c.args.unit p h);
}
