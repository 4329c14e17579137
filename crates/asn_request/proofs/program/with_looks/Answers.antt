use Rattle.std.proofs.Common.{ap, ap₂, ◌∙◌, ◌∷◌, []}
use Rattle.std.proofs.lemmas.Result.{IfOk-weaker}
use Rattle.clap.specs.Words.{app_of, with_subcommand}
use Rattle.asn_request.specs.Command.{fields_app, flatten_app, module_shape, types_shape, example_shape}
use Rattle.asn_request.proofs.Subcommands.{one_more}
use Rattle.asn_request.proofs.program.with_looks.Goals as goal

pub returns : goal.returns
returns c =
    let a = app_of c.args.tool in
    let flat = c.in_ok-flatten.ensures.shape in
    let looks = c.in_ok-fields.ensures.shape in
    let flatten = (flatten_app flat.0).top in
    let fields = (fields_app looks.0 looks.1).top in
    let one = c.in_ok-subcommand.ensures.shape c.in_ok-flatten.ensures.local ∙ ap (with_subcommand a) flat.2 in
    let two = c.in_ok-subcommand-2.ensures.shape c.in_ok-module.ensures.local ∙ ap₂ with_subcommand one c.in_ok-module.ensures.shape
    ∙ one_more a (flatten ∷ []) module_shape in
    let three = c.in_ok-subcommand-3.ensures.shape c.in_ok-fields.ensures.local ∙ ap₂ with_subcommand two looks.4
    ∙ one_more a (flatten ∷ module_shape ∷ []) fields in
    let four = c.in_ok-subcommand-4.ensures.shape c.in_ok-types.ensures.local ∙ ap₂ with_subcommand three c.in_ok-types.ensures.shape
    ∙ one_more a (flatten ∷ module_shape ∷ fields ∷ []) types_shape in
    IfOk-weaker c.subcommand-5.result _ _
    (λ d h. (
      flat.0,
      looks.0,
      looks.1,
      flat.1,
      looks.2,
      looks.3,
      h.shape c.in_ok-example.ensures.local ∙ ap₂ with_subcommand four c.in_ok-example.ensures.shape
          ∙ one_more a (flatten ∷ module_shape ∷ fields ∷ types_shape ∷ []) example_shape,
    ))
    c.subcommand-5.ensures
