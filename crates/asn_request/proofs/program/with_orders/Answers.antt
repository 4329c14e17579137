use Rattle.std.proofs.Common.{ap, ◌∙◌, ◌∷◌, []}
use Rattle.std.proofs.lemmas.Result.{IfOk-weaker}
use Rattle.clap.specs.Words.{App, app_of, shape_of, with_subcommand}
use Rattle.asn_request.proofs.Subcommands.{one_more}
use Rattle.asn_request.proofs.program.with_orders.Goals as goal

pub returns : goal.returns
returns c =
    let a = app_of c.args.tool in
    let s1 = shape_of c.in_ok-reading.field-0 in
    let s2 = shape_of c.in_ok-reading-2.field-0 in
    let s3 = shape_of c.in_ok-reading-3.field-0 in
    let s4 = shape_of c.in_ok-reading-4.field-0 in
    let s5 = shape_of c.in_ok-order.field-0 in
    let newer = c.in_ok-order.ensures.app in
    let top = λ (b : App). b.top in
    let one = c.in_ok-subcommand.ensures.shape c.in_ok-reading.ensures.local in
    let two = c.in_ok-subcommand-2.ensures.shape c.in_ok-reading-2.ensures.local ∙ ap (λ b. with_subcommand b s2) one
    ∙ one_more a (s1 ∷ []) s2 in
    let three = c.in_ok-subcommand-3.ensures.shape c.in_ok-reading-3.ensures.local ∙ ap (λ b. with_subcommand b s3) two
    ∙ one_more a (s1 ∷ s2 ∷ []) s3 in
    let four = c.in_ok-subcommand-4.ensures.shape c.in_ok-reading-4.ensures.local ∙ ap (λ b. with_subcommand b s4) three
    ∙ one_more a (s1 ∷ s2 ∷ s3 ∷ []) s4 in
    IfOk-weaker c.subcommand-5.result _ _
    (λ d h. (
      s1 ∷ s2 ∷ s3 ∷ s4 ∷ s5 ∷ [],
      (c.in_ok-reading.ensures.shape, (c.in_ok-reading-2.ensures.shape, (c.in_ok-reading-3.ensures.shape, (c.in_ok-reading-4.ensures.shape, ((newer.0, newer.1, ap top newer.2), tt))))),
      h.shape c.in_ok-order.ensures.local ∙ ap (λ b. with_subcommand b s5) four ∙ one_more a (s1 ∷ s2 ∷ s3 ∷ s4 ∷ []) s5,
    ))
    c.subcommand-5.ensures
