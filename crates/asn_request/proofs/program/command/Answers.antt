use Rattle.std.proofs.Common.{ap, ◌∙◌}
use Rattle.std.proofs.lemmas.Result.{IfOk-weaker}
use Rattle.asn_request.specs.Command.{look_shapes, with_subcommands}
use Rattle.asn_request.proofs.program.command.Goals as goal

pub returns : goal.returns
returns c =
    let looks = c.in_ok-tool-2.ensures in
    let both = looks.6 ∙ ap (λ a. with_subcommands a (look_shapes looks.0 looks.1 looks.2)) c.in_ok-tool.ensures in
    IfOk-weaker c.with_orders.result _ _
    (λ d h. (looks.0, looks.1, looks.2, h.0, looks.3, looks.4, looks.5, h.1, h.2 ∙ ap (λ a. with_subcommands a h.0) both))
    c.with_orders.ensures
