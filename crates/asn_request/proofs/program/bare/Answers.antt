use Rattle.std.proofs.Common.{ap, codes, true, ◌≡◌, ◌∙◌}
use Rattle.std.proofs.lemmas.Result.{IfOk-weaker}
use Rattle.clap.specs.Simple.{app_of_fields, on_top}
use Rattle.clap.specs.Words.{app_of, new_app}
use Rattle.asn_request.proofs.program.bare.Goals as goal

pub returns : goal.returns
returns c =
    let version_is : app_of c.version.result ≡ on_top (λ s. record s { has_version = true }) (new_app (codes "asn_tool")) = ap app_of_fields c.version.ensures ∙ ap (on_top (λ s. record s { has_version = true })) c.new.ensures.app in
    let help_is : app_of c.after_help.result ≡ app_of c.version.result = ap app_of_fields c.after_help.ensures ∙ ap app_of_fields c.about.ensures in
    let plain_is : app_of c.no_binary_name.result ≡ on_top (λ s. record s { no_binary_name = true }) (app_of c.after_help.result) = ap app_of_fields c.no_binary_name.ensures in
    let top_is : app_of c.subcommand_required.result ≡ on_top (λ s. record s { subcommand_required = true }) (app_of c.no_binary_name.result) = ap app_of_fields c.subcommand_required.ensures in
    let all_is = top_is ∙ ap (on_top (λ s. record s { subcommand_required = true })) (plain_is ∙ ap (on_top (λ s. record s { no_binary_name = true })) (help_is ∙ version_is)) in
    IfOk-weaker c.bin_name.result _ _ (λ d h. ap app_of_fields h.0 ∙ all_is) c.bin_name.ensures
