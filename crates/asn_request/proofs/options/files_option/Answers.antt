use Rattle.std.proofs.Common.{rules, ap, Some, ◌≡◌, ◌∙◌}
use Rattle.clap.specs.Words.{rule_of}
use Rattle.clap.specs.declared.builder.Arg.{Arg}
use Rattle.asn_request.specs.Command.{option_rule, some_values}
use Rattle.asn_request.proofs.Exactly.{exactly}
use Rattle.asn_request.proofs.options.files_option.Goals as goal

pub returns-clause-rule : goal.returns-clause-rule
returns-clause-rule c =
    let rule : rule_of c.help.result ≡ record (option_rule c.args.name.now) { range = c.help.result.num_vals } = search rules in
    let range : c.help.result.num_vals ≡ Some some_values = ap (λ (a : Arg). a.num_vals) c.help.ensures ∙ (ap (λ (a : Arg). a.num_vals) c.action.ensures ∙ exactly c.num_args.result.num_vals some_values c.num_args.ensures.1) in
    rule ∙ ap (λ r. record (option_rule c.args.name.now) { range = r }) range
