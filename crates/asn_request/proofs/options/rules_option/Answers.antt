use Rattle.std.proofs.Common.{rules, ap, Some, ◌≡◌, ◌∙◌}
use Rattle.clap.specs.Words.{rule_of}
use Rattle.clap.specs.declared.builder.Arg.{Arg}
use Rattle.asn_request.specs.Command.{TakesNames, rule_names, rules_rule}
use Rattle.asn_request.proofs.options.rules_option.Goals as goal

pub returns-clause-rule : goal.returns-clause-rule
returns-clause-rule c =
    let rule : rule_of c.help.result ≡ rules_rule c.help.result.value_parser = search rules in
    let takes : TakesNames rule_names c.help.result.value_parser = (let given = c.value_parser.ensures.given in (c.as_slice.result, ap (λ (a : Arg). a.value_parser) c.help.ensures ∙ (given.1 ∙ ap Some given.2), search rules)) in
    (c.help.result.value_parser, takes, rule)
