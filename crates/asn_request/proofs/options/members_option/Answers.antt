use Rattle.std.proofs.Common.{rules, ap, codes, Some, ◌≡◌, ◌∙◌}
use Rattle.clap.specs.Words.{rule_of}
use Rattle.clap.specs.declared.builder.Arg.{Arg}
use Rattle.asn_request.specs.Command.{TakesNames, member_names, names_rule}
use Rattle.asn_request.proofs.options.members_option.Goals as goal

pub returns-clause-rule : goal.returns-clause-rule
returns-clause-rule c =
    let rule : rule_of c.help.result ≡ names_rule (codes "order") c.help.result.value_parser = search rules in
    let takes : TakesNames member_names c.help.result.value_parser = (let given = c.value_parser.ensures.given in (c.as_slice.result, ap (λ (a : Arg). a.value_parser) c.help.ensures ∙ (given.1 ∙ ap Some given.2), search rules)) in
    (c.help.result.value_parser, takes, rule)
