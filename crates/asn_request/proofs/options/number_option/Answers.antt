use Rattle.std.proofs.Common.{rules, ap, Some, ◌≡◌, ◌∙◌}
use Rattle.std.specs.Prelude.{pos}
use Rattle.clap.specs.Words.{rule_of}
use Rattle.clap.specs.declared.builder.Arg.{Arg}
use Rattle.clap.specs.declared.builder.ValueParser.TheVariants.{Signed}
use Rattle.asn_request.specs.Command.{option_rule}
use Rattle.asn_request.proofs.options.number_option.Goals as goal

pub returns-clause-rule : goal.returns-clause-rule
returns-clause-rule c =
    let rule : rule_of c.help.result ≡ record (option_rule c.args.name.now) { parser = c.help.result.value_parser } = search rules in
    let given = c.value_parser-2.ensures.given in
    let parser : c.help.result.value_parser ≡ Some (Signed (pos 0) (pos 4294967295)) = ap (λ (a : Arg). a.value_parser) c.help.ensures ∙ (given.1 ∙ ap Some (given.2 ∙ c.value_parser.ensures)) in
    rule ∙ ap (λ p. record (option_rule c.args.name.now) { parser = p }) parser
