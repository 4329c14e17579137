use Rattle.std.proofs.Common.{ap, codes, option_map, sym, ◌∙◌, Some}
use Rattle.clap.proofs.WalkLemmas.{first_value-rows}
use Rattle.clap.specs.Words.{found_of, rows_of}
use Rattle.asn_request.specs.Request.{rules_of}
use Rattle.asn_request.proofs.FoundJob.{order_known, value_known}
use Rattle.asn_request.proofs.request.lines_in.Goals as goal

pub unreachable-requires : goal.unreachable-requires
unreachable-requires c = order_known c.args.name.now c.requires.0 c.in_default.ensures

pub unreachable-requires-in_default-get_str : goal.unreachable-requires-in_default-get_str
unreachable-requires-in_default-get_str c =
    value_known _ c.requires.1 (c.in_default-get_str.ensures ∙ first_value-rows (found_of c.args.options.now) (codes "type"))

pub unreachable-requires-in_default-get_str-2 : goal.unreachable-requires-in_default-get_str-2
unreachable-requires-in_default-get_str-2 c =
    value_known _ (c.requires.2.0, c.requires.2.1) (c.in_default-get_str-2.ensures ∙ first_value-rows (found_of c.args.options.now) (codes "rules"))

pub returns : goal.returns
returns c = (
  sym c.in-Some.ensures,
  sym (ap Some c.in_ok-type_name.ensures.ok ∙ (c.in-Some-get_str.ensures ∙ first_value-rows (found_of c.args.options.now) (codes "type"))),
  sym (ap (option_map rules_of) (c.in-Some-get_str-2.ensures ∙ first_value-rows (found_of c.args.options.now) (codes "rules"))) ∙ ap Some (sym c.rules_of-rules.ensures),
)
