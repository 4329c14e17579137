use Rattle.std.proofs.Common.{codes, ◌∙◌, ap}
use Rattle.std.specs.Option.{option_map_or}
use Rattle.clap.specs.Words.{found_of, rows_of}
use Rattle.clap.proofs.WalkLemmas.{first_value-rows}
use Rattle.asn_jobs.specs.declared.job.RuleName.TheVariants as rules
use Rattle.asn_request.specs.Request.{rules_of}
use Rattle.asn_request.proofs.look.rules_in.Goals as goal

pub returns-in-Some : goal.returns-in-Some
returns-in-Some c =
    c.rules_of.ensures ∙ ap (λ o. option_map_or rules_of o rules.Per) (c.in-Some.ensures ∙ first_value-rows (found_of c.args.options.now) (codes "rules"))

pub returns-in-None : goal.returns-in-None
returns-in-None c = ap (λ o. option_map_or rules_of o rules.Per) (c.in-None.ensures ∙ first_value-rows (found_of c.args.options.now) (codes "rules"))
