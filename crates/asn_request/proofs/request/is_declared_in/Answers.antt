use Rattle.std.proofs.Common.{codes, ◌∙◌}
use Rattle.clap.specs.Words.{found_of, rows_of}
use Rattle.clap.proofs.WalkLemmas.{first_value-rows}
use Rattle.asn_request.proofs.Given.{no_order, some_order}
use Rattle.asn_request.proofs.request.is_declared_in.Goals as goal

pub returns-in-Some : goal.returns-in-Some
returns-in-Some c =
    some_order (rows_of (found_of c.args.options.now)) c.in-Some.name.now c.eq.result (c.in-Some.ensures ∙ first_value-rows (found_of c.args.options.now) (codes "order")) c.eq.ensures

pub returns-in-None : goal.returns-in-None
returns-in-None c =
    no_order (rows_of (found_of c.args.options.now)) (c.in-None.ensures ∙ first_value-rows (found_of c.args.options.now) (codes "order"))
