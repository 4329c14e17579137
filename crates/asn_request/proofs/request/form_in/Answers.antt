use Rattle.std.proofs.Common.{codes, ◌∙◌}
use Rattle.clap.specs.Words.{found_of, rows_of}
use Rattle.clap.proofs.WalkLemmas.{first_value-rows}
use Rattle.asn_request.proofs.Given.{no_form, some_form}
use Rattle.asn_request.proofs.request.form_in.Goals as goal

pub returns-in-Some : goal.returns-in-Some
returns-in-Some c =
    some_form (rows_of (found_of c.args.options.now)) c.in-Some.name.now c.form_named.result (c.in-Some.ensures ∙ first_value-rows (found_of c.args.options.now) (codes "report")) c.form_named.ensures

pub returns-in-None : goal.returns-in-None
returns-in-None c =
    no_form (rows_of (found_of c.args.options.now)) (c.in-None.ensures ∙ first_value-rows (found_of c.args.options.now) (codes "report"))
