use Rattle.std.proofs.Common.{codes, ◌∙◌}
use Rattle.clap.specs.Words.{first_of, found_of, rows_of}
use Rattle.clap.proofs.WalkLemmas.{first_value-rows}
use Rattle.asn_request.proofs.Given.{is_named}
use Rattle.asn_request.proofs.request.is_order_named_in.Goals as goal

pub returns : goal.returns
returns c =
    c.is_some.ensures ∙ is_named c.get_str.result (first_of (codes "order") (rows_of (found_of c.args.options.now))) (c.get_str.ensures ∙ first_value-rows (found_of c.args.options.now) (codes "order"))
