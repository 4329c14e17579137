use Rattle.std.proofs.Common.{ap, codes, refl, sym, subst, ◌∙◌, Some}
use Rattle.clap.specs.Words.{found_of, rows_of, subcommand_rows_of}
use Rattle.asn_request.specs.Command.{IsTaken}
use Rattle.asn_request.specs.Request.{HasRequest}
use Rattle.asn_request.proofs.FoundJob.{met, options, other_name}
use Rattle.asn_request.proofs.request.request_in.Goals as goal

pub lines_in-requires : goal.lines_in-requires
lines_in-requires c =
    let is = met c.args.matches.now c.in-Some.name.now (rows_of (found_of c.in-Some.options.now)) c.in-Some.ensures.name c.in-Some.ensures.rows in
    options (c.in-Some.name.now, rows_of (found_of c.in-Some.options.now)) (subst IsTaken is c.requires)
    (other_name c.in-Some.name.now (codes "flatten") c.if-eq.ensures refl) (other_name c.in-Some.name.now (codes "module") c.if-eq-2.ensures refl)
    c.in_default-looking_named.ensures
