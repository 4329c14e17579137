use Rattle.std.proofs.Common.{map}
use Rattle.std.proofs.lemmas.Result.{err_from_is_err_and}
use Rattle.clap.specs.Words.{app_of}
use Rattle.asn_request.proofs.Refusals.{found_request, found_taken, told_by}
use Rattle.asn_request.proofs.Taken.{tool_free}
use Rattle.asn_request.proofs.request.request_of.Goals as goal

pub returns-in_err-matches-clause-fault : goal.returns-in_err-matches-clause-fault
returns-in_err-matches-clause-fault c =
    let a = app_of c.in_ok-command.command in
    let h = c.in_err-matches.ensures.kinds (tool_free a c.in_ok-command.ensures) in
    let p = err_from_is_err_and c.from_residual-in_err-matches.result c.from_residual-in_err-matches.ensures.1 in
    rw (p.1, p.2) (told_by (map (λ w. w.now) c.args.words.now) _ a c.in_ok-command.ensures h)

pub request_in-requires : goal.request_in-requires
request_in-requires c =
    let a = app_of c.in_ok-command.command in
    found_taken (map (λ w. w.now) c.args.words.now) a c.in_ok-matches.matches c.in_ok-command.ensures c.in_ok-matches.ensures.matches
    (c.in_ok-matches.ensures.kinds (tool_free a c.in_ok-command.ensures))

pub returns-clause-request : goal.returns-clause-request
returns-clause-request c =
    let a = app_of c.in_ok-command.command in (
      a,
      c.in_ok-command.ensures,
      c.in_ok-matches.ensures.kinds (tool_free a c.in_ok-command.ensures),
      found_request (map (λ w. w.now) c.args.words.now) a c.in_ok-matches.matches c.in_ok-request_in.field-0 c.in_ok-command.ensures c.in_ok-matches.ensures.matches c.in_ok-request_in.ensures,
    )
