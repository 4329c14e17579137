use Rattle.asn_convert.specs.Answers.{rulings}
use Rattle.std.proofs.lemmas.Result.{err_from_is_err_and}
use Rattle.asn_convert.proofs.Told.{read_fails}
use Rattle.asn_convert.proofs.running.run_with.Goals as goal

pub returns-in_err-octets-clause-fault : goal.returns-in_err-octets-clause-fault
returns-in_err-octets-clause-fault g c =
    let p = err_from_is_err_and c.from_residual.result c.from_residual.ensures.1 in
    rw (p.1, p.2) (read_fails (rulings g.A.Rules.ruling g.B.Rules.ruling g.A.OtherVersions.loose) _ _ _ _ _ c.in_err-octets.ensures.fault)
