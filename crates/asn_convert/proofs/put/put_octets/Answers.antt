use Rattle.std.proofs.Common.{true, false, refl}
use Rattle.std.proofs.lemmas.Result.{err_from_is_err_and}
use Rattle.asn_values.specs.View.{shape_of, datum_of}
use Rattle.asn_rules.specs.Faults.{state_of}
use Rattle.asn_convert.proofs.Putting.{line_put, line_broken, digits_broken}
use Rattle.asn_convert.proofs.put.put_octets.Goals as goal

pub returns-in_err-put_digits-clause-err : goal.returns-in_err-put_digits-clause-err
returns-in_err-put_digits-clause-err g c =
    let p = err_from_is_err_and c.from_residual.result c.from_residual.ensures.1 in
    rw (p.1, p.2) (digits_broken g.R.Rules.ruling (shape_of c.args.ty.now) (datum_of c.args.value.now) _ _ _ c.in_err-put_digits.ensures.err)

pub returns-in_err-put-clause-err : goal.returns-in_err-put-clause-err
returns-in_err-put-clause-err g c =
    let p = err_from_is_err_and c.from_residual-in_err-put.result c.from_residual-in_err-put.ensures.1 in
    let told = rw c.if-branch.true at c.in_ok-put_digits.ensures.ok in
    rw (p.1, p.2) (line_broken g.R.Rules.ruling (shape_of c.args.ty.now) (datum_of c.args.value.now) _ true _ _ (state_of g.W.Write.contents c.put_digits.new.output) _ refl told c.in_err-put.ensures.err)

pub returns-then-branch-clause-ok : goal.returns-then-branch-clause-ok
returns-then-branch-clause-ok g c =
    let told = rw c.if-branch.true at c.in_ok-put_digits.ensures.ok in
    line_put g.R.Rules.ruling (shape_of c.args.ty.now) (datum_of c.args.value.now) true _ _ (state_of g.W.Write.contents c.put_digits.new.output) _ refl told c.in_ok-put.ensures.ok

pub returns-in_err-put-2-clause-err : goal.returns-in_err-put-2-clause-err
returns-in_err-put-2-clause-err g c =
    let p = err_from_is_err_and c.from_residual-in_err-put-2.result c.from_residual-in_err-put-2.ensures.1 in
    let told = rw c.if-branch.false at c.in_ok-put_digits.ensures.ok in
    rw (p.1, p.2) (line_broken g.R.Rules.ruling (shape_of c.args.ty.now) (datum_of c.args.value.now) _ false _ _ (state_of g.W.Write.contents c.put_digits.new.output) _ refl told c.in_err-put-2.ensures.err)
