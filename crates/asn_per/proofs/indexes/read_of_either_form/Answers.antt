use Rattle.std.proofs.Common.{◌≡◌, refl, arith}
use Rattle.std.proofs.lemmas.Result.{err_from_is_err_and, IfOk-weaker, IfErr-weaker}
use Rattle.asn_rules.proofs.Languages.Leads.{stops_by}
use Rattle.asn_per.specs.Per.{per_fields}
use Rattle.asn_per.proofs.Read.SmallReading.{form_wanted, after_zero, after_one}
use Rattle.asn_per.proofs.indexes.read_of_either_form.Goals as goal

pub returns-in_default-clause-stop : goal.returns-in_default-clause-stop
returns-in_default-clause-stop c =
    let none = c.in_default.ensures.none.0 refl in
    rw none (record { told = form_wanted c.args.count c.requires.long c.requires.few })

pub returns-then-form-eq1-clause-done : goal.returns-then-form-eq1-clause-done
returns-then-form-eq1-clause-done c =
    let lead = after_one c.args.count c.requires.long c.requires.few c.args.bits.now _ c.in-Some.form c.in-Some.ensures.some c.if-form-eq1.true in
    IfOk-weaker c.read_large_number.result _ _ (λ n s. lead.done n c.read_large_number.new.bits s) c.read_large_number.ensures.done

pub returns-then-form-eq1-clause-stop : goal.returns-then-form-eq1-clause-stop
returns-then-form-eq1-clause-stop c =
    let lead = after_one c.args.count c.requires.long c.requires.few c.args.bits.now _ c.in-Some.form c.in-Some.ensures.some c.if-form-eq1.true in
    IfErr-weaker c.read_large_number.result _ _ (λ why s. stops_by why lead.stops s) c.read_large_number.ensures.stop

pub returns-in_err-read_up_to-clause-stop : goal.returns-in_err-read_up_to-clause-stop
returns-in_err-read_up_to-clause-stop c =
    let zero : c.in-Some.form ≡ 0 = omega (arith, c.in-Some.ensures.bit, c.if-form-eq1.false) in
    let lead = after_zero c.args.count c.requires.long c.requires.few c.args.bits.now _ c.in-Some.form c.in-Some.ensures.some zero in
    let p = err_from_is_err_and c.from_residual.result c.from_residual.ensures.1 in
    rw (p.1, p.2) (stops_by _ lead.stops (c.in_err-read_up_to.ensures.stop per_fields))

pub returns-in_ok-read_up_to-clause-done : goal.returns-in_ok-read_up_to-clause-done
returns-in_ok-read_up_to-clause-done c =
    let zero : c.in-Some.form ≡ 0 = omega (arith, c.in-Some.ensures.bit, c.if-form-eq1.false) in
    let lead = after_zero c.args.count c.requires.long c.requires.few c.args.bits.now _ c.in-Some.form c.in-Some.ensures.some zero in
    lead.done c.in_ok-read_up_to.field-0 c.read_up_to.new.bits (c.in_ok-read_up_to.ensures.done per_fields)
