use Rattle.std.proofs.lemmas.Result.{err_from_is_err_and}
use Rattle.asn_rules.proofs.Languages.Leads.{stops_by}
use Rattle.asn_per.proofs.Read.IndexReading.{root_leads, index_stops, zero_leads, one_leads}
use Rattle.asn_per.proofs.indexes.read_index.Goals as goal

-- ---- without a mark

pub returns-in_err-read_root_index-clause-stop : goal.returns-in_err-read_root_index-clause-stop
returns-in_err-read_root_index-clause-stop c =
    let p = err_from_is_err_and c.from_residual.result c.from_residual.ensures.1 in
    rw (p.1, p.2, c.in_default.is) (stops_by _ (root_leads c.args.root c.args.bits.now).stops c.in_err-read_root_index.ensures.stop)

pub returns-in_default-clause-done : goal.returns-in_default-clause-done
returns-in_default-clause-done c = rw c.in_default.is ((root_leads c.args.root c.args.bits.now).done c.in_ok-read_root_index.field-0 c.read_root_index.new.bits c.in_ok-read_root_index.ensures.done)

-- ---- with a mark

pub returns-in_err-extended-clause-stop : goal.returns-in_err-extended-clause-stop
returns-in_err-extended-clause-stop c =
    let p = err_from_is_err_and c.from_residual-in_err-extended.result c.from_residual-in_err-extended.ensures.1 in
    rw (p.1, p.2, c.in-Some.is) (index_stops c.args.root c.in-Some.additions c.requires.some c.args.bits.now _ c.in_err-extended.ensures.stop)

pub returns-in_err-read_root_index-2-clause-stop : goal.returns-in_err-read_root_index-2-clause-stop
returns-in_err-read_root_index-2-clause-stop c =
    let lead = zero_leads c.args.root c.in-Some.additions c.args.bits.now c.read_extension_bit.new.bits c.in_ok-extended.extended c.in_ok-extended.ensures.done.0 c.if-extended.false in
    let p = err_from_is_err_and c.from_residual-in_err-read_root_index-2.result c.from_residual-in_err-read_root_index-2.ensures.1 in
    rw (p.1, p.2, c.in-Some.is) (stops_by _ lead.stops c.in_err-read_root_index-2.ensures.stop)

pub returns-in_ok-read_root_index-2-clause-done : goal.returns-in_ok-read_root_index-2-clause-done
returns-in_ok-read_root_index-2-clause-done c =
    let lead = zero_leads c.args.root c.in-Some.additions c.args.bits.now c.read_extension_bit.new.bits c.in_ok-extended.extended c.in_ok-extended.ensures.done.0 c.if-extended.false in
    rw c.in-Some.is (lead.done c.in_ok-read_root_index-2.field-0 c.read_root_index-else-extended.new.bits c.in_ok-read_root_index-2.ensures.done)

pub returns-in_err-read_small_number-clause-stop : goal.returns-in_err-read_small_number-clause-stop
returns-in_err-read_small_number-clause-stop c =
    let lead = one_leads c.args.root c.in-Some.additions c.args.bits.now c.read_extension_bit.new.bits c.in_ok-extended.extended c.in_ok-extended.ensures.done.0 c.if-extended.true in
    let p = err_from_is_err_and c.from_residual-in_err-read_small_number.result c.from_residual-in_err-read_small_number.ensures.1 in
    rw (p.1, p.2, c.in-Some.is) (stops_by _ lead.stops c.in_err-read_small_number.ensures.stop)

pub returns-in_ok-read_small_number-clause-done : goal.returns-in_ok-read_small_number-clause-done
returns-in_ok-read_small_number-clause-done c =
    let lead = one_leads c.args.root c.in-Some.additions c.args.bits.now c.read_extension_bit.new.bits c.in_ok-extended.extended c.in_ok-extended.ensures.done.0 c.if-extended.true in
    rw c.in-Some.is (lead.done c.in_ok-read_small_number.field-0 c.read_small_number.new.bits c.in_ok-read_small_number.ensures.done)
