use Rattle.std.proofs.Common.{Some, None}
use Rattle.std.proofs.lemmas.Result.{err_from_is_err_and}
use Rattle.asn_values.specs.View.{size_range_of}
use Rattle.asn_rules.proofs.Languages.Leads.{stops_by}
use Rattle.asn_per.specs.Kinds.{Bit}
use Rattle.asn_per.proofs.Types.StringLanguages.{bit_lawful}
use Rattle.asn_per.proofs.Read.StringRows.{bit_inhabited}
use Rattle.asn_walk.specs.Ahead.{Next}
use Rattle.asn_per.specs.Per.{per_fields}
use Rattle.asn_per.specs.RowsAhead.{ahead_of}
use Rattle.asn_per.proofs.Read.ListsAhead.{start_stops, going_starts, going_stops, going_ends, going_row_stops, going_further}
use Rattle.asn_per.proofs.string_reader.read_bits.Goals as goal

pub returns-in_err-fragments-clause-stop : goal.returns-in_err-fragments-clause-stop
returns-in_err-fragments-clause-stop c =
    let p = err_from_is_err_and c.from_residual.result c.from_residual.ensures.1 in
    rw (p.1, p.2) (stops_by _ (start_stops Bit (size_range_of c.args.size.now) c.args.cursor.now c.requires.of_profile bit_inhabited) c.in_err-fragments.ensures.stop)

pub loop-count-init : goal.loop-count-init
loop-count-init c = (rw c.clear.ensures.items (going_starts Bit (size_range_of c.args.size.now) c.requires.of_profile c.in_ok-fragments.ensures.done), c.in_ok-fragments.ensures.between)

pub returns-in_err-count-clause-stop : goal.returns-in_err-count-clause-stop
returns-in_err-count-clause-stop c =
    let p = err_from_is_err_and c.from_residual-in_err-count.result c.from_residual-in_err-count.ensures.1 in
    rw (p.1, p.2) (going_stops _ bit_inhabited c.in_err-count.ensures.stop c.loop-count.invariant.0)

pub loop-count-preserved : goal.loop-count-preserved
loop-count-preserved c =
    let next : Next per_fields (ahead_of c.loop-count.fragments) (Some c.in-Some.count) (ahead_of c.next.new.self) c.loop-count.cursor c.next.new.bits = rw c.in-Some.is at c.in_ok-count.ensures.done in
    (going_further bit_inhabited bit_lawful next c.in_ok-append_bits.ensures.done c.loop-count.invariant.0, c.in_ok-count.ensures.between)

pub returns-in_err-append_bits-clause-stop : goal.returns-in_err-append_bits-clause-stop
returns-in_err-append_bits-clause-stop c =
    let next : Next per_fields (ahead_of c.loop-count.fragments) (Some c.in-Some.count) (ahead_of c.next.new.self) c.loop-count.cursor c.next.new.bits = rw c.in-Some.is at c.in_ok-count.ensures.done in
    let p = err_from_is_err_and c.from_residual-in_err-append_bits.result c.from_residual-in_err-append_bits.ensures.1 in
    rw (p.1, p.2) (stops_by _ (going_row_stops bit_inhabited next c.loop-count.invariant.0) c.in_err-append_bits.ensures.stop)

pub returns-clause-done : goal.returns-clause-done
returns-clause-done c =
    let next : Next per_fields (ahead_of c.loop-count.fragments) None (ahead_of c.next.new.self) c.loop-count.cursor c.next.new.bits = rw c.in_default.is at c.in_ok-count.ensures.done in
    going_ends next c.loop-count.invariant.0
