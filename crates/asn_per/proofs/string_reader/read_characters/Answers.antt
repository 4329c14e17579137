use Rattle.std.proofs.Common.{Some, None}
use Rattle.std.proofs.lemmas.Result.{err_from_is_err_and}
use Rattle.asn_values.specs.View.{size_range_of, alphabet_of}
use Rattle.asn_rules.proofs.Languages.Leads.{stops_by}
use Rattle.asn_per.specs.Kinds.{Character}
use Rattle.asn_per.proofs.Types.StringLanguages.{character_lawful}
use Rattle.asn_per.proofs.Read.StringRows.{character_inhabited}
use Rattle.asn_walk.specs.Ahead.{Next}
use Rattle.asn_per.specs.Per.{per_fields}
use Rattle.asn_per.specs.RowsAhead.{ahead_of}
use Rattle.asn_per.proofs.Read.ListsAhead.{start_stops, going_starts, going_stops, going_ends, going_row_stops, going_further}
use Rattle.asn_per.proofs.string_reader.read_characters.Goals as goal

pub returns-in_err-fragments-clause-stop : goal.returns-in_err-fragments-clause-stop
returns-in_err-fragments-clause-stop c =
    let p = err_from_is_err_and c.from_residual.result c.from_residual.ensures.1 in
    rw (p.1, p.2) (stops_by _ (start_stops (Character (alphabet_of c.args.kind)) (size_range_of c.args.size.now) c.args.cursor.now c.requires.of_profile (character_inhabited (alphabet_of c.args.kind))) c.in_err-fragments.ensures.stop)

pub loop-count-init : goal.loop-count-init
loop-count-init c = (rw c.clear.ensures.items (going_starts (Character (alphabet_of c.args.kind)) (size_range_of c.args.size.now) c.requires.of_profile c.in_ok-fragments.ensures.done), c.in_ok-fragments.ensures.between)

pub returns-in_err-count-clause-stop : goal.returns-in_err-count-clause-stop
returns-in_err-count-clause-stop c =
    let p = err_from_is_err_and c.from_residual-in_err-count.result c.from_residual-in_err-count.ensures.1 in
    rw (p.1, p.2) (going_stops _ (character_inhabited (alphabet_of c.args.kind)) c.in_err-count.ensures.stop c.loop-count.invariant.0)

pub loop-count-preserved : goal.loop-count-preserved
loop-count-preserved c =
    let next : Next per_fields (ahead_of c.loop-count.fragments) (Some c.in-Some.count) (ahead_of c.next.new.self) c.loop-count.cursor c.next.new.bits = rw c.in-Some.is at c.in_ok-count.ensures.done in
    (going_further (character_inhabited (alphabet_of c.args.kind)) (character_lawful (alphabet_of c.args.kind)) next c.in_ok-append_characters.ensures.done c.loop-count.invariant.0, c.in_ok-count.ensures.between)

pub returns-in_err-append_characters-clause-stop : goal.returns-in_err-append_characters-clause-stop
returns-in_err-append_characters-clause-stop c =
    let next : Next per_fields (ahead_of c.loop-count.fragments) (Some c.in-Some.count) (ahead_of c.next.new.self) c.loop-count.cursor c.next.new.bits = rw c.in-Some.is at c.in_ok-count.ensures.done in
    let p = err_from_is_err_and c.from_residual-in_err-append_characters.result c.from_residual-in_err-append_characters.ensures.1 in
    rw (p.1, p.2) (stops_by _ (going_row_stops (character_inhabited (alphabet_of c.args.kind)) next c.loop-count.invariant.0) c.in_err-append_characters.ensures.stop)

pub returns-clause-done : goal.returns-clause-done
returns-clause-done c =
    let next : Next per_fields (ahead_of c.loop-count.fragments) None (ahead_of c.next.new.self) c.loop-count.cursor c.next.new.bits = rw c.in_default.is at c.in_ok-count.ensures.done in
    going_ends next c.loop-count.invariant.0
