use Rattle.std.proofs.Common.{◌∷◌, Bool, ap, ◌∙◌}
use Rattle.std.proofs.lemmas.Result.{IfOk-weaker, IfErr-weaker, err_from_is_err_and}
use Rattle.asn_bits.specs.Sink.{bit_of}
use Rattle.asn_rules.specs.Languages.{Spells}
use Rattle.asn_rules.specs.Stops.{Stops}
use Rattle.asn_rules.proofs.Languages.Leads.{stops_by}
use Rattle.asn_per.specs.Per.{per_fields}
use Rattle.asn_per.specs.ListsAhead.{RootStart}
use Rattle.asn_per.specs.RowsAhead.{ahead_of}
use Rattle.asn_per.proofs.Read.ListsAhead.{mark_stops, mark_zero, mark_one}
use Rattle.asn_per.proofs.sizes.Fragments.start.Goals as goal

pub returns-in_err-outside-clause-stop : goal.returns-in_err-outside-clause-stop
returns-in_err-outside-clause-stop c =
    let s = c.args.size.now in
    let p = err_from_is_err_and c.from_residual.result c.from_residual.ensures.1 in
    rw (p.1, p.2) (mark_stops s.low s.high s.ext c.args.bits.now _ c.if-not-size.false c.in_err-outside.ensures.stop)

pub returns-else-outside-clause-done : goal.returns-else-outside-clause-done
returns-else-outside-clause-done c =
    let s = c.args.size.now in
    let new = c.read_extension_bit.new.bits in
    let us = c.in_ok-outside.ensures.done.0 ∙ ap (λ (x : Bool). bit_of x ∷ new) c.if-outside.false in
    IfOk-weaker c.read_root_start-else-outside.result (λ rows. Spells per_fields (RootStart s.low s.high) (ahead_of rows) new c.read_root_start-else-outside.new.bits) _
    (λ rows h. (mark_zero s.low s.high s.ext c.args.bits.now new c.if-not-size.false us).done (ahead_of rows) c.read_root_start-else-outside.new.bits h) c.read_root_start-else-outside.ensures.done

pub returns-else-outside-clause-stop : goal.returns-else-outside-clause-stop
returns-else-outside-clause-stop c =
    let s = c.args.size.now in
    let new = c.read_extension_bit.new.bits in
    let us = c.in_ok-outside.ensures.done.0 ∙ ap (λ (x : Bool). bit_of x ∷ new) c.if-outside.false in
    IfErr-weaker c.read_root_start-else-outside.result (λ why. Stops per_fields (RootStart s.low s.high) new why) _
    (λ why h. stops_by why (mark_zero s.low s.high s.ext c.args.bits.now new c.if-not-size.false us).stops h) c.read_root_start-else-outside.ensures.stop

pub returns-then-outside-clause-done : goal.returns-then-outside-clause-done
returns-then-outside-clause-done c =
    let s = c.args.size.now in
    let new = c.read_extension_bit.new.bits in
    let us = c.in_ok-outside.ensures.done.0 ∙ ap (λ (x : Bool). bit_of x ∷ new) c.if-outside.true in
    rw c.other_lengths.ensures.lengths (mark_one s.low s.high s.ext c.args.bits.now new c.if-not-size.false us)
