use Rattle.std.proofs.Common.{◌∷◌, Bool, ap, ◌∙◌}
use Rattle.std.proofs.lemmas.Result.{IfOk-weaker, IfErr-weaker, err_from_is_err_and}
use Rattle.asn_values.specs.Datum.{number}
use Rattle.asn_values.specs.Shape.{integer}
use Rattle.asn_values.specs.View.{range_of}
use Rattle.asn_bits.specs.Sink.{bit_of}
use Rattle.asn_rules.proofs.Languages.Leads.{stops_by}
use Rattle.asn_rules.proofs.Components.Listed.{spelt_inhabited}
use Rattle.asn_rules.specs.IntegerSets.{unmarked}
use Rattle.asn_per.specs.Per.{per}
use Rattle.asn_per.proofs.Read.IntegerForms.{none_out, mark_stops, root_leads, outside_leads}
use Rattle.asn_plan.proofs.Bounds.{root_of_profile}
use Rattle.asn_per.proofs.integers.read_integer.Goals as goal

pub read_ranged-requires-else-outside-clause-some : goal.read_ranged-requires-else-outside-clause-some
read_ranged-requires-else-outside-clause-some c =
    let b = range_of c.args.bounds.now in
    spelt_inhabited per (integer (unmarked b.low b.high)) (root_of_profile b c.requires.of_profile)

pub returns-in_err-outside-clause-stop : goal.returns-in_err-outside-clause-stop
returns-in_err-outside-clause-stop c =
    let b = range_of c.args.bounds.now in
    let e = none_out b c.args.excluded c.requires.within c.if-not-bounds.false in
    let p = err_from_is_err_and c.from_residual.result c.from_residual.ensures.1 in
    rw (p.1, p.2, e) (mark_stops b c.requires.of_profile c.if-not-bounds.false c.args.bits.now _ c.in_err-outside.ensures.stop)

pub returns-else-outside-clause-done : goal.returns-else-outside-clause-done
returns-else-outside-clause-done c =
    let b = range_of c.args.bounds.now in
    let e = none_out b c.args.excluded c.requires.within c.if-not-bounds.false in
    let us = c.in_ok-outside.ensures.done.0 ∙ ap (λ (x : Bool). bit_of x ∷ c.read_extension_bit.new.bits) c.if-outside.false in
    let lead = root_leads b c.requires.of_profile c.if-not-bounds.false c.args.bits.now c.read_extension_bit.new.bits us in
    rw e (IfOk-weaker c.read_ranged-else-outside.result _ _ (λ z s. lead.done (number z) c.read_ranged-else-outside.new.bits s) c.read_ranged-else-outside.ensures.done)

pub returns-else-outside-clause-stop : goal.returns-else-outside-clause-stop
returns-else-outside-clause-stop c =
    let b = range_of c.args.bounds.now in
    let e = none_out b c.args.excluded c.requires.within c.if-not-bounds.false in
    let us = c.in_ok-outside.ensures.done.0 ∙ ap (λ (x : Bool). bit_of x ∷ c.read_extension_bit.new.bits) c.if-outside.false in
    let lead = root_leads b c.requires.of_profile c.if-not-bounds.false c.args.bits.now c.read_extension_bit.new.bits us in
    rw e (IfErr-weaker c.read_ranged-else-outside.result _ _ (λ why s. stops_by why lead.stops s) c.read_ranged-else-outside.ensures.stop)

pub returns-then-outside-clause-done : goal.returns-then-outside-clause-done
returns-then-outside-clause-done c =
    let b = range_of c.args.bounds.now in
    let e = none_out b c.args.excluded c.requires.within c.if-not-bounds.false in
    let us = c.in_ok-outside.ensures.done.0 ∙ ap (λ (x : Bool). bit_of x ∷ c.read_extension_bit.new.bits) c.if-outside.true in
    let lead = outside_leads b c.requires.of_profile c.if-not-bounds.false c.args.bits.now c.read_extension_bit.new.bits us in
    rw e (IfOk-weaker c.read_outside.result _ _ (λ z s. lead.done (number z) c.read_outside.new.bits s) c.read_outside.ensures.done)

pub returns-then-outside-clause-stop : goal.returns-then-outside-clause-stop
returns-then-outside-clause-stop c =
    let b = range_of c.args.bounds.now in
    let e = none_out b c.args.excluded c.requires.within c.if-not-bounds.false in
    let us = c.in_ok-outside.ensures.done.0 ∙ ap (λ (x : Bool). bit_of x ∷ c.read_extension_bit.new.bits) c.if-outside.true in
    let lead = outside_leads b c.requires.of_profile c.if-not-bounds.false c.args.bits.now c.read_extension_bit.new.bits us in
    rw e (IfErr-weaker c.read_outside.result _ _ (λ why s. stops_by why lead.stops s) c.read_outside.ensures.stop)
