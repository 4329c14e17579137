use Rattle.std.proofs.Common.{sym, ◌∙◌}
use Rattle.std.proofs.lemmas.Result.{IfOk-weaker, IfErr-weaker}
use Rattle.asn_values.specs.View.{size_range_of}
use Rattle.asn_bits.specs.Numbers.{packed}
use Rattle.asn_rules.proofs.Languages.Leads.{stops_by}
use Rattle.asn_oer.proofs.Read.BitReading.{counts_few, fixed_leads, variable_leads}
use Rattle.asn_oer.proofs.string_reader.read_bit_string.Goals as goal

pub returns-then-is_fixed-clause-done : goal.returns-then-is_fixed-clause-done
returns-then-is_fixed-clause-done c =
    let l = fixed_leads (size_range_of c.args.size.now) c.requires.of_profile.small (sym c.is_fixed.ensures ∙ c.if-is_fixed.true) (packed c.args.units.now) in
    IfOk-weaker c.read_packed.result _ _ (λ bs h. l.done bs.items (packed c.read_packed.new.units) h) c.read_packed.ensures.done

pub returns-then-is_fixed-clause-stop : goal.returns-then-is_fixed-clause-stop
returns-then-is_fixed-clause-stop c =
    let l = fixed_leads (size_range_of c.args.size.now) c.requires.of_profile.small (sym c.is_fixed.ensures ∙ c.if-is_fixed.true) (packed c.args.units.now) in
    IfErr-weaker c.read_packed.result _ _ (λ why h. stops_by why l.stops h) c.read_packed.ensures.stop

pub read_variable-requires-clause-few : goal.read_variable-requires-clause-few
read_variable-requires-clause-few c =
    (counts_few (size_range_of c.args.size.now) c.requires.of_profile.small c.counts_of-counts.result c.counts_of-counts.ensures.are).1

pub returns-clause-done : goal.returns-clause-done
returns-clause-done c =
    let l = variable_leads (size_range_of c.args.size.now) c.requires.of_profile.small c.counts_of-counts.result c.counts_of-counts.ensures.are (sym c.is_fixed.ensures ∙ c.if-is_fixed.false) (packed c.args.units.now) in
    IfOk-weaker c.read_variable.result _ _ (λ bs h. l.done bs.items (packed c.read_variable.new.units) h) c.read_variable.ensures.done

pub returns-clause-stop : goal.returns-clause-stop
returns-clause-stop c =
    let l = variable_leads (size_range_of c.args.size.now) c.requires.of_profile.small c.counts_of-counts.result c.counts_of-counts.ensures.are (sym c.is_fixed.ensures ∙ c.if-is_fixed.false) (packed c.args.units.now) in
    IfErr-weaker c.read_variable.result _ _ (λ why h. stops_by why l.stops h) c.read_variable.ensures.stop
