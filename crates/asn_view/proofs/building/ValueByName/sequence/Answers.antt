use Rattle.std.proofs.Common.{◌∙◌, ◌++◌, Some, option_map, sym, ap}
use Rattle.std.proofs.lemmas.Result.{err_from_is_err_and}
use Rattle.asn_values.specs.LookUp.{added}
use Rattle.asn_values.proofs.Views.{datum_of-Seq}
use Rattle.asn_view.specs.Built.{entries_given, of_entries}
use Rattle.asn_view.specs.Seen.{parts_seen}
use Rattle.asn_view.proofs.Builds.{sequence_of_parts}
use Rattle.asn_view.proofs.building.ValueByName.sequence.Goals as goal

pub returns-in_err-entries_of-in-Seq-clause-none : goal.returns-in_err-entries_of-in-Seq-clause-none
returns-in_err-entries_of-in-Seq-clause-none c =
    let arm = c.in-Seq in
    let gs = c.args.parts.now in
    let p = err_from_is_err_and c.from_residual-in_err-entries_of-in-Seq.result c.from_residual-in_err-entries_of-in-Seq.ensures.1 in
    rw (p.1, p.2)
    (λ told.
    sequence_of_parts c.args.ty.now gs arm.root arm.ext arm.is c.in_ok-check_names.ensures.good
    ∙ ap (λ fs. option_map of_entries (entries_given (parts_seen (fs ++ added arm.ext)) gs)) (sym c.deref.ensures.value)
    ∙ ap (option_map of_entries) (c.in_err-entries_of-in-Seq.ensures.none told))

pub returns-in_ok-entries_of-in-Seq-clause-value : goal.returns-in_ok-entries_of-in-Seq-clause-value
returns-in_ok-entries_of-in-Seq-clause-value c =
    let arm = c.in-Seq in
    let gs = c.args.parts.now in
    sequence_of_parts c.args.ty.now gs arm.root arm.ext arm.is c.in_ok-check_names.ensures.good
    ∙ ap (λ fs. option_map of_entries (entries_given (parts_seen (fs ++ added arm.ext)) gs)) (sym c.deref.ensures.value)
    ∙ ap (option_map of_entries) c.in_ok-entries_of-in-Seq.ensures.entries
    ∙ ap (λ d. Some d) (sym (datum_of-Seq c.in_ok-entries_of-in-Seq.field-0))
