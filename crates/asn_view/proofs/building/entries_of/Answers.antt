use Rattle.std.proofs.Common.{◌≡◌, ◌≢◌, ◌∙◌, ◌++◌, Some, None, Option, Vec, Global, ap}
use Rattle.std.proofs.lemmas.Result.{err_from_is_err_and, IfOk-weaker, IfErr-weaker}
use Rattle.asn_values.specs.declared.value.Value.{Value}
use Rattle.asn_values.specs.LookUp.{added}
use Rattle.asn_values.specs.View.{entries_seen}
use Rattle.asn_view.specs.declared.fault.BuildFault.{BuildFault}
use Rattle.asn_view.specs.declared.fault.BuildFault.TheVariants as fault
use Rattle.asn_view.specs.Built.{after, entries_given}
use Rattle.asn_view.specs.Seen.{parts_seen}
use Rattle.asn_view.proofs.Builds.{after_nothing, entries_of_both, none_of_both}
use Rattle.asn_view.proofs.building.entries_of.Goals as goal

pub returns-in_err-first-clause-none : goal.returns-in_err-first-clause-none
returns-in_err-first-clause-none c =
    let p = err_from_is_err_and c.from_residual.result c.from_residual.ensures.1 in
    rw (p.1, p.2) (λ told. none_of_both c.args.parts.now c.args.root.now (added c.args.ext.now) (c.in_err-first.ensures.none told))

pub returns-in-Some-clause-entries : goal.returns-in-Some-clause-entries
returns-in-Some-clause-entries c =
    let gs = c.args.parts.now in
    let root = c.args.root.now in
    let first = entries_seen c.in_ok-first.first.items in
    let entries : entries_given (parts_seen root) gs ≡ Some first =
    after_nothing (entries_seen c.new.result.items) (entries_given (parts_seen root) gs) (ap entries_seen c.new.ensures.items) ∙ c.in_ok-first.ensures.entries in
    let both = entries_of_both gs root c.args.ext.now c.in-Some.more c.deref.result.now first c.in-Some.is c.deref.ensures.value entries in
    IfOk-weaker c.push_entries-in-Some.result
    (λ (es : Vec (Option Value) Global). after first (entries_given (parts_seen c.deref.result.now) gs) ≡ Some (entries_seen es.items))
    (λ (es : Vec (Option Value) Global). entries_given (parts_seen (root ++ added c.args.ext.now)) gs ≡ Some (entries_seen es.items))
    (λ es h. both ∙ h) c.push_entries-in-Some.ensures.entries

pub returns-in-Some-clause-none : goal.returns-in-Some-clause-none
returns-in-Some-clause-none c =
    let gs = c.args.parts.now in
    let root = c.args.root.now in
    let first = entries_seen c.in_ok-first.first.items in
    let entries : entries_given (parts_seen root) gs ≡ Some first =
    after_nothing (entries_seen c.new.result.items) (entries_given (parts_seen root) gs) (ap entries_seen c.new.ensures.items) ∙ c.in_ok-first.ensures.entries in
    let both = entries_of_both gs root c.args.ext.now c.in-Some.more c.deref.result.now first c.in-Some.is c.deref.ensures.value entries in
    IfErr-weaker c.push_entries-in-Some.result
    (λ (why : BuildFault). why ≢ fault.Memory → entries_given (parts_seen c.deref.result.now) gs ≡ None)
    (λ (why : BuildFault). why ≢ fault.Memory → entries_given (parts_seen (root ++ added c.args.ext.now)) gs ≡ None)
    (λ why h told. both ∙ ap (after first) (h told)) c.push_entries-in-Some.ensures.none
