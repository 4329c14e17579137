use Rattle.std.proofs.Common.{◌≡◌, ◌≢◌, ◌∙◌, ◌++◌, Some, None, map, sym, ap}
use Rattle.std.proofs.lemmas.Result.{IfOk-weaker, IfErr-weaker}
use Rattle.asn_values.specs.declared.value.Value.{Value}
use Rattle.asn_values.specs.LookUp.{added}
use Rattle.asn_values.specs.View.{shape_of, datum_of, label_of}
use Rattle.asn_view.specs.declared.fault.BuildFault.{BuildFault}
use Rattle.asn_view.specs.declared.fault.BuildFault.TheVariants as fault
use Rattle.asn_view.specs.Built.{item_of, item_given}
use Rattle.asn_view.proofs.Builds.{item_of_type}
use Rattle.asn_view.proofs.building.ValueByName.item.Goals as goal

pub returns-in-Enum-clause-value : goal.returns-in-Enum-clause-value
returns-in-Enum-clause-value c =
    let arm = c.in-Enum in
    let name = c.args.name.now in
    let whole = item_of_type c.args.ty.now name arm.root arm.ext arm.is
    ∙ ap (λ items. item_of name (map label_of (items ++ added arm.ext))) (sym c.deref.ensures.value) in
    IfOk-weaker c.item_of.result
    (λ (v : Value). item_of name (map label_of (c.deref.result.now ++ added arm.ext)) ≡ Some (datum_of v))
    (λ (v : Value). item_given (shape_of c.args.ty.now) name ≡ Some (datum_of v))
    (λ v h. whole ∙ h) c.item_of.ensures.value

pub returns-in-Enum-clause-none : goal.returns-in-Enum-clause-none
returns-in-Enum-clause-none c =
    let arm = c.in-Enum in
    let name = c.args.name.now in
    let whole = item_of_type c.args.ty.now name arm.root arm.ext arm.is
    ∙ ap (λ items. item_of name (map label_of (items ++ added arm.ext))) (sym c.deref.ensures.value) in
    IfErr-weaker c.item_of.result
    (λ (why : BuildFault). why ≢ fault.Memory → item_of name (map label_of (c.deref.result.now ++ added arm.ext)) ≡ None)
    (λ (why : BuildFault). why ≢ fault.Memory → item_given (shape_of c.args.ty.now) name ≡ None)
    (λ why h told. whole ∙ h told) c.item_of.ensures.none
