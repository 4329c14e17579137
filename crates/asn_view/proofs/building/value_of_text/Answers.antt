use Rattle.std.proofs.Common.{◌≡◌, ◌≢◌, ◌∙◌, Some, None}
use Rattle.std.proofs.lemmas.Result.{IfOk-weaker, IfErr-weaker}
use Rattle.asn_values.specs.declared.value.Value.{Value}
use Rattle.asn_values.specs.View.{shape_of, datum_of}
use Rattle.asn_view.specs.declared.fault.BuildFault.{BuildFault}
use Rattle.asn_view.specs.declared.fault.BuildFault.TheVariants as fault
use Rattle.asn_view.specs.Built.{item_given, text_given}
use Rattle.asn_view.proofs.Builds.{text_of_item}
use Rattle.asn_view.proofs.building.value_of_text.Goals as goal

pub returns-in-Enum-clause-value : goal.returns-in-Enum-clause-value
returns-in-Enum-clause-value c =
    let same = text_of_item c.args.ty.now c.args.text.now c.in-Enum.root c.in-Enum.ext c.in-Enum.is in
    IfOk-weaker c.item.result
    (λ (v : Value). item_given (shape_of c.args.ty.now) c.args.text.now ≡ Some (datum_of v))
    (λ (v : Value). text_given (shape_of c.args.ty.now) c.args.text.now ≡ Some (datum_of v))
    (λ v h. same ∙ h) c.item.ensures.value

pub returns-in-Enum-clause-none : goal.returns-in-Enum-clause-none
returns-in-Enum-clause-none c =
    let same = text_of_item c.args.ty.now c.args.text.now c.in-Enum.root c.in-Enum.ext c.in-Enum.is in
    IfErr-weaker c.item.result
    (λ (why : BuildFault). why ≢ fault.Memory → item_given (shape_of c.args.ty.now) c.args.text.now ≡ None)
    (λ (why : BuildFault). why ≢ fault.Memory → text_given (shape_of c.args.ty.now) c.args.text.now ≡ None)
    (λ why h told. same ∙ h told) c.item.ensures.none
