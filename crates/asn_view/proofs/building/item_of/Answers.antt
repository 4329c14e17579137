use Rattle.std.proofs.Common.{◌∙◌, ◌++◌, Some, option_map, sym, ap}
use Rattle.asn_values.specs.Datum.{item}
use Rattle.asn_values.specs.LookUp.{added}
use Rattle.asn_view.proofs.PartLists.{datum_of-Enum}
use Rattle.asn_view.proofs.Builds.{item_by_index}
use Rattle.asn_view.proofs.building.item_of.Goals as goal

pub returns-in_ok-index_in_32_bits-in-Some-clause-value : goal.returns-in_ok-index_in_32_bits-in-Some-clause-value
returns-in_ok-index_in_32_bits-in-Some-clause-value c =
    item_by_index c.args.name.now (c.args.root.now ++ added c.args.ext.now)
    ∙ ap (option_map item) (sym c.in-Some.ensures.index)
    ∙ ap (λ i. Some (item i)) (sym c.in_ok-index_in_32_bits-in-Some.ensures.same)
    ∙ ap (λ d. Some d) (sym (datum_of-Enum c.in_ok-index_in_32_bits-in-Some.field-0))

pub returns-in-None-clause-none : goal.returns-in-None-clause-none
returns-in-None-clause-none c =
    λ _. item_by_index c.args.name.now (c.args.root.now ++ added c.args.ext.now) ∙ ap (option_map item) (sym c.in-None.ensures.index)
