use Rattle.std.proofs.Common.{◌≡◌, ◌∙◌, Some, option_map, ap, sym}
use Rattle.serde_json.specs.Find.{as_str}
use Rattle.serde_json.specs.View.{view}
use Rattle.asn_values.specs.Datum.{item}
use Rattle.asn_view.specs.Names.{index_of}
use Rattle.asn_view.proofs.PartLists.{datum_of-Enum}
use Rattle.asn_json.proofs.NameIndexes.{items_named}
use Rattle.asn_json.proofs.leaf_readers.item_shown.Goals as goal

pub returns-in_err-index : goal.returns-in_err-index
returns-in_err-index c =
    let name = c.in_ok-as_str.field-0.now in
    let text : as_str (view c.args.json.now) ≡ Some name = sym c.in_ok-as_str.ensures in
    rw (c.from_residual-in_err-index.ensures, text)
    (ap (option_map item) (c.in_err-index.ensures.index ∙ ap (index_of name) (items_named c.args.root.now c.args.ext.now)))

pub returns : goal.returns
returns c =
    let name = c.in_ok-as_str.field-0.now in
    let text : as_str (view c.args.json.now) ≡ Some name = sym c.in_ok-as_str.ensures in
    rw text
    (ap (λ d. Some d) (datum_of-Enum c.in_ok-index.index)
    ∙ ap (option_map item) (c.in_ok-index.ensures.index ∙ ap (index_of name) (items_named c.args.root.now c.args.ext.now)))
