use Rattle.std.proofs.Common.{◌∙◌, ◌++◌, is_some, bytes_eq, ap}
use Rattle.std.specs.List.{list_any}
use Rattle.asn_values.specs.LookUp.{added}
use Rattle.asn_view.specs.Names.{component_names}
use Rattle.asn_json.proofs.NameIndexes.{components_named, is_among}
use Rattle.asn_json.proofs.names.is_component.Goals as goal

pub returns : goal.returns
returns c =
    let name = c.args.name.now in
    let root = c.args.root.now in
    let ext = c.args.ext.now in
    c.is_some.ensures ∙ ap is_some c.component_index.ensures.index
    ∙ is_among name (component_names (root ++ added ext)) ∙ ap (list_any (bytes_eq name)) (components_named root ext)
