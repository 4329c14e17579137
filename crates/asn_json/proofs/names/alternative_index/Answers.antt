use Rattle.std.proofs.Common.{◌∙◌, ◌≤◌, ◌++◌, length, ap}
use Rattle.asn_values.specs.Profile.{most_alternatives}
use Rattle.asn_values.specs.LookUp.{added}
use Rattle.asn_view.specs.Names.{index_of}
use Rattle.asn_json.proofs.NameIndexes.{alternatives_named, all_alternatives, below}
use Rattle.asn_json.proofs.names.alternative_index.Goals as goal

pub returns-clause-index : goal.returns-clause-index
returns-clause-index c = c.alternative_index.ensures.index ∙ ap (index_of c.args.name.now) (alternatives_named c.args.root.now c.args.ext.now)

pub returns-clause-inside : goal.returns-clause-inside
returns-clause-inside c =
    let all = c.args.root.now ++ added c.args.ext.now in
    let few : length all ≤ most_alternatives = rw (all_alternatives c.args.root.now c.args.ext.now) c.requires.few in
    below c.alternative_index.result (length all) most_alternatives few c.alternative_index.ensures.inside
