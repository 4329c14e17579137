use Rattle.std.proofs.Common.{◌≡◌, ◌≤◌, ◌+◌, drop}
use Rattle.asn_notation.specs.Tree.{components_of, parts_view, alternatives_of, branches_view}
use Rattle.asn_module.specs.Counting.{capped, components_weight, alternatives_weight}
use Rattle.asn_module.specs.Known.{look}
use Rattle.asn_module.proofs.counting.+counting.Given as goal

abbrev pub invariant-count_components-loop-component : goal.invariant-count_components-loop-component
invariant-count_components-loop-component l = record {
  few : l.total ≤ 100001;
  counted : capped (l.total + components_weight (look l.names) (components_of (parts_view (drop l.component-index l.components)))) ≡ capped (components_weight (look l.names) (components_of (parts_view l.components)));
}

abbrev pub invariant-count_branches-loop-alternative : goal.invariant-count_branches-loop-alternative
invariant-count_branches-loop-alternative l = record {
  few : l.total ≤ 100001;
  counted : capped (l.total + alternatives_weight (look l.names) (alternatives_of (branches_view (drop l.alternative-index l.alternatives)))) ≡ capped (alternatives_weight (look l.names) (alternatives_of (branches_view l.alternatives)));
}
