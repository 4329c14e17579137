use Rattle.std.proofs.Common.{◌≡◌, map, drop, Some}
use Rattle.asn_values.specs.View.{part_of_field, branch_of}
use Rattle.asn_notation.specs.Tree.{parts_view, components_of, branches_view, alternatives_of}
use Rattle.asn_module.specs.Known.{look}
use Rattle.asn_module.specs.Meaning.{◌>>=◌, fields_meant, alternatives_meant}
use Rattle.asn_module.proofs.Lists.{before_fields, before_alternatives}
use Rattle.asn_module.proofs.building.+building.Given as goal

abbrev pub invariant-build_fields-loop-component : goal.invariant-build_fields-loop-component
invariant-build_fields-loop-component l =
    fields_meant (look l.names) (components_of (parts_view l.components))
    ≡ (fields_meant (look l.names) (components_of (parts_view (drop l.component-index l.components))) >>= (λ fs. Some (before_fields (map part_of_field l.fields.items) fs)))

abbrev pub invariant-build_alternatives-loop-alternative : goal.invariant-build_alternatives-loop-alternative
invariant-build_alternatives-loop-alternative l =
    alternatives_meant (look l.names) (alternatives_of (branches_view l.alternatives))
    ≡ (alternatives_meant (look l.names) (alternatives_of (branches_view (drop l.alternative-index l.alternatives))) >>= (λ xs. Some (before_alternatives (map branch_of l.built.items) xs)))
