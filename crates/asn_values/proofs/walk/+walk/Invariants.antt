use Rattle.std.proofs.Common.{map, drop}
use Rattle.asn_values.specs.View.{shape_of}
use Rattle.asn_values.proofs.Walks.{IsWalkedTo}
use Rattle.asn_values.proofs.walk.+walk.Given as goal

abbrev pub invariant-check_fields-loop-field : goal.invariant-check_fields-loop-field
invariant-check_fields-loop-field l =
    IsWalkedTo l.levels l.start l.left (map (λ f. shape_of f.ty) l.fields) (map (λ f. shape_of f.ty) (drop l.field-index l.fields))

abbrev pub invariant-check_alternatives-loop-alternative : goal.invariant-check_alternatives-loop-alternative
invariant-check_alternatives-loop-alternative l =
    IsWalkedTo l.levels l.start l.left (map (λ a. shape_of a.ty) l.alternatives) (map (λ a. shape_of a.ty) (drop l.alternative-index l.alternatives))
