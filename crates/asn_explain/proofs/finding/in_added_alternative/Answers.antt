use Rattle.std.proofs.Common.{subst, sym}
use Rattle.asn_values.specs.declared.types.Alt.{Alt}
use Rattle.asn_values.specs.Profile.{InProfile}
use Rattle.asn_values.specs.View.{shape_of}
use Rattle.asn_walk.proofs.Parts.{good_at}
use Rattle.asn_explain.proofs.finding.in_added_alternative.Goals as goal

pub in_open_field-requires-clause-of_profile : goal.in_open_field-requires-clause-of_profile
in_open_field-requires-clause-of_profile g c = subst (λ (a : Alt). InProfile (shape_of a.ty)) (sym c.index-added-index.is) (good_at c.args.added.now c.args.index c.index-added-index.result c.requires.of_profile c.requires.inside)
