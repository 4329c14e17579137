use Rattle.std.proofs.Common.{subst, sym}
use Rattle.asn_values.specs.declared.types.Alt.{Alt}
use Rattle.asn_values.specs.Profile.{InProfile}
use Rattle.asn_values.specs.View.{shape_of}
use Rattle.asn_walk.proofs.Parts.{good_at}
use Rattle.asn_explain.proofs.finding.in_alternative.Goals as goal

pub stops_in-requires-clause-of_profile : goal.stops_in-requires-clause-of_profile
stops_in-requires-clause-of_profile g c = subst (λ (a : Alt). InProfile (shape_of a.ty)) (sym c.index-root-index.is) (good_at c.args.root.now c.args.index c.index-root-index.result c.requires.of_profile c.requires.inside)

pub returns-then-branch-clause-good : goal.returns-then-branch-clause-good
returns-then-branch-clause-good g c = subst (λ (a : Alt). InProfile (shape_of a.ty)) (sym c.index-root-index.is) (good_at c.args.root.now c.args.index c.index-root-index.result c.requires.of_profile c.requires.inside)
