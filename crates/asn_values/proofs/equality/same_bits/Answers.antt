use Rattle.std.specs.Cmp.{booleans_Decides}
use Rattle.std.proofs.lemmas.Slice.Eq.{slice_eq-Decides}
use Rattle.asn_values.proofs.equality.same_bits.Goals as goal

pub returns : goal.returns
returns c = slice_eq-Decides booleans_Decides c.args.left.now c.args.right.now c.eq.result c.eq.ensures
