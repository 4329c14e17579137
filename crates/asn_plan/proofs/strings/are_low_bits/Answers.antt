use Rattle.std.proofs.Common.{◌≡◌, ◌∙◌, ap, not, rules}
use Rattle.std.specs.Cmp.{booleans_Decides}
use Rattle.std.proofs.lemmas.Slice.Eq.{slice_eq-Decides}
use Rattle.asn_plan.proofs.strings.are_low_bits.Goals as goal

pub returns : goal.returns
returns c = λ e.
    let same : c.fill_bits.new.into ≡ c.args.those.now = c.fill_bits.ensures (c.is_none.ensures ∙ ap not c.if-is_none.false) c.args.those.now (search rules) in
    (slice_eq-Decides booleans_Decides c.fill_bits.new.into c.args.those.now c.eq.result c.eq.ensures).1 same
