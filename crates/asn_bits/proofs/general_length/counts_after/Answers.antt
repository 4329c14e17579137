-- Each state has its range of counts.
use Rattle.std.proofs.Common.{◌≡◌, ap, subst, ◌∙◌, arith}
use Rattle.asn_bits.specs.LengthStates.{IsLengthState}
use Rattle.asn_bits.specs.declared.general_length.LengthState.{LengthState}
use Rattle.asn_bits.specs.declared.general_length.LengthState.TheVariants.{Number}
use Rattle.asn_bits.specs.declared.general_length.Form.TheVariants as form
use Rattle.asn_bits.proofs.FirstLengths.{prefix_room, exact_start, exact_one, exact_few, exact_many, exact_fragment}
use Rattle.asn_bits.proofs.general_length.counts_after.Goals as goal

pub fragments_with-requires-clause-few : goal.fragments_with-requires-clause-few
fragments_with-requires-clause-few c =
    let p = c.in-Number.prefix in
    let l = c.in-Number.left in
    let e : c.args.state ≡ Number form.Fragment p l = c.in-Number.is ∙ ap (λ f. Number f p l) c.in-Fragment.is in
    let i : IsLengthState (Number form.Fragment p l) = subst (λ (z : LengthState). IsLengthState z) e c.requires in
    omega (arith, prefix_room 6 l p i.0 i.1, c.scaled-high.ensures)

pub returns-in-Start-clause-exact : goal.returns-in-Start-clause-exact
returns-in-Start-clause-exact c = exact_start c.args.state c.in-Start.is c.requires

pub returns-in-FirstBitSet-clause-exact : goal.returns-in-FirstBitSet-clause-exact
returns-in-FirstBitSet-clause-exact c = exact_one c.args.state c.in-FirstBitSet.is c.requires

pub returns-in-Short-clause-exact : goal.returns-in-Short-clause-exact
returns-in-Short-clause-exact c =
    let p = c.in-Number.prefix in
    let l = c.in-Number.left in
    exact_few c.args.state p l c.scaled-low.result c.scaled-high.result (c.in-Number.is ∙ ap (λ f. Number f p l) c.in-Short.is) c.requires c.scaled-low.ensures c.scaled-high.ensures

pub returns-in-Long-clause-exact : goal.returns-in-Long-clause-exact
returns-in-Long-clause-exact c =
    let p = c.in-Number.prefix in
    let l = c.in-Number.left in
    exact_many c.args.state p l c.max.result c.scaled-high.result (c.in-Number.is ∙ ap (λ f. Number f p l) c.in-Long.is) c.requires (omega arith) c.scaled-high.ensures

pub returns-in-Fragment-clause-exact : goal.returns-in-Fragment-clause-exact
returns-in-Fragment-clause-exact c =
    let p = c.in-Number.prefix in
    let l = c.in-Number.left in
    exact_fragment c.args.state p l c.scaled-low.result c.scaled-high.result (c.in-Number.is ∙ ap (λ f. Number f p l) c.in-Fragment.is) c.requires c.scaled-low.ensures c.scaled-high.ensures c.fragments_with.ensures.exact
