use Rattle.std.proofs.Common.{◌≡◌, refl, get_or, ◌<◌, map, length, Some, sym, ap, ◌∙◌}
use Rattle.std.proofs.lemmas.List.{length-map}
use mir.Syntax.{w64}
use mir.Val.{to_z, of_z}
use Rattle.asn_values.specs.View.{label_of}
use Rattle.asn_rules.specs.Components.{number_at}
use Rattle.asn_per.specs.Kinds.{IsRootPosition}
use Rattle.asn_per.specs.Per.{rank}
use Rattle.asn_per.specs.Indexes.{index_of}
use Rattle.asn_plan.proofs.RootItems.{item_kept}
use Rattle.asn_per.proofs.items.excluded_index.Goals as goal

pub returns-in-Some : goal.returns-in-Some
returns-in-Some c =
    let ls = map label_of c.args.root.now in
    let p = c.in-Some.position in
    let d = c.index-root-position.result in
    let x = get_or c.args.root.now p d in
    let within : IsRootPosition ls (Some p) = rw c.in-Some.is at c.requires.within in
    let inside : p < length c.args.root.now = simp length-map at within in
    let here : to_z w64 (of_z w64 x.number) ≡ number_at ls p = item_kept c.args.root.now p d x c.requires.good inside refl in
    ap Some (c.rank.ensures ∙ ap (rank ls) here) ∙ ap (index_of ls) (sym c.in-Some.is)
