use Rattle.std.proofs.Common.{◌≡◌, ◌<◌, ◌-◌, ◌∙◌, inl, inr, ℕ, map, length, get_or, refl, sym, ap, arith}
use Rattle.std.proofs.lemmas.List.{length-map}
use mir.Syntax.{w64}
use mir.Val.{to_z, of_z}
use Rattle.asn_values.specs.View.{label_of, more_labels_of}
use Rattle.asn_rules.specs.Components.{number_at}
use Rattle.asn_walk.specs.Views.{index_seen}
use Rattle.asn_per.specs.Per.{rank}
use Rattle.asn_per.proofs.Law.Enumerations.{rank_inside}
use Rattle.asn_per.proofs.Write.IndexBits.{same_index_bits}
use Rattle.asn_plan.proofs.RootItems.{item_kept, root_items, mark_there}
use Rattle.asn_per.proofs.Write.ItemBits.{bits_of_root_item, bits_of_addition, addition_there}
use Rattle.asn_per.proofs.items.write_item.Goals as goal
use Rattle.asn_per.proofs.items.write_item.Goals.{then-position-root, else-position-root}

pub write_index-requires-clause-few : goal.write_index-requires-clause-few
write_index-requires-clause-few g c = simp length-map at (root_items (map label_of c.args.root.now) (more_labels_of c.args.more.now) c.requires.of_profile).few

pub write_index-requires-clause-within : goal.write_index-requires-clause-within
write_index-requires-clause-within g c =
    let ls = map label_of c.args.root.now in
    let same : length ls ≡ length c.args.root.now = simp length-map in
    elim c.if-position-root.branch [
      | then-position-root w ↦ (
          let d = w.index-root-position.result in
          let good = root_items ls (more_labels_of c.args.more.now) c.requires.of_profile in
          let here : to_z w64 (of_z w64 (get_or c.args.root.now c.args.position d).number) ≡ number_at ls c.args.position = item_kept c.args.root.now c.args.position d (get_or c.args.root.now c.args.position d) good w.if-position-root.true refl in
          let index : w.rank.result ≡ rank ls (number_at ls c.args.position) = w.rank.ensures ∙ ap (rank ls) here in
          let inside : rank ls (number_at ls c.args.position) < length ls = rank_inside ls c.args.position (simp length-map w.if-position-root.true) in
          rw w.index-is (omega (arith, index, inside, same))
          )
      | else-position-root w ↦ rw w.index-is (addition_there c.args.root.now c.args.more.now c.args.position c.requires.of_profile c.requires.of_type w.if-position-root.false).0
    ]

pub returns : goal.returns
returns g c =
    let ls = map label_of c.args.root.now in
    let more = more_labels_of c.args.more.now in
    let same : length c.args.root.now ≡ length ls = simp length-map in
    let mark = c.is_some.ensures ∙ mark_there c.args.more.now in
    elim c.if-position-root.branch [
      | then-position-root w ↦ (
          let d = w.index-root-position.result in
          let good = root_items ls more c.requires.of_profile in
          let here : to_z w64 (of_z w64 (get_or c.args.root.now c.args.position d).number) ≡ number_at ls c.args.position = item_kept c.args.root.now c.args.position d (get_or c.args.root.now c.args.position d) good w.if-position-root.true refl in
          let index : index_seen c.if-position-root.index ≡ inl (rank ls (number_at ls c.args.position)) = ap index_seen w.index-is ∙ ap inl (w.rank.ensures ∙ ap (rank ls) here) in
          rw (bits_of_root_item ls more c.args.position (simp length-map w.if-position-root.true) ∙ same_index_bits (sym same) (sym mark) (sym index)) c.write_index.ensures
          )
      | else-position-root w ↦ (
          let there = addition_there c.args.root.now c.args.more.now c.args.position c.requires.of_profile c.requires.of_type w.if-position-root.false in
          let index : index_seen c.if-position-root.index ≡ inr (c.args.position - length ls) = ap index_seen w.index-is ∙ ap (λ (n : ℕ). inr (c.args.position - n)) same in
          rw (bits_of_addition ls more c.args.position (simp length-map w.if-position-root.false) there.1 ∙ same_index_bits (sym same) (sym mark) (sym index)) c.write_index.ensures
          )
    ]
