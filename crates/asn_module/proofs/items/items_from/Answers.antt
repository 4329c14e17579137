use Rattle.std.proofs.Common.{◌≡◌, ◌<◌, ◌+◌, ℕ, Bool, List, [], ◌∷◌, ◌++◌, map, length, drop, get_or, suc, arith, append_assoc, rules}
use Rattle.std.proofs.lemmas.List.{map_push, drop_more}
use Rattle.std.specs.Prelude.{string_bytes}
use Rattle.asn_values.specs.declared.types.Item.{Item}
use Rattle.asn_values.specs.Shape.{Label}
use Rattle.asn_values.specs.View.{label_of}
use Rattle.asn_notation.specs.declared.notation.ItemNotation.{ItemNotation}
use Rattle.asn_notation.specs.Tree.{items_view}
use Rattle.asn_module.specs.Meaning.{item_number, labels_from}
use Rattle.asn_module.proofs.items.items_from.Goals as goal

one_more : (numbered : Bool) (start i : ℕ) (all after : List Item) (new : Item) (items : List ItemNotation) (d : ItemNotation) (labels : List Label)
    → i < length items → after ≡ all ++ new ∷ [] → string_bytes new.name ≡ (get_or items i d).name.now → new.number ≡ item_number numbered (start + i) (get_or items i d).number
    → map label_of all ++ labels_from numbered (start + i) (items_view (drop i items)) ≡ labels
    → map label_of after ++ labels_from numbered (start + (i + 1)) (items_view (drop (i + 1) items)) ≡ labels
one_more numbered start i all after new items d labels less pushed named counted h =
    let split : drop i items ≡ get_or items i d ∷ drop (i + 1) items = drop_more items i d less in
    let next : start + (i + 1) ≡ suc (start + i) = omega arith in
    rw (pushed, map_push, append_assoc, next, named, counted) (rw split at h)

pub loop-index-preserved : goal.loop-index-preserved
loop-index-preserved c =
    let l = c.loop-index in
    one_more c.args.numbered c.args.start l.index l.all.items c.push.new.self.items _ c.args.items.now _ _
    c.loop-index-test.true c.in_ok-push.ensures.items c.in_ok-name.ensures.ok (search (rules, c.item_number-number.ensures)) l.invariant
