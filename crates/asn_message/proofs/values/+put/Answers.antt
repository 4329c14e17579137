use Rattle.std.proofs.Common.{◌≡◌, ◌+◌, ◌++◌, ◌∷◌, [], map, take, pos, refl, sym, ap, subst, ◌∙◌}
use Rattle.std.proofs.lemmas.List.{map_more}
use Rattle.asn_values.specs.Datum.{alternative}
use Rattle.asn_values.specs.View.{datum_of}
use Rattle.asn_values.proofs.Views.{datum_of-Choice}
use Rattle.asn_message.specs.declared.slots.Content.TheVariants as content
use Rattle.asn_message.specs.Building.{AreElements}
use Rattle.asn_message.proofs.Filled.{begun, choice_put, of_same}
use Rattle.asn_message.proofs.values.+put.Goals as goal

pub put-returns-in_ok-put-in-Choice : goal.put-returns-in_ok-put-in-Choice
put-returns-in_ok-put-in-Choice t c some =
    let p = c.in_ok-begun-in-Choice.ensures in
    let q = c.close.ensures in
    let b = begun c.args.room.now c.begin.new.self (content.Number (pos 0)) _ p.octets (p.slots refl) p.at in
    let whole = choice_put c.args.room.now c.begin.new.self c.put.new.room c.close.new.self _ c.in-Choice.tag (datum_of c.deref.result.now) b (p.absent refl) (c.in_ok-put-in-Choice.ensures refl) q.octets q.absent (q.slots some) in
    of_same _ _ _ _ (ap datum_of c.in-Choice.is ∙ datum_of-Choice c.in-Choice.tag c.in-Choice.chosen ∙ ap (λ v. alternative c.in-Choice.tag (datum_of v)) (sym c.deref.ensures)) whole

pub put_elements-loop-element-preserved : goal.put_elements-loop-element-preserved
put_elements-loop-element-preserved t c =
    let xs = c.deref-element-items.result.now in
    let i = c.loop-element.element-index in
    let x = c.element-item.result in
    let all = c.in_ok-element.ensures refl c.args.room.now c.loop-element.room (map datum_of (take i xs)) (datum_of x) c.loop-element.invariant (c.in_ok-put.ensures refl) in
    let more : map datum_of (take (i + 1) xs) ≡ map datum_of (take i xs) ++ datum_of x ∷ [] = map_more datum_of xs i x c.loop-element-test.true ∙ ap (λ y. map datum_of (take i xs) ++ datum_of y ∷ []) (sym c.element-item.is) in
    subst (λ ds. AreElements c.args.room.now c.element.new._room c.element.new.row ds) (sym more) all
