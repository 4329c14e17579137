use Rattle.std.proofs.Common.{rules, ◌≡◌, ◌+◌, ◌<◌, length, Some, option_map, arith, sym, ap, ◌∙◌}
use Rattle.std.proofs.lemmas.Option.{same_Some}
use Rattle.asn_values.specs.View.{datum_of}
use Rattle.asn_plan.proofs.Placing.{element_before, found_there}
use Rattle.asn_plan.proofs.reused.ElementsOver.go_on.Goals as goal

pub returns-in-Some-clause-made : goal.returns-in-Some-clause-made
returns-in-Some-clause-made c some d there =
    let row = c.args.self.now in
    let p = c.args.room.now.here in
    let next : row.count + 1 < length row.items.items = search (rules, arith) in
    let inside : p.at < length p.items.items = search (rules, arith) in
    let found = found_there p.items.items p.at c.index_mut.result.now (Some d) inside there c.index_mut.ensures.value in
    let here : datum_of c.in-Some.place ≡ d = same_Some (datum_of c.in-Some.place) d (sym (ap (option_map datum_of) c.in-Some.is) ∙ found) in
    let value : datum_of c.put_over.new.place ≡ d = c.put_over.ensures ∙ ap datum_of c.replace-element.ensures.value ∙ here in
    element_before row.items.items row.count c.replace-next.new.dest c.put_over.new.place d next value
