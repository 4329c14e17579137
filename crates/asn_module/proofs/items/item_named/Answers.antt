use Rattle.std.proofs.Common.{◌≡◌, ◌∙◌, true, false, Some, None, append-nil, nat_lt, rules, arith, ap, sym}
use Rattle.std.specs.Prelude.{if◌then◌else◌}
use Rattle.std.proofs.lemmas.Bool.{le-ltb, lt-ltb}
use Rattle.asn_values.specs.declared.value.Value.{Null, the_lemmas}
use Rattle.asn_values.specs.Datum.{nothing, item}
use Rattle.asn_values.specs.View.{datum_of}
use Rattle.asn_view.specs.Names.{index_of, item_names}
use Rattle.asn_view.proofs.PartLists.{datum_of-Enum}
use Rattle.asn_module.proofs.ItemIndexes.{item_if, named}
use Rattle.asn_module.proofs.items.item_named.Goals as goal

pub returns-in-Ok : goal.returns-in-Ok
returns-in-Ok c =
    let items = c.args.items.now in
    let name = c.args.name.now in
    let i = c.in-Ok.index in
    let same : i ≡ c.in-Some.index = first_of (search rules, grind arith) in
    let found : Some i ≡ index_of name (item_names items) = rw same (rw append-nil at c.in-Some.ensures.index) in
    let few : nat_lt i 4294967296 ≡ true = lt-ltb i 4294967296 (first_of (search rules, grind arith)) in
    datum_of-Enum i ∙ sym (named name items ∙ ap item_if (sym found) ∙ ap (λ b. if b then item i else nothing) few)

pub returns-in-Err : goal.returns-in-Err
returns-in-Err c =
    let items = c.args.items.now in
    let name = c.args.name.now in
    let i = c.in-Some.index in
    let found : Some i ≡ index_of name (item_names items) = rw append-nil at c.in-Some.ensures.index in
    let many : nat_lt i 4294967296 ≡ false = le-ltb i 4294967296 (first_of (search rules, grind arith)) in
    let none : datum_of Null ≡ nothing = search (rules, the_lemmas) in
    none ∙ sym (named name items ∙ ap item_if (sym found) ∙ ap (λ b. if b then item i else nothing) many)

pub returns-in-None : goal.returns-in-None
returns-in-None c =
    let items = c.args.items.now in
    let name = c.args.name.now in
    let found : None ≡ index_of name (item_names items) = rw append-nil at c.in-None.ensures.index in
    let none : datum_of Null ≡ nothing = search (rules, the_lemmas) in
    none ∙ sym (named name items ∙ ap item_if (sym found))
