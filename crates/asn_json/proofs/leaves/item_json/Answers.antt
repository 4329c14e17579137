use Rattle.std.proofs.Common.{◌≡◌, ◌∙◌, ◌++◌, Some, None, option_map, slice_get, string_bytes, rules, ap, sym}
use Rattle.serde_json.specs.Data.{null}
use Rattle.serde_json.specs.View.{view}
use Rattle.serde_json.specs.declared.value.Value.{Null, the_lemmas}
use Rattle.asn_values.specs.LookUp.{added}
use Rattle.asn_json.specs.Parts.{names_of_items}
use Rattle.asn_json.specs.Written.{json_name}
use Rattle.asn_json.proofs.NameIndexes.{name_at}
use Rattle.asn_json.proofs.leaves.item_json.Goals as goal

pub returns-in-Some : goal.returns-in-Some
returns-in-Some c =
    let root = c.args.root.now in
    let ext = c.args.ext.now in
    let found : Some c.in-Some.item.now ≡ slice_get (root ++ added ext) c.args.index = c.in-Some.ensures in
    let name : slice_get (names_of_items root ext) c.args.index ≡ Some c.as_str.result.now =
    name_at root ext c.args.index ∙ ap (option_map (λ x. string_bytes x.name)) (sym found) ∙ ap (λ n. Some n) (sym c.as_str.ensures.value) in
    rw name c.try_from_str.ensures

pub returns-in-None : goal.returns-in-None
returns-in-None c =
    let root = c.args.root.now in
    let ext = c.args.ext.now in
    let none : view Null ≡ null = search (rules, the_lemmas) in
    let name : slice_get (names_of_items root ext) c.args.index ≡ None = name_at root ext c.args.index ∙ ap (option_map (λ x. string_bytes x.name)) (sym c.in-None.ensures) in
    none ∙ sym (ap json_name name)
