use Rattle.std.proofs.Common.{◌≡◌, ◌∙◌, ◌+◌, [], ◌∷◌, drop, ap, sym}
use Rattle.std.specs.Prelude.{bytes_eq, string_bytes}
use Rattle.std.specs.List.{list_any}
use Rattle.std.specs.HashMap.{get_by_text}
use Rattle.std.proofs.lemmas.Map.Text.{hash_map_updates_text}
use Rattle.asn_module.specs.Uses.{names_now}
use Rattle.asn_module.proofs.UsedNames.{name_next, put}
use Rattle.asn_module.proofs.uses.set_of.Goals as goal

pub loop-name-preserved : goal.loop-name-preserved
loop-name-preserved c =
    λ q.
    let names = c.args.names.now in
    let i = c.loop-name.name-index in
    let old = get_by_text c.loop-name.set q in
    let rest = list_any (bytes_eq q) (names_now (drop (i + 1) names)) in
    let updates = hash_map_updates_text (string_bytes c.in_ok-from_str.field-0) c.loop-name.set c.insert.new.self _ c.in_ok-insert.ensures.updates q in
    let key = string_bytes c.in_ok-from_str.field-0 in
    let next : names_now (drop i names) ≡ key ∷ names_now (drop (i + 1) names) =
    name_next names i (record { ref_ptr = (0, 0); now = [] }) c.loop-name-test.true ∙ ap (λ k. k ∷ names_now (drop (i + 1) names)) (sym c.in_ok-from_str.ensures.ok) in
    let before = rw next at (c.loop-name.invariant q) in
    put key q _ old (get_by_text c.insert.new.self q) rest updates ∙ before
