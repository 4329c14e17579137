use Rattle.std.proofs.Common.{◌≡◌, ◌-◌, length, length-drop, take, drop, ap, subst, ◌∙◌, rules, arith}
use Rattle.std.proofs.lemmas.List.{take_all}
use Rattle.std.specs.Prelude.{vec_len}
use Rattle.asn_values.specs.View.{alphabet_of}
use Rattle.asn_rules.proofs.Octets.Characters.{AreCharacters}
use Rattle.asn_oer.proofs.InPieces.Runs.{characters_taken, before_taken}
use Rattle.asn_oer.proofs.item_runs.take_characters.Goals as goal

pub returns-then-are_characters-clause-done : goal.returns-then-are_characters-clause-done
returns-then-are_characters-clause-done c =
    let k = alphabet_of c.args.kind in
    let old = c.args.into.now.items in
    let new = c.take_any_octets.new.into.items in
    let count : vec_len c.args.into.now ≡ length old = search rules in
    let start : c.len-start.result ≡ length old = c.len-start.ensures ∙ count in
    let all : take (length new - length old) (drop (length old) new) ≡ drop (length old) new = take_all (length new - length old) (drop (length old) new) (omega (arith, length-drop (length old) new)) in
    let judged : AreCharacters k (take (length new - length old) (drop (length old) new)) = rw (start, c.as_slice.ensures.value) at (c.are_characters.ensures c.if-are_characters.true) in
    let good : AreCharacters k (drop (length old) new) = subst (AreCharacters k) all judged in
    characters_taken k c.in_ok-count.count c.args.units.now c.take_any_octets.new.units old new c.in_ok-count.ensures.done good

pub returns-clause-done : goal.returns-clause-done
returns-clause-done c =
    let old = c.args.into.now.items in
    let new = c.take_any_octets.new.into.items in
    let count : vec_len c.args.into.now ≡ length old = search rules in
    let start : c.len-start.result ≡ length old = c.len-start.ensures ∙ count in
    let e : c.truncate.new.self.items ≡ old = c.truncate.ensures.items ∙ ap (λ n. take n new) start ∙ before_taken c.in_ok-count.count c.args.units.now c.take_any_octets.new.units old new c.in_ok-count.ensures.done in
    rw (e, c.copied-before.ensures) at c.take_each.ensures.done
