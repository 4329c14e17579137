-- Eight octets more, and in the end those that are left.
use Rattle.std.proofs.Common.{rules, List, append-nil, ◌≡◌, ◌<◌, ◌++◌, ℕ, [], length, drop, get_or, sym, ap, subst, ◌∙◌, arith}
use Rattle.std.proofs.lemmas.List.{take-append-drop}
use Rattle.std.proofs.lemmas.Result.{on_ok_weaker}
use Rattle.asn_bits.specs.Numbers.{octets, unpacked}
use Rattle.asn_bits.proofs.Moving.{range_after}
use Rattle.asn_bits.proofs.Reading.{octets_eight}
use Rattle.asn_bits.proofs.RowsAdded.{added_starts, added_more, added_all, no_octets}
use Rattle.asn_bits.proofs.sink.BitSink.push_words.Goals as goal

pub loop-eight-init : goal.loop-eight-init
loop-eight-init c = added_starts c.args.self.now c.args.octets.now

pub loop-eight-preserved : goal.loop-eight-preserved
loop-eight-preserved c =
    let l = c.loop-eight in
    let rest = l.rest.now in
    let eight = c.in-Some.eight.now in
    let others = c.in-Some.others.now in
    let n = c.from_be_bytes.result in
    let front = c.in-Some.ensures.cases in
    let all : (i : ℕ) → get_or c.args.octets.now i 0 < 256 = λ i. omega (arith, c.type_inv.octets i) in
    let range : (i : ℕ) → get_or rest i 0 < 256 =
    range_after l.invariant.done rest (subst (λ t. (i : ℕ) → get_or t i 0 < 256) l.invariant.parts all) in
    let number : octets 8 n ≡ eight = octets_eight rest eight n front.0 (omega (arith, front.2)) range c.from_be_bytes.ensures ∙ sym front.0 in
    let parts : rest ≡ eight ++ others = sym (take-append-drop 8 rest) ∙ ap (λ t. t ++ drop 8 rest) (sym front.0) ∙ ap (λ t. eight ++ t) (sym front.1) in
    added_more l.invariant eight others n parts number c.in_ok-append.ensures.ok

pub returns-then-is_empty : goal.returns-then-is_empty
returns-then-is_empty c =
    let rest = c.loop-eight.rest.now in
    let count : length rest ≡ 0 = search rules in
    let none : rest ≡ [] = no_octets rest count in
    added_all c.loop-eight.invariant (sym (append-nil c.loop-eight.self) ∙ ap (λ (os : List ℕ). c.loop-eight.self ++ unpacked os) (sym none))

pub returns : goal.returns
returns c = on_ok_weaker c.push_octets.result (λ e. added_all c.loop-eight.invariant e) c.push_octets.ensures.ok
