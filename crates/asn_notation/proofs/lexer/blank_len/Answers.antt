use Rattle.std.proofs.Common.{◌≡◌, ◌+◌, ◌-◌, suc, Some, None, drop, get_or, arith, ◌∙◌, refl}
use Rattle.std.proofs.lemmas.Grind.{common_steps}
use Rattle.asn_notation.specs.Lexing.{after_octet, blank_from}
use Rattle.asn_notation.proofs.LexingLemmas.{blank_from_at, blank_from_past, stops_outside, leads_outside, leads_closing}
use Rattle.asn_notation.proofs.lexer.blank_len.Goals as goal

pub returns-in-None-clause-value : goal.returns-in-None-clause-value
returns-in-None-clause-value c =
    let l = c.loop-index in
    let text = c.args.text.now in
    let none : after_octet l.blank (get_or text l.index 0) (get_or text (l.index + 1) 0) ≡ None = grind (arith, common_steps) in
    let zero : blank_from l.blank (drop l.index text) ≡ 0 = blank_from_at l.blank text l.index (omega arith) ∙ rw none refl in
    omega (arith, l.invariant.counted, zero)

pub returns-in-None-clause-ascii : goal.returns-in-None-clause-ascii
returns-in-None-clause-ascii c =
    let l = c.loop-index in
    let text = c.args.text.now in
    let none : after_octet l.blank (get_or text l.index 0) (get_or text (l.index + 1) 0) ≡ None = grind (arith, common_steps) in
    λ some less. l.invariant.ascii (stops_outside _ _ _ none) some

pub loop-index-preserved : goal.loop-index-preserved
loop-index-preserved c =
    let l = c.loop-index in
    let text = c.args.text.now in
    let on : after_octet l.blank (get_or text l.index 0) (get_or text (l.index + 1) 0) ≡ Some c.in-Some.next = grind (arith, common_steps) in
    let more : blank_from l.blank (drop l.index text) ≡ suc (blank_from c.in-Some.next (drop (l.index + 1) text)) = blank_from_at l.blank text l.index (omega arith) ∙ rw on refl in
    record {
      counted = omega (arith, l.invariant.counted, more);
      ascii = λ outside some. let back : l.index + 1 - 1 ≡ l.index = omega arith in rw back (leads_outside l.blank (get_or text l.index 0) (get_or text (l.index + 1) 0) l.invariant.hyphen (on ∙ rw outside refl));
      hyphen = λ closing. leads_closing l.blank (get_or text l.index 0) (get_or text (l.index + 1) 0) (on ∙ rw closing refl);
    }

pub returns-clause-value : goal.returns-clause-value
returns-clause-value c =
    let l = c.loop-index in
    let text = c.args.text.now in
    let zero : blank_from l.blank (drop l.index text) ≡ 0 = blank_from_past l.blank text l.index (omega arith) in
    omega (arith, l.invariant.counted, zero)
