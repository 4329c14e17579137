use Rattle.std.proofs.Common.{◌<◌, ◌-◌, ◌++◌, ◌∷◌, [], ap, ◌∙◌, arith}
use Rattle.asn_values.specs.View.{alphabet_of}
use Rattle.asn_rules.specs.NumberSets.{Admits}
use Rattle.asn_per.specs.Reading.{codes_of}
use Rattle.asn_per.proofs.Read.StringRows.{next_character}
use Rattle.asn_per.proofs.string_items.append_word.Goals as goal

pub loop-i-preserved : goal.loop-i-preserved
loop-i-preserved c =
    let k = alphabet_of c.args.kind in
    let after = c.args.count - 1 - c.loop-i.i in
    let below : after < c.args.count = omega (arith, c.loop-i-test.true) in
    let admitted : Admits (codes_of k) c.code_at-code.result = rw c.code_at-code.ensures (c.requires.of_kind after below) in
    let pushed = c.push_reserved.ensures.items ∙ ap (λ o. c.loop-i.into.items ++ o ∷ []) c.character_of.ensures in (
      next_character k c.loop-i.i c.args.count c.args.word c.code_at-code.result (omega (arith, c.loop-i-test.true)) c.code_at-code.ensures admitted pushed c.loop-i.invariant.0,
      omega (arith, c.push_reserved.ensures.len, c.loop-i.invariant.1),
      omega (arith, c.push_reserved.ensures.capacity, c.loop-i.invariant.2),
    )
