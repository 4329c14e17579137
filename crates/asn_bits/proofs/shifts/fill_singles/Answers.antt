-- Each turn writes the octet that ends with the first bits of the next one.
use Rattle.std.proofs.Common.{◌≡◌, ◌++◌, ◌∷◌, [], ◌+◌, ◌*◌, ◌/◌, ◌%◌, ◌^◌, ◌<◌, length, take, get_or, sym, ◌∙◌, subst, arith}
use Rattle.std.proofs.lemmas.List.{take_more, take_more_set, length-set}
use Rattle.asn_bits.specs.Moves.{Shifted}
use Rattle.asn_bits.proofs.Moving.{shifted_octet}
use Rattle.asn_bits.proofs.shifts.fill_singles.Goals as goal

pub loop-i-preserved : goal.loop-i-preserved
loop-i-preserved c =
    let a = c.args in
    let l = c.loop-i in
    let o = get_or a.octets.now l.i 0 in
    let b = c.low_octet.result in
    let there : l.i < length a.octets.now = c.loop-i-test.true in
    let fits : o < 256 = omega (arith, c.type_inv.octets l.i) in
    let here : b ≡ (l.high * 2 ^ 8 + o) / 2 ^ a.count % 256 = omega (arith, c.low_octet.ensures, c.full_word.ensures) in
    let more = shifted_octet [] (take l.i l.into) (take l.i a.octets.now) a.count a.pending l.high o b l.invariant.0 fits c.requires.few.1 here in (
      subst (λ t. Shifted [] t (take (l.i + 1) a.octets.now) a.count a.pending o) (sym (take_more_set l.into l.i b (omega (arith, there, l.invariant.1))))
          (subst (λ t. Shifted [] (take l.i l.into ++ b ∷ []) t a.count a.pending o) (sym (take_more a.octets.now l.i 0 there)) more),
      length-set l.into l.i b ∙ l.invariant.1,
    )
