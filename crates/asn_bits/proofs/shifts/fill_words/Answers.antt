-- Each turn writes the word above the last bits of eight octets more.
use Rattle.std.proofs.Common.{◌≡◌, ◌+◌, ◌-◌, ◌++◌, ◌<◌, [], ℕ, length, take, drop, get_or, sym, ◌∙◌, ap, subst, arith, length-drop, length-append}
use Rattle.std.proofs.lemmas.List.{take-append-drop, length-take-le}
use Rattle.std.proofs.lemmas.Slice.{take-put_mid}
use Rattle.std.proofs.Math.Seq.{take-length}
use Rattle.asn_bits.specs.Moves.{Shifted}
use Rattle.asn_bits.specs.Numbers.{octets}
use Rattle.asn_bits.proofs.Moving.{begun_word, begun_whole, range_after}
use Rattle.asn_bits.proofs.Octets.{length-digits}
use Rattle.asn_bits.proofs.Reading.{octets_eight}
use Rattle.asn_bits.proofs.Splits.{bytes-octets}
use Rattle.asn_bits.proofs.shifts.fill_words.Goals as goal

pub loop-eight-preserved : goal.loop-eight-preserved
loop-eight-preserved c =
    let a = c.args in
    let l = c.loop-eight in
    let rest = l.rest.now in
    let eight = c.in-Some.eight.now in
    let others = c.in-Some.others.now in
    let n = c.from_be_bytes-n.result in
    let h = l.invariant.0 in
    let front = c.in-Some.ensures.cases in
    let left : length others ≡ length rest - 8 = ap length front.1 ∙ length-drop 8 rest in
    let all : (i : ℕ) → get_or a.octets.now i 0 < 256 = λ i. omega (arith, c.type_inv.octets i) in
    let range : (i : ℕ) → get_or rest i 0 < 256 = range_after h.from rest (subst (λ t. (i : ℕ) → get_or t i 0 < 256) h.parts all) in
    let number : octets 8 n ≡ eight = octets_eight rest eight n front.0 (omega (arith, front.2)) range c.from_be_bytes-n.ensures ∙ sym front.0 in
    let parts : rest ≡ eight ++ others = sym (take-append-drop 8 rest) ∙ ap (λ t. t ++ drop 8 rest) (sym front.0) ∙ ap (λ t. eight ++ t) (sym front.1) in
    let bytes = c.copy_from_slice.new.self in
    let here : length (take l.index l.into) ≡ l.index = length-take-le l.index l.into (omega (arith, l.invariant.1, l.invariant.2)) in
    let word : bytes ≡ octets 8 c.full_word-word.result = c.copy_from_slice.ensures.after ∙ c.to_be_bytes.ensures ∙ bytes-octets 8 c.full_word-word.result in
    let long : length bytes ≡ 8 = ap length word ∙ length-digits 256 8 c.full_word-word.result in
    let k = l.index + 8 - l.index in
    let post = drop k (drop l.index l.into) in
    let all_there : length (take l.index l.into ++ (bytes ++ post)) ≡ length a.octets.now =
    omega (arith, length-append (take l.index l.into) (bytes ++ post), length-append bytes post, length-drop k (drop l.index l.into), length-drop l.index l.into, here, long, l.invariant.1, l.invariant.2, left, front.2) in
    let next =
    take-put_mid l.index (l.index + 8 - l.index) l.into bytes (l.index + 8) (omega (arith, long)) (omega (arith, l.invariant.1, l.invariant.2)) ∙ ap (λ t. take l.index l.into ++ t) word in (
      begun_word [] (take l.index l.into) _ a.octets.now rest eight others a.count a.pending l.high n c.full_word-word.result h c.requires.few.1 parts number
          (omega arith) c.full_word-word.ensures next,
      omega (arith, l.invariant.1, left, front.2),
      all_there,
      omega (arith, l.invariant.3),
    )

pub returns : goal.returns
returns c =
    let a = c.args in
    let l = c.loop-eight in
    let few : length l.rest.now < 8 = c.in_default.ensures.cases in
    let all : l.index ≡ length l.into = omega (arith, few, l.invariant.1, l.invariant.2, l.invariant.3, c.requires.whole) in
    let whole : take l.index l.into ≡ l.into = ap (λ t. take t l.into) all ∙ take-length l.into in
    record {
      shifted =
          subst (λ t. Shifted [] t a.octets.now a.count a.pending l.high) whole
          (begun_whole [] (take l.index l.into) a.octets.now l.rest.now a.count a.pending l.high l.invariant.0
          (omega (arith, few, l.invariant.1, l.invariant.2, l.invariant.3, c.requires.whole)));
    }
