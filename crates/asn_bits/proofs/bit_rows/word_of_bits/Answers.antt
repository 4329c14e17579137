-- Each turn adds a bit at the low end.
use Rattle.std.proofs.Common.{◌≡◌, ◌<◌, ◌+◌, ◌*◌, ◌^◌, ◌∷◌, ◌++◌, [], ℕ, Bool, true, false, List, length, map, take, get_or, refl, sym, ◌∙◌, ap, subst, arith}
use Rattle.std.proofs.lemmas.List.{take_more, map-append}
use Rattle.std.proofs.Math.Seq.{take-length}
use Rattle.asn_bits.specs.Sink.{bit_of}
use Rattle.asn_bits.specs.Numbers.{bits}
use Rattle.asn_bits.proofs.Prefixes.{bit_below, bool_byte-is}
use Rattle.asn_bits.proofs.ItemRows.{Word, no_word, word_more, word_fits}
use Rattle.asn_bits.proofs.bit_rows.word_of_bits.Goals as goal

one_bit : (b : Bool) → bits 1 (bit_of b) ≡ bit_of b ∷ []
one_bit true = refl
one_bit false = refl

-- the number with the next bit
next : (truths : List Bool) (i word n : ℕ) → Word i word (map bit_of (take i truths)) → i < length truths → n ≡ bit_of (get_or truths i false) → Word (i + 1) (2 * word + n) (map bit_of (take (i + 1) truths))
next truths i word n h l e =
    let b = get_or truths i false in
    let more = word_more i 1 (i + 1) word (bit_of b) (2 * word + n) (map bit_of (take i truths)) (bit_of b ∷ []) h (omega (arith, bit_below b)) (one_bit b) refl (omega (arith, e)) in
    let front : map bit_of (take i truths) ++ bit_of b ∷ [] ≡ map bit_of (take (i + 1) truths) = sym (ap (map bit_of) (take_more truths i false l) ∙ map-append bit_of (take i truths) (b ∷ [])) in
    subst (λ t. Word (i + 1) (2 * word + n) t) front more

pub loop-truth-init : goal.loop-truth-init
loop-truth-init c = no_word

pub overflow_mul-word : goal.overflow_mul-word
overflow_mul-word c =
    let h = next c.args.truths.now c.loop-truth.truth-index c.loop-truth.word (bit_of (get_or c.args.truths.now c.loop-truth.truth-index false)) c.loop-truth.invariant c.loop-truth-test.true refl in
    let l = word_fits _ _ _ h (omega (arith, c.requires.few, c.loop-truth-test.true)) in
    omega (arith, l)

pub overflow_add-word : goal.overflow_add-word
overflow_add-word c =
    let h = next c.args.truths.now c.loop-truth.truth-index c.loop-truth.word c.from.result c.loop-truth.invariant c.loop-truth-test.true (c.from.ensures ∙ bool_byte-is (get_or c.args.truths.now c.loop-truth.truth-index false)) in
    let l = word_fits _ _ _ h (omega (arith, c.requires.few, c.loop-truth-test.true)) in
    omega (arith, l)

pub loop-truth-preserved : goal.loop-truth-preserved
loop-truth-preserved c = next c.args.truths.now c.loop-truth.truth-index c.loop-truth.word c.from.result c.loop-truth.invariant c.loop-truth-test.true (c.from.ensures ∙ bool_byte-is (get_or c.args.truths.now c.loop-truth.truth-index false))

pub returns-clause-within : goal.returns-clause-within
returns-clause-within c =
    let all : c.loop-truth.truth-index ≡ length c.args.truths.now = omega arith in
    subst (λ (i : ℕ). c.loop-truth.word < 2 ^ i) all c.loop-truth.invariant.within

pub returns-clause-bits : goal.returns-clause-bits
returns-clause-bits c =
    let truths = c.args.truths.now in
    let all : c.loop-truth.truth-index ≡ length truths = omega arith in
    ap (λ (i : ℕ). bits i c.loop-truth.word) (sym all) ∙ c.loop-truth.invariant.same ∙ ap (λ (i : ℕ). map bit_of (take i truths)) all ∙ ap (map bit_of) (take-length truths)
