-- Each turn adds the code of a character at the low end.
use Rattle.std.proofs.Common.{◌≡◌, ◌≤◌, ◌<◌, ◌+◌, ◌*◌, ◌^◌, ℕ, List, length, map, take, get_or, sym, ◌∙◌, ap, subst, arith}
use Rattle.std.proofs.Math.Nat.{mul-le-mul_left, mul-suc}
use Rattle.std.proofs.Math.Seq.{take-length}
use Rattle.asn_values.specs.Shape.{Alphabet}
use Rattle.asn_values.specs.View.{alphabet_of}
use Rattle.asn_bits.specs.Lengths.{joined}
use Rattle.asn_bits.specs.Numbers.{bits}
use Rattle.asn_per.specs.Per.{character_bits}
use Rattle.asn_per.specs.Reading.{code_width}
use Rattle.asn_bits.proofs.ItemRows.{Word, no_word, word_more, word_fits, row_more}
use Rattle.asn_per.proofs.string_items.word_of_characters.Goals as goal

-- the bits of the first characters
abbrev front : Alphabet → List ℕ → ℕ → List ℕ
front k text i = joined (map (λ c. character_bits k c) (take i text))

-- the number with the next character
next : (k : Alphabet) (text : List ℕ) (i word radix code : ℕ) → Word (code_width k * i) word (front k text i) → i < length text → radix ≡ 2 ^ code_width k
    → code < 2 ^ code_width k → bits (code_width k) code ≡ character_bits k (get_or text i 0) → Word (code_width k * (i + 1)) (word * radix + code) (front k text (i + 1))
next k text i word radix code h l r w b =
    let w1 = code_width k in
    let total : w1 * (i + 1) ≡ w1 * i + w1 = ap (λ (x : ℕ). w1 * x) (omega arith) ∙ mul-suc w1 i ∙ omega arith in
    let more = word_more (w1 * i) w1 (w1 * (i + 1)) word code (word * radix + code) (front k text i) (character_bits k (get_or text i 0)) h w b total (ap (λ (x : ℕ). word * x + code) r) in
    subst (λ t. Word (w1 * (i + 1)) (word * radix + code) t) (sym (row_more (λ c. character_bits k c) text i 0 l)) more

-- all of them fit 64 bits
room : (w i n : ℕ) → i < n → w * n ≤ 64 → w * (i + 1) ≤ 64
room w i n l f = let m : w * (i + 1) ≤ w * n = mul-le-mul_left w (omega arith) in omega (arith, m, f)

pub loop-character-init : goal.loop-character-init
loop-character-init c = (let none : code_width (alphabet_of c.args.kind) * 0 ≡ 0 = omega arith in rw none no_word)

pub overflow_mul-word : goal.overflow_mul-word
overflow_mul-word c =
    let k = alphabet_of c.args.kind in
    let i = c.loop-character.character-index in
    let h = next k c.args.text.now i c.loop-character.word c.power_of_two-radix.result c.code_of-code.result c.loop-character.invariant c.loop-character-test.true (c.power_of_two-radix.ensures ∙ ap (λ (n : ℕ). 2 ^ n) c.width_of.ensures.width) c.code_of-code.ensures.within c.code_of-code.ensures.bits in
    let l = word_fits _ _ _ h (room (code_width k) i (length c.args.text.now) c.loop-character-test.true c.requires.few) in
    omega (arith, l)

pub overflow_add-word : goal.overflow_add-word
overflow_add-word c =
    let k = alphabet_of c.args.kind in
    let i = c.loop-character.character-index in
    let h = next k c.args.text.now i c.loop-character.word c.power_of_two-radix.result c.code_of-code.result c.loop-character.invariant c.loop-character-test.true (c.power_of_two-radix.ensures ∙ ap (λ (n : ℕ). 2 ^ n) c.width_of.ensures.width) c.code_of-code.ensures.within c.code_of-code.ensures.bits in
    let l = word_fits _ _ _ h (room (code_width k) i (length c.args.text.now) c.loop-character-test.true c.requires.few) in
    omega (arith, l)

pub loop-character-preserved : goal.loop-character-preserved
loop-character-preserved c =
    next (alphabet_of c.args.kind) c.args.text.now c.loop-character.character-index c.loop-character.word c.power_of_two-radix.result c.code_of-code.result c.loop-character.invariant c.loop-character-test.true (c.power_of_two-radix.ensures ∙ ap (λ (n : ℕ). 2 ^ n) c.width_of.ensures.width) c.code_of-code.ensures.within c.code_of-code.ensures.bits

pub returns-clause-within : goal.returns-clause-within
returns-clause-within c =
    let all : c.loop-character.character-index ≡ length c.args.text.now = omega arith in
    subst (λ (i : ℕ). c.loop-character.word < 2 ^ (code_width (alphabet_of c.args.kind) * i)) all c.loop-character.invariant.within

pub returns-clause-bits : goal.returns-clause-bits
returns-clause-bits c =
    let k = alphabet_of c.args.kind in
    let text = c.args.text.now in
    let all : c.loop-character.character-index ≡ length text = omega arith in
    ap (λ (i : ℕ). bits (code_width k * i) c.loop-character.word) (sym all) ∙ c.loop-character.invariant.same ∙ ap (front k text) all ∙ ap (λ t. joined (map (λ c. character_bits k c) t)) (take-length text)
