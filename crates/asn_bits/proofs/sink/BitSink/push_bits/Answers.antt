-- Each turn adds the bits of a word.
use Rattle.std.proofs.Common.{◌≡◌, ◌≤◌, ◌+◌, ◌-◌, ◌++◌, ℕ, length, map, take, drop, sym, ◌∙◌, ap, arith}
use Rattle.asn_bits.specs.Numbers.{bits}
use Rattle.asn_bits.specs.Lengths.{joined}
use Rattle.asn_bits.proofs.ItemRows.{one_bit, bits_joined, row_begins, part_length, row_goes_on, row_ends}
use Rattle.asn_bits.proofs.sink.BitSink.push_bits.Goals as goal

pub loop-done-init : goal.loop-done-init
loop-done-init c = row_begins one_bit c.args.truths.now c.args.self.now

pub loop-done-preserved : goal.loop-done-preserved
loop-done-preserved c =
    let xs = c.args.truths.now in
    let done = c.loop-done.done in
    let many = c.min-many.result in
    let word = c.word_of_bits-word.result in
    let there : done + many ≤ length xs = omega (arith, c.loop-done-test.true) in
    let count : done + many - done ≡ many = omega arith in
    let part = take (done + many - done) (drop done xs) in
    let same : bits many word ≡ joined (map one_bit part) = ap (λ (n : ℕ). bits n word) (sym (part_length xs done many there)) ∙ c.word_of_bits-word.ensures.bits ∙ sym (bits_joined part) in
    row_goes_on one_bit xs c.args.self.now c.loop-done.self c.push_number.new.self done many (done + many - done) c.loop-done.invariant there count
    (c.in_ok-push_number.ensures.ok ∙ ap (λ t. c.loop-done.self ++ t) same)

pub returns : goal.returns
returns c =
    row_ends one_bit c.args.truths.now c.args.self.now c.loop-done.self c.loop-done.done c.loop-done.invariant (omega (arith, c.loop-done-test.false))
    ∙ ap (λ t. c.args.self.now ++ t) (bits_joined c.args.truths.now)
