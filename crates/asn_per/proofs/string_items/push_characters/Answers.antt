-- Each turn adds the characters of a word.
use Rattle.std.proofs.Common.{◌≡◌, ◌≤◌, ◌+◌, ◌-◌, ◌*◌, ◌++◌, ℕ, List, length, map, take, drop, sym, ◌∙◌, ap, arith}
use Rattle.std.proofs.lemmas.List.{take_all}
use Rattle.std.proofs.Math.Seq.{take-add}
use Rattle.asn_values.specs.View.{alphabet_of}
use Rattle.asn_bits.specs.Lengths.{joined}
use Rattle.asn_bits.specs.Numbers.{bits}
use Rattle.asn_bits.proofs.ItemRows.{part_length, row-append}
use Rattle.asn_sinks.proofs.Pushing.{pushed_same}
use Rattle.asn_per.specs.Reading.{code_width}
use Rattle.asn_per.specs.Per.{character_bits}
use Rattle.asn_per.proofs.string_items.push_characters.Goals as goal

pub loop-done-init : goal.loop-done-init
loop-done-init g c = record { few = omega arith; pushed = g.met.S.Sink.pushes_none c.args.sink.now }

pub loop-done-preserved : goal.loop-done-preserved
loop-done-preserved g c =
    let push = g.S.Sink.pushes in
    let code : ℕ → List ℕ = λ x. character_bits (alphabet_of c.args.kind) x in
    let w = code_width (alphabet_of c.args.kind) in
    let xs = c.args.text.now in
    let done = c.loop-done.done in
    let many = c.min-many.result in
    let word = c.word_of_characters-word.result in
    let there : done + many ≤ length xs = omega (arith, c.loop-done-test.true) in
    let count : done + many - done ≡ many = omega arith in
    let part = take (done + many - done) (drop done xs) in
    let wide : c.width_of-width.result * many ≡ w * length part = cc (c.width_of-width.ensures.width, part_length xs done many there) in
    let same : bits (c.width_of-width.result * many) word ≡ joined (map code part) = ap (λ (n : ℕ). bits n word) wide ∙ c.word_of_characters-word.ensures.bits in
    let front = joined (map code (take done xs)) in
    let all : front ++ joined (map code part) ≡ joined (map code (take (done + many) xs)) =
    ap (λ (n : ℕ). front ++ joined (map code (take n (drop done xs)))) count
    ∙ sym (ap (λ ys. joined (map code ys)) (take-add done many xs) ∙ row-append code (take done xs) (take many (drop done xs))) in
    record {
      few = there;
      pushed =
          pushed_same push c.args.sink.now c.push_number.new.self (ap (λ (t : List ℕ). front ++ t) same ∙ all)
          (g.met.S.Sink.pushes_joined c.args.sink.now c.loop-done.sink c.push_number.new.self front (bits (c.width_of-width.result * many) word)
          c.loop-done.invariant.pushed c.in_ok-push_number.ensures);
    }

pub returns : goal.returns
returns g c =
    let code : ℕ → List ℕ = λ x. character_bits (alphabet_of c.args.kind) x in
    let whole : take c.loop-done.done c.args.text.now ≡ c.args.text.now = take_all c.loop-done.done c.args.text.now (omega (arith, c.loop-done-test.false)) in
    pushed_same g.S.Sink.pushes c.args.sink.now c.loop-done.sink (ap (λ ys. joined (map code ys)) whole) c.loop-done.invariant.pushed
