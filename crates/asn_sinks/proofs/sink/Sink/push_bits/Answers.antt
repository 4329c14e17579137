-- A word of bits more, and in the end the last bits.
use Rattle.std.proofs.Common.{◌≡◌, ◌++◌, [], Bool, List, sym, ap, refl, ◌∙◌, append_assoc, length, map, take, drop, take-append-drop, arith}
use Rattle.std.proofs.lemmas.List.{map-append, length-take-le}
use Rattle.asn_bits.specs.Numbers.{bits}
use Rattle.asn_bits.specs.Sink.{bit_of}
use Rattle.asn_sinks.proofs.Pushing.{pushed_same, on_ok}
use Rattle.asn_sinks.proofs.sink.Sink.push_bits.Goals as goal

pub loop-rest-init : goal.loop-rest-init
loop-rest-init g c = ([], refl, g.met.Self.Sink.pushes_none c.args.self.now)

pub loop-rest-preserved : goal.loop-rest-preserved
loop-rest-preserved g c =
    let push = g.Self.Sink.pushes in
    let inv = c.loop-rest.invariant in
    let rest = c.loop-rest.rest.now in
    let front = c.split_at.result.0.now in
    let others = c.split_at.result.1.now in
    let many : length front ≡ 64 = ap length c.split_at.ensures.front ∙ length-take-le 64 rest (omega (arith, c.loop-rest-test.true)) in
    let here : bits 64 c.word_of_bits.result ≡ map bit_of front = ap (λ n. bits n c.word_of_bits.result) (sym many) ∙ c.word_of_bits.ensures.bits in
    let cut : map bit_of rest ≡ map bit_of front ++ map bit_of others =
    ap (λ t. map bit_of t) (sym (take-append-drop 64 rest)) ∙ map-append bit_of (take 64 rest) (drop 64 rest)
    ∙ ap (λ (t : List Bool). map bit_of t ++ map bit_of (drop 64 rest)) (sym c.split_at.ensures.front)
    ∙ ap (λ (t : List Bool). map bit_of front ++ map bit_of t) (sym c.split_at.ensures.back) in
    let more = g.met.Self.Sink.pushes_joined c.args.self.now c.loop-rest.self c.push_number.new.self inv.0 (bits 64 c.word_of_bits.result) inv.2 c.in_ok-push_number.ensures in (
      inv.0 ++ map bit_of front,
      append_assoc inv.0 (map bit_of front) (map bit_of others) ∙ ap (λ t. inv.0 ++ t) (sym cut) ∙ inv.1,
      pushed_same push c.args.self.now c.push_number.new.self (ap (λ t. inv.0 ++ t) here) more,
    )

pub returns : goal.returns
returns g c =
    let push = g.Self.Sink.pushes in
    let inv = c.loop-rest.invariant in
    let rest = c.loop-rest.rest.now in
    let last = bits (length rest) c.word_of_bits-2.result in
    let all : inv.0 ++ last ≡ map bit_of c.args.truths.now = ap (λ t. inv.0 ++ t) c.word_of_bits-2.ensures.bits ∙ inv.1 in
    on_ok c.push_number-2.result (λ p.
    pushed_same push c.args.self.now c.push_number-2.new.self all
    (g.met.Self.Sink.pushes_joined c.args.self.now c.loop-rest.self c.push_number-2.new.self inv.0 last inv.2 p)) c.push_number-2.ensures
