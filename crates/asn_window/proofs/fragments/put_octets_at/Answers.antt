-- The octets reach no length determinant.
use Rattle.std.proofs.Common.{ℕ, List, ap, arith}
use Rattle.std.specs.Prelude.{slice_index}
use Rattle.asn_bits.specs.Numbers.{unpacked}
use Rattle.asn_bits.proofs.Splits.{length-unpacked}
use Rattle.asn_window.specs.BitWriters.{BitsStand}
use Rattle.asn_window.proofs.FieldSteps.{block_step}
use Rattle.asn_window.proofs.fragments.put_octets_at.Goals as goal

pub returns-clause-told : goal.returns-clause-told
returns-clause-told g c start around coming all come =
    let f = c.args.fragments.now in
    let new = c.pass.new.fragments in
    let os = unpacked c.args.octets.now in
    let was : List ℕ → Type 0 = λ b. BitsStand start (g.O.Output.held c.args.output.now) c.args.writer.now b all in
    let now : List ℕ → Type 0 = λ b. BitsStand start (g.O.Output.held c.put_octets.new.output) c.put_octets.new.self b all in
    let long = length-unpacked c.args.octets.now in
    block_step was now f new c.args.level os
    (λ j h some. omega (arith, long, c.requires.room j h some))
    (λ j h. omega (arith, long, c.pass.ensures.left j h))
    (λ j. ap (λ xs. slice_index xs j) c.pass.ensures.after)
    (λ r h. c.put_octets.ensures start r all h) around coming come
