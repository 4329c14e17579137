-- Outside of all open type fields the writer takes the bits.
use Rattle.std.proofs.Common.{◌≡◌, ◌++◌, ℕ, List, sym, subst, arith}
use Rattle.asn_bits.specs.Numbers.{bits}
use Rattle.asn_window.specs.BitWriters.{BitsStand}
use Rattle.asn_window.specs.Fragmented.{Comes}
use Rattle.asn_window.proofs.FieldSteps.{base_step}
use Rattle.asn_window.proofs.fragments.put_number.Goals as goal

pub returns-clause-told : goal.returns-clause-told
returns-clause-told g c start around r all come =
    let f = c.args.fragments.now in
    let k = c.args.k in
    let new = bits k c.args.n in
    let none : c.args.level ≡ 0 = omega (arith, c.if-level-gt0.false) in
    let was : List ℕ → Type 0 = λ b. BitsStand start (g.O.Output.held c.args.output.now) c.args.writer.now b all in
    let now : List ℕ → Type 0 = λ b. BitsStand start (g.O.Output.held c.put.new.output) c.put.new.self b all in
    subst (λ l. Comes now f l around r) (sym none)
    (base_step was now f f new (λ b h. c.put.ensures start b all h) around r
    (subst (λ l. Comes was f l around (new ++ r)) none come))
