-- One write more.
use Rattle.std.proofs.Common.{◌≤◌, take, drop, sym, subst, arith, ◌∙◌, length, length-drop}
use Rattle.std.proofs.Math.Seq.{take-add}
use Rattle.std.specs.Io.KnownBytes.{Appends}
use Rattle.asn_rules.specs.Faults.{inner_of}
use Rattle.asn_rules.proofs.Known.{appends_twice, same_at_some}
use Rattle.asn_rules.proofs.output.CountedOutput.append.Goals as goal

pub loop-done-preserved : goal.loop-done-preserved
loop-done-preserved g c =
    let xs = c.args.octets.now in
    let done = c.loop-done.done in
    let count = c.in-Ok.count in
    let first = c.loop-done.invariant in
    let start = g.W.Write.contents (inner_of c.args.self.now) in
    let before = g.W.Write.contents (inner_of c.loop-done.self) in
    let now = g.W.Write.contents (inner_of c.write.new.self) in
    let rest = c.after.ensures in
    let taken : Appends before now (take count (drop done xs)) = subst (λ t. Appends before now (take count t)) rest c.in-Ok.ensures.bytes in
    let few : count ≤ length (drop done xs) = subst (λ t. count ≤ length t) rest c.in-Ok.ensures.bound in
    let both = appends_twice start before now (take done xs) (take count (drop done xs)) first.1 taken in (
      omega (arith, few, length-drop done xs, first.0),
      subst (λ t. Appends start now t) (sym (take-add done count xs)) both,
      c.in-Ok.ensures.faults ∙ same_at_some count c.after.result.now _ (λ none. omega (arith, none, c.if-count-gt0.true)) ∙ first.2,
    )
