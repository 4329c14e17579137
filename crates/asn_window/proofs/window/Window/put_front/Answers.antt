-- One octet, or a block of them.
use Rattle.std.proofs.Common.{◌≡◌, ◌<◌, ℕ, List, [], ◌∷◌, length, take, get_or, sym, arith}
use Rattle.std.proofs.lemmas.List.{append-nil}
use Rattle.asn_bits.specs.Numbers.{bits, unpacked}
use Rattle.asn_sinks.specs.Sink.{Standing, Pushes}
use Rattle.asn_sinks.proofs.Pushing.{pushed_same}
use Rattle.asn_window.specs.declared.window.Window.{Window}
use Rattle.asn_window.specs.Windows.{WindowStands}
use Rattle.asn_window.specs.WindowStart.{Start}
use Rattle.asn_window.proofs.window.Window.put_front.Goals as goal

first_of : (os : List ℕ) → 0 < length os → bits 8 (get_or os 0 0) ≡ unpacked (take 1 os)
first_of [] h = absurd (omega (arith, h))
first_of (o ∷ os) h = sym (append-nil (bits 8 o))

pub returns-then-count-eq0-clause-pushed : goal.returns-then-count-eq0-clause-pushed
returns-then-count-eq0-clause-pushed g c =
    let stands : Standing (Window g.row.O.Denot) Start = λ w c taken coming. WindowStands g.O.Output.held w c taken coming in
    pushed_same (λ a b xs. Pushes stands a b xs) c.args.self.now c.put.new.self (first_of c.args.octets.now c.requires) c.put.ensures

pub returns-clause-pushed : goal.returns-clause-pushed
returns-clause-pushed g c = c.put_block.ensures
