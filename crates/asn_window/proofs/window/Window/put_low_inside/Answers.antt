-- The last octets alone are taken.
use Rattle.asn_sinks.specs.Sink.{Standing, Pushes}
use Rattle.asn_sinks.proofs.Pushing.{pushed_same}
use Rattle.asn_window.specs.declared.window.Window.{Window}
use Rattle.asn_window.specs.Windows.{WindowStands}
use Rattle.asn_window.specs.WindowStart.{Start}
use Rattle.asn_window.proofs.window.Window.put_low_inside.Goals as goal

pub returns : goal.returns
returns g c =
    let stands : Standing (Window g.row.O.Denot) Start = λ w c taken coming. WindowStands g.O.Output.held w c taken coming in
    pushed_same (λ a b xs. Pushes stands a b xs) c.args.self.now c.put.new.self c.last_octets.ensures.same c.put.ensures
