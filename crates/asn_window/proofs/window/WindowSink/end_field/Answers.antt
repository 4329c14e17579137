-- The content has come, and then comes what follows the field.
use Rattle.std.proofs.Common.{◌≡◌, ℕ, List, length, length-append, sym, arith}
use Rattle.asn_sinks.specs.Sink.{framed}
use Rattle.asn_window.specs.BitWriters.{BitsStand}
use Rattle.asn_window.proofs.WindowSteps.{popped, whole_field, some_field, some-append}
use Rattle.asn_window.proofs.window.WindowSink.end_field.Goals as goal

pub returns : goal.returns
returns g c at sofar os next octets phase told =
    let w = c.args.self.now in
    let field = framed c.args.framing os in
    let depth : c.saturating_sub-self.result ≡ length at.around = omega (arith, c.saturating_sub-self.ensures, told.level) in
    let base : List ℕ → Type 0 = λ b. BitsStand at.origin.state (g.O.Output.held w.output.now) w.writer b at.origin.all in
    record {
      name = told.name;
      come = popped base w.fragments w.depth c.saturating_sub-self.result at.around next (omega (arith, depth, told.level)) told.come;
      level = depth;
      phase = omega (arith, phase, length-append sofar field, whole_field c.args.framing os);
      empty = sym (some-append sofar field (some_field c.args.framing os));
      long_left = told.long_left;
      long_after = told.long_after;
    }
