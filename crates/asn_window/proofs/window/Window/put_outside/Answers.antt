-- The octets are taken outside of all open type fields.
use Rattle.std.proofs.Common.{◌++◌, ◌&&◌, ◌==◌, ℕ, List, length, length-append, arith, sym, ap, subst, ◌∙◌}
use Rattle.asn_bits.specs.Numbers.{unpacked}
use Rattle.asn_bits.proofs.Splits.{length-unpacked}
use Rattle.asn_window.specs.BitWriters.{BitsStand}
use Rattle.asn_window.specs.Fragmented.{Comes}
use Rattle.asn_window.proofs.FieldSteps.{base_step}
use Rattle.asn_window.proofs.WindowSteps.{nil-unpacked}
use Rattle.asn_window.proofs.window.Window.put_outside.Goals as goal

pub returns : goal.returns
returns g c at taken coming told =
    let w = c.args.self.now in
    let f = w.fragments in
    let os = unpacked c.args.octets.now in
    let all = at.origin.all in
    let was : List ℕ → Type 0 = λ b. BitsStand at.origin.state (g.O.Output.held w.output.now) w.writer b all in
    let now : List ℕ → Type 0 = λ b. BitsStand at.origin.state (g.O.Output.held c.put_octets.new.output) c.put_octets.new.self b all in
    record {
      name = told.name;
      come = subst (λ l. Comes now f l at.around coming) (sym c.requires)
          (base_step was now f f os (λ r h. c.put_octets.ensures at.origin.state r all h) at.around coming
          (subst (λ l. Comes was f l at.around (os ++ coming)) c.requires told.come));
      level = told.level;
      phase = omega (arith, told.phase, length-append taken os, length-unpacked c.args.octets.now);
      empty = c.is_still_empty-self.ensures ∙ ap (λ b. b && (length c.args.octets.now == 0)) told.empty ∙ sym (nil-unpacked taken c.args.octets.now);
      long_left = told.long_left;
      long_after = told.long_after;
    }
