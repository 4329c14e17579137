-- The octets are taken outside of all open type fields.
use Rattle.std.proofs.Common.{◌*◌, ◌++◌, ◌&&◌, ◌==◌, ℕ, List, length-append, arith, sym, ap, subst, ◌∙◌}
use Rattle.asn_bits.specs.Numbers.{bits}
use Rattle.asn_bits.proofs.Octets.{length-digits}
use Rattle.asn_window.specs.BitWriters.{BitsStand}
use Rattle.asn_window.specs.Fragmented.{Comes}
use Rattle.asn_window.proofs.FieldSteps.{base_step}
use Rattle.asn_window.proofs.WindowSteps.{nil-append}
use Rattle.asn_window.proofs.window.Window.put_low_outside.Goals as goal

pub returns : goal.returns
returns g c at taken coming told =
    let w = c.args.self.now in
    let f = w.fragments in
    let k = 8 * c.args.count in
    let new = bits k c.args.n in
    let all = at.origin.all in
    let was : List ℕ → Type 0 = λ b. BitsStand at.origin.state (g.O.Output.held w.output.now) w.writer b all in
    let now : List ℕ → Type 0 = λ b. BitsStand at.origin.state (g.O.Output.held c.put_low.new.output) c.put_low.new.self b all in
    record {
      name = told.name;
      come = subst (λ l. Comes now f l at.around coming) (sym c.requires.outside)
          (base_step was now f f new (λ r h. c.put_low.ensures at.origin.state r all h) at.around coming
          (subst (λ l. Comes was f l at.around (new ++ coming)) c.requires.outside told.come));
      level = told.level;
      phase = omega (arith, told.phase, length-append taken new, length-digits 2 k c.args.n);
      empty = c.is_still_empty-self.ensures ∙ ap (λ b. b && (k == 0)) told.empty ∙ sym (nil-append taken k c.args.n);
      long_left = told.long_left;
      long_after = told.long_after;
    }
