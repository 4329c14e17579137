-- The bits are taken at the innermost level.
use Rattle.std.proofs.Common.{◌&&◌, ◌==◌, length-append, arith, sym, ap, ◌∙◌}
use Rattle.asn_bits.specs.Numbers.{bits}
use Rattle.asn_bits.proofs.Octets.{length-digits}
use Rattle.asn_window.proofs.WindowSteps.{nil-append}
use Rattle.asn_window.proofs.window.Window.put.Goals as goal

pub returns : goal.returns
returns g c at taken coming told =
    let k = c.args.k in
    let n = c.args.n in
    let same = c.put_number.ensures.same in
    record {
      name = told.name;
      come = c.put_number.ensures.told at.origin.state at.around coming at.origin.all told.come;
      level = told.level;
      phase = omega (arith, told.phase, length-append taken (bits k n), length-digits 2 k n);
      empty = c.is_still_empty-self.ensures ∙ ap (λ b. b && (k == 0)) told.empty ∙ sym (nil-append taken k n);
      long_left = same.long_left ∙ told.long_left;
      long_after = same.long_after ∙ told.long_after;
    }
