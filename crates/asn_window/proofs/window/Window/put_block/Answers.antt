-- The octets are taken at the innermost level.
use Rattle.std.proofs.Common.{length-append, arith, sym, ◌∙◌}
use Rattle.asn_bits.specs.Numbers.{unpacked}
use Rattle.asn_bits.proofs.Splits.{length-unpacked}
use Rattle.asn_window.proofs.WindowSteps.{some-append}
use Rattle.asn_window.proofs.window.Window.put_block.Goals as goal

pub returns : goal.returns
returns g c at taken coming told =
    let os = c.args.octets.now in
    record {
      name = told.name;
      come = c.put_octets_at.ensures.told at.origin.state at.around coming at.origin.all told.come;
      level = told.level;
      phase = omega (arith, told.phase, length-append taken (unpacked os), length-unpacked os);
      empty = sym (some-append taken (unpacked os) (omega (arith, length-unpacked os, c.requires.some)));
      long_left = c.put_octets_at.ensures.long_left ∙ told.long_left;
      long_after = c.put_octets_at.ensures.long_after ∙ told.long_after;
    }
