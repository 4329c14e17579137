use Rattle.std.proofs.Common.{length, ap, ◌∙◌}
use Rattle.asn_convert.proofs.HexDigits.{digits_twice}
use Rattle.asn_convert.proofs.hex_writer.digits_of.Goals as goal

pub returns-clause-twice : goal.returns-clause-twice
returns-clause-twice c = ap length c.in-Ok.ensures.written ∙ digits_twice c.args.octets.now
