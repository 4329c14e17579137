use Rattle.std.proofs.Common.{arith}
use Rattle.asn_convert.proofs.HexDigits.{half_at, half_none}
use Rattle.asn_convert.proofs.hex_writer.half_of.Goals as goal

pub returns-then-digits-eq1 : goal.returns-then-digits-eq1
returns-then-digits-eq1 c = half_at c.args.digits c.args.octets.now (omega (arith, c.if-digits-eq1.true)) c.requires.few

pub returns-else-digits-eq1 : goal.returns-else-digits-eq1
returns-else-digits-eq1 c = half_none c.args.digits c.args.octets.now (omega (arith, c.if-digits-eq1.false))
