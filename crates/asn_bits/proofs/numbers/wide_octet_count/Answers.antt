-- Of more than 64 bits, nine.
use Rattle.std.proofs.Common.{◌≡◌, ◌*◌, ◌^◌, ◌<◌, sym, arith}
use Rattle.asn_bits.proofs.Fewest.{octet_count_nine}
use Rattle.asn_bits.proofs.numbers.wide_octet_count.Goals as goal

pub returns-clause-count : goal.returns-clause-count
returns-clause-count c = sym (octet_count_nine c.args.n (omega (arith, c.if-n-lt-WORD.false)) c.requires)
