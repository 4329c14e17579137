use Rattle.std.proofs.Common.{◌≡◌, ◌<◌, ◌^◌, take}
use Rattle.asn_bits.specs.Numbers.{octets}
use Rattle.asn_bits.proofs.cursor.from_be_octets.Given as goal

abbrev pub invariant-loop-octet : goal.invariant-loop-octet
invariant-loop-octet l = (octets l.octet-index l.n ≡ take l.octet-index l.front) × (l.n < 256 ^ l.octet-index)
