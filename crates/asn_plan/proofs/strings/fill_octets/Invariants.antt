use Rattle.std.proofs.Common.{◌≡◌, ◌-◌, ◌*◌, ◌/◌, ◌^◌, take}
use Rattle.asn_bits.specs.Numbers.{octets}
use Rattle.asn_plan.proofs.strings.fill_octets.Given as goal

abbrev pub invariant-loop-i : goal.invariant-loop-i
invariant-loop-i l = take l.i l.into ≡ octets l.i (l.number / 2 ^ (8 * (l.count - l.i)))
