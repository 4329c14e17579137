use Rattle.std.proofs.Common.{◌≡◌, ◌==◌, ℕ, map, take}
use Rattle.asn_message.proofs.restoring.copy_bits.Given as goal

abbrev pub invariant-loop-octet : goal.invariant-loop-octet
invariant-loop-octet l = l.bits.items ≡ map (λ (n : ℕ). n == 1) (take l.octet-index l.octets)
