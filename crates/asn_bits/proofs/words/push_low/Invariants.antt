use Rattle.std.proofs.Common.{◌≡◌, ◌+◌, ◌-◌, ◌*◌, ◌/◌, ◌^◌, ◌++◌, vec_len, vec_capacity}
use Rattle.asn_bits.specs.Numbers.{octets}
use Rattle.asn_bits.proofs.words.push_low.Given as goal

abbrev pub invariant-loop-i : goal.invariant-loop-i
invariant-loop-i l =
    (l.bytes.items ≡ l.fn.bytes.items ++ octets l.i (l.n / 2 ^ (8 * (l.count - l.i)))) × (vec_len l.bytes ≡ vec_len l.fn.bytes + l.i) × (vec_capacity l.bytes ≡ vec_capacity l.fn.bytes)
