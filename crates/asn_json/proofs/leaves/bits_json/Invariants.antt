use Rattle.std.proofs.Common.{◌≡◌, map, take, string_bytes}
use Rattle.asn_json.specs.Written.{bit_character}
use Rattle.asn_json.proofs.leaves.bits_json.Given as goal

-- the characters of the bits so far
abbrev pub invariant-loop-bit : goal.invariant-loop-bit
invariant-loop-bit l = string_bytes l.text ≡ map bit_character (take l.bit-index l.bits)
