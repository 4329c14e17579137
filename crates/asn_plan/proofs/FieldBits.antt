-- The fields that tell numbers: how many bits they have, and what an index of the root is.
use Rattle.std.proofs.Common.{◌≤◌, ◌<◌, ◌^◌, inl, ℕ, Bool, true, false, Option, Some, None, nat_le, arith}
use Rattle.std.proofs.lemmas.Bool.{le-leb}
use Rattle.asn_bits.specs.Numbers.{width}
use Rattle.asn_bits.specs.Sink.{bit_of}
use Rattle.asn_bits.proofs.Octets.{least_from_below}
use Rattle.asn_walk.specs.Coding.{IsIndexWithin}

-- numbers of which there are no more need no more bits
pub width_below : (values k : ℕ) → values ≤ 2 ^ k → width values ≤ k
width_below values k h = least_from_below (λ (i : ℕ). nat_le values (2 ^ i)) values 0 k (omega arith) (le-leb values (2 ^ k) h)

-- a bit is at most one
pub one_mark_bit : (b : Bool) → bit_of b ≤ 1
one_mark_bit true = omega arith
one_mark_bit false = omega arith

-- an index below the count of the alternatives of the root
pub index_within : (root : ℕ) (more : Option ℕ) (n : ℕ) → n < root → IsIndexWithin root more (inl n)
index_within root None n h = h
index_within root (Some k) n h = h
