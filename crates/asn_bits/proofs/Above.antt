-- How far a number lies above another, as a number of its own.
use Rattle.std.proofs.Common.{◌≡◌, ◌≤◌, ℕ, ℤ, pos, negsuc, ◌+ℤ◌, ◌-ℤ◌, ◌≤ℤ◌, true, T, sym, subst, arith}
use Rattle.std.proofs.lemmas.Int.{ints}
use Rattle.std.specs.Int.RustNames.{int_le}
use Rattle.std.specs.Int.Signed.{le_z_yes}
use mir.Syntax.{w128}
use mir.Val.{to_z, of_z}
use Rattle.asn_limits.specs.Limits.{lowest_integer, highest_integer}
use Rattle.asn_bits.specs.Numbers.{above}

-- ---- tests as facts

pub le_of_test : (a b : ℤ) → int_le a b ≡ true → a ≤ℤ b
le_of_test a b e = le_z_yes (subst T (sym e) tt)

pub test_of_le : (a b : ℤ) → a ≤ℤ b → int_le a b ≡ true
test_of_le a b h = grind (arith, ints)

-- ---- the difference

pub pos-above : (low z : ℤ) → low ≤ℤ z → pos (above low z) ≡ z -ℤ low
pos-above (pos l) (pos a) h = omega (arith, ints)
pos-above (pos l) (negsuc a) h = omega (arith, ints)
pos-above (negsuc l) (pos a) h = omega (arith, ints)
pos-above (negsuc l) (negsuc a) h = omega (arith, ints)

pub at_above : (low z : ℤ) → low ≤ℤ z → low +ℤ pos (above low z) ≡ z
at_above low z h = omega (arith, ints, pos-above low z h)

-- the number that lies so far above
pub above-add : (low : ℤ) (n : ℕ) → above low (low +ℤ pos n) ≡ n
above-add low n = omega (arith, ints, pos-above low (low +ℤ pos n) (omega (arith, ints)))

pub above_within : (low high z : ℤ) → low ≤ℤ z → z ≤ℤ high → above low z ≤ above low high
above_within low high z p q = omega (arith, ints, pos-above low z p, pos-above low high (omega (arith, ints)))

pub add_within : (low high : ℤ) (n : ℕ) → low ≤ℤ high → n ≤ above low high → (low +ℤ pos n) ≤ℤ high
add_within low high n p q = omega (arith, ints, pos-above low high p)

-- numbers above one are told by how far they lie above it
pub above_same : (low y z : ℤ) → low ≤ℤ y → low ≤ℤ z → above low y ≡ above low z → y ≡ z
above_same low y z p q e = omega (arith, ints, pos-above low y p, pos-above low z q)

-- ---- an integer of the profile keeps its value in 128 bits

pub kept : (z : ℤ) → lowest_integer ≤ℤ z → z ≤ℤ highest_integer → to_z w128 (of_z w128 z) ≡ z
kept z p q = omega (arith, ints)
