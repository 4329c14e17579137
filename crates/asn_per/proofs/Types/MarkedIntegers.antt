-- INTEGER in PER is put together from its parts, whatever bounds it has and with an extension mark or without.
use Rattle.std.proofs.Common.{◌≡◌, ◌≤◌, ◌<◌, ◌-◌, ◌*◌, ◌^◌, ◌⊎◌, inl, inr, suc, ℤ, pos, negsuc, ◌≤ℤ◌, Bool, true, false, List, [], Option, Some, None, refl, arith}
use Rattle.std.proofs.lemmas.Int.{ints}
use Rattle.asn_values.specs.Datum.{Datum, number}
use Rattle.asn_values.specs.Shape.{Range, integer}
use Rattle.asn_values.specs.Fits.{Fits, FitsNumber, lowest_integer, highest_integer, in_range}
use Rattle.asn_values.specs.Profile.{InProfile}
use Rattle.asn_bits.specs.Numbers.{above, magnitude, signed_octet_count}
use Rattle.asn_bits.proofs.Octets.{signed_count_below}
use Rattle.asn_rules.specs.Chunks.{Chunk, ones}
use Rattle.asn_rules.specs.Languages.{Map}
use Rattle.asn_rules.specs.Forks.{Fork, Same}
use Rattle.asn_rules.specs.Counted.{Counted, signed_number, LeastSigned}
use Rattle.asn_rules.specs.Spellings.{SpelledBy, FitsEither, either_code}
use Rattle.asn_rules.proofs.Numbers.CountedCodes.{counted_bits, counted_signed_bits}
use Rattle.asn_rules.proofs.Languages.Spellings.{same_after, same_map, same_fork, map_spelled, fork_spelled}
use Rattle.asn_per.specs.Per.{per, unconstrained}
use Rattle.asn_per.specs.Kinds.{Values, of_either, root_of, IsOutside, Unconstrained, Ranged, Integers}
use Rattle.asn_per.proofs.Types.BooleanAndNull.{below_spelled}
use Rattle.asn_plan.proofs.Bounds.{root_of_profile}
use Rattle.asn_plan.proofs.IntegerRanges.{ranging}
use Rattle.asn_per.proofs.Types.IntegerLanguages.{there, back, open_there, open_back, few_octets}

-- ---- without a mark

-- an integer of the profile has at most 9 octets
signed_few : (z : ℤ) → lowest_integer ≤ℤ z → z ≤ℤ highest_integer → signed_octet_count z < 128
signed_few z p q = (let c : signed_octet_count z ≤ 9 = signed_count_below z 9 (omega arith) (small z p q) in omega (arith, c))
  where
    small : (z : ℤ) → lowest_integer ≤ℤ z → z ≤ℤ highest_integer → magnitude z < 2 ^ (8 * 9 - 1)
    small (pos n) p q = omega (arith, ints)
    small (negsuc n) p q = omega (arith, ints)

-- an unconstrained number
pub unconstrained_spelled : (S : ℤ → Type 0) → ((z : ℤ) → S z → (lowest_integer ≤ℤ z) × (z ≤ℤ highest_integer)) → Same (Map signed_number (Counted 2 8 (LeastSigned S))) (SpelledBy S (λ z. ones (unconstrained z)))
unconstrained_spelled S within = counted_signed_bits S (λ z h. signed_few z (within z h).0 (within z h).1)

-- between bounds
module _ (low : ℤ) where
  -- two bounds: a number in bits
  between_compose : (high : ℤ) → InProfile (integer (ranging low (Some high))) → Same (Ranged (Some low) (Some high)) (Values (integer (ranging low (Some high))))
  between_compose high good = same_after (same_map (below_spelled (suc (above low high)))) (map_spelled
      (λ n h. (let w = there low high None good tt n (omega arith, omega arith, tt) in (w.0.0, w.1)))
      (λ v f. (let w = back low high None good tt v (f, tt) in (w.0, omega (arith, w.1.1), w.2))))

  -- a low bound alone: a number under the length of its octets
  from_compose : InProfile (integer (ranging low None)) → Same (Ranged (Some low) None) (Values (integer (ranging low None)))
  from_compose good = same_after (same_map (counted_bits (λ n. n ≤ above low highest_integer) (λ n h. few_octets low None good tt n (omega arith, h, tt)))) (map_spelled
      (λ n h. (let w = open_there low None good tt n (omega arith, h, tt) in (w.0.0, w.1)))
      (λ v f. (let w = open_back low None good tt v (f, tt) in (w.0, w.1.1, w.2))))

-- without a low bound
unbounded_compose : (high : Option ℤ) → Same (Ranged None high) (Values (integer (record { low = None; high = high; extensible = false })))
unbounded_compose high = same_after (same_map (unconstrained_spelled (FitsNumber (record { low = None; high = high; extensible = false })) (λ z h. (h.0, h.1)))) (map_spelled (λ z h. (h, refl)) go)
  where
    go : (v : Datum) → Fits (integer (record { low = None; high = high; extensible = false })) v → (z : ℤ) × FitsNumber (record { low = None; high = high; extensible = false }) z × (v ≡ number z)
    go (number z) h = (z, h, refl)
    go _ h = absurd h

-- any bounds
pub ranged_compose : (low high : Option ℤ) → InProfile (integer (record { low = low; high = high; extensible = false })) → Same (Ranged low high) (Values (integer (record { low = low; high = high; extensible = false })))
ranged_compose (Some low) (Some high) good = between_compose low high good
ranged_compose (Some low) None good = from_compose low good
ranged_compose None high good = unbounded_compose high

-- ---- with a mark

-- the spelling outside the root
abbrev outside_code : Datum → List Chunk
outside_code (number z) = ones (unconstrained z)
outside_code _ = []

-- the integers outside the root
abbrev FitsOutside : Range → Datum → Type 0
FitsOutside b (number z) = IsOutside b z
FitsOutside b _ = ⊥

-- unconstrained numbers of that set are they
outside_spelled : (b : Range) → Same (Unconstrained (IsOutside b)) (SpelledBy (FitsOutside b) outside_code)
outside_spelled b = same_after (same_map (unconstrained_spelled (IsOutside b) (λ z h. (h.least, h.most)))) (map_spelled (λ z h. (h, refl)) go)
  where
    go : (v : Datum) → FitsOutside b v → (z : ℤ) × IsOutside b z × (v ≡ number z)
    go (number z) h = (z, h, refl)
    go _ h = absurd h

-- a bit, and the one form or the other
marked_compose : (low high : Option ℤ) → InProfile (integer (record { low = low; high = high; extensible = true })) → Same (Map of_either (Fork (Ranged low high) (Unconstrained (IsOutside (record { low = low; high = high; extensible = true }))))) (Values (integer (record { low = low; high = high; extensible = true })))
marked_compose low high good = same_after (same_map (same_after (same_fork (ranged_compose low high (root_of_profile b good)) (outside_spelled b)) fork_spelled)) (map_spelled there_either back_either)
  where
    b : Range
    b = record { low = low; high = high; extensible = true }

    there_either : (v : Datum ⊎ Datum) → FitsEither (Fits (integer (root_of b))) (FitsOutside b) v → Fits (integer b) (of_either v) × (either_code (per (integer (root_of b))) outside_code v ≡ per (integer b) (of_either v))
    there_either (inl (number z)) h = ((h.0, h.1, refl), rw h.2 refl)
    there_either (inr (number z)) h = ((h.least, h.most, refl), rw h.outside refl)
    there_either (inl _) h = absurd h
    there_either (inr _) h = absurd h

    back_either : (v : Datum) → Fits (integer b) v → (w : Datum ⊎ Datum) × FitsEither (Fits (integer (root_of b))) (FitsOutside b) w × (v ≡ of_either w)
    back_either (number z) h = go (in_range b z) refl
      where
        go : (i : Bool) → in_range b z ≡ i → (w : Datum ⊎ Datum) × FitsEither (Fits (integer (root_of b))) (FitsOutside b) w × (number z ≡ of_either w)
        go true e = (inl (number z), (h.0, h.1, e), refl)
        go false e = (inr (number z), record { least = h.0; most = h.1; outside = e }, refl)
    back_either _ h = absurd h

-- INTEGER
pub integers_compose : (b : Range) → InProfile (integer b) → Same (Integers b) (Values (integer b))
integers_compose b good = go b.low b.high b.extensible good
  where
    go : (low high : Option ℤ) (m : Bool) → InProfile (integer (record { low = low; high = high; extensible = m })) → Same (Integers (record { low = low; high = high; extensible = m })) (Values (integer (record { low = low; high = high; extensible = m })))
    go low high false good = ranged_compose low high good
    go low high true good = marked_compose low high good
