-- A SEQUENCE without an extension mark is put together from a presence bitmap and its components.
use Rattle.std.proofs.Common.{◌≡◌, ◌<◌, ◌+◌, ◌-◌, ◌^◌, ℕ, refl, arith}
use Rattle.std.proofs.lemmas.Nat.{pow_pos}
use Rattle.asn_values.specs.Shape.{Fields, sequence, closed}
use Rattle.asn_values.specs.Profile.{InProfile}
use Rattle.asn_values.proofs.Parts.{components_of_profile}
use Rattle.asn_rules.specs.Forks.{Same}
use Rattle.asn_rules.specs.Listed.{bitmap_length}
use Rattle.asn_rules.proofs.Languages.Spellings.{same_after, same_map, same_then, same_spelled}
use Rattle.asn_per.specs.Kinds.{Values, Below, Sequences}
use Rattle.asn_per.proofs.Types.SequenceLanguage.{Bitmaps, sequence_language}

-- a number that is not 0 has one before it
one_more : (n : ℕ) → 0 < n → n - 1 + 1 ≡ n
one_more n h = omega (arith, h)

module _ (fs : Fields) where
  -- the highest bitmap
  abbrev highest : ℕ
  highest = 2 ^ bitmap_length fs - 1

  highest_is : highest + 1 ≡ 2 ^ bitmap_length fs
  highest_is = one_more (2 ^ bitmap_length fs) (pow_pos (bitmap_length fs))

  -- the bitmaps are the numbers of that many bits
  same_bitmaps : Same (Below (bitmap_length fs) (2 ^ bitmap_length fs)) (Bitmaps fs highest)
  same_bitmaps = record {
    to = λ n cs h. record { units = h.units; spelt = record { digits = h.spelt.digits; member = (omega arith, omega (arith, h.spelt.member, highest_is), tt) }; same = h.same };
    from = λ n cs h. record { units = h.units; spelt = record { digits = h.spelt.digits; member = omega (arith, h.spelt.member.1, highest_is) }; same = h.same };
  }

pub sequences_compose : (fs : Fields) → InProfile (sequence fs closed) → Same (Sequences fs) (Values (sequence fs closed))
sequences_compose fs p =
    same_after (same_map (same_then (same_bitmaps fs) (λ n. record { to = λ v cs h. h; from = λ v cs h. h })))
    (same_after (sequence_language fs (highest fs) (components_of_profile fs closed p) (highest_is fs)) (same_spelled (λ v h. h.0) (λ v h. (h, tt)) (λ v h. refl)))
