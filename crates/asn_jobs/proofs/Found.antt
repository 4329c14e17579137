-- Where the first octet that passes is, as `position` finds it.
use Rattle.std.proofs.Common.{◌≡◌, ◌≤◌, refl, arith, ℕ, Bool, true, false, not, cond, List, length, Option, Some, None}
use Rattle.std.specs.List.{position_or_len}
use Rattle.std.proofs.lemmas.Bool.{ltb-false}
use Rattle.std.proofs.lemmas.List.Sums.{prefix_len-le-length}
use lib.Dec.{ltb}

module _ (p : ℕ → Bool) (xs : List ℕ) where
  -- the place that `position` gives
  abbrev pub place : Option ℕ
  place = cond (ltb (position_or_len p xs) (length xs)) (Some (position_or_len p xs)) None

  pub within : position_or_len p xs ≤ length xs
  within = prefix_len-le-length (λ x. not (p x)) xs

  pub found_at : (n : ℕ) → Some n ≡ place → n ≡ position_or_len p xs
  found_at n found = go (ltb (position_or_len p xs) (length xs)) found
    where
      go : (b : Bool) → Some n ≡ cond b (Some (position_or_len p xs)) None → n ≡ position_or_len p xs
      go true found = (cc)
      go false found = (cc)

  pub found_within : (n : ℕ) → Some n ≡ place → n ≤ length xs
  found_within n found = let is : n ≡ position_or_len p xs = found_at n found in omega (arith, is, within)

  pub not_found : None ≡ place → length xs ≡ position_or_len p xs
  not_found found = go (ltb (position_or_len p xs) (length xs)) refl found
    where
      go : (b : Bool) → ltb (position_or_len p xs) (length xs) ≡ b → None ≡ cond b (Some (position_or_len p xs)) None → length xs ≡ position_or_len p xs
      go true e found = (cc)
      go false e found = let above : length xs ≤ position_or_len p xs = ltb-false (position_or_len p xs) (length xs) e in omega (arith, above, within)
