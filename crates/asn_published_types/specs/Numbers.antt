-- Sets of whole numbers as lists of ranges: which numbers they have.
use Rattle.std.specs.Prelude.{ℤ, List, [], ◌∷◌, Option, Some, None, ◌≤ℤ◌, ◌⊎◌, ⊤}
use Rattle.asn_published_types.specs.declared.ranges.Range.{Range}

-- not below the low bound, where there is one
abbrev pub IsAbove : Option ℤ → ℤ → Type 0
IsAbove None z = ⊤
IsAbove (Some low) z = low ≤ℤ z

-- not above the high bound, where there is one
abbrev pub IsBelow : Option ℤ → ℤ → Type 0
IsBelow None z = ⊤
IsBelow (Some high) z = z ≤ℤ high

-- the range has the number
abbrev pub InRange : Range → ℤ → Type 0
InRange r z = IsAbove r.low z × IsBelow r.high z

-- one of the ranges has the number
abbrev pub InSet : List Range → ℤ → Type 0
InSet [] z = ⊥
InSet (r ∷ rs) z = InRange r z ⊎ InSet rs z

-- the low bound is not above the high one, so that there is a number between them
abbrev pub IsOrdered : Option ℤ → Option ℤ → Type 0
IsOrdered None high = ⊤
IsOrdered (Some low) None = ⊤
IsOrdered (Some low) (Some high) = low ≤ℤ high

-- there is a low bound, which is this number or a higher one
abbrev pub IsFrom : ℤ → Option ℤ → Type 0
IsFrom n None = ⊥
IsFrom n (Some low) = n ≤ℤ low

-- there is a high bound, which is this number or a lower one
abbrev pub IsTo : ℤ → Option ℤ → Type 0
IsTo n None = ⊥
IsTo n (Some high) = high ≤ℤ n

-- each of the ranges begins at this number or above it
abbrev pub AreFrom : ℤ → List Range → Type 0
AreFrom n [] = ⊤
AreFrom n (r ∷ rs) = IsFrom n r.low × AreFrom n rs

-- each of the ranges ends at this number or below it
abbrev pub AreTo : ℤ → List Range → Type 0
AreTo n [] = ⊤
AreTo n (r ∷ rs) = IsTo n r.high × AreTo n rs
