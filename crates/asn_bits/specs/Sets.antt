-- Numbers of a set in a fixed count of digits, and what a reader of them tests. In PER a digit is a bit, in OER
-- an octet.
use Rattle.std.specs.Prelude.{◌≡◌, ◌+◌, ◌*◌, ◌^◌, ◌<◌, ◌≤◌, ◌⊎◌, ℕ, List, [], ◌∷◌, length, ⊤}
use Rattle.std.specs.List.{AllByRecursion}

-- ---- digits

-- each is a digit of the base
abbrev pub AreDigits : ℕ → List ℕ → Type 0
AreDigits base ds = AllByRecursion (λ d. d < base) ds

-- the number that the digits stand for, the first one the highest
abbrev pub weighted : ℕ → List ℕ → ℕ
weighted base [] = 0
weighted base (d ∷ ds) = d * base ^ length ds + weighted base ds

-- the number n in k digits
pub record IsDigits (base k n : ℕ) (ds : List ℕ) : Type 0 where
  pub digits : AreDigits base ds
  pub count : length ds ≡ k
  pub sum : weighted base ds ≡ n

-- a number of the set, in k digits
pub record InDigits (base k : ℕ) (S : ℕ → Type 0) (n : ℕ) (ds : List ℕ) : Type 0 where
  pub digits : IsDigits base k n ds
  pub member : S n

-- some number of the set begins with the digits of p, r digits before its end
pub record MeetsIn (base : ℕ) (S : ℕ → Type 0) (p r : ℕ) : Type 0 where
  pub number : ℕ
  pub member : S number
  pub least : p * base ^ r ≤ number
  pub below : number < (p + 1) * base ^ r

-- ---- bits

abbrev pub AreBits : List ℕ → Type 0
AreBits bs = AreDigits 2 bs

-- the number n in k bits
abbrev pub IsBits : ℕ → ℕ → List ℕ → Type 0
IsBits k n bs = IsDigits 2 k n bs

-- a number of the set, in k bits
abbrev pub InSet : ℕ → (ℕ → Type 0) → ℕ → List ℕ → Type 0
InSet k S n bs = InDigits 2 k S n bs

-- some number of the set begins with the bits of p, r bits before its end
abbrev pub Meets : (ℕ → Type 0) → ℕ → ℕ → Type 0
Meets S p r = MeetsIn 2 S p r

-- ---- sets of numbers

-- the numbers from low to high
abbrev pub Between : ℕ → ℕ → ℕ → Type 0
Between low high n = (low ≤ n) × (n ≤ high)

-- one of the intervals has the number
abbrev pub Among : List (ℕ × ℕ) → ℕ → Type 0
Among [] n = ⊥
Among (i ∷ is) n = Between i.0 i.1 n ⊎ Among is n

-- each interval has its low end at or below its high one
abbrev pub AreOrdered : List (ℕ × ℕ) → Type 0
AreOrdered [] = ⊤
AreOrdered (i ∷ is) = (i.0 ≤ i.1) × AreOrdered is

-- one of the intervals has a number that begins with the digits of p, r digits before its end
abbrev pub Touches : ℕ → List (ℕ × ℕ) → ℕ → ℕ → Type 0
Touches base [] p r = ⊥
Touches base (i ∷ is) p r = ((p * base ^ r ≤ i.1) × (i.0 < (p + 1) * base ^ r)) ⊎ Touches base is p r
