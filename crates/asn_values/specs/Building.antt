-- What the builders of types make.
use Rattle.std.specs.Prelude.{◌≡◌, ℕ, ℤ, true, false, List, Option}
use Rattle.asn_values.specs.Shape.{Range, SizeRange, Label, Shape, Demand}
use Rattle.asn_values.specs.View.{Part, Branch}

-- the bounds of an INTEGER, without an extension marker; None is MIN or MAX
abbrev pub closed_range : Option ℤ → Option ℤ → Range
closed_range low high = record { low = low; high = high; extensible = false }

-- the same bounds, followed by an extension marker
abbrev pub extensible_range : Range → Range
extensible_range r = record { low = r.low; high = r.high; extensible = true }

-- the bounds of a length, without an extension marker; None is MAX
abbrev pub closed_size : ℕ → Option ℕ → SizeRange
closed_size low high = record { low = low; high = high; extensible = false }

-- the same bounds, followed by an extension marker
abbrev pub extensible_size : SizeRange → SizeRange
extensible_size s = record { low = s.low; high = s.high; extensible = true }

-- an item of an ENUMERATED with this name and this number
abbrev pub IsItem : List ℕ → ℤ → Label → Type 0
IsItem name number l = (l.name ≡ name) × (l.number ≡ number)

-- a component of a SEQUENCE with this name, this demand and a type of this shape
abbrev pub IsComponent : List ℕ → Demand → Shape → Part → Type 0
IsComponent name demand t p = (p.name ≡ name) × (p.demand ≡ demand) × (p.shape ≡ t)

-- an alternative of a CHOICE with this name and a type of this shape
abbrev pub IsAlternative : List ℕ → Shape → Branch → Type 0
IsAlternative name t b = (b.name ≡ name) × (b.shape ≡ t)
