-- Which trees a text may have: numbers of the profile, lists that are not empty, and no more levels than allowed.
use Rattle.std.specs.Prelude.{ℕ, zero, suc, ◌<◌, ◌+◌, ⊤, ℤ, pos, negsuc, length, IfSome}
use Rattle.std.specs.List.{AllByRecursion}
use Rattle.asn_limits.specs.Limits.{highest_number, offset_of_zero}
use Rattle.asn_notation.specs.declared.notation.Limits.{Limits}
use Rattle.asn_notation.specs.declared.notation.Limits.TheVariants.{One, Between}
use Rattle.asn_notation.specs.declared.notation.SizeNotation.{SizeNotation}
use Rattle.asn_notation.specs.declared.notation.SizeEnd.{SizeEnd}
use Rattle.asn_notation.specs.declared.notation.SizeEnd.TheVariants.{Same, To, ToMax}
use Rattle.asn_notation.specs.declared.notation.ListSize.{ListSize}
use Rattle.asn_notation.specs.declared.notation.ListSize.TheVariants as list_size
use Rattle.asn_notation.specs.declared.notation.Constraint.{Constraint}
use Rattle.asn_notation.specs.declared.notation.Constraint.TheVariants as constraint
use Rattle.asn_notation.specs.Tree as t
use Rattle.asn_notation.specs.Tree.{Tree, Components, More, Alternatives, MoreAlternatives, Item, Default, Need}
use Rattle.asn_notation.specs.Tree.{ModuleTree}

abbrev pub IsInt : ℤ → Type 0
IsInt (pos n) = n < highest_number + 1
IsInt (negsuc n) = n < offset_of_zero

abbrev pub AreLimits : Limits → Type 0
AreLimits (One z) = IsInt z
AreLimits (Between low high) = IfSome low IsInt × IfSome high IsInt

abbrev pub IsSizeEnd : SizeEnd → Type 0
IsSizeEnd Same = ⊤
IsSizeEnd (To n) = n < highest_number + 1
IsSizeEnd ToMax = ⊤

abbrev pub IsSize : SizeNotation → Type 0
IsSize s = (s.low < highest_number + 1) × IsSizeEnd s.high

abbrev pub IsListSize : ListSize → Type 0
IsListSize list_size.Any = ⊤
IsListSize (list_size.Bare s) = IsSize s
IsListSize (list_size.Bracketed s) = IsSize s

abbrev pub IsConstraint : Constraint → Type 0
IsConstraint constraint.None = ⊤
IsConstraint (constraint.Range r) = AreLimits r.limits
IsConstraint (constraint.Size s) = IsSize s

abbrev pub IsItem : Item → Type 0
IsItem i = IfSome i.number IsInt

abbrev pub IsDefault : Default → Type 0
IsDefault (t.truth b) = ⊤
IsDefault (t.number z) = IsInt z
IsDefault (t.item s) = ⊤

abbrev pub IsNeed : Need → Type 0
IsNeed t.must = ⊤
IsNeed t.optional = ⊤
IsNeed (t.default d) = IsDefault d

-- at least one level, and what P says of those below it
abbrev pub Below : ℕ → (ℕ → Type 0) → Type 0
Below zero P = ⊥
Below (suc inner) P = P inner

-- at least one alternative
abbrev pub HasAlternative : Alternatives → Type 0
HasAlternative t.no_alternatives = ⊥
HasAlternative (t.alternative n ty xs) = ⊤

-- a tree of at most this number of levels
unfoldable mutual
  pub IsTree : Tree → ℕ → Type 0
  IsTree t.boolean levels = Below levels (λ inner. ⊤)
  IsTree t.null levels = Below levels (λ inner. ⊤)
  IsTree t.utf8 levels = Below levels (λ inner. ⊤)
  IsTree (t.integer r) levels = Below levels (λ inner. IfSome r (λ r. AreLimits r.limits))
  IsTree (t.enumerated root more) levels =
      Below levels (λ inner. (0 < length root) × AllByRecursion IsItem root × IfSome more (AllByRecursion IsItem))
  IsTree (t.text kind s) levels = Below levels (λ inner. IfSome s IsSize)
  IsTree (t.sequence root more) levels = Below levels (λ inner. AreComponents root inner × AreMore more inner)
  IsTree (t.sequence_of s element) levels = Below levels (λ inner. IsListSize s × IsTree element inner)
  IsTree (t.choice root more) levels =
      Below levels (λ inner. HasAlternative root × AreAlternatives root inner × AreMoreAlternatives more inner)
  IsTree (t.reference n c) levels = Below levels (λ inner. IsConstraint c)

  pub AreComponents : Components → ℕ → Type 0
  AreComponents t.no_components levels = ⊤
  AreComponents (t.component n ty nd cs) levels = IsTree ty levels × IsNeed nd × AreComponents cs levels

  pub AreMore : More → ℕ → Type 0
  AreMore t.closed levels = ⊤
  AreMore (t.marked cs) levels = AreComponents cs levels

  pub AreAlternatives : Alternatives → ℕ → Type 0
  AreAlternatives t.no_alternatives levels = ⊤
  AreAlternatives (t.alternative n ty xs) levels = IsTree ty levels × AreAlternatives xs levels

  pub AreMoreAlternatives : MoreAlternatives → ℕ → Type 0
  AreMoreAlternatives t.closed_choice levels = ⊤
  AreMoreAlternatives (t.marked_choice xs) levels = AreAlternatives xs levels

-- the types of a module, of at most this number of levels
abbrev pub IsModule : ModuleTree → ℕ → Type 0
IsModule m levels = AllByRecursion (λ a. IsTree a.tree levels) m.assignments
