-- Which texts are an accepted module, and what types its names then have.
use Rattle.std.specs.Prelude.{◌≡◌, ℕ, Bool, false, ⊤, List, [], ◌∷◌, Option, Some, None, map, bytes_eq, if◌then◌else◌}
use Rattle.asn_values.specs.Shape.{Shape}
use Rattle.asn_values.specs.Profile.{InProfile, has_twice}
use Rattle.asn_notation.specs.Tree.{Assignment, ModuleTree}
use Rattle.asn_notation.specs.ModuleText.{IsModuleText}
use Rattle.asn_module.specs.Meaning.{meant, stands_for}

-- a name, and the type that it has
pub record Typed : Type 0 where
  pub name : List ℕ
  pub shape : Shape

-- a module without its text: its name, and the names that it assigns with their types, in the order of the text
pub record ModuleTypes : Type 0 where
  pub name : List ℕ
  pub types : List Typed

-- the tree stands for this type in a module of these assignments: references are followed to their ends
pub record StandsFor (all : List Assignment) (tree : Assignment) (shape : Shape) : Type 0 where
  pub steps : ℕ
  pub constraint : Option Bool
  pub is : meant (stands_for steps all) tree.tree ≡ Some (record { shape = shape; constraint = constraint })

-- each assignment has its name and its type, which is one of the profile
abbrev pub AreTypes : List Assignment → List Assignment → List Typed → Type 0
AreTypes all [] [] = ⊤
AreTypes all [] (t ∷ ts) = ⊥
AreTypes all (a ∷ rest) [] = ⊥
AreTypes all (a ∷ rest) (t ∷ ts) =
    (t.name ≡ a.name) × StandsFor all a t.shape × InProfile t.shape × AreTypes all rest ts

-- the text is of the grammar, assigns no name twice, and gives each name its type
pub record Accepted (text : List ℕ) (m : ModuleTypes) : Type 0 where
  pub tree : ModuleTree
  pub written : IsModuleText 64 text tree
  pub distinct : has_twice bytes_eq (map (λ a. a.name) tree.assignments) ≡ false
  pub named : m.name ≡ tree.name
  pub typed : AreTypes tree.assignments tree.assignments m.types

-- the text is a module of these names and types, where they are a module's
abbrev pub IsReadAgain : List ℕ → ModuleTypes → Type 0
IsReadAgain text m = (source : List ℕ) → Accepted source m → Accepted text m

-- the type that a name has, where the module assigns it
abbrev pub type_in : List Typed → List ℕ → Option Shape
type_in [] name = None
type_in (t ∷ ts) name = if bytes_eq t.name name then Some t.shape else type_in ts name
