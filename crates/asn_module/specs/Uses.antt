-- Which names the types of a module refer to.
use Rattle.std.specs.Prelude.{◌≡◌, ℕ, Bool, List, [], ◌∷◌, ◌++◌, map, is_some, bytes_eq}
use Rattle.std.specs.Borrow.{Bor}
use Rattle.std.specs.List.{list_any}
use Rattle.std.specs.HashMap.{get_by_text}
use Rattle.asn_notation.specs.Tree as t
use Rattle.asn_notation.specs.Tree.{Tree, Components, More, Assignment, ModuleTree}
use Rattle.asn_notation.specs.ModuleText.{IsModuleText}
use Rattle.asn_module.specs.declared.module.Module.{Module}

-- the names that a tree refers to, in the order of the text
abbrev mutual
  pub references : Tree → List (List ℕ)
  references t.boolean = []
  references t.null = []
  references t.utf8 = []
  references (t.integer r) = []
  references (t.enumerated root more) = []
  references (t.text kind size) = []
  references (t.sequence root more) = component_references root ++ more_references more
  references (t.sequence_of size element) = references element
  references (t.choice root more) = alternative_references root ++ more_alternative_references more
  references (t.reference name c) = name ∷ []

  pub component_references : Components → List (List ℕ)
  component_references t.no_components = []
  component_references (t.component name tree need rest) = references tree ++ component_references rest

  pub more_references : More → List (List ℕ)
  more_references t.closed = []
  more_references (t.marked rest) = component_references rest

  pub alternative_references : t.Alternatives → List (List ℕ)
  alternative_references t.no_alternatives = []
  alternative_references (t.alternative name tree rest) = references tree ++ alternative_references rest

  pub more_alternative_references : t.MoreAlternatives → List (List ℕ)
  more_alternative_references t.closed_choice = []
  more_alternative_references (t.marked_choice rest) = alternative_references rest

abbrev pub all_references : List Assignment → List (List ℕ)
all_references [] = []
all_references (a ∷ rest) = references a.tree ++ all_references rest

-- whether one of the types refers to the name
abbrev pub is_used : List ℕ → List Assignment → Bool
is_used q all = list_any (bytes_eq q) (all_references all)

-- names as the program has them
abbrev pub names_now : List (Bor (List ℕ)) → List (List ℕ)
names_now names = map (λ n. n.now) names

-- whether a module of the program says of a name that it is used
abbrev pub says_used : Module → List ℕ → Bool
says_used m q = is_some (get_by_text m.used q)

-- it says so exactly of the names to which types of the text refer
pub record TellsUses (text : List ℕ) (m : Module) : Type 0 where
  pub tree : ModuleTree
  pub written : IsModuleText 64 text tree
  pub is : (q : List ℕ) → says_used m q ≡ is_used q tree.assignments
