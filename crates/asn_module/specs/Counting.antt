-- How many types are built of a notation: itself, those inside it, and those that its references stand for.
use Rattle.std.specs.Prelude.{◌+◌, ℕ, suc, List, Option, Some, None, min}
use Rattle.asn_values.specs.Measures.{nodes}
use Rattle.asn_notation.specs.Tree as t
use Rattle.asn_notation.specs.Tree.{Tree, Components, More}
use Rattle.asn_module.specs.Meaning.{Meant}

-- a number of types, as far as it is counted: to one more than a type of the profile may have
abbrev pub capped : ℕ → ℕ
capped n = min 100001 n

abbrev pub known_nodes : Option Meant → ℕ
known_nodes None = 0
known_nodes (Some m) = nodes m.shape

abbrev mutual
  pub weight : (List ℕ → Option Meant) → Tree → ℕ
  weight look t.boolean = 1
  weight look t.null = 1
  weight look t.utf8 = 1
  weight look (t.integer r) = 1
  weight look (t.enumerated root more) = 1
  weight look (t.text kind size) = 1
  weight look (t.sequence root more) = suc (components_weight look root + more_weight look more)
  weight look (t.sequence_of size element) = suc (weight look element)
  weight look (t.choice root more) = suc (alternatives_weight look root + more_alternatives_weight look more)
  weight look (t.reference name c) = known_nodes (look name)

  pub components_weight : (List ℕ → Option Meant) → Components → ℕ
  components_weight look t.no_components = 0
  components_weight look (t.component name tree need rest) = weight look tree + components_weight look rest

  pub more_weight : (List ℕ → Option Meant) → More → ℕ
  more_weight look t.closed = 0
  more_weight look (t.marked rest) = components_weight look rest

  pub alternatives_weight : (List ℕ → Option Meant) → t.Alternatives → ℕ
  alternatives_weight look t.no_alternatives = 0
  alternatives_weight look (t.alternative name tree rest) = weight look tree + alternatives_weight look rest

  pub more_alternatives_weight : (List ℕ → Option Meant) → t.MoreAlternatives → ℕ
  more_alternatives_weight look t.closed_choice = 0
  more_alternatives_weight look (t.marked_choice rest) = alternatives_weight look rest
