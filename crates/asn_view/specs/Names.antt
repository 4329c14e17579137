-- The indexes of names in a type, root before additions.
use Rattle.std.specs.Prelude.{ℕ, suc, List, [], ◌∷◌, map, string_bytes, Option, Some, None, option_map, bytes_eq, if◌then◌else◌}
use Rattle.asn_values.specs.declared.types.Item.{Item}
use Rattle.asn_values.specs.declared.types.Alt.{Alt}
use Rattle.asn_values.specs.declared.types.Field.{Field}

-- the index of the first of the names that is this one
abbrev pub index_of : List ℕ → List (List ℕ) → Option ℕ
index_of name [] = None
index_of name (n ∷ names) = if bytes_eq n name then Some 0 else option_map suc (index_of name names)

-- the names of components, of items and of alternatives
abbrev pub component_names : List Field → List (List ℕ)
component_names fields = map (λ f. string_bytes f.name) fields

abbrev pub item_names : List Item → List (List ℕ)
item_names items = map (λ i. string_bytes i.name) items

abbrev pub alternative_names : List Alt → List (List ℕ)
alternative_names alts = map (λ a. string_bytes a.name) alts
