-- What the names of a module's types stand for.
use Rattle.std.specs.Prelude.{ℕ, List}
use Rattle.std.specs.Borrow.{Bor}
use Rattle.asn_module.specs.declared.type_names.TypeNames.{TypeNames}
use Rattle.asn_module.specs.Lookup.{names_in}

abbrev pub name_seen : Bor (List ℕ) → List ℕ
name_seen n = n.now

-- the names that are left
abbrev pub left_names : TypeNames → List (List ℕ)
left_names n = names_in n.left.now
