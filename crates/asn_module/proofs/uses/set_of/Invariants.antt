use Rattle.std.proofs.Common.{◌≡◌, ◌||◌, ℕ, List, drop, is_some, bytes_eq}
use Rattle.std.specs.List.{list_any}
use Rattle.std.specs.HashMap.{get_by_text}
use Rattle.asn_module.specs.Uses.{names_now}
use Rattle.asn_module.proofs.uses.set_of.Given as goal

-- a name is in the set, or among those left
abbrev pub invariant-loop-name : goal.invariant-loop-name
invariant-loop-name l =
    (q : List ℕ) → (is_some (get_by_text l.set q) || list_any (bytes_eq q) (names_now (drop l.name-index l.names))) ≡ list_any (bytes_eq q) (names_now l.names)
