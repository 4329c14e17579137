-- What a value takes where it is kept as a `Value`: how many entries, and how many octets for its strings.
use Rattle.std.specs.Prelude.{◌≡◌, ◌+◌, ◌≤◌, ℕ, length}
use Rattle.asn_values.specs.Datum.{Datum, bit_list, octet_list, characters, unicode, components, elements, alternative, Components, no_components, absent, present, Elements, no_elements, element}
use Rattle.asn_plan.specs.declared.budget.Budget.{Budget}
use Rattle.asn_plan.specs.declared.budget.Taken.{Taken}

abbrev mutual
  -- how many entries a value has: itself, and those of its components, elements and alternative
  pub entries_of : Datum → ℕ
  entries_of (components cs) = 1 + entries_of_components cs
  entries_of (elements es) = 1 + entries_of_elements es
  entries_of (alternative i d) = 1 + entries_of d
  entries_of d = 1

  -- a component that is absent has an entry too
  pub entries_of_components : Components → ℕ
  entries_of_components no_components = 0
  entries_of_components (absent cs) = 1 + entries_of_components cs
  entries_of_components (present d cs) = entries_of d + entries_of_components cs

  pub entries_of_elements : Elements → ℕ
  entries_of_elements no_elements = 0
  entries_of_elements (element d es) = entries_of d + entries_of_elements es

abbrev mutual
  -- how many octets its strings take: each bit of a BIT STRING one of its own, as a `Value` keeps it
  pub octets_of : Datum → ℕ
  octets_of (bit_list bs) = length bs
  octets_of (octet_list os) = length os
  octets_of (characters cs) = length cs
  octets_of (unicode os) = length os
  octets_of (components cs) = octets_of_components cs
  octets_of (elements es) = octets_of_elements es
  octets_of (alternative i d) = octets_of d
  octets_of d = 0

  pub octets_of_components : Components → ℕ
  octets_of_components no_components = 0
  octets_of_components (absent cs) = octets_of_components cs
  octets_of_components (present d cs) = octets_of d + octets_of_components cs

  pub octets_of_elements : Elements → ℕ
  octets_of_elements no_elements = 0
  octets_of_elements (element d es) = octets_of d + octets_of_elements es

-- this is what the value takes
abbrev pub Takes : Taken → Datum → Type 0
Takes n d = (n.entries ≡ entries_of d) × (n.octets ≡ octets_of d)

-- this is no more than the budget
abbrev pub IsNoMore : Taken → Budget → Type 0
IsNoMore n b = (n.entries ≤ b.entries) × (n.octets ≤ b.octets)

-- the value takes no more than the budget
abbrev pub IsWithin : Budget → Datum → Type 0
IsWithin b d = (entries_of d ≤ b.entries) × (octets_of d ≤ b.octets)
