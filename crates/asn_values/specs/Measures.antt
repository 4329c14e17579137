-- How large types and values are.
use Rattle.std.specs.Prelude.{◌+◌, ℕ, suc, max, length}
use Rattle.asn_values.specs.Datum.{Datum, truth, nothing, number, item, bit_list, octet_list, characters, unicode, components, elements, alternative, unknown_item, unknown_alternative, Components, no_components, absent, present, Elements, no_elements, element}
use Rattle.asn_values.specs.Shape.{Shape, bit_string, octet_string, restricted, utf8_string, sequence, sequence_of, choice, Fields, no_fields, field, MoreFields, closed, marked, Alternatives, no_alternatives, one_of, MoreAlternatives, closed_choice, marked_choice}

-- ---- the levels of a type: a simple type has one, a SEQUENCE or CHOICE one more than the deepest inside it, and a
-- ---- SEQUENCE OF two more than its element, since lists of lists are what makes values long

abbrev mutual
  pub depth : Shape → ℕ
  depth (sequence root more) = suc (max (fields_depth root) (more_depth more))
  depth (sequence_of t s) = suc (suc (depth t))
  depth (choice root more) = suc (max (choice_depth root) (more_choice_depth more))
  depth _ = 1

  pub fields_depth : Fields → ℕ
  fields_depth no_fields = 0
  fields_depth (field name demand t fs) = max (depth t) (fields_depth fs)

  pub more_depth : MoreFields → ℕ
  more_depth closed = 0
  more_depth (marked fs) = fields_depth fs

  pub choice_depth : Alternatives → ℕ
  choice_depth no_alternatives = 0
  choice_depth (one_of name t alts) = max (depth t) (choice_depth alts)

  pub more_choice_depth : MoreAlternatives → ℕ
  more_choice_depth closed_choice = 0
  more_choice_depth (marked_choice alts) = choice_depth alts

-- ---- the nodes of a type: the type itself and all inside it

abbrev mutual
  pub nodes : Shape → ℕ
  nodes (sequence root more) = suc (fields_nodes root + more_nodes more)
  nodes (sequence_of t s) = suc (nodes t)
  nodes (choice root more) = suc (choice_nodes root + more_choice_nodes more)
  nodes _ = 1

  pub fields_nodes : Fields → ℕ
  fields_nodes no_fields = 0
  fields_nodes (field name demand t fs) = nodes t + fields_nodes fs

  pub more_nodes : MoreFields → ℕ
  more_nodes closed = 0
  more_nodes (marked fs) = fields_nodes fs

  pub choice_nodes : Alternatives → ℕ
  choice_nodes no_alternatives = 0
  choice_nodes (one_of name t alts) = nodes t + choice_nodes alts

  pub more_choice_nodes : MoreAlternatives → ℕ
  more_choice_nodes closed_choice = 0
  more_choice_nodes (marked_choice alts) = choice_nodes alts

-- ---- the same, a string counting two: itself and its items

abbrev mutual
  pub places : Shape → ℕ
  places (bit_string s) = 2
  places (octet_string s) = 2
  places (restricted k s) = 2
  places utf8_string = 2
  places (sequence root more) = suc (fields_places root + more_places more)
  places (sequence_of t s) = suc (places t)
  places (choice root more) = suc (choice_places root + more_choice_places more)
  places _ = 1

  pub fields_places : Fields → ℕ
  fields_places no_fields = 0
  fields_places (field name demand t fs) = places t + fields_places fs

  pub more_places : MoreFields → ℕ
  more_places closed = 0
  more_places (marked fs) = fields_places fs

  pub choice_places : Alternatives → ℕ
  choice_places no_alternatives = 0
  choice_places (one_of name t alts) = places t + choice_places alts

  pub more_choice_places : MoreAlternatives → ℕ
  more_choice_places closed_choice = 0
  more_choice_places (marked_choice alts) = choice_places alts

-- ---- how many sealed fields a spelling may have inside one another: a UTF8String is one, and so is
-- ---- each extension addition of a SEQUENCE or CHOICE around what it holds

abbrev mutual
  pub sealed_depth : Shape → ℕ
  sealed_depth utf8_string = 1
  sealed_depth (sequence root more) = max (fields_sealed root) (more_sealed more)
  sealed_depth (sequence_of t s) = sealed_depth t
  sealed_depth (choice root more) = max (choice_sealed root) (more_choice_sealed more)
  sealed_depth _ = 0

  pub fields_sealed : Fields → ℕ
  fields_sealed no_fields = 0
  fields_sealed (field name demand t fs) = max (sealed_depth t) (fields_sealed fs)

  -- of each addition one more than of its type
  pub additions_sealed : Fields → ℕ
  additions_sealed no_fields = 0
  additions_sealed (field name demand t fs) = max (suc (sealed_depth t)) (additions_sealed fs)

  pub more_sealed : MoreFields → ℕ
  more_sealed closed = 0
  more_sealed (marked fs) = additions_sealed fs

  pub choice_sealed : Alternatives → ℕ
  choice_sealed no_alternatives = 0
  choice_sealed (one_of name t alts) = max (sealed_depth t) (choice_sealed alts)

  pub choice_additions_sealed : Alternatives → ℕ
  choice_additions_sealed no_alternatives = 0
  choice_additions_sealed (one_of name t alts) = max (suc (sealed_depth t)) (choice_additions_sealed alts)

  pub more_choice_sealed : MoreAlternatives → ℕ
  more_choice_sealed closed_choice = 0
  more_choice_sealed (marked_choice alts) = choice_additions_sealed alts

-- how many levels of fields a reader may have open at once, the message itself counted
abbrev pub levels : Shape → ℕ
levels t = suc (sealed_depth t)

-- ---- the cells of a value: its nodes, each entry of a SEQUENCE counting at least one, and the items of strings

abbrev mutual
  pub cells : Datum → ℕ
  cells (truth b) = 1
  cells nothing = 1
  cells (number z) = 1
  cells (item p) = 1
  cells (bit_list bs) = suc (length bs)
  cells (octet_list os) = suc (length os)
  cells (characters cs) = suc (length cs)
  cells (unicode os) = suc (length os)
  cells (components es) = suc (components_cells es)
  cells (elements ds) = suc (elements_cells ds)
  cells (alternative t d) = suc (cells d)
  cells (unknown_item z) = 1
  cells (unknown_alternative t) = 1

  pub components_cells : Components → ℕ
  components_cells no_components = 0
  components_cells (absent es) = suc (components_cells es)
  components_cells (present d es) = cells d + components_cells es

  pub elements_cells : Elements → ℕ
  elements_cells no_elements = 0
  elements_cells (element d ds) = cells d + elements_cells ds
