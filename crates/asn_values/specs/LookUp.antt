-- The first component, item or alternative of a name in a type, root before additions.
use Rattle.std.specs.Prelude.{ℕ, Bool, List, [], ◌∷◌, Option, Some, None, cond, bytes_eq}
use Rattle.std.specs.Option.{option_or}
use Rattle.std.specs.Global.{Vec}
use Rattle.asn_values.specs.Shape.{Label, more_labels, Shape, enumerated, sequence, choice, Fields, no_fields, field, more_fields, Alternatives, no_alternatives, one_of, more_alternatives}
use Rattle.asn_values.specs.View.{Part, Branch}

abbrev pub first_label : List ℕ → List Label → Option Label
first_label name [] = None
first_label name (l ∷ ls) = cond (bytes_eq name l.name) (Some l) (first_label name ls)

abbrev pub first_field : List ℕ → Fields → Option Part
first_field name no_fields = None
first_field name (field n demand t fs) =
    cond (bytes_eq name n) (Some (record { name = n; demand = demand; shape = t })) (first_field name fs)

abbrev pub first_branch : List ℕ → Alternatives → Option Branch
first_branch name no_alternatives = None
first_branch name (one_of n t alts) =
    cond (bytes_eq name n) (Some (record { name = n; shape = t })) (first_branch name alts)

-- the first part of a list that passes the test
abbrev pub first_where : {X : Type 0} → (X → Bool) → List X → Option X
first_where test [] = None
first_where test (x ∷ xs) = cond (test x) (Some x) (first_where test xs)

-- the parts after an extension marker, if there is one
abbrev pub added : {X : Type 0} → Option (Vec X) → List X
added None = []
added (Some more) = more.items

-- the first part that passes the test, of those before the extension marker and then of those after it
abbrev pub first_part : {X : Type 0} → (X → Bool) → List X → Option (Vec X) → Option X
first_part test root more = option_or (first_where test root) (first_where test (added more))

-- the item of an ENUMERATED
abbrev pub item_named : List ℕ → Shape → Option Label
item_named name (enumerated root more) = option_or (first_label name root) (first_label name (more_labels more))
item_named name _ = None

-- the component of a SEQUENCE
abbrev pub component_named : List ℕ → Shape → Option Part
component_named name (sequence root more) = option_or (first_field name root) (first_field name (more_fields more))
component_named name _ = None

-- the alternative of a CHOICE
abbrev pub alternative_named : List ℕ → Shape → Option Branch
alternative_named name (choice root more) =
    option_or (first_branch name root) (first_branch name (more_alternatives more))
alternative_named name _ = None
