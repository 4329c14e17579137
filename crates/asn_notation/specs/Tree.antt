-- What a module's text says, as a tree: references are not followed.
use Rattle.std.specs.Prelude.{ℕ, ℤ, Bool, List, [], ◌∷◌, Option, Some, None, map, option_map}
use Rattle.std.specs.Global.{Vec}
use Rattle.asn_notation.specs.declared.notation.RangeNotation.{RangeNotation}
use Rattle.asn_notation.specs.declared.notation.SizeNotation.{SizeNotation}
use Rattle.asn_notation.specs.declared.notation.ListSize.{ListSize}
use Rattle.asn_notation.specs.declared.notation.Constraint.{Constraint}
use Rattle.asn_notation.specs.declared.notation.StringKind.{StringKind}
use Rattle.asn_notation.specs.declared.notation.ItemNotation.{ItemNotation}
use Rattle.asn_notation.specs.declared.notation.DefaultNotation.{DefaultNotation}
use Rattle.asn_notation.specs.declared.notation.DefaultNotation.TheVariants as default_notation
use Rattle.asn_notation.specs.declared.notation.NeedNotation.{NeedNotation}
use Rattle.asn_notation.specs.declared.notation.NeedNotation.TheVariants as need_notation
use Rattle.asn_notation.specs.declared.notation.TypeNotation.{TypeNotation}
use Rattle.asn_notation.specs.declared.notation.TypeNotation.TheOpen.{TypeNotation-F, AlternativeNotation-F}
use Rattle.asn_notation.specs.declared.notation.TypeNotation.TheOpen.{ComponentNotation-F}
use Rattle.asn_notation.specs.declared.notation.TypeNotation.TheFolds.{fold-TypeNotation, fold-AlternativeNotation}
use Rattle.asn_notation.specs.declared.notation.TypeNotation.TheFolds.{fold-ComponentNotation}
use Rattle.asn_notation.specs.declared.notation.AlternativeNotation.{AlternativeNotation}
use Rattle.asn_notation.specs.declared.notation.ComponentNotation.{ComponentNotation}
use Rattle.asn_notation.specs.declared.notation.AssignmentNotation.{AssignmentNotation}
use Rattle.asn_notation.specs.declared.notation.ModuleNotation.{ModuleNotation}

-- an item of an ENUMERATED, and its number where one is written
pub record Item : Type 0 where
  pub name : List ℕ
  pub number : Option ℤ

pub data Default : Type 0 where
  truth : Bool → Default
  number : ℤ → Default
  item : List ℕ → Default

pub data Need : Type 0 where
  must : Need
  optional : Need
  default : Default → Need

mutual
  pub data Tree : Type 0 where
    boolean : Tree
    null : Tree
    utf8 : Tree
    integer : Option RangeNotation → Tree
    enumerated : List Item → Option (List Item) → Tree
    text : StringKind → Option SizeNotation → Tree
    sequence : Components → More → Tree
    sequence_of : ListSize → Tree → Tree
    choice : Alternatives → MoreAlternatives → Tree
    reference : List ℕ → Constraint → Tree

  pub data Components : Type 0 where
    no_components : Components
    component : List ℕ → Tree → Need → Components → Components

  -- the components after "...", where it stands
  pub data More : Type 0 where
    closed : More
    marked : Components → More

  pub data Alternatives : Type 0 where
    no_alternatives : Alternatives
    alternative : List ℕ → Tree → Alternatives → Alternatives

  -- the alternatives after "...", where it stands
  pub data MoreAlternatives : Type 0 where
    closed_choice : MoreAlternatives
    marked_choice : Alternatives → MoreAlternatives

-- an assignment of a type to a name
pub record Assignment : Type 0 where
  pub name : List ℕ
  pub tree : Tree

-- a module: its name, and its assignments in the order of the text
pub record ModuleTree : Type 0 where
  pub name : List ℕ
  pub assignments : List Assignment

-- ---- views

abbrev pub item_view : ItemNotation → Item
item_view i = record { name = i.name.now; number = i.number }

abbrev pub items_view : List ItemNotation → List Item
items_view is = map item_view is

abbrev pub default_view : DefaultNotation → Default
default_view (default_notation.Boolean b) = truth b
default_view (default_notation.Number z) = number z
default_view (default_notation.Item s) = item s.now

abbrev pub need_view : NeedNotation → Need
need_view need_notation.Must = must
need_view need_notation.Optional = optional
need_view (need_notation.Default d) = default (default_view d)

-- a component, taken apart
pub record Part : Type 0 where
  pub name : List ℕ
  pub tree : Tree
  pub need : Need

abbrev pub components_of : List Part → Components
components_of [] = no_components
components_of (p ∷ ps) = component p.name p.tree p.need (components_of ps)

abbrev pub more_of : Option (List Part) → More
more_of None = closed
more_of (Some ps) = marked (components_of ps)

-- an alternative, taken apart
pub record Branch : Type 0 where
  pub name : List ℕ
  pub tree : Tree

abbrev pub alternatives_of : List Branch → Alternatives
alternatives_of [] = no_alternatives
alternatives_of (b ∷ bs) = alternative b.name b.tree (alternatives_of bs)

abbrev pub more_alternatives_of : Option (List Branch) → MoreAlternatives
more_alternatives_of None = closed_choice
more_alternatives_of (Some bs) = marked_choice (alternatives_of bs)

abbrev pub type_step : TypeNotation-F Tree Branch Part → Tree
type_step TypeNotation-F.Boolean = boolean
type_step TypeNotation-F.Null = null
type_step TypeNotation-F.Utf8 = utf8
type_step (TypeNotation-F.Integer r) = integer r
type_step (TypeNotation-F.Enumerated root more) =
    enumerated (items_view root.items) (option_map (λ v. items_view v.items) more)
type_step (TypeNotation-F.Text k s) = text k s
type_step (TypeNotation-F.Sequence root more) =
    sequence (components_of root.items) (more_of (option_map (λ v. v.items) more))
type_step (TypeNotation-F.SequenceOf s b) = sequence_of s b.value
type_step (TypeNotation-F.Choice root more) =
    choice (alternatives_of root.items) (more_alternatives_of (option_map (λ v. v.items) more))
type_step (TypeNotation-F.Reference n c left) = reference n.now c

abbrev pub branch_step : AlternativeNotation-F Tree Branch Part → Branch
branch_step a = record { name = a.name.now; tree = a.ty }

abbrev pub part_step : ComponentNotation-F Tree Branch Part → Part
part_step c = record { name = c.name.now; tree = c.ty; need = need_view c.need }

abbrev pub tree_view : TypeNotation → Tree
tree_view = fold-TypeNotation Tree Branch Part type_step branch_step part_step

abbrev pub part_view : ComponentNotation → Part
part_view = fold-ComponentNotation Tree Branch Part type_step branch_step part_step

abbrev pub parts_view : List ComponentNotation → List Part
parts_view cs = map part_view cs

abbrev pub branch_view : AlternativeNotation → Branch
branch_view = fold-AlternativeNotation Tree Branch Part type_step branch_step part_step

abbrev pub branches_view : List AlternativeNotation → List Branch
branches_view bs = map branch_view bs

-- the components of a SEQUENCE, and the alternatives of a CHOICE
abbrev pub components_view : List ComponentNotation → Components
components_view cs = components_of (parts_view cs)

abbrev pub alternatives_view : List AlternativeNotation → Alternatives
alternatives_view bs = alternatives_of (branches_view bs)

-- items, components and alternatives, as a reader gives them
abbrev pub read_items : Vec ItemNotation → List Item
read_items v = items_view v.items

abbrev pub read_parts : Vec ComponentNotation → List Part
read_parts v = parts_view v.items

abbrev pub read_branches : Vec AlternativeNotation → List Branch
read_branches v = branches_view v.items

-- those after "...", where it stands
abbrev pub more_items : Option (Vec ItemNotation) → Option (List Item)
more_items more = option_map (λ v. items_view v.items) more

abbrev pub more_parts : Option (Vec ComponentNotation) → Option (List Part)
more_parts more = option_map (λ v. parts_view v.items) more

abbrev pub more_branches : Option (Vec AlternativeNotation) → Option (List Branch)
more_branches more = option_map (λ v. branches_view v.items) more

-- those before "..." and those after it
abbrev pub marked_items : Vec ItemNotation × Option (Vec ItemNotation) → List Item × Option (List Item)
marked_items l = (items_view l.0.items, more_items l.1)

abbrev pub marked_parts : Vec ComponentNotation × Option (Vec ComponentNotation) → List Part × Option (List Part)
marked_parts l = (parts_view l.0.items, more_parts l.1)

abbrev pub marked_branches :
    Vec AlternativeNotation × Option (Vec AlternativeNotation) → List Branch × Option (List Branch)
marked_branches l = (branches_view l.0.items, more_branches l.1)

abbrev pub assignment_view : AssignmentNotation → Assignment
assignment_view a = record { name = a.name.now; tree = tree_view a.ty }

abbrev pub assignments_view : List AssignmentNotation → List Assignment
assignments_view xs = map assignment_view xs

abbrev pub module_view : ModuleNotation → ModuleTree
module_view m = record { name = m.name.now; assignments = assignments_view m.assignments.items }
