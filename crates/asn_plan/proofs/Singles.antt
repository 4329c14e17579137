-- Which nodes are of types whose only value has no units, and one entry.
use Rattle.std.proofs.Common.{◌≡◌, Bool, true, List, refl, sym}
use Rattle.std.proofs.lemmas.Bool.{true≢false}
use Rattle.asn_values.specs.Shape.{Shape, enumerated, sequence, sequence_of, choice}
use Rattle.asn_values.specs.View.{shape_of}
use Rattle.asn_plan.specs.declared.plan.Between.{Between}
use Rattle.asn_plan.specs.declared.plan.Items.{Items}
use Rattle.asn_plan.specs.declared.plan.Kind.TheVariants as kind
use Rattle.asn_plan.specs.declared.plan.Leaf.{Leaf}
use Rattle.asn_plan.specs.declared.plan.Node.{Node}
use Rattle.asn_plan.specs.Enumerations.{is_enumerated}
use Rattle.asn_plan.specs.Nothing.{HasEntries, has_nothing, only_value}
use Rattle.asn_plan.specs.Plans.{IsPlan}
use Rattle.asn_plan.specs.Ranged.{ranged}
use Rattle.asn_plan.specs.SimpleTypes.{is_simple}
use Rattle.asn_plan.specs.Taken.{entries_of}
use Rattle.asn_plan.proofs.NodeKinds.{number_is, item_is, leaf_is}

simple_entries : (t : Shape) → is_simple t ≡ true → 1 ≡ entries_of (only_value t)
simple_entries (sequence root more) e = absurd (true≢false (sym e))
simple_entries (sequence_of t s) e = absurd (true≢false (sym e))
simple_entries (choice root more) e = absurd (true≢false (sym e))
simple_entries t e = refl

enumerated_entries : (t : Shape) → is_enumerated t ≡ true → 1 ≡ entries_of (only_value t)
enumerated_entries (enumerated root more) e = refl
enumerated_entries t e = absurd (true≢false (sym e))

pub number_counted : (single : Bool) (ns : List Node) (t : Shape) (b : Between) → has_nothing single (ranged b.range) ≡ true
    → IsPlan ns t (kind.Number b) → HasEntries single 1 t
number_counted single ns t b h p = rw (number_is ns t b p) (h, refl)

pub item_counted : (single : Bool) (ns : List Node) (t : Shape) (e : Items) → has_nothing single (shape_of e.of.ty) ≡ true
    → IsPlan ns t (kind.Item e) → HasEntries single 1 t
item_counted single ns t e h p = rw (item_is ns t e p) (h, enumerated_entries (shape_of e.of.ty) e.is_enumeration.is)

pub leaf_counted : (single : Bool) (ns : List Node) (t : Shape) (l : Leaf) → has_nothing single (shape_of l.ty) ≡ true
    → IsPlan ns t (kind.Leaf l) → HasEntries single 1 t
leaf_counted single ns t l h p = rw (leaf_is ns t l p).0 (h, simple_entries (shape_of l.ty) l.simple)
