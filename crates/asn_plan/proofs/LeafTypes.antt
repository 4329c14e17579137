-- What is known of the types that the rules read by themselves.
use Rattle.std.proofs.Common.{◌≡◌, true, false, List, refl}
use Rattle.asn_values.specs.Datum.{Datum}
use Rattle.asn_values.specs.Profile.{good_default}
use Rattle.asn_values.specs.Shape.{Shape, boolean, sequence, sequence_of, choice}
use Rattle.asn_values.specs.View.{shape_of}
use Rattle.asn_plan.specs.Ranged.{ranged}
use Rattle.asn_walk.specs.Laws.{IsSimple}
use Rattle.asn_plan.specs.declared.plan.Node.{Node}
use Rattle.asn_plan.specs.declared.plan.Kind.{Kind}
use Rattle.asn_plan.specs.declared.plan.Kind.TheVariants as kind
use Rattle.asn_plan.specs.SimpleTypes.{is_simple}
use Rattle.asn_plan.specs.Plans.{IsLeafPlan, IsPlan}

no_truth : {A : Type 0} → false ≡ true → A
no_truth e = absurd (cc)

-- what the test of a kind says
pub simple_is : (t : Shape) → is_simple t ≡ true → IsSimple t
simple_is (sequence root more) e = no_truth e
simple_is (sequence_of t s) e = no_truth e
simple_is (choice root more) e = no_truth e
simple_is t e = tt

-- a type on which a DEFAULT may stand is such a type
pub default_is_simple : (t : Shape) (d : Datum) → good_default t d ≡ true → is_simple t ≡ true
default_is_simple (sequence root more) d e = no_truth e
default_is_simple (sequence_of t s) d e = no_truth e
default_is_simple (choice root more) d e = no_truth e
default_is_simple t d e = refl

-- a node of a type without parts is a plan of it, whatever stands before
pub leaf_plan : (ns : List Node) (t : Shape) (k : Kind) → IsLeafPlan k t → IsPlan ns t k
leaf_plan ns (sequence root more) (kind.Number b) p = absurd (let e : sequence root more ≡ ranged b.range = p in cc)
leaf_plan ns (sequence root more) kind.Truth p = absurd (let e : sequence root more ≡ boolean = p in cc)
leaf_plan ns (sequence root more) (kind.Item i) p = no_truth (let e : sequence root more ≡ shape_of i.of.ty = p in rw (← e) at i.is_enumeration.is)
leaf_plan ns (sequence root more) (kind.Leaf l) p = no_truth (let e : sequence root more ≡ shape_of l.ty = p.0 in rw (← e) at l.simple)
leaf_plan ns (sequence root more) (kind.Sequence s) p = absurd p
leaf_plan ns (sequence root more) (kind.List l) p = absurd p
leaf_plan ns (sequence root more) (kind.Choice a) p = absurd p
leaf_plan ns (sequence_of t s) (kind.Number b) p = absurd (let e : sequence_of t s ≡ ranged b.range = p in cc)
leaf_plan ns (sequence_of t s) kind.Truth p = absurd (let e : sequence_of t s ≡ boolean = p in cc)
leaf_plan ns (sequence_of t s) (kind.Item i) p = no_truth (let e : sequence_of t s ≡ shape_of i.of.ty = p in rw (← e) at i.is_enumeration.is)
leaf_plan ns (sequence_of t s) (kind.Leaf l) p = no_truth (let e : sequence_of t s ≡ shape_of l.ty = p.0 in rw (← e) at l.simple)
leaf_plan ns (sequence_of t s) (kind.Sequence q) p = absurd p
leaf_plan ns (sequence_of t s) (kind.List l) p = absurd p
leaf_plan ns (sequence_of t s) (kind.Choice a) p = absurd p
leaf_plan ns (choice root more) (kind.Number b) p = absurd (let e : choice root more ≡ ranged b.range = p in cc)
leaf_plan ns (choice root more) kind.Truth p = absurd (let e : choice root more ≡ boolean = p in cc)
leaf_plan ns (choice root more) (kind.Item i) p = no_truth (let e : choice root more ≡ shape_of i.of.ty = p in rw (← e) at i.is_enumeration.is)
leaf_plan ns (choice root more) (kind.Leaf l) p = no_truth (let e : choice root more ≡ shape_of l.ty = p.0 in rw (← e) at l.simple)
leaf_plan ns (choice root more) (kind.Sequence q) p = absurd p
leaf_plan ns (choice root more) (kind.List l) p = absurd p
leaf_plan ns (choice root more) (kind.Choice a) p = absurd p
leaf_plan ns t k p = p
