-- What a node says of the types that it is a plan of.
use Rattle.std.proofs.Common.{◌≡◌, ◌≤◌, ◌<◌, ◌+◌, ◌∷◌, ◌∙◌, sym, arith, true, false, List, take, drop, length, get_or, refl, Option, Some, None}
use Rattle.std.specs.Prelude.{IfSome}
use Rattle.std.proofs.Math.Seq.{drop-cons}
use Rattle.std.proofs.Math.Numerals.{add-one}
use Rattle.asn_values.specs.Shape.{Shape, Fields, MoreFields, Alternatives, MoreAlternatives, boolean, sequence, sequence_of, choice}
use Rattle.asn_values.specs.View.{shape_of, size_range_of}
use Rattle.asn_rules.specs.Listed.{bitmap_length}
use Rattle.asn_walk.specs.Coding.{added, added_alternatives}
use Rattle.asn_plan.specs.Nothing.{HasEntriesIfAny}
use Rattle.asn_plan.specs.Ranged.{ranged}
use Rattle.asn_plan.specs.declared.plan.AlternativeRows.{AlternativeRows}
use Rattle.asn_plan.specs.declared.plan.Between.{Between}
use Rattle.asn_plan.specs.declared.plan.ComponentRows.{ComponentRows}
use Rattle.asn_plan.specs.declared.plan.ElementRow.{ElementRow}
use Rattle.asn_plan.specs.declared.plan.Items.{Items}
use Rattle.asn_plan.specs.declared.plan.Kind.TheVariants as kind
use Rattle.asn_plan.specs.declared.plan.Leaf.{Leaf}
use Rattle.asn_plan.specs.declared.plan.Node.{Node}
use Rattle.asn_plan.specs.Plans.{IsLeafPlan, IsPlan, ArePlans, ArePlansOfMore, ArePlansOfEach, ArePlansOfOthers, row}

-- what is said of a part, if there is one, is said of it otherwise
pub if_some : {A : Type 0} (o : Option A) (P Q : A → Type 0) → ((a : A) → P a → Q a) → IfSome o P → IfSome o Q
if_some None P Q f h = tt
if_some (Some a) P Q f h = f a h

pub number_is : (ns : List Node) (t : Shape) (b : Between) → IsPlan ns t (kind.Number b) → t ≡ ranged b.range
number_is ns (sequence root more) b p = absurd p
number_is ns (sequence_of u s) b p = absurd p
number_is ns (choice root more) b p = absurd p
number_is ns t b p = p

pub truth_is : (ns : List Node) (t : Shape) → IsPlan ns t kind.Truth → t ≡ boolean
truth_is ns (sequence root more) p = absurd p
truth_is ns (sequence_of u s) p = absurd p
truth_is ns (choice root more) p = absurd p
truth_is ns t p = p

pub item_is : (ns : List Node) (t : Shape) (e : Items) → IsPlan ns t (kind.Item e) → t ≡ shape_of e.of.ty
item_is ns (sequence root more) e p = absurd p
item_is ns (sequence_of u s) e p = absurd p
item_is ns (choice root more) e p = absurd p
item_is ns t e p = p

pub leaf_is : (ns : List Node) (t : Shape) (l : Leaf) → IsPlan ns t (kind.Leaf l) → IsLeafPlan (kind.Leaf l) t
leaf_is ns (sequence root more) l p = absurd p
leaf_is ns (sequence_of u s) l p = absurd p
leaf_is ns (choice root more) l p = absurd p
leaf_is ns t l p = p

pub record IsSequence (ns : List Node) (s : ComponentRows) (t : Shape) : Type 0 where
  pub root : Fields
  pub more : MoreFields
  pub is : t ≡ sequence root more
  pub width : s.width ≡ bitmap_length root
  pub additions : s.additions ≡ added more
  pub plans : ArePlans (take s.begin ns) (row s.begin s.middle ns) root
  pub others : ArePlansOfMore (take s.begin ns) (row s.middle s.end ns) more
  pub entries : HasEntriesIfAny false s.entries t
  pub single : HasEntriesIfAny true s.single_entries t

pub sequence_is : (ns : List Node) (t : Shape) (s : ComponentRows) → IsPlan ns t (kind.Sequence s) → IsSequence ns s t
sequence_is ns (sequence root more) s p = record {
  root = root;
  more = more;
  is = refl;
  width = p.3;
  additions = p.4;
  plans = p.5;
  others = p.6;
  entries = p.7;
  single = p.8;
}
sequence_is ns t s p = absurd p

-- ---- SEQUENCE OF

same_first : (x y : Node) (xs ys : List Node) → x ∷ xs ≡ y ∷ ys → x ≡ y
same_first x y xs ys e = cc

pub record IsList (ns : List Node) (l : ElementRow) (x : Node) (t : Shape) : Type 0 where
  pub element : Shape
  pub is : t ≡ sequence_of element (size_range_of l.size)
  pub plan : IsPlan (take l.element ns) element x.kind

pub list_is : (ns : List Node) (t : Shape) (l : ElementRow) (x : Node) → l.element < length ns → x ≡ get_or ns l.element x
    → IsPlan ns t (kind.List l) → IsList ns l x t
list_is ns (sequence_of t s) l x h e p =
    let next : drop l.element ns ≡ x ∷ drop (l.element + 1) ns = rw (add-one, drop-cons ns l.element x h, ← e) refl in
    let same : p.2 ≡ x = same_first p.2 x p.3 (drop (l.element + 1) ns) (sym p.4 ∙ next) in
    record {
      element = t;
      is = rw p.1 refl;
      plan = rw same at p.5;
    }
list_is ns t l x h e p = absurd p

-- ---- CHOICE

pub record IsChoice (ns : List Node) (a : AlternativeRows) (t : Shape) : Type 0 where
  pub root : Alternatives
  pub more : MoreAlternatives
  pub is : t ≡ choice root more
  pub order : a.begin ≤ a.middle
  pub inside : a.middle ≤ length ns
  pub additions : a.additions ≡ added_alternatives more
  pub plans : ArePlansOfEach (take a.begin ns) (row a.begin a.middle ns) root
  pub others : ArePlansOfOthers (take a.begin ns) (row a.middle a.end ns) more

pub choice_is : (ns : List Node) (t : Shape) (a : AlternativeRows) → IsPlan ns t (kind.Choice a) → IsChoice ns a t
choice_is ns (choice root more) a p = record {
  root = root;
  more = more;
  is = refl;
  order = p.0;
  inside = omega (arith, p.1, p.2);
  additions = p.3;
  plans = p.4;
  others = p.5;
}
choice_is ns t a p = absurd p
