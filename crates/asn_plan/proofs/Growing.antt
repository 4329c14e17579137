-- A node is a plan of the same types where more nodes stand after those before it, and how the nodes of components grow.
use Rattle.std.proofs.Common.{zero, suc, map, get_or, append_assoc, append-nil, ◌≡◌, ◌-◌, ◌≤◌, ◌<◌, ◌+◌, ℕ, List, [], ◌∷◌, ◌++◌, length, take, drop, refl, sym, ap, ◌∙◌, length-drop, length-append, arith}
use Rattle.std.proofs.lemmas.List.{take-append-le, drop-append-le, map-append, take_at, drop_at}
use Rattle.std.proofs.Math.Seq.{take-suc}
use Rattle.std.proofs.Math.Numerals.{add-one}
use Rattle.asn_values.specs.declared.types.Alt.{Alt}
use Rattle.asn_values.specs.declared.types.Field.{Field}
use Rattle.asn_values.specs.Parts.{AreOfProfile, IsGoodDemand}
use Rattle.asn_values.specs.Profile.{InProfile}
use Rattle.asn_values.specs.Shape.{Shape, Fields, no_fields, field, append_fields, Alternatives, no_alternatives, one_of, sequence, sequence_of, choice}
use Rattle.asn_values.specs.View.{Part, fields_of, part_of_field, Branch, alternatives_of, branch_of, size_range_of}
use Rattle.asn_plan.specs.declared.plan.ElementRow.{ElementRow}
use Rattle.asn_plan.specs.declared.plan.Node.{Node}
use Rattle.asn_plan.specs.declared.plan.Kind.{Kind}
use Rattle.asn_plan.specs.declared.plan.Kind.TheVariants as kind
use Rattle.asn_plan.specs.Plans.{IsPlan, ArePlans, ArePlansOfEach, IsPresence, row}

-- the nodes of a row stay where they are
same_row : (ns more : List Node) (a b : ℕ) → a ≤ b → b ≤ length ns → row a b (ns ++ more) ≡ row a b ns
same_row ns more a b l h = ap (take (b - a)) (drop-append-le a ns more (omega (arith, l, h))) ∙ take-append-le (b - a) (drop a ns) more (omega (arith, l, h, length-drop a ns))

pub plan_more : (ns more : List Node) (t : Shape) (k : Kind) → IsPlan ns t k → IsPlan (ns ++ more) t k
plan_more ns more (sequence root others) (kind.Number b) p = absurd p
plan_more ns more (sequence root others) kind.Truth p = absurd p
plan_more ns more (sequence root others) (kind.Item e) p = absurd p
plan_more ns more (sequence root others) (kind.Leaf l) p = absurd p
plan_more ns more (sequence root others) (kind.Sequence s) p =
    let before : take s.begin (ns ++ more) ≡ take s.begin ns = take-append-le s.begin ns more (omega (arith, p.0, p.1, p.2)) in
    let first = same_row ns more s.begin s.middle p.0 (omega (arith, p.1, p.2)) in
    let rest = same_row ns more s.middle s.end p.1 p.2 in
    (p.0, p.1, omega (arith, p.2, length-append ns more), p.3, p.4, rw (before, first) p.5, rw (before, rest) p.6, p.7, p.8)
plan_more ns more (sequence root others) (kind.List l) p = absurd p
plan_more ns more (sequence root others) (kind.Choice a) p = absurd p
plan_more ns more (sequence_of t s) (kind.Number b) p = absurd p
plan_more ns more (sequence_of t s) kind.Truth p = absurd p
plan_more ns more (sequence_of t s) (kind.Item e) p = absurd p
plan_more ns more (sequence_of t s) (kind.Leaf l) p = absurd p
plan_more ns more (sequence_of t s) (kind.Sequence q) p = absurd p
plan_more ns more (sequence_of t s) (kind.List l) p =
    let before : take l.element (ns ++ more) ≡ take l.element ns = take-append-le l.element ns more (omega (arith, p.0)) in
    let from : drop l.element (ns ++ more) ≡ p.2 ∷ (p.3 ++ more) = drop-append-le l.element ns more (omega (arith, p.0)) ∙ ap (λ (l : List Node). l ++ more) p.4 in
    (omega (arith, p.0, length-append ns more), p.1, p.2, p.3 ++ more, from, rw before p.5)
plan_more ns more (sequence_of t s) (kind.Choice a) p = absurd p
plan_more ns more (choice root others) (kind.Number b) p = absurd p
plan_more ns more (choice root others) kind.Truth p = absurd p
plan_more ns more (choice root others) (kind.Item e) p = absurd p
plan_more ns more (choice root others) (kind.Leaf l) p = absurd p
plan_more ns more (choice root others) (kind.Sequence s) p = absurd p
plan_more ns more (choice root others) (kind.List l) p = absurd p
plan_more ns more (choice root others) (kind.Choice a) p =
    let before : take a.begin (ns ++ more) ≡ take a.begin ns = take-append-le a.begin ns more (omega (arith, p.0, p.1, p.2)) in
    let first = same_row ns more a.begin a.middle p.0 (omega (arith, p.1, p.2)) in
    let rest = same_row ns more a.middle a.end p.1 p.2 in
    (p.0, p.1, omega (arith, p.2, length-append ns more), p.3, rw (before, first) p.4, rw (before, rest) p.5)
plan_more ns more t k p = p

pub plans_more : (ns more ms : List Node) (fs : Fields) → ArePlans ns ms fs → ArePlans (ns ++ more) ms fs
plans_more ns more [] no_fields p = p
plans_more ns more (m ∷ ms) (field name demand t fs) p = (p.0, plan_more ns more t m.kind p.1, plans_more ns more ms fs p.2)
plans_more ns more [] (field name demand t fs) p = absurd p
plans_more ns more (m ∷ ms) no_fields p = absurd p

-- nodes of components are those of the first, and of the others
plans_on : (ns ps ms : List Node) (fs gs : Fields) → ArePlans ns ps fs → ArePlans ns ms gs → ArePlans ns (ps ++ ms) (append_fields fs gs)
plans_on ns [] ms no_fields gs p q = q
plans_on ns (m ∷ ps) ms (field name demand t fs) gs p q = (p.0, p.1, plans_on ns ps ms fs gs p.2 q)
plans_on ns [] ms (field name demand t fs) gs p q = absurd p
plans_on ns (m ∷ ps) ms no_fields gs p q = absurd p

-- one component more
seen_more : (ps : List Part) (p : Part) → fields_of (ps ++ p ∷ []) ≡ append_fields (fields_of ps) (fields_of (p ∷ []))
seen_more [] p = refl
seen_more (q ∷ ps) p = ap (field q.name q.demand q.shape) (seen_more ps p)

-- the nodes so far are plans of the components so far
pub record PlannedUpTo (old : List Node) (done : List Part) (ns parts : List Node) : Type 0 where
  pub more : List Node
  pub added : ns ≡ old ++ more
  pub plans : ArePlans ns parts (fields_of done)

pub planned_starts : (old : List Node) → PlannedUpTo old [] old []
planned_starts old = record { more = []; added = sym (append-nil old); plans = tt }

pub planned_more : {old : List Node} {done : List Part} {ns parts : List Node} → PlannedUpTo old done ns parts
    → (p : Part) (m : Node) (os new : List Node) → os ≡ ns ++ new → IsPresence m.presence p.demand p.shape
    → IsPlan os p.shape m.kind → PlannedUpTo old (done ++ p ∷ []) os (parts ++ m ∷ [])
planned_more {old} {done} {ns} {parts} h p m os new e d k = record {
  more = h.more ++ new;
  added = e ∙ ap (λ (l : List Node). l ++ new) h.added ∙ append_assoc old h.more new;
  plans = rw (seen_more done p) (plans_on os parts (m ∷ []) (fields_of done) (fields_of (p ∷ [])) (rw e (plans_more ns new parts (fields_of done) h.plans)) (d, k, tt));
}

-- the components so far, and the next
pub seen_next : (fs : List Field) (i : ℕ) (x : Field) → i < length fs → x ≡ get_or fs i x
    → map part_of_field (take (i + 1) fs) ≡ map part_of_field (take i fs) ++ part_of_field x ∷ []
seen_next fs i x h e =
    let split : take (i + 1) fs ≡ take i fs ++ x ∷ [] = rw (add-one, take-suc fs i x h, ← e) refl in
    ap (map part_of_field) split ∙ map-append part_of_field (take i fs) (x ∷ [])

pub field_good : (fs : List Field) (i : ℕ) (d : Field) → i < length fs → AreOfProfile (fields_of (map part_of_field fs))
    → InProfile (part_of_field (get_or fs i d)).shape
    × IsGoodDemand (part_of_field (get_or fs i d)).demand (part_of_field (get_or fs i d)).shape
field_good [] i d h a = absurd (omega (arith, h))
field_good (f ∷ fs) zero d h a = (a.0, a.1)
field_good (f ∷ fs) (suc i) d h a = field_good fs i d (omega (arith, h)) a.2

-- ---- two rows after the nodes that they need

pub record Placed (a b c ns : List Node) (x y z : ℕ) : Type 0 where
  pub before : take x ns ≡ a
  pub first : row x y ns ≡ b
  pub rest : row y z ns ≡ c

pub placed : (a b c ns : List Node) (x y z : ℕ) → ns ≡ (a ++ b) ++ c → x ≡ length a → y ≡ x + length b
    → z ≡ y + length c → Placed a b c ns x y z
placed a b c ns x y z e f g h =
    let whole : ns ≡ a ++ (b ++ c) = e ∙ append_assoc a b c in
    let after : drop x ns ≡ b ++ c = ap (drop x) whole ∙ drop_at a (b ++ c) x (sym f) in
    let last : drop y ns ≡ c = ap (drop y) e ∙ drop_at (a ++ b) c y (omega (arith, f, g, length-append a b)) in
    record {
      before = ap (take x) whole ∙ take_at a (b ++ c) x (sym f);
      first = ap (take (y - x)) after ∙ take_at b c (y - x) (omega (arith, g));
      rest = ap (take (z - y)) last ∙ ap (λ (l : List Node). take (z - y) l) (sym (append-nil c)) ∙ take_at c [] (z - y) (omega (arith, h));
    }

-- ---- alternatives

pub each_more : (ns more ms : List Node) (alts : Alternatives) → ArePlansOfEach ns ms alts → ArePlansOfEach (ns ++ more) ms alts
each_more ns more [] no_alternatives p = p
each_more ns more (m ∷ ms) (one_of name t alts) p = (plan_more ns more t m.kind p.0, each_more ns more ms alts p.1)
each_more ns more [] (one_of name t alts) p = absurd p
each_more ns more (m ∷ ms) no_alternatives p = absurd p

each_on : (ns ps ms : List Node) (xs ys : List Branch) → ArePlansOfEach ns ps (alternatives_of xs)
    → ArePlansOfEach ns ms (alternatives_of ys) → ArePlansOfEach ns (ps ++ ms) (alternatives_of (xs ++ ys))
each_on ns [] ms [] ys p q = q
each_on ns (m ∷ ps) ms (x ∷ xs) ys p q = (p.0, each_on ns ps ms xs ys p.1 q)
each_on ns [] ms (x ∷ xs) ys p q = absurd p
each_on ns (m ∷ ps) ms [] ys p q = absurd p

-- the nodes so far are plans of the alternatives so far
pub record PlannedEach (old : List Node) (done : List Branch) (ns parts : List Node) : Type 0 where
  pub more : List Node
  pub added : ns ≡ old ++ more
  pub plans : ArePlansOfEach ns parts (alternatives_of done)

pub each_starts : (old : List Node) → PlannedEach old [] old []
each_starts old = record { more = []; added = sym (append-nil old); plans = tt }

pub each_further : {old : List Node} {done : List Branch} {ns parts : List Node} → PlannedEach old done ns parts
    → (b : Branch) (m : Node) (os new : List Node) → os ≡ ns ++ new → IsPlan os b.shape m.kind
    → PlannedEach old (done ++ b ∷ []) os (parts ++ m ∷ [])
each_further {old} {done} {ns} {parts} h b m os new e k = record {
  more = h.more ++ new;
  added = e ∙ ap (λ (l : List Node). l ++ new) h.added ∙ append_assoc old h.more new;
  plans = each_on os parts (m ∷ []) done (b ∷ []) (rw e (each_more ns new parts (alternatives_of done) h.plans)) (k, tt);
}

-- the alternatives so far, and the next
pub branch_next : (alts : List Alt) (i : ℕ) (x : Alt) → i < length alts → x ≡ get_or alts i x
    → map branch_of (take (i + 1) alts) ≡ map branch_of (take i alts) ++ branch_of x ∷ []
branch_next alts i x h e =
    let split : take (i + 1) alts ≡ take i alts ++ x ∷ [] = rw (add-one, take-suc alts i x h, ← e) refl in
    ap (map branch_of) split ∙ map-append branch_of (take i alts) (x ∷ [])

-- ---- one node after those that it needs

pub element_placed : (old ns : List Node) (m : Node) (l : ElementRow) (t : Shape) → ns ≡ old ++ m ∷ [] → l.element ≡ length old
    → IsPlan old t m.kind → IsPlan ns (sequence_of t (size_range_of l.size)) (kind.List l)
element_placed old ns m l t e f p =
    let from : drop l.element ns ≡ m ∷ [] = ap (drop l.element) e ∙ drop_at old (m ∷ []) l.element (sym f) in
    let before : take l.element ns ≡ old = ap (take l.element) e ∙ take_at old (m ∷ []) l.element (sym f) in
    (omega (arith, f, ap length e, length-append old (m ∷ [])), refl, m, [], from, rw before p)
