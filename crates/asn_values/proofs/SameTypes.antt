-- Two types are the same where their parts are.
use Rattle.std.proofs.Common.{◌≡◌, ◌↔◌, Bool, false, IsTrue, List, [], ◌∷◌, map, Option, Some, Vec, Global, refl, ap, ap₂, sym, ◌∙◌}
use mathlib.Core.Bool.{true≢false}
use Rattle.asn_values.specs.declared.types.Alt.{Alt}
use Rattle.asn_values.specs.declared.types.Field.{Field}
use Rattle.asn_values.specs.declared.types.AsnType.{AsnType, Seq, Choice}
use Rattle.asn_values.specs.Shape.{Fields, no_fields, field, MoreFields, marked, sequence, Alternatives, no_alternatives, one_of, MoreAlternatives, marked_choice, choice}
use Rattle.asn_values.specs.View.{Part, Branch, shape_of, fields_of, part_of_field, more_fields_of, alternatives_of, branch_of, more_alternatives_of}
use Rattle.asn_values.proofs.Views.{shape_of-Seq, shape_of-Choice}

-- ---- components

abbrev parts_in : Fields → List Part
parts_in no_fields = []
parts_in (field name demand t fs) = record { name = name; demand = demand; shape = t } ∷ parts_in fs

parts_back : (ps : List Part) → parts_in (fields_of ps) ≡ ps
parts_back [] = refl
parts_back (p ∷ ps) = ap (λ r. p ∷ r) (parts_back ps)

pub same_parts : (ps qs : List Part) → fields_of ps ≡ fields_of qs → ps ≡ qs
same_parts ps qs e = sym (parts_back ps) ∙ (ap parts_in e ∙ parts_back qs)

sequence_root : (a b : Fields) (m n : MoreFields) → sequence a m ≡ sequence b n → a ≡ b
sequence_root a b m n e = cc

sequence_more : (a b : Fields) (m n : MoreFields) → sequence a m ≡ sequence b n → m ≡ n
sequence_more a b m n e = cc

marked_one : (a b : Fields) → marked a ≡ marked b → a ≡ b
marked_one a b e = cc

seen : (x : AsnType) (v : Vec Field Global) (m : Option (Vec Field Global)) → x ≡ Seq v m → shape_of x ≡ sequence (fields_of (map part_of_field v.items)) (more_fields_of m)
seen x v m e = rw e (shape_of-Seq v m)

pub roots_of_same :
    (x y : AsnType) (v w : Vec Field Global) (m n : Option (Vec Field Global)) → x ≡ Seq v m → y ≡ Seq w n →
    shape_of x ≡ shape_of y → map part_of_field v.items ≡ map part_of_field w.items
roots_of_same x y v w m n ex ey e =
    same_parts (map part_of_field v.items) (map part_of_field w.items) (sequence_root _ _ _ _ (sym (seen x v m ex) ∙ (e ∙ seen y w n ey)))

pub more_of_same :
    (x y : AsnType) (v w : Vec Field Global) (m n : Option (Vec Field Global)) → x ≡ Seq v m → y ≡ Seq w n →
    shape_of x ≡ shape_of y → more_fields_of m ≡ more_fields_of n
more_of_same x y v w m n ex ey e = sequence_more _ _ _ _ (sym (seen x v m ex) ∙ (e ∙ seen y w n ey))

pub same_of_parts :
    (x y : AsnType) (v w : Vec Field Global) (m n : Option (Vec Field Global)) → x ≡ Seq v m → y ≡ Seq w n →
    map part_of_field v.items ≡ map part_of_field w.items → more_fields_of m ≡ more_fields_of n → shape_of x ≡ shape_of y
same_of_parts x y v w m n ex ey e f = seen x v m ex ∙ (ap₂ (λ ps more. sequence (fields_of ps) more) e f ∙ sym (seen y w n ey))

-- a test of the components in two roots that fails is one of the types
pub other_root :
    (x y : AsnType) (v w : Vec Field Global) (m n : Option (Vec Field Global)) → x ≡ Seq v m → y ≡ Seq w n →
    (fs gs : List Field) → fs ≡ v.items → gs ≡ w.items →
    (b : Bool) → IsTrue b ↔ (map part_of_field fs ≡ map part_of_field gs) → b ≡ false →
    IsTrue b ↔ (shape_of x ≡ shape_of y)
other_root x y v w m n ex ey fs gs ef eg b (there, back) failed = (
  λ h. absurd (true≢false (sym h ∙ failed)),
  λ e. back (ap (map part_of_field) ef ∙ (roots_of_same x y v w m n ex ey e ∙ sym (ap (map part_of_field) eg))),
)

-- after equal roots a test of the additions is one of the types
pub by_additions :
    (x y : AsnType) (v w : Vec Field Global) (m n : Option (Vec Field Global)) → x ≡ Seq v m → y ≡ Seq w n →
    (fs gs : List Field) → fs ≡ v.items → gs ≡ w.items → map part_of_field fs ≡ map part_of_field gs →
    (more others : Vec Field Global) → m ≡ Some more → n ≡ Some others →
    (hs is : List Field) → hs ≡ more.items → is ≡ others.items →
    (b : Bool) → IsTrue b ↔ (map part_of_field hs ≡ map part_of_field is) →
    IsTrue b ↔ (shape_of x ≡ shape_of y)
by_additions x y v w m n ex ey fs gs ef eg root more others em en hs is eh ei b (there, back) =
    let roots : map part_of_field v.items ≡ map part_of_field w.items = sym (ap (map part_of_field) ef) ∙ (root ∙ ap (map part_of_field) eg) in
    let left : more_fields_of m ≡ marked (fields_of (map part_of_field hs)) = rw (em, eh) refl in
    let right : more_fields_of n ≡ marked (fields_of (map part_of_field is)) = rw (en, ei) refl in (
      λ h. same_of_parts x y v w m n ex ey roots (left ∙ (ap (λ ps. marked (fields_of ps)) (there h) ∙ sym right)),
      λ e. back (same_parts _ _ (marked_one _ _ (sym left ∙ (more_of_same x y v w m n ex ey e ∙ right)))),
    )

-- ---- alternatives

abbrev branches_in : Alternatives → List Branch
branches_in no_alternatives = []
branches_in (one_of name t alts) = record { name = name; shape = t } ∷ branches_in alts

branches_back : (bs : List Branch) → branches_in (alternatives_of bs) ≡ bs
branches_back [] = refl
branches_back (b ∷ bs) = ap (λ r. b ∷ r) (branches_back bs)

pub same_branches : (bs cs : List Branch) → alternatives_of bs ≡ alternatives_of cs → bs ≡ cs
same_branches bs cs e = sym (branches_back bs) ∙ (ap branches_in e ∙ branches_back cs)

choice_root : (a b : Alternatives) (m n : MoreAlternatives) → choice a m ≡ choice b n → a ≡ b
choice_root a b m n e = cc

choice_more : (a b : Alternatives) (m n : MoreAlternatives) → choice a m ≡ choice b n → m ≡ n
choice_more a b m n e = cc

marked_choice_one : (a b : Alternatives) → marked_choice a ≡ marked_choice b → a ≡ b
marked_choice_one a b e = cc

chosen : (x : AsnType) (v : Vec Alt Global) (m : Option (Vec Alt Global)) → x ≡ Choice v m → shape_of x ≡ choice (alternatives_of (map branch_of v.items)) (more_alternatives_of m)
chosen x v m e = rw e (shape_of-Choice v m)

pub roots_of_same_choice :
    (x y : AsnType) (v w : Vec Alt Global) (m n : Option (Vec Alt Global)) → x ≡ Choice v m → y ≡ Choice w n →
    shape_of x ≡ shape_of y → map branch_of v.items ≡ map branch_of w.items
roots_of_same_choice x y v w m n ex ey e =
    same_branches (map branch_of v.items) (map branch_of w.items) (choice_root _ _ _ _ (sym (chosen x v m ex) ∙ (e ∙ chosen y w n ey)))

pub more_of_same_choice :
    (x y : AsnType) (v w : Vec Alt Global) (m n : Option (Vec Alt Global)) → x ≡ Choice v m → y ≡ Choice w n →
    shape_of x ≡ shape_of y → more_alternatives_of m ≡ more_alternatives_of n
more_of_same_choice x y v w m n ex ey e = choice_more _ _ _ _ (sym (chosen x v m ex) ∙ (e ∙ chosen y w n ey))

pub same_of_branches :
    (x y : AsnType) (v w : Vec Alt Global) (m n : Option (Vec Alt Global)) → x ≡ Choice v m → y ≡ Choice w n →
    map branch_of v.items ≡ map branch_of w.items → more_alternatives_of m ≡ more_alternatives_of n → shape_of x ≡ shape_of y
same_of_branches x y v w m n ex ey e f = chosen x v m ex ∙ (ap₂ (λ bs more. choice (alternatives_of bs) more) e f ∙ sym (chosen y w n ey))

-- a test of the alternatives in two roots that fails is one of the types
pub other_choice :
    (x y : AsnType) (v w : Vec Alt Global) (m n : Option (Vec Alt Global)) → x ≡ Choice v m → y ≡ Choice w n →
    (fs gs : List Alt) → fs ≡ v.items → gs ≡ w.items →
    (b : Bool) → IsTrue b ↔ (map branch_of fs ≡ map branch_of gs) → b ≡ false →
    IsTrue b ↔ (shape_of x ≡ shape_of y)
other_choice x y v w m n ex ey fs gs ef eg b (there, back) failed = (
  λ h. absurd (true≢false (sym h ∙ failed)),
  λ e. back (ap (map branch_of) ef ∙ (roots_of_same_choice x y v w m n ex ey e ∙ sym (ap (map branch_of) eg))),
)

-- after equal roots a test of the additions is one of the types
pub by_added_alternatives :
    (x y : AsnType) (v w : Vec Alt Global) (m n : Option (Vec Alt Global)) → x ≡ Choice v m → y ≡ Choice w n →
    (fs gs : List Alt) → fs ≡ v.items → gs ≡ w.items → map branch_of fs ≡ map branch_of gs →
    (more others : Vec Alt Global) → m ≡ Some more → n ≡ Some others →
    (hs is : List Alt) → hs ≡ more.items → is ≡ others.items →
    (b : Bool) → IsTrue b ↔ (map branch_of hs ≡ map branch_of is) →
    IsTrue b ↔ (shape_of x ≡ shape_of y)
by_added_alternatives x y v w m n ex ey fs gs ef eg root more others em en hs is eh ei b (there, back) =
    let roots : map branch_of v.items ≡ map branch_of w.items = sym (ap (map branch_of) ef) ∙ (root ∙ ap (map branch_of) eg) in
    let left : more_alternatives_of m ≡ marked_choice (alternatives_of (map branch_of hs)) = rw (em, eh) refl in
    let right : more_alternatives_of n ≡ marked_choice (alternatives_of (map branch_of is)) = rw (en, ei) refl in (
      λ h. same_of_branches x y v w m n ex ey roots (left ∙ (ap (λ bs. marked_choice (alternatives_of bs)) (there h) ∙ sym right)),
      λ e. back (same_branches _ _ (marked_choice_one _ _ (sym left ∙ (more_of_same_choice x y v w m n ex ey e ∙ right)))),
    )
