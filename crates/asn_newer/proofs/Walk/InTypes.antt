-- Types of the profile, as the reader holds them: what they are seen as, and how many parts they have at the most.
use Rattle.std.proofs.Common.{rules, ◌≡◌, ◌≤◌, ◌<◌, ◌+◌, ◌==◌, ℕ, zero, suc, false, List, length, map, Option, Some, None, Vec, Global, refl, sym, ap, subst, ◌∙◌, arith}
use Rattle.std.proofs.lemmas.Bool.{true≢false}
use Rattle.asn_values.specs.declared.types.Alt.{Alt}
use Rattle.asn_values.specs.declared.value.Value as values
use Rattle.asn_values.specs.declared.value.Value.TheVariants as value
use Rattle.asn_values.specs.Datum.{unknown_alternative}
use Rattle.asn_values.specs.declared.types.Field.{Field}
use Rattle.asn_values.specs.declared.types.Item.{Item}
use Rattle.asn_values.specs.declared.types.AsnType.{AsnType}
use Rattle.asn_values.specs.declared.types.AsnType as asn_type
use Rattle.asn_values.specs.Shape.{enumerated, closed_labels, marked_labels, Fields, MoreFields, sequence, marked, Alternatives, MoreAlternatives, closed_choice, marked_choice, choice, count}
use Rattle.asn_values.specs.Profile.{InProfile, EmptyRange, empty_range, most_alternatives}
use Rattle.asn_values.specs.View.{datum_of, shape_of, fields_of, part_of_field, branch_of, alternatives_of, more_alternatives_of, labels_seen}
use Rattle.asn_values.proofs.Alternatives.{count-of}
use Rattle.asn_values.proofs.Parts.{left_false}
use Rattle.asn_values.proofs.Views.{choice_of_alternatives, shape_of-Enum}
use Rattle.asn_walk.proofs.Parts.{few_components, few_added, few_indexes}

-- ---- SEQUENCE

pub few_of_root : (root : List Field) (more : MoreFields) → InProfile (sequence (fields_of (map part_of_field root)) more) → length root ≤ 64
few_of_root root more good = few_components {more = more} root refl good

pub few_additions : (root : Fields) (fs : List Field) → InProfile (sequence root (marked (fields_of (map part_of_field fs)))) → length fs ≤ 64
few_additions root fs good = few_added {root = root} fs refl good

-- ---- CHOICE

some_alternatives : (root : Alternatives) (more : MoreAlternatives) → InProfile (choice root more) → 0 < count root
some_alternatives root more good = go (count root) (left_false (empty_range (choice root more)) _ (good EmptyRange))
  where
    go : (n : ℕ) → (n == 0) ≡ false → 0 < n
    go zero e = absurd (true≢false e)
    go (suc n) e = omega arith

module _ (root : List Alt) where
  pub some_known : (more : MoreAlternatives) → InProfile (choice (alternatives_of (map branch_of root)) more) → 0 < length root
  some_known more good = subst (λ (n : ℕ). 0 < n) (count-of root) (some_alternatives (alternatives_of (map branch_of root)) more good)

  pub few_closed : InProfile (choice (alternatives_of (map branch_of root)) closed_choice) → length root ≤ most_alternatives
  few_closed good = subst (λ (n : ℕ). n ≤ most_alternatives) (count-of root) (few_indexes (alternatives_of (map branch_of root)) closed_choice good)

  pub few_marked : (more : List Alt) → InProfile (choice (alternatives_of (map branch_of root)) (marked_choice (alternatives_of (map branch_of more)))) → length root + length more ≤ most_alternatives
  few_marked more good = omega (arith, few_indexes (alternatives_of (map branch_of root)) (marked_choice (alternatives_of (map branch_of more))) good, count-of root, count-of more)

pub closed_choice_type : (t : AsnType) (root : Vec Alt Global) (ext : Option (Vec Alt Global)) (alts : List Alt) → t ≡ asn_type.Choice root ext → ext ≡ None → alts ≡ root.items → shape_of t ≡ choice (alternatives_of (map branch_of alts)) closed_choice
closed_choice_type t root ext alts e f g = choice_of_alternatives t root ext alts e g ∙ ap (λ (m : MoreAlternatives). choice (alternatives_of (map branch_of alts)) m) (ap more_alternatives_of f)

pub marked_choice_type : (t : AsnType) (root : Vec Alt Global) (ext : Option (Vec Alt Global)) (more : Vec Alt Global) (alts others : List Alt) → t ≡ asn_type.Choice root ext → ext ≡ Some more → alts ≡ root.items → others ≡ more.items
    → shape_of t ≡ choice (alternatives_of (map branch_of alts)) (marked_choice (alternatives_of (map branch_of others)))
marked_choice_type t root ext more alts others e f g h =
    choice_of_alternatives t root ext alts e g ∙ ap (λ (m : MoreAlternatives). choice (alternatives_of (map branch_of alts)) m) (ap more_alternatives_of f ∙ ap (λ (x : List Alt). marked_choice (alternatives_of (map branch_of x))) (sym h))

-- ---- ENUMERATED

pub closed_enum_type : (t : AsnType) (root : Vec Item Global) (ext : Option (Vec Item Global)) → t ≡ asn_type.Enum root ext → ext ≡ None → shape_of t ≡ enumerated (labels_seen root.items) closed_labels
closed_enum_type t root ext e f = rw (e, f) (shape_of-Enum root None)

pub marked_enum_type : (t : AsnType) (root : Vec Item Global) (ext : Option (Vec Item Global)) (more : Vec Item Global) (xs ys : List Item) → t ≡ asn_type.Enum root ext → ext ≡ Some more → xs ≡ root.items → ys ≡ more.items
    → shape_of t ≡ enumerated (labels_seen xs) (marked_labels (labels_seen ys))
marked_enum_type t root ext more xs ys e f g h = rw (e, f, g, h) (shape_of-Enum root (Some more))

-- ---- values

-- an alternative that a type has not
pub datum_of-UnknownAlternative : (tag : ℕ) → datum_of (value.UnknownAlternative tag) ≡ unknown_alternative tag
datum_of-UnknownAlternative tag = search (rules, values.the_lemmas)
