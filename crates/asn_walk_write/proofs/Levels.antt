-- How many levels of types there are in the parts of a type.
use Rattle.std.proofs.Common.{◌≡◌, ◌≤◌, ◌<◌, ◌+◌, ℕ, zero, suc, List, [], ◌∷◌, map, length, get_or, Option, Some, Vec, Global, refl, sym, ap, subst, ◌∙◌, arith}
use Rattle.asn_values.specs.declared.types.Alt.{Alt}
use Rattle.asn_values.specs.declared.types.AsnType.{AsnType}
use Rattle.asn_values.specs.declared.types.AsnType as asn_type
use Rattle.std.proofs.lemmas.Bool.{ltb-false}
use Rattle.asn_values.specs.Profile.{InProfile, TooDeep, most_levels}
use Rattle.asn_values.specs.Measures.{depth, fields_depth, choice_depth, more_choice_depth}
use Rattle.asn_values.specs.Shape.{Shape, Fields, MoreFields, sequence, marked, MoreAlternatives, closed_choice, marked_choice, more_alternatives, choice}
use Rattle.asn_values.specs.View.{shape_of, branch_of, alternatives_of, more_alternatives_of}
use Rattle.asn_values.proofs.Alternatives.{shape_of_branch}
use Rattle.asn_walk.proofs.Parts.{choice_shape, additions_are}

-- a type of the profile has at most 64
pub profile_deep : (t : Shape) → InProfile t → depth t ≤ 64
profile_deep t good = ltb-false most_levels (depth t) (good TooDeep)

-- ---- a SEQUENCE

pub root_deep : {t : Shape} {root : Fields} {more : MoreFields} (level : ℕ) → t ≡ sequence root more → level + depth t ≤ 64 → level + fields_depth root ≤ 64
root_deep {root = root} {more = more} level e h =
    let all : level + depth (sequence root more) ≤ 64 = subst (λ (x : Shape). level + depth x ≤ 64) e h in
    omega (arith, all)

pub additions_deep : {t : Shape} {root added : Fields} (level : ℕ) → t ≡ sequence root (marked added) → level + depth t ≤ 64 → level + fields_depth added ≤ 63
additions_deep {root = root} {added = added} level e h =
    let all : level + depth (sequence root (marked added)) ≤ 64 = subst (λ (x : Shape). level + depth x ≤ 64) e h in
    omega (arith, all)

-- ---- a CHOICE

more_depth_is : (m : MoreAlternatives) → more_choice_depth m ≡ choice_depth (more_alternatives m)
more_depth_is closed_choice = refl
more_depth_is (marked_choice alts) = refl

module _ (level : ℕ) (t : AsnType) (root : Vec Alt Global) (ext : Option (Vec Alt Global)) (is : t ≡ asn_type.Choice root ext) (h : level + depth (shape_of t) ≤ 64) where
  all : level + depth (choice (alternatives_of (map branch_of root.items)) (more_alternatives_of ext)) ≤ 64
  all = subst (λ (x : Shape). level + depth x ≤ 64) (choice_shape t root ext is) h

  pub roots_deep : (alts : List Alt) → alts ≡ root.items → level + choice_depth (alternatives_of (map branch_of alts)) ≤ 64
  roots_deep alts e = (let few : level + choice_depth (alternatives_of (map branch_of root.items)) ≤ 64 = omega (arith, all) in subst (λ (l : List Alt). level + choice_depth (alternatives_of (map branch_of l)) ≤ 64) (sym e) few)

  pub added_deep : (additions : Vec Alt Global) (more : List Alt) → ext ≡ Some additions → more ≡ additions.items → level + choice_depth (alternatives_of (map branch_of more)) ≤ 63
  added_deep additions more e em =
      let same : more_choice_depth (more_alternatives_of ext) ≡ choice_depth (alternatives_of (map branch_of more)) = more_depth_is (more_alternatives_of ext) ∙ ap choice_depth (additions_are ext additions more e em) in
      omega (arith, all, same)

-- the alternative at an index
pub deep_at : (alts : List Alt) (i : ℕ) (d : Alt) → i < length alts → depth (shape_of (get_or alts i d).ty) ≤ choice_depth (alternatives_of (map branch_of alts))
deep_at [] i d h = absurd (omega arith)
deep_at (a ∷ alts) zero d h = (let e = ap depth (shape_of_branch a) in omega (arith, e))
deep_at (a ∷ alts) (suc i) d h = (let rest = deep_at alts i d (omega arith) in omega (arith, rest))
