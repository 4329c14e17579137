-- What the alternatives of a CHOICE of the profile are, as the program holds them.
use Rattle.std.proofs.Common.{◌≡◌, ◌≤◌, ◌<◌, ◌+◌, ◌==◌, ℕ, zero, suc, false, List, [], ◌∷◌, map, length, get_or, Option, Some, None, Vec, Global, vec_len, refl, sym, ap, ◌∙◌, arith}
use Rattle.std.proofs.lemmas.Bool.{true≢false}
use Rattle.std.specs.Option.{option_map}
use Rattle.asn_values.specs.declared.types.Alt.{Alt}
use Rattle.asn_values.specs.declared.types.AsnType.{AsnType}
use Rattle.asn_values.specs.declared.types.AsnType as asn_type
use Rattle.asn_values.specs.Shape.{Alternatives, MoreAlternatives, closed_choice, marked_choice, more_alternatives, choice, count}
use Rattle.asn_values.specs.Parts.{AreAllOfProfile}
use Rattle.asn_values.specs.Profile.{InProfile, EmptyRange, empty_range, most_alternatives}
use Rattle.asn_values.specs.View.{shape_of, branch_of, alternatives_of, more_alternatives_of}
use Rattle.asn_values.proofs.Alternatives.{count-of, shape_of_branch}
use Rattle.asn_values.proofs.InnerTypes.{root_alternatives_of_profile, added_alternatives_of_profile}
use Rattle.asn_values.proofs.Parts.{left_false}
use Rattle.asn_values.proofs.Views.{choice_of_alternatives}
use Rattle.asn_walk.specs.declared.leaves.Index.{Index}
use Rattle.asn_walk.specs.declared.leaves.Index.TheVariants as an_index
use Rattle.asn_walk.specs.Coding.{IsIndexWithin}
use Rattle.asn_walk.specs.Views.{index_seen}
use Rattle.asn_per.proofs.Types.ChoiceLanguages.{few_choices}

-- how many additions there are, where there is an extension mark
abbrev pub added_count : MoreAlternatives → Option ℕ
added_count closed_choice = None
added_count (marked_choice alts) = Some (count alts)

module _ (root : Alternatives) (more : MoreAlternatives) (good : InProfile (choice root more)) where
  -- the root has an alternative
  some_alternatives : 0 < count root
  some_alternatives = go (count root) (left_false (empty_range (choice root more)) _ (good EmptyRange))
    where
      go : (n : ℕ) → (n == 0) ≡ false → 0 < n
      go zero e = absurd (true≢false e)
      go (suc n) e = omega arith

  -- each is of the profile
  pub root_good : AreAllOfProfile root
  root_good = root_alternatives_of_profile root more good

  -- and so is each addition
  pub added_good : AreAllOfProfile (more_alternatives more)
  added_good = go more good
    where
      go : (m : MoreAlternatives) → InProfile (choice root m) → AreAllOfProfile (more_alternatives m)
      go closed_choice g = tt
      go (marked_choice alts) g = added_alternatives_of_profile root alts g

-- ---- the alternative at an index

pub good_at : (alts : List Alt) (i : ℕ) (d : Alt) → AreAllOfProfile (alternatives_of (map branch_of alts)) → i < length alts → InProfile (shape_of (get_or alts i d).ty)
good_at [] i d good h = absurd (omega arith)
good_at (a ∷ alts) zero d good h = rw (← shape_of_branch a) good.0
good_at (a ∷ alts) (suc i) d good h = good_at alts i d good.1 (omega arith)

-- ---- as the program has them

-- how many additions there are
pub more_count : (ext : Option (Vec Alt Global)) → added_count (more_alternatives_of ext) ≡ option_map vec_len ext
more_count None = refl
more_count (Some more) = ap Some (count-of more.items ∙ sym more.ok.0)

-- which they are
pub added_alternatives : (ext : Option (Vec Alt Global)) (additions : Vec Alt Global) (more : List Alt) → ext ≡ Some additions → more ≡ additions.items → more_alternatives (more_alternatives_of ext) ≡ alternatives_of (map branch_of more)
added_alternatives ext additions more e em = ap (λ (x : Option (Vec Alt Global)). more_alternatives (more_alternatives_of x)) e ∙ ap (λ (l : List Alt). alternatives_of (map branch_of l)) (sym em)

-- how many there are in the root
pub known_count : (root : Vec Alt Global) (n : ℕ) → n ≡ vec_len root → count (alternatives_of (map branch_of root.items)) ≡ n
known_count root n e = count-of root.items ∙ sym root.ok.0 ∙ sym e

-- an index of an addition is below the count of the additions
pub added_inside : (n : ℕ) (m : Option ℕ) (ext : Option (Vec Alt Global)) (additions : Vec Alt Global) (i : Index) (p : ℕ) → m ≡ option_map vec_len ext → ext ≡ Some additions → i ≡ an_index.Added p → IsIndexWithin n m (index_seen i) → p < vec_len additions
added_inside n m ext additions i p e f g h = rw (e, f, g) at h

module _ (t : AsnType) (root : Vec Alt Global) (ext : Option (Vec Alt Global)) (is : t ≡ asn_type.Choice root ext) where
  pub choice_shape : shape_of t ≡ choice (alternatives_of (map branch_of root.items)) (more_alternatives_of ext)
  choice_shape = choice_of_alternatives t root ext root.items is refl

  module _ (good : InProfile (shape_of t)) where
    pub choice_good : InProfile (choice (alternatives_of (map branch_of root.items)) (more_alternatives_of ext))
    choice_good = rw choice_shape at good

    -- all are of the profile
    pub roots_good : (alts : List Alt) → alts ≡ root.items → AreAllOfProfile (alternatives_of (map branch_of alts))
    roots_good alts e = rw e (root_good (alternatives_of (map branch_of root.items)) (more_alternatives_of ext) choice_good)

    pub additions_good : (additions : Vec Alt Global) (more : List Alt) → ext ≡ Some additions → more ≡ additions.items → AreAllOfProfile (alternatives_of (map branch_of more))
    additions_good additions more e em = rw (← added_alternatives ext additions more e em) (added_good (alternatives_of (map branch_of root.items)) (more_alternatives_of ext) choice_good)

    -- there is an alternative, and they are few
    pub some_root : (n : ℕ) → n ≡ vec_len root → 0 < n
    some_root n e = let some = some_alternatives (alternatives_of (map branch_of root.items)) (more_alternatives_of ext) choice_good in omega (arith, some, known_count root n e)

    pub few_root : (n : ℕ) → n ≡ vec_len root → n ≤ most_alternatives
    few_root n e = let few = few_choices (alternatives_of (map branch_of root.items)) (more_alternatives_of ext) choice_good in omega (arith, few, known_count root n e)

    pub few_all : (n : ℕ) → n ≡ vec_len root → (additions : Vec Alt Global) → ext ≡ Some additions → n + vec_len additions ≤ most_alternatives
    few_all n e additions f =
        let few = few_choices (alternatives_of (map branch_of root.items)) (more_alternatives_of ext) choice_good in
        let more : count (more_alternatives (more_alternatives_of ext)) ≡ vec_len additions = ap count (added_alternatives ext additions additions.items f refl) ∙ count-of additions.items ∙ sym additions.ok.0 in
        omega (arith, few, more, known_count root n e)
