-- What follows from the laws of the parts for any reader, and what types of the profile are made of.
use Rattle.std.proofs.Common.{◌≡◌, ◌≢◌, ◌≤◌, ◌<◌, ◌+◌, ◌==◌, ◌||◌, ℕ, zero, suc, false, List, [], ◌∷◌, length, map, get_or, nat_lt, Option, Some, None, Vec, Global, vec_len, refl, sym, ap, subst, ◌∙◌, arith}
use Rattle.std.specs.Option.{option_map}
use Rattle.std.proofs.lemmas.Bool.{ltb-false, true≢false}
use Rattle.std.proofs.lemmas.List.{append-nil, length-map}
use Rattle.asn_values.specs.declared.types.Field.{Field}
use Rattle.asn_values.specs.declared.types.Alt.{Alt}
use Rattle.asn_values.specs.declared.types.AsnType.{AsnType}
use Rattle.asn_values.specs.declared.types.AsnType as asn_type
use Rattle.asn_values.specs.Datum.{Datum}
use Rattle.asn_values.specs.Measures.{nodes}
use Rattle.asn_values.specs.Shape.{Shape, Fields, MoreFields, sequence, closed, marked, demands, Alternatives, MoreAlternatives, closed_choice, marked_choice, more_alternatives, choice, count}
use Rattle.asn_values.specs.Parts.{AreOfProfile, AreAllOfProfile}
use Rattle.asn_values.specs.Profile.{InProfile, TooMany, EmptyRange, empty_range, somewhere, some_field, some_alternative, some_more, too_many_here, most_components, most_additions, most_alternatives, most_nodes}
use Rattle.asn_values.specs.View.{shape_of, fields_of, more_fields_of, part_of_field, branch_of, alternatives_of, more_alternatives_of}
use Rattle.asn_values.proofs.Alternatives.{count-of, shape_of_branch}
use Rattle.asn_values.proofs.Entries.{length-demands}
use Rattle.asn_values.proofs.InnerTypes.{additions_of_profile, root_alternatives_of_profile, added_alternatives_of_profile}
use Rattle.asn_values.proofs.Parts.{left_false, right_false}
use Rattle.asn_values.proofs.Views.{choice_of_alternatives, sequence_of_fields}
use Rattle.asn_rules.specs.Chunks.{Chunk, flat}
use Rattle.asn_rules.specs.Languages.{Lawful, Inhabited, SomeContent}
use Rattle.asn_rules.specs.Reading.{Holds}
use Rattle.asn_rules.proofs.Live.Chunks.{FieldsPart}
use Rattle.asn_rules.proofs.Languages.Parts.{sealed_lawful, sealed_inhabited}
use Rattle.asn_rules.proofs.Law.PartingFields.{fields_part}
use Rattle.asn_rules.proofs.Law.SomeValue.{a_value}
use Rattle.asn_walk.specs.Coding.{Coding, OpenOf, IsIndexWithin, AreFew, added_alternatives}
use Rattle.asn_walk.specs.Laws.{Laws}
use Rattle.asn_walk.specs.Views.{index_seen}
use Rattle.asn_walk.specs.declared.leaves.Index.{Index}
use Rattle.asn_walk.specs.declared.leaves.Index.TheVariants as an_index

-- no sealed field begins another
pub fields_part_of : (c : Coding) → Laws c → FieldsPart c.ruling.fielding
fields_part_of c laws = fields_part c.ruling.fielding laws.tells.tells (λ d e. (let h = laws.tells.units d in let f = ap length e in omega arith))

-- ---- open fields

module _ (c : Coding) (laws : Laws c) (t : Shape) (good : InProfile t) where
  -- two are one, of one value, or they part
  pub open_lawful : Lawful (OpenOf c t)
  open_lawful = sealed_lawful (record {
    one_value = λ v w x p q. laws.wholes.told t v w [] good p.encoding.0 q.encoding.0 (append-nil (flat c.ruling.fielding.spelled (c.ruling.whole t v)) ∙ sym p.encoding.1 ∙ q.encoding.1);
    one_content = λ v x y p q. laws.wholes.once x y p.octets q.octets (p.encoding.1 ∙ sym q.encoding.1);
  })

  -- there is one
  pub some_held : SomeContent (Holds c.ruling t)
  some_held =
      let v = a_value t good in
      let o = laws.wholes.filled t v.0 good v.1 in
      record { value = v.0; content = o.0; spelt = record { octets = o.1; encoding = (v.1, o.2) } }

  pub open_inhabited : Inhabited (OpenOf c t)
  open_inhabited = sealed_inhabited some_held

-- ---- the components of a SEQUENCE

-- how many components there are
pub count_of_fields : (fs : List Field) → length (demands (fields_of (map part_of_field fs))) ≡ length fs
count_of_fields fs = length-demands (map part_of_field fs) ∙ length-map fs part_of_field

-- there are no more than 64 components in the root
pub few_components : {t : Shape} {more : MoreFields} (fs : List Field)
    → t ≡ sequence (fields_of (map part_of_field fs)) more → InProfile t → length fs ≤ 64
few_components {t} {more} fs e good =
    let inner : Fields = fields_of (map part_of_field fs) in
    let all : InProfile (sequence inner more) = subst InProfile e good in
    let here : nat_lt most_components (length (demands inner)) ≡ false =
    left_false _ _ (left_false (too_many_here (sequence inner more)) _ (left_false (somewhere too_many_here (sequence inner more)) (nat_lt most_nodes (nodes (sequence inner more))) (all TooMany))) in
    let few : length (demands inner) ≤ 64 = ltb-false 64 (length (demands inner)) here in
    subst (λ n. n ≤ 64) (count_of_fields fs) few

-- nor than 64 additions
few_additions : (root fs : Fields) → InProfile (sequence root (marked fs)) → length (demands fs) ≤ 64
few_additions root fs good =
    let whole : somewhere too_many_here (sequence root (marked fs)) ≡ false = left_false (somewhere too_many_here (sequence root (marked fs))) (nat_lt most_nodes (nodes (sequence root (marked fs)))) (good TooMany) in
    let here : too_many_here (sequence root (marked fs)) ≡ false = left_false (too_many_here (sequence root (marked fs))) (some_field too_many_here root || some_field too_many_here fs) whole in
    ltb-false most_additions (length (demands fs)) (right_false (nat_lt most_components (length (demands root))) (nat_lt most_additions (length (demands fs))) here)

-- the additions, as the program has them
pub marked_fields : (ext : Option (Vec Field Global)) (more : Vec Field Global) (fs : List Field) → ext ≡ Some more
    → fs ≡ more.items → more_fields_of ext ≡ marked (fields_of (map part_of_field fs))
marked_fields ext more fs e f = ap more_fields_of e ∙ ap (λ (l : List Field). marked (fields_of (map part_of_field l))) (sym f)

-- a type with an extension mark
pub marked_type : (t : AsnType) (root : Vec Field Global) (ext : Option (Vec Field Global)) (more : Vec Field Global)
    (fs gs : List Field) → t ≡ asn_type.Seq root ext → ext ≡ Some more → fs ≡ root.items → gs ≡ more.items
    → shape_of t ≡ sequence (fields_of (map part_of_field fs)) (marked (fields_of (map part_of_field gs)))
marked_type t root ext more fs gs e f g h = sequence_of_fields t root ext fs e g ∙ ap (λ (m : MoreFields). sequence (fields_of (map part_of_field fs)) m) (marked_fields ext more gs f h)

-- a type without one
pub closed_type : (t : AsnType) (root : Vec Field Global) (ext : Option (Vec Field Global)) (fs : List Field)
    → t ≡ asn_type.Seq root ext → ext ≡ None → fs ≡ root.items
    → shape_of t ≡ sequence (fields_of (map part_of_field fs)) closed
closed_type t root ext fs e f g = sequence_of_fields t root ext fs e g ∙ ap (λ (m : MoreFields). sequence (fields_of (map part_of_field fs)) m) (ap more_fields_of f)

module _ {t : Shape} {root : Fields} (fs : List Field) (e : t ≡ sequence root (marked (fields_of (map part_of_field fs)))) (good : InProfile t) where
  pub added_of_profile : AreOfProfile (fields_of (map part_of_field fs))
  added_of_profile = additions_of_profile root (fields_of (map part_of_field fs)) (subst InProfile e good)

  pub few_added : length fs ≤ 64
  few_added = subst (λ n. n ≤ 64) (count_of_fields fs) (few_additions root (fields_of (map part_of_field fs)) (subst InProfile e good))

-- ---- the alternatives of a CHOICE

-- few of them
few_choices : (root : Alternatives) (more : MoreAlternatives) → InProfile (choice root more)
    → count root + count (more_alternatives more) ≤ most_alternatives
few_choices root more good =
    let all : somewhere too_many_here (choice root more) ≡ false = left_false (somewhere too_many_here (choice root more)) (nat_lt most_nodes (nodes (choice root more))) (good TooMany) in
    let here : nat_lt most_alternatives (count root + count (more_alternatives more)) ≡ false = left_false (nat_lt most_alternatives (count root + count (more_alternatives more))) (some_alternative too_many_here root || some_more too_many_here more) all in
    ltb-false most_alternatives (count root + count (more_alternatives more)) here

module _ (root : Alternatives) (more : MoreAlternatives) (good : InProfile (choice root more)) where
  -- the root has an alternative
  some_alternatives : 0 < count root
  some_alternatives = go (count root) (left_false (empty_range (choice root more)) _ (good EmptyRange))
    where
      go : (n : ℕ) → (n == 0) ≡ false → 0 < n
      go zero e = absurd (true≢false e)
      go (suc n) e = omega arith

  -- each is of the profile
  pub root_good : AreAllOfProfile root
  root_good = root_alternatives_of_profile root more good

  -- and so is each addition
  pub added_good : AreAllOfProfile (more_alternatives more)
  added_good = go more good
    where
      go : (m : MoreAlternatives) → InProfile (choice root m) → AreAllOfProfile (more_alternatives m)
      go closed_choice g = tt
      go (marked_choice alts) g = added_alternatives_of_profile root alts g

-- they are few
pub few_indexes : (root : Alternatives) (more : MoreAlternatives) → InProfile (choice root more)
    → AreFew (count root) (added_alternatives more)
few_indexes root closed_choice good = (let few = few_choices root closed_choice good in omega (arith, few))
few_indexes root (marked_choice alts) good = few_choices root (marked_choice alts) good

-- ---- the alternative at an index

pub good_at : (alts : List Alt) (i : ℕ) (d : Alt) → AreAllOfProfile (alternatives_of (map branch_of alts))
    → i < length alts → InProfile (shape_of (get_or alts i d).ty)
good_at [] i d good h = absurd (omega arith)
good_at (a ∷ alts) zero d good h = rw (← shape_of_branch a) good.0
good_at (a ∷ alts) (suc i) d good h = good_at alts i d good.1 (omega arith)

-- ---- as the program has them

-- how many additions there are
pub more_count : (ext : Option (Vec Alt Global))
    → added_alternatives (more_alternatives_of ext) ≡ option_map vec_len ext
more_count None = refl
more_count (Some more) = ap Some (count-of more.items ∙ sym more.ok.0)

-- which they are
pub additions_are : (ext : Option (Vec Alt Global)) (additions : Vec Alt Global) (more : List Alt)
    → ext ≡ Some additions → more ≡ additions.items
    → more_alternatives (more_alternatives_of ext) ≡ alternatives_of (map branch_of more)
additions_are ext additions more e em = ap (λ (x : Option (Vec Alt Global)). more_alternatives (more_alternatives_of x)) e ∙ ap (λ (l : List Alt). alternatives_of (map branch_of l)) (sym em)

-- how many there are in the root
pub known_count : (root : Vec Alt Global) (n : ℕ) → n ≡ vec_len root
    → count (alternatives_of (map branch_of root.items)) ≡ n
known_count root n e = count-of root.items ∙ sym root.ok.0 ∙ sym e

-- an index of an addition is one of this many
pub added_inside : (n : ℕ) (m : Option ℕ) (ext : Option (Vec Alt Global)) (additions : Vec Alt Global) (i : Index)
    (p : ℕ) → m ≡ option_map vec_len ext → ext ≡ Some additions → i ≡ an_index.Added p
    → IsIndexWithin n m (index_seen i) → p < vec_len additions
added_inside n m ext additions i p e f g h = rw (e, f, g) at h

module _ (t : AsnType) (root : Vec Alt Global) (ext : Option (Vec Alt Global)) (is : t ≡ asn_type.Choice root ext) where
  pub choice_shape : shape_of t ≡ choice (alternatives_of (map branch_of root.items)) (more_alternatives_of ext)
  choice_shape = choice_of_alternatives t root ext root.items is refl

  module _ (good : InProfile (shape_of t)) where
    pub choice_good : InProfile (choice (alternatives_of (map branch_of root.items)) (more_alternatives_of ext))
    choice_good = rw choice_shape at good

    -- all are of the profile
    pub roots_good : (alts : List Alt) → alts ≡ root.items → AreAllOfProfile (alternatives_of (map branch_of alts))
    roots_good alts e = rw e (root_good (alternatives_of (map branch_of root.items)) (more_alternatives_of ext) choice_good)

    pub additions_good : (additions : Vec Alt Global) (more : List Alt) → ext ≡ Some additions → more ≡ additions.items
        → AreAllOfProfile (alternatives_of (map branch_of more))
    additions_good additions more e em = rw (← additions_are ext additions more e em) (added_good (alternatives_of (map branch_of root.items)) (more_alternatives_of ext) choice_good)

    -- there is an alternative, and they are few
    pub some_root : (n : ℕ) → n ≡ vec_len root → 0 < n
    some_root n e = let some = some_alternatives (alternatives_of (map branch_of root.items)) (more_alternatives_of ext) choice_good in omega (arith, some, known_count root n e)

    pub few_root : (n : ℕ) → n ≡ vec_len root → n ≤ most_alternatives
    few_root n e = let few = few_choices (alternatives_of (map branch_of root.items)) (more_alternatives_of ext) choice_good in omega (arith, few, known_count root n e)

    pub few_all : (n : ℕ) → n ≡ vec_len root → (additions : Vec Alt Global) → ext ≡ Some additions
        → n + vec_len additions ≤ most_alternatives
    few_all n e additions f =
        let few = few_choices (alternatives_of (map branch_of root.items)) (more_alternatives_of ext) choice_good in
        let more : count (more_alternatives (more_alternatives_of ext)) ≡ vec_len additions = ap count (additions_are ext additions additions.items f refl) ∙ count-of additions.items ∙ sym additions.ok.0 in
        omega (arith, few, more, known_count root n e)
