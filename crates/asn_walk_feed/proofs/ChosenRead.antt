-- How a CHOICE that may be cut goes on, as the program holds it.
use Rattle.std.proofs.Common.{Vec, Global, ◌+◌, ◌≤◌, ◌≡◌, ◌<◌, inl, inr, get_or, ℕ, zero, suc, List, [], ◌∷◌, ◌++◌, length, map, append-nil, Option, Some, None, refl, sym, ap, subst, arith}
use Rattle.asn_values.specs.declared.types.Alt.{Alt}
use Rattle.asn_values.specs.Datum.{alternative}
use Rattle.asn_values.specs.Shape.{Shape, Alternatives, MoreAlternatives, more_alternatives, choice, count}
use Rattle.asn_values.specs.Profile.{InProfile, most_alternatives}
use Rattle.asn_values.specs.Parts.{AreAllOfProfile}
use Rattle.asn_values.specs.View.{shape_of, branch_of, alternatives_of, alternatives_seen, more_alternatives_of}
use Rattle.asn_values.proofs.Alternatives.{count-of, shape_of_branch}
use Rattle.asn_rules.specs.Languages.{Spells}
use Rattle.asn_rules.specs.Listed.{Spelt}
use Rattle.asn_rules.proofs.Answer.Answers.{done_stays}
use Rattle.asn_rules.proofs.Languages.Leads.{Leads, LeadsStops, leads_on}
use Rattle.asn_walk.specs.Ahead.{Ahead}
use Rattle.asn_walk.specs.Coding.{Coding, IndexOf, IsIndexWithin, AreFew, OpenOf, ChosenOf, added_alternatives}
use Rattle.asn_walk.specs.Laws.{Laws}
use Rattle.asn_walk.proofs.ChoicesRead.{leads_at_place, open_leads_at_place, value_leads, index_stops}
use Rattle.asn_walk.proofs.Parts.{good_at, root_good, added_good, few_indexes, additions_are}
use Rattle.asn_walk_feed.specs.Chosen.{AlternativeTook}
use Rattle.asn_walk_feed.specs.Feeding.{Waits}
use Rattle.asn_walk_feed.specs.Octets.{OctetsTook}
use Rattle.asn_walk_feed.specs.OpenFields.{FieldCoding}
use Rattle.asn_walk_feed.specs.Taken.{Took, ChoiceReached, AdditionReached, with_node}
use Rattle.asn_walk_feed.specs.declared.frame.Frame.TheVariants as frame
use Rattle.asn_walk_feed.specs.declared.frame.Frame.{Frame}

-- ---- the alternative at an index

module _ (Value : Shape → List ℕ → Type 0) (d : Alt) (us : List ℕ) where
  took_at : (alts : List Alt) (i : ℕ) → i < length alts → AlternativeTook Value (alternatives_of (map branch_of alts)) i us
      → Value (shape_of (get_or alts i d).ty) us
  took_at [] i h k = absurd (omega (arith, h))
  took_at (a ∷ alts) zero h k = subst (λ (t : Shape). Value t us) (shape_of_branch a) k
  took_at (a ∷ alts) (suc i) h k = took_at alts i (omega (arith, h)) k

  at_took : (alts : List Alt) (i : ℕ) → i < length alts → Value (shape_of (get_or alts i d).ty) us
      → AlternativeTook Value (alternatives_of (map branch_of alts)) i us
  at_took [] i h k = absurd (omega (arith, h))
  at_took (a ∷ alts) zero h k = subst (λ (t : Shape). Value t us) (sym (shape_of_branch a)) k
  at_took (a ∷ alts) (suc i) h k = at_took alts i (omega (arith, h)) k

-- there are few alternatives
pub few_seen : (root : List Alt) (more : MoreAlternatives) → InProfile (choice (alternatives_seen root) more) → AreFew (length root) (added_alternatives more)
few_seen root more good = subst (λ (n : ℕ). AreFew n (added_alternatives more)) (count-of root) (few_indexes (alternatives_seen root) more good)

pub few_of_root : (n : ℕ) (more : Option ℕ) → AreFew n more → n ≤ most_alternatives
few_of_root n None h = h
few_of_root n (Some k) h = omega (arith, h)

module _ {F : Type 0} (c : Coding) (laws : Laws c) (fc : FieldCoding) (ahead : F → Ahead) (between : F → Type 0) (root : List Alt) (more : MoreAlternatives) (good : InProfile (choice (alternatives_seen root) more)) where
  abbrev R : ℕ → List (Frame F) → List ℕ → List ℕ → Type 0
  R i fs all units = ChoiceReached c fc ahead between (alternatives_seen root) more i fs all units

  abbrev P : List (Frame F) → Shape → List ℕ → Type 0
  P fs t us = Took c fc ahead between fs t us

  pub index_inside : (i : ℕ) (fs : List (Frame F)) (all units : List ℕ) → R i fs all units → i < length root
  index_inside i fs all units h =
      let inside : i < count (alternatives_seen root) = h.index.spelt.fits in
      omega (arith, inside, count-of root)

  -- ---- the index

  -- within it
  pub choice_stops : (us : List ℕ) → LeadsStops c.ruling.fielding (IndexOf c (length root) (added_alternatives more)) us
      (Spelt c.code None (choice (alternatives_seen root) more)) us
  choice_stops us =
      subst (λ (n : ℕ). LeadsStops c.ruling.fielding (IndexOf c n (added_alternatives more)) us (Spelt c.code None (choice (alternatives_seen root) more)) us)
      (count-of root) (index_stops c laws (alternatives_seen root) more good us)

  -- after it

  pub choice_starts : (i : ℕ) (fs : List (Frame F)) (all r : List ℕ)
      → Spells c.ruling.fielding (IndexOf c (length root) (added_alternatives more)) (inl i) all r → fs ≡ [] → R i fs all r
  choice_starts i fs all r sp ef =
      let inside : i < length root = sp.spelt.fits in
      record {
        come = [];
        index = subst (λ (n : ℕ). Spells c.ruling.fielding (IndexOf c n (added_alternatives more)) (inl i) all r) (sym (count-of root)) sp;
        inner = rw ef (starts root i inside);
      }
    where
      starts : (alts : List Alt) (i : ℕ) → i < length alts → AlternativeTook (λ t us. Took {F = F} c fc ahead between [] t us) (alternatives_of (map branch_of alts)) i []
      starts [] i h = absurd (omega (arith, h))
      starts (a ∷ alts) zero h = refl
      starts (a ∷ alts) (suc i) h = starts alts i (omega (arith, h))

  -- ---- the value of the alternative

  pub record AlternativeAhead (i : ℕ) (fs : List (Frame F)) (t : Shape) (all units : List ℕ) : Type 0 where
    pub of_profile : InProfile t
    pub come : List ℕ
    pub took : P fs t come
    pub leads : Leads c.ruling.fielding (Spelt c.code None t) (come ++ units) (λ v. alternative i v)
        (Spelt c.code None (choice (alternatives_seen root) more)) all
    pub kept : (gs : List (Frame F)) (units' : List ℕ) → units' ≡ [] → P gs t (come ++ units) → R i gs all units'

  pub alternative_ahead : (i : ℕ) (fs : List (Frame F)) (x : Alt) (all units : List ℕ) → x ≡ get_or root i x
      → R i fs all units → AlternativeAhead i fs (shape_of x.ty) all units
  alternative_ahead i fs x all units e h =
      let inside = index_inside i fs all units h in
      let is : shape_of (get_or root i x).ty ≡ shape_of x.ty = ap (λ (a : Alt). shape_of a.ty) (sym e) in
      let us = h.come ++ units in
      let lead : Leads c.ruling.fielding (Spelt c.code None (shape_of (get_or root i x).ty)) us (λ v. alternative i v) (Spelt c.code None (choice (alternatives_seen root) more)) all =
      leads_on (leads_at_place c root i x us inside) (value_leads c laws (alternatives_seen root) more good (inl i) all us h.index) in
      record {
        of_profile = subst InProfile is (good_at root i x (root_good (alternatives_seen root) more good) inside);
        come = h.come;
        took = subst (λ (t : Shape). P fs t h.come) is (took_at (λ t vs. P fs t vs) x h.come root i inside h.inner);
        leads = subst (λ (t : Shape). Leads c.ruling.fielding (Spelt c.code None t) us (λ v. alternative i v) (Spelt c.code None (choice (alternatives_seen root) more)) all) is lead;
        kept = λ gs units' z k. record {
          come = us;
          index = rw (z, append-nil us) h.index;
          inner = at_took (λ t vs. P gs t vs) x us root i inside (subst (λ (t : Shape). P gs t us) (sym is) k);
        };
      }

  -- ---- with the next piece

  pub choice_goes_on : (i : ℕ) (fs : List (Frame F)) (us units : List ℕ) → R i fs us [] → R i fs (us ++ units) units
  choice_goes_on i fs us units h =
      let one : Spells c.ruling.fielding (IndexOf c (count (alternatives_seen root)) (added_alternatives more)) (inl i) us h.come = subst (λ (xs : List ℕ). Spells c.ruling.fielding (IndexOf c (count (alternatives_seen root)) (added_alternatives more)) (inl i) us xs) (append-nil h.come) h.index in
      record {
        come = h.come;
        index = done_stays units one;
        inner = h.inner;
      }

  -- ---- the node

  pub took_chosen : (r : Option (Frame F)) (f : Frame F) (i : ℕ) (fs : List (Frame F)) (us : List ℕ)
      → r ≡ Some f → f ≡ frame.Chosen i → Took c fc ahead between (with_node r fs) (choice (alternatives_seen root) more) us
      → R i fs us []
  took_chosen r f i fs us e g h = rw (e, g) at h

  pub choice_none : (r : Option (Frame F)) (fs : List (Frame F)) (us : List ℕ) → r ≡ None → fs ≡ []
      → Took c fc ahead between (with_node r fs) (choice (alternatives_seen root) more) us → us ≡ []
  choice_none r fs us e g h = rw (e, g) at h

  pub choice_start : (r : Option (Frame F)) (f : Frame F) (b : List ℕ) (fs : List (Frame F)) (us : List ℕ) → r ≡ Some f
      → f ≡ frame.Start b → Took c fc ahead between (with_node r fs) (choice (alternatives_seen root) more) us
      → (fs ≡ []) × (Waits c (IndexOf c (length root) (added_alternatives more)) b us)
  choice_start r f b [] us e g h = (let w : Waits c (IndexOf c (count (alternatives_seen root)) (added_alternatives more)) b us = rw (e, g) at h in (refl, subst (λ (n : ℕ). Waits c (IndexOf c n (added_alternatives more)) b us) (count-of root) w))
  choice_start r f b (x ∷ fs) us e g h = (let z : ⊥ = rw (e, g) at h in absurd z)

  pub choice_took : (fs : List (Frame F)) (b us : List ℕ) → fs ≡ frame.Start b ∷ [] → Waits c (IndexOf c (length root) (added_alternatives more)) b us
      → Took c fc ahead between fs (choice (alternatives_seen root) more) us
  choice_took fs b us e w =
      let v : Waits c (IndexOf c (count (alternatives_seen root)) (added_alternatives more)) b us = subst (λ (n : ℕ). Waits c (IndexOf c n (added_alternatives more)) b us) (sym (count-of root)) w in
      rw e v

-- ---- an alternative among the additions

module _ {F : Type 0} (c : Coding) (laws : Laws c) (fc : FieldCoding) (ahead : F → Ahead) (between : F → Type 0) (root : List Alt) (ext : Option (Vec Alt Global)) (good : InProfile (choice (alternatives_seen root) (more_alternatives_of ext))) where
  abbrev A : ℕ → List (Frame F) → List ℕ → List ℕ → Type 0
  A i fs all units = AdditionReached c fc ahead between (alternatives_seen root) (more_alternatives_of ext) i fs all units

  pub addition_starts : (i : ℕ) (fs : List (Frame F)) (all r : List ℕ)
      → Spells c.ruling.fielding (IndexOf c (length root) (added_alternatives (more_alternatives_of ext))) (inr i) all r → fs ≡ [] → A i fs all r
  addition_starts i fs all r sp ef = record {
    come = [];
    index = subst (λ (n : ℕ). Spells c.ruling.fielding (IndexOf c n (added_alternatives (more_alternatives_of ext))) (inr i) all r) (sym (count-of root)) sp;
    inner = rw ef refl;
  }

  -- without a mark there is none
  pub no_addition : (i : ℕ) (fs : List (Frame F)) (all units : List ℕ) → ext ≡ None → A i fs all units → ⊥
  no_addition i fs all units e h = (let z : IsIndexWithin (count (alternatives_seen root)) (added_alternatives (more_alternatives_of ext)) (inr i) = h.index.spelt.fits in let y : ⊥ = rw e at z in y)

  module _ (v : Vec Alt Global) (is : ext ≡ Some v) where
    pub addition_inside : (i : ℕ) (fs : List (Frame F)) (all units : List ℕ) → A i fs all units → i < length v.items
    addition_inside i fs all units h =
        let z : IsIndexWithin (count (alternatives_seen root)) (added_alternatives (more_alternatives_of ext)) (inr i) = h.index.spelt.fits in
        let inside : i < count (alternatives_of (map branch_of v.items)) = rw is at z in
        omega (arith, inside, count-of v.items)

    -- it has a number that is not too large
    pub few_tags : (i : ℕ) (fs : List (Frame F)) (all units : List ℕ) → A i fs all units → length root + i ≤ most_alternatives
    few_tags i fs all units h =
        let few : AreFew (length root) (added_alternatives (more_alternatives_of ext)) = few_seen root (more_alternatives_of ext) good in
        let sum : length root + count (alternatives_of (map branch_of v.items)) ≤ most_alternatives = rw is at few in
        omega (arith, addition_inside i fs all units h, count-of v.items, sum)

    pub record AdditionAhead (i : ℕ) (fs : List (Frame F)) (t : Shape) (all units : List ℕ) : Type 0 where
      pub of_profile : InProfile t
      pub come : List ℕ
      pub took : OctetsTook c fc.open_type ahead between fs come
      pub leads : Leads c.ruling.fielding (OpenOf c t) (come ++ units) (λ d. alternative (length root + i) d)
          (Spelt c.code None (choice (alternatives_seen root) (more_alternatives_of ext))) all
      pub kept : (gs : List (Frame F)) (units' : List ℕ) → units' ≡ [] → OctetsTook c fc.open_type ahead between gs (come ++ units) → A i gs all units'

    pub addition_ahead : (i : ℕ) (fs : List (Frame F)) (x : Alt) (all units : List ℕ) → x ≡ get_or v.items i x
        → A i fs all units → AdditionAhead i fs (shape_of x.ty) all units
    addition_ahead i fs x all units e h =
        let inside = addition_inside i fs all units h in
        let same : shape_of (get_or v.items i x).ty ≡ shape_of x.ty = ap (λ (a : Alt). shape_of a.ty) (sym e) in
        let us = h.come ++ units in
        let are : more_alternatives (more_alternatives_of ext) ≡ alternatives_of (map branch_of v.items) = additions_are ext v v.items is refl in
        let value = value_leads c laws (alternatives_seen root) (more_alternatives_of ext) good (inr i) all us h.index in
        let chosen : Leads c.ruling.fielding (ChosenOf (λ t. OpenOf c t) (alternatives_of (map branch_of v.items)) i) us (λ d. alternative (count (alternatives_seen root) + i) d) (Spelt c.code None (choice (alternatives_seen root) (more_alternatives_of ext))) all =
        subst (λ (alts : Alternatives). Leads c.ruling.fielding (ChosenOf (λ t. OpenOf c t) alts i) us (λ d. alternative (count (alternatives_seen root) + i) d) (Spelt c.code None (choice (alternatives_seen root) (more_alternatives_of ext))) all) are value in
        let tagged : Leads c.ruling.fielding (ChosenOf (λ t. OpenOf c t) (alternatives_of (map branch_of v.items)) i) us (λ d. alternative (length root + i) d) (Spelt c.code None (choice (alternatives_seen root) (more_alternatives_of ext))) all =
        subst (λ (n : ℕ). Leads c.ruling.fielding (ChosenOf (λ t. OpenOf c t) (alternatives_of (map branch_of v.items)) i) us (λ d. alternative (n + i) d) (Spelt c.code None (choice (alternatives_seen root) (more_alternatives_of ext))) all) (count-of root) chosen in
        let lead : Leads c.ruling.fielding (OpenOf c (shape_of (get_or v.items i x).ty)) us (λ d. alternative (length root + i) d) (Spelt c.code None (choice (alternatives_seen root) (more_alternatives_of ext))) all =
        leads_on (open_leads_at_place c v.items i x us inside) tagged in
        let all_good = subst AreAllOfProfile are (added_good (alternatives_seen root) (more_alternatives_of ext) good) in
        record {
          of_profile = subst InProfile same (good_at v.items i x all_good inside);
          come = h.come;
          took = h.inner;
          leads = subst (λ (t : Shape). Leads c.ruling.fielding (OpenOf c t) us (λ d. alternative (length root + i) d) (Spelt c.code None (choice (alternatives_seen root) (more_alternatives_of ext))) all) same lead;
          kept = λ gs units' z k. record {
            come = us;
            index = rw (z, append-nil us) h.index;
            inner = k;
          };
        }

  -- ---- with the next piece

  pub addition_goes_on : (i : ℕ) (fs : List (Frame F)) (us units : List ℕ) → A i fs us [] → A i fs (us ++ units) units
  addition_goes_on i fs us units h =
      let one : Spells c.ruling.fielding (IndexOf c (count (alternatives_seen root)) (added_alternatives (more_alternatives_of ext))) (inr i) us h.come = subst (λ (xs : List ℕ). Spells c.ruling.fielding (IndexOf c (count (alternatives_seen root)) (added_alternatives (more_alternatives_of ext))) (inr i) us xs) (append-nil h.come) h.index in
      record {
        come = h.come;
        index = done_stays units one;
        inner = h.inner;
      }

  pub took_added : (r : Option (Frame F)) (x : Frame F) (i : ℕ) (fs : List (Frame F)) (us : List ℕ)
      → r ≡ Some x → x ≡ frame.Added i → Took c fc ahead between (with_node r fs) (choice (alternatives_seen root) (more_alternatives_of ext)) us
      → A i fs us []
  took_added r x i fs us e g h = rw (e, g) at h
