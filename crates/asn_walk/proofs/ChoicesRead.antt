-- From the answers for an index and for a value of an alternative to those for a CHOICE, in any rules.
use Rattle.std.proofs.Common.{◌≡◌, ◌<◌, ◌+◌, ◌⊎◌, inl, inr, ℕ, zero, suc, List, [], ◌∷◌, map, length, get_or, Option, Some, None, Vec, Global, vec_len, sym, ap, ◌∙◌, subst, arith}
use Rattle.std.specs.Option.{option_map}
use Rattle.asn_values.specs.declared.types.Alt.{Alt}
use Rattle.asn_values.specs.declared.types.AsnType.{AsnType}
use Rattle.asn_values.specs.declared.types.AsnType as asn_type
use Rattle.asn_values.specs.Datum.{alternative}
use Rattle.asn_values.specs.Shape.{Alternatives, no_alternatives, one_of, MoreAlternatives, closed_choice, marked_choice, more_alternatives, choice, count}
use Rattle.asn_values.specs.Profile.{InProfile}
use Rattle.asn_values.specs.View.{shape_of, branch_of, alternatives_of, more_alternatives_of}
use Rattle.asn_values.proofs.Alternatives.{shape_of_branch}
use Rattle.asn_values.specs.Parts.{AreAllOfProfile}
use Rattle.asn_rules.specs.Languages.{Spells, Then, Inhabited}
use Rattle.asn_rules.specs.Listed.{Spelt}
use Rattle.asn_rules.proofs.Languages.Leads.{LeadsStops, Leads, leads_here, leads_on, leads_map, leads_same, leads_second, stops_first, stops_on}
use Rattle.asn_rules.proofs.Languages.Standing.{StandsIn, stands_on, stands_map, stands_same, stands_first, stands_second}
use Rattle.asn_rules.proofs.Components.Listed.{spelt_inhabited}
use Rattle.asn_rules.proofs.Languages.Then.{Follows}
use Rattle.asn_walk.specs.Coding.{Coding, OpenOf, AreFew, IndexOf, IsIndexWithin, ChosenOf, ChosenBy, chosen_value, added_alternatives}
use Rattle.asn_walk.specs.Laws.{Laws}
use Rattle.asn_walk.specs.Views.{index_seen}
use Rattle.asn_walk.specs.declared.leaves.Index.{Index}
use Rattle.asn_walk.specs.declared.leaves.Index.TheVariants as an_index
use Rattle.asn_walk.proofs.Parts.{fields_part_of, open_inhabited, few_indexes, root_good, added_good, choice_shape, choice_good, known_count, more_count, additions_are}

-- ---- the alternative at an index

-- the reader of its values answers for the alternative
pub leads_at_place : (c : Coding) (alts : List Alt) (i : ℕ) (d : Alt) (us : List ℕ) → i < length alts
    → Leads c.ruling.fielding (Spelt c.code None (shape_of (get_or alts i d).ty)) us (λ v. v)
    (ChosenOf (λ t. Spelt c.code None t) (alternatives_of (map branch_of alts)) i) us
leads_at_place c [] i d us h = absurd (omega arith)
leads_at_place c (a ∷ alts) zero d us h = rw (shape_of_branch a) (leads_here c.ruling.fielding (Spelt c.code None (shape_of a.ty)) us)
leads_at_place c (a ∷ alts) (suc i) d us h = leads_at_place c alts i d us (omega arith)

-- and the reader of its open fields
pub open_leads_at_place : (c : Coding) (alts : List Alt) (i : ℕ) (d : Alt) (us : List ℕ) → i < length alts
    → Leads c.ruling.fielding (OpenOf c (shape_of (get_or alts i d).ty)) us (λ v. v)
    (ChosenOf (λ t. OpenOf c t) (alternatives_of (map branch_of alts)) i) us
open_leads_at_place c [] i d us h = absurd (omega arith)
open_leads_at_place c (a ∷ alts) zero d us h = rw (shape_of_branch a) (leads_here c.ruling.fielding (OpenOf c (shape_of a.ty)) us)
open_leads_at_place c (a ∷ alts) (suc i) d us h = open_leads_at_place c alts i d us (omega arith)

-- it has a value
chosen_inhabited : (c : Coding) (laws : Laws c) (alts : Alternatives) (i : ℕ) → AreAllOfProfile alts → i < count alts
    → Inhabited (ChosenOf (λ t. Spelt c.code None t) alts i)
chosen_inhabited c laws no_alternatives i good h = absurd (omega arith)
chosen_inhabited c laws (one_of name t alts) zero good h = spelt_inhabited c.code t good.0
chosen_inhabited c laws (one_of name t alts) (suc i) good h = chosen_inhabited c laws alts i good.1 (omega arith)

-- and one in an open field
open_chosen_inhabited : (c : Coding) (laws : Laws c) (alts : Alternatives) (i : ℕ) → AreAllOfProfile alts
    → i < count alts → Inhabited (ChosenOf (λ t. OpenOf c t) alts i)
open_chosen_inhabited c laws no_alternatives i good h = absurd (omega arith)
open_chosen_inhabited c laws (one_of name t alts) zero good h = open_inhabited c laws t good.0
open_chosen_inhabited c laws (one_of name t alts) (suc i) good h = open_chosen_inhabited c laws alts i good.1 (omega arith)

module _ (c : Coding) (laws : Laws c) (root : Alternatives) (more : MoreAlternatives) (good : InProfile (choice root more)) where
  -- after an index stands a value
  follows : Follows (IndexOf c (count root) (added_alternatives more)) (ChosenBy c root more)
  follows = record { follow = λ i cs h. go more i (added_good root more good) h.fits }
    where
      go : (m : MoreAlternatives) (i : ℕ ⊎ ℕ) → AreAllOfProfile (more_alternatives m)
          → IsIndexWithin (count root) (added_alternatives m) i → Inhabited (ChosenBy c root m i)
      go m (inl n) g h = chosen_inhabited c laws root n (root_good root more good) h
      go closed_choice (inr n) g h = absurd h
      go (marked_choice alts) (inr n) g h = open_chosen_inhabited c laws alts n g h

  whole : (us : List ℕ)
      → Leads c.ruling.fielding (Then (IndexOf c (count root) (added_alternatives more)) (ChosenBy c root more)) us
      (chosen_value root) (Spelt c.code None (choice root more)) us
  whole us = leads_on (leads_map c.ruling.fielding (chosen_value root) (Then (IndexOf c (count root) (added_alternatives more)) (ChosenBy c root more)) us) (leads_same c.ruling.fielding us (laws.choices root more good))

  stands_whole : (us : List ℕ)
      → StandsIn c.ruling.fielding (Then (IndexOf c (count root) (added_alternatives more)) (ChosenBy c root more)) us
      (Spelt c.code None (choice root more)) us
  stands_whole us = stands_on (stands_map c.ruling.fielding (chosen_value root) (Then (IndexOf c (count root) (added_alternatives more)) (ChosenBy c root more)) us) (stands_same c.ruling.fielding us (laws.choices root more good))

  -- the index stands in front, and after it the value
  pub index_stands : (us : List ℕ)
      → StandsIn c.ruling.fielding (IndexOf c (count root) (added_alternatives more)) us (Spelt c.code None (choice root more)) us
  index_stands us = stands_on (stands_first c.ruling.fielding us follows) (stands_whole us)

  pub value_stands : (i : ℕ ⊎ ℕ) (us r : List ℕ)
      → Spells c.ruling.fielding (IndexOf c (count root) (added_alternatives more)) i us r
      → StandsIn c.ruling.fielding (ChosenBy c root more i) r (Spelt c.code None (choice root more)) us
  value_stands i us r h = stands_on (stands_second {M = ChosenBy c root more} h) (stands_whole us)

  -- within the index
  pub index_stops : (us : List ℕ)
      → LeadsStops c.ruling.fielding (IndexOf c (count root) (added_alternatives more)) us
      (Spelt c.code None (choice root more)) us
  index_stops us = stops_on (stops_first c.ruling.fielding us follows) (whole us).stops

  -- after it
  pub value_leads : (i : ℕ ⊎ ℕ) (us r : List ℕ)
      → Spells c.ruling.fielding (IndexOf c (count root) (added_alternatives more)) i us r
      → Leads c.ruling.fielding (ChosenBy c root more i) r (λ v. chosen_value root (i, v))
      (Spelt c.code None (choice root more)) us
  value_leads i us r h = leads_on (leads_second (fields_part_of c laws) (laws.index (count root) (added_alternatives more) (few_indexes root more good)) h) (whole us)

-- ---- as the program has it

module _ (c : Coding) (laws : Laws c) (t : AsnType) (root : Vec Alt Global) (ext : Option (Vec Alt Global)) (is : t ≡ asn_type.Choice root ext) (good : InProfile (shape_of t)) (n : ℕ) (en : n ≡ vec_len root) where
  module _ (m : Option ℕ) (em : m ≡ option_map vec_len ext) (us : List ℕ) where
    counts : IndexOf c (count (alternatives_of (map branch_of root.items)))
        (added_alternatives (more_alternatives_of ext)) ≡ IndexOf c n m
    counts = ap (λ (k : ℕ). IndexOf c k (added_alternatives (more_alternatives_of ext))) (known_count root n en) ∙ ap (λ k. IndexOf c n k) (more_count ext ∙ sym em)

    pub choice_few : AreFew n m
    choice_few =
        let few : AreFew (count (alternatives_of (map branch_of root.items))) (added_alternatives (more_alternatives_of ext)) = few_indexes (alternatives_of (map branch_of root.items)) (more_alternatives_of ext) (choice_good t root ext is good) in
        let same : AreFew (count (alternatives_of (map branch_of root.items))) (added_alternatives (more_alternatives_of ext)) ≡ AreFew n m = ap (λ (k : ℕ). AreFew k (added_alternatives (more_alternatives_of ext))) (known_count root n en) ∙ ap (λ k. AreFew n k) (more_count ext ∙ sym em) in
        rw (← same) few

    -- within the index
    pub choice_stops : LeadsStops c.ruling.fielding (IndexOf c n m) us (Spelt c.code None (shape_of t)) us
    choice_stops = rw (choice_shape t root ext is, ← counts) (index_stops c laws (alternatives_of (map branch_of root.items)) (more_alternatives_of ext) (choice_good t root ext is good) us)

    module _ (i : Index) (p : ℕ) (r : List ℕ) (told : Spells c.ruling.fielding (IndexOf c n m) (index_seen i) us r) where
      after : Leads c.ruling.fielding
          (ChosenBy c (alternatives_of (map branch_of root.items)) (more_alternatives_of ext) (index_seen i)) r
          (λ v. chosen_value (alternatives_of (map branch_of root.items)) (index_seen i, v))
          (Spelt c.code None (shape_of t)) us
      after = rw (choice_shape t root ext is) (value_leads c laws (alternatives_of (map branch_of root.items)) (more_alternatives_of ext) (choice_good t root ext is good) (index_seen i) us r (rw counts told))

      -- after the index of an alternative of the root
      pub root_value_leads : (alts : List Alt) → alts ≡ root.items → i ≡ an_index.Root p
          → Leads c.ruling.fielding (ChosenOf (λ t. Spelt c.code None t) (alternatives_of (map branch_of alts)) p) r
          (λ v. alternative p v) (Spelt c.code None (shape_of t)) us
      root_value_leads alts ea e = rw ea (rw e at after)

      -- after that of an addition
      pub added_value_leads : (additions : Vec Alt Global) (more : List Alt) → ext ≡ Some additions
          → more ≡ additions.items → i ≡ an_index.Added p
          → Leads c.ruling.fielding (ChosenOf (λ t. OpenOf c t) (alternatives_of (map branch_of more)) p) r
          (λ v. alternative (n + p) v) (Spelt c.code None (shape_of t)) us
      added_value_leads additions more es ea e =
          let lead : Leads c.ruling.fielding (ChosenOf (λ t. OpenOf c t) (more_alternatives (more_alternatives_of ext)) p) r (λ v. alternative (count (alternatives_of (map branch_of root.items)) + p) v) (Spelt c.code None (shape_of t)) us = rw e at after in
          let first = subst (λ (a : Alternatives). Leads c.ruling.fielding (ChosenOf (λ t. OpenOf c t) a p) r (λ v. alternative (count (alternatives_of (map branch_of root.items)) + p) v) (Spelt c.code None (shape_of t)) us) (additions_are ext additions more es ea) lead in
          subst (λ (k : ℕ). Leads c.ruling.fielding (ChosenOf (λ t. OpenOf c t) (alternatives_of (map branch_of more)) p) r (λ v. alternative (k + p) v) (Spelt c.code None (shape_of t)) us) (known_count root n en) first
