-- How octets that stand in fragments and may be cut go on.
use Rattle.std.proofs.Common.{◌≡◌, ◌<◌, ◌+◌, inl, inr, ℕ, List, [], ◌∷◌, ◌++◌, length, map, Option, Some, None, refl, sym, ap, subst, ◌∙◌}
use mathlib.Core.List.{map-id}
use Rattle.asn_rules.specs.Chunks.{Chunk}
use Rattle.asn_rules.specs.Languages.{Spells, Short, Inhabited, Then}
use Rattle.asn_rules.specs.Stops.{Stops}
use Rattle.asn_rules.specs.declared.stop.Stop.{Stop}
use Rattle.asn_rules.specs.declared.stop.Stop.TheVariants as stop
use Rattle.asn_rules.proofs.Answer.Answers.{done_stays}
use Rattle.asn_rules.proofs.Languages.Leads.{leads_on, leads_map, leads_second, stops_by, stops_first, stops_on}
use Rattle.asn_rules.proofs.Languages.Parts.{map_source, nothing_inhabited}
use Rattle.asn_rules.proofs.Languages.Standing.{stands_on, stands_map, stands_second}
use Rattle.asn_rules.proofs.Languages.Rows.{row_inhabited}
use Rattle.asn_rules.proofs.Languages.Then.{Follows, one_front, then_splits}
use Rattle.asn_rules.proofs.Numbers.General.{general_inhabited}
use Rattle.asn_walk.specs.Ahead.{Ahead, items, lengths, end, Remaining, SomeAhead}
use Rattle.asn_walk.specs.Coding.{Coding}
use Rattle.asn_walk.specs.Laws.{Laws}
use Rattle.asn_walk.proofs.Listing.{Appends, Going, steps_left}
use Rattle.asn_walk.proofs.Parts.{fields_part_of}
use Rattle.asn_walk_feed.specs.Feeding.{Waits, FeedLaws, NextOf, HasBegun}
use Rattle.asn_walk_feed.specs.Octets.{OctetCoding, FirstOf, all_octets, OctetsOf, OctetLaws, OctetTook, OctetsGoOn, OctetsTook}
use Rattle.asn_walk_feed.specs.Taken.{with_node}
use Rattle.asn_walk_feed.specs.declared.frame.Frame.{Frame}
use Rattle.asn_walk_feed.specs.declared.frame.Frame.TheVariants as frame
use Rattle.asn_walk_feed.specs.declared.frame.Elements.{Elements}
use Rattle.asn_walk_feed.proofs.ItemsRead as listed

-- some items are ahead
ahead_inhabited : {A : Type 0} (L : A → List Chunk → Type 0) (a : Ahead) → Inhabited L → SomeAhead a
    → Inhabited (Remaining L a)
ahead_inhabited L (items n) i h = row_inhabited i n
ahead_inhabited L (lengths is so_far closed) i h = general_inhabited i h.0 h.1
ahead_inhabited L end i h = nothing_inhabited []

module _ {F : Type 0} (c : Coding) (laws : Laws c) (feeds : FeedLaws c) (f : OctetCoding) (parts : OctetLaws c f) (ahead : F → Ahead) (between : F → Type 0) where
  -- all of them
  abbrev Whole : List ℕ → List Chunk → Type 0
  Whole = OctetsOf f

  abbrev R : Elements F ℕ → List ℕ → List ℕ → Type 0
  R q all units = OctetsGoOn c f ahead between q all units

  none_came : (b : List ℕ) → b ≡ [] → OctetTook {F = F} c f b [] []
  none_came b e = (refl, record { come = ap c.to_units e ∙ feeds.none; at_unit = rw e feeds.begin; begins = inl e })

  -- ---- what stands before the octets

  follows : Follows f.start (λ p. Remaining f.octet p.1)
  follows = record { follow = λ p x h. ahead_inhabited f.octet p.1 parts.some (parts.ahead p x h) }

  -- it stops
  pub start_stops : (us : List ℕ) (why : Stop) → Stops c.ruling.fielding f.start us why → Stops c.ruling.fielding Whole us why
  start_stops us why h =
      stops_by why (stops_on (stops_first c.ruling.fielding us follows) (leads_map c.ruling.fielding all_octets (Then f.start (λ p. Remaining f.octet p.1)) us).stops) h

  -- it has been read
  begins : (vs : List ℕ) (a : Ahead) (us r : List ℕ) → Spells c.ruling.fielding f.start (vs, a) us r → (more : List ℕ) → Going c f.octet Whole (us ++ more) a vs (r ++ more)
  begins vs a us r h more = record {
    leads =
        leads_on (leads_second {M = λ p. Remaining f.octet p.1} (fields_part_of c laws) parts.start (done_stays more h))
        (leads_map c.ruling.fielding all_octets (Then f.start (λ p. Remaining f.octet p.1)) (us ++ more));
    stands =
        stands_on (stands_second {M = λ p. Remaining f.octet p.1} (done_stays more h))
        (stands_map c.ruling.fielding all_octets (Then f.start (λ p. Remaining f.octet p.1)) (us ++ more));
    only = λ ws t k.
        (let w = map_source k in
        let b = then_splits w.1 in
        let o = one_front (fields_part_of c laws) parts.start b.earlier (done_stays more h) in
        let later : Spells c.ruling.fielding (Remaining f.octet a) w.0.1 b.rest t = subst (λ (p : List ℕ × Ahead). Spells c.ruling.fielding (Remaining f.octet p.1) w.0.1 b.rest t) o.0 b.later in
        (w.0.1, w.2 ∙ ap (λ (p : List ℕ × Ahead). p.0 ++ w.0.1) o.0, subst (λ (l : List ℕ). Spells c.ruling.fielding (Remaining f.octet a) w.0.1 l t) o.1 later));
  }

  pub octets_start : (q : Elements F ℕ) (vs us r : List ℕ) → Spells c.ruling.fielding f.start (vs, ahead q.fragments) us r
      → q.left ≡ 0 → q.elements.items ≡ vs → q.next_part ≡ [] → between q.fragments → R q us r
  octets_start q vs us r sp el ei eh b =
      listed.items_start c laws feeds ahead between (FirstOf f) f.octet Whole (λ o. o) parts.some parts.octet (OctetTook c f) none_came q [] vs us r
      (parts.ahead (vs, ahead q.fragments) sp.chunks sp.spelt) (begins vs (ahead q.fragments) us r sp)
      (record { chunks = sp.chunks; spelt = (ahead q.fragments, sp.spelt); contents = sp.contents; split = sp.split }) el (map-id q.elements.items ∙ ei) eh b refl

  -- ---- the next length

  -- what has begun of it
  pub length_begun : (q : Elements F ℕ) (all units : List ℕ) → q.left ≡ 0 → R q all units
      → HasBegun c (NextOf (ahead q.fragments)) q.next_part × c.at_unit q.next_part
  length_begun q all units e h =
      (let a = listed.length_ahead c laws feeds ahead between (FirstOf f) f.octet Whole (λ o. o) parts.some parts.octet (OctetTook c f) none_came q [] all units e h in
      (a.begun, a.at_unit))

  pub length_stops : (q : Elements F ℕ) (all units : List ℕ) (why : Stop) → q.left ≡ 0 → R q all units
      → Stops c.ruling.fielding (NextOf (ahead q.fragments)) (c.to_units q.next_part ++ units) why → Stops c.ruling.fielding Whole all why
  length_stops q = listed.length_stops c laws feeds ahead between (FirstOf f) f.octet Whole (λ o. o) parts.some parts.octet (OctetTook c f) none_came q []

  pub length_ends : (q : Elements F ℕ) (all units r : List ℕ) (new : Ahead) → q.left ≡ 0 → R q all units
      → Spells c.ruling.fielding (NextOf (ahead q.fragments)) (None, new) (c.to_units q.next_part ++ units) r → Spells c.ruling.fielding Whole q.elements.items all r
  length_ends q all units r new e h k =
      subst (λ (os : List ℕ). Spells c.ruling.fielding Whole os all r) (map-id q.elements.items)
      (listed.length_ends c laws feeds ahead between (FirstOf f) f.octet Whole (λ o. o) parts.some parts.octet (OctetTook c f) none_came q [] all units r new e h k)

  pub length_kept : (q p : Elements F ℕ) (all units units' : List ℕ) → q.left ≡ 0 → R q all units
      → p.left ≡ q.left → p.fragments ≡ q.fragments → p.elements ≡ q.elements → c.at_unit p.next_part
      → c.to_units p.next_part ≡ c.to_units q.next_part ++ units → units' ≡ []
      → Stops c.ruling.fielding (NextOf (ahead q.fragments)) (c.to_units q.next_part ++ units) stop.Short → R p all units'
  length_kept q p = listed.length_kept c laws feeds ahead between (FirstOf f) f.octet Whole (λ o. o) parts.some parts.octet (OctetTook c f) none_came q p []

  pub length_more : (q p : Elements F ℕ) (all units r : List ℕ) (k : ℕ) → q.left ≡ 0 → R q all units
      → p.left ≡ k → p.elements ≡ q.elements → p.next_part ≡ [] → between p.fragments
      → Spells c.ruling.fielding (NextOf (ahead q.fragments)) (Some k, ahead p.fragments) (c.to_units q.next_part ++ units) r → R p all r
  length_more q p = listed.length_more c laws feeds ahead between (FirstOf f) f.octet Whole (λ o. o) parts.some parts.octet (OctetTook c f) none_came q p []

  pub length_nearer : (q : Elements F ℕ) (all units r : List ℕ) (k : ℕ) (new : Ahead) → q.left ≡ 0 → R q all units
      → Spells c.ruling.fielding (NextOf (ahead q.fragments)) (Some k, new) (c.to_units q.next_part ++ units) r
      → steps_left new + length r < steps_left (ahead q.fragments) + length units
  length_nearer q = listed.length_nearer c laws feeds ahead between (FirstOf f) f.octet Whole (λ o. o) parts.some parts.octet (OctetTook c f) none_came q []

  -- ---- the next octet

  pub record OctetAhead (q : Elements F ℕ) (all units : List ℕ) : Type 0 where
    pub at_unit : c.at_unit q.next_part
    pub begun : HasBegun c f.octet q.next_part
    pub stops : (why : Stop) → Stops c.ruling.fielding f.octet (c.to_units q.next_part ++ units) why → Stops c.ruling.fielding Whole all why
    pub kept : (p : Elements F ℕ) (units' : List ℕ) → p.left ≡ q.left → p.fragments ≡ q.fragments → p.elements ≡ q.elements → c.at_unit p.next_part
        → c.to_units p.next_part ≡ c.to_units q.next_part ++ units → units' ≡ []
        → Stops c.ruling.fielding f.octet (c.to_units q.next_part ++ units) stop.Short → R p all units'
    pub more : (p : Elements F ℕ) (o : ℕ) (r : List ℕ) → p.left + 1 ≡ q.left → p.fragments ≡ q.fragments → p.next_part ≡ []
        → p.elements.items ≡ q.elements.items ++ o ∷ [] → Spells c.ruling.fielding f.octet o (c.to_units q.next_part ++ units) r → R p all r

  pub octet_ahead : (q : Elements F ℕ) (all units : List ℕ) → 0 < q.left → R q all units → OctetAhead q all units
  octet_ahead q all units l h =
      let x = listed.element_ahead c laws feeds ahead between (FirstOf f) f.octet Whole (λ o. o) parts.some parts.octet (OctetTook c f) none_came q [] all units l h in
      let w : Waits c f.octet q.next_part x.come = x.took.1 in
      let same : c.to_units q.next_part ++ units ≡ x.come ++ units = ap (λ (us : List ℕ). us ++ units) w.come in
      record {
        at_unit = w.at_unit;
        begun = w.begins;
        stops = λ why k. x.stops why (subst (λ (us : List ℕ). Stops c.ruling.fielding f.octet us why) same k);
        kept = λ p units' el ef ee at eh z k.
            (let short : Short c.ruling.fielding f.octet (c.to_units p.next_part) = rw eh k.told in
            x.kept p [] units' el ef ee z (refl, record { come = eh ∙ same; at_unit = at; begins = inr short }));
        more = λ p o r el ef eh ei k. x.more p [] o r el ef eh ei refl (subst (λ (us : List ℕ). Spells c.ruling.fielding f.octet o us r) same k);
      }

  -- k octets are read at once, where nothing has come of the next
  pub octets_row : (q p : Elements F ℕ) (all units r : List ℕ) (k : ℕ) → 0 < q.left → R q all units → q.next_part ≡ []
      → p.left + k ≡ q.left → p.fragments ≡ q.fragments → p.next_part ≡ []
      → Appends c.ruling.fielding f.octet k q.elements.items p.elements.items units r → R p all r
  octets_row q p all units r k l h e el ef eh row =
      let none : (come : List ℕ) → OctetTook {F = F} c f q.next_part [] come → come ≡ [] = λ come t. sym t.1.come ∙ ap c.to_units e ∙ feeds.none in
      let items : map (λ (o : ℕ). o) p.elements.items ≡ map (λ (o : ℕ). o) q.elements.items ++ row.row = map-id p.elements.items ∙ row.same ∙ ap (λ (os : List ℕ). os ++ row.row) (sym (map-id q.elements.items)) in
      listed.elements_row c laws feeds ahead between (FirstOf f) f.octet Whole (λ o. o) parts.some parts.octet (OctetTook c f) none_came q p [] all units r k row.row l h none el ef eh items row.spelt

  -- an octet has a unit, and the piece has none of the next
  pub octets_wait : (q : Elements F ℕ) (all units : List ℕ) → 0 < q.left → R q all units → q.next_part ≡ []
      → units ≡ [] → Short c.ruling.fielding f.octet [] → Stops c.ruling.fielding Whole all stop.Short
  octets_wait q all units l h e z k =
      let none : c.to_units q.next_part ++ units ≡ [] = ap (λ (us : List ℕ). c.to_units us ++ units) e ∙ ap (λ (us : List ℕ). us ++ units) feeds.none ∙ z in
      (octet_ahead q all units l h).stops stop.Short (record { told = subst (λ (us : List ℕ). Short c.ruling.fielding f.octet us) (sym none) k })

  -- ---- with the next piece

  pub octets_go_on : (q : Elements F ℕ) (us units : List ℕ) → R q us [] → R q (us ++ units) units
  octets_go_on q = listed.items_go_on c laws feeds ahead between (FirstOf f) f.octet Whole (λ o. o) parts.some parts.octet (OctetTook c f) none_came q []

  -- ---- the node

  pub took_octets : (r : Option (Frame F)) (x : Frame F) (q : Elements F ℕ) (fs : List (Frame F)) (us : List ℕ)
      → r ≡ Some x → x ≡ frame.Octets q → OctetsTook c f ahead between (with_node r fs) us → (fs ≡ []) × R q us []
  took_octets r x q fs us e g h =
      let w : (fs ≡ []) × Short c.ruling.fielding Whole us × R q us [] = rw (e, g) at h in
      (w.0, w.2)

  pub took_none : (r : Option (Frame F)) (fs : List (Frame F)) (us : List ℕ) → r ≡ None → fs ≡ []
      → OctetsTook c f ahead between (with_node r fs) us → us ≡ []
  took_none r fs us e g h = rw (e, g) at h

  pub took_start : (r : Option (Frame F)) (x : Frame F) (b : List ℕ) (fs : List (Frame F)) (us : List ℕ) → r ≡ Some x
      → x ≡ frame.Start b → OctetsTook c f ahead between (with_node r fs) us → (fs ≡ []) × Waits c f.start b us
  took_start r x b [] us e g h = (let w : Waits c f.start b us = rw (e, g) at h in (refl, w))
  took_start r x b (y ∷ fs) us e g h = (let z : ⊥ = rw (e, g) at h in absurd z)

  pub start_took : (fs : List (Frame F)) (b us : List ℕ) → fs ≡ frame.Start b ∷ [] → Waits c f.start b us → OctetsTook c f ahead between fs us
  start_took fs b us e w = rw e w

  pub octets_took : (fs : List (Frame F)) (q : Elements F ℕ) (us : List ℕ) → fs ≡ frame.Octets q ∷ [] → Short c.ruling.fielding Whole us → R q us [] → OctetsTook c f ahead between fs us
  octets_took fs q us e short k = rw e (refl, short, k)
