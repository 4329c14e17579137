-- How a list that may be cut goes on, as the program holds it.
use Rattle.std.proofs.Common.{◌≡◌, ◌<◌, ◌+◌, ℕ, List, [], ◌∷◌, ◌++◌, length, map, Option, Some, None, inl, refl, sym, ap, ◌∙◌}
use Rattle.std.specs.Prelude.{IfSome, IsNone}
use Rattle.asn_values.specs.Datum.{Datum}
use Rattle.asn_values.specs.Shape.{Shape, SizeRange, sequence_of}
use Rattle.asn_values.specs.Profile.{InProfile}
use Rattle.asn_values.specs.View.{datum_of}
use Rattle.asn_values.specs.declared.value.Value.{Value}
use Rattle.asn_values.proofs.InnerTypes.{element_of_profile}
use Rattle.asn_rules.specs.Chunks.{Chunk}
use Rattle.asn_rules.specs.Languages.{Spells, Inhabited, Lawful}
use Rattle.asn_rules.specs.Listed.{Spelt}
use Rattle.asn_rules.specs.Stops.{Stops}
use Rattle.asn_rules.specs.declared.stop.Stop.{Stop}
use Rattle.asn_rules.specs.declared.stop.Stop.TheVariants as stop
use Rattle.asn_rules.proofs.Components.Listed.{spelt_inhabited, spelt_lawful}
use Rattle.asn_walk.specs.Ahead.{Ahead}
use Rattle.asn_walk.specs.Coding.{Coding, ListingOf}
use Rattle.asn_walk.specs.Laws.{Laws}
use Rattle.asn_walk.proofs.Listing.{steps_left, list_size}
use Rattle.asn_walk_feed.specs.Feeding.{Waits, FeedLaws, NextOf, HasBegun}
use Rattle.asn_walk_feed.specs.OpenFields.{FieldCoding}
use Rattle.asn_walk_feed.specs.Taken.{Took, ElementTook, ListGoesOn, with_node}
use Rattle.asn_walk_feed.specs.Weights.{NoItem}
use Rattle.asn_walk_feed.specs.declared.frame.Frame.TheVariants as frame
use Rattle.asn_walk_feed.specs.declared.frame.Frame.{Frame}
use Rattle.asn_walk_feed.specs.declared.frame.Elements.{Elements}
use Rattle.asn_walk_feed.proofs.ItemsRead as items
use Rattle.asn_walk_feed.proofs.ItemsRead.{LengthAhead}
use Rattle.asn_walk_feed.proofs.ListsRead.{list_begins}

module _ {F : Type 0} (c : Coding) (laws : Laws c) (feeds : FeedLaws c) (fc : FieldCoding) (ahead : F → Ahead) (between : F → Type 0) (t : Shape) (s : SizeRange) (good : InProfile (sequence_of t s)) where
  abbrev L : Datum → List Chunk → Type 0
  L = Spelt c.code None t

  abbrev T : List Datum → List Chunk → Type 0
  T = ListingOf c s (Spelt c.code None t)

  abbrev R : Elements F Value → List (Frame F) → List ℕ → List ℕ → Type 0
  R q fs all units = ListGoesOn c fc ahead between t s q fs all units

  -- what has come of an element
  abbrev E : List ℕ → List (Frame F) → List ℕ → Type 0
  E b fs come = ElementTook c fc ahead between b fs t come

  pub none_took : (b : List ℕ) → b ≡ [] → E b [] []
  none_took b e = inl (e, (refl, λ x. refl))

  pub some : Inhabited L
  some = spelt_inhabited c.code t (element_of_profile t s good)

  pub law : Lawful L
  law = spelt_lawful c.code laws.part None t (element_of_profile t s good)

  -- ---- the next length

  pub length_ahead : (q : Elements F Value) (fs : List (Frame F)) (all units : List ℕ) → q.left ≡ 0 → R q fs all units
      → LengthAhead c laws feeds ahead between NoItem L T datum_of some law E none_took q fs all units
  length_ahead = items.length_ahead c laws feeds ahead between NoItem L T datum_of some law E none_took

  pub length_stops : (q : Elements F Value) (fs : List (Frame F)) (all units : List ℕ) (why : Stop) → q.left ≡ 0 → R q fs all units
      → Stops c.ruling.fielding (NextOf (ahead q.fragments)) (c.to_units q.next_part ++ units) why → Stops c.ruling.fielding T all why
  length_stops = items.length_stops c laws feeds ahead between NoItem L T datum_of some law E none_took

  pub length_ends : (q : Elements F Value) (fs : List (Frame F)) (all units r : List ℕ) (new : Ahead) → q.left ≡ 0 → R q fs all units
      → Spells c.ruling.fielding (NextOf (ahead q.fragments)) (None, new) (c.to_units q.next_part ++ units) r → Spells c.ruling.fielding T (map datum_of q.elements.items) all r
  length_ends = items.length_ends c laws feeds ahead between NoItem L T datum_of some law E none_took

  pub length_kept : (q p : Elements F Value) (fs : List (Frame F)) (all units units' : List ℕ) → q.left ≡ 0 → R q fs all units
      → p.left ≡ q.left → p.fragments ≡ q.fragments → p.elements ≡ q.elements → c.at_unit p.next_part
      → c.to_units p.next_part ≡ c.to_units q.next_part ++ units → units' ≡ []
      → Stops c.ruling.fielding (NextOf (ahead q.fragments)) (c.to_units q.next_part ++ units) stop.Short → R p fs all units'
  length_kept = items.length_kept c laws feeds ahead between NoItem L T datum_of some law E none_took

  pub length_more : (q p : Elements F Value) (fs : List (Frame F)) (all units r : List ℕ) (k : ℕ) → q.left ≡ 0 → R q fs all units
      → p.left ≡ k → p.elements ≡ q.elements → p.next_part ≡ [] → between p.fragments
      → Spells c.ruling.fielding (NextOf (ahead q.fragments)) (Some k, ahead p.fragments) (c.to_units q.next_part ++ units) r → R p fs all r
  length_more = items.length_more c laws feeds ahead between NoItem L T datum_of some law E none_took

  pub length_nearer : (q : Elements F Value) (fs : List (Frame F)) (all units r : List ℕ) (k : ℕ) (new : Ahead) → q.left ≡ 0 → R q fs all units
      → Spells c.ruling.fielding (NextOf (ahead q.fragments)) (Some k, new) (c.to_units q.next_part ++ units) r
      → steps_left new + length r < steps_left (ahead q.fragments) + length units
  length_nearer = items.length_nearer c laws feeds ahead between NoItem L T datum_of some law E none_took

  -- what has begun of the length
  pub length_begun : (q : Elements F Value) (fs : List (Frame F)) (all units : List ℕ) → q.left ≡ 0 → R q fs all units
      → HasBegun c (NextOf (ahead q.fragments)) q.next_part × c.at_unit q.next_part
  length_begun q fs all units e h = (let a = length_ahead q fs all units e h in (a.begun, a.at_unit))

  -- ---- the next element

  pub record ElementAhead (q : Elements F Value) (fs : List (Frame F)) (all units : List ℕ) : Type 0 where
    pub come : List ℕ
    pub took : ElementTook c fc ahead between q.next_part fs t come
    pub stops : (why : Stop) → Stops c.ruling.fielding L (come ++ units) why → Stops c.ruling.fielding T all why
    pub kept : (p : Elements F Value) (gs : List (Frame F)) (units' : List ℕ) → p.left ≡ q.left → p.fragments ≡ q.fragments → p.elements ≡ q.elements → units' ≡ []
        → ElementTook c fc ahead between p.next_part gs t (come ++ units) → R p gs all units'
    pub more : (p : Elements F Value) (gs : List (Frame F)) (v : Value) (r : List ℕ) → p.left + 1 ≡ q.left → p.fragments ≡ q.fragments → p.next_part ≡ []
        → p.elements.items ≡ q.elements.items ++ v ∷ [] → gs ≡ [] → Spells c.ruling.fielding L (datum_of v) (come ++ units) r → R p gs all r

  pub element_ahead : (q : Elements F Value) (fs : List (Frame F)) (all units : List ℕ) → 0 < q.left → R q fs all units → ElementAhead q fs all units
  element_ahead q fs all units l h =
      let x = items.element_ahead c laws feeds ahead between NoItem L T datum_of some law E none_took q fs all units l h in
      record {
        come = x.come;
        took = x.took;
        stops = x.stops;
        kept = x.kept;
        more = x.more;
      }

  -- ---- with the next piece

  pub list_goes_on : (q : Elements F Value) (fs : List (Frame F)) (us units : List ℕ) → R q fs us [] → R q fs (us ++ units) units
  list_goes_on = items.items_go_on c laws feeds ahead between NoItem L T datum_of some law E none_took

  pub took_elements : (r : Option (Frame F)) (f : Frame F) (q : Elements F Value) (fs : List (Frame F)) (us : List ℕ) → r ≡ Some f → f ≡ frame.Elements q
      → Took c fc ahead between (with_node r fs) (sequence_of t s) us → R q fs us []
  took_elements r f q fs us e g h = rw (e, g) at h

  pub took_none : (r : Option (Frame F)) (fs : List (Frame F)) (us : List ℕ) → r ≡ None → fs ≡ []
      → Took c fc ahead between (with_node r fs) (sequence_of t s) us → us ≡ []
  took_none r fs us e g h = rw (e, g) at h

  pub took_start : (r : Option (Frame F)) (f : Frame F) (b : List ℕ) (fs : List (Frame F)) (us : List ℕ) → r ≡ Some f → f ≡ frame.Start b
      → Took c fc ahead between (with_node r fs) (sequence_of t s) us → (fs ≡ []) × (c.to_units b ≡ us)
  took_start r f b [] us e g h = (let w : Waits c (c.list_start s) b us = rw (e, g) at h in (refl, w.come))
  took_start r f b (x ∷ fs) us e g h = (let z : ⊥ = rw (e, g) at h in absurd z)

  -- what stands before the elements has been read
  pub list_starts : (q : Elements F Value) (fs : List (Frame F)) (us r : List ℕ) → Spells c.ruling.fielding (c.list_start s) (ahead q.fragments) us r
      → q.left ≡ 0 → q.elements.items ≡ [] → q.next_part ≡ [] → between q.fragments → fs ≡ [] → R q fs us r
  list_starts q fs us r sp el ei eh b ef =
      items.items_start c laws feeds ahead between NoItem L T datum_of some law E none_took q fs [] us r
      (laws.list_ahead s (list_size t s good) (ahead q.fragments) sp.chunks sp.spelt) (λ more. list_begins c laws L s (ahead q.fragments) us r (list_size t s good) sp more)
      (record { chunks = sp.chunks; spelt = refl; contents = sp.contents; split = sp.split }) el (ap (map datum_of) ei) eh b ef

-- the outermost node was taken
pub taken_is : {X : Type 0} (r : Option (Frame X)) (old new : List (Frame X)) → IfSome r (λ f. old ≡ f ∷ new) → (IsNone r → old ≡ []) → (IsNone r → new ≡ []) → old ≡ with_node r new
taken_is (Some f) old new s n e = s
taken_is None old new s n e = n refl ∙ sym (e refl)
