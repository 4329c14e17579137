-- The one node that has begun, where it has octets, is changed in its place.
use Rattle.std.proofs.Common.{◌≡◌, ℕ, List, [], ◌∷◌, ◌++◌, length, reverse, Result, Ok, Err, refl, sym, ap, ◌∙◌}
use Rattle.std.specs.Prelude.{◌-◌, IfErr, slice_index_or, slice_set}
use Rattle.std.proofs.lemmas.List.{reverse-reverse}
use Rattle.asn_rules.specs.Languages.{Short}
use Rattle.asn_rules.specs.Stops.{Stops}
use Rattle.asn_rules.specs.declared.stop.Stop.{Stop}
use Rattle.asn_rules.specs.declared.stop.Stop.TheVariants as stop
use Rattle.asn_walk.specs.Ahead.{Ahead}
use Rattle.asn_walk.specs.Coding.{Coding}
use Rattle.asn_walk.specs.Laws.{Laws}
use Rattle.asn_walk_feed.specs.Feeding.{FeedLaws, StandsAfter}
use Rattle.asn_walk_feed.specs.Nodes.{HaveOctets}
use Rattle.asn_walk_feed.specs.Octets.{OctetCoding, OctetsOf, OctetLaws, OctetsTook, KeepsOctetsFrom, HasRead, NodeGoesOn, NodeHasRead}
use Rattle.asn_walk_feed.specs.declared.frame.Frame.{Frame}
use Rattle.asn_walk_feed.specs.declared.frame.Frame.TheVariants as frame
use Rattle.asn_walk_feed.specs.declared.frame.Elements.{Elements}
use Rattle.asn_walk_feed.proofs.OctetsRead.{octets_go_on}

module _ {F : Type 0} (c : Coding) (laws : Laws c) (feeds : FeedLaws c) (f : OctetCoding) (parts : OctetLaws c f) (ahead : F → Ahead) (between : F → Type 0) where
  abbrev GoesOn : Frame F → List ℕ → List ℕ → Type 0
  GoesOn x all units = NodeGoesOn c f ahead between x all units

  abbrev Took : List (Frame F) → List ℕ → Type 0
  Took fs us = OctetsTook c f ahead between fs us

  -- there is one node
  one_node : (fs : List (Frame F)) (us : List ℕ) → HaveOctets fs → Took fs us → (q : Elements F ℕ) × (fs ≡ frame.Octets q ∷ [])
  one_node [] us h k = absurd h
  one_node (frame.Start b ∷ fs) us h k = absurd h
  one_node (frame.Elements q ∷ fs) us h k = absurd h
  one_node (frame.Components q ∷ fs) us h k = absurd h
  one_node (frame.Bitmap q ∷ fs) us h k = absurd h
  one_node (frame.Additions q ∷ fs) us h k = absurd h
  one_node (frame.Chosen i ∷ fs) us h k = absurd h
  one_node (frame.Added i ∷ fs) us h k = absurd h
  one_node (frame.Octets q ∷ fs) us h k = (q, ap (λ (gs : List (Frame F)). frame.Octets q ∷ gs) k.0)

  the_item : (items : List (Frame F)) (y : Frame F) → reverse items ≡ y ∷ [] → items ≡ y ∷ []
  the_item items y e = sym (reverse-reverse items) ∙ ap reverse e

  -- the stack, whose one node is x
  module _ (items : List (Frame F)) (n : ℕ) (x : Frame F) (long : n ≡ length items) (at : x ≡ slice_index_or items (n - 1) x) (begun : HaveOctets (reverse items)) where
    is_one : (us : List ℕ) → Took (reverse items) us → (q : Elements F ℕ) × (items ≡ frame.Octets q ∷ []) × (x ≡ frame.Octets q)
    is_one us k =
        let w = one_node (reverse items) us begun k in
        let e : items ≡ frame.Octets w.0 ∷ [] = the_item items (frame.Octets w.0) w.1 in
        (w.0, e, rw (long, e) at at)

    -- another in its place
    set_one : (q : Elements F ℕ) (y : Frame F) → items ≡ frame.Octets q ∷ [] → reverse (slice_set items (n - 1) y) ≡ y ∷ []
    set_one q y e = rw (long, e) refl

    pub goes_on : (us units : List ℕ) → Took (reverse items) us → GoesOn x (us ++ units) units
    goes_on us units k =
        let w = is_one us k in
        let t : Took (frame.Octets w.0 ∷ []) us = rw w.1 at k in
        rw w.2 (octets_go_on c laws feeds f parts ahead between w.0 us units t.2)

    pub has_read : (us0 : List ℕ) → Took (reverse items) us0 → (y : Frame F) (old new : List ℕ) → NodeHasRead c f ahead between x y old new → HasRead c f ahead between (reverse items) (reverse (slice_set items (n - 1) y)) old new
    has_read us0 k0 (frame.Octets q) old new r =
        let w = is_one us0 k0 in
        (q, set_one w.0 (frame.Octets q) w.1, λ us k. r (us ++ c.to_units old) (goes_on us (c.to_units old) k))
    has_read us0 k0 (frame.Start b) old new r = absurd r
    has_read us0 k0 (frame.Elements q) old new r = absurd r
    has_read us0 k0 (frame.Components q) old new r = absurd r
    has_read us0 k0 (frame.Bitmap q) old new r = absurd r
    has_read us0 k0 (frame.Additions q) old new r = absurd r
    has_read us0 k0 (frame.Chosen i) old new r = absurd r
    has_read us0 k0 (frame.Added i) old new r = absurd r

    took_node : (q : Elements F ℕ) → items ≡ frame.Octets q ∷ [] → (y : Frame F) (all : List ℕ) → Short c.ruling.fielding (OctetsOf f) all → GoesOn y all [] → Took (reverse (slice_set items (n - 1) y)) all
    took_node q e (frame.Octets p) all short k = rw (set_one q (frame.Octets p) e) (refl, short, k)
    took_node q e (frame.Start b) all short k = absurd k
    took_node q e (frame.Elements p) all short k = absurd k
    took_node q e (frame.Components p) all short k = absurd k
    took_node q e (frame.Bitmap p) all short k = absurd k
    took_node q e (frame.Additions p) all short k = absurd k
    took_node q e (frame.Chosen i) all short k = absurd k
    took_node q e (frame.Added i) all short k = absurd k

    pub keeps : {A : Type 0} (r : Result A Stop) (y : Frame F) (old new : List ℕ)
        → (r ≡ Err stop.Short → (all : List ℕ) → GoesOn x all (c.to_units old) → GoesOn y all (c.to_units new))
        → IfErr r (λ why. StandsAfter c new why)
        → IfErr r (λ why. (all : List ℕ) → GoesOn x all (c.to_units old) → Stops c.ruling.fielding (OctetsOf f) all why)
        → IfErr r (λ why. KeepsOctetsFrom c f ahead between (reverse items) (reverse (slice_set items (n - 1) y)) old why)
    keeps (Ok a) y old new on after stops = tt
    keeps (Err (stop.Refused left why)) y old new on after stops = λ us k. tt
    keeps (Err stop.Memory) y old new on after stops = λ us k. tt
    keeps (Err stop.Short) y old new on after stops = λ us k.
        let all = us ++ c.to_units old in
        let here = goes_on us (c.to_units old) k in
        let w = is_one us k in
        let gone : GoesOn y all [] = rw after at (on refl all here) in
        took_node w.0 w.1 y all (stops all here).told gone
