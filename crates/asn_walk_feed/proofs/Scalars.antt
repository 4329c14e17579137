-- The node of a simple type that is no string.
use Rattle.std.proofs.Common.{◌≡◌, ℕ, List, [], ◌∷◌, Option, Some, None, inl, refl, sym, ◌∙◌}
use Rattle.std.specs.Prelude.{IsNone}
use Rattle.asn_values.specs.Datum.{Datum}
use Rattle.asn_values.specs.Shape.{Shape, boolean, null, integer, enumerated}
use Rattle.asn_rules.specs.Listed.{Spelt}
use Rattle.asn_walk.specs.Ahead.{Ahead}
use Rattle.asn_walk.specs.Coding.{Coding}
use Rattle.asn_walk_feed.specs.Feeding.{Waits, FeedLaws, IsScalar}
use Rattle.asn_walk_feed.specs.Roots.{OtherTook}
use Rattle.asn_walk_feed.specs.OpenFields.{FieldCoding}
use Rattle.asn_walk_feed.specs.Taken.{Took, IsStart, begun_of, with_node}
use Rattle.asn_walk_feed.specs.declared.frame.Frame.{Frame}
use Rattle.asn_walk_feed.specs.declared.frame.Frame.TheVariants as frame

-- it has begun with these units, or not
pub record ScalarNode {F : Type 0} (c : Coding) (t : Shape) (r : Option (Frame F)) (us : List ℕ) : Type 0 where
  pub start : IsStart r
  pub waits : Waits c (Spelt c.code None t) (begun_of r) (c.to_units (begun_of r))
  pub come : c.to_units (begun_of r) ≡ us

module _ {F : Type 0} (c : Coding) (feeds : FeedLaws c) (fc : FieldCoding) (ahead : F → Ahead) (between : F → Type 0) where
  begun : (t : Shape) (b : List ℕ) (us : List ℕ) → Waits c (Spelt c.code None t) b us → ScalarNode {F = F} c t (Some (frame.Start b)) us
  begun t b us h = record { start = tt; waits = record { come = refl; at_unit = h.at_unit; begins = h.begins }; come = h.come }

  pub scalar_node : (t : Shape) → IsScalar t → (r : Option (Frame F)) (new : List (Frame F)) (us : List ℕ) → (IsNone r → new ≡ [])
      → Took c fc ahead between (with_node r new) t us → ScalarNode c t r us
  scalar_node t sc None new us e h =
      let none : us ≡ [] = rw (e refl) at h in
      record { start = tt; waits = record { come = refl; at_unit = feeds.begin; begins = inl refl }; come = feeds.none ∙ sym none }
  scalar_node boolean sc (Some (frame.Start b)) [] us e h = begun boolean b us h
  scalar_node null sc (Some (frame.Start b)) [] us e h = begun null b us h
  scalar_node (integer r) sc (Some (frame.Start b)) [] us e h = begun (integer r) b us h
  scalar_node (enumerated root more) sc (Some (frame.Start b)) [] us e h = begun (enumerated root more) b us h
  scalar_node t sc (Some (frame.Start b)) (f ∷ fs) us e h = absurd h
  scalar_node boolean sc (Some (frame.Elements q)) new us e h = absurd h
  scalar_node null sc (Some (frame.Elements q)) new us e h = absurd h
  scalar_node (integer r) sc (Some (frame.Elements q)) new us e h = absurd h
  scalar_node (enumerated root more) sc (Some (frame.Elements q)) new us e h = absurd h
  scalar_node boolean sc (Some (frame.Components q)) new us e h = absurd h
  scalar_node boolean sc (Some (frame.Bitmap p)) new us e h = absurd h
  scalar_node boolean sc (Some (frame.Additions q)) new us e h = absurd h
  scalar_node boolean sc (Some (frame.Chosen i)) new us e h = absurd h
  scalar_node boolean sc (Some (frame.Added i)) new us e h = absurd h
  scalar_node boolean sc (Some (frame.Octets q)) new us e h = absurd h
  scalar_node null sc (Some (frame.Components q)) new us e h = absurd h
  scalar_node null sc (Some (frame.Bitmap p)) new us e h = absurd h
  scalar_node null sc (Some (frame.Additions q)) new us e h = absurd h
  scalar_node null sc (Some (frame.Chosen i)) new us e h = absurd h
  scalar_node null sc (Some (frame.Added i)) new us e h = absurd h
  scalar_node null sc (Some (frame.Octets q)) new us e h = absurd h
  scalar_node (integer r) sc (Some (frame.Components q)) new us e h = absurd h
  scalar_node (integer r) sc (Some (frame.Bitmap p)) new us e h = absurd h
  scalar_node (integer r) sc (Some (frame.Additions q)) new us e h = absurd h
  scalar_node (integer r) sc (Some (frame.Chosen i)) new us e h = absurd h
  scalar_node (integer r) sc (Some (frame.Added i)) new us e h = absurd h
  scalar_node (integer r) sc (Some (frame.Octets q)) new us e h = absurd h
  scalar_node (enumerated root more) sc (Some (frame.Components q)) new us e h = absurd h
  scalar_node (enumerated root more) sc (Some (frame.Bitmap p)) new us e h = absurd h
  scalar_node (enumerated root more) sc (Some (frame.Additions q)) new us e h = absurd h
  scalar_node (enumerated root more) sc (Some (frame.Chosen i)) new us e h = absurd h
  scalar_node (enumerated root more) sc (Some (frame.Added i)) new us e h = absurd h
  scalar_node (enumerated root more) sc (Some (frame.Octets q)) new us e h = absurd h
  scalar_node _ sc _ new us e h = absurd sc

-- ---- a value of the type of a component with a DEFAULT

-- it has begun with these units, or not
pub record OtherNode {F : Type 0} (c : Coding) (d : Datum) (t : Shape) (r : Option (Frame F)) (new : List (Frame F)) (us : List ℕ) : Type 0 where
  pub start : IsStart r
  pub last : new ≡ []
  pub waits : Waits c (Spelt c.code (Some d) t) (begun_of r) us

pub other_node : {F : Type 0} (c : Coding) (feeds : FeedLaws c) (d : Datum) (t : Shape) (r : Option (Frame F)) (new : List (Frame F)) (us : List ℕ)
    → (IsNone r → new ≡ []) → OtherTook c (with_node r new) d t us → OtherNode c d t r new us
other_node c feeds d t None new us e h =
    let last : new ≡ [] = e refl in
    let none : us ≡ [] = rw last at h in
    record { start = tt; last = last; waits = record { come = feeds.none ∙ sym none; at_unit = feeds.begin; begins = inl refl } }
other_node c feeds d t (Some (frame.Start b)) [] us e h = record { start = tt; last = refl; waits = h }
other_node c feeds d t (Some (frame.Start b)) (f ∷ fs) us e h = absurd h
other_node c feeds d t (Some (frame.Elements q)) new us e h = absurd h
other_node c feeds d t (Some (frame.Components q)) new us e h = absurd h
other_node c feeds d t (Some (frame.Bitmap p)) new us e h = absurd h
other_node c feeds d t (Some (frame.Additions q)) new us e h = absurd h
other_node c feeds d t (Some (frame.Chosen i)) new us e h = absurd h
other_node c feeds d t (Some (frame.Added i)) new us e h = absurd h
other_node c feeds d t (Some (frame.Octets q)) new us e h = absurd h
