-- How a string that may be cut goes on: as its items do.
use Rattle.std.proofs.Common.{◌≡◌, ℕ, List, [], ◌∷◌, refl, sym, subst}
use Rattle.asn_rules.specs.declared.stop.Stop.{Stop}
use Rattle.asn_rules.specs.declared.stop.Stop.TheVariants as stop
use Rattle.asn_values.specs.Shape.{Shape, bit_string, octet_string, restricted, utf8_string}
use Rattle.asn_walk.specs.Ahead.{Ahead}
use Rattle.asn_walk.specs.Coding.{Coding}
use Rattle.asn_walk_feed.specs.Octets.{OctetsTook, KeepsOctets}
use Rattle.asn_walk_feed.specs.OpenFields.{FieldCoding, StopsAfter}
use Rattle.asn_walk_feed.specs.Strings.{IsString}
use Rattle.asn_walk_feed.specs.Taken.{Took, KeepsFrames}
use Rattle.asn_walk_feed.specs.declared.frame.Frame.{Frame}
use Rattle.asn_walk_feed.specs.declared.frame.Frame.TheVariants as frame

module _ {F : Type 0} (c : Coding) (fc : FieldCoding) (ahead : F → Ahead) (between : F → Type 0) where
  -- what has come of a string has come of its items
  same : (t : Shape) → IsString t → (fs : List (Frame F)) (us : List ℕ)
      → Took c fc ahead between fs t us ≡ OctetsTook c (fc.string t) ahead between fs us
  same (bit_string s) h [] us = refl
  same (bit_string s) h (frame.Start b ∷ []) us = refl
  same (bit_string s) h (frame.Start b ∷ f ∷ fs) us = refl
  same (bit_string s) h (frame.Elements q ∷ fs) us = refl
  same (bit_string s) h (frame.Components q ∷ fs) us = refl
  same (bit_string s) h (frame.Bitmap p ∷ fs) us = refl
  same (bit_string s) h (frame.Additions q ∷ fs) us = refl
  same (bit_string s) h (frame.Chosen i ∷ fs) us = refl
  same (bit_string s) h (frame.Added i ∷ fs) us = refl
  same (bit_string s) h (frame.Octets q ∷ fs) us = refl
  same (octet_string s) h [] us = refl
  same (octet_string s) h (frame.Start b ∷ []) us = refl
  same (octet_string s) h (frame.Start b ∷ f ∷ fs) us = refl
  same (octet_string s) h (frame.Elements q ∷ fs) us = refl
  same (octet_string s) h (frame.Components q ∷ fs) us = refl
  same (octet_string s) h (frame.Bitmap p ∷ fs) us = refl
  same (octet_string s) h (frame.Additions q ∷ fs) us = refl
  same (octet_string s) h (frame.Chosen i ∷ fs) us = refl
  same (octet_string s) h (frame.Added i ∷ fs) us = refl
  same (octet_string s) h (frame.Octets q ∷ fs) us = refl
  same (restricted k s) h [] us = refl
  same (restricted k s) h (frame.Start b ∷ []) us = refl
  same (restricted k s) h (frame.Start b ∷ f ∷ fs) us = refl
  same (restricted k s) h (frame.Elements q ∷ fs) us = refl
  same (restricted k s) h (frame.Components q ∷ fs) us = refl
  same (restricted k s) h (frame.Bitmap p ∷ fs) us = refl
  same (restricted k s) h (frame.Additions q ∷ fs) us = refl
  same (restricted k s) h (frame.Chosen i ∷ fs) us = refl
  same (restricted k s) h (frame.Added i ∷ fs) us = refl
  same (restricted k s) h (frame.Octets q ∷ fs) us = refl
  same utf8_string h [] us = refl
  same utf8_string h (frame.Start b ∷ []) us = refl
  same utf8_string h (frame.Start b ∷ f ∷ fs) us = refl
  same utf8_string h (frame.Elements q ∷ fs) us = refl
  same utf8_string h (frame.Components q ∷ fs) us = refl
  same utf8_string h (frame.Bitmap p ∷ fs) us = refl
  same utf8_string h (frame.Additions q ∷ fs) us = refl
  same utf8_string h (frame.Chosen i ∷ fs) us = refl
  same utf8_string h (frame.Added i ∷ fs) us = refl
  same utf8_string h (frame.Octets q ∷ fs) us = refl
  same _ h fs us = absurd h

  pub took_items : (t : Shape) → IsString t → (fs : List (Frame F)) (us : List ℕ) → Took c fc ahead between fs t us
      → OctetsTook c (fc.string t) ahead between fs us
  took_items t s fs us h = subst (λ (T : Type 0). T) (same t s fs us) h

  pub keeps_items : (t : Shape) → IsString t → (fs : List (Frame F)) (us : List ℕ) (why : Stop)
      → KeepsOctets c (fc.string t) ahead between fs us why → KeepsFrames c fc ahead between fs t us why
  keeps_items t s fs us (stop.Refused n w) h = tt
  keeps_items t s fs us stop.Short h = subst (λ (T : Type 0). T) (sym (same t s fs us)) h
  keeps_items t s fs us stop.Memory h = tt

  -- where it stops after all items, nothing is kept
  pub keeps_no_frames : (t : Shape) (fs : List (Frame F)) (us : List ℕ) (left : ℕ) (why : Stop) → StopsAfter left why
      → KeepsFrames c fc ahead between fs t us why
  keeps_no_frames t fs us left (stop.Refused n w) h = tt
  keeps_no_frames t fs us left stop.Short h = absurd h
  keeps_no_frames t fs us left stop.Memory h = tt
