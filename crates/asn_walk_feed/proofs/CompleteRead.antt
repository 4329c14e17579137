-- How a complete encoding that may be cut goes on.
use Rattle.std.proofs.Common.{◌≡◌, ◌+◌, ◌-◌, ◌%◌, arith, ℕ, List, [], length, None, refl, sym, ap, subst}
use Rattle.asn_values.specs.Datum.{Datum}
use Rattle.asn_values.specs.Shape.{Shape}
use Rattle.asn_rules.specs.Languages.{Spells}
use Rattle.asn_rules.specs.Listed.{Spelt}
use Rattle.asn_rules.specs.Padding.{Fixed}
use Rattle.asn_rules.specs.Stops.{Stops}
use Rattle.asn_rules.specs.declared.stop.Stop.{Stop}
use Rattle.asn_rules.specs.declared.stop.Stop.TheVariants as stop
use Rattle.asn_walk.specs.Ahead.{Ahead}
use Rattle.asn_walk.specs.Coding.{Coding}
use Rattle.asn_walk.proofs.OpenRead.{left_fewer, length_none}
use Rattle.asn_walk_feed.specs.Feeding.{FeedLaws}
use Rattle.asn_walk_feed.specs.OpenFields.{FieldCoding}
use Rattle.asn_walk_feed.specs.Taken.{KeepsFrames}
use Rattle.asn_walk_feed.specs.declared.frame.Frame.{Frame}

module _ {F : Type 0} (c : Coding) (feeds : FeedLaws c) (fc : FieldCoding) (ahead : F → Ahead) (between : F → Type 0) (t : Shape) (v : Datum) (all r : List ℕ) (read : Spells c.ruling.fielding (Spelt c.code None t) v all r) (whole : length all % c.octet_units ≡ 0) where
  -- where what fills it up is not all there, no unit has come
  nothing_came : Stops c.ruling.fielding (Fixed (c.padding (length all - length r))) r stop.Short → all ≡ []
  nothing_came h =
      let n = length all - length r in
      let fewer = left_fewer read in
      let same : n + length r ≡ length all = omega (arith, fewer) in
      let z = feeds.unfilled n r (subst (λ (k : ℕ). k % c.octet_units ≡ 0) (sym same) whole) h.told in
      length_none all (omega (arith, same, z.0, ap length z.1))

  pub filling_kept : (fs : List (Frame F)) (why : Stop) → fs ≡ [] → Stops c.ruling.fielding (Fixed (c.padding (length all - length r))) r why
      → KeepsFrames c fc ahead between fs t all why
  filling_kept fs (stop.Refused n w) e h = tt
  filling_kept fs stop.Memory e h = tt
  filling_kept fs stop.Short e h = rw (e, nothing_came h) refl
