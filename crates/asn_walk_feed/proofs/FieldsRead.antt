-- What is answered after an open type field, of which all octets have come.
use native.Mathlib.Nat.{mul-le-mul}
use Rattle.std.proofs.Common.{◌≡◌, ◌<◌, ◌≤◌, ◌+◌, ◌*◌, ◌^◌, arith, ℕ, List, length, sym, ◌∙◌}
use Rattle.asn_values.specs.Fits.{max_len}
use Rattle.asn_rules.specs.declared.stop.Stop.{Stop}
use Rattle.asn_rules.specs.declared.stop.Stop.TheVariants as stop
use Rattle.asn_walk.specs.Ahead.{Ahead}
use Rattle.asn_walk.specs.Coding.{Coding}
use Rattle.asn_walk.specs.Laws.{Laws}
use Rattle.asn_walk_feed.specs.Feeding.{StandsAfter}
use Rattle.asn_walk_feed.specs.Octets.{OctetCoding, KeepsOctets}
use Rattle.asn_walk_feed.specs.OpenFields.{StopsAfter}
use Rattle.asn_walk_feed.specs.declared.frame.Frame.{Frame}

-- it stops after the field
pub stands_after : (c : Coding) (units : List ℕ) (left : ℕ) (why : Stop) → length (c.to_units units) ≡ left → StopsAfter left why → StandsAfter c units why
stands_after c units left (stop.Refused n w) e h = e ∙ sym h
stands_after c units left stop.Short e h = absurd h
stands_after c units left stop.Memory e h = tt

-- and keeps nothing
pub keeps_none : {F : Type 0} (c : Coding) (f : OctetCoding) (ahead : F → Ahead) (between : F → Type 0) (fs : List (Frame F)) (us : List ℕ) (left : ℕ) (why : Stop)
    → StopsAfter left why → KeepsOctets c f ahead between fs us why
keeps_none c f ahead between fs us left (stop.Refused n w) h = tt
keeps_none c f ahead between fs us left stop.Short h = absurd h
keeps_none c f ahead between fs us left stop.Memory h = tt

-- the units of a content can be counted
pub few_units : (c : Coding) (laws : Laws c) (ticks : ℕ) → ticks ≡ 0 → (n : ℕ) (os : List ℕ) → n ≡ c.octet_units * length os → length os ≤ max_len → ticks + n < 2 ^ 64
few_units c laws ticks z n os e h =
    let most : c.octet_units * length os ≤ 8 * max_len = mul-le-mul laws.few h in
    omega (arith, z, e, most)
