-- What is answered of octets by a type with the same spellings is the answer by the type.
use Rattle.std.proofs.Common.{ℕ, List, take, Result, Ok, Err, refl, subst}
use Rattle.asn_values.specs.Shape.{Shape}
use Rattle.asn_rules.specs.Answer.{Ruling, NoFront, max_octets}
use Rattle.asn_rules.specs.Chunks.{Chunk}
use Rattle.asn_rules.specs.Codec.{Decoded}
use Rattle.asn_rules.specs.Live.{Live, GoesOn, Place}
use Rattle.asn_rules.specs.Reading.{Wholes}
use Rattle.asn_rules.specs.declared.fault.DecodeFault.{DecodeFault}
use Rattle.asn_rules.specs.declared.fault.DecodeFault.TheVariants as decode
use Rattle.asn_plan.specs.Plans.{Checks}
use Rattle.asn_plan.proofs.Covers.{Covers}
use Rattle.asn_plan.proofs.Leans.{AreAlike, encodes_alike}

live_alike : (r : Ruling) (t u : Shape) → Covers (Wholes r t) (Wholes r u) → (b : List ℕ) → Live r.fielding r.whole t b
    → Live r.fielding r.whole u b
live_alike r t u k b h =
    let w = k h.0 (r.whole t h.0) (record { fits = h.1; same = refl }) in
    (w.0, w.1.fits, subst (λ (cs : List Chunk). GoesOn r.fielding cs b) w.1.same h.2)

front_alike : (r : Ruling) (t u : Shape) → Covers (Wholes r t) (Wholes r u) → (s : List ℕ) → NoFront r u s → NoFront r t s
front_alike r t u k s h v n few e = let w = encodes_alike r t u k v (take n s) e in h w.0 n few w.1

place_alike : (P Q : List ℕ → Type 0) → ((b : List ℕ) → P b → Q b) → ((b : List ℕ) → Q b → P b) → (b : List ℕ) (k : ℕ)
    → Place P b k → Place Q b k
place_alike P Q to from b k h = (h.0, λ q. h.1 (from (take k b) q), λ j less. to (take j b) (h.2 j less))

module _ (r : Ruling) (t u : Shape) (k : AreAlike (Wholes r t) (Wholes r u)) where
  decoded_alike : (why : DecodeFault) (o : List ℕ) → Decoded r (Err why) u o → Decoded r (Err why) t o
  decoded_alike (decode.Refused at why) o h =
      let s = take max_octets o in
      (front_alike r t u k.to s h.0, place_alike (Live r.fielding r.whole u) (Live r.fielding r.whole t) (live_alike r u t k.from) (live_alike r t u k.to) (r.units s) at h.1)
  decoded_alike (decode.Truncated taken) o h =
      (h.0, (front_alike r t u k.to o h.1.0, live_alike r u t k.from (r.units o) h.1.1, h.1.2))
  decoded_alike (decode.Rest used) o h =
      let w = encodes_alike r u t k.from h.1 (take used (take max_octets o)) h.2.1 in
      (h.0, w.0, (h.2.0, w.1))
  decoded_alike decode.TooLong o h =
      let s = take max_octets o in
      (front_alike r t u k.to s h.0, live_alike r u t k.from (r.units s) h.1, h.2)
  decoded_alike decode.Memory o h = tt

  pub checks_alike : (a : Result (Unit {0}) DecodeFault) (o : List ℕ) → Checks r a u o → Checks r a t o
  checks_alike (Ok x) o h = let w = encodes_alike r u t k.from h.1 o h.2 in (h.0, w.0, w.1)
  checks_alike (Err why) o h = decoded_alike why o h
