-- What the reader of a message says of the units of the octets that are read is what the decoder answers to all
-- octets.
use Rattle.std.proofs.Common.{◌≡◌, ◌≤◌, ◌<◌, ◌+◌, ⊎_elim, ◌-◌, ◌*◌, ◌%◌, ◌/◌, ℕ, List, [], ◌∷◌, length, take, drop, min, zero, suc, length-append, length-drop, refl, sym, ap, ◌∙◌, arith}
use Rattle.std.proofs.lemmas.Bool.{cases_lt}
use Rattle.std.proofs.lemmas.List.{length-take-le}
use Rattle.std.proofs.lemmas.Nat.{div-mul-add, mod-mul-add, mul-le}
use Rattle.std.proofs.Math.Nat.{mul-le-mul_left}
use Rattle.asn_values.specs.Datum.{Datum}
use Rattle.asn_values.specs.Shape.{Shape}
use Rattle.asn_values.specs.Profile.{InProfile}
use Rattle.asn_rules.specs.Answer.{Answer, done, refused, too_long, more, max_octets}
use Rattle.asn_rules.specs.Chunks.{Chunk, flat}
use Rattle.asn_rules.specs.Languages.{Spells, Short, Refused}
use Rattle.asn_rules.specs.Reading.{Wholes, ReadingsAnswer}
use Rattle.asn_rules.proofs.Answer.Reading.{readings_answer}
use Rattle.asn_walk.specs.Coding.{Coding}
use Rattle.asn_walk.specs.Laws.{Laws}

-- ---- the octets that are read

-- all of them, where they are not too many
pub take_all : (n : ℕ) (o : List ℕ) → length o ≤ n → take n o ≡ o
take_all zero [] h = refl
take_all (suc n) [] h = refl
take_all zero (x ∷ o) h = absurd (omega (arith, h))
take_all (suc n) (x ∷ o) h = ap (λ (l : List ℕ). x ∷ l) (take_all n o (omega (arith, h)))

-- by a count of which not all are there
take_same : (n : ℕ) (o : List ℕ) → take (min (length o) n) o ≡ take n o
take_same zero o =
    let e : min (length o) zero ≡ zero = omega arith in
    ap (λ (i : ℕ). take i o) e
take_same (suc n) [] =
    let e : min zero (suc n) ≡ zero = omega arith in
    ap (λ (i : ℕ). take i []) e
take_same (suc n) (x ∷ o) =
    let e : min (suc (length o)) (suc n) ≡ suc (min (length o) n) = omega arith in
    ap (λ (i : ℕ). take i (x ∷ o)) e ∙ ap (λ (l : List ℕ). x ∷ l) (take_same n o)

-- this many as are read are the first of them, up to the most
pub front_is : (o : List ℕ) (given : ℕ) → given ≡ min (length o) max_octets
    → (take given o ≡ take max_octets o) × (length (take given o) ≡ given)
front_is o given e = (
  ap (λ (i : ℕ). take i o) e ∙ take_same max_octets o,
  length-take-le given o (omega (arith, e)),
)

-- ---- numbers of units

-- the units of n octets fill octets
fills : (w n k : ℕ) → 1 ≤ w → k ≡ w * n → k % w ≡ 0
fills w n k some e =
    let f : k ≡ n * w + 0 = omega (arith, e) in
    ap (λ (i : ℕ). i % w) f ∙ mod-mul-add n w 0 some

-- where the units of m octets are taken of those of n octets, the units of the others are left
left_whole : (w n m k : ℕ) → 1 ≤ w → w * n ≡ w * m + k → (k ≡ w * (n - m)) × (k / w ≡ n - m) × (m ≤ n)
left_whole w n m k some e = (left, ap (λ (i : ℕ). i / w) turned ∙ div-mul-add (n - m) w 0 some, fewer)
  where
    fewer : m ≤ n
    fewer = ⊎_elim (λ (h : n < m). absurd (let more : w * (n + 1) ≤ w * m = mul-le-mul_left w (omega (arith, h)) in omega (arith, more, e, some))) (λ h. h) (cases_lt n m)

    left : k ≡ w * (n - m)
    left =
        let split : n ≡ m + (n - m) = omega (arith, fewer) in
        let product : w * n ≡ w * (m + (n - m)) = ap (λ (i : ℕ). w * i) split in
        omega (arith, product, e)

    turned : k ≡ (n - m) * w + 0
    turned = omega (arith, left)

module _ (c : Coding) (laws : Laws c) where
  -- the units of octets fill octets
  pub units_fill : (s : List ℕ) → length (c.ruling.units s) % c.octet_units ≡ 0
  units_fill s = fills c.octet_units (length s) (length (c.ruling.units s)) laws.some (laws.count s)

  module _ (t : Shape) (good : InProfile t) where
    answers : (s : List ℕ) → ReadingsAnswer c.ruling t s
    answers s = readings_answer c.ruling t s laws.tells good

    -- ---- a value

    -- after a complete encoding whole octets are left
    octets_after : (s rest : List ℕ) (v : Datum)
        → Spells c.ruling.fielding (Wholes c.ruling t) v (c.ruling.units s) rest
        → (m : ℕ) × (length rest ≡ c.octet_units * (length s - m)) × (length rest / c.octet_units ≡ length s - m)
        × (m ≤ length s)
    octets_after s rest v h =
        let w = laws.wholes.filled t v good h.spelt.fits in
        let units : length (flat c.ruling.fielding.spelled h.chunks) ≡ c.octet_units * length w.0 = ap (λ (cs : List Chunk). length (flat c.ruling.fielding.spelled cs)) h.spelt.same ∙ ap length (sym w.2) ∙ laws.count w.0 in
        let all : c.octet_units * length s ≡ c.octet_units * length w.0 + length rest = sym (laws.count s) ∙ ap length h.split ∙ length-append (flat c.ruling.fielding.spelled h.chunks) rest ∙ ap (λ n. n + length rest) units in
        let k = left_whole c.octet_units (length s) (length w.0) (length rest) laws.some all in (length w.0, k.0, k.1, k.2)

    -- no more octets are left than were read
    pub octets_left_fewer : (s rest : List ℕ) (v : Datum)
        → Spells c.ruling.fielding (Wholes c.ruling t) v (c.ruling.units s) rest
        → length rest / c.octet_units ≤ length s
    octets_left_fewer s rest v h = let k = octets_after s rest v h in omega (arith, k.2)

    -- the octets before those that are left are its encoding
    pub value_read : (s rest : List ℕ) (v : Datum)
        → Spells c.ruling.fielding (Wholes c.ruling t) v (c.ruling.units s) rest
        → Answer c.ruling t s (done v (length s - length rest / c.octet_units))
    value_read s rest v h =
        let n = length s - length rest / c.octet_units in
        let k = octets_after s rest v h in
        let some : n ≤ length s = omega arith in
        let same : length (drop n s) ≡ length s - k.0 = length-drop n s ∙ omega (arith, k.2, k.3) in
        let left : length rest ≡ length (c.ruling.units (drop n s)) = k.1 ∙ ap (λ i. c.octet_units * i) (sym same) ∙ sym (laws.count (drop n s)) in
        (answers s).value v n rest some left h

    -- ---- no value

    -- a refusal
    pub refusal_left : (us : List ℕ) (left : ℕ) → Refused c.ruling.fielding (Wholes c.ruling t) us left
        → left ≤ length us
    refusal_left us left h = omega (arith, ap length h.split, h.left_is, length-append h.before (h.unit ∷ h.after))

    pub refusal_read : (s : List ℕ) (left : ℕ) → length s ≤ max_octets
        → Refused c.ruling.fielding (Wholes c.ruling t) (c.ruling.units s) left
        → Answer c.ruling t s (refused (length (c.ruling.units s) - left))
    refusal_read s left few h = (answers s).place left few h

    -- too few octets
    pub short_read : (s : List ℕ) → length s < max_octets
        → Short c.ruling.fielding (Wholes c.ruling t) (c.ruling.units s) → Answer c.ruling t s more
    short_read s few h = (answers s).wanting few h

    -- or too many to come
    pub long_read : (s : List ℕ) → length s ≡ max_octets
        → Short c.ruling.fielding (Wholes c.ruling t) (c.ruling.units s) → Answer c.ruling t s too_long
    long_read s e h = (answers s).at_the_limit e h

  -- units are counted in 64 bits
  pub few_units : (s : List ℕ) → length s ≤ max_octets → length (c.ruling.units s) < 18446744073709551616
  few_units s few =
      let most : c.octet_units * length s ≤ 8 * 268435455 = mul-le c.octet_units (length s) 8 268435455 laws.few few in
      omega (arith, laws.count s, most)
