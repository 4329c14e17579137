-- Rows of numbers in bits: a number of at most n octets has at most their bits, and a BOOLEAN has one.
use Rattle.std.proofs.Common.{◌≡◌, ◌≤◌, ◌<◌, ◌*◌, ◌^◌, ◌⊎◌, ◌≤ℤ◌, ◌-ℤ◌, ⊎_elim, inl, inr, ℕ, zero, suc, ℤ, pos, ◌+ℤ◌, List, [], ◌++◌, length, None, refl, subst, arith}
use Rattle.std.proofs.lemmas.Int.{ints}
use Rattle.asn_values.specs.Datum.{Datum, number}
use Rattle.asn_values.specs.Profile.{InProfile}
use Rattle.asn_values.specs.Shape.{Range, Shape, boolean, integer}
use Rattle.asn_bits.specs.Numbers.{width, above}
use Rattle.asn_bits.proofs.Above.{pos-above}
use Rattle.asn_bits.proofs.Fewest.{width_below}
use Rattle.asn_bits.proofs.Widths.{width_holds}
use Rattle.asn_rules.specs.Chunks.{Chunk}
use Rattle.asn_rules.specs.Languages.{Map}
use Rattle.asn_rules.specs.Listed.{Spelt}
use Rattle.asn_per.specs.Kinds.{Below, Integers}
use Rattle.asn_per.specs.Walk.{per_coding}
use Rattle.asn_per.proofs.Types.BooleanAndNull.{booleans_compose}
use Rattle.asn_per.proofs.Types.MarkedIntegers.{integers_compose}
use Rattle.asn_walk_feed.specs.Small.{AreNumbers, IsNumber, IsNarrow, HasUnits, RowLaws}

abbrev Size : ℕ → Type 0
Size n = (n ≡ 1) ⊎ ((n ≡ 2) ⊎ ((n ≡ 4) ⊎ (n ≡ 8)))

-- how far the highest of them lies above the lowest
how_far : (n : ℕ) → Size n → (low high : ℤ) → AreNumbers n low high → (1 ≤ above low high) × (above low high < 2 ^ (8 * n))
how_far n size low high h = go size
  where
    low_first : low ≤ℤ high
    low_first = omega (arith, ints, h.0)

    far : pos (above low high) ≡ high -ℤ low
    far = pos-above low high low_first

    some : 1 ≤ above low high
    some = omega (arith, ints, far, h.0)

    in_octets : (k : ℕ) → n ≡ k → AreNumbers k low high
    in_octets k e = rw e at h

    go : Size n → (1 ≤ above low high) × (above low high < 2 ^ (8 * n))
    go (inl e) = (some, rw e (let a = in_octets 1 e in ⊎_elim (λ x. omega (arith, ints, far, x.0, x.1)) (λ x. omega (arith, ints, far, x.0, x.1)) a.1))
    go (inr (inl e)) = (some, rw e (let a = in_octets 2 e in ⊎_elim (λ x. omega (arith, ints, far, x.0, x.1)) (λ x. omega (arith, ints, far, x.0, x.1)) a.1))
    go (inr (inr (inl e))) = (some, rw e (let a = in_octets 4 e in ⊎_elim (λ x. omega (arith, ints, far, x.0, x.1)) (λ x. omega (arith, ints, far, x.0, x.1)) a.1))
    go (inr (inr (inr e))) = (some, rw e (let a = in_octets 8 e in ⊎_elim (λ x. omega (arith, ints, far, x.0, x.1)) (λ x. omega (arith, ints, far, x.0, x.1)) a.1))

-- two numbers have a bit
some_bit : (r k : ℕ) → 2 ≤ r → r ≤ 2 ^ k → 1 ≤ k
some_bit r zero l h = absurd (omega (arith, l, h))
some_bit r (suc k) l h = omega arith

abbrev Counted : ℤ → ℕ → Datum → List Chunk → Type 0
Counted low count = Map (λ k. number (low +ℤ pos k)) (Below (width count) count)

numbers : (n : ℕ) (r : Range) → IsNumber n r → InProfile (integer r) → (v : Datum) (cs : List Chunk) → Spelt per_coding.code None (integer r) v cs → HasUnits 1 (per_coding.octet_units * n) cs
unfolding per_coding
numbers n r w good v cs s =
    let x : Integers r v cs = (integers_compose r good).from v cs (record { fits = s.fits.0; same = s.same }) in
    let m : Counted w.low (suc (above w.low w.high)) v cs = subst (λ (b : Range). Integers b v cs) w.is x in
    let l : length m.spelt.units ≡ width (suc (above w.low w.high)) = m.spelt.spelt.digits.count in
    let far = how_far n w.size w.low w.high w.numbers in
    let least = some_bit (suc (above w.low w.high)) (width (suc (above w.low w.high))) (omega (arith, far.0)) (width_holds (suc (above w.low w.high))) in
    let most = width_below (suc (above w.low w.high)) (8 * n) (omega (arith, far.1)) in
    record { units = m.spelt.units; same = m.spelt.same; least = omega (arith, l, least); most = omega (arith, l, most) }

narrow : (n : ℕ) (t : Shape) → IsNarrow n t → InProfile t → (v : Datum) (cs : List Chunk) → Spelt per_coding.code None t v cs → HasUnits 1 (per_coding.octet_units * n) cs
unfolding per_coding
narrow n boolean e good v cs s =
    let m = booleans_compose.from v cs (record { fits = s.fits.0; same = s.same }) in
    let l : length m.spelt.spelt.units ≡ 1 = m.spelt.spelt.spelt.digits.count in
    record { units = m.spelt.spelt.units; same = m.spelt.spelt.same; least = omega (arith, l); most = omega (arith, l, e) }
narrow n (integer r) w good v cs s = numbers n r w good v cs s
narrow n _ h good v cs s = absurd h

count : (bs : List ℕ) → per_coding.at_unit bs → length bs * per_coding.octet_units ≡ 8 * length (per_coding.to_units bs)
unfolding per_coding
count bs a = omega arith

joined : (bs more : List ℕ) → per_coding.at_unit bs → per_coding.at_unit (bs ++ more) → per_coding.at_unit more × (per_coding.to_units (bs ++ more) ≡ per_coding.to_units bs ++ per_coding.to_units more)
unfolding per_coding
joined bs more a b = (tt, refl)

nothing : length (per_coding.preamble []) ≡ 0
unfolding per_coding
nothing = refl

pub per_row_laws : RowLaws per_coding
per_row_laws = record { count = count; joined = joined; narrow = narrow; preamble = nothing }
