-- Rows of numbers in octets: a number of at most n octets has as many or fewer, and a BOOLEAN has one.
use Rattle.std.proofs.Common.{◌≡◌, ◌≤◌, ◌-◌, ◌*◌, ◌^◌, ◌⊎◌, ◌<ℤ◌, ◌≤ℤ◌, ⊎_elim, inl, inr, ℕ, ℤ, pos, negsuc, Bool, true, false, List, [], ◌++◌, length, Option, Some, None, refl, sym, subst, ◌∙◌, length-append, arith}
use Rattle.std.specs.Int.RustNames.{int_le, int_lt}
use Rattle.std.proofs.lemmas.Bool.{true≢false}
use Rattle.std.proofs.lemmas.Int.{ints}
use Rattle.asn_values.specs.Datum.{Datum, number}
use Rattle.asn_values.specs.Profile.{InProfile}
use Rattle.asn_values.specs.Shape.{Range, Shape, boolean, integer}
use Rattle.asn_bits.proofs.FilledBits.{length-packed}
use Rattle.asn_rules.specs.Chunks.{Chunk}
use Rattle.asn_rules.specs.IntegerSets.{magnitude_of}
use Rattle.asn_rules.specs.Languages.{Map}
use Rattle.asn_rules.specs.Listed.{Spelt}
use Rattle.asn_oer.specs.Oer.{unsigned_octets, signed_size, both_in}
use Rattle.asn_oer.specs.SimpleTypes.{FixedUnsigned, UnsignedIn, FixedSigned, SignedIn, BoundedIntegers, Integers}
use Rattle.asn_oer.specs.Walk.{oer_coding}
use Rattle.asn_oer.proofs.InPieces.Units.{packed_append}
use Rattle.asn_oer.proofs.Types.IntegerLanguages.{integer_language}
use Rattle.asn_oer.proofs.Types.SimpleLanguages.{boolean_language}
use Rattle.asn_walk_feed.specs.Small.{AreNumbers, IsNumber, IsNarrow, HasUnits, RowLaws}

abbrev Size : ℕ → Type 0
Size n = (n ≡ 1) ⊎ ((n ≡ 2) ⊎ ((n ≡ 4) ⊎ (n ≡ 8)))

-- some number of octets, n at most
record Fewer (n : ℕ) (o : Option ℕ) : Type 0 where
  octets : ℕ
  is : o ≡ Some octets
  some : 1 ≤ octets
  few : octets ≤ n

-- a bound below that of n octets, as a test
below : (n : ℕ) → Size n → (high : ℤ) → high <ℤ pos (2 ^ (8 * n))
    → (a b c : Bool) → int_lt high (pos (2 ^ 8)) ≡ a → int_lt high (pos (2 ^ 16)) ≡ b → int_lt high (pos (2 ^ 32)) ≡ c → Fewer n (unsigned_octets high)
below n size high h true b c ea eb ec = record { octets = 1; is = rw (ea, unsigned_octets) refl; some = omega arith; few = some_of size }
  where
    some_of : Size n → 1 ≤ n
    some_of (inl e) = omega (arith, e)
    some_of (inr (inl e)) = omega (arith, e)
    some_of (inr (inr (inl e))) = omega (arith, e)
    some_of (inr (inr (inr e))) = omega (arith, e)
below n (inl e) high h false b c ea eb ec = (let l : high <ℤ pos (2 ^ 8) = rw e at h in absurd (grind (arith, ints)))
below n (inr size) high h false true c ea eb ec = record { octets = 2; is = rw (ea, eb, unsigned_octets) refl; some = omega arith; few = two_of size }
  where
    two_of : (n ≡ 2) ⊎ ((n ≡ 4) ⊎ (n ≡ 8)) → 2 ≤ n
    two_of (inl e) = omega (arith, e)
    two_of (inr (inl e)) = omega (arith, e)
    two_of (inr (inr e)) = omega (arith, e)
below n (inr (inl e)) high h false false c ea eb ec = (let l : high <ℤ pos (2 ^ 16) = rw e at h in absurd (grind (arith, ints)))
below n (inr (inr size)) high h false false true ea eb ec = record { octets = 4; is = rw (ea, eb, ec, unsigned_octets) refl; some = omega arith; few = four_of size }
  where
    four_of : (n ≡ 4) ⊎ (n ≡ 8) → 4 ≤ n
    four_of (inl e) = omega (arith, e)
    four_of (inr e) = omega (arith, e)
below n (inr (inr (inl e))) high h false false false ea eb ec = (let l : high <ℤ pos (2 ^ 32) = rw e at h in absurd (grind (arith, ints)))
below n (inr (inr (inr e))) high h false false false ea eb ec =
    let l : high <ℤ pos (2 ^ 64) = rw e at h in
    let ed : int_lt high (pos (2 ^ 64)) ≡ true = grind (arith, ints) in
    record { octets = 8; is = rw (ea, eb, ec, ed, unsigned_octets) refl; some = omega arith; few = omega (arith, e) }

-- both bounds within those of n octets of two's complement
within : (n : ℕ) → Size n → (low high : ℤ) → both_in n low high ≡ true
    → (a b c : Bool) → both_in 1 low high ≡ a → both_in 2 low high ≡ b → both_in 4 low high ≡ c → Fewer n (signed_size low high)
within n size low high h true b c ea eb ec = record { octets = 1; is = rw (ea, signed_size) refl; some = omega arith; few = some_of size }
  where
    some_of : Size n → 1 ≤ n
    some_of (inl e) = omega (arith, e)
    some_of (inr (inl e)) = omega (arith, e)
    some_of (inr (inr (inl e))) = omega (arith, e)
    some_of (inr (inr (inr e))) = omega (arith, e)
within n (inl e) low high h false b c ea eb ec = absurd (true≢false (sym (rw e at h) ∙ ea))
within n (inr size) low high h false true c ea eb ec = record { octets = 2; is = rw (ea, eb, signed_size) refl; some = omega arith; few = two_of size }
  where
    two_of : (n ≡ 2) ⊎ ((n ≡ 4) ⊎ (n ≡ 8)) → 2 ≤ n
    two_of (inl e) = omega (arith, e)
    two_of (inr (inl e)) = omega (arith, e)
    two_of (inr (inr e)) = omega (arith, e)
within n (inr (inl e)) low high h false false c ea eb ec = absurd (true≢false (sym (rw e at h) ∙ eb))
within n (inr (inr size)) low high h false false true ea eb ec = record { octets = 4; is = rw (ea, eb, ec, signed_size) refl; some = omega arith; few = four_of size }
  where
    four_of : (n ≡ 4) ⊎ (n ≡ 8) → 4 ≤ n
    four_of (inl e) = omega (arith, e)
    four_of (inr e) = omega (arith, e)
within n (inr (inr (inl e))) low high h false false false ea eb ec = absurd (true≢false (sym (rw e at h) ∙ ec))
within n (inr (inr (inr e))) low high h false false false ea eb ec =
    let ed : both_in 8 low high ≡ true = rw e at h in
    record { octets = 8; is = rw (ea, eb, ec, ed, signed_size) refl; some = omega arith; few = omega (arith, e) }

-- the numbers of both kinds
unsigned : (n : ℕ) (o : Option ℕ) (low high : ℕ) → Fewer n o → (v : Datum) (cs : List Chunk) → Map number (UnsignedIn o low high) v cs → HasUnits 1 n cs
unsigned n o low high f v cs s =
    let m : Map number (FixedUnsigned f.octets low high) v cs = subst (λ (x : Option ℕ). Map number (UnsignedIn x low high) v cs) f.is s in
    let l : length m.spelt.spelt.units ≡ f.octets = m.spelt.spelt.spelt.digits.count in
    record { units = m.spelt.spelt.units; same = m.spelt.spelt.same; least = omega (arith, l, f.some); most = omega (arith, l, f.few) }

signed : (n : ℕ) (b : Range) (o : Option ℕ) (low high : ℤ) → Fewer n o → (v : Datum) (cs : List Chunk) → Map number (SignedIn b o low high) v cs → HasUnits 1 n cs
signed n b o low high f v cs s =
    let m : Map number (FixedSigned f.octets low high) v cs = subst (λ (x : Option ℕ). Map number (SignedIn b x low high) v cs) f.is s in
    let l : length m.spelt.spelt.units ≡ f.octets = m.spelt.spelt.spelt.digits.count in
    record { units = m.spelt.spelt.units; same = m.spelt.spelt.same; least = omega (arith, l, f.some); most = omega (arith, l, f.few) }

-- a bound from zero on is below that of n octets, also where there is a sign beside
unsigned_bound : (n : ℕ) → Size n → (low high : ℤ) → AreNumbers n low high → high <ℤ pos (2 ^ (8 * n))
unsigned_bound n (inl e) low high h = (let a : AreNumbers 1 low high = rw e at h in rw e (⊎_elim (λ x. x.1) (λ x. omega (arith, ints, x.1)) a.1))
unsigned_bound n (inr (inl e)) low high h = (let a : AreNumbers 2 low high = rw e at h in rw e (⊎_elim (λ x. x.1) (λ x. omega (arith, ints, x.1)) a.1))
unsigned_bound n (inr (inr (inl e))) low high h = (let a : AreNumbers 4 low high = rw e at h in rw e (⊎_elim (λ x. x.1) (λ x. omega (arith, ints, x.1)) a.1))
unsigned_bound n (inr (inr (inr e))) low high h = (let a : AreNumbers 8 low high = rw e at h in rw e (⊎_elim (λ x. x.1) (λ x. omega (arith, ints, x.1)) a.1))

signed_bounds : (n low : ℕ) (high : ℤ) → AreNumbers n (negsuc low) high → both_in n (negsuc low) high ≡ true
signed_bounds n low high h = ⊎_elim (λ x. absurd (omega (arith, ints, x.0))) (λ x. both x.0 x.1) h.1
  where
    both : negsuc (2 ^ (8 * n - 1) - 1) ≤ℤ negsuc low → high <ℤ pos (2 ^ (8 * n - 1)) → both_in n (negsuc low) high ≡ true
    both l h =
        let a : int_le (negsuc (2 ^ (8 * n - 1) - 1)) (negsuc low) ≡ true = grind (arith, ints) in
        let b : int_lt high (pos (2 ^ (8 * n - 1))) ≡ true = grind (arith, ints) in
        rw (a, b) refl

bounded : (n : ℕ) → Size n → (low high : ℤ) → AreNumbers n low high → (b : Range) (v : Datum) (cs : List Chunk) → Map number (BoundedIntegers b (Some low) (Some high)) v cs → HasUnits 1 n cs
bounded n size (pos low) high h b v cs s =
    unsigned n (unsigned_octets high) low (magnitude_of high)
    (below n size high (unsigned_bound n size (pos low) high h) (int_lt high (pos (2 ^ 8))) (int_lt high (pos (2 ^ 16))) (int_lt high (pos (2 ^ 32))) refl refl refl) v cs s
bounded n size (negsuc low) high h b v cs s =
    signed n b (signed_size (negsuc low) high) (negsuc low) high
    (within n size (negsuc low) high (signed_bounds n low high h) (both_in 1 (negsuc low) high) (both_in 2 (negsuc low) high) (both_in 4 (negsuc low) high) refl refl refl) v cs s

numbers : (n : ℕ) (r : Range) → IsNumber n r → InProfile (integer r) → (v : Datum) (cs : List Chunk) → Spelt oer_coding.code None (integer r) v cs → HasUnits 1 (oer_coding.octet_units * n) cs
unfolding oer_coding
numbers n r w good v cs s =
    let x : Integers r v cs = (integer_language r good).from v cs (record { fits = s.fits.0; same = s.same }) in
    let b : Range = record { low = Some w.low; high = Some w.high; extensible = false } in
    let m : Map number (BoundedIntegers b (Some w.low) (Some w.high)) v cs = subst (λ (y : Range). Integers y v cs) w.is x in
    let u = bounded n w.size w.low w.high w.numbers b v cs m in
    record { units = u.units; same = u.same; least = u.least; most = omega (arith, u.most) }

narrow : (n : ℕ) (t : Shape) → IsNarrow n t → InProfile t → (v : Datum) (cs : List Chunk) → Spelt oer_coding.code None t v cs → HasUnits 1 (oer_coding.octet_units * n) cs
unfolding oer_coding
narrow n boolean e good v cs s =
    let m = boolean_language.from v cs (record { fits = s.fits.0; same = s.same }) in
    let l : length m.spelt.units ≡ 1 = m.spelt.spelt.digits.count in
    record { units = m.spelt.units; same = m.spelt.same; least = omega (arith, l); most = omega (arith, l, e) }
narrow n (integer r) w good v cs s = numbers n r w good v cs s
narrow n _ h good v cs s = absurd h

count : (bs : List ℕ) → oer_coding.at_unit bs → length bs * oer_coding.octet_units ≡ 8 * length (oer_coding.to_units bs)
unfolding oer_coding
count bs a = omega (arith, length-packed bs a)

joined : (bs more : List ℕ) → oer_coding.at_unit bs → oer_coding.at_unit (bs ++ more) → oer_coding.at_unit more × (oer_coding.to_units (bs ++ more) ≡ oer_coding.to_units bs ++ oer_coding.to_units more)
unfolding oer_coding
joined bs more a b = (omega (arith, a, b, length-append bs more), packed_append bs more a)

nothing : length (oer_coding.preamble []) ≡ 0
unfolding oer_coding
nothing = refl

pub oer_row_laws : RowLaws oer_coding
oer_row_laws = record { count = count; joined = joined; narrow = narrow; preamble = nothing }
