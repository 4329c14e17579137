-- The octets that the writers of INTEGER and ENUMERATED write in OER.
use Rattle.std.proofs.Common.{◌≡◌, ◌≤◌, ◌<◌, ◌+◌, ◌-◌, ◌*◌, ◌^◌, ℕ, suc, ℤ, pos, negsuc, ◌≤ℤ◌, ◌<ℤ◌, ◌+ℤ◌, ◌⊎◌, Bool, true, false, nat_lt, ◌||◌, List, Option, Some, None, inl, inr, refl, sym, ◌∙◌, ap, subst, arith}
use Rattle.std.proofs.lemmas.Bool.{true≢false, le-leb, lt-ltb, and_parts}
use Rattle.std.proofs.lemmas.Nat.{pow_pos, pow-add}
use Rattle.std.proofs.Math.Nat.{one-le-pow, add-mul, mul-le-mul_right}
use Rattle.std.specs.Int.RustNames.{int_le, int_lt}
use Rattle.std.proofs.lemmas.Int.{ints}
use Rattle.asn_values.specs.Fits.{lowest_integer, highest_integer, FitsNumber, at_most}
use Rattle.asn_values.specs.Profile.{InProfile}
use Rattle.asn_values.specs.Shape.{Range, integer}
use lib.IntN.{nat_abs}
use mir.Syntax.{w64}
use mir.Val.{of_z, to_z}
use Rattle.asn_bits.specs.Lengths.{general_octets}
use Rattle.asn_bits.specs.Numbers.{bits, octets, least, least_signed, signed_octets, magnitude, unpacked}
use Rattle.asn_bits.proofs.Above.{test_of_le}
use Rattle.asn_bits.proofs.Octets.{half}
use Rattle.asn_bits.proofs.Splits.{digits_above, unpacked-octets}
use Rattle.asn_oer.specs.Oer.{counted, counted_signed, unsigned_octets, unsigned_in, signed_size, signed_in, ranged, whole_number}
use Rattle.asn_oer.specs.Reading.{IsCounted}
use Rattle.asn_oer.proofs.Law.Integers.{signed_cases, from_zero, in_bound}
use Rattle.asn_oer.proofs.Encodings.SpeltLeaves.{in_64_bits}
use Rattle.asn_oer.proofs.Write.WrittenOctets.{least_counted, signed_counted}
use Rattle.asn_rules.specs.IntegerSets.{magnitude_of}
use Rattle.asn_rules.specs.OctetsWritten.{fixed_octets}
use Rattle.asn_rules.proofs.Plain.IntegerSets.{size_is, low_bound, high_bound}

-- ---- which octets

pub some_same : {j k : ℕ} → Some j ≡ Some k → j ≡ k
some_same e = cc

pub some_same_low : {y z : ℤ} → Some y ≡ Some z → y ≡ z
some_same_low e = cc

-- of 1, 2, 4 and 8 octets those that hold the numbers up to g
fixed_is : (g : ℕ) → g < 18446744073709551616 → unsigned_octets (pos g) ≡ Some (fixed_octets g)
fixed_is g h = go (nat_lt g 256) (nat_lt g 65536) (nat_lt g 4294967296) refl refl refl
  where
    last : nat_lt g 18446744073709551616 ≡ true
    last = lt-ltb g 18446744073709551616 h

    go : (a b c : Bool) → nat_lt g 256 ≡ a → nat_lt g 65536 ≡ b → nat_lt g 4294967296 ≡ c → unsigned_octets (pos g) ≡ Some (fixed_octets g)
    go true b c ea eb ec = rw (ea, unsigned_octets, fixed_octets) refl
    go false true c ea eb ec = rw (ea, eb, unsigned_octets, fixed_octets) refl
    go false false true ea eb ec = rw (ea, eb, ec, unsigned_octets, fixed_octets) refl
    go false false false ea eb ec = rw (ea, eb, ec, last, unsigned_octets, fixed_octets) refl

-- from zero on
pub unsigned_form : (low high z : ℤ) (k : ℕ) → int_le (pos 0) low ≡ true → unsigned_octets high ≡ Some k → ranged (Some low) (Some high) z ≡ octets k (magnitude_of z)
unsigned_form (pos l) high z k p e = ap (λ o. unsigned_in o z) e
unsigned_form (negsuc l) high z k p e = absurd (true≢false (sym p))

-- from below zero on
pub signed_form : (low high z : ℤ) (k : ℕ) → int_le (pos 0) low ≡ false → signed_size low high ≡ Some k → ranged (Some low) (Some high) z ≡ signed_octets k z
signed_form (pos l) high z k p e = absurd (true≢false (sym (le-leb 0 l (omega arith)) ∙ p))
signed_form (negsuc l) high z k p e = ap (λ o. signed_in o z) e

-- without a high bound
pub counted_form : (low z : ℤ) → int_le (pos 0) low ≡ true → ranged (Some low) None z ≡ counted z
counted_form (pos l) z p = refl
counted_form (negsuc l) z p = absurd (true≢false (sym p))

pub counted_signed_form : (low z : ℤ) → int_le (pos 0) low ≡ false → ranged (Some low) None z ≡ counted_signed z
counted_signed_form (pos l) z p = absurd (true≢false (sym (le-leb 0 l (omega arith)) ∙ p))
counted_signed_form (negsuc l) z p = refl

-- a number from a bound that is not negative
not_negative : (low z : ℤ) → int_le (pos 0) low ≡ true → int_le low z ≡ true → int_le (pos 0) z ≡ true
not_negative (pos l) z p a = from_zero l z a
not_negative (negsuc l) z p a = absurd (true≢false (sym p))

magnitude_small : (z : ℤ) → z ≤ℤ highest_integer → magnitude_of z < 18446744073709551616
magnitude_small (pos n) q = omega (arith, ints)
magnitude_small (negsuc n) q = omega arith

-- ---- their bits

pub unsigned_bits : (low high z : ℤ) (k : ℕ) → int_le (pos 0) low ≡ true → unsigned_octets high ≡ Some k → int_le low z ≡ true → bits (8 * k) (nat_abs z) ≡ unpacked (ranged (Some low) (Some high) z)
unsigned_bits low high z k p e a =
    ap (λ (n : ℕ). bits (8 * k) n) (size_is z (not_negative low z p a)) ∙ sym (ap unpacked (unsigned_form low high z k p e) ∙ unpacked-octets k (magnitude_of z))

pub signed_bits : (low high z : ℤ) (k r : ℕ) → int_le (pos 0) low ≡ false → signed_size low high ≡ Some k → signed_octets k z ≡ octets k r → bits (8 * k) r ≡ unpacked (ranged (Some low) (Some high) z)
signed_bits low high z k r p e o = sym (ap unpacked (signed_form low high z k p e ∙ o) ∙ unpacked-octets k r)

-- ---- that the number has room in them

-- a number between two bounds
pub record SignedRoom (k : ℕ) (z : ℤ) : Type 0 where
  pub some : 1 ≤ k
  pub few : k ≤ 8
  pub room : magnitude z < 2 ^ (8 * k - 1)

pub signed_room : (low high z : ℤ) (k : ℕ) → signed_size low high ≡ Some k → int_le low z ≡ true → int_le z high ≡ true → SignedRoom k z
signed_room low high z k e a b =
    elim (signed_cases low high) [
      | inl w ↦
          let n = 2 ^ (8 * w.0 - 1) in
          let v = and_parts (int_le (negsuc (n - 1)) low) (int_lt high (pos n)) w.3 in
          let same : w.0 ≡ k = some_same (sym w.2 ∙ e) in
          subst (λ (i : ℕ). SignedRoom i z) same (record { some = w.1; few = w.4; room = in_bound low high z n (pow_pos (8 * w.0 - 1)) v.0 v.1 a b })
      | inr w ↦ absurd (cc (w, e))
    ]

-- ---- of a number between bounds

-- which keeps its value in 64 signed bits
pub narrow : (z : ℤ) → lowest_integer ≤ℤ z → z <ℤ pos 9223372036854775808 → to_z w64 (of_z w64 z) ≡ z
narrow z a b = omega (arith, ints, a, b)

-- the octets of a number of 64 bits in two's complement are the last ones of these
residue_octets : (k : ℕ) (z : ℤ) (r : ℕ) → k ≤ 8 → magnitude z < 256 ^ k → (pos 0 ≤ℤ z → pos r ≡ z) → (z <ℤ pos 0 → pos r ≡ (z +ℤ pos 18446744073709551616)) → signed_octets k z ≡ octets k r
residue_octets k (pos n) r few room from below =
    let same : n ≡ r = omega (arith, ints, from (omega (arith, ints))) in
    ap (octets k) same
residue_octets k (negsuc n) r few room from below =
    let p = 256 ^ k in
    let q = 256 ^ (8 - k) in
    let some : 1 ≤ q = one-le-pow (8 - k) 256 (omega arith) in
    let whole : 8 - k + k ≡ 8 = omega arith in
    let all : q * p ≡ 18446744073709551616 = sym (pow-add 256 (8 - k) k) ∙ ap (λ (i : ℕ). 256 ^ i) whole in
    let less : (q - 1) * p + 1 * p ≡ q * p = sym (add-mul (q - 1) 1 p) ∙ ap (λ (t : ℕ). t * p) (omega (arith, some)) in
    let high : 1 * p ≤ q * p = mul-le-mul_right p some in
    let is : r ≡ 18446744073709551616 - suc n = omega (arith, ints, below (omega (arith, ints)), all, room, high) in
    let same : (q - 1) * p + (p - 1 - n) ≡ r = omega (arith, less, all, room, is) in
    sym (digits_above 256 (omega arith) k (q - 1) (p - 1 - n)) ∙ ap (octets k) same

-- a number between bounds, of which as many octets are written as the numbers up to g have
pub fixed_bits : (low high z : ℤ) (g r : ℕ) → low ≤ℤ z → z ≤ℤ high → (pos 0 ≤ℤ low → pos g ≡ high)
    → (low <ℤ pos 0 → signed_size low high ≡ unsigned_octets (pos g)) → g < 18446744073709551616 → (pos 0 ≤ℤ z → pos r ≡ z) → (z <ℤ pos 0 → pos r ≡ (z +ℤ pos 18446744073709551616))
    → bits (8 * fixed_octets g) r ≡ unpacked (ranged (Some low) (Some high) z)
fixed_bits (pos l) high (negsuc z) g r p q from below small up down = absurd (omega (arith, ints, p))
fixed_bits (pos l) high (pos z) g r p q from below small up down =
    let size : unsigned_octets high ≡ Some (fixed_octets g) = ap unsigned_octets (sym (from (omega (arith, ints)))) ∙ fixed_is g small in
    let same : r ≡ z = omega (arith, ints, up (omega (arith, ints))) in
    ap (bits (8 * fixed_octets g)) same ∙ unsigned_bits (pos l) high (pos z) (fixed_octets g) (test_of_le (pos 0) (pos l) (omega (arith, ints))) size (test_of_le (pos l) (pos z) p)
fixed_bits (negsuc l) high z g r p q from below small up down =
    let k = fixed_octets g in
    let size : signed_size (negsuc l) high ≡ Some k = below (omega (arith, ints)) ∙ fixed_is g small in
    let room = signed_room (negsuc l) high z k size (test_of_le (negsuc l) z p) (test_of_le z high q) in
    let held : magnitude z < 256 ^ k = omega (arith, room.room, half k room.some) in
    signed_bits (negsuc l) high z k r refl size (residue_octets k z r room.few held up down)

-- a number between bounds without a size, which is written after its length
pub wide_bits : (low high z : ℤ) → low <ℤ pos 0 → signed_size low high ≡ None → lowest_integer ≤ℤ z → z ≤ℤ highest_integer → general_octets (λ u. u) (least_signed z) ≡ unpacked (ranged (Some low) (Some high) z)
wide_bits (pos l) high z n e a b = absurd (omega (arith, ints, n))
wide_bits (negsuc l) high z n e a b = signed_counted z (in_64_bits z a b) ∙ ap unpacked (ap (λ o. signed_in o z) (sym e))

-- a number of the range that is written after its length, from a bound on that is not negative
pub counted_bits : (b : Range) (low z : ℤ) → IsCounted b → FitsNumber b z → b.low ≡ Some low → b.extensible ≡ false → int_le (pos 0) low ≡ true
    → general_octets (λ u. u) (least (nat_abs z)) ≡ unpacked (whole_number b z)
counted_bits b low z o f l m p =
    ap (λ (n : ℕ). general_octets (λ u. u) (least n)) (size_is z (not_negative low z p above_low)) ∙ least_counted (magnitude_of z) (magnitude_small z f.1) ∙ sym (ap unpacked form)
  where
    open_end : b.high ≡ None
    open_end = elim o [ inl e ↦ absurd (true≢false (sym e ∙ m)) | inr w ↦ elim w [ inl e ↦ absurd (cc (e, l)) | inr e ↦ e ] ]

    above_low : int_le low z ≡ true
    above_low = (and_parts (int_le low z) (at_most b.high z) (rw (m, l) at f.2)).0

    form : whole_number b z ≡ counted z
    form = ap (λ (x : Bool). elim x [ true ↦ counted_signed z | false ↦ ranged b.low b.high z ]) m ∙ ap (λ (o : Option ℤ). ranged o b.high z) l ∙ ap (λ (o : Option ℤ). ranged (Some low) o z) open_end ∙ counted_form low z p

-- and one that is not
pub counted_signed_bits : (b : Range) (z : ℤ) → IsCounted b → FitsNumber b z → (b.extensible ≡ true) ⊎ ((low : ℤ) → b.low ≡ Some low → int_le (pos 0) low ≡ false)
    → general_octets (λ u. u) (least_signed z) ≡ unpacked (whole_number b z)
counted_signed_bits b z o f w = signed_counted z (in_64_bits z f.0 f.1) ∙ ap unpacked (sym (form b.extensible refl))
  where
    chosen : Bool → List ℕ
    chosen x = elim x [ true ↦ counted_signed z | false ↦ ranged b.low b.high z ]

    closed : (l h : Option ℤ) → b.low ≡ l → b.high ≡ h → b.extensible ≡ false → ranged l h z ≡ counted_signed z
    closed None h e g m = refl
    closed (Some low) None e g m = counted_signed_form low z (elim w [ inl t ↦ absurd (true≢false (sym t ∙ m)) | inr negative ↦ negative low e ])
    closed (Some low) (Some high) e g m = absurd (elim o [ inl t ↦ true≢false (sym t ∙ m) | inr n ↦ elim n [ inl t ↦ cc (t, e) | inr t ↦ cc (t, g) ] ])

    form : (m : Bool) → b.extensible ≡ m → whole_number b z ≡ counted_signed z
    form true e = ap chosen e
    form false e = ap chosen e ∙ closed b.low b.high refl refl e

-- a number between the bounds of a range without an extension mark
pub between_bounds : (b : Range) (low high z : ℤ) → InProfile (integer b) → b.low ≡ Some low → b.high ≡ Some high → low ≤ℤ z → z ≤ℤ high → FitsNumber b z
between_bounds b low high z good l h p q = (from, to, rw (l, h, test_of_le low z p, test_of_le z high q) (either b.extensible))
  where
    least : lowest_integer ≤ℤ low
    least = (low_bound b low good l).0

    most : high ≤ℤ highest_integer
    most = (high_bound b high good h).1

    from : lowest_integer ≤ℤ z
    from = omega (arith, ints, least, p)

    to : z ≤ℤ highest_integer
    to = omega (arith, ints, most, q)

    either : (x : Bool) → (x || true) ≡ true
    either true = refl
    either false = refl

-- ---- the bounds of a range of the profile
