-- Which counts of octets, and which numbers after a count, integers in the fewest octets of two's complement have.
use Rattle.std.proofs.Common.{◌≡◌, ◌≤◌, ◌<◌, ◌+◌, ◌-◌, ◌*◌, ◌^◌, ◌⊎◌, ⊎_elim, inl, inr, ℕ, zero, suc, ℤ, pos, negsuc, ◌≤ℤ◌, ◌+ℤ◌, List, [], pow-add, refl, sym, ap, subst, ◌∙◌, lit≤, arith}
use Rattle.std.proofs.lemmas.Bool.{cases_lt, lt-ltb, le-ltb}
use Rattle.std.proofs.lemmas.Int.{ints}
use Rattle.std.proofs.Math.Nat.{pow-le-pow_right}
use Rattle.asn_values.specs.Fits.{lowest_integer, highest_integer, integer_count}
use Rattle.asn_bits.specs.Numbers.{magnitude, signed_octet_count}
use Rattle.asn_bits.proofs.Octets.{residue, residue_fits, half, signed_fits, signed_count_below, signed_count_some}
use Rattle.asn_bits.proofs.Fewest.{magnitude_word}
use Rattle.asn_bits.proofs.Above.{above-add}
use Rattle.asn_rules.specs.Counted.{SomeOf, LeastSigned, signed_number}
use Rattle.asn_rules.proofs.Numbers.CountedCodes.{number_again}
use Rattle.asn_rules.specs.declared.signed_reader.OffsetSet.{OffsetSet}
use Rattle.asn_bits.specs.Sets.{Among}
use Rattle.asn_rules.specs.OffsetSets.{HasOffset, HasInteger, IsOpen, StandsFor, least_magnitude_of, AreShifted, AreSigned, AreStanding}

-- ---- the weight of the sign bit

power_up : (i j : ℕ) → i ≤ j → 2 ^ i ≤ 2 ^ j
power_up i j h = pow-le-pow_right {n = 2} (omega arith) {i = i} {j = j} h

least_one : (c : ℕ) → c ≤ 1 → least_magnitude_of c ≡ 0
least_one c h = rw (le-ltb 1 c h, least_magnitude_of) refl

pub least_more : (c : ℕ) → 1 < c → least_magnitude_of c ≡ 2 ^ (8 * (c - 1) - 1)
least_more c h = rw (lt-ltb 1 c h, least_magnitude_of) refl

-- an octet more holds 256 times as much
octet_more : (c : ℕ) → 1 ≤ c → 2 ^ (8 * (c + 1) - 1) ≡ 256 * 2 ^ (8 * c - 1)
octet_more c h =
    let e : 8 * (c + 1) - 1 ≡ 8 + (8 * c - 1) = omega arith in
    ap (λ (i : ℕ). 2 ^ i) e ∙ pow-add 2 8 (8 * c - 1)

least_next : (c : ℕ) → 1 ≤ c → least_magnitude_of (c + 1) ≡ 2 ^ (8 * c - 1)
least_next c h =
    let e : 8 * (c + 1 - 1) - 1 ≡ 8 * c - 1 = omega arith in
    least_more (c + 1) (omega arith) ∙ ap (λ (i : ℕ). 2 ^ i) e

pub weight_within : (c : ℕ) → 1 ≤ c → c ≤ 8 → 2 ^ (8 * c - 1) ≤ 2 ^ 63
weight_within c some few = power_up (8 * c - 1) 63 (omega arith)

-- ---- which integers need a count of octets

count_least : (z : ℤ) (c : ℕ) → signed_octet_count z ≡ c → least_magnitude_of c ≤ magnitude z
count_least z c e = ⊎_elim more (λ h. omega (arith, least_one c h)) (cases_lt 1 c)
  where
    more : 1 < c → least_magnitude_of c ≤ magnitude z
    more h = ⊎_elim
        (λ l. absurd (omega (arith, signed_count_below z (c - 1) (omega arith) l, e)))
        (λ g. omega (arith, least_more c h, g))
        (cases_lt (magnitude z) (2 ^ (8 * (c - 1) - 1)))

count_most : (z : ℤ) (c : ℕ) → signed_octet_count z ≡ c → magnitude z < 2 ^ (8 * c - 1)
count_most z c e = subst (λ (i : ℕ). magnitude z < 2 ^ (8 * i - 1)) e (signed_fits z)

count_is : (z : ℤ) (c : ℕ) → 1 ≤ c → least_magnitude_of c ≤ magnitude z → magnitude z < 2 ^ (8 * c - 1) → signed_octet_count z ≡ c
count_is z c some low high = ⊎_elim less (λ h. omega (arith, h, signed_count_below z c some high)) (cases_lt (signed_octet_count z) c)
  where
    less : signed_octet_count z < c → signed_octet_count z ≡ c
    less h =
        let up : 2 ^ (8 * signed_octet_count z - 1) ≤ 2 ^ (8 * (c - 1) - 1) = power_up (8 * signed_octet_count z - 1) (8 * (c - 1) - 1) (omega (arith, h)) in
        absurd (omega (arith, signed_fits z, up, low, least_more c (omega (arith, h, signed_count_some z))))

-- ---- what octets of two's complement stand for

number_pos : (c n : ℕ) → n < 2 ^ (8 * c - 1) → signed_number (c, n) ≡ pos n
number_pos c n h = rw (lt-ltb n (2 ^ (8 * c - 1)) h, signed_number) refl

pub number_neg : (c n : ℕ) → 2 ^ (8 * c - 1) ≤ n → signed_number (c, n) ≡ negsuc (256 ^ c - 1 - n)
number_neg c n h = rw (le-ltb n (2 ^ (8 * c - 1)) h, signed_number) refl

-- an integer from 0 on in few octets is one of the profile
pub inside_short : (s : OffsetSet) (c : ℕ) → 1 ≤ c → c ≤ 8 → (n : ℕ) → n < 2 ^ (8 * c - 1) → HasOffset s (n + 2 ^ 63) → pos n ≤ℤ highest_integer
inside_short s c some few n h held =
    let within = weight_within c some few in
    omega (arith, ints, h, within)

-- and so is one at an offset that one of the profile has
pub inside_open : (s : OffsetSet) (c : ℕ) → s.end ≤ integer_count → (n : ℕ) → n < 2 ^ (8 * c - 1) → HasOffset s (n + 2 ^ 63) → pos n ≤ℤ highest_integer
inside_open s c most n h held =
    let below : n + 2 ^ 63 < integer_count = omega (arith, held.0, most) in
    omega (arith, ints, below)

module _ (s : OffsetSet) (c : ℕ) (some : 1 ≤ c) (few : c ≤ 9)
    (inside : (n : ℕ) → n < 2 ^ (8 * c - 1) → HasOffset s (n + 2 ^ 63) → pos n ≤ℤ highest_integer) where
  -- the set of integers
  abbrev pub Those : ℤ → Type 0
  Those z = HasInteger s z

  -- an offset on either side of that of 0, of a magnitude from i on
  abbrev pub Sides : ℕ → ℕ → Type 0
  Sides i n = ((i ≤ n) × (n < 2 ^ (8 * c - 1)) × HasOffset s (n + 2 ^ 63))
      ⊎ ((2 ^ (8 * c - 1) ≤ n) × (n + i < 2 * 2 ^ (8 * c - 1)) × (2 * 2 ^ (8 * c - 1) ≤ n + 2 ^ 63) × HasOffset s (n + 2 ^ 63 - 2 * 2 ^ (8 * c - 1)))

  stands_above : (n : ℕ) → n < 2 ^ (8 * c - 1) → HasOffset s (n + 2 ^ 63) → StandsFor s c n
  stands_above n high held =
      let is = number_pos c n high in
      record { member = rw is (omega (arith, ints), inside n high held, held); fits = omega (arith, half c some, high) }

  stands_below : (n : ℕ) → 2 ^ (8 * c - 1) ≤ n → n < 2 * 2 ^ (8 * c - 1) → 2 * 2 ^ (8 * c - 1) ≤ n + 2 ^ 63 → HasOffset s (n + 2 ^ 63 - 2 * 2 ^ (8 * c - 1)) → StandsFor s c n
  stands_below n low high near held =
      let is = number_neg c n low in
      let two = half c some in
      let at : 9223372036854775807 - (256 ^ c - 1 - n) ≡ n + 2 ^ 63 - 2 * 2 ^ (8 * c - 1) = omega (arith, two, low, high, near) in
      let most : 256 ^ c - 1 - n ≤ 9223372036854775807 = omega (arith, two, low, near) in
      record { member = rw is (omega (arith, ints, most), omega (arith, ints), subst (HasOffset s) (sym at) held); fits = omega (arith, two, high) }

  -- an integer of the set
  pub stands : (n : ℕ) → Sides 0 n → StandsFor s c n
  stands n (inl h) = stands_above n h.1 h.2
  stands n (inr h) = stands_below n h.0 (omega (arith, h.1)) h.2 h.3

  -- and back
  pub sides : (n : ℕ) → StandsFor s c n → Sides 0 n
  sides n l = ⊎_elim first second (cases_lt n (2 ^ (8 * c - 1)))
    where
      first : n < 2 ^ (8 * c - 1) → Sides 0 n
      first h =
          let is = number_pos c n h in
          let member = rw is at l.member in
          inl (omega arith, h, member.2)

      second : 2 ^ (8 * c - 1) ≤ n → Sides 0 n
      second h =
          let is = number_neg c n h in
          let member = rw is at l.member in
          let two = half c some in
          let low : lowest_integer ≤ℤ negsuc (256 ^ c - 1 - n) = member.0 in
          let most : 256 ^ c - 1 - n ≤ 9223372036854775807 = omega (arith, ints, low) in
          let near : 2 * 2 ^ (8 * c - 1) ≤ n + 2 ^ 63 = omega (arith, two, h, most, l.fits) in
          let at : 9223372036854775807 - (256 ^ c - 1 - n) ≡ n + 2 ^ 63 - 2 * 2 ^ (8 * c - 1) = omega (arith, two, h, near, l.fits) in
          inr (h, omega (arith, two, l.fits), near, subst (HasOffset s) at member.2)

  pub from_zero : (n : ℕ) → least_magnitude_of c ≤ n → n < 2 ^ (8 * c - 1) → HasOffset s (n + 2 ^ 63) → LeastSigned Those c n
  from_zero n low high held =
      let is = number_pos c n high in
      let t = stands_above n high held in
      record { member = t.member; count = rw is (count_is (pos n) c some low high); fits = t.fits }

  pub below_zero : (n : ℕ) → 2 ^ (8 * c - 1) ≤ n → n + least_magnitude_of c < 2 * 2 ^ (8 * c - 1) → 2 * 2 ^ (8 * c - 1) ≤ n + 2 ^ 63 → HasOffset s (n + 2 ^ 63 - 2 * 2 ^ (8 * c - 1)) → LeastSigned Those c n
  below_zero n low high near held =
      let is = number_neg c n low in
      let two = half c some in
      let t = stands_below n low (omega (arith, high)) near held in
      record { member = t.member; count = rw is (count_is (negsuc (256 ^ c - 1 - n)) c some (omega (arith, two, high)) (omega (arith, two, low, high))); fits = t.fits }

  -- and back
  pub at_offset : (n : ℕ) → LeastSigned Those c n → Sides (least_magnitude_of c) n
  at_offset n l = ⊎_elim
      (λ h. (let is = number_pos c n h.1 in let count = rw is at l.count in inl (count_least (pos n) c count, h.1, h.2)))
      (λ h. (let is = number_neg c n h.0 in let count = rw is at l.count in inr (h.0, omega (arith, half c some, count_least (negsuc (256 ^ c - 1 - n)) c count, l.fits), h.2, h.3)))
      (sides n (record { member = l.member; fits = l.fits }))

  -- an offset among those that a count of octets have
  pub some_above : (w : ℕ) → 2 ^ 63 + least_magnitude_of c ≤ w → w < 2 ^ 63 + 2 ^ (8 * c - 1) → HasOffset s w → SomeOf (LeastSigned Those) c
  some_above w low high held =
      let at : w ≡ w - 2 ^ 63 + 2 ^ 63 = omega (arith, low) in
      let l = from_zero (w - 2 ^ 63) (omega (arith, low)) (omega (arith, low, high)) (subst (HasOffset s) at held) in
      record { few = omega arith; number = w - 2 ^ 63; member = l; fits = l.fits }

  pub some_below : (w : ℕ) → 2 ^ 63 - 2 ^ (8 * c - 1) ≤ w → w < 2 ^ 63 - least_magnitude_of c → HasOffset s w → SomeOf (LeastSigned Those) c
  some_below w low high held =
      let n = w + 2 * 2 ^ (8 * c - 1) - 2 ^ 63 in
      let up : 2 ^ 63 ≤ w + 2 ^ (8 * c - 1) = omega (arith, low) in
      let at : w ≡ n + 2 ^ 63 - 2 * 2 ^ (8 * c - 1) = omega (arith, up) in
      let l = below_zero n (omega (arith, up)) (omega (arith, high, up)) (omega (arith, up)) (subst (HasOffset s) at held) in
      record { few = omega arith; number = n; member = l; fits = l.fits }

  -- an integer with a count of octets has such an offset
  pub some_offset : SomeOf (LeastSigned Those) c → (w : ℕ) × (((2 ^ 63 + least_magnitude_of c ≤ w) × (w < 2 ^ 63 + 2 ^ (8 * c - 1))) ⊎ ((2 ^ 63 - 2 ^ (8 * c - 1) ≤ w) × (w < 2 ^ 63 - least_magnitude_of c))) × HasOffset s w
  some_offset o = ⊎_elim
      (λ h. (o.number + 2 ^ 63, inl (omega (arith, h.0), omega (arith, h.1)), h.2))
      (λ h. (o.number + 2 ^ 63 - 2 * 2 ^ (8 * c - 1), inr (omega (arith, h.0, h.2), omega (arith, h.0, h.1, h.2)), h.3))
      (at_offset o.number o.member)

-- ---- the counts

-- the offsets of integers of 64 signed bits
many : 2 ^ 64 ≤ integer_count
many = lit≤ tt

-- where an integer has a count, one has the next
pub count_up : (s : OffsetSet) (c : ℕ) → IsOpen s → 1 ≤ c → c < 8 → SomeOf (LeastSigned (λ z. HasInteger s z)) c → SomeOf (LeastSigned (λ z. HasInteger s z)) (c + 1)
count_up s c gap some few o = go (some_offset s c some (omega arith) (inside_short s c some (omega arith)) o)
  where
    inner : least_magnitude_of (c + 1) ≡ 2 ^ (8 * c - 1)
    inner = least_next c some

    more : 2 ^ (8 * (c + 1) - 1) ≡ 256 * 2 ^ (8 * c - 1)
    more = octet_more c some

    room : 2 ^ (8 * (c + 1) - 1) ≤ 2 ^ 63
    room = weight_within (c + 1) (omega arith) (omega arith)

    one : 1 ≤ 2 ^ (8 * c - 1)
    one = power_up 0 (8 * c - 1) (omega arith)

    low : (w : ℕ) → 2 ^ 63 - 2 ^ (8 * (c + 1) - 1) ≤ w → w < 2 ^ 63 - 2 ^ (8 * c - 1) → HasOffset s w → SomeOf (LeastSigned (λ z. HasInteger s z)) (c + 1)
    low w a b h = some_below s (c + 1) (omega arith) (omega arith) (inside_short s (c + 1) (omega arith) (omega arith)) w a (omega (arith, inner, b)) h

    high : (w : ℕ) → 2 ^ 63 + 2 ^ (8 * c - 1) ≤ w → w < 2 ^ 63 + 2 ^ (8 * (c + 1) - 1) → HasOffset s w → SomeOf (LeastSigned (λ z. HasInteger s z)) (c + 1)
    high w a b h = some_above s (c + 1) (omega arith) (omega arith) (inside_short s (c + 1) (omega arith) (omega arith)) w (omega (arith, inner, a)) b h

    within : (w : ℕ) → ((2 ^ 63 + least_magnitude_of c ≤ w) × (w < 2 ^ 63 + 2 ^ (8 * c - 1))) ⊎ ((2 ^ 63 - 2 ^ (8 * c - 1) ≤ w) × (w < 2 ^ 63 - least_magnitude_of c)) → (2 ^ 63 - 2 ^ (8 * c - 1) ≤ w) × (w < 2 ^ 63 + 2 ^ (8 * c - 1))
    within w (inl p) = (omega (arith, p.0), omega (arith, p.1))
    within w (inr p) = (omega (arith, p.0), omega (arith, p.1, one))

    -- from the lowest integer to the highest
    ended : (w : ℕ) → (s.start ≡ 0) × (2 ^ 64 ≤ s.end) → 2 ^ 63 - 2 ^ (8 * c - 1) ≤ w → w < 2 ^ 63 + 2 ^ (8 * c - 1) → ((s.start ≤ w) × (w < s.below)) ⊎ (s.from ≤ w) → SomeOf (LeastSigned (λ z. HasInteger s z)) (c + 1)
    ended w e a b (inl p) = low (2 ^ 63 - 2 ^ (8 * c - 1) - 1) (omega (arith, more, one)) (omega (arith, one, room, more)) (omega (arith, e.1, one), inl (omega (arith, e.0), omega (arith, p.1, a, one, room, more)))
    ended w e a b (inr p) = high (2 ^ 63 + 2 ^ (8 * c - 1)) (omega arith) (omega (arith, more, one)) (omega (arith, e.1, room, more, one), inr (omega (arith, p, b)))

    -- from the lowest integer on, a hole of one number at most
    pierced : (w : ℕ) → s.from ≤ s.below + 1 → s.start ≡ 0 → 2 ^ 63 - 2 ^ (8 * c - 1) ≤ w → w < s.end → SomeOf (LeastSigned (λ z. HasInteger s z)) (c + 1)
    pierced w f e a b = ⊎_elim
        (λ l. low (2 ^ 63 - 2 ^ (8 * c - 1) - 1) (omega (arith, more, one)) (omega (arith, one, room, more)) (omega (arith, a, b, one, room, more), inl (omega (arith, e), l)))
        (λ g. ⊎_elim
        (λ l. low (2 ^ 63 - 2 ^ (8 * c - 1) - 2) (omega (arith, more, one)) (omega (arith, one, room, more)) (omega (arith, a, b, one, room, more), inl (omega (arith, e), omega (arith, f, l, g, one, room, more))))
        (λ k. low (2 ^ 63 - 2 ^ (8 * c - 1) - 1) (omega (arith, more, one)) (omega (arith, one, room, more)) (omega (arith, a, b, one, room, more), inr k))
        (cases_lt (2 ^ 63 - 2 ^ (8 * c - 1) - 1) s.from))
        (cases_lt (2 ^ 63 - 2 ^ (8 * c - 1) - 1) s.below)

    -- up to the highest, a hole of one number at most
    raised : (w : ℕ) → s.from ≤ s.below + 1 → 2 ^ 64 ≤ s.end → w < 2 ^ 63 + 2 ^ (8 * c - 1) → ((s.start ≤ w) × (w < s.below)) ⊎ (s.from ≤ w) → SomeOf (LeastSigned (λ z. HasInteger s z)) (c + 1)
    raised w f e b (inl p) = ⊎_elim
        (λ l. high (2 ^ 63 + 2 ^ (8 * c - 1)) (omega arith) (omega (arith, more, one)) (omega (arith, e, room, more, one), inl (omega (arith, p.0, b), l)))
        (λ g. high (2 ^ 63 + 2 ^ (8 * c - 1) + 1) (omega arith) (omega (arith, more, one)) (omega (arith, e, room, more, one), inr (omega (arith, f, g))))
        (cases_lt (2 ^ 63 + 2 ^ (8 * c - 1)) s.below)
    raised w f e b (inr p) = high (2 ^ 63 + 2 ^ (8 * c - 1)) (omega arith) (omega (arith, more, one)) (omega (arith, e, room, more, one), inr (omega (arith, p, b)))

    far : s.end ≡ integer_count → 2 ^ 64 ≤ s.end
    far e = rw e many

    go : (w : ℕ) × (((2 ^ 63 + least_magnitude_of c ≤ w) × (w < 2 ^ 63 + 2 ^ (8 * c - 1))) ⊎ ((2 ^ 63 - 2 ^ (8 * c - 1) ≤ w) × (w < 2 ^ 63 - least_magnitude_of c))) × HasOffset s w → SomeOf (LeastSigned (λ z. HasInteger s z)) (c + 1)
    go p =
        let q = within p.0 p.1 in
        ⊎_elim (λ e. ended p.0 (e.0, far e.1) q.0 q.1 p.2.1)
        (λ f. ⊎_elim (λ e. pierced p.0 f.0 e q.0 p.2.0) (λ e. raised p.0 f.0 e q.1 p.2.1) f.1)
        gap.1

-- an integer at an offset has a count
pub count_of_offset : (s : OffsetSet) (w : ℕ) → s.end ≤ integer_count → HasOffset s w → (c : ℕ) × SomeOf (LeastSigned (λ z. HasInteger s z)) c
count_of_offset s w most held =
    let z = lowest_integer +ℤ pos w in
    let c = signed_octet_count z in
    let below : w < integer_count = omega (arith, held.0, most) in
    let low : lowest_integer ≤ℤ z = omega (arith, ints) in
    let high : z ≤ℤ highest_integer = omega (arith, ints, below) in
    let some = signed_count_some z in
    let few : c ≤ 9 = signed_count_below z 9 (omega arith) (omega (arith, magnitude_word z low high)) in
    let again : signed_number (c, residue c z) ≡ z = number_again c z some (signed_fits z) in
    let fit = residue_fits c z some (signed_fits z) in
    let member : HasInteger s z = (low, high, subst (HasOffset s) (sym (above-add lowest_integer w)) held) in
    let l : LeastSigned (λ z. HasInteger s z) c (residue c z) = record { member = subst (λ (y : ℤ). HasInteger s y) (sym again) member; count = ap signed_octet_count again; fits = fit } in
    (c, record { few = omega (arith, few); number = residue c z; member = l; fits = fit })

-- a count is that of an integer of the profile
pub count_within : (s : OffsetSet) (c : ℕ) → SomeOf (LeastSigned (λ z. HasInteger s z)) c → (1 ≤ c) × (c ≤ 9)
count_within s c o =
    let z = signed_number (c, o.number) in
    let h : HasInteger s z = o.member.member in
    (omega (arith, signed_count_some z, o.member.count), omega (arith, signed_count_below z 9 (omega arith) (omega (arith, magnitude_word z h.0 h.1)), o.member.count))

-- an integer below 0 that the profile has, at its offset
pub offset_low : (c n : ℕ) → 1 ≤ c → 2 ^ (8 * c - 1) ≤ n → n < 256 ^ c → lowest_integer ≤ℤ signed_number (c, n)
    → (2 * 2 ^ (8 * c - 1) ≤ 9223372036854775808 + n) × (lowest_integer +ℤ pos (9223372036854775808 + n - 2 * 2 ^ (8 * c - 1)) ≡ signed_number (c, n))
offset_low c n some low fits within =
    let two = half c some in
    let is = number_neg c n low in
    let lowest : lowest_integer ≤ℤ negsuc (256 ^ c - 1 - n) = rw is at within in
    let most : 256 ^ c - 1 - n ≤ 9223372036854775807 = omega (arith, ints, lowest) in
    let near : 2 * 2 ^ (8 * c - 1) ≤ 9223372036854775808 + n = omega (arith, two, low, most, fits) in
    let z : lowest_integer +ℤ pos (9223372036854775808 + n - 2 * 2 ^ (8 * c - 1)) ≡ negsuc (256 ^ c - 1 - n) = omega (arith, ints, two, near, low, fits) in
    (near, z ∙ sym is)

-- and from 0 on
pub offset_high : (c n : ℕ) → n < 2 ^ (8 * c - 1) → lowest_integer +ℤ pos (9223372036854775808 + n) ≡ signed_number (c, n)
offset_high c n h =
    let z : lowest_integer +ℤ pos (9223372036854775808 + n) ≡ pos n = omega (arith, ints) in
    z ∙ sym (number_pos c n h)

-- the integer below 0 at its offset
pub offset_neg : (c n : ℕ) → 1 ≤ c → c ≤ 8 → 2 ^ (8 * c - 1) ≤ n → n < 256 ^ c → lowest_integer +ℤ pos (9223372036854775808 + n - 2 * 2 ^ (8 * c - 1)) ≡ signed_number (c, n)
offset_neg c n some few low fits =
    let two = half c some in
    let within = weight_within c some few in
    let z : lowest_integer +ℤ pos (9223372036854775808 + n - 2 * 2 ^ (8 * c - 1)) ≡ negsuc (256 ^ c - 1 - n) = omega (arith, ints, two, within, low, fits) in
    z ∙ sym (number_neg c n low)

-- where an integer has a count, one has each that follows, up to 8
pub counts_up : (s : OffsetSet) (c more : ℕ) → IsOpen s → 1 ≤ c → c + more ≤ 8 → SomeOf (LeastSigned (λ z. HasInteger s z)) c → SomeOf (LeastSigned (λ z. HasInteger s z)) (c + more)
counts_up s c zero gap some few o =
    let e : c + 0 ≡ c = omega arith in
    subst (SomeOf (LeastSigned (λ z. HasInteger s z))) (sym e) o
counts_up s c (suc more) gap some few o =
    let e : c + suc more ≡ c + more + 1 = omega arith in
    subst (SomeOf (LeastSigned (λ z. HasInteger s z))) (sym e) (count_up s (c + more) gap (omega arith) (omega (arith, few)) (counts_up s c more gap some (omega (arith, few)) o))

-- the least count, and all that follow
pub counts_there : (s : OffsetSet) (low : ℕ) → IsOpen s → 1 ≤ low → SomeOf (LeastSigned (λ z. HasInteger s z)) low → (c : ℕ) → low ≤ c → c ≤ 8 → SomeOf (LeastSigned (λ z. HasInteger s z)) c
counts_there s low gap some o c least few =
    let e : low + (c - low) ≡ c = omega (arith, least) in
    subst (SomeOf (LeastSigned (λ z. HasInteger s z))) e (counts_up s low (c - low) gap some (omega (arith, least, few)) o)

-- none has a lower one
pub counts_back : (s : OffsetSet) (low : ℕ) → ((c : ℕ) → c < low → SomeOf (LeastSigned (λ z. HasInteger s z)) c → ⊥) → (c : ℕ) → SomeOf (LeastSigned (λ z. HasInteger s z)) c → low ≤ c
counts_back s low none c o = ⊎_elim (λ l. absurd (none c l o)) (λ g. g) (cases_lt c low)

-- nor a higher one, where none has 9
pub counts_most : (s : OffsetSet) → (SomeOf (LeastSigned (λ z. HasInteger s z)) 9 → ⊥) → (c : ℕ) → SomeOf (LeastSigned (λ z. HasInteger s z)) c → c ≤ 8
counts_most s none c o =
    let w = count_within s c o in
    ⊎_elim (λ l. omega (arith, l)) (λ g. absurd (none (let e : c ≡ 9 = omega (arith, g, w.1) in subst (SomeOf (LeastSigned (λ z. HasInteger s z))) e o))) (cases_lt c 9)

-- from the least to the highest
pub counts_between : (s : OffsetSet) (low high : ℕ) → ((c : ℕ) → low ≤ c → c ≤ 8 → SomeOf (LeastSigned (λ z. HasInteger s z)) c) → (high ≡ 9 → SomeOf (LeastSigned (λ z. HasInteger s z)) 9) → high ≤ 9
    → (c : ℕ) → low ≤ c → c ≤ high → SomeOf (LeastSigned (λ z. HasInteger s z)) c
counts_between s low high there nine most c l h = ⊎_elim
    (λ b. there c l (omega (arith, b)))
    (λ g. (let e : 9 ≡ c = omega (arith, g, h, most) in subst (SomeOf (LeastSigned (λ z. HasInteger s z))) e (nine (omega (arith, g, h, most)))))
    (cases_lt c 9)

-- the numbers of both signs, of a magnitude from i on
module _ (s : OffsetSet) (c : ℕ) (some : 1 ≤ c) (few : c ≤ 9)
    (inside : (n : ℕ) → n < 2 ^ (8 * c - 1) → HasOffset s (n + 2 ^ 63) → pos n ≤ℤ highest_integer)
    (mid new : List (ℕ × ℕ)) (i h : ℕ) (small : i ≤ 2 ^ 63) (eh : h ≡ 2 ^ (8 * c - 1))
    (p : AreShifted [] mid s (2 ^ 63 + i) (2 ^ 63 + h) 0) (q : AreShifted mid new s (2 ^ 63 - h) (2 ^ 63 - i) (2 * h)) where
  same : (n : ℕ) → n + 2 ^ 63 - 0 ≡ n + 2 ^ 63
  same n = omega arith

  shifted_there : (n : ℕ) → Sides s c some few inside i n → Among new n
  shifted_there n (inl k) = q.kept n (p.added n (omega (arith, k.0)) (omega (arith, k.1, eh)) (subst (HasOffset s) (sym (same n)) k.2))
  shifted_there n (inr k) = q.added n (omega (arith, k.0, k.2, eh)) (omega (arith, k.1, eh, small)) (subst (λ (x : ℕ). HasOffset s (n + 2 ^ 63 - 2 * x)) (sym eh) k.3)

  shifted_back : (n : ℕ) → Among new n → Sides s c some few inside i n
  shifted_back n a = ⊎_elim
      (λ m. ⊎_elim (λ e. absurd e) (λ k. inl (omega (arith, k.0), omega (arith, k.1, eh), subst (HasOffset s) (same n) k.2)) (p.there n m))
      (λ k. inr (omega (arith, k.0, eh), omega (arith, k.1, eh, small), omega (arith, k.0, eh), subst (λ (x : ℕ). HasOffset s (n + 2 ^ 63 - 2 * x)) eh k.2))
      (q.there n a)

  -- those that need this many octets
  pub are_signed : i ≡ least_magnitude_of c → AreSigned s c new
  are_signed e = record {
    there = λ n l. shifted_there n (subst (λ (x : ℕ). Sides s c some few inside x n) (sym e) (at_offset s c some few inside n l));
    back = λ n a. ⊎_elim
        (λ k. from_zero s c some few inside n (omega (arith, k.0, e)) k.1 k.2)
        (λ k. below_zero s c some few inside n k.0 (omega (arith, k.1, e)) k.2 k.3)
        (shifted_back n a);
  }

  -- all of them
  pub are_standing : i ≡ 0 → AreStanding s c new
  are_standing e = record {
    there = λ n l. shifted_there n (subst (λ (x : ℕ). Sides s c some few inside x n) (sym e) (sides s c some few inside n l));
    back = λ n a. stands s c some few inside n (subst (λ (x : ℕ). Sides s c some few inside x n) e (shifted_back n a));
  }
