-- Spellings in OER are octets and not too many, and their sealed fields hold what such fields may: what holds
-- of the parts of spellings.
use Rattle.std.proofs.Common.{◌≡◌, ◌≤◌, ◌<◌, ◌+◌, ◌*◌, ◌^◌, ℕ, suc, Bool, true, false, List, [], ◌∷◌, ◌++◌, length, map, refl, sym, subst, arith, nat_lt, length-append}
use Rattle.std.proofs.lemmas.Bool.{ltb-true}
use Rattle.std.proofs.Math.Nat.{suc-mul, pow-succ', pow-le-pow_right, mul-le-mul_left}
use Rattle.std.specs.List.{AllByRecursion}
use Rattle.asn_bits.specs.Numbers.{octets, octet_count}
use Rattle.asn_bits.specs.Lengths.{octet_length, joined}
use Rattle.asn_bits.proofs.Octets.{all_octets, length-digits, lt-pow_256, octet_count_below}
use Rattle.asn_bits.proofs.Utf8.{append_octets}
use Rattle.asn_rules.specs.Chunks.{Chunk, ones, flat}
use Rattle.asn_rules.specs.Laws.{AreOctets}
use Rattle.asn_rules.specs.Reading.{AllSealed}
use Rattle.asn_rules.proofs.Live.Fronts.{sealed-ones, sealed-append}
use Rattle.asn_rules.proofs.Live.Flat.{flat-append, flat-ones}
use Rattle.asn_rules.specs.Fields.{spelled}
use Rattle.asn_oer.specs.Oer.{an_open_field, oer_fields}

-- ---- how many octets a length can count

-- one more than the longest content whose length has a first octet below 256
field_limit : ℕ
field_limit = 256 ^ 127

-- the most octets of a value of a type of k levels
pub room : ℕ → ℕ
room k = 65536 * 32768 ^ k

-- 64 levels have less than that
room_64 : room 64 < field_limit
unfolding field_limit room
room_64 = ltb-true (65536 * 32768 ^ 64) (256 ^ 127) refl

-- which is 256 to the power 127
below_limit : (n : ℕ) → n < field_limit → n < 256 ^ 127
unfolding field_limit
below_limit n h = h

-- more levels have more room
pub room_grows : (j k : ℕ) → j ≤ k → room j ≤ room k
unfolding room
room_grows j k h = mul-le-mul_left 65536 (pow-le-pow_right (ltb-true 0 32768 refl) h)

room_zero : room 0 ≡ 65536
unfolding room
room_zero = refl

-- the room of a simple type
pub room_first : room 1 ≡ 2147483648
unfolding room
room_first = refl

-- the room of one more level
pub room_next : (k : ℕ) → room (suc k) ≡ 32768 * room k
unfolding room
room_next k = omega (arith, pow-succ' 32768 k)

-- there is some room at each level
pub room_some : (k : ℕ) → 1 ≤ room k
room_some k = let some = room_grows 0 k (omega arith) in omega (arith, room_zero, some)

-- of types of at most 64 levels a length counts all
within_limit : (n k : ℕ) → n ≤ room k → k ≤ 64 → n < field_limit
within_limit n k h l =
    let a : room k ≤ room 64 = room_grows k 64 l in
    let b = room_64 in
    between n (room k) (room 64) field_limit h a b
  where
    between : (a b c d : ℕ) → a ≤ b → b ≤ c → c < d → a < d
    between a b c d p q r = omega arith

-- ---- octets

-- octets, at most n
pub record Short (n : ℕ) (us : List ℕ) : Type 0 where
  pub octets : AreOctets us
  pub most : length us ≤ n

-- both lists, one after the other
pub short_append : (m n : ℕ) (xs ys : List ℕ) → Short m xs → Short n ys → Short (m + n) (xs ++ ys)
short_append m n xs ys p q =
    let a = p.most in
    let b = q.most in
    record { octets = append_octets xs ys p.octets q.octets; most = omega (arith, length-append xs ys) }

-- the same with more room
pub short_more : (m n : ℕ) (us : List ℕ) → m ≤ n → Short m us → Short n us
short_more m n us h p = let a = p.most in record { octets = p.octets; most = omega arith }

-- a number in k octets
pub octets_short : (k n : ℕ) → Short k (octets k n)
octets_short k n = record { octets = all_octets k n; most = omega (arith, length-digits 256 k n) }

-- a number has no more octets than that many and one
pub few_octets : (n : ℕ) → octet_count n ≤ suc n
few_octets n = octet_count_below n (suc n) (omega arith) (lt-pow_256-suc n)
  where
    lt-pow_256-suc : (n : ℕ) → n < 256 ^ suc n
    lt-pow_256-suc n = let a = lt-pow_256 (suc n) in omega arith

-- the octets of a length
length_short : (n : ℕ) → n < field_limit → Short (n + 2) (octet_length n)
length_short n h = go (nat_lt n 128) refl
  where
    go : (b : Bool) → nat_lt n 128 ≡ b → Short (n + 2) (octet_length n)
    go true e = let l : n < 128 = ltb-true n 128 e in rw (e, octet_length) (record { octets = (omega arith, tt); most = omega arith })
    go false e =
        let c : octet_count n ≤ 127 = octet_count_below n 127 (omega arith) (below_limit n h) in
        let few = few_octets n in
        rw (e, octet_length) (record { octets = (omega arith, all_octets (octet_count n) n); most = omega (arith, length-digits 256 (octet_count n) n) })

-- a content with its length
spelled_in_limit : (n : ℕ) (c : List ℕ) → n < field_limit → Short n c → Short (2 * n + 2) (spelled c)
spelled_in_limit n c h p =
    let m = p.most in
    short_more ((length c + 2) + n) (2 * n + 2) (spelled c) (omega arith) (short_append (length c + 2) n (octet_length (length c)) c (length_short (length c) (omega arith)) p)

-- of types of at most 64 levels, a content with its length
pub short_spelled : (n k : ℕ) (c : List ℕ) → n ≤ room k → k ≤ 64 → Short n c → Short (2 * n + 2) (spelled c)
short_spelled n k c h l p = spelled_in_limit n c (within_limit n k h l) p

-- ---- chunks

-- octets, at most n, and the sealed fields are such as their kinds have
pub record Spelt (n : ℕ) (cs : List Chunk) : Type 0 where
  pub units : Short n (flat spelled cs)
  pub held : AllSealed oer_fields cs

-- no chunks
pub spelt_none : (n : ℕ) → Spelt n []
spelt_none n = record { units = record { octets = tt; most = omega arith }; held = tt }

-- the same with more room
pub spelt_more : (m n : ℕ) (cs : List Chunk) → m ≤ n → Spelt m cs → Spelt n cs
spelt_more m n cs h p = record { units = short_more m n (flat spelled cs) h p.units; held = p.held }

-- plain octets
pub spelt_ones : (n : ℕ) (us : List ℕ) → Short n us → Spelt n (ones us)
spelt_ones n us h = record { units = subst (Short n) (sym (flat-ones spelled us)) h; held = sealed-ones oer_fields us }

-- both spellings, one after the other
pub spelt_append : (m n : ℕ) (xs ys : List Chunk) → Spelt m xs → Spelt n ys → Spelt (m + n) (xs ++ ys)
spelt_append m n xs ys p q = record {
  units = subst (Short (m + n)) (sym (flat-append spelled xs ys)) (short_append m n (flat spelled xs) (flat spelled ys) p.units q.units);
  held = sealed-append oer_fields xs ys p.held q.held;
}

-- an open field
pub spelt_open : (n k : ℕ) (cs : List Chunk) → n ≤ room k → k ≤ 64 → Spelt n cs → Spelt (2 * n + 2) (an_open_field cs)
spelt_open n k cs h l p =
    let os = p.units.octets in
    record {
      units = short_more ((2 * n + 2) + 0) (2 * n + 2) (flat spelled (an_open_field cs)) (omega arith)
          (short_append (2 * n + 2) 0 (spelled (flat spelled cs)) [] (short_spelled n k (flat spelled cs) h l p.units) (record { octets = tt; most = omega arith }));
      held = ((λ short. (omega arith, short, os)), tt);
    }

-- items of at most n octets each
pub spelt_joined : {A : Type 0} (n : ℕ) (P : A → Type 0) (code : A → List Chunk) → ((x : A) → P x → Spelt n (code x)) → (xs : List A) → AllByRecursion P xs → Spelt (length xs * n) (joined (map code xs))
spelt_joined n P code h [] p = spelt_none (0 * n)
spelt_joined n P code h (x ∷ xs) p =
    spelt_more (n + length xs * n) (suc (length xs) * n) (joined (map code (x ∷ xs))) (omega (arith, suc-mul (length xs) n))
    (spelt_append n (length xs * n) (code x) (joined (map code xs)) (h x p.0) (spelt_joined n P code h xs p.1))
