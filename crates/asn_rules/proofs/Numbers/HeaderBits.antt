-- A general length is the first length of some count of the set: what a reader of its bits cites at each exit.
use Rattle.std.proofs.Common.{◌≡◌, ◌+◌, ◌-◌, ◌*◌, ◌<◌, ◌≤◌, ◌⊎◌, inl, inr, ⊎_elim, ℕ, List, [], ◌∷◌, ◌++◌, length, refl, sym, ap, ◌∙◌, subst, arith}
use Rattle.std.proofs.lemmas.Bool.{cases_lt}
use Rattle.asn_bits.specs.Numbers.{bits}
use Rattle.asn_bits.specs.Lengths.{blocks}
use Rattle.asn_bits.specs.LengthBits.{first_length, StartsSome, OpensLength, WholeLength}
use Rattle.asn_bits.specs.Sets.{InSet}
use Rattle.asn_bits.proofs.FirstLengths.{first_few, first_many, first_fragment, few_items}
use Rattle.asn_bits.proofs.Weights.{bits_are, bits_only}
use Rattle.asn_rules.specs.Chunks.{Chunk, one, ones}
use Rattle.asn_rules.specs.Forks.{Branch, Fork}
use Rattle.asn_rules.specs.General.{Length, last, fragment, Few, Many, Blocks, Left, Header}
use Rattle.asn_rules.specs.Languages.{Spells, Short, Refused, IsFront, IsLive, Plain}
use Rattle.asn_rules.specs.Live.{Fielding}
use Rattle.asn_rules.proofs.Live.Chunks.{FieldsPart}
use Rattle.asn_rules.proofs.Live.Flat.{flat-ones}
use Rattle.asn_rules.proofs.Numbers.Headers.{header_lawful, header_few_is, header_many_is, header_blocks_is}
use Rattle.asn_rules.proofs.Languages.Parts.{contents-ones, front_ones, short_within, refused_here}

-- what the first length of a count says
abbrev pub Says : ℕ → Length → Type 0
Says n (last k) = (n < 16384) × (k ≡ n)
Says n (fragment m) = (16384 ≤ n) × (m ≡ blocks n)

-- ---- the first length of a count is a length

-- a count of the set has one
pub header_of : (S : ℕ → Type 0) (n : ℕ) → S n → (l : Length) × Header S l (ones (first_length n).bits) × Says n l
header_of S n s =
    ⊎_elim
    (λ a. (last n, subst (λ (bs : List ℕ). Header S (last n) (ones bs)) (sym (ap (λ l. l.bits) (first_few n a))) (header_few_is S n (bits 7 n) (record { member = s; below = a }) (bits_are 7 n (omega arith))), (omega arith, refl)))
    (λ a. ⊎_elim
    (λ b. (last n, subst (λ (bs : List ℕ). Header S (last n) (ones bs)) (sym (ap (λ l. l.bits) (first_many n a b))) (header_many_is S n (bits 14 n) (record { member = s; least = a; below = b }) (bits_are 14 n (omega arith))), (b, refl)))
    (λ b.
    let m = blocks n in
    let e : n ≡ 16384 * m + (n - 16384 * m) = omega arith in
    let left : Left S m (n - 16384 * m) = record { member = subst (λ (x : ℕ). S x) e s; largest = λ q. omega arith } in
    let some : Blocks S m = record { some = omega arith; most = omega arith; rest = n - 16384 * m; left = left } in
    (fragment m, subst (λ (bs : List ℕ). Header S (fragment m) (ones bs)) (sym (ap (λ l. l.bits) (first_fragment n b))) (header_blocks_is S m (bits 6 m) some (bits_are 6 m (omega arith))), (b, refl)))
    (cases_lt n 16384))
    (cases_lt n 128)

-- the count after what a length says
pub record CountOf (S : ℕ → Type 0) (us : List ℕ) : Type 0 where
  count : ℕ
  member : S count
  bits_are : us ≡ (first_length count).bits

few_count : (S : ℕ → Type 0) (n : ℕ) (us : List ℕ) → InSet 7 (Few S) n us → CountOf S (0 ∷ us)
few_count S n us h = record { count = n; member = h.member.member; bits_are = ap (λ b. 0 ∷ b) (bits_only 7 n us h.digits).1 ∙ sym (ap (λ l. l.bits) (first_few n h.member.below)) }

many_count : (S : ℕ → Type 0) (n : ℕ) (us : List ℕ) → InSet 14 (Many S) n us → CountOf S (1 ∷ 0 ∷ us)
many_count S n us h = record { count = n; member = h.member.member; bits_are = ap (λ b. 1 ∷ 0 ∷ b) (bits_only 14 n us h.digits).1 ∙ sym (ap (λ l. l.bits) (first_many n h.member.least h.member.below)) }

blocks_count : (S : ℕ → Type 0) (m : ℕ) (us : List ℕ) → InSet 6 (Blocks S) m us → CountOf S (1 ∷ 1 ∷ us)
blocks_count S m us h =
    let b = h.member in
    let n = 16384 * m + b.rest in
    let w = b.some in
    let v = b.most in
    let e : blocks n ≡ m = ⊎_elim (λ a. (let l : b.rest < 16384 = b.left.largest a in omega arith)) (λ a. omega arith) (cases_lt m 4) in
    record { count = n; member = b.left.member; bits_are = ap (λ x. 1 ∷ 1 ∷ x) (bits_only 6 m us h.digits).1 ∙ ap (λ k. 1 ∷ 1 ∷ bits 6 k) (sym e) ∙ sym (ap (λ l. l.bits) (first_fragment n (omega arith))) }

-- each length is that of a count
pub header_first : (S : ℕ → Type 0) (l : Length) (cs : List Chunk) → Header S l cs → (us : List ℕ) × (cs ≡ ones us) × CountOf S us
header_first S l cs h = outer h.source cs h.spelt.side
  where
    inner : (a : ℕ ⊎ ℕ) (x : List Chunk) → Branch 0 inl (Plain (InSet 14 (Many S))) a x ⊎ Branch 1 inr (Plain (InSet 6 (Blocks S))) a x → (us : List ℕ) × (x ≡ ones us) × CountOf S (1 ∷ us)
    inner a x (inl b) = (0 ∷ b.spelt.units, b.same ∙ ap (λ cs. one 0 ∷ cs) b.spelt.same, many_count S b.value b.spelt.units b.spelt.spelt)
    inner a x (inr b) = (1 ∷ b.spelt.units, b.same ∙ ap (λ cs. one 1 ∷ cs) b.spelt.same, blocks_count S b.value b.spelt.units b.spelt.spelt)

    outer : (a : ℕ ⊎ (ℕ ⊎ ℕ)) (x : List Chunk) → Branch 0 inl (Plain (InSet 7 (Few S))) a x ⊎ Branch 1 inr (Fork (Plain (InSet 14 (Many S))) (Plain (InSet 6 (Blocks S)))) a x → (us : List ℕ) × (x ≡ ones us) × CountOf S us
    outer a x (inl b) = (0 ∷ b.spelt.units, b.same ∙ ap (λ cs. one 0 ∷ cs) b.spelt.same, few_count S b.value b.spelt.units b.spelt.spelt)
    outer a x (inr b) = (let i = inner b.value b.rest b.spelt.side in (1 ∷ i.0, b.same ∙ ap (λ cs. one 1 ∷ cs) i.1, i.2))

-- ---- what a reader of the bits cites

-- the bits go on
pub opens_short : {R : Fielding} {S : ℕ → Type 0} {us : List ℕ} → FieldsPart R → OpensLength S us → Short R (Header S) us
opens_short {R} {S} {us} ok o =
    let h = header_of S o.count o.member in
    short_within ok (header_lawful S) h.0 (ones (first_length o.count).bits) h.1 (contents-ones R (first_length o.count).bits) (record { next = o.next; more = o.more; split = sym o.split ∙ sym (flat-ones R.spelled (first_length o.count).bits) })

-- no length begins so
pub starts_refused : {R : Fielding} {S : ℕ → Type 0} {before : List ℕ} (u : ℕ) (after : List ℕ) → FieldsPart R → OpensLength S before → (StartsSome S (before ++ u ∷ []) → ⊥) → Refused R (Header S) (before ++ u ∷ after) (length after)
starts_refused {R} {S} {before} u after ok o none = refused_here ok before u after (opens_short ok o) dead
  where
    dead : IsLive R (Header S) (before ++ u ∷ []) → ⊥
    dead l =
        let h = header_first S l.value l.chunks l.spelt in
        let f = front_ones R h.0 (before ++ u ∷ []) (subst (λ cs. IsFront R cs (before ++ u ∷ [])) h.1 l.front) in
        none (record { count = h.2.count; member = h.2.member; starts = record { more = f.0; split = sym h.2.bits_are ∙ f.1 } })

-- the bits are the length of the last items, or of a fragment
pub whole_spells : (R : Fielding) (S : ℕ → Type 0) (us rest : List ℕ) (k : ℕ) → WholeLength S us k
    → ((k < 16384) × Spells R (Header S) (last k) (us ++ rest) rest) ⊎ ((m : ℕ) × Spells R (Header S) (fragment m) (us ++ rest) rest × (1 ≤ m) × (m ≤ 4) × (k ≡ 16384 * m))
whole_spells R S us rest k w = go (header_of S w.count w.member)
  where
    spells : (l : Length) → Header S l (ones (first_length w.count).bits) → Spells R (Header S) l (us ++ rest) rest
    spells l h = record { chunks = ones (first_length w.count).bits; spelt = h; contents = contents-ones R (first_length w.count).bits; split = ap (λ b. b ++ rest) (sym w.bits_are ∙ sym (flat-ones R.spelled (first_length w.count).bits)) }

    go : (l : Length) × Header S l (ones (first_length w.count).bits) × Says w.count l → ((k < 16384) × Spells R (Header S) (last k) (us ++ rest) rest) ⊎ ((m : ℕ) × Spells R (Header S) (fragment m) (us ++ rest) rest × (1 ≤ m) × (m ≤ 4) × (k ≡ 16384 * m))
    go h = tell h.0 h.1 h.2
      where
        tell : (l : Length) → Header S l (ones (first_length w.count).bits) → Says w.count l → ((k < 16384) × Spells R (Header S) (last k) (us ++ rest) rest) ⊎ ((m : ℕ) × Spells R (Header S) (fragment m) (us ++ rest) rest × (1 ≤ m) × (m ≤ 4) × (k ≡ 16384 * m))
        tell (last j) h s =
            let e : j ≡ k = s.1 ∙ sym (few_items w.count s.0) ∙ w.items_are in
            inl (omega (arith, s.0, s.1, e), subst (λ (i : ℕ). Spells R (Header S) (last i) (us ++ rest) rest) e (spells (last j) h))
        tell (fragment m) h s =
            let e : 16384 * blocks w.count ≡ k = sym (ap (λ l. l.items) (first_fragment w.count s.0)) ∙ w.items_are in
            inr (m, spells (fragment m) h, omega (arith, s.0, s.1), omega (arith, s.1), omega (arith, s.1, e))
