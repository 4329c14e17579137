-- The lengths of a list one after the other: what follows the fragments so far are the lengths of the items
-- left, and bits that end a length are the whole of it.
use Rattle.std.proofs.Common.{◌≡◌, ◌+◌, ◌-◌, ◌*◌, ◌/◌, ◌%◌, ◌<◌, ◌≤◌, ◌==◌, inl, inr, ⊎_elim, ℕ, zero, suc, true, false, not, nat_lt, List, [], ◌∷◌, ◌++◌, length, length-append, replicate, refl, sym, ap, ◌∙◌, subst, append_assoc, arith}
use Rattle.std.proofs.lemmas.Bool.{lt-ltb, le-ltb, cases_lt, ne_eqb, true≢false}
use Rattle.std.proofs.lemmas.Bool.Decides.{eqb_tells}
use Rattle.std.proofs.lemmas.List.{append-nil, append_cancel_left, replicate-append-replicate}
use Rattle.asn_bits.specs.Numbers.{bits}
use Rattle.asn_bits.specs.Lengths.{Length, last_length, fragment, blocks, lengths_within, lengths}
use Rattle.asn_bits.specs.LengthBits.{length_bits, fragments, is_closed, first_length}
use Rattle.asn_bits.proofs.Digits.{digits_code}
use Rattle.asn_bits.proofs.GeneralLengths.{last_cases, last_not_fragment}

-- ---- the lengths of a count, one by one

-- fewer than a block have one length
within_last : (f n : ℕ) → n < 16384 → lengths_within f n ≡ last_length n ∷ []
within_last zero n h = refl
within_last (suc f) n h = (let a : nat_lt n 16384 ≡ true = lt-ltb n 16384 h in rw (a, lengths_within) refl)

-- others have a fragment first
within_fragment : (f n : ℕ) → 16384 ≤ n → lengths_within (suc f) n ≡ fragment (blocks n) ∷ lengths_within f (n - 16384 * blocks n)
within_fragment f n h = (let a : nat_lt n 16384 ≡ false = le-ltb n 16384 h in rw (a, lengths_within) refl)

-- the bound on the fragments does not matter where it is enough
within_same : (f g n : ℕ) → n < 16384 * suc f → n < 16384 * suc g → lengths_within f n ≡ lengths_within g n
within_same zero g n h i = sym (within_last g n (omega arith))
within_same (suc f) zero n h i = within_last (suc f) n (omega arith)
within_same (suc f) (suc g) n h i =
    ⊎_elim
    (λ a. within_last (suc f) n a ∙ sym (within_last (suc g) n a))
    (λ a. within_fragment f n a ∙ ap (λ ls. fragment (blocks n) ∷ ls) (within_same f g (n - 16384 * blocks n) (omega arith) (omega arith)) ∙ sym (within_fragment g n a))
    (cases_lt n 16384)

pub lengths_last : (n : ℕ) → n < 16384 → lengths n ≡ last_length n ∷ []
lengths_last n h = within_last (n / 16384) n h

pub lengths_fragment : (n : ℕ) → 16384 ≤ n → lengths n ≡ fragment (blocks n) ∷ lengths (n - 16384 * blocks n)
lengths_fragment n h =
    let k = n / 16384 - 1 in
    let e : n / 16384 ≡ suc k = omega arith in
    ap (λ f. lengths_within f n) e ∙ within_fragment k n h
    ∙ ap (λ ls. fragment (blocks n) ∷ ls) (within_same k ((n - 16384 * blocks n) / 16384) (n - 16384 * blocks n) (omega arith) (omega arith))

-- the first length, and those after it
pub lengths_first : (n : ℕ) → (rest : List Length) × (lengths n ≡ first_length n ∷ rest) × (n < 16384 → rest ≡ [])
lengths_first n =
    ⊎_elim
    (λ a. (let t : nat_lt n 16384 ≡ true = lt-ltb n 16384 a in ([], rw (first_length, t) (lengths_last n a), λ _. refl)))
    (λ a. (let t : nat_lt n 16384 ≡ false = le-ltb n 16384 a in (lengths (n - 16384 * blocks n), rw (first_length, t) (lengths_fragment n a), λ b. absurd (omega arith))))
    (cases_lt n 16384)

-- ---- after the fragments so far

pub length_bits-append : (xs ys : List Length) → length_bits (xs ++ ys) ≡ length_bits xs ++ length_bits ys
length_bits-append [] ys = refl
length_bits-append (x ∷ xs) ys = ap (λ t. x.bits ++ t) (length_bits-append xs ys) ∙ sym (append_assoc x.bits (length_bits xs) (length_bits ys))

-- this many fragments of 4 blocks
after_full : (q n : ℕ) → lengths (65536 * q + n) ≡ replicate q (fragment 4) ++ lengths n
after_full zero n = (let e : 65536 * 0 + n ≡ n = omega arith in ap (λ k. lengths k) e)
after_full (suc q) n =
    let m = 65536 * suc q + n in
    let four : blocks m ≡ 4 = omega arith in
    let left : m - 16384 * 4 ≡ 65536 * q + n = omega arith in
    let whole : lengths m ≡ fragment 4 ∷ lengths (m - 16384 * 4) = lengths_fragment m (omega arith) ∙ ap (λ b. fragment b ∷ lengths (m - 16384 * b)) four in
    whole ∙ ap (λ k. fragment 4 ∷ lengths k) left ∙ ap (λ ls. fragment 4 ∷ ls) (after_full q n)

-- the last fragment, if it has fewer
part : ℕ → List Length
part b = elim (b == 0) [ true ↦ [] | false ↦ fragment b ∷ [] ]

part_none : (b : ℕ) → (b == 0) ≡ true → part b ≡ []
unfolding part
part_none b e = rw (e, part) refl

part_some : (b : ℕ) → (b == 0) ≡ false → part b ≡ fragment b ∷ []
unfolding part
part_some b e = rw (e, part) refl

closed_some : (b : ℕ) → (b == 0) ≡ false → not (b == 0) ≡ true
closed_some b e = rw (e) refl

fragments_are : (j : ℕ) → fragments j ≡ replicate (j / 4) (fragment 4) ++ part (j % 4)
unfolding part
fragments_are j = refl

after_part : (b n : ℕ) → b < 4 → (not (b == 0) ≡ true → n < 16384) → lengths (16384 * b + n) ≡ part b ++ lengths n
after_part b n h c =
    elim (eqb_tells b 0) [
      | inl e ↦ let z : 16384 * b + n ≡ n = omega (arith, e.1) in ap lengths z ∙ ap (λ t. t ++ lengths n) (sym (part_none b e.0))
      | inr e ↦
          let some : 0 < b = omega (arith, e.1) in
          let w : n < 16384 = c (closed_some b e.0) in
          let d : blocks (16384 * b + n) ≡ b = omega arith in
          let l : 16384 * b + n - 16384 * b ≡ n = omega arith in
          lengths_fragment (16384 * b + n) (omega arith) ∙ ap (λ k. fragment k ∷ lengths (16384 * b + n - 16384 * k)) d ∙ ap (λ k. fragment b ∷ lengths k) l
          ∙ ap (λ t. t ++ lengths n) (sym (part_some b e.0))
    ]

-- the lengths of the items left follow the fragments
pub lengths_after : (j n : ℕ) → (is_closed j ≡ true → n < 16384) → lengths (16384 * j + n) ≡ fragments j ++ lengths n
lengths_after j n c =
    let e : 16384 * j + n ≡ 65536 * (j / 4) + (16384 * (j % 4) + n) = omega arith in
    ap lengths e ∙ after_full (j / 4) (16384 * (j % 4) + n) ∙ ap (λ t. replicate (j / 4) (fragment 4) ++ t) (after_part (j % 4) n (omega arith) c)
    ∙ sym (append_assoc (replicate (j / 4) (fragment 4)) (part (j % 4)) (lengths n)) ∙ ap (λ t. t ++ lengths n) (sym (fragments_are j))

-- a count whose lengths begin with that of a fragment
front_fragment : (c m : ℕ) (t : List ℕ) → m < 64 → length_bits (lengths c) ≡ (fragment m).bits ++ t → (16384 ≤ c) × (blocks c ≡ m) × (length_bits (lengths (c - 16384 * m)) ≡ t)
front_fragment c m t w e =
    ⊎_elim
    (λ a. absurd (last_not_fragment c [] (bits 6 m ++ t) (sym (ap length_bits (lengths_last c a)) ∙ e)))
    (λ a.
    let f : 1 ∷ 1 ∷ (bits 6 (blocks c) ++ length_bits (lengths (c - 16384 * blocks c))) ≡ 1 ∷ 1 ∷ (bits 6 m ++ t) = sym (ap length_bits (lengths_fragment c a)) ∙ e in
    let two : 0 < 2 = omega arith in
    let g = digits_code 2 two 6 (blocks c) m (length_bits (lengths (c - 16384 * blocks c))) t (omega arith) w (cc) in
    (a, g.0, ap (λ b. length_bits (lengths (c - 16384 * b))) (sym g.0) ∙ g.1))
    (cases_lt c 16384)

-- with those of this many fragments of 4 blocks
front_full : (q c : ℕ) (t : List ℕ) → length_bits (lengths c) ≡ length_bits (replicate q (fragment 4)) ++ t → (n : ℕ) × (c ≡ 65536 * q + n) × (length_bits (lengths n) ≡ t)
front_full zero c t e = (c, omega arith, e)
front_full (suc q) c t e =
    let a = front_fragment c 4 (length_bits (replicate q (fragment 4)) ++ t) (omega arith) (e ∙ append_assoc (fragment 4).bits (length_bits (replicate q (fragment 4))) t) in
    let b = front_full q (c - 16384 * 4) t a.2 in
    (b.0, omega (arith, a.1, b.1), b.2)

front_part : (b c : ℕ) (t : List ℕ) → b < 4 → length_bits (lengths c) ≡ length_bits (part b) ++ t → (n : ℕ) × (c ≡ 16384 * b + n) × (not (b == 0) ≡ true → n < 16384) × (length_bits (lengths n) ≡ t)
front_part b c t h e =
    elim (eqb_tells b 0) [
      | inl z ↦ (c, omega (arith, z.1), λ x. absurd (true≢false (sym x ∙ ap not z.0)), e ∙ ap (λ ls. length_bits ls ++ t) (part_none b z.0))
      | inr z ↦
          let some : 0 < b = omega (arith, z.1) in
          let a = front_fragment c b t (omega arith) (e ∙ ap (λ ls. length_bits ls ++ t) (part_some b z.0) ∙ ap (λ x. x ++ t) (append-nil (fragment b).bits)) in
          (c - 16384 * b, omega (arith, a.0, a.1), λ x. omega (arith, a.0, a.1), a.2)
    ]

-- a count whose lengths begin with the fragments so far: what follows them are the lengths of the items left
pub after_fragments : (j c : ℕ) (t : List ℕ) → length_bits (lengths c) ≡ length_bits (fragments j) ++ t → (n : ℕ) × (c ≡ 16384 * j + n) × (is_closed j ≡ true → n < 16384) × (length_bits (lengths n) ≡ t)
after_fragments j c t e =
    let split : length_bits (fragments j) ≡ length_bits (replicate (j / 4) (fragment 4)) ++ length_bits (part (j % 4)) = ap length_bits (fragments_are j) ∙ length_bits-append (replicate (j / 4) (fragment 4)) (part (j % 4)) in
    let a = front_full (j / 4) c (length_bits (part (j % 4)) ++ t) (e ∙ ap (λ x. x ++ t) split ∙ append_assoc (length_bits (replicate (j / 4) (fragment 4))) (length_bits (part (j % 4))) t) in
    let b = front_part (j % 4) a.0 t (omega arith) a.2 in
    (b.0, omega (arith, a.1, b.1), b.2, b.3)

-- a fragment more
pub fragments_more : (j m : ℕ) → is_closed j ≡ false → 1 ≤ m → m ≤ 4 → length_bits (fragments (j + m)) ≡ length_bits (fragments j) ++ (fragment m).bits
fragments_more j m c l h =
    elim (eqb_tells (j % 4) 0) [
      | inl z ↦
          let old : length_bits (fragments j) ≡ length_bits (replicate (j / 4) (fragment 4)) =
          ap length_bits (fragments_are j ∙ ap (λ p. replicate (j / 4) (fragment 4) ++ p) (part_none (j % 4) z.0) ∙ append-nil (replicate (j / 4) (fragment 4))) in
          ⊎_elim
          (λ a.
          let q : (j + m) / 4 ≡ j / 4 = omega (arith, z.1) in
          let r : (j + m) % 4 ≡ m = omega (arith, z.1) in
          let new : fragments (j + m) ≡ replicate (j / 4) (fragment 4) ++ fragment m ∷ [] =
          fragments_are (j + m) ∙ ap (λ k. replicate k (fragment 4) ++ part ((j + m) % 4)) q ∙ ap (λ b. replicate (j / 4) (fragment 4) ++ part b) r ∙ ap (λ p. replicate (j / 4) (fragment 4) ++ p) (part_some m (ne_eqb m 0 (λ e. omega arith))) in
          ap length_bits new ∙ one_more (replicate (j / 4) (fragment 4)) m ∙ ap (λ t. t ++ (fragment m).bits) (sym old))
          (λ a.
          let q : (j + m) / 4 ≡ j / 4 + 1 = omega (arith, z.1) in
          let r : (j + m) % 4 ≡ 0 = omega (arith, z.1) in
          let four : m ≡ 4 = omega arith in
          let new : fragments (j + m) ≡ replicate (j / 4) (fragment 4) ++ fragment 4 ∷ [] =
          fragments_are (j + m) ∙ ap (λ k. replicate k (fragment 4) ++ part ((j + m) % 4)) q ∙ ap (λ b. replicate (j / 4 + 1) (fragment 4) ++ part b) r
          ∙ ap (λ p. replicate (j / 4 + 1) (fragment 4) ++ p) (part_none 0 refl) ∙ append-nil (replicate (j / 4 + 1) (fragment 4)) ∙ sym (replicate-append-replicate (j / 4) 1 (fragment 4)) in
          ap length_bits new ∙ one_more (replicate (j / 4) (fragment 4)) 4 ∙ ap (λ t. t ++ (fragment 4).bits) (sym old) ∙ ap (λ k. length_bits (fragments j) ++ (fragment k).bits) (sym four))
          (cases_lt m 4)
      | inr z ↦ absurd (true≢false (sym (closed_some (j % 4) z.0) ∙ c))
    ]
  where
    one_more : (ls : List Length) (k : ℕ) → length_bits (ls ++ fragment k ∷ []) ≡ length_bits ls ++ (fragment k).bits
    one_more ls k = length_bits-append ls (fragment k ∷ []) ∙ ap (λ t. length_bits ls ++ t) (append-nil (fragment k).bits)

-- after a fragment of fewer than 4 blocks no other comes
pub closed_more : (j m : ℕ) → is_closed j ≡ false → 1 ≤ m → m ≤ 4 → is_closed (j + m) ≡ nat_lt m 4
closed_more j m c l h =
    elim (eqb_tells (j % 4) 0) [
      | inl z ↦ ⊎_elim
          (λ a. (let r : (j + m) % 4 ≡ m = omega (arith, z.1) in ap (λ k. not (k == 0)) r ∙ closed_some m (ne_eqb m 0 (λ e. omega arith)) ∙ sym (lt-ltb m 4 a)))
          (λ a. (let r : (j + m) % 4 ≡ 0 = omega (arith, z.1) in ap (λ k. not (k == 0)) r ∙ sym (le-ltb m 4 a)))
          (cases_lt m 4)
      | inr z ↦ absurd (true≢false (sym (closed_some (j % 4) z.0) ∙ c))
    ]

-- ---- where lengths end

-- each length has a bit
pub has_bits : (n : ℕ) (before : List Length) (here : Length) (after : List Length) → lengths n ≡ before ++ here ∷ after → 0 < length here.bits
has_bits n before here after e = within (n / 16384) n before e
  where
    not_nothing : (b : List Length) (here : Length) (after : List Length) → [] ≡ b ++ here ∷ after → ⊥
    not_nothing [] here after e = cc
    not_nothing (x ∷ b) here after e = cc

    last : (n : ℕ) → 0 < length (last_length n).bits
    last n = elim (last_cases n) [ inl a ↦ rw a.1 (omega arith) | inr a ↦ rw a.1 (omega arith) ]

    alone : (n : ℕ) (before : List Length) (here : Length) (after : List Length) → last_length n ∷ [] ≡ before ++ here ∷ after → 0 < length here.bits
    alone n [] here after e = (let a : last_length n ≡ here = cc in subst (λ (l : Length). 0 < length l.bits) a (last n))
    alone n (x ∷ b) here after e = absurd (not_nothing b here after (cc))

    longer : (before : List Length) (m : ℕ) (ls : List Length) → ((b : List Length) → ls ≡ b ++ here ∷ after → 0 < length here.bits) → fragment m ∷ ls ≡ before ++ here ∷ after → 0 < length here.bits
    longer [] m ls again e = (let a : fragment m ≡ here = cc in subst (λ (l : Length). 0 < length l.bits) a (omega arith))
    longer (x ∷ b) m ls again e = again b (cc)

    within : (f n : ℕ) (before : List Length) → lengths_within f n ≡ before ++ here ∷ after → 0 < length here.bits
    within zero n before e = alone n before here after e
    within (suc f) n before e =
        ⊎_elim
        (λ a. alone n before here after (sym (within_last (suc f) n a) ∙ e))
        (λ a. longer before (blocks n) (lengths_within f (n - 16384 * blocks n)) (λ b w. within f (n - 16384 * blocks n) b w) (sym (within_fragment f n a) ∙ e))
        (cases_lt n 16384)

-- bits that end a length where they are at most those of one: it is that length
pub same_place : (front : List Length) (first : Length) (rest before : List Length) (here : Length) (after : List Length) (bs : List ℕ) → front ++ first ∷ rest ≡ before ++ here ∷ after → length_bits front ++ bs ≡ length_bits before ++ here.bits
    → 0 < length here.bits → 0 < length bs → length bs ≤ length first.bits → (here ≡ first) × (after ≡ rest) × (bs ≡ first.bits)
same_place [] first rest [] here after bs e f s h l = (let a : first ≡ here = cc in let b : rest ≡ after = cc in (sym a, sym b, f ∙ ap (λ x. x.bits) (sym a)))
same_place [] first rest (x ∷ before) here after bs e f s h l =
    let a : first ≡ x = cc in
    let n : length first.bits ≡ length x.bits = ap (λ y. length y.bits) a in
    absurd (omega (arith, n, ap length f, length-append (x.bits ++ length_bits before) here.bits, length-append x.bits (length_bits before)))
same_place (x ∷ front) first rest [] here after bs e f s h l =
    let a : x ≡ here = cc in
    let n : length x.bits ≡ length here.bits = ap (λ y. length y.bits) a in
    absurd (omega (arith, n, ap length f, length-append (x.bits ++ length_bits front) bs, length-append x.bits (length_bits front)))
same_place (x ∷ front) first rest (y ∷ before) here after bs e f s h l =
    let a : x ≡ y = cc in
    let g : x.bits ++ (length_bits front ++ bs) ≡ x.bits ++ (length_bits before ++ here.bits) = sym (append_assoc x.bits (length_bits front) bs) ∙ f ∙ append_assoc y.bits (length_bits before) here.bits ∙ ap (λ z. z.bits ++ (length_bits before ++ here.bits)) (sym a) in
    same_place front first rest before here after bs (cc) (append_cancel_left x.bits (length_bits front ++ bs) (length_bits before ++ here.bits) g) s h l
