-- Bits taken by a field in fragments: they stand before the next length determinant, or reach it.
use Rattle.std.proofs.Common.{◌≡◌, ⊎_elim, inl, inr, ◌+◌, ◌-◌, ◌*◌, ◌<◌, ◌≤◌, ◌++◌, ℕ, zero, suc, true, false, List, [], ◌∷◌, length, take, drop, sym, refl, ap, subst, ◌∙◌, append_assoc, length-append, length-drop, arith, take-append-drop}
use Rattle.std.specs.Prelude.{slice_index}
use Rattle.std.proofs.lemmas.Bool.{cases_lt, lt-ltb, le-ltb}
use Rattle.std.proofs.lemmas.List.{append-nil, length-take-le}
use Rattle.asn_bits.specs.Lengths.{general_octets}
use Rattle.asn_bits.specs.LengthBits.{first_length}
use Rattle.asn_bits.specs.Numbers.{unpacked}
use Rattle.asn_bits.proofs.FirstLengths.{few_items}
use Rattle.asn_bits.proofs.FragmentedOctets.{octets_last, octets_fragment, fragment_items}
use Rattle.asn_bits.proofs.Splits.{unpacked-append, length-unpacked}
use Rattle.asn_window.specs.declared.fragments.Fragments.{Fragments}
use Rattle.asn_window.specs.Fragmented.{next_left}
use Rattle.asn_window.specs.Fragmented.{Parts, Flows, Comes}

-- two lists are one: the shorter front begins the longer one
pub front_begins : (xs ys us vs : List ℕ) → xs ++ us ≡ ys ++ vs → length xs ≤ length ys → (more : List ℕ) × (ys ≡ xs ++ more) × (us ≡ more ++ vs)
front_begins [] ys us vs e h = (ys, refl, e)
front_begins (x ∷ xs) [] us vs e h = absurd (omega arith)
front_begins (x ∷ xs) (y ∷ ys) us vs e h =
    let rest : xs ++ us ≡ ys ++ vs = cc in
    let first : x ≡ y = cc in
    let r = front_begins xs ys us vs rest (omega arith) in
    (r.0, cc (first, r.1), r.2)

-- ---- one level

-- of what is to come before the next length determinant, bits were taken
pub part_taken : {left after : ℕ} {r out : List ℕ} (xs : List ℕ) → length xs < left → Flows left after (xs ++ r) out
    → (rest : List ℕ) × (out ≡ xs ++ rest) × Flows (left - length xs) after r rest
part_taken {left} {after} {r} {out} xs h (inl (z, e)) = absurd (omega (arith, h, z))
part_taken {left} {after} {r} {out} xs h (inr p) =
    let b = front_begins xs p.front r (unpacked p.octets) p.split (omega (arith, h, p.long)) in
    let more = b.0 in
    let long : length xs + length more ≡ left = sym (length-append xs more) ∙ sym (ap length b.1) ∙ p.long in (
      more ++ general_octets (λ u. u) p.octets,
      p.whole ∙ ap (λ t. t ++ general_octets (λ u. u) p.octets) b.1 ∙ append_assoc xs more (general_octets (λ u. u) p.octets),
      inr (record { front = more; octets = p.octets; some = omega (arith, h); long = omega (arith, long); count = p.count; split = b.2; whole = refl }),
    )

-- after the last length determinant bits are taken as they are
pub plain_taken : {left after : ℕ} {r out : List ℕ} (xs : List ℕ) → left ≡ 0 → Flows left after (xs ++ r) out → (out ≡ xs ++ r) × Flows left after r r
plain_taken xs z (inl (y, e)) = (e, inl (y, refl))
plain_taken {left} xs z (inr p) = absurd (omega (arith, z, p.some))

-- the next length determinant, and what comes after it
pub length_next : (after : ℕ) (os : List ℕ) → length os ≡ after
    → (rest : List ℕ) × (general_octets (λ u. u) os ≡ (first_length after).bits ++ rest)
    × Flows (next_left (first_length after).items) (after - (first_length after).items) (unpacked os) rest
length_next after os e = ⊎_elim few many (cases_lt after 16384)
  where
    Next : Type 0
    Next = (rest : List ℕ) × (general_octets (λ u. u) os ≡ (first_length after).bits ++ rest)
        × Flows (next_left (first_length after).items) (after - (first_length after).items) (unpacked os) rest

    few : after < 16384 → Next
    few h =
        let all : (first_length after).items ≡ after = few_items after h in
        let none : next_left (first_length after).items ≡ 0 =
        ap next_left all ∙ ap {B = ℕ} (λ b. elim b [ true ↦ 0 | false ↦ 8 * after ]) (lt-ltb after 16384 h) in
        let last : general_octets (λ u. u) os ≡ (first_length after).bits ++ unpacked os =
        octets_last os (omega (arith, h, e)) ∙ ap (λ n. (first_length n).bits ++ unpacked os) e in
        (unpacked os, last, inl (none, refl))

    many : 16384 ≤ after → Next
    many h =
        let k = (first_length after).items in
        let size = fragment_items after k h refl in
        let some : 16384 ≤ k = omega (arith, size.0, size.1) in
        let inside : k ≤ length os = omega (arith, size.0, size.2, e) in
        let left : next_left k ≡ 8 * k = ap {B = ℕ} (λ b. elim b [ true ↦ 0 | false ↦ 8 * k ]) (le-ltb k 16384 some) in
        let rest = unpacked (take k os) ++ general_octets (λ u. u) (drop k os) in
        let first : general_octets (λ u. u) os ≡ (first_length after).bits ++ rest =
        octets_fragment os k (omega (arith, h, e)) (ap (λ n. (first_length n).items) (sym e))
        ∙ append_assoc (first_length (length os)).bits (unpacked (take k os)) (general_octets (λ u. u) (drop k os))
        ∙ ap (λ n. (first_length n).bits ++ rest) e in
        let parts : Parts (next_left k) (after - k) (unpacked os) rest = record {
          front = unpacked (take k os);
          octets = drop k os;
          some = omega (arith, left, some);
          long = length-unpacked (take k os) ∙ ap (λ n. 8 * n) (length-take-le k os inside) ∙ sym left;
          count = length-drop k os ∙ ap (λ n. n - k) e;
          split = ap unpacked (sym (take-append-drop k os)) ∙ unpacked-append (take k os) (drop k os);
          whole = refl;
        } in
        (rest, first, inr parts)

-- ---- levels

-- bits are taken at a level
abbrev pub Step : (List ℕ → Type 0) → (List ℕ → Type 0) → Fragments → Fragments → ℕ → List ℕ → Type 0
Step base next old new level bits =
    (around : List (List ℕ)) (r : List ℕ) → Comes base old level around (bits ++ r) → Comes next new level around r

-- levels below one that changes
pub record IsSameBelow (level : ℕ) (old new : Fragments) : Type 0 where
  pub left : (j : ℕ) → j < level → slice_index new.left j ≡ slice_index old.left j
  pub after : (j : ℕ) → j < level → slice_index new.after j ≡ slice_index old.after j

pub comes_same : (base : List ℕ → Type 0) (old new : Fragments) (level : ℕ) (around : List (List ℕ)) (r : List ℕ) → IsSameBelow level old new
    → Comes base old level around r → Comes base new level around r
comes_same base old new level [] r s c = c
comes_same base old new zero (next ∷ around) r s c = c
comes_same base old new (suc i) (next ∷ around) r s (out, flows, c) =
    let below : IsSameBelow i old new = record { left = λ j h. s.left j (omega (arith, h)); after = λ j h. s.after j (omega (arith, h)) } in
    let here : Flows (slice_index new.left i) (slice_index new.after i) r out =
    subst (λ n. Flows n (slice_index new.after i) r out) (sym (s.left i (omega arith))) (subst (λ n. Flows (slice_index old.left i) n r out) (sym (s.after i (omega arith))) flows) in
    (out, here, comes_same base old new i around (out ++ next) below c)

-- at level 0
pub base_step : (base next : List ℕ → Type 0) (old new : Fragments) (bits : List ℕ) → ((r : List ℕ) → base (bits ++ r) → next r) → Step base next old new 0 bits
base_step base next old new bits s [] r c = (refl, s r c.1)
base_step base next old new bits s (more ∷ around) r c = absurd c

-- after the last length determinant
pub pass_step : (base next : List ℕ → Type 0) (old new : Fragments) (i : ℕ) (bits : List ℕ) → slice_index old.left i ≡ 0
    → slice_index new.left i ≡ slice_index old.left i → slice_index new.after i ≡ slice_index old.after i
    → Step base next old new i bits → Step base next old new (suc i) bits
pass_step base next old new i bits z l a s [] r c = absurd (omega (arith, c.0))
pass_step base next old new i bits z l a s (more ∷ around) r (out, flows, c) =
    let p = plain_taken bits z flows in
    let come : Comes base old i around (bits ++ (r ++ more)) = subst (λ t. Comes base old i around t) (ap (λ t. t ++ more) p.0 ∙ append_assoc bits r more) c in
    (r, inl (l ∙ z, refl), s around (r ++ more) come)

-- before the next length determinant
pub part_step : (base next : List ℕ → Type 0) (old mid new : Fragments) (i : ℕ) (bits : List ℕ) → length bits < slice_index old.left i
    → slice_index new.left i ≡ slice_index old.left i - length bits → slice_index new.after i ≡ slice_index old.after i
    → IsSameBelow i old mid → Step base next mid new i bits → Step base next old new (suc i) bits
part_step base next old mid new i bits h l a same s [] r c = absurd (omega (arith, c.0))
part_step base next old mid new i bits h l a same s (more ∷ around) r (out, flows, c) =
    let p = part_taken bits h flows in
    let come : Comes base mid i around (bits ++ (p.0 ++ more)) =
    comes_same base old mid i around (bits ++ (p.0 ++ more)) same (subst (λ t. Comes base old i around t) (ap (λ t. t ++ more) p.1 ∙ append_assoc bits p.0 more) c) in
    let here : Flows (slice_index new.left i) (slice_index new.after i) r p.0 =
    subst (λ n. Flows n (slice_index new.after i) r p.0) (sym l) (subst (λ n. Flows (slice_index old.left i - length bits) n r p.0) (sym a) p.2) in
    (p.0, here, s around (p.0 ++ more) come)

-- up to the next length determinant, over it, and on
pub over_step : (b0 b1 b2 b3 : List ℕ → Type 0) (f0 f1 f2 f3 f4 : Fragments) (i : ℕ) (front back : List ℕ)
    → 0 < slice_index f0.left i → length front ≡ slice_index f0.left i → length back < 64
    → IsSameBelow i f2 f3
    → slice_index f4.left i ≡ next_left (first_length (slice_index f0.after i)).items - length back
    → slice_index f4.after i ≡ slice_index f0.after i - (first_length (slice_index f0.after i)).items
    → Step b0 b1 f0 f1 i front → Step b1 b2 f1 f2 i (first_length (slice_index f0.after i)).bits → Step b2 b3 f3 f4 i back
    → Step b0 b3 f0 f4 (suc i) (front ++ back)
over_step b0 b1 b2 b3 f0 f1 f2 f3 f4 i front back some long few same l a s1 s2 s3 [] r c = absurd (omega (arith, c.0))
over_step b0 b1 b2 b3 f0 f1 f2 f3 f4 i front back some long few same l a s1 s2 s3 (more ∷ around) r (out, inl (z, e), c) = absurd (omega (arith, z, some))
over_step b0 b1 b2 b3 f0 f1 f2 f3 f4 i front back some long few same l a s1 s2 s3 (more ∷ around) r (out, inr p, c) =
    let after = slice_index f0.after i in
    let b = front_begins front p.front (back ++ r) (unpacked p.octets) (sym (append_assoc front back r) ∙ p.split) (omega (arith, long, p.long)) in
    let none : b.0 ≡ [] = nothing_more b.0 (omega (arith, length-append front b.0, ap length b.1, long, p.long)) in
    let whole : p.front ≡ front = b.1 ∙ ap (λ t. front ++ t) none ∙ append-nil front in
    let tail : back ++ r ≡ unpacked p.octets = b.2 ∙ ap (λ t. t ++ unpacked p.octets) none in
    let g = general_octets (λ u. u) p.octets in
    let next = length_next after p.octets p.count in
    let c1 : Comes b1 f1 i around (g ++ more) =
    s1 around (g ++ more) (subst (λ t. Comes b0 f0 i around t) (ap (λ t. t ++ more) (p.whole ∙ ap (λ t. t ++ g) whole) ∙ append_assoc front g more) c) in
    let c2 : Comes b2 f2 i around (next.0 ++ more) =
    s2 around (next.0 ++ more) (subst (λ t. Comes b1 f1 i around t) (ap (λ t. t ++ more) next.1 ∙ append_assoc (first_length after).bits next.0 more) c1) in
    let flows : Flows (next_left (first_length after).items) (after - (first_length after).items) (back ++ r) next.0 =
    subst (λ t. Flows (next_left (first_length after).items) (after - (first_length after).items) t next.0) (sym tail) next.2 in
    let t = then_taken (first_length after).items back few flows in
    let c3 : Comes b2 f3 i around (back ++ (t.0 ++ more)) =
    comes_same b2 f2 f3 i around (back ++ (t.0 ++ more)) same (subst (λ x. Comes b2 f2 i around x) (ap (λ x. x ++ more) t.1 ∙ append_assoc back t.0 more) c2) in
    let here : Flows (slice_index f4.left i) (slice_index f4.after i) r t.0 =
    subst (λ n. Flows n (slice_index f4.after i) r t.0) (sym l) (subst (λ n. Flows (next_left (first_length after).items - length back) n r t.0) (sym a) t.2) in
    (t.0, here, s3 around (t.0 ++ more) c3)
  where
    nothing_more : (xs : List ℕ) → length xs ≡ 0 → xs ≡ []
    nothing_more [] e = refl
    nothing_more (x ∷ xs) e = absurd (omega (arith, e))

    -- there is room for few bits after a length determinant
    then_taken : (items : ℕ) {after : ℕ} {r out : List ℕ} (xs : List ℕ) → length xs < 64 → Flows (next_left items) after (xs ++ r) out
        → (rest : List ℕ) × (out ≡ xs ++ rest) × Flows (next_left items - length xs) after r rest
    then_taken items {after} {r} {out} xs h (inl (z, e)) = (r, e, inl (omega (arith, z), refl))
    then_taken items {after} {r} {out} xs h (inr p) = part_taken xs (room items p.some) (inr p)
      where
        room : (n : ℕ) → 0 < next_left n → length xs < next_left n
        room n some = ⊎_elim
            (λ (b : n < 16384). absurd (omega (arith, some, ap {B = ℕ} (λ t. elim t [ true ↦ 0 | false ↦ 8 * n ]) (lt-ltb n 16384 b))))
            (λ (b : 16384 ≤ n). omega (arith, h, b, ap {B = ℕ} (λ t. elim t [ true ↦ 0 | false ↦ 8 * n ]) (le-ltb n 16384 b)))
            (cases_lt n 16384)

-- ---- octets at once

-- bits that reach no length determinant are taken at every level
pub block_step : (base next : List ℕ → Type 0) (old new : Fragments) (level : ℕ) (bits : List ℕ)
    → ((j : ℕ) → j < level → 0 < slice_index old.left j → length bits < slice_index old.left j)
    → ((j : ℕ) → j < level → slice_index new.left j ≡ slice_index old.left j - length bits)
    → ((j : ℕ) → slice_index new.after j ≡ slice_index old.after j)
    → ((r : List ℕ) → base (bits ++ r) → next r) → Step base next old new level bits
block_step base next old new zero bits room left after s = base_step base next old new bits s
block_step base next old new (suc i) bits room left after s =
    let below : Step base next old new i bits =
    block_step base next old new i bits (λ j h. room j (omega (arith, h))) (λ j h. left j (omega (arith, h))) after s in
    let here : slice_index new.left i ≡ slice_index old.left i - length bits = left i (omega arith) in
    ⊎_elim
    (λ (z : slice_index old.left i < 1). pass_step base next old new i bits (omega (arith, z)) (omega (arith, z, here)) (after i) below)
    (λ (some : 1 ≤ slice_index old.left i).
    part_step base next old old new i bits (room i (omega arith) (omega (arith, some))) here (after i) (record { left = λ j h. refl; after = λ j h. refl }) below)
    (cases_lt (slice_index old.left i) 1)
