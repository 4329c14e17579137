-- Lists in PER, under their general length or under a size: where the spellings of the items face each other,
-- so do those of the lists.
use Rattle.std.proofs.Common.{◌≡◌, ◌≤◌, ◌<◌, ◌-◌, ◌*◌, ◌/◌, ℕ, zero, suc, pred, Bool, true, false, ◌&&◌, ◌||◌, List, [], ◌∷◌, ◌++◌, length, map, take, drop, Option, Some, None, inl, inr, refl, sym, ◌∙◌, ap, subst, arith, append_assoc, length-drop, IsTrue, nat_le, nat_lt}
use Rattle.std.proofs.lemmas.Bool.{and_parts, leb-true}
use Rattle.std.proofs.lemmas.List.{append-nil, length-map, length-take-le, drop-map, take-append-drop, append_cancel_left}
use Rattle.std.proofs.Math.Seq.{take-length}
use Rattle.std.specs.List.{AllByRecursion}
use Rattle.asn_values.specs.Shape.{SizeRange}
use Rattle.asn_values.specs.Fits.{FitsLength, in_size, not_above}
use Rattle.asn_bits.specs.Numbers.{bits, width}
use Rattle.asn_bits.specs.Lengths.{last_length, fragment, lengths_within, lengths, joined, with_lengths, general}
use Rattle.asn_bits.proofs.Digits.{digits_code}
use Rattle.asn_bits.proofs.GeneralLengths.{last_code, last_not_fragment, lengths_cases, blocks, all_take, take-map}
use Rattle.asn_bits.proofs.Widths.{width_fits}
use Rattle.asn_rules.specs.Chunks.{Chunk, one, ones}
use Rattle.asn_rules.proofs.Law.Facing.{Facing, IsFacing, facing_at, facing_parts, plain_facing, joined_facing}
use Rattle.asn_per.specs.Per.{spelled, constrained, within, sized, after_mark}

-- ---- what stands after a length

-- a last length, its items and what follows
regroup_last : (b j k r : List Chunk) → j ≡ k → (b ++ (j ++ [])) ++ r ≡ b ++ (k ++ r)
regroup_last b j k r e = rw (append-nil j, append_assoc b j r, e) refl

-- a fragment, its items, the rest and what follows
regroup_fragment : (b j k v w r : List Chunk) → j ≡ k → v ≡ w → (b ++ (j ++ v)) ++ r ≡ b ++ (k ++ (w ++ r))
regroup_fragment b j k v w r e f = rw (append_assoc b (j ++ v) r, append_assoc j v r, e, f) refl

-- ---- under the general length

module _ {A : Type 0} (P : A → Type 0) (code : A → List Chunk) (h : IsFacing spelled P code) (E : Type 0) where
  -- the items under their lengths, of which at most f are fragments
  abbrev under : ℕ → List A → List Chunk
  under f xs = with_lengths one (lengths_within f (length xs)) (map code xs)

  -- the last length and its items
  under_last : (f : ℕ) (xs : List A) (r : List Chunk) → lengths_within f (length xs) ≡ last_length (length xs) ∷ []
      → under f xs ++ r ≡ ones (last_length (length xs)).bits ++ (joined (map code xs) ++ r)
  under_last f xs r e =
      ap (λ ls. with_lengths one ls (map code xs) ++ r) e
      ∙ regroup_last (ones (last_length (length xs)).bits) (joined (take (length xs) (map code xs))) (joined (map code xs)) r
      (ap joined (take-map code (length xs) xs ∙ ap (map code) (take-length xs)))

  -- a fragment and what follows it
  under_fragment : (f k : ℕ) (xs : List A) (r : List Chunk) (m : ℕ) → lengths_within f (length xs) ≡ fragment m ∷ lengths_within k (length xs - 16384 * m)
      → under f xs ++ r ≡ ones (1 ∷ 1 ∷ bits 6 m) ++ (joined (map code (take (16384 * m) xs)) ++ (under k (drop (16384 * m) xs) ++ r))
  under_fragment f k xs r m e =
      ap (λ ls. with_lengths one ls (map code xs) ++ r) e
      ∙ regroup_fragment (ones (1 ∷ 1 ∷ bits 6 m)) (joined (take (16384 * m) (map code xs))) (joined (map code (take (16384 * m) xs)))
      (with_lengths one (lengths_within k (length xs - 16384 * m)) (drop (16384 * m) (map code xs))) (under k (drop (16384 * m) xs)) r
      (ap joined (take-map code (16384 * m) xs))
      (cc (drop-map code (16384 * m) xs, length-drop (16384 * m) xs))

  -- two lists of at most f and g fragments face each other
  abbrev Face : ℕ → ℕ → Type 0
  Face f g = (xs ys : List A) (r s : List Chunk) → length xs < 16384 * suc f → length ys < 16384 * suc g → AllByRecursion P xs → AllByRecursion P ys
      → (xs ≡ ys → Facing spelled E r s) → Facing spelled E (under f xs ++ r) (under g ys ++ s)

  -- two fragments of one length, and what follows them
  fragments_face : (f g m n : ℕ) (xs ys : List A) (r s : List Chunk) → Face (pred f) (pred g) → 0 < f → 0 < g → m ≡ blocks (length xs) → n ≡ blocks (length ys)
      → 16384 ≤ length xs → 16384 ≤ length ys → length xs < 16384 * suc f → length ys < 16384 * suc g → AllByRecursion P xs → AllByRecursion P ys → m ≡ n → (xs ≡ ys → Facing spelled E r s)
      → Facing spelled E (joined (map code (take (16384 * m) xs)) ++ (under (pred f) (drop (16384 * m) xs) ++ r))
      (joined (map code (take (16384 * n) ys)) ++ (under (pred g) (drop (16384 * n) ys) ++ s))
  fragments_face f g m n xs ys r s rest hf hg hm hn lx ly bx by p q same next =
      let k = 16384 * m in
      let kx : k ≤ length xs = omega arith in
      let ky : k ≤ length ys = omega arith in
      let px = all_take P k xs p in
      let py = all_take P k ys q in
      subst (λ i. Facing spelled E (joined (map code (take k xs)) ++ (under (pred f) (drop k xs) ++ r)) (joined (map code (take (16384 * i) ys)) ++ (under (pred g) (drop (16384 * i) ys) ++ s))) same
      (joined_facing spelled P code h E (take k xs) (take k ys) (under (pred f) (drop k xs) ++ r) (under (pred g) (drop k ys) ++ s) (length-take-le k xs kx ∙ sym (length-take-le k ys ky)) px.0 py.0
      (λ front. rest (drop k xs) (drop k ys) r s (omega (arith, length-drop k xs)) (omega (arith, length-drop k ys)) px.1 py.1
      (λ back. next (sym (take-append-drop k xs) ∙ cc (front, back) ∙ take-append-drop k ys))))

  -- one length of each list, where the rests face each other
  under_step : (f g : ℕ) → (0 < f → Face (pred f) (pred g)) → Face f g
  under_step f g rest xs ys r s bx by p q next =
      elim (lengths_cases f (length xs) bx) [
        | inl a ↦ elim (lengths_cases g (length ys) by) [
          | inl b ↦ facing_at spelled E (under_last f xs r a.1) (under_last g ys s b.1)
              (plain_facing spelled E (length xs ≡ length ys) (last_length (length xs)).bits (last_length (length ys)).bits (joined (map code xs) ++ r) (joined (map code ys) ++ s)
              (λ t u e. (let w = last_code (length xs) (length ys) t u a.0 b.0 e in (w.0, ap (λ n. (last_length n).bits) w.0)))
              (λ l. joined_facing spelled P code h E xs ys r s l p q next))
          | inr b ↦ facing_at spelled E (under_last f xs r a.1) (under_fragment g (pred g) ys s (blocks (length ys)) b.2)
              (plain_facing spelled E ⊥ (last_length (length xs)).bits (1 ∷ 1 ∷ bits 6 (blocks (length ys))) _ _ (λ t u e. absurd (last_not_fragment (length xs) t (bits 6 (blocks (length ys)) ++ u) e)) (λ x. absurd x))
        ]
        | inr a ↦ elim (lengths_cases g (length ys) by) [
          | inl b ↦ facing_at spelled E (under_fragment f (pred f) xs r (blocks (length xs)) a.2) (under_last g ys s b.1)
              (plain_facing spelled E ⊥ (1 ∷ 1 ∷ bits 6 (blocks (length xs))) (last_length (length ys)).bits _ _ (λ t u e. absurd (last_not_fragment (length ys) u (bits 6 (blocks (length xs)) ++ t) (sym e))) (λ x. absurd x))
          | inr b ↦
              let m = blocks (length xs) in
              let n = blocks (length ys) in
              facing_at spelled E (under_fragment f (pred f) xs r m a.2) (under_fragment g (pred g) ys s n b.2)
              (plain_facing spelled E (m ≡ n) (1 ∷ 1 ∷ bits 6 m) (1 ∷ 1 ∷ bits 6 n) _ _
              (λ t u e. (let w = digits_code 2 (omega arith) 6 m n t u (omega arith) (omega arith) (append_cancel_left (1 ∷ 1 ∷ []) _ _ e) in (w.0, ap (λ i. 1 ∷ 1 ∷ bits 6 i) w.0)))
              (λ same. fragments_face f g m n xs ys r s (rest a.0) a.0 b.0 refl refl a.1 b.1 bx by p q same next))
        ]
      ]

  -- lists of any numbers of fragments
  under_faces : (f g : ℕ) → Face f g
  under_faces zero g = under_step zero g (λ l. absurd (omega arith))
  under_faces (suc f) g = under_step (suc f) g (λ l. under_faces f (pred g))

  -- lists under their general length
  general_faces : (xs ys : List A) (r s : List Chunk) → AllByRecursion P xs → AllByRecursion P ys → (xs ≡ ys → Facing spelled E r s) → Facing spelled E (general one (map code xs) ++ r) (general one (map code ys) ++ s)
  general_faces xs ys r s p q next =
      facing_at spelled E (ap (λ n. with_lengths one (lengths n) (map code xs) ++ r) (length-map xs code)) (ap (λ n. with_lengths one (lengths n) (map code ys) ++ s) (length-map ys code))
      (under_faces (length xs / 16384) (length ys / 16384) xs ys r s (omega arith) (omega arith) p q next)

-- ---- under a size

-- a length in the root is at least the low bound, and no more than the high one
inside : (low : ℕ) (high : Option ℕ) (n : ℕ) → (nat_le low n && not_above high n) ≡ true → (low ≤ n) × (not_above high n ≡ true)
inside low high n h = let w = and_parts (nat_le low n) (not_above high n) h in (leb-true low n w.0, w.1)

-- 0 is not 1
zero_one : ◌≡◌ {A = ℕ} 0 1 → ⊥
zero_one h = omega arith

module _ {A : Type 0} (P : A → Type 0) (code : A → List Chunk) (h : IsFacing spelled P code) where
  -- lists of lengths in the root
  within_facing : (E : Type 0) (low : ℕ) (high : Option ℕ) (xs ys : List A) (r s : List Chunk)
      → (nat_le low (length xs) && not_above high (length xs)) ≡ true → (nat_le low (length ys) && not_above high (length ys)) ≡ true
      → AllByRecursion P xs → AllByRecursion P ys → (xs ≡ ys → Facing spelled E r s)
      → Facing spelled E (within low high (map code xs) ++ r) (within low high (map code ys) ++ s)
  within_facing E low None xs ys r s bx by p q next = general_faces P code h E xs ys r s p q next
  within_facing E low (Some high) xs ys r s bx by p q next = go (nat_lt high 65536)
    where
      go : (b : Bool) → Facing spelled E (elim b [ true ↦ ones (constrained (suc (high - low)) (length (map code xs) - low)) ++ joined (map code xs) | false ↦ general one (map code xs) ] ++ r)
          (elim b [ true ↦ ones (constrained (suc (high - low)) (length (map code ys) - low)) ++ joined (map code ys) | false ↦ general one (map code ys) ] ++ s)
      go false = general_faces P code h E xs ys r s p q next
      go true =
          let x = inside low (Some high) (length xs) bx in
          let y = inside low (Some high) (length ys) by in
          let hx : length xs ≤ high = leb-true (length xs) high x.1 in
          let hy : length ys ≤ high = leb-true (length ys) high y.1 in
          let n = suc (high - low) in
          facing_at spelled E (ap (λ k. ones (constrained n (k - low)) ++ joined (map code xs) ++ r) (length-map xs code)) (ap (λ k. ones (constrained n (k - low)) ++ joined (map code ys) ++ s) (length-map ys code))
          (facing_parts spelled E (ones (constrained n (length xs - low))) (joined (map code xs)) r (ones (constrained n (length ys - low))) (joined (map code ys)) s
          (plain_facing spelled E (length xs ≡ length ys) (constrained n (length xs - low)) (constrained n (length ys - low)) _ _
          (λ t u e. (let w = digits_code 2 (omega arith) (width n) (length xs - low) (length ys - low) t u (width_fits n (length xs - low) (omega arith)) (width_fits n (length ys - low) (omega arith)) e in
          let same : length xs - low ≡ length ys - low = w.0 in (omega arith, ap (constrained n) same)))
          (λ l. joined_facing spelled P code h E xs ys r s l p q next)))

  -- lists of lengths that the size allows
  pub sized_facing : (z : SizeRange) → IsFacing spelled (λ xs. FitsLength z (length xs) × AllByRecursion P xs) (λ xs. sized z (map code xs))
  sized_facing z E xs ys r s p q next =
      subst (λ n. Facing spelled E (after_mark one z.extensible (in_size z n) (within z.low z.high (map code xs)) (general one (map code xs)) ++ r) (sized z (map code ys) ++ s)) (sym (length-map xs code))
      (subst (λ n. Facing spelled E (after_mark one z.extensible (in_size z (length xs)) (within z.low z.high (map code xs)) (general one (map code xs)) ++ r) (after_mark one z.extensible (in_size z n) (within z.low z.high (map code ys)) (general one (map code ys)) ++ s)) (sym (length-map ys code))
      (go z.extensible (in_size z (length xs)) (in_size z (length ys)) refl refl refl p.0.1 q.0.1))
    where
      go : (m i j : Bool) → z.extensible ≡ m → in_size z (length xs) ≡ i → in_size z (length ys) ≡ j → IsTrue (m || i) → IsTrue (m || j)
          → Facing spelled E (after_mark one m i (within z.low z.high (map code xs)) (general one (map code xs)) ++ r) (after_mark one m j (within z.low z.high (map code ys)) (general one (map code ys)) ++ s)
      go false i j em ei ej hx hy = within_facing E z.low z.high xs ys r s (ei ∙ hx) (ej ∙ hy) p.1 q.1 next
      go true true true em ei ej hx hy = record { told = λ e. (within_facing E z.low z.high xs ys r s ei ej p.1 q.1 next).told }
      go true false false em ei ej hx hy = record { told = λ e. (general_faces P code h E xs ys r s p.1 q.1 next).told }
      go true true false em ei ej hx hy = record { told = λ e. absurd (zero_one e) }
      go true false true em ei ej hx hy = record { told = λ e. absurd (zero_one (sym e)) }
