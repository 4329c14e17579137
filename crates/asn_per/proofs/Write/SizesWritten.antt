-- Where a writer of items under a size stands: what is in front of them, and one length after the other.
use Rattle.std.proofs.Common.{⊎_elim, ◌⊎◌, inl, inr, IsTrue, not, ◌||◌, ◌≡◌, ◌≤◌, ◌<◌, ◌+◌, ◌-◌, ◌*◌, ◌^◌, ℕ, suc, Bool, true, false, ◌&&◌, nat_lt, nat_le, Option, Some, None, List, [], ◌∷◌, ◌++◌, length, take, drop, refl, sym, ◌∙◌, ap, subst, arith, append_assoc}
use Rattle.std.proofs.lemmas.Bool.{cases_lt, and_parts, leb-true, lt-ltb, le-ltb, ltb-true, ltb-false}
use Rattle.std.proofs.lemmas.List.{length-drop, drop-drop, drop_all}
use Rattle.asn_values.specs.Shape.{SizeRange}
use Rattle.asn_values.specs.Fits.{in_size}
use Rattle.asn_bits.specs.Numbers.{bits, width}
use Rattle.asn_bits.specs.LengthBits.{first_length}
use Rattle.asn_bits.specs.Lengths.{Length, last_length, fragment, blocks, lengths, joined, with_lengths, general}
use Rattle.asn_bits.proofs.FirstLengths.{first_fragment}
use Rattle.asn_bits.proofs.LengthBits.{lengths_last, lengths_fragment}
use Rattle.asn_bits.proofs.Widths.{width_fits}
use Rattle.asn_sinks.proofs.Pushing.{pushed_same}
use Rattle.asn_rules.specs.Chunks.{Chunk, one, ones, flat}
use Rattle.asn_rules.proofs.Live.Flat.{flat-append, flat-ones}
use Rattle.asn_rules.specs.Components.{extension_bit}
use Rattle.asn_per.specs.Per.{spelled, sized, after_mark, constrained, within}
use Rattle.asn_per.specs.Rules.{per_ruling}
use Rattle.asn_per.specs.StringItems.{row_bits, general_bits}
use Rattle.asn_per.specs.Walk.{per_coding}
use Rattle.asn_walk.specs.Writing.{Pushing, Advances}

-- ---- in front of the items

-- a size with an upper bound, as the program has it
abbrev sizing : ℕ → Option ℕ → Bool → SizeRange
sizing low high m = record { low = low; high = high; extensible = m }

pub root_bounds : (low high count : ℕ) (h : Option ℕ) (m : Bool) → h ≡ Some high → in_size (sizing low h m) count ≡ true → (low ≤ count) × (count ≤ high)
root_bounds low high count h m e i =
    let j : (nat_le low count && nat_le count high) ≡ true = rw e at i in
    let w = and_parts (nat_le low count) (nat_le count high) j in
    (leb-true low count w.0, leb-true count high w.1)

-- the count has room in its bits
pub root_room : (low high count w : ℕ) (h : Option ℕ) (m : Bool) → h ≡ Some high → in_size (sizing low h m) count ≡ true → w ≡ width (suc (high - low)) → count - low < 2 ^ w
root_room low high count w h m e i f =
    let b = root_bounds low high count h m e i in
    subst (λ (k : ℕ). count - low < 2 ^ k) (sym f) (width_fits (suc (high - low)) (count - low) (omega (arith, b.0, b.1)))

-- the form of the root
plain_bits : (low high : ℕ) (xs : List (List Chunk)) → high < 65536 → flat spelled (within low (Some high) xs) ≡ bits (width (suc (high - low))) (length xs - low) ++ row_bits xs
plain_bits low high xs few =
    let front = constrained (suc (high - low)) (length xs - low) in
    ap (λ (b : Bool). flat spelled (elim b [ true ↦ ones front ++ joined xs | false ↦ general one xs ])) (lt-ltb high 65536 few)
    ∙ flat-append spelled (ones front) (joined xs) ∙ ap (λ (t : List ℕ). t ++ row_bits xs) (flat-ones spelled front)

pub root_bits : (low high : ℕ) (m : Bool) → high < 65536 → (xs : List (List Chunk)) → in_size (sizing low (Some high) m) (length xs) ≡ true
    → flat spelled (sized (sizing low (Some high) m) xs) ≡ extension_bit m false ++ (bits (width (suc (high - low))) (length xs - low) ++ row_bits xs)
root_bits low high false few xs i = plain_bits low high xs few
root_bits low high true few xs i =
    ap (λ b. flat spelled (after_mark one true b (within low (Some high) xs) (general one xs))) i
    ∙ ap (λ (t : List ℕ). 0 ∷ t) (plain_bits low high xs few)

-- in the root, with an upper bound below 65,536: the count is written, and the items follow
pub root_written : (low high count w : ℕ) (h : Option ℕ) (m : Bool) → h ≡ Some high → high < 65536 → in_size (sizing low h m) count ≡ true → w ≡ width (suc (high - low))
    → (xs : List (List Chunk)) → length xs ≡ count → (extension_bit m false ++ bits w (count - low)) ++ row_bits xs ≡ flat spelled (sized (sizing low h m) xs)
root_written low high count w h m e few i f xs l =
    let known : in_size (sizing low (Some high) m) (length xs) ≡ true = ap (λ k. in_size (sizing low k m) (length xs)) (sym e) ∙ ap (λ n. in_size (sizing low h m) n) l ∙ i in
    let front = bits (width (suc (high - low))) (length xs - low) in
    let counted : bits w (count - low) ≡ front = rw (f, l) refl in
    append_assoc (extension_bit m false) (bits w (count - low)) (row_bits xs) ∙ ap (λ (t : List ℕ). extension_bit m false ++ (t ++ row_bits xs)) counted
    ∙ sym (root_bits low high m few xs known) ∙ ap (λ k. flat spelled (sized (sizing low k m) xs)) (sym e)

-- no upper bound is below 65,536
abbrev pub IsGeneral : ℕ → Option ℕ → Type 0
IsGeneral low h = (xs : List (List Chunk)) → within low h xs ≡ general one xs

pub no_bound : (low : ℕ) (h : Option ℕ) → h ≡ None → IsGeneral low h
no_bound low h e xs = ap (λ k. within low k xs) e

pub large_bound : (low high : ℕ) (h : Option ℕ) → h ≡ Some high → 65536 ≤ high → IsGeneral low h
large_bound low high h e many xs =
    ap (λ k. within low k xs) e
    ∙ ap (λ (b : Bool). elim b [ true ↦ ones (constrained (suc (high - low)) (length xs - low)) ++ joined xs | false ↦ general one xs ]) (le-ltb high 65536 many)

-- and else the items follow under their general length
pub other_written : (low count : ℕ) (h : Option ℕ) (m i : Bool) → i ≡ in_size (sizing low h m) count → IsTrue (m || i) → IsGeneral low h ⊎ (i ≡ false)
    → (xs : List (List Chunk)) → length xs ≡ count → extension_bit m (not i) ++ general_bits xs ≡ flat spelled (sized (sizing low h m) xs)
other_written low count h m i e fits which xs l =
    let inside : in_size (sizing low h m) (length xs) ≡ i = ap (λ n. in_size (sizing low h m) n) l ∙ sym e in
    marked m i fits which ∙ ap (λ b. flat spelled (after_mark one m b (within low h xs) (general one xs))) (sym inside)
  where
    marked : (m i : Bool) → IsTrue (m || i) → IsGeneral low h ⊎ (i ≡ false)
        → extension_bit m (not i) ++ general_bits xs ≡ flat spelled (after_mark one m i (within low h xs) (general one xs))
    marked false true f (inl n) = ap (flat spelled) (sym (n xs))
    marked false true f (inr n) = absurd (cc)
    marked false false f w = absurd (cc)
    marked true true f (inl n) = ap (λ c. 0 ∷ flat spelled c) (sym (n xs))
    marked true true f (inr n) = absurd (cc)
    marked true false f w = refl

-- ---- one length after the other

-- how many items follow the first length of n
pub last_items : (n : ℕ) → n < 16384 → (first_length n).items ≡ n
last_items n l = (let t : nat_lt n 16384 ≡ true = lt-ltb n 16384 l in rw (first_length, t) refl)

pub fragment_items : (n : ℕ) → 16384 ≤ n → (first_length n).items ≡ 16384 * blocks n
fragment_items n l = ap (λ (f : Length). f.items) (first_fragment n l)

-- no more than there are
pub first_items : (n : ℕ) → (first_length n).items ≤ n
first_items n = ⊎_elim (λ a. omega (arith, last_items n a)) (λ a. omega (arith, fragment_items n a)) (cases_lt n 16384)

-- the bits of a length, its items, and what stands after them
with_length : (l : Length) (ls : List Length) (xs : List (List Chunk)) → flat spelled (with_lengths one (l ∷ ls) xs) ≡ l.bits ++ (row_bits (take l.items xs) ++ flat spelled (with_lengths one ls (drop l.items xs)))
with_length l ls xs =
    flat-append spelled (ones l.bits) (joined (take l.items xs) ++ with_lengths one ls (drop l.items xs))
    ∙ ap (λ (t : List ℕ). t ++ flat spelled (joined (take l.items xs) ++ with_lengths one ls (drop l.items xs))) (flat-ones spelled l.bits)
    ∙ ap (λ (t : List ℕ). l.bits ++ t) (flat-append spelled (joined (take l.items xs)) (with_lengths one ls (drop l.items xs)))

-- what is left after the items of the first length: nothing after the last items
abbrev pub after_items : Bool → List (List Chunk) → List ℕ
after_items true xs = []
after_items false xs = general_bits xs

-- items under their general length begin with the first one
pub general_first : (xs : List (List Chunk)) → general_bits xs ≡ (first_length (length xs)).bits ++ (row_bits (take (first_length (length xs)).items xs) ++ after_items (nat_lt (length xs) 16384) (drop (first_length (length xs)).items xs))
general_first xs = go (nat_lt (length xs) 16384) refl
  where
    go : (b : Bool) → nat_lt (length xs) 16384 ≡ b → general_bits xs ≡ (first_length (length xs)).bits ++ (row_bits (take (first_length (length xs)).items xs) ++ after_items b (drop (first_length (length xs)).items xs))
    go true e =
        let f : first_length (length xs) ≡ last_length (length xs) = rw (e, first_length) refl in
        ap (λ ls. flat spelled (with_lengths one ls xs)) (lengths_last (length xs) (ltb-true (length xs) 16384 e)) ∙ with_length (last_length (length xs)) [] xs
        ∙ ap (λ (l : Length). l.bits ++ (row_bits (take l.items xs) ++ [])) (sym f)
    go false e =
        let m = blocks (length xs) in
        let f : first_length (length xs) ≡ fragment m = rw (e, first_length) refl in
        ap (λ ls. flat spelled (with_lengths one ls xs)) (lengths_fragment (length xs) (ltb-false (length xs) 16384 e)) ∙ with_length (fragment m) (lengths (length xs - 16384 * m)) xs
        ∙ ap (λ n. (fragment m).bits ++ (row_bits (take (16384 * m) xs) ++ flat spelled (with_lengths one (lengths n) (drop (16384 * m) xs)))) (sym (length-drop (16384 * m) xs))
        ∙ ap (λ (l : Length). l.bits ++ (row_bits (take l.items xs) ++ general_bits (drop l.items xs))) (sym f)

-- ---- items in fragments

-- a sink has taken bits, which are the whole with what is still to be written of the items that are left
pub record Written {Sink : Type 0} (push : Pushing Sink) (xs : List (List Chunk)) (whole : List ℕ) (rest : List (List Chunk) → List Chunk) (before now : Sink) (done : ℕ) : Type 0 where
  pub few : done ≤ length xs
  pub front : List ℕ
  pub pushed : push before now front
  pub known : front ++ flat spelled (rest (drop done xs)) ≡ whole

module _ {Sink : Type 0} {push : Pushing Sink} (joined_law : (a b d : Sink) (us vs : List ℕ) → push a b us → push b d vs → push a d (us ++ vs)) where
  -- the items of a fragment more
  pub written_next : (xs : List (List Chunk)) (whole : List ℕ) (rest then : List (List Chunk) → List Chunk) (before now mid new : Sink) (done many : ℕ)
      → Written push xs whole rest before now done → Advances push per_coding rest (length xs - done) now then mid (Some many) → push mid new (row_bits (take many (drop done xs)))
      → Written push xs whole then before new (done + many)
  unfolding per_coding per_ruling
  written_next xs whole rest then before now mid new done many h a e =
      let ys = drop done xs in
      let left : length ys ≡ length xs - done = length-drop done xs in
      let after = then (drop (done + many) xs) in
      let step = a.2 ys left in
      let row = row_bits (take many ys) in
      let last : step.done ++ (row ++ flat spelled after) ≡ flat spelled (rest ys) =
      ap (λ (l : List ℕ). step.done ++ l) (sym (flat-append spelled (joined (take many ys)) after))
      ∙ ap (λ (zs : List (List Chunk)). step.done ++ flat spelled (joined (take many ys) ++ then zs)) (sym (drop-drop many done xs)) ∙ step.rest in
      record {
        few = omega (arith, a.1, h.few);
        front = h.front ++ (step.done ++ row);
        pushed = joined_law before now new h.front (step.done ++ row) h.pushed (joined_law now mid new step.done row step.pushed e);
        known =
            append_assoc h.front (step.done ++ row) (flat spelled after)
            ∙ ap (λ (l : List ℕ). h.front ++ l) (append_assoc step.done row (flat spelled after) ∙ last) ∙ h.known;
      }

  -- no item is left
  pub written_end : (xs : List (List Chunk)) (whole : List ℕ) (rest then : List (List Chunk) → List Chunk) (before now new : Sink) (done : ℕ)
      → Written push xs whole rest before now done → Advances push per_coding rest (length xs - done) now then new None → push before new whole
  unfolding per_coding per_ruling
  written_end xs whole rest then before now new done h a =
      let none : drop done xs ≡ [] = drop_all done xs (omega (arith, a.0, h.few)) in
      pushed_same push before new (ap (λ (ys : List (List Chunk)). h.front ++ flat spelled (rest ys)) (sym none) ∙ h.known)
      (joined_law before now new h.front (flat spelled (rest [])) h.pushed a.1)
