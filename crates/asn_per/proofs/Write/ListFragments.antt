-- What is still to be written of a list after its count, or after one of its lengths.
use Rattle.std.proofs.Common.{⊎_elim, ◌≡◌, ◌≤◌, ◌<◌, ℕ, zero, suc, Bool, true, false, nat_lt, List, [], ◌∷◌, ◌++◌, length, take, drop, Some, None, refl, sym, ap, ◌∙◌, append_assoc, arith}
use Rattle.std.proofs.lemmas.Bool.{cases_lt, lt-ltb, le-ltb}
use Rattle.std.proofs.lemmas.List.{append-nil, take_all}
use Rattle.asn_bits.specs.LengthBits.{first_length}
use Rattle.asn_bits.specs.Lengths.{joined, general}
use Rattle.asn_sinks.proofs.Pushing.{pushed_same}
use Rattle.asn_rules.specs.Chunks.{Chunk, one, flat}
use Rattle.asn_rules.proofs.Live.Flat.{flat-append}
use Rattle.asn_walk.specs.Writing.{Pushing, Advances}
use Rattle.asn_per.specs.Per.{spelled}
use Rattle.asn_per.specs.StringItems.{row_bits, general_bits}
use Rattle.asn_per.specs.Rules.{per_ruling}
use Rattle.asn_per.specs.Walk.{per_coding}
use Rattle.asn_per.proofs.Write.SizesWritten.{after_items, general_first, last_items, fragment_items, first_items}

-- the first items and the others are all
joined_parts : (n : ℕ) (xs : List (List Chunk)) → joined (take n xs) ++ joined (drop n xs) ≡ joined xs
joined_parts zero xs = refl
joined_parts (suc n) [] = refl
joined_parts (suc n) (x ∷ xs) = append_assoc x (joined (take n xs)) (joined (drop n xs)) ∙ ap (λ (l : List Chunk). x ++ l) (joined_parts n xs)

module _ {Sink : Type 0} (push : Pushing Sink) where
  -- ---- items at once

  pub items_follow : (sink : Sink) (left : ℕ) → push sink sink [] → 0 < left → Advances push per_coding joined left sink joined sink (Some left)
  unfolding per_coding per_ruling
  items_follow sink left none some = (some, omega arith, λ items e. record { done = []; pushed = none; rest = ap (λ (cs : List Chunk). flat spelled cs) (joined_parts left items) })

  pub items_end : (sink : Sink) (left : ℕ) → push sink sink [] → left ≡ 0 → Advances push per_coding joined left sink joined sink None
  unfolding per_coding per_ruling
  items_end sink left none end = (end, none)

  -- ---- after a length

  module _ (old mid : Sink) (left many : ℕ) (m : many ≡ (first_length left).items) (e : push old mid (first_length left).bits) where
    -- the last items
    few : many < 16384 → left < 16384
    few h = ⊎_elim (λ f. f) (λ f. absurd (omega (arith, fragment_items left f, f, m, h))) (cases_lt left 16384)

    all : many < 16384 → many ≡ left
    all h = m ∙ last_items left (few h)

    last_there : many < 16384 → (items : List (List Chunk)) → length items ≡ left → (first_length left).bits ++ row_bits items ≡ general_bits items
    last_there h items n =
        let first = first_length (length items) in
        let count : first.items ≡ length items = last_items (length items) (omega (arith, n, few h)) in
        let ends : nat_lt (length items) 16384 ≡ true = lt-ltb (length items) 16384 (omega (arith, n, few h)) in
        let whole : general_bits items ≡ first.bits ++ row_bits items =
        general_first items
        ∙ ap (λ (b : Bool). first.bits ++ (row_bits (take first.items items) ++ after_items b (drop first.items items))) ends
        ∙ ap (λ (l : List ℕ). first.bits ++ l) (append-nil (row_bits (take first.items items)))
        ∙ ap (λ (k : ℕ). first.bits ++ row_bits (take k items)) count
        ∙ ap (λ (xs : List (List Chunk)). first.bits ++ row_bits xs) (take_all (length items) items (omega arith)) in
        ap (λ (k : ℕ). (first_length k).bits ++ row_bits items) (sym n) ∙ sym whole

    pub last_follow : many < 16384 → 0 < many → Advances push per_coding (general one) left old joined mid (Some many)
    unfolding per_coding per_ruling
    last_follow h some = (
      some,
      omega (arith, all h),
      λ items n. record {
        done = (first_length left).bits;
        pushed = e;
        rest = ap (λ (cs : List Chunk). (first_length left).bits ++ flat spelled cs) (joined_parts many items) ∙ last_there h items n;
      },
    )

    pub last_end : many ≡ 0 → Advances push per_coding (general one) left old joined mid None
    unfolding per_coding per_ruling
    last_end none =
        let h : many < 16384 = omega (arith, none) in
        let nothing : left ≡ 0 = sym (all h) ∙ none in
        (nothing, pushed_same push old mid (sym (append-nil (first_length left).bits) ∙ last_there h [] (sym nothing)) e)

    -- a fragment
    pub fragment_follows : 16384 ≤ many → Advances push per_coding (general one) left old (general one) mid (Some many)
    unfolding per_coding per_ruling
    fragment_follows h =
        let large : 16384 ≤ left = omega (arith, h, m, first_items left) in (
          omega (arith, h),
          omega (arith, m, first_items left),
          λ items n.
              (let first = first_length (length items) in
              let ends : nat_lt (length items) 16384 ≡ false = le-ltb (length items) 16384 (omega (arith, n, large)) in
              let count : many ≡ first.items = m ∙ ap (λ (k : ℕ). (first_length k).items) (sym n) in
              let whole : general_bits items ≡ first.bits ++ (row_bits (take many items) ++ general_bits (drop many items)) =
              general_first items
              ∙ ap (λ (b : Bool). first.bits ++ (row_bits (take first.items items) ++ after_items b (drop first.items items))) ends
              ∙ ap (λ (k : ℕ). first.bits ++ (row_bits (take k items) ++ general_bits (drop k items))) (sym count) in
              record {
                done = (first_length left).bits;
                pushed = e;
                rest =
                    ap (λ (l : List ℕ). (first_length left).bits ++ l) (flat-append spelled (joined (take many items)) (general one (drop many items)))
                    ∙ ap (λ (k : ℕ). (first_length k).bits ++ (row_bits (take many items) ++ general_bits (drop many items))) (sym n) ∙ sym whole;
              }),
        )
