-- The test of a DEFAULT finds exactly the values of types with two.
use Rattle.std.proofs.Common.{◌≡◌, ◌≢◌, ◌<◌, ◌⊎◌, ℕ, zero, suc, ℤ, pos, negsuc, ◌≤ℤ◌, Bool, true, false, not, ◌&&◌, ◌||◌, List, length, Option, Some, None, inl, inr, refl, sym, ◌∙◌, ap, subst, arith, T, nat_lt}
use Rattle.std.proofs.lemmas.Bool.{true≢false, and_parts, or_parts, not-true, ltb-true, ltb-false, lt-ltb, leb-true, le-leb}
use Rattle.std.specs.Int.RustNames.{int_le, int_lt}
use Rattle.std.specs.Int.Signed.{lt_z_no}
use Rattle.asn_values.specs.Datum.{Datum, truth, number, item}
use Rattle.asn_values.specs.Shape.{Range, boolean, null, integer, enumerated, bit_string, octet_string, restricted, utf8_string, sequence, sequence_of, choice, Label, closed_labels, marked_labels}
use Rattle.asn_values.specs.Fits.{Fits, FitsNumber, in_range, at_least, at_most, lowest_integer, highest_integer}
use Rattle.asn_values.specs.Profile.{empty_range, low_above_high, is_outside, good_default, lowest_of, highest_of}
use Rattle.asn_values.specs.Defaults.{MayBeDefault, DefaultsAreJudged}

-- ---- the order of numbers

le_self : (z : ℤ) → int_le z z ≡ true
le_self (pos n) = le-leb n n (omega arith)
le_self (negsuc n) = le-leb n n (omega arith)

below_itself : (z : ℤ) → int_lt z z ≡ true → ⊥
below_itself (pos n) e = omega (arith, ltb-true n n e)
below_itself (negsuc n) e = omega (arith, ltb-true n n e)

pub le_also : (x y z : ℤ) → int_le x y ≡ true → int_le y z ≡ true → int_le x z ≡ true
le_also (pos a) (pos b) (pos c) p q = le-leb a c (omega (arith, leb-true a b p, leb-true b c q))
le_also (pos a) (pos b) (negsuc c) p q = absurd (true≢false (sym q))
le_also (pos a) (negsuc b) z p q = absurd (true≢false (sym p))
le_also (negsuc a) y (pos c) p q = refl
le_also (negsuc a) (pos b) (negsuc c) p q = absurd (true≢false (sym q))
le_also (negsuc a) (negsuc b) (negsuc c) p q = le-leb c a (omega (arith, leb-true b a p, leb-true c b q))

le_both : (y z : ℤ) → int_le y z ≡ true → int_le z y ≡ true → y ≡ z
le_both (pos a) (pos b) p q = ap pos (omega (arith, leb-true a b p, leb-true b a q))
le_both (pos a) (negsuc b) p q = absurd (true≢false (sym p))
le_both (negsuc a) (pos b) p q = absurd (true≢false (sym q))
le_both (negsuc a) (negsuc b) p q = ap negsuc (omega (arith, leb-true b a p, leb-true a b q))

pub not_below : (x y : ℤ) → int_lt x y ≡ false → int_le y x ≡ true
not_below (pos a) (pos b) e = le-leb b a (ltb-false a b e)
not_below (pos a) (negsuc b) e = refl
not_below (negsuc a) (pos b) e = absurd (true≢false e)
not_below (negsuc a) (negsuc b) e = le-leb a b (ltb-false b a e)

pub le_not_below : (x y : ℤ) → int_le y x ≡ true → int_lt x y ≡ false
le_not_below (pos a) (pos b) e = go (nat_lt a b) refl
  where
    go : (t : Bool) → nat_lt a b ≡ t → t ≡ false
    go true f = absurd (omega (arith, ltb-true a b f, leb-true b a e))
    go false f = refl
le_not_below (pos a) (negsuc b) e = refl
le_not_below (negsuc a) (pos b) e = absurd (true≢false (sym e))
le_not_below (negsuc a) (negsuc b) e = go (nat_lt b a) refl
  where
    go : (t : Bool) → nat_lt b a ≡ t → t ≡ false
    go true f = absurd (omega (arith, ltb-true b a f, leb-true a b e))
    go false f = refl

below_le : (x y : ℤ) → int_lt x y ≡ true → int_le x y ≡ true
below_le (pos a) (pos b) e = le-leb a b (omega (arith, ltb-true a b e))
below_le (pos a) (negsuc b) e = absurd (true≢false (sym e))
below_le (negsuc a) (pos b) e = refl
below_le (negsuc a) (negsuc b) e = le-leb b a (omega (arith, ltb-true b a e))

number_decide : (y z : ℤ) → (y ≡ z) ⊎ (y ≢ z)
number_decide y z = go (int_le y z) (int_le z y) refl refl
  where
    go : (a b : Bool) → int_le y z ≡ a → int_le z y ≡ b → (y ≡ z) ⊎ (y ≢ z)
    go true true p q = inl (le_both y z p q)
    go false b p q = inr (λ e. true≢false (sym (subst (λ w. int_le y w ≡ true) e (le_self y)) ∙ p))
    go a false p q = inr (λ e. true≢false (sym (subst (λ w. int_le w y ≡ true) e (le_self y)) ∙ q))

-- ---- bounds

-- a number of the range, by its order alone
abbrev Between : Range → ℤ → Type 0
Between b z = (int_le (lowest_of b.low) z ≡ true) × (int_le z (highest_of b.high) ≡ true)

within : (low high : Option ℤ) (z : ℤ) → is_outside low ≡ false → is_outside high ≡ false → int_le (lowest_of low) z ≡ true → int_le z (highest_of high) ≡ true
    → (int_lt z lowest_integer ≡ false) × (int_lt highest_integer z ≡ false) × ((at_least low z && at_most high z) ≡ true)
within None None z ol oh p q = (le_not_below z lowest_integer p, le_not_below highest_integer z q, refl)
within (Some l) None z ol oh p q =
    (le_not_below z lowest_integer (le_also lowest_integer l z (not_below l lowest_integer (or_parts _ _ ol).0) p), le_not_below highest_integer z q, rw p refl)
within None (Some u) z ol oh p q =
    (le_not_below z lowest_integer p, le_not_below highest_integer z (le_also z u highest_integer q (not_below highest_integer u (or_parts _ _ oh).1)), q)
within (Some l) (Some u) z ol oh p q = (
  le_not_below z lowest_integer (le_also lowest_integer l z (not_below l lowest_integer (or_parts _ _ ol).0) p),
  le_not_below highest_integer z (le_also z u highest_integer q (not_below highest_integer u (or_parts _ _ oh).1)),
  rw (p, q) refl,
)

between : (low high : Option ℤ) (z : ℤ) → int_lt z lowest_integer ≡ false → int_lt highest_integer z ≡ false → (at_least low z && at_most high z) ≡ true
    → (int_le (lowest_of low) z ≡ true) × (int_le z (highest_of high) ≡ true)
between None None z p q r = (not_below z lowest_integer p, not_below highest_integer z q)
between (Some l) None z p q r = ((and_parts _ _ r).0, not_below highest_integer z q)
between None (Some u) z p q r = (not_below z lowest_integer p, r)
between (Some l) (Some u) z p q r = and_parts _ _ r

-- ---- INTEGER

outside : (z : ℤ) → int_lt z lowest_integer ≡ false → int_lt highest_integer z ≡ false → is_outside (Some z) ≡ false
outside z p q = rw (p, q) refl

not_less : (a b : ℤ) → int_lt a b ≡ false → b ≤ℤ a
not_less a b e = lt_z_no (subst (λ t. T (not t)) (sym e) tt)

pub le_true : (a b : ℤ) → a ≤ℤ b → int_le a b ≡ true
le_true a b h = from (int_le a b) h.le
  where
    from : (t : Bool) → T t → t ≡ true
    from true h = refl
    from false h = absurd h

order_of : (a b : ℤ) → b ≤ℤ a → int_lt a b ≡ false
order_of a b h = le_not_below a b (le_true b a h)

inside : (b : Range) → (m : b.extensible ≡ false) → is_outside b.low ≡ false → is_outside b.high ≡ false → (z : ℤ) → int_le (lowest_of b.low) z ≡ true → int_le z (highest_of b.high) ≡ true → FitsNumber b z
inside b m ol oh z p q =
    let w = within b.low b.high z ol oh p q in
    (not_less z lowest_integer w.0, not_less highest_integer z w.1, subst (λ x. (x || in_range b z) ≡ true) (sym m) w.2)

number_good : (b : Range) (z : ℤ) → empty_range (integer b) ≡ false → good_default (integer b) (number z) ≡ true → MayBeDefault (integer b) (number z)
number_good b z h g =
    let o = or_parts (is_outside b.low) (is_outside b.high) (or_parts (low_above_high b.low b.high) _ h).1 in
    let g1 = and_parts (not b.extensible) _ g in
    let g2 = and_parts (in_range b z) _ g1.1 in
    let g3 = and_parts (not (is_outside (Some z))) _ g2.1 in
    let m = not-true b.extensible g1.0 in
    let oz = or_parts (int_lt z lowest_integer) (int_lt highest_integer z) (not-true (is_outside (Some z)) g3.0) in
    let fits : FitsNumber b z = (not_less z lowest_integer oz.0, not_less highest_integer z oz.1, subst (λ x. (x || in_range b z) ≡ true) (sym m) g2.0) in
    let l = lowest_of b.low in
    let u = highest_of b.high in
    let lu = below_le l u g3.1 in (
      m,
      fits,
      elim (number_decide z l) [
        | inl e ↦ (number u, inside b m o.0 o.1 u lu (le_self u), λ f. (let zu : z ≡ u = cc f in below_itself u (subst (λ x. int_lt x u ≡ true) (sym e ∙ zu) g3.1)))
        | inr n ↦ (number l, inside b m o.0 o.1 l (le_self l) lu, λ f. (let zl : z ≡ l = cc f in n zl))
      ],
    )

another_number : (b : Range) (d : Datum) → Fits (integer b) d → (w : ℤ) × (d ≡ number w) × FitsNumber b w
another_number b (number w) f = (w, refl, f)
another_number b _ f = absurd f

number_bad : (b : Range) (z : ℤ) → MayBeDefault (integer b) (number z) → good_default (integer b) (number z) ≡ true
number_bad b z (m, fits, other) =
    let k = another_number b other.0 other.1 in
    let r : in_range b z ≡ true = subst (λ x. (x || in_range b z) ≡ true) m fits.2 in
    let rw_ : in_range b k.0 ≡ true = subst (λ x. (x || in_range b k.0) ≡ true) m k.2.2 in
    let pz = order_of z lowest_integer fits.0 in
    let qz = order_of highest_integer z fits.1 in
    let bz = between b.low b.high z pz qz r in
    let bk = between b.low b.high k.0 (order_of k.0 lowest_integer k.2.0) (order_of highest_integer k.0 k.2.1) rw_ in
    let differ : z ≢ k.0 = λ e. other.2 (ap number e ∙ sym k.1) in
    let two = two_numbers (lowest_of b.low) (highest_of b.high) z k.0 bz.0 bz.1 bk.0 bk.1 differ in
    let o = outside z pz qz in
    rw (m, r, o, two) refl
  where
    two_numbers : (l u y z : ℤ) → int_le l y ≡ true → int_le y u ≡ true → int_le l z ≡ true → int_le z u ≡ true → y ≢ z → int_lt l u ≡ true
    two_numbers l u y z a b c d n = go (int_lt l u) refl
      where
        go : (t : Bool) → int_lt l u ≡ t → t ≡ true
        go true e = refl
        go false e =
            let ul = not_below l u e in
            absurd (n (le_both y z (le_also y u z b (le_also u l z ul c)) (le_also z u y d (le_also u l y ul a))))

-- ---- ENUMERATED

item_good : (root : List Label) (p : ℕ) → good_default (enumerated root closed_labels) (item p) ≡ true → MayBeDefault (enumerated root closed_labels) (item p)
item_good root p g =
    let w = and_parts (nat_lt p (length root)) (nat_lt 1 (length root)) g in
    let here : p < length root = ltb-true p (length root) w.0 in
    let two : 1 < length root = ltb-true 1 (length root) w.1 in
    (tt, omega arith, go p two)
  where
    go : (p : ℕ) → 1 < length root → (e : Datum) × Fits (enumerated root closed_labels) e × (item p ≢ e)
    go zero two = (item 1, omega arith, λ f. (let e : ◌≡◌ {A = ℕ} 0 1 = cc f in omega arith))
    go (suc p) two = (item 0, omega arith, λ f. (let e : suc p ≡ 0 = cc f in omega arith))

another_item : (root : List Label) (d : Datum) → Fits (enumerated root closed_labels) d → (q : ℕ) × (d ≡ item q) × (q < length root)
another_item root (item q) f = (q, refl, omega arith)
another_item root _ f = absurd f

item_bad : (root : List Label) (p : ℕ) → MayBeDefault (enumerated root closed_labels) (item p) → good_default (enumerated root closed_labels) (item p) ≡ true
item_bad root p (m, fits, other) =
    let k = another_item root other.0 other.1 in
    let differ : p ≢ k.0 = λ e. other.2 (ap item e ∙ sym k.1) in
    let here : p < length root = omega arith in
    let there : k.0 < length root = k.2 in
    let a = lt-ltb p (length root) here in
    let b = lt-ltb 1 (length root) (omega arith) in
    rw (a, b) refl

-- ---- all

truth_other : (b : Bool) → truth b ≢ truth (not b)
truth_other true e = let f : true ≡ false = cc e in true≢false f
truth_other false e = let f : false ≡ true = cc e in true≢false (sym f)

no : {P : Type 0} → false ≡ true → P
no e = absurd (true≢false (sym e))

pub defaults_are_judged : DefaultsAreJudged
defaults_are_judged boolean (truth b) h = (λ g. (tt, tt, (truth (not b), tt, truth_other b)), λ m. refl)
defaults_are_judged boolean _ h = (λ g. no g, λ m. absurd m.1)
defaults_are_judged (integer b) (number z) h = (number_good b z h, number_bad b z)
defaults_are_judged (integer b) _ h = (λ g. no g, λ m. absurd m.1)
defaults_are_judged (enumerated root closed_labels) (item p) h = (item_good root p, item_bad root p)
defaults_are_judged (enumerated root closed_labels) _ h = (λ g. no g, λ m. absurd m.1)
defaults_are_judged (enumerated root (marked_labels ls)) (item p) h = (λ g. no g, λ m. absurd m.0)
defaults_are_judged (enumerated root (marked_labels ls)) _ h = (λ g. no g, λ m. absurd m.0)
defaults_are_judged null d h = (λ g. no g, λ m. absurd m.0)
defaults_are_judged (bit_string z) d h = (λ g. no g, λ m. absurd m.0)
defaults_are_judged (octet_string z) d h = (λ g. no g, λ m. absurd m.0)
defaults_are_judged (restricted k z) d h = (λ g. no g, λ m. absurd m.0)
defaults_are_judged utf8_string d h = (λ g. no g, λ m. absurd m.0)
defaults_are_judged (sequence root more) d h = (λ g. no g, λ m. absurd m.0)
defaults_are_judged (sequence_of t z) d h = (λ g. no g, λ m. absurd m.0)
defaults_are_judged (choice root more) d h = (λ g. no g, λ m. absurd m.0)
