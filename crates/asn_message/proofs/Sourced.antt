-- The leaves of the slots that are left, and the entries and elements that are still to be written.
use Rattle.std.proofs.Common.{◌≡◌, ◌≤◌, ◌+◌, ◌-◌, ℕ, zero, suc, List, [], ◌∷◌, ◌++◌, length, length-append, map, take, drop, Option, refl, sym, ap, subst, ◌∙◌, arith}
use Rattle.std.proofs.Math.Numerals.{add-one}
use Rattle.std.proofs.lemmas.List.{length-map, length-drop, drop-map, drop_all, take_all}
use Rattle.asn_values.specs.declared.value.Value.{Value}
use Rattle.asn_values.specs.Datum.{Datum, nothing, components, components_of, elements, elements_of}
use Rattle.asn_values.specs.View.{datum_of}
use Rattle.asn_plan.specs.Plans.{absents}
use Rattle.asn_message.specs.declared.left.Left.{Left}
use Rattle.asn_message.specs.declared.row.Row.{Row}
use Rattle.asn_message.specs.declared.slots.Content.{Content}
use Rattle.asn_message.specs.declared.slots.Content.TheVariants as content
use Rattle.asn_message.specs.declared.slots.Slot.{Slot}
use Rattle.asn_message.specs.Leaves.{AreLeaves, leaf_at}
use Rattle.asn_message.specs.Rows.{left_entries}
use Rattle.asn_message.specs.Slots.{values_of, value_at, IsCounted}
use Rattle.asn_message.specs.Sources.{entries_at}

-- there is one leaf more than slots
pub leaves_count : (os : List ℕ) (ss : List Slot) (vs : List Value) → AreLeaves os ss vs → length vs ≡ length ss + 1
leaves_count os ss vs h =
    sym (length-map vs datum_of) ∙ ap length h ∙ length-append (map (λ s. leaf_at os s.content) ss) (nothing ∷ [])
    ∙ ap (λ (n : ℕ). n + 1) (length-map ss (λ s. leaf_at os s.content))

-- the leaves after the first ones
drop_before : {A : Type 0} (n : ℕ) (xs ys : List A) → n ≤ length xs → drop n (xs ++ ys) ≡ drop n xs ++ ys
drop_before zero xs ys h = refl
drop_before (suc n) [] ys h = absurd (omega (arith, h))
drop_before (suc n) (x ∷ xs) ys h = drop_before n xs ys (omega (arith, h))

pub leaves_after : (os : List ℕ) (ss : List Slot) (vs : List Value) (n : ℕ) → n ≤ length ss → AreLeaves os ss vs
    → AreLeaves os (drop n ss) (drop n vs)
leaves_after os ss vs n few h =
    let leaves = map (λ (s : Slot). leaf_at os s.content) ss in
    sym (drop-map datum_of n vs) ∙ ap (drop n) h
    ∙ drop_before n leaves (nothing ∷ []) (omega (arith, few, length-map ss (λ (s : Slot). leaf_at os s.content)))
    ∙ ap (λ (ds : List Datum). ds ++ nothing ∷ []) (drop-map (λ (s : Slot). leaf_at os s.content) n ss)

-- those of the last slots
pub leaves_last : (os : List ℕ) (ss : List Slot) (vs : List Value) (n count : ℕ) → AreLeaves os ss vs → count ≡ length (drop n ss)
    → AreLeaves os (drop n ss) (drop (length vs - 1 - count) vs)
leaves_last os ss vs n count h is =
    let k = length ss - count in
    let long : count ≡ length ss - n = is ∙ length-drop n ss in
    let all = leaves_count os ss vs h in
    let passed : length vs - 1 - count ≡ k = omega (arith, all) in
    subst (λ (i : ℕ). AreLeaves os (drop n ss) (drop i vs)) (sym passed)
    (subst (λ (xs : List Slot). AreLeaves os xs (drop k vs)) (same ss n count long) (leaves_after os ss vs k (omega arith) h))
  where
    same : (ss : List Slot) (n count : ℕ) → count ≡ length ss - n → drop (length ss - count) ss ≡ drop n ss
    same [] zero count h = drop_all _ [] (omega arith)
    same [] (suc n) count h = drop_all _ [] (omega arith)
    same (s ∷ ss) zero count h =
        let none : length (s ∷ ss) - count ≡ 0 = omega (arith, h) in
        ap (λ (i : ℕ). drop i (s ∷ ss)) none
    same (s ∷ ss) (suc n) count h =
        let less : length (s ∷ ss) - count ≡ suc (length ss - (length ss - n)) = omega (arith, h) in
        ap (λ (i : ℕ). drop i (s ∷ ss)) less ∙ same ss n (length ss - n) refl

-- ---- entries and elements

-- the first of the entries, and those after it
pub others_there : (m n a : ℕ) (es others : List (Option Datum)) → (es ≡ [] → ⊥) → m ≡ n + 1 → others ≡ drop 1 es
    → take n (others ++ absents a) ≡ drop 1 (take m (es ++ absents a))
others_there m n a [] others some em eo = absurd (some refl)
others_there m n a (e ∷ es) others some em eo =
    let one : m ≡ suc n = omega (arith, em) in
    rw (one, eo) refl

-- one more that is passed
pub drop_one_more : {A : Type 0} (n : ℕ) (xs ys zs : List A) → ys ≡ drop n xs → zs ≡ drop 1 ys → zs ≡ drop (n + 1) xs
drop_one_more n xs ys zs e f = f ∙ ap (drop 1) e ∙ rw add-one (again n xs)
  where
    again : {A : Type 0} (n : ℕ) (xs : List A) → drop 1 (drop n xs) ≡ drop (suc n) xs
    again zero xs = refl
    again (suc n) [] = refl
    again (suc n) (x ∷ xs) = again n xs

-- ---- at the beginning, and at the end

-- the entries that are left, by their parts
pub left_same : (l : Left) (r : Row) (n b : ℕ) → l.row ≡ r → l.count ≡ n → l.absent ≡ b → left_entries l ≡ entries_at r n b
left_same l r n b er en eb = rw (← er, ← en, ← eb) refl

-- one more that is absent, after those in slots
pub absent_after : (m a b : ℕ) (es : List (Option Datum)) → es ≡ [] → (m ≡ 0 → ⊥) → b ≡ a - 1
    → take (m - 1) (es ++ absents b) ≡ drop 1 (take m (es ++ absents a))
absent_after zero a b es e some eb = absurd (some refl)
absent_after (suc m) zero b es e some eb =
    let less : suc m - 1 ≡ m = omega arith in
    let none : b ≡ 0 = omega (arith, eb) in
    rw (e, less, none) (none_taken m)
  where
    none_taken : (m : ℕ) → take {A = Option Datum} m [] ≡ []
    none_taken zero = refl
    none_taken (suc m) = refl
absent_after (suc m) (suc a) b es e some eb =
    let less : suc m - 1 ≡ m = omega arith in
    let one : b ≡ a = omega (arith, eb) in
    rw (e, less, one) refl

length-absents : (n : ℕ) → length (absents n) ≡ n
length-absents zero = refl
length-absents (suc n) = ap suc (length-absents n)

taken_few : (n : ℕ) (es : List (Option Datum)) → length (take n es) ≤ n
taken_few zero es = omega arith
taken_few (suc n) [] = omega arith
taken_few (suc n) (e ∷ es) = let h = taken_few n es in omega (arith, h)

-- all entries of a SEQUENCE, and all elements of a SEQUENCE OF
pub entries_whole : (os : List ℕ) (c : Content) (taken absent most : ℕ) (es ls : List (Option Datum)) (v : Datum) → c ≡ content.Sequence taken absent → v ≡ value_at os c es
    → ls ≡ take taken es → taken + absent ≤ most → v ≡ components (components_of (take most (ls ++ absents absent)))
entries_whole os c taken absent most es ls v ec ev el few =
    let long : length (ls ++ absents absent) ≤ most = omega (arith, length-append ls (absents absent), length-absents absent, ap length el, taken_few taken es) in
    rw (take_all most (ls ++ absents absent) long, ev, ec, el) refl

pub elements_whole : (os : List ℕ) (c : Content) (count most : ℕ) (es ls : List (Option Datum)) (v : Datum) → c ≡ content.List count → v ≡ value_at os c es → IsCounted c es
    → ls ≡ take count es → count ≤ most → v ≡ elements (elements_of (take most (values_of ls)))
elements_whole os c count most es ls v ec ev counted el few =
    let all : length (values_of (take count es)) ≡ count = rw ec at counted in
    let long : length (values_of ls) ≤ most = omega (arith, ap (λ (l : List (Option Datum)). length (values_of l)) el, all) in
    rw (take_all most (values_of ls) long, ev, ec, el) refl
