-- Entries that are passed, one after the other.
use Rattle.std.proofs.Common.{◌≡◌, ◌≤◌, ◌+◌, ℕ, zero, suc, List, [], ◌∷◌, ◌++◌, take, drop, Option, Some, None, refl, arith}
use Rattle.std.proofs.Math.Numerals.{add-one}
use Rattle.asn_values.specs.Datum.{Datum}
use Rattle.asn_view.specs.Typed.{first_entry}
use Rattle.asn_plan.specs.Plans.{absents}
use Rattle.asn_message.specs.Rows.{first_of_values}
use Rattle.asn_message.specs.Slots.{values_of}

-- ---- entries

-- one of those that are absent before the next value
pub absent_passed : (n a : ℕ) (xs : List (Option Datum)) (count absent : ℕ) → count ≡ n + 1 → absent ≡ a + 1
    → (None ≡ first_entry (take count (absents absent ++ xs))) × (take n (absents a ++ xs) ≡ drop 1 (take count (absents absent ++ xs)))
absent_passed n a xs count absent c b = rw (c, b, add-one, add-one) (refl, refl)

-- the next value
pub value_passed : (n : ℕ) (v : Datum) (xs : List (Option Datum)) (count absent : ℕ) → count ≡ n + 1 → absent ≡ 0
    → (Some v ≡ first_entry (take count (absents absent ++ (Some v ∷ xs)))) × (take n xs ≡ drop 1 (take count (absents absent ++ (Some v ∷ xs))))
value_passed n v xs count absent c b = rw (c, b, add-one) (refl, refl)

none_of_none : (n : ℕ) → take {A = Option Datum} n [] ≡ []
none_of_none zero = refl
none_of_none (suc n) = refl

-- no entry is left
pub none_passed : (xs : List (Option Datum)) (count : ℕ) → count ≡ 0
    → (None ≡ first_entry (take count xs)) × (take count xs ≡ drop 1 (take count xs))
none_passed xs count c = rw c (refl, refl)

pub none_there : (count absent : ℕ) → absent ≡ 0
    → (None ≡ first_entry (take count (absents absent ++ []))) × (take count (absents absent ++ []) ≡ drop 1 (take count (absents absent ++ [])))
none_there count absent b = rw (b, none_of_none count) (refl, refl)

-- ---- values

no_value : (count absent : ℕ) (xs : List (Option Datum)) → count ≤ absent → values_of (take count (absents absent ++ xs)) ≡ []
no_value zero absent xs h = refl
no_value (suc n) zero xs h = absurd (omega arith)
no_value (suc n) (suc a) xs h = no_value n a xs (omega arith)

no_slot : (count absent : ℕ) → values_of (take count (absents absent ++ [])) ≡ []
no_slot zero absent = refl
no_slot (suc n) zero = refl
no_slot (suc n) (suc a) = no_slot n a

pub no_value_passed : (count absent : ℕ) (xs : List (Option Datum)) → count ≤ absent
    → (None ≡ first_of_values (values_of (take count (absents absent ++ xs)))) × (values_of (take count (absents absent ++ xs)) ≡ drop 1 (values_of (take count (absents absent ++ xs))))
no_value_passed count absent xs h = rw (no_value count absent xs h) (refl, refl)

pub no_slot_passed : (count absent : ℕ) (xs : List (Option Datum)) → xs ≡ []
    → (None ≡ first_of_values (values_of (take count (absents absent ++ xs)))) × (values_of (take count (absents absent ++ xs)) ≡ drop 1 (values_of (take count (absents absent ++ xs))))
no_slot_passed count absent xs e = rw (e, no_slot count absent) (refl, refl)

next_among : (n absent : ℕ) (v : Datum) (xs : List (Option Datum)) (count : ℕ) → count ≡ n + absent + 1
    → values_of (take count (absents absent ++ (Some v ∷ xs))) ≡ v ∷ values_of (take n xs)
next_among n zero v xs count h = (let e : count ≡ suc n = omega (arith, h) in rw e refl)
next_among n (suc a) v xs count h = (let e : count ≡ suc (n + a + 1) = omega (arith, h) in rw e (next_among n a v xs (n + a + 1) refl))

pub next_value_passed : (n : ℕ) (v : Datum) (xs ys : List (Option Datum)) (count absent : ℕ) → count ≡ n + absent + 1
    → ys ≡ Some v ∷ xs
    → (Some v ≡ first_of_values (values_of (take count (absents absent ++ ys)))) × (values_of (take n xs) ≡ drop 1 (values_of (take count (absents absent ++ ys))))
next_value_passed n v xs ys count absent h e = rw (e, next_among n absent v xs count h) (refl, refl)
