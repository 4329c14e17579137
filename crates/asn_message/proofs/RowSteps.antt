-- Slots that are passed, one value after the other.
use Rattle.std.proofs.Common.{◌≡◌, ◌<◌, ◌-◌, ℕ, zero, suc, List, [], ◌∷◌, length, take, drop, Some, refl, sym, subst, arith}
use Rattle.std.proofs.lemmas.List.{take_all, length-drop}
use Rattle.asn_message.specs.declared.slots.Slot.{Slot}
use Rattle.asn_message.specs.Slots.{entries_after, entries_from, value_in, AreNested}

nested_drop : (os : List ℕ) (ss : List Slot) (n : ℕ) → AreNested os [] ss → AreNested os [] (drop n ss)
nested_drop os ss zero h = h
nested_drop os [] (suc n) h = tt
nested_drop os (s ∷ ss) (suc n) h = nested_drop os ss n h.1.1.1

-- what is said of the slots after the first one
pub inside_nested : (os : List ℕ) (ss : List Slot) (x : Slot) (xs : List Slot) → ss ≡ x ∷ xs → AreNested os [] ss
    → AreNested os [] xs
inside_nested os ss x xs e h = (subst (λ (l : List Slot). AreNested os [] l) e h).1.1.1

-- and of those after the first value
pub rest_of : {A : Type 0} (n : ℕ) (xs : List A) → take (length xs - n) (drop n xs) ≡ drop n xs
rest_of n xs = take_all (length xs - n) (drop n xs) (omega (arith, length-drop n xs))

pub after_nested : (os : List ℕ) (ss : List Slot) (x : Slot) (xs : List Slot) → ss ≡ x ∷ xs → AreNested os [] ss
    → AreNested os [] (take (length xs - x.inside) (drop x.inside xs))
after_nested os ss x xs e h =
    subst (λ (l : List Slot). AreNested os [] l) (sym (rest_of x.inside xs)) (nested_drop os xs x.inside (inside_nested os ss x xs e h))

-- the entries begin with the first value
pub first_entry_from : (os : List ℕ) (ss : List Slot) → 0 < length ss → entries_from os ss ≡ Some (value_in os ss) ∷ entries_after os ss
first_entry_from os [] h = absurd (omega arith)
first_entry_from os (s ∷ ss) h = refl

pub no_entry_from : (os : List ℕ) (ss : List Slot) → length ss ≡ 0 → entries_from os ss ≡ []
no_entry_from os [] h = refl
no_entry_from os (s ∷ ss) h = absurd (omega arith)
