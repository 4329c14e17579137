-- Bytes that a writer holds, where they are known, as they grow.
use Rattle.std.proofs.Common.{◌≡◌, ◌==◌, ◌&&◌, length, nat_lt, false, ◌+◌, ◌-◌, ◌^◌, ◌<◌, min, true, Result, arith, ℕ, List, [], ◌++◌, ◌∙◌, ap, refl, append_assoc, Some, None, Option}
use Rattle.std.proofs.Common.{rules}
use Rattle.std.proofs.lemmas.Grind.{common_steps}
use Rattle.std.proofs.lemmas.Bool.Decides.{nat_tests}
use Rattle.std.specs.Io.KnownBytes.{Appends, Keeps}
use Rattle.asn_rules.specs.Faults.{count_after, write_failed, Rose}

-- what is appended twice
pub appends_twice : (a b c : Option (List ℕ)) (x y : List ℕ) → Appends a b x → Appends b c y → Appends a c (x ++ y)
appends_twice None b c x y p q = tt
appends_twice (Some a) None c x y p q = absurd p
appends_twice (Some a) (Some b) None x y p q = absurd q
appends_twice (Some a) (Some b) (Some c) x y p q = q ∙ (ap (λ bs. bs ++ y) p ∙ append_assoc a x y)

-- what is kept has nothing appended
pub keeps_appends : (a b : Option (List ℕ)) → Keeps a b → Appends a b []
keeps_appends None b k = tt
keeps_appends (Some a) None k = absurd k
keeps_appends (Some a) (Some b) k = search (rules, common_steps)

pub appends_nothing : (a : Option (List ℕ)) → Appends a a []
appends_nothing None = tt
appends_nothing (Some a) = search (rules, common_steps)

pub appends_then_keeps : (a b c : Option (List ℕ)) (x : List ℕ) → Appends a b x → Keeps b c → Appends a c x
appends_then_keeps None b c x p k = tt
appends_then_keeps (Some a) None c x p k = absurd p
appends_then_keeps (Some a) (Some b) None x p k = absurd k
appends_then_keeps (Some a) (Some b) (Some c) x p k = k ∙ p

-- one more fault makes the count rise
pub rose_after : {E : Type 0} (r : Result ℕ E) (bytes : List ℕ) (old before new : ℕ) → before ≡ old → new ≡ count_after (write_failed r bytes) before → write_failed r bytes ≡ true → Rose old new
rose_after r bytes old before new same after fault =
    let one_more : new ≡ min (before + 1) (2 ^ 64 - 1) = after ∙ ap (λ b. count_after b before) fault in
    λ below. omega arith

-- a write that took nothing of what there was is a fault
pub failed_at_none : (n : ℕ) (bytes : List ℕ) → n ≡ 0 → 0 < length bytes → (n == 0) && nat_lt 0 (length bytes) ≡ true
failed_at_none n bytes z some = grind (arith, nat_tests)

-- a write that took something is none
pub same_at_some : (n : ℕ) (bytes : List ℕ) (old : ℕ) → (n ≡ 0 → ⊥) → count_after ((n == 0) && nat_lt 0 (length bytes)) old ≡ old
same_at_some n bytes old some = let none : (n == 0) ≡ false = grind (arith, nat_tests) in rw none refl
