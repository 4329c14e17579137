-- What a `Counted` counts.
use Rattle.std.specs.Prelude.{◌≡◌, ◌<◌, ℕ, ◌+◌, ◌-◌, ◌^◌, ◌==◌, ◌&&◌, min, Bool, true, false, List, ◌++◌, length, nat_lt, Ok, Err, Option, Result}
use Rattle.std.specs.Io.KnownBytes.{Appends}
use Rattle.asn_rules.specs.declared.counting.Counted.{Counted}

-- the reader or writer inside
abbrev pub inner_of : {T : Type 0} → Counted T → T
inner_of c = c.inner

-- how many faults it answered
abbrev pub faults_of : {T : Type 0} → Counted T → ℕ
faults_of c = c.faults

-- the count after an answer: one more at a fault, up to the greatest number of 64 bits
abbrev pub count_after : Bool → ℕ → ℕ
count_after true n = min (n + 1) (2 ^ 64 - 1)
count_after false n = n

-- the call failed
abbrev pub failed : {A E : Type 0} → Result A E → Bool
failed (Ok a) = false
failed (Err e) = true

-- a write failed, or took nothing of what there was
abbrev pub write_failed : {E : Type 0} → Result ℕ E → List ℕ → Bool
write_failed (Ok n) bytes = (n == 0) && nat_lt 0 (length bytes)
write_failed (Err e) bytes = true

-- the count rose; one that stood at its end is taken as risen
abbrev pub Rose : ℕ → ℕ → Type 0
Rose old new = old < 2 ^ 64 - 1 → old < new

-- what was added is a beginning of these bytes
abbrev pub IsBeginning : Option (List ℕ) → Option (List ℕ) → List ℕ → Type 0
IsBeginning old new bytes = (front rest : List ℕ) × Appends old new front × (front ++ rest ≡ bytes)

-- what a reader has left or a writer holds, where it is known, and the count
pub record State : Type 0 where
  pub octets : Option (List ℕ)
  pub faults : ℕ

abbrev pub state_of : {T : Type 0} → (T → Option (List ℕ)) → Counted T → State
state_of octets c = record { octets = octets (inner_of c); faults = faults_of c }
