-- What an output holds.
use Rattle.std.specs.Prelude.{ℕ, List, take, Option, Some, None}
use Rattle.std.specs.Borrow.{GName}
use Rattle.asn_rules.specs.Faults.{State, inner_of, faults_of}
use Rattle.asn_rules.specs.declared.counting.Counted.{Counted}

-- the octets that an output holds, where these are known, how many faults it answered, and the reference through which it
-- writes, where there is one
pub record Held : Type 0 where
  pub octets : Option (List ℕ)
  pub faults : ℕ
  pub through : Option GName

-- of a writer
abbrev pub held_by : {W : Type 0} → (W → Option (List ℕ)) → Counted W → Held
held_by contents c = record { octets = contents (inner_of c); faults = faults_of c; through = None }

-- of a slice of which the first octets are filled
abbrev pub held_in : GName → List ℕ → ℕ → ℕ → Held
held_in name octets count faults = record { octets = Some (take count octets); faults = faults; through = Some name }

-- without the reference
abbrev pub state_held : Held → State
state_held h = record { octets = h.octets; faults = h.faults }
