-- From the answer of a part to the answer of the whole: what a reader cites at each exit.
use Rattle.std.proofs.Common.{ℕ, List}
use Rattle.asn_rules.specs.Chunks.{Chunk}
use Rattle.asn_rules.specs.Live.{Fielding}
use Rattle.asn_rules.specs.Languages.{Spells, Short, Refused, Lawful, Then, Map}
use Rattle.asn_rules.specs.Forks.{Same}
use Rattle.asn_rules.specs.Stops.{Stops}
use Rattle.asn_rules.specs.declared.stop.Stop.{Stop}
use Rattle.asn_rules.specs.declared.stop.Stop.TheVariants as stop
use Rattle.asn_rules.proofs.Live.Chunks.{FieldsPart}
use Rattle.asn_rules.proofs.Languages.Then.{Follows, then_spells, then_short_first, then_short_second, then_refused_first, then_refused_second}
use Rattle.asn_rules.proofs.Languages.Parts.{map_spells, map_short, map_refused}
use Rattle.asn_rules.proofs.Languages.Forks.{same_spells, same_short, same_refused}

-- where a reader of M stops at vs, one of L stops at us, in the same way
pub record LeadsStops {A B : Type 0} (R : Fielding) (M : B → List Chunk → Type 0) (vs : List ℕ) (L : A → List Chunk → Type 0) (us : List ℕ) : Type 0 where
  pub short : Short R M vs → Short R L us
  pub refused : (n : ℕ) → Refused R M vs n → Refused R L us n

-- and where it gives b, the one of L gives f b
pub record Leads {A B : Type 0} (R : Fielding) (M : B → List Chunk → Type 0) (vs : List ℕ) (f : B → A) (L : A → List Chunk → Type 0) (us : List ℕ) : Type 0 where
  pub done : (b : B) (r : List ℕ) → Spells R M b vs r → Spells R L (f b) us r
  pub stops : LeadsStops R M vs L us

pub leads_here : {A : Type 0} (R : Fielding) (L : A → List Chunk → Type 0) (us : List ℕ) → Leads R L us (λ a. a) L us
leads_here R L us = record { done = λ b r h. h; stops = record { short = λ h. h; refused = λ n h. h } }

pub stops_on : {A B C : Type 0} {R : Fielding} {N : C → List Chunk → Type 0} {ws : List ℕ} {M : B → List Chunk → Type 0} {vs : List ℕ} {L : A → List Chunk → Type 0} {us : List ℕ}
    → LeadsStops R N ws M vs → LeadsStops R M vs L us → LeadsStops R N ws L us
stops_on p q = record { short = λ h. q.short (p.short h); refused = λ n h. q.refused n (p.refused n h) }

pub leads_on : {A B C : Type 0} {R : Fielding} {N : C → List Chunk → Type 0} {ws : List ℕ} {g : C → B} {M : B → List Chunk → Type 0} {vs : List ℕ} {f : B → A} {L : A → List Chunk → Type 0} {us : List ℕ}
    → Leads R N ws g M vs → Leads R M vs f L us → Leads R N ws (λ c. f (g c)) L us
leads_on {g = g} p q = record { done = λ c r h. q.done (g c) r (p.done c r h); stops = stops_on p.stops q.stops }

-- under another view of the values
pub leads_map : {A B : Type 0} (R : Fielding) (f : B → A) (L : B → List Chunk → Type 0) (us : List ℕ) → Leads R L us f (Map f L) us
leads_map R f L us = record { done = λ b r h. map_spells h; stops = record { short = λ h. map_short h; refused = λ n h. map_refused h } }

-- the first of two
pub stops_first : {A B : Type 0} (R : Fielding) {L : A → List Chunk → Type 0} {M : A → B → List Chunk → Type 0} (us : List ℕ) → Follows L M → LeadsStops R L us (Then L M) us
stops_first R us f = record { short = λ h. then_short_first f h; refused = λ n h. then_refused_first f h }

-- the second of two, after a value of the first
pub leads_second : {A B : Type 0} {R : Fielding} {L : A → List Chunk → Type 0} {M : A → B → List Chunk → Type 0} {a : A} {us r : List ℕ} → FieldsPart R → Lawful L → Spells R L a us r
    → Leads R (M a) r (λ b. (a, b)) (Then L M) us
leads_second p l h = record {
  done = λ b s k. then_spells h k;
  stops = record { short = λ k. then_short_second p l h k; refused = λ n k. then_refused_second p l h k };
}

-- a language of the same spellings
pub leads_same : {A : Type 0} (R : Fielding) {M L : A → List Chunk → Type 0} (us : List ℕ) → Same M L → Leads R M us (λ a. a) L us
leads_same R us s = record { done = λ b r h. same_spells s h; stops = record { short = λ h. same_short s h; refused = λ n h. same_refused s h } }

-- a reader's own answer
pub stops_by : {A B : Type 0} {R : Fielding} {M : B → List Chunk → Type 0} {vs : List ℕ} {L : A → List Chunk → Type 0} {us : List ℕ} (why : Stop) → LeadsStops R M vs L us → Stops R M vs why → Stops R L us why
stops_by (stop.Refused left w) l h = record { told = l.refused left h.told }
stops_by stop.Short l h = record { told = l.short h.told }
stops_by stop.Memory l h = record { told = tt }
