-- From the answers for one component of a SEQUENCE to those for all of them: what the reader of the components cites.
use Rattle.std.proofs.Common.{◌≡◌, ℕ, Bool, true, false, List, [], ◌∷◌, ◌++◌, length, Option, Some, refl, sym, subst, append_assoc}
use Rattle.asn_values.specs.Datum.{Datum}
use Rattle.asn_values.specs.Shape.{Shape, Demand, must, optional, default, Fields, field}
use Rattle.asn_values.specs.Profile.{InProfile}
use Rattle.asn_values.specs.Parts.{AreOfProfile}
use Rattle.asn_rules.specs.Chunks.{Chunk}
use Rattle.asn_rules.specs.Components.{bit_of, has_presence_bit}
use Rattle.asn_rules.specs.Live.{Fielding}
use Rattle.asn_rules.specs.Languages.{Spells, Inhabited, Map, Nothing, prepended}
use Rattle.asn_rules.specs.Parted.{SpellingsPart}
use Rattle.asn_rules.specs.Listed.{Spelt, Before, Listed, Entry, default_of, bitmap_length}
use Rattle.asn_rules.proofs.Live.Chunks.{FieldsPart}
use Rattle.asn_rules.proofs.Languages.Leads.{LeadsStops, Leads, leads_on, leads_map, leads_second, stops_first, stops_on}
use Rattle.asn_rules.proofs.Components.Listed.{spelt_lawful, listed_inhabited}
use Rattle.asn_rules.proofs.Languages.Parts.{map_lawful}
use Rattle.asn_rules.proofs.Languages.Standing.{StandsIn, stands_on, stands_map, stands_first, stands_second}
use Rattle.std.proofs.lemmas.Bool.{true≢false}

-- nothing is always read, and read at once
pub nothing_read : {A : Type 0} (R : Fielding) (a : A) (us : List ℕ) → Spells R (Nothing a) a us us
nothing_read R a us = record { chunks = []; spelt = record { same = refl; empty = refl }; contents = tt; split = refl }

-- where nothing is spelt the reader does not stop
nothing_stops : {A B : Type 0} {R : Fielding} {a : A} {L : B → List Chunk → Type 0} (us : List ℕ) → LeadsStops R (Nothing a) us L us
nothing_stops {R = R} {a = a} us = record { short = λ h. absurd (h.none a us (nothing_read R a us)); refused = λ n h. absurd (h.none a us (nothing_read R a us)) }

-- where nothing is spelt, nothing has been read
nothing_spelt : {A : Type 0} {R : Fielding} {a b : A} {us r : List ℕ} → Spells R (Nothing a) b us r → (b ≡ a) × (us ≡ r)
nothing_spelt {us = us} {r = r} h = let e : us ≡ r = rw h.spelt.empty at h.split in (h.spelt.same, e)

-- an entry tells its value
some_same : (v w : Datum) → Some v ≡ Some w → v ≡ w
some_same v w e = cc

module _ (code : Shape → Datum → List Chunk) (part : SpellingsPart code) (R : Fielding) (fields : FieldsPart R) where
  -- what a component and those after it are, told by the component's entry
  pub record Steps (demand : Demand) (t : Shape) (present : Bool) (M L : List (Option Datum) → List Chunk → Type 0) : Type 0 where
    pub stops : (us : List ℕ) → LeadsStops R (Entry code demand t present) us L us
    pub done : (e : Option Datum) (us r : List ℕ) → Spells R (Entry code demand t present) e us r → Leads R M r (λ es. e ∷ es) L us
    -- where the component is spelt it stands there, and after it those that follow
    pub first : present ≡ true → (us : List ℕ) → StandsIn R (Entry code demand t true) us L us
    pub rest : (e : Option Datum) (us r : List ℕ) → Spells R (Entry code demand t present) e us r → StandsIn R M r L us

  -- where the component is spelt
  spelt_steps : (demand : Demand) (t : Shape) (M : List (Option Datum) → List Chunk → Type 0) → InProfile t → Inhabited M → Steps demand t true M (Before (Spelt code (default_of demand) t) M)
  spelt_steps demand t M p some = record {
    stops = λ us. stops_on (stops_first R us (record { follow = λ a x h. some })) (leads_map R prepended _ us).stops;
    done = λ e us r h. leads_on (leads_second fields (map_lawful some_same (spelt_lawful code part (default_of demand) t p)) h) (leads_map R prepended _ us);
    first = λ e us. stands_on (stands_first R us (record { follow = λ a x h. some })) (stands_map R prepended _ us);
    rest = λ e us r h. stands_on (stands_second {M = λ _. M} h) (stands_map R prepended _ us);
  }

  -- where it is not
  absent_steps : (demand : Demand) (t : Shape) (M : List (Option Datum) → List Chunk → Type 0) → Steps demand t false M (Map (λ es. default_of demand ∷ es) M)
  absent_steps demand t M = record {
    stops = λ us. nothing_stops us;
    done = λ e us r h. (let w = nothing_spelt h in rw (w.0, sym w.1) (leads_map R (λ es. default_of demand ∷ es) M us));
    first = λ e us. absurd (true≢false (sym e));
    rest = λ e us r h. (let w = nothing_spelt h in rw (sym w.1) (stands_map R (λ es. default_of demand ∷ es) M us));
  }

  -- the first component has to be spelt
  pub steps_must : (name : List ℕ) (demand : Demand) (t : Shape) (fs : Fields) (bits : List ℕ) → has_presence_bit demand ≡ false → AreOfProfile (field name demand t fs) → length bits ≡ bitmap_length fs
      → Steps demand t true (Listed code fs bits) (Listed code (field name demand t fs) bits)
  steps_must name must t fs bits e h l = spelt_steps must t (Listed code fs bits) h.0 (listed_inhabited code fs bits h.2 l)
  steps_must name optional t fs bits e h l = absurd (cc)
  steps_must name (default d) t fs bits e h l = absurd (cc)

  -- it has a presence bit
  pub steps_bit : (name : List ℕ) (demand : Demand) (t : Shape) (fs : Fields) (present : Bool) (bits : List ℕ) → has_presence_bit demand ≡ true → AreOfProfile (field name demand t fs) → length bits ≡ bitmap_length fs
      → Steps demand t present (Listed code fs bits) (Listed code (field name demand t fs) (bit_of present ∷ bits))
  steps_bit name must t fs present bits e h l = absurd (cc)
  steps_bit name optional t fs true bits e h l = spelt_steps optional t (Listed code fs bits) h.0 (listed_inhabited code fs bits h.2 l)
  steps_bit name optional t fs false bits e h l = absent_steps optional t (Listed code fs bits)
  steps_bit name (default d) t fs true bits e h l = spelt_steps (default d) t (Listed code fs bits) h.0 (listed_inhabited code fs bits h.2 l)
  steps_bit name (default d) t fs false bits e h l = absent_steps (default d) t (Listed code fs bits)

-- one entry more in front of those that are left
pub leads_entry : {A : Type 0} {R : Fielding} {N M L : List A → List Chunk → Type 0} {ws vs us : List ℕ} (before : List A) (e : A) → Leads R N ws (λ es. e ∷ es) M vs → Leads R M vs (λ es. before ++ es) L us → Leads R N ws (λ es. (before ++ e ∷ []) ++ es) L us
leads_entry {R = R} {N} {M} {L} {ws} {vs} {us} before e p q = subst (λ f. Leads R N ws f L us) (λ i es. (sym (append_assoc before (e ∷ []) es)) i) (leads_on p q)
