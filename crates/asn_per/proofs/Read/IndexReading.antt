-- Where the reader of an index of the root or of the additions stands, and what it cites at each exit.
use Rattle.std.proofs.Common.{◌≡◌, ◌<◌, ◌-◌, ◌^◌, inl, inr, ℕ, Bool, true, false, nat_lt, List, [], ◌∷◌, length, Option, Some, None, sym, ap, ◌∙◌, subst, arith}
use Rattle.std.proofs.lemmas.Bool.{ltb-false}
use Rattle.asn_bits.specs.Numbers.{width}
use Rattle.asn_bits.specs.Sets.{InSet, Meets}
use Rattle.asn_bits.specs.Sink.{bit_of}
use Rattle.asn_bits.proofs.Unions.{set_meets}
use Rattle.asn_bits.proofs.Widths.{width_fits}
use Rattle.asn_rules.specs.Chunks.{Chunk}
use Rattle.asn_rules.specs.Forks.{Fork}
use Rattle.asn_rules.specs.Languages.{Inhabited, Lawful, Plain, Short, Refused}
use Rattle.asn_rules.proofs.Languages.Exits.{leads_zero, leads_one}
use Rattle.asn_rules.proofs.Languages.Forks.{map_lawful_on, fork_lawful, fork_short, fork_refused, fork_inhabited_zero}
use Rattle.asn_rules.proofs.Languages.Leads.{Leads, leads_map, leads_same}
use Rattle.asn_rules.proofs.Numbers.Sets.{set_inhabited, set_lawful}
use Rattle.asn_per.specs.Indexes.{IndexesOf}
use Rattle.asn_per.specs.Kinds.{Below, SmallBelow}
use Rattle.asn_per.specs.Per.{per_fields}
use Rattle.asn_per.specs.Reading.{StopsAtMark}
use Rattle.asn_per.proofs.Types.SmallNumbers.{small_spelled, small_lawful}
use Rattle.asn_rules.specs.Stops.{Stops}
use Rattle.asn_rules.specs.declared.stop.Stop.{Stop}
use Rattle.asn_rules.specs.declared.stop.Stop.TheVariants as stop
use Rattle.asn_rules.specs.NumberSets.{Admits, up_to}
use Rattle.asn_rules.proofs.Plain.NumberSets.{same_set}
use Rattle.asn_per.proofs.Encodings.PerFields.{per_fields_part}

-- ---- numbers below a count

module _ (count : ℕ) (some : 0 < count) where
  -- a reader of the numbers up to the highest answers for those below the count
  pub below_leads : (k : ℕ) (us : List ℕ) → Leads per_fields (Plain (InSet k (λ n. Admits (up_to (count - 1) None) n))) us (λ n. n) (Below k count) us
  below_leads k us = leads_same per_fields us (same_set 2 k (λ n h. omega (arith, h.1)) (λ n h. (omega arith, omega arith, tt)))

  -- there is one
  pub some_below : (k : ℕ) → 0 < 2 ^ k → Meets (λ n. Admits (up_to (count - 1) None) n) 0 k
  some_below k room = set_meets 2 k 0 (omega arith, omega arith, tt) room

  -- so some index of the root is spelt
  pub below_inhabited : Inhabited (Below (width count) count)
  below_inhabited = set_inhabited (set_meets 2 (width count) 0 some (width_fits count 0 some))

-- ---- the extension bit

-- where its reader stops, if a 1 may stand there
pub fork_stops : {A B : Type 0} {X : A → List Chunk → Type 0} {Y : B → List Chunk → Type 0} → Inhabited X → (us : List ℕ) (why : Stop) → StopsAtMark true us why → Stops per_fields (Fork X Y) us why
fork_stops i us stop.Short h = rw h (record { told = fork_short (fork_inhabited_zero i) })
fork_stops i us (stop.Refused left why) h = absurd (let e = h.0 in cc)
fork_stops i us stop.Memory h = absurd h

-- ---- the index

-- two indexes are spelt alike only where they are one
pub indexes_lawful : (root : ℕ) (more : Option ℕ) → Lawful (IndexesOf root more)
indexes_lawful root None = map_lawful_on (λ a b x y p q e. cc) (set_lawful 2 (width root) (λ n. n < root))
indexes_lawful root (Some more) = fork_lawful (set_lawful 2 (width root) (λ n. n < root)) (small_lawful more)

module _ (root more : ℕ) (some : 0 < root) where
  -- no bit is left
  mark_wanted : Short per_fields (IndexesOf root (Some more)) []
  mark_wanted = fork_short (fork_inhabited_zero (below_inhabited root some))

  -- where there is no addition, a 1 is refused
  one_refused : more ≡ 0 → (us after : List ℕ) → us ≡ 1 ∷ after → Refused per_fields (IndexesOf root (Some more)) us (length after)
  one_refused none us after e =
      subst (λ (bs : List ℕ). Refused per_fields (IndexesOf root (Some more)) bs (length after)) (sym e)
      (fork_refused per_fields_part (fork_inhabited_zero (below_inhabited root some)) 1 after (λ f. absurd (omega arith)) (λ f i. absurd (omega (arith, none, ((small_spelled more (omega (arith, none))).to i.value i.chunks i.spelt).fits))))

  -- so stops the reader of the extension bit
  pub index_stops : (us : List ℕ) (why : Stop) → StopsAtMark (nat_lt 0 more) us why → Stops per_fields (IndexesOf root (Some more)) us why
  index_stops us stop.Short h = rw h (record { told = mark_wanted })
  index_stops us (stop.Refused left why) h = rw h.3 (record { told = one_refused (omega (arith, ltb-false 0 more h.0)) us h.1 h.2 })
  index_stops us stop.Memory h = absurd h

-- without a mark the index is one of the root
pub root_leads : (root : ℕ) (us : List ℕ) → Leads per_fields (Below (width root) root) us inl (IndexesOf root None) us
root_leads root us = leads_map per_fields inl (Below (width root) root) us

-- where the extension bit is 0, so it is with a mark
pub zero_leads : (root more : ℕ) (us after : List ℕ) (b : Bool) → us ≡ bit_of b ∷ after → b ≡ false → Leads per_fields (Below (width root) root) after inl (IndexesOf root (Some more)) us
zero_leads root more us after b e f = leads_zero per_fields (e ∙ ap (λ (x : Bool). bit_of x ∷ after) f)

-- and after a 1 stands the index of an addition
pub one_leads : (root more : ℕ) (us after : List ℕ) (b : Bool) → us ≡ bit_of b ∷ after → b ≡ true → Leads per_fields (SmallBelow more) after inr (IndexesOf root (Some more)) us
one_leads root more us after b e f = leads_one per_fields (e ∙ ap (λ (x : Bool). bit_of x ∷ after) f)
