-- Where the reader of an item that the type may not have stands.
use Rattle.std.proofs.Common.{◌≡◌, inl, inr, ⊎_elim, ℕ, ℤ, List, [], None, refl, sym, subst}
use Rattle.asn_values.specs.Datum.{Datum, unknown_item}
use Rattle.asn_values.specs.Shape.{Shape, Label, enumerated, marked_labels}
use Rattle.asn_rules.specs.Chunks.{Chunk}
use Rattle.asn_rules.specs.Stops.{Stops}
use Rattle.asn_rules.specs.declared.fault.Why.{Why}
use Rattle.asn_rules.specs.declared.stop.Stop.{Stop}
use Rattle.asn_rules.specs.declared.stop.Stop.TheVariants as stop
use Rattle.asn_rules.proofs.Live.Chunks.{FieldsPart}
use Rattle.asn_walk.specs.Coding.{Coding}
use Rattle.asn_rules.specs.Languages.{Spells, NoSpelling}
use Rattle.asn_rules.specs.Listed.{Spelt}
use Rattle.asn_newer.specs.Loose.{LooseCoding, AnyItem}
use Rattle.asn_newer.specs.Walking.{UnknownItem}
use Rattle.asn_newer.specs.Halting.{NoBeginning, Halts, halt_before_end}
use Rattle.asn_newer.specs.declared.halt.Halt.{Halt}
use Rattle.asn_newer.specs.declared.halt.Halt.TheVariants as halt
use Rattle.asn_newer.proofs.Walk.Halts.{none_yet, refused_begins}

module _ (l : LooseCoding) (root additions : List Label) (t : Shape) (is : t ≡ enumerated root (marked_labels additions)) where
  -- one that it has
  pub known_item : (v : Datum) (us r : List ℕ) → Spells l.coding.ruling.fielding (Spelt l.coding.code None t) v us r → Spells l.coding.ruling.fielding (AnyItem l root additions) (v, []) us r
  known_item v us r h =
      let k : Spells l.coding.ruling.fielding (Spelt l.coding.code None (enumerated root (marked_labels additions))) v us r = subst (λ (x : Shape). Spells l.coding.ruling.fielding (Spelt l.coding.code None x) v us r) is h in
      record { chunks = k.chunks; spelt = inl (record { source = v; spelt = k.spelt; seen = refl }); contents = k.contents; split = k.split }

  -- neither
  pub no_item : (us : List ℕ) → NoSpelling l.coding.ruling.fielding (Spelt l.coding.code None t) us → NoSpelling l.coding.ruling.fielding (UnknownItem l root additions) us → NoSpelling l.coding.ruling.fielding (AnyItem l root additions) us
  no_item us n m v r h = ⊎_elim
      (λ k. n k.source r (subst (λ (x : Shape). Spells l.coding.ruling.fielding (Spelt l.coding.code None x) k.source us r) (sym is) (record { chunks = h.chunks; spelt = k.spelt; contents = h.contents; split = h.split })))
      (λ k. m k.source r (record { chunks = h.chunks; spelt = k.spelt; contents = h.contents; split = h.split }))
      h.spelt

-- one that it has not
pub unknown_read : (l : LooseCoding) (root additions : List Label) (z : ℤ) (us r : List ℕ) → Spells l.coding.ruling.fielding (UnknownItem l root additions) z us r → Spells l.coding.ruling.fielding (AnyItem l root additions) (unknown_item z, []) us r
unknown_read l root additions z us r k = record { chunks = k.chunks; spelt = inr (record { source = z; spelt = k.spelt; seen = refl }); contents = k.contents; split = k.split }

-- where the reader of those that it has stops at the same units
pub none_of_short : {V : Type 0} (c : Coding) (L : V → List Chunk → Type 0) (us vs : List ℕ) (why : Stop) → Stops c.ruling.fielding L vs why → why ≡ stop.Short → vs ≡ us → NoSpelling c.ruling.fielding L us
none_of_short c L us vs why s e f =
    let h : Stops c.ruling.fielding L us stop.Short = subst (λ (l : List ℕ). Stops c.ruling.fielding L l stop.Short) f (subst (λ (w : Stop). Stops c.ruling.fielding L vs w) e s) in
    h.told.none

pub none_of_refused : {V : Type 0} (c : Coding) (L : V → List Chunk → Type 0) (us vs : List ℕ) (why : Stop) {left : ℕ} {reason : Why} → FieldsPart c.ruling.fielding → Stops c.ruling.fielding L vs why → why ≡ stop.Refused left reason → vs ≡ us → NoBeginning c.ruling.fielding L us
none_of_refused c L us vs why {left} {reason} part s e f =
    let h : Stops c.ruling.fielding L us (stop.Refused left reason) = subst (λ (l : List ℕ). Stops c.ruling.fielding L l (stop.Refused left reason)) f (subst (λ (w : Stop). Stops c.ruling.fielding L vs w) e s) in
    refused_begins part h.told

-- what is told of an item that the type has not, where one that it has may follow
pub before_end : {A B : Type 0} {c : Coding} {M : B → List Chunk → Type 0} {L : A → List Chunk → Type 0} {us : List ℕ} (why : Halt)
    → (NoSpelling c.ruling.fielding M us → NoSpelling c.ruling.fielding L us) → Halts c M us why → Halts c L us (halt_before_end why)
before_end halt.Refused f h = record { told = f (none_yet h.told) }
before_end halt.Short f h = record { told = f h.told }
before_end halt.TooMany f h = record { told = f (none_yet h.told) }
before_end halt.Memory f h = record { told = tt }
