-- An element of a list waits, without a node of its own, for its first unit, or as a row of numbers for its others.
use Rattle.std.proofs.Common.{◌≡◌, List, [], ◌∷◌, ◌++◌, ℕ, length, length-append, None, Result, Ok, Err, inl, inr, refl, sym, ap, subst, ◌∙◌, arith}
use Rattle.std.specs.Prelude.{IfErr}
use Rattle.asn_values.specs.Datum.{Datum}
use Rattle.asn_values.specs.Profile.{InProfile}
use Rattle.asn_values.specs.Shape.{Shape, SizeRange, sequence_of}
use Rattle.asn_values.proofs.InnerTypes.{element_of_profile}
use Rattle.asn_rules.specs.Chunks.{flat}
use Rattle.asn_rules.specs.Languages.{Spells}
use Rattle.asn_rules.specs.Listed.{Spelt}
use Rattle.asn_rules.specs.Stops.{Stops}
use Rattle.asn_rules.specs.declared.stop.Stop.{Stop}
use Rattle.asn_rules.specs.declared.stop.Stop.TheVariants as stop
use Rattle.asn_rules.proofs.Components.Listed.{spelt_inhabited}
use Rattle.asn_walk.specs.Ahead.{Ahead}
use Rattle.asn_walk.specs.Coding.{Coding}
use Rattle.asn_walk.specs.Laws.{Laws}
use Rattle.asn_walk_feed.specs.Feeding.{FeedLaws, Waits}
use Rattle.asn_walk_feed.specs.Holding.{HoldLaws}
use Rattle.asn_walk_feed.specs.OpenFields.{FieldCoding}
use Rattle.asn_walk_feed.specs.Small.{IsSmall}
use Rattle.asn_walk_feed.specs.Taken.{Took, ElementTook, KeepsFrames, KeepsElement, ReadsOn, StopsOn, KeepsOn, ReadsOneElementOn, StopsOneElementOn, KeepsElementOn}
use Rattle.asn_walk_feed.specs.declared.frame.Frame.{Frame}
use Rattle.asn_walk_feed.proofs.Cells.{element_units}

-- nothing is two parts of nothing
first_none : (us vs : List ℕ) → us ++ vs ≡ [] → us ≡ []
first_none [] vs e = refl
first_none (u ∷ us) vs e = absurd cc

module _ {F : Type 0} (c : Coding) (feeds : FeedLaws c) (fc : FieldCoding) (ahead : F → Ahead) (between : F → Type 0) (t : Shape) where
  -- no unit waits, so the nodes tell which have come
  pub nodes_took : (b : List ℕ) (fs : List (Frame F)) (us : List ℕ) → b ≡ [] → ElementTook c fc ahead between b fs t us → Took c fc ahead between fs t us × (us ≡ [] → fs ≡ [])
  nodes_took b fs us e (inl x) = x.1
  nodes_took b fs us e (inr x) =
      let none : us ≡ [] = sym x.1.1.come ∙ ap c.to_units e ∙ feeds.none in
      (rw x.0 none, λ n. x.0)

  -- some wait
  pub waits_took : (b : List ℕ) (fs : List (Frame F)) (us : List ℕ) → (b ≡ [] → ⊥) → ElementTook c fc ahead between b fs t us → (fs ≡ []) × (IsSmall t × Waits c (Spelt c.code None t) b us)
  waits_took b fs us n (inl x) = absurd (n x.0)
  waits_took b fs us n (inr x) = x

module _ {F : Type 0} (c : Coding) (laws : Laws c) (feeds : FeedLaws c) (fc : FieldCoding) (hold : HoldLaws c fc) (ahead : F → Ahead) (between : F → Type 0) (t : Shape) (s : SizeRange) (good : InProfile (sequence_of t s)) where
  -- no unit of it has come, and some are wanted
  none_stops : (us : List ℕ) → us ≡ [] → Stops c.ruling.fielding (Spelt c.code None t) us stop.Short
  none_stops us e =
      let i = spelt_inhabited c.code t (element_of_profile t s good) in
      rw e (record { told = record { live = record { value = i.value; chunks = i.chunks; spelt = i.spelt; front = tt }; none = none } })
    where
      none : (v : Datum) (r : List ℕ) → Spells c.ruling.fielding (Spelt c.code None t) v [] r → ⊥
      none v r x =
          let units = element_units c laws fc hold t s good v x.chunks x.spelt in
          let l = ap length x.split ∙ length-append (flat c.ruling.fielding.spelled x.chunks) r in
          absurd (omega (arith, units, l))

  pub to_come_stops : (b : List ℕ) (fs : List (Frame F)) (old : List ℕ) → b ≡ [] → fs ≡ [] → c.to_units old ≡ [] → StopsOneElementOn c fc ahead between b fs t old stop.Short
  to_come_stops b fs old n e z us h =
      let none : us ≡ [] = rw e at (nodes_took c feeds fc ahead between t b fs us n h).0 in
      none_stops (us ++ c.to_units old) (ap (λ (l : List ℕ). l ++ c.to_units old) none ∙ z)

  pub to_come_kept : (b : List ℕ) (fs : List (Frame F)) (b' : List ℕ) (gs : List (Frame F)) (old : List ℕ) → b ≡ [] → fs ≡ [] → b' ≡ [] → gs ≡ [] → c.to_units old ≡ []
      → KeepsElementOn c fc ahead between b fs b' gs t old stop.Short
  to_come_kept b fs b' gs old n e n' g z us h =
      let none : us ≡ [] = rw e at (nodes_took c feeds fc ahead between t b fs us n h).0 in
      let all : us ++ c.to_units old ≡ [] = ap (λ (l : List ℕ). l ++ c.to_units old) none ∙ z in
      inl (n', (rw g all, λ x. g))

module _ {F : Type 0} (c : Coding) (feeds : FeedLaws c) (fc : FieldCoding) (ahead : F → Ahead) (between : F → Type 0) (t : Shape) (b : List ℕ) (fs : List (Frame F)) (old : List ℕ) where
  -- ---- where the nodes tell which units have come

  pub reads_nodes : (v : Datum) (new : List ℕ) → b ≡ [] → ReadsOn c fc ahead between fs t v old new → ReadsOneElementOn c fc ahead between b fs t v old new
  reads_nodes v new n r us h = r us (nodes_took c feeds fc ahead between t b fs us n h).0

  pub stops_nodes : (why : Stop) → b ≡ [] → StopsOn c fc ahead between fs t old why → StopsOneElementOn c fc ahead between b fs t old why
  stops_nodes why n r us h = r us (nodes_took c feeds fc ahead between t b fs us n h).0

  -- where some unit had come, or comes now
  pub element_kept : (b' : List ℕ) (gs : List (Frame F)) (why : Stop) → b ≡ [] → b' ≡ []
      → (fs ≡ [] → c.to_units old ≡ [] → ⊥) → KeepsOn c fc ahead between fs gs t old why → KeepsElementOn c fc ahead between b fs b' gs t old why
  element_kept b' gs why n n' some k us h = go why (k us took.0)
    where
      took : Took c fc ahead between fs t us × (us ≡ [] → fs ≡ [])
      took = nodes_took c feeds fc ahead between t b fs us n h

      go : (w : Stop) → KeepsFrames c fc ahead between gs t (us ++ c.to_units old) w → KeepsElement c fc ahead between b' gs t (us ++ c.to_units old) w
      go (stop.Refused left why) x = tt
      go stop.Memory x = tt
      go stop.Short x = inl (n', (x, begun))
        where
          begun : us ++ c.to_units old ≡ [] → gs ≡ []
          begun e =
              let none : us ≡ [] = first_none us (c.to_units old) e in
              let rest : c.to_units old ≡ [] = ap (λ (l : List ℕ). l ++ c.to_units old) (sym none) ∙ e in
              absurd (some (took.1 none) rest)

  -- ---- where they wait

  -- some do, or none has come and no node has begun
  pub row_come : (us : List ℕ) → (b ≡ [] → fs ≡ []) → ElementTook c fc ahead between b fs t us → c.to_units b ≡ us
  row_come us g (inl x) =
      let took : us ≡ [] = rw (g x.0) at x.1.0 in
      ap c.to_units x.0 ∙ feeds.none ∙ sym took
  row_come us g (inr x) = x.1.1.come

  pub reads_row : (v : Datum) (new : List ℕ) → (b ≡ [] → fs ≡ []) → Spells c.ruling.fielding (Spelt c.code None t) v (c.to_units b ++ c.to_units old) (c.to_units new)
      → ReadsOneElementOn c fc ahead between b fs t v old new
  reads_row v new g r us h = subst (λ (l : List ℕ). Spells c.ruling.fielding (Spelt c.code None t) v (l ++ c.to_units old) (c.to_units new)) (row_come us g h) r

  pub stops_row : (why : Stop) → (b ≡ [] → fs ≡ []) → Stops c.ruling.fielding (Spelt c.code None t) (c.to_units b ++ c.to_units old) why
      → StopsOneElementOn c fc ahead between b fs t old why
  stops_row why g r us h = subst (λ (l : List ℕ). Stops c.ruling.fielding (Spelt c.code None t) (l ++ c.to_units old) why) (row_come us g h) r

  pub row_kept : {V : Type 0} (r : Result V Stop) (b' : List ℕ) (gs : List (Frame F)) → (b ≡ [] → fs ≡ []) → gs ≡ [] → IsSmall t
      → (r ≡ Err stop.Short → Waits c (Spelt c.code None t) b' (c.to_units b ++ c.to_units old))
      → IfErr r (λ why. KeepsElementOn c fc ahead between b fs b' gs t old why)
  row_kept (Ok v) b' gs g e s w = tt
  row_kept (Err (stop.Refused left why)) b' gs g e s w = λ us h. tt
  row_kept (Err stop.Memory) b' gs g e s w = λ us h. tt
  row_kept (Err stop.Short) b' gs g e s w = λ us h. inr (e, (s, subst (λ (l : List ℕ). Waits c (Spelt c.code None t) b' (l ++ c.to_units old)) (row_come us g h) (w refl)))
