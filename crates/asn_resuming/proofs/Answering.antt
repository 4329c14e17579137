-- The session that goes on where the last piece ended: what each answer of the reader makes of it.
use Rattle.std.proofs.Common.{◌≡◌, ◌≤◌, ◌<◌, ◌+◌, ◌-◌, ◌*◌, ℕ, min, max, true, false, Result, Ok, Err, List, [], ◌++◌, length, take, refl, sym, ap, subst, ◌∙◌, arith}
use Rattle.std.proofs.lemmas.List.{take-take}
use Rattle.std.proofs.Math.Nat.{mul-le-mul_left}
use Rattle.asn_values.specs.Datum.{Datum}
use Rattle.asn_values.specs.Measures.{cells, places}
use Rattle.asn_values.specs.Profile.{InProfile}
use Rattle.asn_values.specs.Shape.{Shape}
use Rattle.asn_values.specs.View.{shape_of, datum_of}
use Rattle.asn_values.specs.declared.value.Value.{Value}
use Rattle.asn_rules.specs.Answer.{IsEncoding, Answer, done, refused, too_long, more, max_octets}
use Rattle.asn_rules.specs.Live.{Live}
use Rattle.asn_rules.specs.AtOnce.{TellsIfNone}
use Rattle.asn_rules.specs.Sessions.{Past, waiting, stopped, over, all_so_far, FeedsTo, LiveUnits, Finished}
use Rattle.asn_rules.specs.declared.fault.Why.{Why}
use Rattle.asn_rules.specs.declared.session.FeedFault.{FeedFault}
use Rattle.asn_rules.specs.declared.session.FeedFault.TheVariants as feed
use Rattle.asn_rules.specs.declared.session.Step.{Step}
use Rattle.asn_rules.specs.declared.session.Step.TheVariants as step
use Rattle.asn_rules.specs.declared.session.Truncated.{Truncated}
use Rattle.asn_rules.proofs.Feeding.SoFar.{none_live, all_live, live_before, cut_short, no_units, kept_so_far}
use Rattle.asn_rules.proofs.Feeding.Sessions.{take_few, not_whole}
use Rattle.asn_walk.specs.Ahead.{Ahead}
use Rattle.asn_walk.specs.Coding.{Coding}
use Rattle.asn_walk.specs.Laws.{Laws}
use Rattle.asn_walk.proofs.Decoding.{short_read, long_read}
use Rattle.asn_walk_feed.specs.Nodes.{nodes}
use Rattle.asn_walk_feed.specs.OpenFields.{FieldCoding}
use Rattle.asn_resuming.specs.Counting.{Seen, Going}
use Rattle.asn_resuming.specs.Reached.{Reached, GoesOn}
use Rattle.asn_resuming.specs.Resumed.{Resumes}
use Rattle.asn_resuming.specs.declared.session.Resuming.{Resuming}
use Rattle.asn_resuming.specs.declared.session.State.TheVariants as state
use Rattle.asn_rules.specs.Holding.{room, Holds}
use Rattle.asn_rules.specs.Kept.{KeptOf, Kept}
use Rattle.asn_rules.specs.Ticks.{Counted}
use Rattle.asn_walk_feed.specs.declared.frame.Frame.{Frame}
use Rattle.asn_walk_feed.specs.Feeding.{FeedLaws}
use Rattle.asn_walk_feed.specs.Holding.{held_in, counted, unit_bits, HoldLaws}
use Rattle.asn_walk_feed.specs.Keeping.{kept_in, KeepLaws}
use Rattle.asn_walk_feed.specs.OpenFields.{FieldLaws}
use Rattle.asn_walk_feed.specs.Strings.{StringLaws}
use Rattle.asn_walk_feed.proofs.Cells.{bits_of_octets, cells_within}
use Rattle.asn_walk_feed.proofs.HeldRead.{held_within}
use Rattle.asn_walk_feed.proofs.KeptRead.{kept_of}
use Rattle.asn_resuming.proofs.Counts.{count_of_seen}
use Rattle.asn_resuming.proofs.NextOctets.{reached_none}

module _ {F : Type 0} (c : Coding) (laws : Laws c) (fc : FieldCoding) (ahead : F → Ahead) (between : F → Type 0) (t : Shape) where
  abbrev R : Resuming F → Shape → Past → Type 0
  R q u past = Resumes c fc ahead between q u past

  -- ---- a session that has taken nothing

  module _ (q : Resuming F) (y : shape_of q.ty ≡ t) (good : InProfile t) (none : nodes q.frames ≡ []) (units : q.units ≡ 0) (octets : q.octets ≡ 0) (taken : q.ticks.taken ≡ 0) (inside : q.ticks.inside ≡ 0) (waits : q.state ≡ state.Waiting) where
    opened : Finished c.ruling t (waiting []) q.end → R q t (waiting [])
    opened end = record {
      of_type = y;
      of_profile = good;
      goes_on = (waits, omega arith, rw (units, octets) (reached_none c laws fc ahead between (nodes q.frames) t none));
      end = end;
      counts = record {
        taken = taken ∙ sym (ap length (no_units c.ruling laws.tells));
        field = 0;
        is_open = rw none refl;
        inside = omega (arith, inside);
      };
    }

    pub opened_whole : q.end ≡ Ok tt → TellsIfNone c.ruling t true → R q t (waiting [])
    opened_whole e h = opened (rw e h)

    pub opened_empty : (cut : Truncated) → cut.taken ≡ 0 → q.end ≡ Err cut → TellsIfNone c.ruling t false → R q t (waiting [])
    opened_empty cut n e h =
        let zero_units : c.ruling.units [] ≡ [] = no_units c.ruling laws.tells in
        let live : Live c.ruling.fielding c.ruling.whole t (c.ruling.units []) = rw zero_units (none_live c.ruling t good) in
        opened (rw e (h, all_live c.ruling t (c.ruling.units []) cut.taken (n ∙ sym (ap length zero_units)) live))

  -- ---- the next piece

  -- some octets brought one that waits to its nodes
  known_at : (q : Resuming F) → q.state ≡ state.Waiting → (past : Past) → R q t past → (s : List ℕ) × (length s < max_octets) × Reached c fc ahead between (nodes q.frames) t q.units q.octets s
  known_at q e (waiting s) k = (s, k.goes_on.1, k.goes_on.2)
  known_at q e (stopped s fault) k = absurd (let clash : state.Waiting ≡ state.Stopped fault = sym e ∙ k.goes_on.0 in cc)
  known_at q e (over s) k = absurd (let clash : state.Waiting ≡ state.Over = sym e ∙ k.goes_on.0 in cc)

  pub octets_known : (q : Resuming F) → q.state ≡ state.Waiting → (past : Past) → R q t past → (s : List ℕ) × (length s < max_octets) × Reached c fc ahead between (nodes q.frames) (shape_of q.ty) q.units q.octets s
  octets_known q e past k =
      let h = known_at q e past k in
      (h.0, h.1, subst (λ (u : Shape). Reached c fc ahead between (nodes q.frames) u q.units q.octets h.0) (sym k.of_type) h.2)

  -- a session that waits
  pub when_waiting : (q : Resuming F) (P : Past → Type 0) → q.state ≡ state.Waiting → ((s : List ℕ) → R q t (waiting s) → P (waiting s)) → (past : Past) → R q t past → P past
  when_waiting q P e f (waiting s) k = f s k
  when_waiting q P e f (stopped s fault) k = absurd (let clash : state.Waiting ≡ state.Stopped fault = sym e ∙ k.goes_on.0 in cc)
  when_waiting q P e f (over s) k = absurd (let clash : state.Waiting ≡ state.Over = sym e ∙ k.goes_on.0 in cc)

  pub feeds : (q new : Resuming F) (piece : List ℕ) (answer : Result Step FeedFault) → q.state ≡ state.Waiting → ((s : List ℕ) → R q t (waiting s) → FeedsTo c.ruling R q new t (waiting s) piece answer) → (past : Past) → R q t past → FeedsTo c.ruling R q new t past piece answer
  feeds q new piece answer e f past k = when_waiting q (λ (u : Past). FeedsTo c.ruling R q new t u piece answer) e f past k

  -- what was read is of its type
  pub reached_of : (q : Resuming F) (s : List ℕ) → R q t (waiting s) → Reached c fc ahead between (nodes q.frames) (shape_of q.ty) q.units q.octets s
  reached_of q s w = subst (λ (u : Shape). Reached c fc ahead between (nodes q.frames) u q.units q.octets s) (sym w.of_type) w.goes_on.2

  pub of_its_type : (q : Resuming F) (s : List ℕ) (P : Shape → Type 0) → R q t (waiting s) → P (shape_of q.ty) → P t
  of_its_type q s P w h = subst P w.of_type h

  -- as many octets of a piece as a message may have are read
  pub so_far : (q : Resuming F) (s p : List ℕ) (room n : ℕ) → R q t (waiting s) → room ≡ max_octets - q.octets → n ≡ min (length p) room → s ++ take n p ≡ all_so_far s p
  so_far q s p room n w e f =
      let count : n ≡ min (length p) (max_octets - length s) = omega (arith, e, f, w.goes_on.2.octets_are) in
      ap (λ (i : ℕ). s ++ take i p) count ∙ kept_so_far s p (omega (arith, w.goes_on.1))

  module _ (q new : Resuming F) (same : shape_of new.ty ≡ shape_of q.ty) (s piece m : List ℕ) (k : R q t (waiting s)) (e : s ++ m ≡ all_so_far s piece) where
    abbrev Goes : Result Step FeedFault → Type 0
    Goes answer = FeedsTo c.ruling R q new t (waiting s) piece answer

    ends : (past : Past) (end : Result (Unit {0}) Truncated) → new.end ≡ end → Finished c.ruling t past end → Finished c.ruling t past new.end
    ends past end g h = subst (λ (z : Result (Unit {0}) Truncated). Finished c.ruling t past z) (sym g) h

    pub done_feeds : (v : Value) (used : ℕ) → new.state ≡ state.Over → nodes new.frames ≡ [] → new.end ≡ Ok tt → Answer c.ruling t (s ++ m) (done (datum_of v) (length s + used)) → Goes (Ok (step.Done v used))
    done_feeds v used over_is none end_is told =
        let all = s ++ piece in
        let n = length s + used in
        let h : Answer c.ruling t (all_so_far s piece) (done (datum_of v) n) = subst (λ (l : List ℕ). Answer c.ruling t l (done (datum_of v) n)) e told in
        let few : n ≤ max_octets = omega (arith, h.0, (take_few max_octets all).0) in
        let whole : IsEncoding c.ruling t (datum_of v) (take n all) = subst (λ (l : List ℕ). IsEncoding c.ruling t (datum_of v) l) (take-take n max_octets all few) h.1 in
        record {
          answered = h;
          taken = record {
            of_type = same ∙ k.of_type;
            of_profile = k.of_profile;
            goes_on = (over_is, none);
            end = ends (over (take n all)) (Ok tt) end_is (datum_of v, whole);
            counts = tt;
          };
        }

    pub more_feeds : (cut : Truncated) → new.state ≡ state.Waiting → new.end ≡ Err cut → cut.taken ≡ length (c.ruling.units (s ++ m)) → length (s ++ m) < max_octets
        → new.units ≡ length (c.ruling.units (s ++ m)) → new.octets ≡ length (s ++ m) → GoesOn c fc ahead between (nodes new.frames) t (s ++ m)
        → Going c fc ahead between (nodes new.frames) t (length (c.ruling.units (s ++ m))) new.ticks → Goes (Ok step.More)
    more_feeds cut state_is end_is count few units octets h going =
        let told : Answer c.ruling t (s ++ m) more = short_read c laws t k.of_profile (s ++ m) few h.short in
        let here : R new t (waiting (s ++ m)) = record {
          of_type = same ∙ k.of_type;
          of_profile = k.of_profile;
          goes_on = (state_is, few, record { took = h.took; units_are = sym units; octets_are = sym octets });
          end = ends (waiting (s ++ m)) (Err cut) end_is (cut_short c.ruling t (s ++ m) cut (sym count) told.0 told.1);
          counts = going;
        } in
        record {
          answered = subst (λ (l : List ℕ). Answer c.ruling t l more) e told;
          taken = subst (λ (l : List ℕ). R new t (waiting l)) e here;
        }

    pub too_long_feeds : (fs : List (Frame F)) (cut : Truncated) → new.state ≡ state.Stopped feed.TooLong → nodes new.frames ≡ [] → new.end ≡ Err cut → cut.taken ≡ length (c.ruling.units (s ++ m)) → length (s ++ m) ≡ max_octets
        → GoesOn c fc ahead between fs t (s ++ m) → Going c fc ahead between fs t (length (c.ruling.units (s ++ m))) new.ticks → Goes (Err feed.TooLong)
    too_long_feeds fs cut state_is none end_is count all h going =
        let told : Answer c.ruling t (s ++ m) too_long = long_read c laws t k.of_profile (s ++ m) all h.short in
        let here : R new t (stopped (s ++ m) feed.TooLong) = record {
          of_type = same ∙ k.of_type;
          of_profile = k.of_profile;
          goes_on = (state_is, none);
          end = ends (stopped (s ++ m) feed.TooLong) (Err cut) end_is (cut_short c.ruling t (s ++ m) cut (sym count) told.0 told.1);
          counts = record { taken = going.taken; inside = omega (arith, going.inside) };
        } in
        record {
          answered = subst (λ (l : List ℕ). Answer c.ruling t l too_long) e told;
          taken = subst (λ (l : List ℕ). R new t (stopped l feed.TooLong)) e here;
        }

    pub refused_feeds : (at : ℕ) (why : Why) (cut : Truncated) → new.state ≡ state.Stopped (feed.Refused at why) → nodes new.frames ≡ [] → new.end ≡ Err cut → cut.taken ≡ at - 1
        → Answer c.ruling t (s ++ m) (refused at) → Seen t at new.ticks → Goes (Err (feed.Refused at why))
    refused_feeds at why cut state_is none end_is count told seen =
        let h : Answer c.ruling t (all_so_far s piece) (refused at) = subst (λ (l : List ℕ). Answer c.ruling t l (refused at)) e told in
        record {
          answered = h;
          taken = record {
            of_type = same ∙ k.of_type;
            of_profile = k.of_profile;
            goes_on = (state_is, none);
            end = ends (stopped (all_so_far s piece) (feed.Refused at why)) (Err cut) end_is (not_whole c.ruling t (all_so_far s piece) h.0, subst (λ (n : ℕ). LiveUnits c.ruling t (c.ruling.units (all_so_far s piece)) n) (sym count) (live_before c.ruling t (c.ruling.units (all_so_far s piece)) at k.of_profile h.1));
            counts = seen;
          };
        }

    pub memory_feeds : new.state ≡ state.Over → nodes new.frames ≡ [] → new.end ≡ q.end → Goes (Err feed.Memory)
    memory_feeds state_is none end_is = record {
      answered = tt;
      taken = record { of_type = same ∙ k.of_type; of_profile = k.of_profile; goes_on = (state_is, none); end = ends (over s) q.end end_is k.end; counts = tt };
    }

  -- ---- what was counted

  -- what the reader counted, of its type
  pub going_at : (q : Resuming F) (s : List ℕ) → R q t (waiting s) → Going c fc ahead between (nodes q.frames) (shape_of q.ty) (length (c.ruling.units s)) q.ticks
  going_at q s w = subst (λ (u : Shape). Going c fc ahead between (nodes q.frames) u (length (c.ruling.units s)) q.ticks) (sym w.of_type) w.counts

  -- the first octets of those that are read are the first of all
  pub front_same : (s piece m : List ℕ) (n : ℕ) → s ++ m ≡ all_so_far s piece → n ≤ length (s ++ m) → take n (s ++ m) ≡ take n (s ++ piece)
  front_same s piece m n e l =
      let few : n ≤ max_octets = omega (arith, l, ap length e, (take_few max_octets (s ++ piece)).0) in
      ap (λ (o : List ℕ). take n o) e ∙ take-take n max_octets (s ++ piece) few

-- the counter says as many units as were seen
pub counted_of : {F : Type 0} (c : Coding) (fc : FieldCoding) (ahead : F → Ahead) (between : F → Type 0) (t : Shape) (q : Resuming F) (past : Past) (n : ℕ) → Resumes c fc ahead between q t past
    → q.ticks.taken ≤ n → n ≤ q.ticks.taken + q.ticks.inside → Counted c.ruling t past n
counted_of c fc ahead between t q (waiting s) n k l m =
    count_of_seen t (length (c.ruling.units s)) n q.ticks (record { taken = k.counts.taken; inside = omega (arith, k.counts.inside) }) l m
counted_of c fc ahead between t q (stopped s (feed.Refused at why)) n k l m = count_of_seen t at n q.ticks k.counts l m
counted_of c fc ahead between t q (stopped s feed.TooLong) n k l m = count_of_seen t (length (c.ruling.units s)) n q.ticks k.counts l m
counted_of c fc ahead between t q (stopped s feed.Memory) n k l m = tt
counted_of c fc ahead between t q (stopped s feed.Spent) n k l m = tt
counted_of c fc ahead between t q (over s) n k l m = tt

-- it keeps the content so far of the sealed field that is open
module _ {F : Type 0} (c : Coding) (laws : Laws c) (feeds : FeedLaws c) (fc : FieldCoding) (fields : FieldLaws c fc) (strings : StringLaws c fc) (keep : KeepLaws c fc) (ahead : F → Ahead) (between : F → Type 0) (t : Shape) (q : Resuming F) (os : List ℕ) where
  pub waiting_keeps : q.state ≡ state.Waiting → os ≡ kept_in (nodes q.frames) (shape_of q.ty) → (past : Past) → Resumes c fc ahead between q t past → Kept c.ruling t past os
  waiting_keeps e is (waiting s) k =
      let here : KeptOf c.ruling t (c.ruling.units s) (kept_in (nodes q.frames) t) = kept_of c laws feeds fc fields strings keep ahead between (nodes q.frames) t (c.ruling.units s) k.of_profile k.goes_on.2.took in
      let same : kept_in (nodes q.frames) t ≡ os = ap (λ (u : Shape). kept_in (nodes q.frames) u) (sym k.of_type) ∙ sym is in
      subst (λ (l : List ℕ). KeptOf c.ruling t (c.ruling.units s) l) same here
  waiting_keeps e is (stopped s fault) k = absurd (let clash : state.Waiting ≡ state.Stopped fault = sym e ∙ k.goes_on.0 in cc)
  waiting_keeps e is (over s) k = absurd (let clash : state.Waiting ≡ state.Over = sym e ∙ k.goes_on.0 in cc)

-- it holds no more than the octets so far allow
module _ {F : Type 0} (c : Coding) (laws : Laws c) (fc : FieldCoding) (keep : KeepLaws c fc) (hold : HoldLaws c fc) (ahead : F → Ahead) (between : F → Type 0) (t : Shape) where
  -- nothing is held where no node has begun
  none_holds : (fs : List (Frame F)) (n : ℕ) → fs ≡ [] → n ≡ counted (held_in fs) → n ≡ 0
  none_holds fs n e h = (let z : held_in fs ≡ 0 = ap held_in e in omega (arith, h, z))

  pub holds_few : (q : Resuming F) (n : ℕ) → n ≡ counted (held_in (nodes q.frames)) → (past : Past) → Resumes c fc ahead between q t past → Holds t past n
  holds_few q n e (waiting s) k =
      let h = held_within c laws fc keep hold ahead between (nodes q.frames) t (c.ruling.units s) k.of_profile k.goes_on.2.took in
      let same : places t * max 1 (unit_bits c * length (c.ruling.units s)) ≡ places t * max 1 (8 * length s) = ap (λ (b : ℕ). places t * max 1 b) (bits_of_octets c laws fc hold s) in
      omega (arith, e, h, same)
  holds_few q n e (stopped s fault) k = none_holds (nodes q.frames) n k.goes_on.1 e
  holds_few q n e (over s) k = none_holds (nodes q.frames) n k.goes_on.1 e

-- a value is no larger than the octets up to its end allow
pub done_few : (c : Coding) (laws : Laws c) (fc : FieldCoding) (hold : HoldLaws c fc) (t : Shape) (v : Datum) (all : List ℕ) (n : ℕ) → InProfile t → Answer c.ruling t all (done v n) → cells v ≤ room t n
done_few c laws fc hold t v all n good h =
    let few = cells_within c laws fc hold t v (take n all) good h.1 in
    let short = (take_few n all).0 in
    let most : places t * max 1 (8 * length (take n all)) ≤ places t * max 1 (8 * n) = mul-le-mul_left (places t) (omega (arith, short)) in
    omega (arith, few, most)
