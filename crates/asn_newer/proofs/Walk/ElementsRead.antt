-- Where the reader of a SEQUENCE OF stands in messages of newer and older senders.
use Rattle.std.proofs.Common.{◌≡◌, ◌<◌, ◌+◌, ◌*◌, ⊎_elim, ℕ, suc, nat_lt, Bool, true, false, List, [], ◌∷◌, ◌++◌, length, length-append, map, Option, Some, None, refl, sym, ap, subst, ◌∙◌, append_assoc, arith}
use Rattle.std.proofs.lemmas.List.{append-nil, map-append, length-map}
use Rattle.asn_values.specs.Datum.{Datum, elements, elements_of}
use Rattle.asn_values.specs.Shape.{Shape, SizeRange, sequence_of}
use Rattle.asn_values.specs.Profile.{InProfile}
use Rattle.asn_bits.specs.Ranges.{Spanned, At}
use Rattle.asn_rules.specs.Chunks.{Chunk, flat}
use Rattle.asn_rules.specs.Forks.{Same}
use Rattle.asn_rules.specs.General.{fragment, after_first, together, Left, Blocks, Header, Body, General}
use Rattle.asn_rules.specs.Languages.{Spells, NoSpelling, Then, Map, Nothing, Row, prepended}
use Rattle.asn_rules.specs.Live.{Fielding}
use Rattle.asn_rules.specs.declared.stop.Stop.{Stop}
use Rattle.asn_rules.proofs.Languages.Forks.{same_flip}
use Rattle.asn_rules.proofs.Numbers.General.{general_once}
use Rattle.asn_rules.proofs.Numbers.Headers.{header_tells}
use Rattle.asn_rules.proofs.Languages.Parts.{map_source, nothing_spells}
use Rattle.asn_rules.proofs.Numbers.Ranges.{general_left}
use Rattle.asn_rules.proofs.Languages.Then.{then_none_first}
use Rattle.asn_walk.specs.Ahead.{Ahead, items, lengths, end, Remaining, Advances, Next, StopsNext}
use Rattle.asn_walk.specs.Coding.{ListingOf}
use Rattle.asn_walk.proofs.Listing.{list_size, steps_left, going_nearer}
use Rattle.asn_newer.specs.declared.path.PathStep.TheVariants as step
use Rattle.asn_newer.specs.Skipped.{SkippedAt, Reading, Inside, inside, all_skipped, list_read}
use Rattle.asn_newer.specs.Loose.{LooseCoding, Loose}
use Rattle.asn_newer.specs.Halting.{Halts, halt_of}
use Rattle.asn_newer.specs.Walking.{ReadingAfter, ItemsAfter}
use Rattle.asn_newer.specs.Ways.{OneWay, WayLaws}
use Rattle.asn_newer.proofs.Walk.Following.{seen_as, took, taken}
use Rattle.asn_newer.proofs.Walk.Halts.{NoneOn, Onward, on, mapped, second, alike, none_mapped, stops_on}
use Rattle.asn_newer.proofs.Law.OneReading.{part}
use Rattle.asn_newer.proofs.Law.OneWay.{lawful_way, header_way, row_way}

-- the values and the skipped fields of readings, after those before
abbrev pub put_items : List Datum → List SkippedAt → List Reading → List Datum × List SkippedAt
put_items ds ss rs = (ds ++ map (λ (r : Reading). r.0) rs, ss ++ all_skipped (length ds) rs)

-- the elements after others are counted on
skipped_append : (i j : ℕ) (rs qs : List Reading) → i + length rs ≡ j → all_skipped i (rs ++ qs) ≡ all_skipped i rs ++ all_skipped j qs
skipped_append i j [] qs e = let same : i ≡ j = omega (arith, e) in ap (λ (n : ℕ). all_skipped n qs) same
skipped_append i j (r ∷ rs) qs e =
    let these = map (inside (step.Element i)) r.1 in
    ap (λ (s : List SkippedAt). these ++ s) (skipped_append (suc i) j rs qs (omega (arith, e))) ∙ sym (append_assoc these (all_skipped (suc i) rs) (all_skipped j qs))

-- after some readings, and then others
put_again : (ds : List Datum) (ss : List SkippedAt) (rs qs : List Reading) → put_items ds ss (rs ++ qs) ≡ put_items (ds ++ map (λ (r : Reading). r.0) rs) (ss ++ all_skipped (length ds) rs) qs
put_again ds ss rs qs =
    let vs = map (λ (r : Reading). r.0) rs in
    let on : length ds + length rs ≡ length (ds ++ vs) = omega (arith, length-append ds vs, length-map rs (λ (r : Reading). r.0)) in
    (λ i. (
      (ap (λ (x : List Datum). ds ++ x) (map-append (λ (r : Reading). r.0) rs qs) ∙ sym (append_assoc ds vs (map (λ (r : Reading). r.0) qs))) i,
      (ap (λ (x : List SkippedAt). ss ++ x) (skipped_append (length ds) (length (ds ++ vs)) rs qs on) ∙ sym (append_assoc ss (all_skipped (length ds) rs) (all_skipped (length (ds ++ vs)) qs))) i,
    ))

module _ (R : Fielding) (L : Reading → List Chunk → Type 0) where
  -- m items are still to be read
  pub record RowUpTo (T : List Datum × List SkippedAt → List Chunk → Type 0) (us : List ℕ) (m : ℕ) (ds : List Datum) (ss : List SkippedAt) (vs : List ℕ) : Type 0 where
    pub onward : Onward R (Row L m) vs (put_items ds ss) T us

  pub row_begins : (n : ℕ) (ds : List Datum) (ss : List SkippedAt) (us : List ℕ) → RowUpTo (ItemsAfter ds ss (Row L n)) us n ds ss us
  row_begins n ds ss us = record { onward = mapped R (put_items ds ss) (Row L n) us }

module _ {R : Fielding} {L : Reading → List Chunk → Type 0} {T : List Datum × List SkippedAt → List Chunk → Type 0} {us : List ℕ} {ds : List Datum} {ss : List SkippedAt} {vs : List ℕ} where
  -- the next stops
  pub row_none : (m k : ℕ) → k ≡ suc m → RowUpTo R L T us k ds ss vs → NoneOn R L vs T us
  row_none m k e w further n = (subst (λ (j : ℕ). RowUpTo R L T us j ds ss vs) e w).onward.none further (none_mapped (then_none_first n))

  -- it has been read
  pub row_next : (m k : ℕ) → k ≡ suc m → OneWay R L → (d : Datum) (now : List SkippedAt) (r : List ℕ) → Spells R (ReadingAfter ss (Inside (step.Element (length ds)) L)) (d, now) vs r → RowUpTo R L T us k ds ss vs → RowUpTo R L T us m (ds ++ d ∷ []) now r
  row_next m k e way d now r t w =
      let a = took t in
      let q = map_source a.spelt in
      let o = (subst (λ (j : ℕ). RowUpTo R L T us j ds ss vs) e w).onward in
      let far = on (on (second {M = λ _. Row L m} way q.1) (mapped R prepended (Then L (λ _. Row L m)) vs)) o in
      let these = map (inside (step.Element (length ds))) q.0.1 in
      let value : d ≡ q.0.0 = ap (λ (x : Reading). x.0) q.2 in
      let skipped : now ≡ ss ++ these = a.same ∙ ap (λ (x : Reading). ss ++ x.1) q.2 in
      let next : suc (length ds) ≡ length (ds ++ d ∷ []) = omega (arith, length-append ds (d ∷ [])) in
      record {
        onward = seen_as (λ rs i. (
          (ap (λ (x : Datum). ds ++ x ∷ map (λ (p : Reading). p.0) rs) (sym value) ∙ sym (append_assoc ds (d ∷ []) (map (λ (p : Reading). p.0) rs))) i,
          (sym (append_assoc ss these (all_skipped (suc (length ds)) rs)) ∙ ap (λ (x : List SkippedAt). x ++ all_skipped (suc (length ds)) rs) (sym skipped) ∙ ap (λ (n : ℕ). now ++ all_skipped n rs) next) i,
        )) far;
      }

  -- all have
  pub row_ends : (k : ℕ) → k ≡ 0 → RowUpTo R L T us k ds ss vs → Spells R T (ds, ss) us vs
  row_ends k e w =
      let o = (subst (λ (j : ℕ). RowUpTo R L T us j ds ss vs) e w).onward in
      subst (λ (p : List Datum × List SkippedAt). Spells R T p us vs) (λ i. (append-nil ds i, append-nil ss i)) (o.done [] vs (nothing_spells R [] vs))

-- ---- fragments

-- what is ahead is still to be read
pub record ListUpTo (R : Fielding) (L : Reading → List Chunk → Type 0) (T : List Datum × List SkippedAt → List Chunk → Type 0) (us : List ℕ) (ahead : Ahead) (ds : List Datum) (ss : List SkippedAt) (vs : List ℕ) : Type 0 where
  pub onward : Onward R (Remaining L ahead) vs (put_items ds ss) T us

pub list_begins : (R : Fielding) (L : Reading → List Chunk → Type 0) (ahead : Ahead) (ds : List Datum) (ss : List SkippedAt) (us : List ℕ) → ListUpTo R L (ItemsAfter ds ss (Remaining L ahead)) us ahead ds ss us
list_begins R L ahead ds ss us = record { onward = mapped R (put_items ds ss) (Remaining L ahead) us }

module _ (l : LooseCoding) (h : WayLaws l) (L : Reading → List Chunk → Type 0) (way : OneWay l.coding.ruling.fielding L) where
  abbrev R : Fielding
  R = l.coding.ruling.fielding

  -- a length, and what stands after it
  after_header : (is : List (ℕ × Option ℕ)) (so_far : ℕ) (closed : Bool) (vs : List ℕ) → Onward R (Then (Header (At (Spanned is) so_far closed)) (Body L (General L) (At (Spanned is) so_far closed))) vs after_first (General L (At (Spanned is) so_far closed)) vs
  after_header is so_far closed vs =
      let S = At (Spanned is) so_far closed in
      on (mapped R after_first (Then (Header S) (Body L (General L) S)) vs) (alike R vs (general_once L S))

  module _ {T : List Datum × List SkippedAt → List Chunk → Type 0} {us : List ℕ} {ahead : Ahead} {ds : List Datum} {ss : List SkippedAt} {vs : List ℕ} (w : ListUpTo R L T us ahead ds ss vs) where
    -- the length stops
    pub no_length : (why : Stop) → StopsNext R ahead vs why → Halts l.coding T us (halt_of why)
    no_length why s =
        let o : Onward R (General L (At (Spanned s.counts) s.so_far s.closed)) vs (put_items ds ss) T us = subst (λ (a : Ahead). Onward R (Remaining L a) vs (put_items ds ss) T us) s.was w.onward in
        stops_on (part l h) why (λ further n. o.none further ((after_header s.counts s.so_far s.closed vs).none further (then_none_first n))) s.stops

    -- nothing is ahead
    pub list_ends : {new : Ahead} {r : List ℕ} → Next R ahead None new vs r → Spells R T (ds, ss) us r
    list_ends {new} {r} n = go ahead n.advances w.onward
      where
        go : (a : Ahead) → Advances R a None new vs r → Onward R (Remaining L a) vs (put_items ds ss) T us → Spells R T (ds, ss) us r
        go end e o = subst (λ (t : List ℕ). Spells R T (ds, ss) us t) (sym e) (subst (λ (p : List Datum × List SkippedAt). Spells R T p us vs) (λ i. (append-nil ds i, append-nil ss i)) (o.done [] vs (nothing_spells R [] vs)))
        go (items n) e o = absurd e
        go (lengths is so_far closed) e o = absurd e

    module _ {new : Ahead} {k : ℕ} {r : List ℕ} (n : Next R ahead (Some k) new vs r) where
      -- the items after a length stop
      pub items_none : NoneOn R (Row L k) r T us
      items_none further none = go ahead n.advances w.onward
        where
          go : (a : Ahead) → Advances R a (Some k) new vs r → Onward R (Remaining L a) vs (put_items ds ss) T us → NoSpelling R T (us ++ further)
          go end e o = absurd e
          go (items m) e o = o.none further (subst (λ (t : List ℕ). NoSpelling R (Row L m) (t ++ further)) e.2 (subst (λ (j : ℕ). NoSpelling R (Row L j) (r ++ further)) e.0 none))
          go (lengths is so_far closed) e o = ⊎_elim
              (λ x. o.none further ((after_header is so_far closed vs).none further ((second {M = Body L (General L) (At (Spanned is) so_far closed)} (header_way (part l h) (At (Spanned is) so_far closed)) x.0).none further none)))
              (λ x. o.none further ((after_header is so_far closed vs).none further ((second {M = Body L (General L) (At (Spanned is) so_far closed)} (header_way (part l h) (At (Spanned is) so_far closed)) x.1).none further (none_mapped (then_none_first (subst (λ (j : ℕ). NoSpelling R (Row L j) (r ++ further)) x.2 none))))))
              e.read

      -- they have been read
      module _ {es : List Datum} {now : List SkippedAt} {t : List ℕ} (all_read : Spells R (ItemsAfter ds ss (Row L k)) (es, now) r t) where
        abbrev rows : List Reading
        rows = (map_source all_read).0

        row : Spells R (Row L k) rows r t
        row = (map_source all_read).1

        moved : {M : List Reading → List Chunk → Type 0} → Onward R M t (λ qs. put_items ds ss (rows ++ qs)) T us → Onward R M t (put_items es now) T us
        moved o = seen_as (λ qs. put_again ds ss rows qs ∙ ap (λ (p : List Datum × List SkippedAt). put_items p.0 p.1 qs) (sym (map_source all_read).2)) o

        -- which are nearer to the end
        pub list_nearer : steps_left new + length t < steps_left ahead + length vs
        list_nearer = going_nearer {vs = []} {ws = rows} n (record { row = rows; same = refl; spelt = row })

        -- the last ones
        ended : Onward R (Row L k) r (put_items ds ss) T us → Onward R (Nothing []) t (put_items es now) T us
        ended o = moved (record { done = done; none = λ further m. absurd (m [] (t ++ further) (nothing_spells R [] (t ++ further))) })
          where
            done : (b : List Reading) (q : List ℕ) → Spells R (Nothing []) b t q → Spells R T (put_items ds ss (rows ++ b)) us q
            done b q x =
                let same : t ≡ q = x.split ∙ ap (λ (cs : List Chunk). flat R.spelled cs ++ q) x.spelt.empty in
                let none : rows ++ b ≡ rows = ap (λ (cs : List Reading). rows ++ cs) x.spelt.same ∙ append-nil rows in
                subst (λ (y : List ℕ). Spells R T (put_items ds ss (rows ++ b)) us y) same (subst (λ (y : List Reading). Spells R T (put_items ds ss y) us t) (sym none) (o.done rows t row))

        -- what is left after a fragment
        left_ahead : (is : List (ℕ × Option ℕ)) (so_far m : ℕ) (closed : Bool) → Spells R (Header (At (Spanned is) so_far closed)) (fragment m) vs r → k ≡ 16384 * m
            → Same (General L (Left (At (Spanned is) so_far closed) m)) (Remaining L (lengths is (so_far + k) (nat_lt m 4)))
        left_ahead is so_far m false x e = subst (λ (j : ℕ). Same (General L (Left (At (Spanned is) so_far false) m)) (Remaining L (lengths is (so_far + j) (nat_lt m 4)))) (sym e) (general_left L (Spanned is) so_far m)
        left_ahead is so_far m true x e =
            let b : Blocks (At (Spanned is) so_far true) m = header_tells x.spelt in
            let f : 16384 * m + b.rest < 16384 = b.left.member.largest refl in
            absurd (omega (arith, b.some))

        pub list_next : ListUpTo R L T us new es now t
        list_next = record { onward = go ahead n.advances w.onward }
          where
            last_items : new ≡ end → Onward R (Row L k) r (put_items ds ss) T us → Onward R (Remaining L new) t (put_items es now) T us
            last_items e o = subst (λ (a : Ahead). Onward R (Remaining L a) t (put_items es now) T us) (sym e) (ended o)

            go : (a : Ahead) → Advances R a (Some k) new vs r → Onward R (Remaining L a) vs (put_items ds ss) T us → Onward R (Remaining L new) t (put_items es now) T us
            go end e o = absurd e
            go (items m) e o = last_items e.1 (subst (λ (y : List ℕ). Onward R (Row L k) y (put_items ds ss) T us) (sym e.2) (subst (λ (j : ℕ). Onward R (Row L j) vs (put_items ds ss) T us) (sym e.0) o))
            go (lengths is so_far closed) e o = ⊎_elim
                (λ x. last_items x.1 (on (second {M = Body L (General L) (At (Spanned is) so_far closed)} (header_way (part l h) (At (Spanned is) so_far closed)) x.0) (on (after_header is so_far closed vs) o)))
                (λ x.
                (let S = At (Spanned is) so_far closed in
                let f : Onward R (Map together (Then (Row L (16384 * x.0)) (λ _. General L (Left S x.0)))) r (put_items ds ss) T us = on (second {M = Body L (General L) S} (header_way (part l h) S) x.1) (on (after_header is so_far closed vs) o) in
                let b : Spells R (Row L (16384 * x.0)) rows r t = subst (λ (j : ℕ). Spells R (Row L j) rows r t) x.2 row in
                let q = on (second {M = λ _. General L (Left S x.0)} (row_way (part l h) way (16384 * x.0)) b) (on (mapped R together (Then (Row L (16384 * x.0)) (λ _. General L (Left S x.0))) r) f) in
                subst (λ (a : Ahead). Onward R (Remaining L a) t (put_items es now) T us) (sym x.3) (moved (on (alike R t (same_flip (left_ahead is so_far x.0 closed x.1 x.2))) q))))
                e.read

-- ---- the type

module _ (l : LooseCoding) (h : WayLaws l) (t : Shape) (s : SizeRange) (good : InProfile (sequence_of t s)) (us : List ℕ) where
  whole : Onward l.coding.ruling.fielding (Then (l.coding.list_start s) (λ a. Remaining (Loose l t) a)) us (λ p. list_read (after_first p)) (Loose l (sequence_of t s)) us
  whole = on (mapped l.coding.ruling.fielding after_first (Then (l.coding.list_start s) (λ a. Remaining (Loose l t) a)) us) (mapped l.coding.ruling.fielding list_read (ListingOf l.coding s (Loose l t)) us)

  pub start_none : NoneOn l.coding.ruling.fielding (l.coding.list_start s) us (Loose l (sequence_of t s)) us
  start_none further n = whole.none further (then_none_first n)

  module _ {a : Ahead} {r : List ℕ} (start : Spells l.coding.ruling.fielding (l.coding.list_start s) a us r) where
    rest : Onward l.coding.ruling.fielding (Remaining (Loose l t) a) r list_read (Loose l (sequence_of t s)) us
    rest = on (second {M = λ a. Remaining (Loose l t) a} (lawful_way (part l h) (h.laws.list_start s (list_size t s good)) (h.start s)) start) whole

    pub rest_none : NoneOn l.coding.ruling.fielding (Remaining (Loose l t) a) r (Loose l (sequence_of t s)) us
    rest_none = rest.none

    pub rest_read : (ss : List SkippedAt) {ds : List Datum} {now : List SkippedAt} {q : List ℕ} → Spells l.coding.ruling.fielding (ItemsAfter [] ss (Remaining (Loose l t) a)) (ds, now) r q → Spells l.coding.ruling.fielding (ReadingAfter ss (Loose l (sequence_of t s))) (elements (elements_of ds), now) us q
    rest_read ss {ds} {now} {q} k =
        let m = map_source k in
        let d : ds ≡ map (λ (r : Reading). r.0) m.0 = ap (λ (p : List Datum × List SkippedAt). p.0) m.2 in
        subst (λ (x : List Datum). Spells l.coding.ruling.fielding (ReadingAfter ss (Loose l (sequence_of t s))) (elements (elements_of x), now) us q) (sym d)
        (taken (record { skipped = all_skipped 0 m.0; same = ap (λ (p : List Datum × List SkippedAt). p.1) m.2; spelt = rest.done m.0 q m.1 }))
