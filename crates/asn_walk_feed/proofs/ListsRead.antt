-- Where a reader of a list that may be cut stands, in any rules.
use Rattle.std.proofs.Common.{◌≡◌, ◌≤◌, ◌<◌, ◌+◌, ◌*◌, ◌⊎◌, inl, inr, ℕ, zero, suc, nat_lt, List, [], ◌∷◌, ◌++◌, length, Option, Some, None, refl, sym, ap, subst, ◌∙◌, arith}
use Rattle.std.specs.Bool.{⊤}
use Rattle.asn_values.specs.Shape.{SizeRange}
use Rattle.asn_bits.specs.Ranges.{Spanned, At}
use Rattle.asn_rules.specs.Chunks.{Chunk, flat}
use Rattle.asn_rules.specs.General.{Length, last, fragment, Blocks, Left, Header, General}
use Rattle.asn_rules.specs.Languages.{Spells, Lawful, Inhabited, Map, Nothing, Row}
use Rattle.asn_rules.specs.Live.{Fielding}
use Rattle.asn_rules.specs.Stops.{Stops}
use Rattle.asn_rules.specs.declared.stop.Stop.{Stop}
use Rattle.asn_rules.specs.declared.stop.Stop.TheVariants as stop
use Rattle.asn_rules.proofs.Answer.Answers.{done_stays, done_later}
use Rattle.asn_rules.proofs.Languages.Rows.{row_starts, row_spells, row_one}
use Rattle.asn_rules.proofs.Languages.Leads.{stops_by, leads_map}
use Rattle.asn_rules.proofs.Languages.Parts.{map_source, map_spells, map_live, map_dead, nothing_inhabited, nothing_spells}
use Rattle.asn_rules.proofs.Numbers.General.{general_inhabited, general_counted}
use Rattle.asn_rules.proofs.Numbers.Headers.{header_tells}
use Rattle.asn_walk.specs.Ahead.{Ahead, items, lengths, end, SomeAhead, Next, StopsNext, Advances}
use Rattle.asn_walk.specs.Coding.{Coding, ListingOf}
use Rattle.asn_walk.specs.Laws.{Laws, IsSizeOfProfile}
use Rattle.asn_walk.proofs.Listing.{Appends, Going, appends_none, appends_one, appends_more, left_ahead, going_starts, going_stops, going_further, going_next_stops, going_nearer, steps_left}
use Rattle.asn_walk_feed.specs.Feeding.{FeedLaws, HasBegun, NextOf, next_of}
use Rattle.asn_walk_feed.specs.Items.{InFragment, Stands}

-- ---- the length between fragments

-- nothing is ahead: no unit is read
end_spells : (R : Fielding) (new : Ahead) (us : List ℕ) → Spells R (NextOf end) (None, new) us us
end_spells R new us = record { chunks = []; spelt = record { same = refl; empty = refl }; contents = tt; split = refl }

-- what is read of it
pub next_is : {R : Fielding} (a : Ahead) (p : Option ℕ × Ahead) (us r : List ℕ) → Spells R (NextOf a) p us r
    → Next R a p.0 p.1 us r
next_is {R} (items n) p us r h =
    let e : r ≡ us = sym (h.split ∙ ap (λ (cs : List Chunk). flat R.spelled cs ++ r) h.spelt.empty) in
    rw h.spelt.same (record { advances = (refl, refl, e) })
next_is {R} end p us r h =
    let e : r ≡ us = sym (h.split ∙ ap (λ (cs : List Chunk). flat R.spelled cs ++ r) h.spelt.empty) in
    rw h.spelt.same (record { advances = e })
next_is {R} (lengths is so_far closed) p us r h = go (map_source h)
  where
    told : (l : Length) → Spells R (Header (At (Spanned is) so_far closed)) l us r
        → Next R (lengths is so_far closed) (next_of is so_far l).0 (next_of is so_far l).1 us r
    told (last n) s = record { advances = record { read = inl (s, refl) } }
    told (fragment m) s = record { advances = record { read = inr (m, s, refl, refl) } }

    go : (l : Length) × Spells R (Header (At (Spanned is) so_far closed)) l us r × (p ≡ next_of is so_far l)
        → Next R (lengths is so_far closed) p.0 p.1 us r
    go w = rw w.2 (told w.0 w.1)

-- some are ahead after it
pub next_some : (c : Coding) (a : Ahead) (k : ℕ) (new : Ahead) (us r : List ℕ) → Next c.ruling.fielding a (Some k) new us r → SomeAhead new
next_some c a k new us r h = go a h.advances
  where
    tail : ⊤ → List Chunk → Type 0
    tail = Nothing tt

    go : (a : Ahead) → Advances c.ruling.fielding a (Some k) new us r → SomeAhead new
    go end e = absurd e
    go (items n) e = subst SomeAhead (sym e.1) tt
    go (lengths is so_far closed) e = both e.read
      where
        both : (Spells c.ruling.fielding (Header (At (Spanned is) so_far closed)) (last k) us r × (new ≡ end))
            ⊎ ((m : ℕ) × Spells c.ruling.fielding (Header (At (Spanned is) so_far closed)) (fragment m) us r × (k ≡ 16384 * m) × (new ≡ lengths is (so_far + k) (nat_lt m 4)))
            → SomeAhead new
        both (inl x) = subst SomeAhead (sym x.1) tt
        both (inr x) =
            let b : Blocks (At (Spanned is) so_far closed) x.0 = header_tells x.1.spelt in
            let i : Inhabited (General tail (Left (At (Spanned is) so_far closed) x.0)) = general_inhabited (nothing_inhabited tt) b.rest b.left in
            let g : General tail (At (Spanned is) (so_far + k) (nat_lt x.0 4)) i.value i.chunks = (left_ahead c tail is so_far k x.0 closed x.1 x.2).to i.value i.chunks i.spelt in
            subst SomeAhead (sym x.3) (length i.value, general_counted g)

-- and back
pub next_spells : {R : Fielding} (a : Ahead) (k : Option ℕ) (new : Ahead) (us r : List ℕ) → Next R a k new us r
    → Spells R (NextOf a) (k, new) us r
next_spells {R} a k new us r h = go a k h.advances
  where
    none : (v w : Option ℕ × Ahead) → v ≡ w → r ≡ us → Spells R (Nothing w) v us r
    none v w e f = rw (e, f) (nothing_spells R w us)

    go : (a : Ahead) (k : Option ℕ) → Advances R a k new us r → Spells R (NextOf a) (k, new) us r
    go (items n) (Some m) e = none (Some m, new) (Some n, end) (λ i. (Some (e.0 i), e.1 i)) e.2
    go (items n) None e = absurd e
    go end (Some m) e = absurd e
    go end None e = subst (λ (xs : List ℕ). Spells R (NextOf end) (None, new) xs r) e (end_spells R new r)
    go (lengths is so_far closed) None e = absurd e
    go (lengths is so_far closed) (Some n) e = both e.read
      where
        both : (Spells R (Header (At (Spanned is) so_far closed)) (last n) us r × (new ≡ end))
            ⊎ ((m : ℕ) × Spells R (Header (At (Spanned is) so_far closed)) (fragment m) us r × (n ≡ 16384 * m) × (new ≡ lengths is (so_far + n) (nat_lt m 4)))
            → Spells R (Map (next_of is so_far) (Header (At (Spanned is) so_far closed))) (Some n, new) us r
        both (inl x) = rw x.1 (map_spells {f = next_of is so_far} x.0)
        both (inr x) = rw (x.3, x.2) (map_spells {f = next_of is so_far} x.1)

-- a reader of it stops
pub next_stops : {R : Fielding} (a : Ahead) (us : List ℕ) (why : Stop) → StopsNext R a us why → Stops R (NextOf a) us why
next_stops {R} a us why h = rw h.was (stops_by why (leads_map R (next_of h.counts h.so_far) (Header (At (Spanned h.counts) h.so_far h.closed)) us).stops h.stops)

-- under another view nothing else is read
pub under : {A B : Type 0} {R : Fielding} {f : A → B} {L : A → List Chunk → Type 0} (us : List ℕ) (why : Stop) → Stops R (Map f L) us why → Stops R L us why
under {f = f} us (stop.Refused n w) h = record { told = record { before = h.told.before; unit = h.told.unit; after = h.told.after; split = h.told.split; left_is = h.told.left_is; live = map_dead h.told.live; dead = λ x. h.told.dead (map_live x); none = λ v r x. h.told.none (f v) r (map_spells x) } }
under {f = f} us stop.Short h = record { told = record { live = map_dead h.told.live; none = λ v r x. h.told.none (f v) r (map_spells x) } }
under us stop.Memory h = record { told = tt }

-- where it stops, so does the list
pub list_next_stops : {A : Type 0} {c : Coding} {L : A → List Chunk → Type 0} {T : List A → List Chunk → Type 0} (a : Ahead) (us rest : List ℕ) (vs : List A) (why : Stop)
    → Inhabited L → Stops c.ruling.fielding (NextOf a) rest why → Going c L T us a vs rest → Stops c.ruling.fielding T us why
list_next_stops (items n) us rest vs stop.Memory i h g = record { told = tt }
list_next_stops {c = c} (items n) us rest vs stop.Short i h g = absurd (h.told.none (Some n, end) rest (nothing_spells c.ruling.fielding (Some n, end) rest))
list_next_stops {c = c} (items n) us rest vs (stop.Refused k w) i h g = absurd (h.told.none (Some n, end) rest (nothing_spells c.ruling.fielding (Some n, end) rest))
list_next_stops end us rest vs stop.Memory i h g = record { told = tt }
list_next_stops {c = c} end us rest vs stop.Short i h g = absurd (h.told.none (None, end) rest (end_spells c.ruling.fielding end rest))
list_next_stops {c = c} end us rest vs (stop.Refused k w) i h g = absurd (h.told.none (None, end) rest (end_spells c.ruling.fielding end rest))
list_next_stops (lengths is so_far closed) us rest vs why i h g = going_stops why i (record { counts = is; so_far = so_far; closed = closed; was = refl; stops = under rest why h }) g

-- ---- each step comes nearer to the end

-- any count of values that have no units
nothing_row : (R : Fielding) (k : ℕ) (r : List ℕ) → (vs : List ⊤) × Spells R (Row (Nothing {A = ⊤} tt) k) vs r r
nothing_row R zero r = ([], row_starts R (Nothing {A = ⊤} tt) r)
nothing_row R (suc n) r =
    let w = nothing_row R n r in
    (w.0 ++ tt ∷ [], row_spells (Nothing {A = ⊤} tt) n 1 (suc n) (omega arith) w.1 (row_one (nothing_spells R tt r)))

-- a length that was not begun
nearer : {R : Fielding} (a new : Ahead) (k : ℕ) (us r : List ℕ) → Spells R (NextOf a) (Some k, new) us r
    → steps_left new + length r < steps_left a + length us
nearer {R} a new k us r h =
    let w = nothing_row R k r in
    let f : Appends R (Nothing {A = ⊤} tt) k [] w.0 r r = record { row = w.0; same = refl; spelt = w.1 } in
    going_nearer (next_is a (Some k, new) us r h) f

pub next_nearer : (c : Coding) (feeds : FeedLaws c) (a new : Ahead) (k : ℕ) (begun us r : List ℕ) → HasBegun c (NextOf a) begun
    → Spells c.ruling.fielding (NextOf a) (Some k, new) (c.to_units begun ++ us) r → steps_left new + length r < steps_left a + length us
next_nearer c feeds a new k begun us r (inl e) h =
    let none : c.to_units begun ≡ [] = ap c.to_units e ∙ feeds.none in
    nearer a new k us r (subst (λ (xs : List ℕ). Spells c.ruling.fielding (NextOf a) (Some k, new) (xs ++ us) r) none h)
next_nearer c feeds (items n) new k begun us r (inr s) h = absurd (s.none (Some n, end) (c.to_units begun) (nothing_spells c.ruling.fielding (Some n, end) (c.to_units begun)))
next_nearer c feeds end new k begun us r (inr s) h = absurd (s.none (None, end) (c.to_units begun) (end_spells c.ruling.fielding end (c.to_units begun)))
next_nearer c feeds (lengths is so_far closed) new k begun us r (inr s) h = omega (arith, at_most new, done_later us s h)
  where
    at_most : (a : Ahead) → steps_left a ≤ 1
    at_most end = omega arith
    at_most (items n) = omega arith
    at_most (lengths is so_far closed) = omega arith

-- ---- where a reader of the elements stands

module _ {A : Type 0} (c : Coding) (laws : Laws c) (L : A → List Chunk → Type 0) (some : Inhabited L) (law : Lawful L) {T : List A → List Chunk → Type 0} where
  -- an element stops
  pub element_stops : (n : ℕ) (ahead : Ahead) (es : List A) (us come : List ℕ) (why : Stop) → Stands c L T (suc n) ahead es us come
      → Stops c.ruling.fielding L come why → Stops c.ruling.fielding T us why
  element_stops n ahead es us come why s h =
      stops_by why (going_next_stops c laws s.done s.count some law (omega (arith, s.sum)) s.next s.so_far s.going) h

  -- this many elements stand in front of what is ahead
  stands_at : (n : ℕ) (ahead : Ahead) (es : List A) (us come : List ℕ) → InFragment c L T n ahead es us come → Stands c L T n ahead es us come
  stands_at zero ahead es us come s =
      let e : s.done ≡ s.count = omega (arith, s.sum) in
      let row : Appends c.ruling.fielding L s.count s.before es s.first come = subst (λ (k : ℕ). Appends c.ruling.fielding L k s.before es s.first come) e s.so_far in
      going_further c laws some law s.next row s.going
  stands_at (suc n) ahead es us come s = s

  -- one element more
  pub element_done : (n : ℕ) (ahead : Ahead) (es : List A) (v : A) (us come r : List ℕ) → Stands c L T (suc n) ahead es us come
      → Spells c.ruling.fielding L v come r → Stands c L T n ahead (es ++ v ∷ []) us r
  element_done n ahead es v us come r s h = stands_at n ahead (es ++ v ∷ []) us r (record {
    before = s.before;
    was = s.was;
    done = s.done + 1;
    count = s.count;
    rest = s.rest;
    first = s.first;
    sum = omega (arith, s.sum);
    next = s.next;
    so_far = appends_more s.done 1 (s.done + 1) refl s.so_far (appends_one refl h);
    going = s.going;
  })

  -- elements in a row more
  pub row_done : (n k : ℕ) (ahead : Ahead) (es row : List A) (us come r : List ℕ) → InFragment c L T (n + k) ahead es us come
      → Spells c.ruling.fielding (Row L k) row come r → Stands c L T n ahead (es ++ row) us r
  row_done n k ahead es row us come r s h =
      let more : Appends c.ruling.fielding L k es (es ++ row) come r = record { row = row; same = refl; spelt = h } in
      stands_at n ahead (es ++ row) us r (record {
        before = s.before;
        was = s.was;
        done = s.done + k;
        count = s.count;
        rest = s.rest;
        first = s.first;
        sum = omega (arith, s.sum);
        next = s.next;
        so_far = appends_more s.done k (s.done + k) refl s.so_far more;
        going = s.going;
      })

  -- a fragment begins
  pub fragment_begins : (k : ℕ) (a new : Ahead) (es : List A) (us q r : List ℕ) → Going c L T us a es q
      → Next c.ruling.fielding a (Some k) new q r → Stands c L T k new es us r
  fragment_begins k a new es us q r g h = stands_at k new es us r (record {
    before = es;
    was = a;
    done = 0;
    count = k;
    rest = q;
    first = r;
    sum = omega arith;
    next = h;
    so_far = appends_none c.ruling.fielding L es r;
    going = g;
  })

-- the list begins
pub list_begins : {A : Type 0} (c : Coding) (laws : Laws c) (L : A → List Chunk → Type 0) (s : SizeRange) (ahead : Ahead) (us r : List ℕ)
    → IsSizeOfProfile s → Spells c.ruling.fielding (c.list_start s) ahead us r → (more : List ℕ) → Going c L (ListingOf c s L) (us ++ more) ahead [] (r ++ more)
list_begins c laws L s ahead us r good h more = going_starts c laws L s ahead (us ++ more) (r ++ more) good (done_stays more h)
