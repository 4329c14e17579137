-- Where the reader of a list stands, in any rules.
use Rattle.std.proofs.Common.{◌≡◌, ◌≤◌, ◌<◌, ◌+◌, ◌-◌, ◌*◌, ◌⊎◌, inl, inr, ⊎_elim, ℕ, nat_lt, Bool, true, false, List, [], ◌∷◌, ◌++◌, length, length-append, append-nil, append_assoc, Option, Some, None, refl, sym, ap, subst, ◌∙◌, arith}
use Rattle.asn_values.specs.Shape.{Shape, SizeRange, sequence_of}
use Rattle.asn_values.specs.Datum.{elements, elements_of}
use Rattle.asn_values.specs.Profile.{InProfile, EmptyRange, SizeTooLarge, UselessMark, size_above, large_size, is_every_length, somewhere, empty_range, size_too_large, useless_mark}
use Rattle.asn_values.proofs.Parts.{left_false}
use Rattle.asn_bits.specs.Ranges.{Spanned, At}
use Rattle.asn_bits.specs.Sets.{InSet}
use Rattle.asn_rules.specs.Chunks.{Chunk, one, flat}
use Rattle.asn_rules.specs.Languages.{Spells, Lawful, Inhabited, Then, Nothing, Row, Plain}
use Rattle.asn_rules.specs.Listed.{Spelt}
use Rattle.asn_rules.specs.Live.{Fielding}
use Rattle.asn_rules.specs.Forks.{Branch, Fork, Same}
use Rattle.asn_rules.specs.General.{Length, fragment, after_first, Few, Many, Left, Blocks, Header, General}
use Rattle.asn_rules.specs.Stops.{Stops}
use Rattle.asn_rules.specs.declared.stop.Stop.{Stop}
use Rattle.asn_rules.proofs.Live.Chunks.{FieldsPart}
use Rattle.asn_rules.proofs.Languages.Leads.{LeadsStops, Leads, leads_here, leads_on, leads_map, leads_second, leads_same, stops_on, stops_first, stops_by}
use Rattle.asn_rules.proofs.Languages.Exits.{leads_last, leads_rest, stops_length, stops_fragment, stops_next}
use Rattle.asn_rules.proofs.Languages.Forks.{same_flip, same_spells}
use Rattle.asn_rules.proofs.Languages.Standing.{StandsIn, stands_here, stands_on, stands_map, stands_same, stands_first, stands_second, stands_end, stands_next, stands_last, stands_fragment, stands_rest}
use Rattle.asn_rules.proofs.Numbers.General.{general_inhabited, general_last_only, general_rest_only}
use Rattle.asn_rules.proofs.Numbers.Headers.{header_tells}
use Rattle.asn_rules.proofs.Languages.Parts.{map_source, map_spells, nothing_inhabited, nothing_spells}
use Rattle.asn_rules.proofs.Numbers.Ranges.{general_left}
use Rattle.asn_rules.proofs.Languages.Rows.{row_inhabited, row_lawful, row_starts, row_spells, row_one}
use Rattle.asn_rules.proofs.Languages.Then.{Follows, one_front, then_splits}
use Rattle.asn_walk.specs.Ahead.{Ahead, items, lengths, end, Remaining, SomeAhead, Advances, Next, StopsNext}
use Rattle.asn_walk.specs.Coding.{Coding, ListingOf}
use Rattle.asn_walk.specs.Laws.{Laws, IsSizeOfProfile}
use Rattle.asn_walk.specs.Reading.{After}
use Rattle.asn_walk.proofs.Parts.{fields_part_of}

-- ---- items one after the other

-- n items are read from the units us, after which rest stands, and put after those of old
pub record Appends {A : Type 0} (R : Fielding) (L : A → List Chunk → Type 0) (n : ℕ) (old new : List A) (us rest : List ℕ) : Type 0 where
  pub row : List A
  pub same : new ≡ old ++ row
  pub spelt : Spells R (Row L n) row us rest

-- before any is read
pub appends_none : {A : Type 0} (R : Fielding) (L : A → List Chunk → Type 0) (vs : List A) (us : List ℕ)
    → Appends R L 0 vs vs us us
appends_none R L vs us = record { row = []; same = sym (append-nil vs); spelt = row_starts R L us }

-- after i items, m more
pub appends_more : {A : Type 0} {R : Fielding} {L : A → List Chunk → Type 0} (i m k : ℕ) {old mid new : List A}
    {us r s : List ℕ} → i + m ≡ k → Appends R L i old mid us r → Appends R L m mid new r s → Appends R L k old new us s
appends_more {L = L} i m k {old} e f g = record {
  row = f.row ++ g.row;
  same = g.same ∙ ap (λ l. l ++ g.row) f.same ∙ append_assoc old f.row g.row;
  spelt = row_spells L i m k e f.spelt g.spelt;
}

-- one item
pub appends_one : {A : Type 0} {R : Fielding} {L : A → List Chunk → Type 0} {a : A} {old new : List A} {us r : List ℕ}
    → new ≡ old ++ a ∷ [] → Spells R L a us r → Appends R L 1 old new us r
appends_one {a = a} e h = record { row = a ∷ []; same = e; spelt = row_one h }

-- after i items the next one stops
pub appends_stops_next : {A : Type 0} {R : Fielding} {L : A → List Chunk → Type 0} (i m k : ℕ) {old mid : List A}
    {us r : List ℕ} → FieldsPart R → Lawful L → Inhabited L → i + (m + 1) ≡ k → Appends R L i old mid us r
    → LeadsStops R L r (Row L k) us
appends_stops_next {L = L} i m k part law some e f = stops_next L i m k part law some (omega (arith, e)) f.spelt

-- ---- what stands in front of the items

-- some list is ahead
pub ahead_inhabited : {A : Type 0} (L : A → List Chunk → Type 0) (a : Ahead) → Inhabited L → SomeAhead a
    → Inhabited (Remaining L a)
ahead_inhabited L (items n) i h = row_inhabited i n
ahead_inhabited L (lengths is so_far closed) i h = general_inhabited i h.0 h.1
ahead_inhabited L end i h = nothing_inhabited []

-- after what stands in front there is some list
front_follows : {A : Type 0} (c : Coding) (laws : Laws c) (L : A → List Chunk → Type 0) (s : SizeRange)
    → IsSizeOfProfile s → Inhabited L → Follows (c.list_start s) (λ a. Remaining L a)
front_follows c laws L s good i = record { follow = λ a x h. ahead_inhabited L a i (laws.list_ahead s good a x h) }

-- ---- where a reader of a list stands

-- within what stands before the items
pub start_stops : {A : Type 0} (c : Coding) (laws : Laws c) (L : A → List Chunk → Type 0) (s : SizeRange) (us : List ℕ)
    → IsSizeOfProfile s → Inhabited L → LeadsStops c.ruling.fielding (c.list_start s) us (ListingOf c s L) us
start_stops c laws L s us good i = stops_on (stops_first c.ruling.fielding us (front_follows c laws L s good i)) (leads_map c.ruling.fielding after_first (Then (c.list_start s) (λ a. Remaining L a)) us).stops

-- after it
pub start_leads : {A : Type 0} (c : Coding) (laws : Laws c) (L : A → List Chunk → Type 0) (s : SizeRange)
    {ahead : Ahead} {us rest : List ℕ} → IsSizeOfProfile s → Spells c.ruling.fielding (c.list_start s) ahead us rest
    → Leads c.ruling.fielding (Remaining L ahead) rest (λ ws. ws) (ListingOf c s L) us
start_leads {A} c laws L s {ahead} {us} good h =
    leads_on (leads_second {M = λ a. Remaining L a} (fields_part_of c laws) (laws.list_start s good) h) (leads_map c.ruling.fielding after_first (Then (c.list_start s) (λ a. Remaining L a)) us)

-- what stands before the items stands in front
pub start_stands : {A : Type 0} (c : Coding) (laws : Laws c) (L : A → List Chunk → Type 0) (s : SizeRange) (us : List ℕ)
    → IsSizeOfProfile s → Inhabited L → StandsIn c.ruling.fielding (c.list_start s) us (ListingOf c s L) us
start_stands c laws L s us good i = stands_on (stands_first c.ruling.fielding us (front_follows c laws L s good i)) (stands_map c.ruling.fielding after_first (Then (c.list_start s) (λ a. Remaining L a)) us)

-- after the items vs: a list of what is ahead, put after them, is the whole list, and stands there; and each whole list
-- that the units begin with is such a one
pub record Going {A : Type 0} (c : Coding) (L : A → List Chunk → Type 0) (T : List A → List Chunk → Type 0) (us : List ℕ) (ahead : Ahead) (vs : List A) (rest : List ℕ) : Type 0 where
  pub leads : Leads c.ruling.fielding (Remaining L ahead) rest (λ ws. vs ++ ws) T us
  pub stands : StandsIn c.ruling.fielding (Remaining L ahead) rest T us
  pub only : (ws : List A) (s : List ℕ) → Spells c.ruling.fielding T ws us s
      → (xs : List A) × (ws ≡ vs ++ xs) × Spells c.ruling.fielding (Remaining L ahead) xs rest s

-- the elements that were there before, those that were read, and what is ahead
pub record FragmentsUpTo {A : Type 0} (c : Coding) (L : A → List Chunk → Type 0) (T : List A → List Chunk → Type 0) (us : List ℕ) (before : List A) (ahead : Ahead) (elements : List A) (rest : List ℕ) : Type 0 where
  pub read : List A
  pub after : elements ≡ before ++ read
  pub going : Going c L T us ahead read rest

-- after what stands before the items
pub going_starts : {A : Type 0} (c : Coding) (laws : Laws c) (L : A → List Chunk → Type 0) (s : SizeRange)
    (ahead : Ahead) (us rest : List ℕ) → IsSizeOfProfile s → Spells c.ruling.fielding (c.list_start s) ahead us rest
    → Going c L (ListingOf c s L) us ahead [] rest
going_starts c laws L s ahead us rest good h = record {
  leads = start_leads c laws L s good h;
  stands = stands_on (stands_second {M = λ a. Remaining L a} h) (stands_map c.ruling.fielding after_first (Then (c.list_start s) (λ a. Remaining L a)) us);
  only = λ ws t k.
      let w = map_source k in
      let b = then_splits w.1 in
      let o = one_front (fields_part_of c laws) (laws.list_start s good) b.earlier h in
      let later : Spells c.ruling.fielding (Remaining L ahead) w.0.1 b.rest t = subst (λ a. Spells c.ruling.fielding (Remaining L a) w.0.1 b.rest t) o.0 b.later in
      (w.0.1, w.2, subst (λ (l : List ℕ). Spells c.ruling.fielding (Remaining L ahead) w.0.1 l t) o.1 later);
}

-- none was read
pub fragments_start : {A : Type 0} (c : Coding) (L : A → List Chunk → Type 0) (us : List ℕ) (before : List A)
    (ahead : Ahead) → FragmentsUpTo c L (Remaining L ahead) us before ahead before us
fragments_start c L us before ahead = record {
  read = [];
  after = sym (append-nil before);
  going = record {
    leads = leads_here c.ruling.fielding (Remaining L ahead) us;
    stands = stands_here c.ruling.fielding (Remaining L ahead) us;
    only = λ ws s h. (ws, refl, h);
  };
}

-- the reader of a length stops
pub going_stops : {A : Type 0} {c : Coding} {L : A → List Chunk → Type 0} {T : List A → List Chunk → Type 0}
    {us rest : List ℕ} {ahead : Ahead} {vs : List A} (why : Stop) → Inhabited L
    → StopsNext c.ruling.fielding ahead rest why → Going c L T us ahead vs rest → Stops c.ruling.fielding T us why
going_stops {A} {c} {L} {T} {us} {rest} {ahead} {vs} why i h g =
    let l : Leads c.ruling.fielding (General L (At (Spanned h.counts) h.so_far h.closed)) rest (λ ws. vs ++ ws) T us = subst (λ a. Leads c.ruling.fielding (Remaining L a) rest (λ ws. vs ++ ws) T us) h.was g.leads in
    stops_by why (stops_on (stops_length rest i) l.stops) h.stops

-- nothing is ahead
pub going_ends : {A : Type 0} {c : Coding} {L : A → List Chunk → Type 0} {T : List A → List Chunk → Type 0}
    {us rest r : List ℕ} {ahead new : Ahead} {vs : List A} → Next c.ruling.fielding ahead None new rest r
    → Going c L T us ahead vs rest → Spells c.ruling.fielding T vs us r
going_ends {A} {c} {L} {T} {us} {rest} {r} {ahead} {new} {vs} h g = go ahead h.advances g.leads
  where
    go : (a : Ahead) → Advances c.ruling.fielding a None new rest r
        → Leads c.ruling.fielding (Remaining L a) rest (λ ws. vs ++ ws) T us → Spells c.ruling.fielding T vs us r
    go end e l = rw e (subst (λ ws. Spells c.ruling.fielding T ws us rest) (append-nil vs) (l.done [] rest (nothing_spells c.ruling.fielding [] rest)))
    go (items n) e l = absurd e
    go (lengths is so_far closed) e l = absurd e

-- the items that follow stop
pub going_row_stops : {A : Type 0} (c : Coding) (laws : Laws c) {L : A → List Chunk → Type 0}
    {T : List A → List Chunk → Type 0} {us rest r : List ℕ} {ahead new : Ahead} {vs : List A} {k : ℕ} → Inhabited L
    → Next c.ruling.fielding ahead (Some k) new rest r → Going c L T us ahead vs rest
    → LeadsStops c.ruling.fielding (Row L k) r T us
going_row_stops {A} c laws {L} {T} {us} {rest} {r} {ahead} {new} {vs} {k} i h g = go ahead h.advances g.leads
  where
    go : (a : Ahead) → Advances c.ruling.fielding a (Some k) new rest r
        → Leads c.ruling.fielding (Remaining L a) rest (λ ws. vs ++ ws) T us
        → LeadsStops c.ruling.fielding (Row L k) r T us
    go end e l = absurd e
    go (items n) e l = rw (e.0, e.2) l.stops
    go (lengths is so_far closed) e l = ⊎_elim
        (λ x. stops_on (leads_last L (fields_part_of c laws) i x.0).stops l.stops)
        (λ x. stops_on (subst (λ (n : ℕ). LeadsStops c.ruling.fielding (Row L n) r (General L (At (Spanned is) so_far closed)) rest) (sym x.2) (stops_fragment L (fields_part_of c laws) i x.1)) l.stops)
        e.read

-- what is left after a fragment
pub left_ahead : {A : Type 0} (c : Coding) (L : A → List Chunk → Type 0) (is : List (ℕ × Option ℕ)) (so_far k m : ℕ)
    (closed : Bool) {us r : List ℕ} → Spells c.ruling.fielding (Header (At (Spanned is) so_far closed)) (fragment m) us r
    → k ≡ 16384 * m
    → Same (General L (Left (At (Spanned is) so_far closed) m)) (Remaining L (lengths is (so_far + k) (nat_lt m 4)))
left_ahead c L is so_far k m false h e = rw e (general_left L (Spanned is) so_far m)
left_ahead c L is so_far k m true h e =
    let b : Blocks (At (Spanned is) so_far true) m = header_tells h.spelt in
    let f : 16384 * m + b.rest < 16384 = b.left.member.largest refl in
    absurd (omega (arith, b.some))

-- they have been read
pub going_further : {A : Type 0} (c : Coding) (laws : Laws c) {L : A → List Chunk → Type 0}
    {T : List A → List Chunk → Type 0} {us rest r t : List ℕ} {ahead new : Ahead} {vs ws : List A} {k : ℕ} → Inhabited L
    → Lawful L → Next c.ruling.fielding ahead (Some k) new rest r → Appends c.ruling.fielding L k vs ws r t
    → Going c L T us ahead vs rest → Going c L T us new ws t
going_further {A} c laws {L} {T} {us} {rest} {r} {t} {ahead} {new} {vs} {ws} {k} i law h f g = record { leads = go ahead h.advances g.leads; stands = stand ahead h.advances g.stands; only = λ xs s x. only ahead h.advances xs s (g.only xs s x) }
  where
    put_after : List A → List A
    put_after xs = vs ++ (f.row ++ xs)

    moved : (a : Ahead) → Leads c.ruling.fielding (Remaining L a) t (λ xs. vs ++ (f.row ++ xs)) T us
        → Leads c.ruling.fielding (Remaining L a) t (λ xs. ws ++ xs) T us
    moved a l = record { done = λ b q x. rw (f.same, append_assoc vs f.row b) (l.done b q x); stops = l.stops }

    ended : Leads c.ruling.fielding (Row L k) r (λ xs. vs ++ xs) T us → new ≡ end
        → Leads c.ruling.fielding (Remaining L new) t (λ xs. ws ++ xs) T us
    ended l e = rw e (moved end (record { done = λ b q x. done b q x; stops = record { short = λ x. absurd (x.none [] t (nothing_spells c.ruling.fielding [] t)); refused = λ n x. absurd (x.none [] t (nothing_spells c.ruling.fielding [] t)) } }))
      where
        done : (b : List A) (q : List ℕ) → Spells c.ruling.fielding (Nothing []) b t q
            → Spells c.ruling.fielding T (vs ++ (f.row ++ b)) us q
        done b q x =
            let same : t ≡ q = x.split ∙ ap (λ cs. flat c.ruling.fielding.spelled cs ++ q) x.spelt.empty in
            let none : f.row ++ b ≡ f.row = ap (λ cs. f.row ++ cs) x.spelt.same ∙ append-nil f.row in
            rw (← same, none) (l.done f.row t f.spelt)

    go : (a : Ahead) → Advances c.ruling.fielding a (Some k) new rest r
        → Leads c.ruling.fielding (Remaining L a) rest (λ xs. vs ++ xs) T us
        → Leads c.ruling.fielding (Remaining L new) t (λ xs. ws ++ xs) T us
    go end e l = absurd e
    go (items n) e l = ended (rw (e.0, e.2) l) e.1
    go (lengths is so_far closed) e l = ⊎_elim
        (λ x. ended (leads_on (leads_last L (fields_part_of c laws) i x.0) l) x.1)
        (λ x. (let b : Spells c.ruling.fielding (Row L (16384 * x.0)) f.row r t = subst (λ (n : ℕ). Spells c.ruling.fielding (Row L n) f.row r t) x.2 f.spelt in
        rw x.3 (moved (lengths is (so_far + k) (nat_lt x.0 4)) (leads_on (leads_on (leads_same c.ruling.fielding t (same_flip (left_ahead c L is so_far k x.0 closed x.1 x.2))) (leads_rest L (fields_part_of c laws) i law x.1 b)) l))))
        e.read

    -- what is ahead stands after them
    stand : (a : Ahead) → Advances c.ruling.fielding a (Some k) new rest r
        → StandsIn c.ruling.fielding (Remaining L a) rest T us → StandsIn c.ruling.fielding (Remaining L new) t T us
    stand end e l = absurd e
    stand (items n) e l =
        let all : StandsIn c.ruling.fielding (Row L k) r T us = rw (e.0, e.2) l in
        rw e.1 (stands_on (stands_end f.spelt) all)
    stand (lengths is so_far closed) e l = ⊎_elim
        (λ x. rw x.1 (stands_on (stands_end f.spelt) (stands_on (stands_last L x.0) l)))
        (λ x. (let b : Spells c.ruling.fielding (Row L (16384 * x.0)) f.row r t = subst (λ (n : ℕ). Spells c.ruling.fielding (Row L n) f.row r t) x.2 f.spelt in
        rw x.3 (stands_on (stands_on (stands_same c.ruling.fielding t (same_flip (left_ahead c L is so_far k x.0 closed x.1 x.2))) (stands_rest L x.1 b)) l)))
        e.read

    -- a whole list has them
    Others : List A → List ℕ → Ahead → Type 0
    Others xs s a = (ys : List A) × (xs ≡ vs ++ ys) × Spells c.ruling.fielding (Remaining L a) ys rest s

    ended_only : (xs : List A) (s : List ℕ) (ys : List A) → xs ≡ vs ++ ys → Spells c.ruling.fielding (Row L k) ys r s
        → (zs : List A) × (xs ≡ ws ++ zs) × Spells c.ruling.fielding (Nothing []) zs t s
    ended_only xs s ys e x =
        let o = one_front (fields_part_of c laws) (row_lawful law k) x f.spelt in
        ([], e ∙ ap (λ (l : List A). vs ++ l) o.0 ∙ sym f.same ∙ sym (append-nil ws), rw o.1 (nothing_spells c.ruling.fielding [] t))

    only : (a : Ahead) → Advances c.ruling.fielding a (Some k) new rest r → (xs : List A) (s : List ℕ) → Others xs s a
        → (zs : List A) × (xs ≡ ws ++ zs) × Spells c.ruling.fielding (Remaining L new) zs t s
    only end e xs s o = absurd e
    only (items n) e xs s o =
        let x : Spells c.ruling.fielding (Row L k) o.0 r s = rw (e.0, e.2) o.2 in
        rw e.1 (ended_only xs s o.0 o.1 x)
    only (lengths is so_far closed) e xs s o = ⊎_elim
        (λ x. rw x.1 (ended_only xs s o.0 o.1 (general_last_only L (fields_part_of c laws) i x.0 o.2)))
        (λ x.
        (let b : Spells c.ruling.fielding (Row L (16384 * x.0)) f.row r t = subst (λ (n : ℕ). Spells c.ruling.fielding (Row L n) f.row r t) x.2 f.spelt in
        let p = general_rest_only L (fields_part_of c laws) i law x.1 b o.2 in
        let all : xs ≡ ws ++ p.0 = o.1 ∙ ap (λ (l : List A). vs ++ l) p.2 ∙ sym (append_assoc vs f.row p.0) ∙ ap (λ (l : List A). l ++ p.0) (sym f.same) in
        rw x.3 (p.0, all, same_spells (left_ahead c L is so_far k x.0 closed x.1 x.2) p.1)))
        e.read

-- ---- each step comes nearer to the end

-- whether a step is left
abbrev pub steps_left : Ahead → ℕ
steps_left end = 0
steps_left _ = 1

-- what is left after a spelling is not longer
spells_shorter : {A : Type 0} {R : Fielding} {L : A → List Chunk → Type 0} {v : A} {us r : List ℕ} → Spells R L v us r
    → length r ≤ length us
spells_shorter {R = R} {r = r} h = omega (arith, ap length h.split ∙ length-append (flat R.spelled h.chunks) r)

-- and after a length it is shorter
header_shorter : {R : Fielding} {S : ℕ → Type 0} {l : Length} {us r : List ℕ} → Spells R (Header S) l us r
    → length r < length us
header_shorter {R} {S} {l} {us} {r} h = go h.spelt.source h.spelt.spelt.side
  where
    shorter : (u : ℕ) (rest : List Chunk) → h.chunks ≡ one u ∷ rest → length r < length us
    shorter u rest e = (let d = ap length h.split ∙ ap (λ cs. length (flat R.spelled cs ++ r)) e ∙ length-append (flat R.spelled (one u ∷ rest)) r in omega (arith, d))

    go : (w : ℕ ⊎ (ℕ ⊎ ℕ))
        → Branch {A = ℕ} {V = ℕ ⊎ (ℕ ⊎ ℕ)} 0 inl (Plain (InSet 7 (Few S))) w h.chunks
        ⊎ Branch {A = ℕ ⊎ ℕ} {V = ℕ ⊎ (ℕ ⊎ ℕ)} 1 inr
        (Fork (Plain (InSet 14 (Many S))) (Plain (InSet 6 (Blocks S)))) w h.chunks → length r < length us
    go w (inl b) = shorter 0 b.rest b.same
    go w (inr b) = shorter 1 b.rest b.same

-- one step
pub going_nearer : {A : Type 0} {R : Fielding} {L : A → List Chunk → Type 0} {rest r t : List ℕ} {ahead new : Ahead}
    {vs ws : List A} {k : ℕ} → Next R ahead (Some k) new rest r → Appends R L k vs ws r t
    → steps_left new + length t < steps_left ahead + length rest
going_nearer {R = R} {rest = rest} {r} {t} {ahead} {new} {k = k} h f = go ahead h.advances
  where
    at_most : (a : Ahead) → steps_left a ≤ 1
    at_most end = omega arith
    at_most (items n) = omega arith
    at_most (lengths is so_far closed) = omega arith

    go : (a : Ahead) → Advances R a (Some k) new rest r → steps_left new + length t < steps_left a + length rest
    go end e = absurd e
    go (items n) e = (let none : steps_left new ≡ 0 = ap steps_left e.1 in let same : length r ≡ length rest = ap length e.2 in omega (arith, spells_shorter f.spelt))
    go (lengths is so_far closed) e = ⊎_elim (λ x. omega (arith, at_most new, spells_shorter f.spelt, header_shorter x.0)) (λ x. omega (arith, at_most new, spells_shorter f.spelt, header_shorter x.1)) e.read

-- ---- the elements

-- after i elements of a row the next one stops
pub going_next_stops : {A : Type 0} (c : Coding) (laws : Laws c) {L : A → List Chunk → Type 0}
    {T : List A → List Chunk → Type 0} {ahead new : Ahead} {us rest r q : List ℕ} {vs ws : List A} (i count : ℕ)
    → Inhabited L → Lawful L → i + 1 ≤ count → Next c.ruling.fielding ahead (Some count) new rest r
    → Appends c.ruling.fielding L i vs ws r q → Going c L T us ahead vs rest → LeadsStops c.ruling.fielding L q T us
going_next_stops c laws i count some law l next so_far going =
    stops_on (appends_stops_next i (count - (i + 1)) count (fields_part_of c laws) law some (omega (arith, l)) so_far) (going_row_stops c laws some next going)

-- the row that follows stands there
going_row_stands : {A : Type 0} (c : Coding) {L : A → List Chunk → Type 0} {T : List A → List Chunk → Type 0} {us rest r : List ℕ}
    {ahead new : Ahead} {vs : List A} {k : ℕ} → Inhabited L → Next c.ruling.fielding ahead (Some k) new rest r
    → Going c L T us ahead vs rest → StandsIn c.ruling.fielding (Row L k) r T us
going_row_stands {A} c {L} {T} {us} {rest} {r} {ahead} {new} {vs} {k} i h g = go ahead h.advances g.stands
  where
    go : (a : Ahead) → Advances c.ruling.fielding a (Some k) new rest r
        → StandsIn c.ruling.fielding (Remaining L a) rest T us → StandsIn c.ruling.fielding (Row L k) r T us
    go end e l = absurd e
    go (items n) e l = rw (e.0, e.2) l
    go (lengths is so_far closed) e l = ⊎_elim
        (λ x. stands_on (stands_last L x.0) l)
        (λ x. stands_on (subst (λ (n : ℕ). StandsIn c.ruling.fielding (Row L n) r (General L (At (Spanned is) so_far closed)) rest) (sym x.2) (stands_fragment L i x.1)) l)
        e.read

-- and after i elements of it the next one
pub going_next_stands : {A : Type 0} (c : Coding) {L : A → List Chunk → Type 0} {T : List A → List Chunk → Type 0}
    {ahead new : Ahead} {us rest r q : List ℕ} {vs ws : List A} (i count : ℕ) → Inhabited L → i + 1 ≤ count
    → Next c.ruling.fielding ahead (Some count) new rest r → Appends c.ruling.fielding L i vs ws r q
    → Going c L T us ahead vs rest → StandsIn c.ruling.fielding L q T us
going_next_stands c {L} i count some l next so_far going =
    stands_on (stands_next L i (count - (i + 1)) count some (omega (arith, l)) so_far.spelt) (going_row_stands c some next going)

-- the elements of the fragment have been read
pub fragments_further : {A : Type 0} (c : Coding) (laws : Laws c) {L : A → List Chunk → Type 0}
    {T : List A → List Chunk → Type 0} {us rest r t : List ℕ} {before : List A} {ahead new : Ahead} {vs ws : List A}
    {k : ℕ} → Inhabited L → Lawful L → Next c.ruling.fielding ahead (Some k) new rest r
    → Spells c.ruling.fielding (After vs (Row L k)) ws r t
    → FragmentsUpTo c L T us before ahead vs rest → FragmentsUpTo c L T us before new ws t
fragments_further c laws {L} {before = before} {vs = vs} {ws} i law next h f =
    let w = map_source h in
    record {
      read = f.read ++ w.0;
      after = w.2 ∙ ap (λ l. l ++ w.0) f.after ∙ append_assoc before f.read w.0;
      going = going_further c laws i law next (record { row = w.0; same = refl; spelt = w.1 }) f.going;
    }

-- nothing is ahead
pub fragments_end : {A : Type 0} {c : Coding} {L : A → List Chunk → Type 0} {T : List A → List Chunk → Type 0}
    {us rest r : List ℕ} {before : List A} {ahead new : Ahead} {vs : List A}
    → Next c.ruling.fielding ahead None new rest r → FragmentsUpTo c L T us before ahead vs rest
    → Spells c.ruling.fielding (After before T) vs us r
fragments_end {before = before} next f = rw f.after (map_spells {f = λ es. before ++ es} (going_ends next f.going))

-- all elements have been read
pub appends_end : {A : Type 0} {R : Fielding} {L : A → List Chunk → Type 0} {n : ℕ} {old new : List A} {us r : List ℕ}
    → Appends R L n old new us r → Spells R (After old (Row L n)) new us r
appends_end {old = old} h = rw h.same (map_spells {f = λ es. old ++ es} h.spelt)

-- they have been read as a row after others
pub row_appends : {A : Type 0} {R : Fielding} {L : A → List Chunk → Type 0} {n : ℕ} {old new : List A} {us r : List ℕ}
    → Spells R (After old (Row L n)) new us r → Appends R L n old new us r
row_appends h =
    let w = map_source h in
    record { row = w.0; same = w.2; spelt = w.1 }

-- ---- the type

-- the size of a SEQUENCE OF of the profile is of the profile
pub list_size : (t : Shape) (s : SizeRange) → InProfile (sequence_of t s) → IsSizeOfProfile s
list_size t s good = record {
  ordered = left_false (size_above s) (somewhere empty_range t) (good EmptyRange);
  small = left_false (large_size (Some s)) (somewhere size_too_large t) (good SizeTooLarge);
  useful = left_false (is_every_length (Some s)) (somewhere useless_mark t) (good UselessMark);
}

-- a list stands in the SEQUENCE OF
pub list_stands : (c : Coding) (laws : Laws c) (t : Shape) (s : SizeRange) (us : List ℕ) → InProfile (sequence_of t s)
    → StandsIn c.ruling.fielding (ListingOf c s (Spelt c.code None t)) us (Spelt c.code None (sequence_of t s)) us
list_stands c laws t s us good =
    stands_on (stands_map c.ruling.fielding (λ vs. elements (elements_of vs)) (ListingOf c s (Spelt c.code None t)) us) (stands_same c.ruling.fielding us (laws.lists t s good))

-- SEQUENCE OF
pub list_leads : (c : Coding) (laws : Laws c) (t : Shape) (s : SizeRange) (us : List ℕ) → InProfile (sequence_of t s)
    → Leads c.ruling.fielding (ListingOf c s (Spelt c.code None t)) us (λ vs. elements (elements_of vs))
    (Spelt c.code None (sequence_of t s)) us
list_leads c laws t s us good =
    leads_on (leads_map c.ruling.fielding (λ vs. elements (elements_of vs)) (ListingOf c s (Spelt c.code None t)) us) (leads_same c.ruling.fielding us (laws.lists t s good))
