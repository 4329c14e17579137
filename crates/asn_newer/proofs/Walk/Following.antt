-- What is read after what was read before: fields that are skipped, entries of a SEQUENCE, elements of a list.
use Rattle.std.proofs.Common.{◌≡◌, ◌≤◌, ◌<◌, ◌+◌, ◌/◌, ◌%◌, ◌^◌, ◌⊎◌, inl, inr, ⊎_elim, ℕ, suc, Bool, true, false, List, [], ◌∷◌, ◌++◌, length, map, take, drop, Option, Some, None, refl, sym, ap, subst, ◌∙◌, append_assoc, arith}
use Rattle.std.proofs.lemmas.Bool.{true≢false}
use Rattle.std.proofs.lemmas.List.{append-nil}
use Rattle.std.proofs.Math.Seq.{take-append_seam, drop-append_seam}
use Rattle.asn_values.specs.Datum.{Datum}
use Rattle.asn_values.specs.Shape.{Shape, Demand, must, optional, default, Fields, no_fields, field}
use Rattle.asn_values.specs.Parts.{AreOfProfile, IsGoodDemand}
use Rattle.asn_values.specs.Profile.{InProfile}
use Rattle.asn_values.specs.View.{Part, fields_of, part_of_field, shape_of}
use Rattle.asn_values.specs.declared.types.Field.{Field}
use Rattle.asn_values.specs.declared.types.Need.TheVariants as needs
use Rattle.asn_values.proofs.Components.{shape_of_part}
use Rattle.asn_bits.specs.Numbers.{bits}
use Rattle.asn_bits.specs.Sink.{bit_of}
use Rattle.asn_rules.specs.Chunks.{Chunk, open_field, flat}
use Rattle.asn_rules.specs.Components.{has_presence_bit}
use Rattle.asn_rules.specs.Frames.{Frame}
use Rattle.asn_rules.specs.Languages.{Spells, NoSpelling, Then, Map, Nothing}
use Rattle.asn_rules.specs.Listed.{Spelt, bitmap_length}
use Rattle.asn_rules.specs.Live.{Fielding}
use Rattle.asn_rules.proofs.Languages.Parts.{map_source, map_spells, nothing_spells}
use Rattle.asn_rules.proofs.Languages.Then.{then_none_first}
use Rattle.asn_walk.specs.Coding.{Coding, absent_entries}
use Rattle.asn_walk.proofs.Widths.{width_more, width_same, demand_of_part}
use Rattle.asn_walk.specs.declared.presence.PresenceBits.{PresenceBits}
use Rattle.asn_newer.specs.Bitmaps.{NextBit, bits_left}
use Rattle.asn_newer.specs.declared.path.PathStep.{PathStep}
use Rattle.asn_newer.specs.declared.path.PathStep.TheVariants as step
use Rattle.asn_newer.specs.Skipped.{SkippedAt, Reading, Entries, Inside, skipped_here, inside, part_read, nothing_skipped, entry_read, entry_left}
use Rattle.asn_newer.specs.Loose.{LooseCoding, AnyOctets, Unknown, AllUnknown, Known, Loose, LooseEach, LooseOpen}
use Rattle.asn_newer.specs.Walking.{LooseEntry, ReadingAfter, EntriesAfter, FieldsAfter, FieldAfter}
use Rattle.asn_newer.specs.Ways.{OneWay, WayLaws}
use Rattle.asn_newer.proofs.Walk.Halts.{NoneOn, Onward, on, mapped, second, none_mapped, field_read, no_field, held}
use Rattle.asn_newer.proofs.Law.OneWay.{map_way, spelt_way}
use Rattle.asn_newer.proofs.Law.OneReading.{loose_way, known_way, unknown_way}

-- ---- views

-- another form of the view
pub seen_as : {A B : Type 0} {R : Fielding} {M : B → List Chunk → Type 0} {vs : List ℕ} {f g : B → A} {L : A → List Chunk → Type 0} {us : List ℕ} → ((b : B) → f b ≡ g b) → Onward R M vs f L us → Onward R M vs g L us
seen_as {R = R} {L = L} {us = us} e o = record { done = λ b r h. subst (λ a. Spells R L a us r) (e b) (o.done b r h); none = o.none }

-- nothing under a view, so nothing
pub unmapped : {A B : Type 0} {R : Fielding} {f : A → B} {L : A → List Chunk → Type 0} {us : List ℕ} → NoSpelling R (Map f L) us → NoSpelling R L us
unmapped {f = f} n = λ v r h. n (f v) r (map_spells {f = f} h)

-- ---- values, after fields that were skipped before

-- the fields that were skipped in a value
pub record Took {A : Type 0} (R : Fielding) (L : A × List SkippedAt → List Chunk → Type 0) (before : List SkippedAt) (v : A) (after : List SkippedAt) (us r : List ℕ) : Type 0 where
  pub skipped : List SkippedAt
  pub same : after ≡ before ++ skipped
  pub spelt : Spells R L (v, skipped) us r

pub took : {A : Type 0} {R : Fielding} {L : A × List SkippedAt → List Chunk → Type 0} {before : List SkippedAt} {v : A} {after : List SkippedAt} {us r : List ℕ} → Spells R (ReadingAfter before L) (v, after) us r → Took R L before v after us r
took {A} {R} {L} {before} {v} {after} {us} {r} h =
    let m = map_source h in
    record { skipped = m.0.1; same = ap (λ (p : A × List SkippedAt). p.1) m.2; spelt = subst (λ (a : A). Spells R L (a, m.0.1) us r) (sym (ap (λ (p : A × List SkippedAt). p.0) m.2)) m.1 }

pub taken : {A : Type 0} {R : Fielding} {L : A × List SkippedAt → List Chunk → Type 0} {before : List SkippedAt} {v : A} {after : List SkippedAt} {us r : List ℕ} → Took R L before v after us r → Spells R (ReadingAfter before L) (v, after) us r
taken {A} {R} {L} {before} {v} {after} {us} {r} t = subst (λ (s : List SkippedAt). Spells R (ReadingAfter before L) (v, s) us r) (sym t.same) (map_spells {f = λ p. (p.0, before ++ p.1)} t.spelt)

-- where nothing was skipped
pub none_taken : {A : Type 0} {R : Fielding} {L : A × List SkippedAt → List Chunk → Type 0} (before : List SkippedAt) {v : A} {us r : List ℕ} → Spells R L (v, []) us r → Spells R (ReadingAfter before L) (v, before) us r
none_taken before h = taken (record { skipped = []; same = sym (append-nil before); spelt = h })

-- from part to whole, where the view leaves alone what was skipped
pub taken_on : {A B : Type 0} {R : Fielding} {M : B × List SkippedAt → List Chunk → Type 0} {vs : List ℕ} (f : B → A) {L : A × List SkippedAt → List Chunk → Type 0} {us r : List ℕ} (before : List SkippedAt) (v : B) {after : List SkippedAt}
    → Onward R M vs (λ p. (f p.0, p.1)) L us → Spells R (ReadingAfter before M) (v, after) vs r → Spells R (ReadingAfter before L) (f v, after) us r
taken_on f {r = r} before v o h =
    let t = took h in
    taken (record { skipped = t.skipped; same = t.same; spelt = o.done (v, t.skipped) r t.spelt })

-- ---- what was read of a part

-- from the part to the whole, with what was skipped in it after what was skipped before
pub part_taken : {R : Fielding} {L : Reading → List Chunk → Type 0} (s : PathStep) (n : ℕ) (before all : List SkippedAt) (v : Datum) {after : List SkippedAt} {us r : List ℕ} → n ≡ length before → after ≡ take n all ++ map (inside s) (drop n all)
    → Spells R (ReadingAfter before L) (v, all) us r → Spells R (ReadingAfter before (Inside s L)) (v, after) us r
part_taken s n before all v e f h =
    let t = took h in
    let front : take n all ≡ before = ap (take n) t.same ∙ ap (λ (k : ℕ). take k (before ++ t.skipped)) e ∙ take-append_seam before t.skipped in
    let back : drop n all ≡ t.skipped = ap (drop n) t.same ∙ ap (λ (k : ℕ). drop k (before ++ t.skipped)) e ∙ drop-append_seam before t.skipped in
    taken (record {
      skipped = map (inside s) t.skipped;
      same = f ∙ ap (λ (x : List SkippedAt). x ++ map (inside s) (drop n all)) front ∙ ap (λ (x : List SkippedAt). before ++ map (inside s) x) back;
      spelt = map_spells {f = part_read s} t.spelt;
    })

-- ---- fields that are skipped

module _ (c : Coding) (place : ℕ) where
  pub field_skipped : {os us r : List ℕ} (before : List SkippedAt) → Spells c.ruling.fielding (Frame c.ruling.fielding open_field) os us r → Spells c.ruling.fielding (FieldAfter before (Unknown c place)) (before ++ skipped_here place os ∷ []) us r
  field_skipped {os} before h =
      let k = held h in
      map_spells {f = λ (s : SkippedAt). before ++ s ∷ []} (map_spells {f = skipped_here place} (field_read {C = AnyOctets c} {a = os} h (record { same = refl; octets = k.2; some = k.0 })))

  pub none_skipped : {us : List ℕ} → NoSpelling c.ruling.fielding (Frame c.ruling.fielding open_field) us → NoSpelling c.ruling.fielding (Unknown c place) us
  none_skipped n = none_mapped (no_field n)

-- ---- presence bits

-- the bits that are left begin with the next one
bit_split : (left after bitmap bit : ℕ) → after + 1 ≡ left → bit ≡ bitmap / 2 ^ after % 2 → bits left bitmap ≡ bit ∷ bits after bitmap
bit_split left after bitmap bit d b =
    let l : left ≡ suc after = omega (arith, d) in
    ap (λ (n : ℕ). bits n bitmap) l ∙ ap (λ (x : ℕ). x ∷ bits after bitmap) (sym b)

-- the next one, as the program takes it
pub bit_set : {old new : PresenceBits} {b : Bool} → NextBit old new b → b ≡ true → bits_left old ≡ 1 ∷ bits_left new
bit_set {old} {new} {b} n e = ⊎_elim (λ p. absurd (true≢false (sym e ∙ p.2))) (λ p. p ∙ ap (λ (x : Bool). bit_of x ∷ bits_left new) e) n.next

pub bit_unset : {old new : PresenceBits} {b : Bool} → NextBit old new b → b ≡ false → ((bits_left old ≡ []) × (bits_left new ≡ [])) ⊎ (bits_left old ≡ 0 ∷ bits_left new)
bit_unset {old} {new} {b} n e = ⊎_elim (λ p. inl (p.0, p.1)) (λ p. inr (p ∙ ap (λ (x : Bool). bit_of x ∷ bits_left new) e)) n.next

-- ---- fields under their presence bits

-- those that were skipped so far, and those that are skipped next
pub record SkippedUpTo (c : Coding) (T : List SkippedAt → List Chunk → Type 0) (us : List ℕ) (place : ℕ) (present : List ℕ) (skipped : List SkippedAt) (vs : List ℕ) : Type 0 where
  pub onward : Onward c.ruling.fielding (AllUnknown c place present) vs (λ s. skipped ++ s) T us

pub skips_start : (c : Coding) (before : List SkippedAt) (place : ℕ) (present us : List ℕ) → SkippedUpTo c (FieldsAfter before (AllUnknown c place present)) us place present before us
skips_start c before place present us = record { onward = mapped c.ruling.fielding (λ s. before ++ s) (AllUnknown c place present) us }

-- ---- where a reader of entries stands

-- a component that is there and has no DEFAULT
pub entry_on : (l : LooseCoding) (i : ℕ) (x : Field) (us : List ℕ) → (x.need ≡ needs.Must) ⊎ (x.need ≡ needs.Optional)
    → Onward l.coding.ruling.fielding (Inside (step.Component i) (Loose l (shape_of x.ty))) us (λ (r : Reading). (Some r.0, r.1)) (LooseEntry l i (part_of_field x).demand (part_of_field x).shape true) us
entry_on l i x us (inl e) = rw (shape_of_part x, demand_of_part x, e) (mapped l.coding.ruling.fielding (λ (r : Reading). (Some r.0, r.1)) (Inside (step.Component i) (Loose l (shape_of x.ty))) us)
entry_on l i x us (inr e) = rw (shape_of_part x, demand_of_part x, e) (mapped l.coding.ruling.fielding (λ (r : Reading). (Some r.0, r.1)) (Inside (step.Component i) (Loose l (shape_of x.ty))) us)

abbrev pub put : List (Option Datum) → List SkippedAt → Entries → Entries
put es ss p = (es ++ p.0, ss ++ p.1)

pub record EachUpTo (l : LooseCoding) (T : Entries → List Chunk → Type 0) (us : List ℕ) (i : ℕ) (rest : List Part) (left bitmap : ℕ) (entries : List (Option Datum)) (skipped : List SkippedAt) (vs : List ℕ) : Type 0 where
  pub of_profile : AreOfProfile (fields_of rest)
  pub width : left ≡ bitmap_length (fields_of rest)
  pub few : left ≤ 64
  pub onward : Onward l.coding.ruling.fielding (LooseEach l i (fields_of rest) (bits left bitmap)) vs (put entries skipped) T us

pub record EachNext (l : LooseCoding) (T : Entries → List Chunk → Type 0) (us : List ℕ) (i next : ℕ) (p : Part) (rest : List Part) (after bitmap : ℕ) (present : Bool) (entries : List (Option Datum)) (skipped : List SkippedAt) (vs : List ℕ) : Type 0 where
  pub of_profile : InProfile p.shape
  pub good : IsGoodDemand p.demand p.shape
  pub none : NoneOn l.coding.ruling.fielding (LooseEntry l i p.demand p.shape present) vs T us
  pub more : (e : Option Datum) (now : List SkippedAt) (r : List ℕ) → Spells l.coding.ruling.fielding (ReadingAfter skipped (LooseEntry l i p.demand p.shape present)) (e, now) vs r → EachUpTo l T us next rest after bitmap (entries ++ e ∷ []) now r

pub record OpenUpTo (l : LooseCoding) (T : Entries → List Chunk → Type 0) (us : List ℕ) (place : ℕ) (rest : List Part) (present : List ℕ) (entries : List (Option Datum)) (skipped : List SkippedAt) (vs : List ℕ) : Type 0 where
  pub of_profile : AreOfProfile (fields_of rest)
  pub onward : Onward l.coding.ruling.fielding (LooseOpen l place (fields_of rest) present) vs (put entries skipped) T us

-- none was read
pub each_starts : (l : LooseCoding) (es : List (Option Datum)) (ss : List SkippedAt) (all : List Part) (left bitmap : ℕ) (us : List ℕ) → AreOfProfile (fields_of all) → left ≡ bitmap_length (fields_of all) → left ≤ 64
    → EachUpTo l (EntriesAfter es ss (LooseEach l 0 (fields_of all) (bits left bitmap))) us 0 all left bitmap es ss us
each_starts l es ss all left bitmap us good e f = record { of_profile = good; width = e; few = f; onward = mapped l.coding.ruling.fielding (put es ss) (LooseEach l 0 (fields_of all) (bits left bitmap)) us }

pub open_starts : (l : LooseCoding) (es : List (Option Datum)) (ss : List SkippedAt) (all : List Part) (place : ℕ) (present us : List ℕ) → AreOfProfile (fields_of all)
    → OpenUpTo l (EntriesAfter es ss (LooseOpen l place (fields_of all) present)) us place all present es ss us
open_starts l es ss all place present us good = record { of_profile = good; onward = mapped l.coding.ruling.fielding (put es ss) (LooseOpen l place (fields_of all) present) us }

module _ (l : LooseCoding) (h : WayLaws l) where
  abbrev R : Fielding
  R = l.coding.ruling.fielding

  module _ {T : List SkippedAt → List Chunk → Type 0} {us vs : List ℕ} {skipped : List SkippedAt} where
    pub skips_absent : {place next : ℕ} {present after : List ℕ} → present ≡ 0 ∷ after → suc place ≡ next → SkippedUpTo l.coding T us place present skipped vs → SkippedUpTo l.coding T us next after skipped vs
    skips_absent {place} {next} {present} {after} e f o =
        let o' : SkippedUpTo l.coding T us place (0 ∷ after) skipped vs = subst (λ (bs : List ℕ). SkippedUpTo l.coding T us place bs skipped vs) e o in
        subst (λ (n : ℕ). SkippedUpTo l.coding T us n after skipped vs) f (record { onward = o'.onward })

    pub skips_present : {place next : ℕ} {present after : List ℕ} {now : List SkippedAt} {r : List ℕ} → present ≡ 1 ∷ after → suc place ≡ next → Spells R (FieldAfter skipped (Unknown l.coding place)) now vs r → SkippedUpTo l.coding T us place present skipped vs → SkippedUpTo l.coding T us next after now r
    skips_present {place} {next} {present} {after} {now} {r} e f k o =
        let o' : SkippedUpTo l.coding T us place (1 ∷ after) skipped vs = subst (λ (bs : List ℕ). SkippedUpTo l.coding T us place bs skipped vs) e o in
        let m = map_source k in
        let two = on (second {M = λ _. AllUnknown l.coding (suc place) after} (unknown_way l h place) m.1) (mapped R (λ (p : SkippedAt × List SkippedAt). p.0 ∷ p.1) (Then (Unknown l.coding place) (λ _. AllUnknown l.coding (suc place) after)) vs) in
        let g : SkippedUpTo l.coding T us (suc place) after now r = record { onward = seen_as (λ s. sym (append_assoc skipped (m.0 ∷ []) s) ∙ ap (λ (x : List SkippedAt). x ++ s) (sym m.2)) (on two o'.onward) } in
        subst (λ (n : ℕ). SkippedUpTo l.coding T us n after now r) f g

    pub skips_none : {place : ℕ} {present after : List ℕ} → present ≡ 1 ∷ after → SkippedUpTo l.coding T us place present skipped vs → NoneOn R (Unknown l.coding place) vs T us
    skips_none {place} {present} {after} e o further n =
        let o' : SkippedUpTo l.coding T us place (1 ∷ after) skipped vs = subst (λ (bs : List ℕ). SkippedUpTo l.coding T us place bs skipped vs) e o in
        o'.onward.none further (none_mapped (then_none_first n))

    pub skips_end : {place : ℕ} {present : List ℕ} → present ≡ [] → SkippedUpTo l.coding T us place present skipped vs → Spells R T skipped us vs
    skips_end {place} {present} e o =
        let o' : SkippedUpTo l.coding T us place [] skipped vs = subst (λ (bs : List ℕ). SkippedUpTo l.coding T us place bs skipped vs) e o in
        subst (λ (s : List SkippedAt). Spells R T s us vs) (append-nil skipped) (o'.onward.done [] vs (nothing_spells R [] vs))

  -- ---- one entry

  -- an entry that was read, and those after it
  pub record Step (E : Option Datum × List SkippedAt → List Chunk → Type 0) (M W : Entries → List Chunk → Type 0) (vs : List ℕ) : Type 0 where
    pub none : NoneOn R E vs W vs
    pub more : (e : Option Datum) (s : List SkippedAt) (r : List ℕ) → Spells R E (e, s) vs r → Onward R M r (λ p. (e ∷ p.0, s ++ p.1)) W vs

  abbrev some_of : Reading → Option Datum × List SkippedAt
  some_of r = (Some r.0, r.1)

  pub came : (L : Reading → List Chunk → Type 0) (M : Entries → List Chunk → Type 0) (vs : List ℕ) → OneWay R L → Step (Map some_of L) M (Map entry_read (Then L (λ _. M))) vs
  came L M vs way = record {
    none = λ further n. none_mapped (then_none_first (unmapped n));
    more = λ e s r k.
        let m = map_source k in
        seen_as (λ p. ap (λ (x : Option Datum × List SkippedAt). (x.0 ∷ p.0, x.1 ++ p.1)) (sym m.2)) (on (second {M = λ _. M} way m.1) (mapped R entry_read (Then L (λ _. M)) vs));
  }

  pub left_out : (a : Option Datum) (M : Entries → List Chunk → Type 0) (vs : List ℕ) → Step (Nothing (a, [])) M (Map (entry_left a) M) vs
  left_out a M vs = record {
    none = λ further n. absurd (n (a, []) (vs ++ further) (nothing_spells R (a, []) (vs ++ further)));
    more = λ e s r k.
        let same : vs ≡ r = k.split ∙ ap (λ (cs : List Chunk). flat R.spelled cs ++ r) k.spelt.empty in
        let o : Onward R M r (entry_left a) (Map (entry_left a) M) vs = subst (λ (t : List ℕ). Onward R M t (entry_left a) (Map (entry_left a) M) vs) same (mapped R (entry_left a) M vs) in
        seen_as (λ p. ap (λ (x : Option Datum × List SkippedAt). (x.0 ∷ p.0, x.1 ++ p.1)) (sym k.spelt.same)) o;
  }

  -- the component of a root
  pub root_step : (i : ℕ) (name : List ℕ) (d : Demand) (t : Shape) (fs : Fields) (present : Bool) (bs after vs : List ℕ) → InProfile t
      → (has_presence_bit d ≡ false → (present ≡ true) × (bs ≡ after)) → (has_presence_bit d ≡ true → bs ≡ bit_of present ∷ after)
      → Step (LooseEntry l i d t present) (LooseEach l (suc i) fs after) (LooseEach l i (field name d t fs) bs) vs
  root_step i name must t fs true bs after vs good f g = subst (λ (x : List ℕ). Step (LooseEntry l i must t true) (LooseEach l (suc i) fs after) (LooseEach l i (field name must t fs) x) vs) (sym (f refl).1) (came (Inside (step.Component i) (Loose l t)) (LooseEach l (suc i) fs after) vs (map_way (loose_way l h t good)))
  root_step i name must t fs false bs after vs good f g = absurd (true≢false (sym (f refl).0))
  root_step i name optional t fs true bs after vs good f g = subst (λ (x : List ℕ). Step (LooseEntry l i optional t true) (LooseEach l (suc i) fs after) (LooseEach l i (field name optional t fs) x) vs) (sym (g refl)) (came (Inside (step.Component i) (Loose l t)) (LooseEach l (suc i) fs after) vs (map_way (loose_way l h t good)))
  root_step i name optional t fs false bs after vs good f g = subst (λ (x : List ℕ). Step (LooseEntry l i optional t false) (LooseEach l (suc i) fs after) (LooseEach l i (field name optional t fs) x) vs) (sym (g refl)) (left_out None (LooseEach l (suc i) fs after) vs)
  root_step i name (default d) t fs true bs after vs good f g = subst (λ (x : List ℕ). Step (LooseEntry l i (default d) t true) (LooseEach l (suc i) fs after) (LooseEach l i (field name (default d) t fs) x) vs) (sym (g refl)) (came (Map nothing_skipped (Spelt l.coding.code (Some d) t)) (LooseEach l (suc i) fs after) vs (map_way (spelt_way l.coding h.laws (Some d) t good)))
  root_step i name (default d) t fs false bs after vs good f g = subst (λ (x : List ℕ). Step (LooseEntry l i (default d) t false) (LooseEach l (suc i) fs after) (LooseEach l i (field name (default d) t fs) x) vs) (sym (g refl)) (left_out (Some d) (LooseEach l (suc i) fs after) vs)

  -- ---- entries one after the other

  -- one more
  put_more : {M W T : Entries → List Chunk → Type 0} {us vs r : List ℕ} (es : List (Option Datum)) (ss : List SkippedAt) (e : Option Datum) (s now : List SkippedAt) → now ≡ ss ++ s → Onward R M r (λ p. (e ∷ p.0, s ++ p.1)) W vs → Onward R W vs (put es ss) T us → Onward R M r (put (es ++ e ∷ []) now) T us
  put_more es ss e s now same a b = seen_as (λ p i. (sym (append_assoc es (e ∷ []) p.0) i, (sym (append_assoc ss s p.1) ∙ ap (λ (x : List SkippedAt). x ++ p.1) (sym same)) i)) (on a b)

  module _ {T : Entries → List Chunk → Type 0} {us : List ℕ} {i next : ℕ} {p : Part} {rest : List Part} {left bitmap : ℕ} {entries : List (Option Datum)} {skipped : List SkippedAt} {vs : List ℕ} (k : EachUpTo l T us i (p ∷ rest) left bitmap entries skipped vs) (further_on : suc i ≡ next) where
    -- a presence bit is left for it
    pub bit_there : has_presence_bit p.demand ≡ true → 0 < left
    bit_there e = omega (arith, k.width, width_more p.name p.demand p.shape (fields_of rest) e)

    pub each_next : (present : Bool) (after : ℕ) → (has_presence_bit p.demand ≡ false → (present ≡ true) × (after ≡ left))
        → (has_presence_bit p.demand ≡ true → (after + 1 ≡ left) × (bit_of present ≡ bitmap / 2 ^ after % 2)) → EachNext l T us i next p rest after bitmap present entries skipped vs
    each_next present after f g =
        let one = root_step i p.name p.demand p.shape (fields_of rest) present (bits left bitmap) (bits after bitmap) vs k.of_profile.0
        (λ e. ((f e).0, ap (λ (n : ℕ). bits n bitmap) (sym (f e).1))) (λ e. bit_split left after bitmap (bit_of present) (g e).0 (g e).1) in
        record {
          of_profile = k.of_profile.0;
          good = k.of_profile.1;
          none = λ further n. k.onward.none further (one.none further n);
          more = λ e now r t. (let w = took t in record {
            of_profile = k.of_profile.2;
            width = width_is (has_presence_bit p.demand) refl;
            few = few_is (has_presence_bit p.demand) refl;
            onward = subst (λ (n : ℕ). Onward R (LooseEach l n (fields_of rest) (bits after bitmap)) r (put (entries ++ e ∷ []) now) T us) further_on (put_more entries skipped e w.skipped now w.same (one.more e w.skipped r w.spelt) k.onward);
          });
        }
      where
        width_is : (b : Bool) → has_presence_bit p.demand ≡ b → after ≡ bitmap_length (fields_of rest)
        width_is false e = (f e).1 ∙ k.width ∙ width_same p.name p.demand p.shape (fields_of rest) e
        width_is true e = omega (arith, (g e).0, k.width, width_more p.name p.demand p.shape (fields_of rest) e)

        few_is : (b : Bool) → has_presence_bit p.demand ≡ b → after ≤ 64
        few_is false e = omega (arith, (f e).1, k.few)
        few_is true e = omega (arith, (g e).0, k.few)

  -- none is left
  pub each_ends : {T : Entries → List Chunk → Type 0} {us : List ℕ} {i : ℕ} {rest : List Part} {left bitmap : ℕ} {entries : List (Option Datum)} {skipped : List SkippedAt} {vs : List ℕ} → EachUpTo l T us i rest left bitmap entries skipped vs → rest ≡ [] → Spells R T (entries, skipped) us vs
  each_ends {T} {us} {i} {rest} {left} {bitmap} {entries} {skipped} {vs} k e =
      let o : Onward R (LooseEach l i no_fields (bits left bitmap)) vs (put entries skipped) T us = subst (λ (ps : List Part). Onward R (LooseEach l i (fields_of ps) (bits left bitmap)) vs (put entries skipped) T us) e k.onward in
      let read : Spells R T (entries ++ [], skipped ++ []) us vs = o.done ([], []) vs (nothing_spells R ([], []) vs) in
      subst (λ (p : Entries). Spells R T p us vs) (λ i. (append-nil entries i, append-nil skipped i)) read

  -- ---- additions

  -- without presence bits all are absent
  all_absent : (place : ℕ) (fs : Fields) (p : Entries) (cs : List Chunk) → LooseOpen l place fs [] p cs → (p ≡ (absent_entries fs, [])) × (cs ≡ [])
  all_absent place no_fields p cs k = (k.seen ∙ ap (λ (s : List SkippedAt). ([], s)) k.spelt.same, k.spelt.empty)
  all_absent place (field name d t fs) p cs k = (k.same, k.empty)

  absent_all : (place : ℕ) (fs : Fields) → LooseOpen l place fs [] (absent_entries fs, []) []
  absent_all place no_fields = record { source = []; spelt = record { same = refl; empty = refl }; seen = refl }
  absent_all place (field name d t fs) = record { same = refl; empty = refl }

  absent_on : (place : ℕ) (name : List ℕ) (d : Demand) (t : Shape) (fs : Fields) (vs : List ℕ) → Onward R (LooseOpen l (suc place) fs []) vs (entry_left None) (LooseOpen l place (field name d t fs) []) vs
  absent_on place name d t fs vs = record {
    done = λ p r k. (let e = all_absent (suc place) fs p k.chunks k.spelt in record { chunks = k.chunks; spelt = record { same = ap (entry_left None) e.0; empty = e.1 }; contents = k.contents; split = k.split });
    none = λ further n. absurd (n (absent_entries fs, []) (vs ++ further) (record { chunks = []; spelt = absent_all (suc place) fs; contents = tt; split = refl }));
  }

  module _ {T : Entries → List Chunk → Type 0} {us : List ℕ} {place next : ℕ} {p : Part} {rest : List Part} {present after : List ℕ} {entries : List (Option Datum)} {skipped : List SkippedAt} {vs : List ℕ} (k : OpenUpTo l T us place (p ∷ rest) present entries skipped vs) (e : suc place ≡ next) where
    -- the addition is absent
    pub open_absent : ((present ≡ []) × (after ≡ [])) ⊎ (present ≡ 0 ∷ after) → OpenUpTo l T us next rest after (entries ++ None ∷ []) skipped vs
    open_absent (inl q) =
        let o : Onward R (LooseOpen l place (fields_of (p ∷ rest)) []) vs (put entries skipped) T us = subst (λ (bs : List ℕ). Onward R (LooseOpen l place (fields_of (p ∷ rest)) bs) vs (put entries skipped) T us) q.0 k.onward in
        let a = put_more entries skipped None [] skipped (sym (append-nil skipped)) (absent_on place p.name p.demand p.shape (fields_of rest) vs) o in
        let b : Onward R (LooseOpen l next (fields_of rest) []) vs (put (entries ++ None ∷ []) skipped) T us = subst (λ (n : ℕ). Onward R (LooseOpen l n (fields_of rest) []) vs (put (entries ++ None ∷ []) skipped) T us) e a in
        record { of_profile = k.of_profile.2; onward = subst (λ (bs : List ℕ). Onward R (LooseOpen l next (fields_of rest) bs) vs (put (entries ++ None ∷ []) skipped) T us) (sym q.1) b }
    open_absent (inr q) =
        let o : Onward R (LooseOpen l place (fields_of (p ∷ rest)) (0 ∷ after)) vs (put entries skipped) T us = subst (λ (bs : List ℕ). Onward R (LooseOpen l place (fields_of (p ∷ rest)) bs) vs (put entries skipped) T us) q k.onward in
        let a = put_more entries skipped None [] skipped (sym (append-nil skipped)) (mapped R (entry_left None) (LooseOpen l (suc place) (fields_of rest) after) vs) o in
        record { of_profile = k.of_profile.2; onward = subst (λ (n : ℕ). Onward R (LooseOpen l n (fields_of rest) after) vs (put (entries ++ None ∷ []) skipped) T us) e a }

    module _ (q : present ≡ 1 ∷ after) where
      there : Onward R (LooseOpen l place (fields_of (p ∷ rest)) (1 ∷ after)) vs (put entries skipped) T us
      there = subst (λ (bs : List ℕ). Onward R (LooseOpen l place (fields_of (p ∷ rest)) bs) vs (put entries skipped) T us) q k.onward

      known : OneWay R (Inside (step.Addition place) (Known l.coding (Loose l p.shape)))
      known = map_way (known_way l h (loose_way l h p.shape k.of_profile.0))

      -- it is there
      pub open_present : (v : Datum) (now : List SkippedAt) (r : List ℕ) → Spells R (ReadingAfter skipped (Inside (step.Addition place) (Known l.coding (Loose l p.shape)))) (v, now) vs r → OpenUpTo l T us next rest after (entries ++ Some v ∷ []) now r
      open_present v now r t =
          let w = took t in
          let s = came (Inside (step.Addition place) (Known l.coding (Loose l p.shape))) (LooseOpen l (suc place) (fields_of rest) after) vs known in
          let a = put_more entries skipped (Some v) w.skipped now w.same (s.more (Some v) w.skipped r (map_spells {f = some_of} w.spelt)) there in
          record { of_profile = k.of_profile.2; onward = subst (λ (n : ℕ). Onward R (LooseOpen l n (fields_of rest) after) r (put (entries ++ Some v ∷ []) now) T us) e a }

      pub open_none : NoneOn R (Inside (step.Addition place) (Known l.coding (Loose l p.shape))) vs T us
      open_none further n = there.none further (none_mapped (then_none_first n))

  -- none is left of the type: the others are skipped
  module _ {T : Entries → List Chunk → Type 0} {us : List ℕ} {place : ℕ} {rest : List Part} {present : List ℕ} {entries : List (Option Datum)} {skipped : List SkippedAt} {vs : List ℕ} (k : OpenUpTo l T us place rest present entries skipped vs) (e : rest ≡ []) where
    others : Onward R (AllUnknown l.coding place present) vs (λ s. put entries skipped ([], s)) T us
    others = on (mapped R (λ (s : List SkippedAt). ([], s)) (AllUnknown l.coding place present) vs) (subst (λ (ps : List Part). Onward R (LooseOpen l place (fields_of ps) present) vs (put entries skipped) T us) e k.onward)

    pub open_ends : (now : List SkippedAt) (r : List ℕ) → Spells R (FieldsAfter skipped (AllUnknown l.coding place present)) now vs r → Spells R T (entries, now) us r
    open_ends now r t =
        let m = map_source t in
        let read : Spells R T (entries ++ [], skipped ++ m.0) us r = others.done m.0 r m.1 in
        subst (λ (p : Entries). Spells R T p us r) (λ i. (append-nil entries i, sym m.2 i)) read

    pub open_ends_none : NoneOn R (AllUnknown l.coding place present) vs T us
    open_ends_none = others.none
