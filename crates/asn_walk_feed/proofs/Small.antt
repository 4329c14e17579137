-- Rows of numbers: how many units their values have, and that units which end within one begin it.
use Rattle.std.proofs.Common.{◌≡◌, ◌≤◌, ◌<◌, ◌+◌, ◌-◌, ◌*◌, ⊎_elim, ℕ, zero, suc, true, false, Bool, List, [], ◌∷◌, ◌++◌, length, length-append, append_assoc, Option, Some, None, refl, sym, ap, ◌∙◌, subst, arith}
use Rattle.std.proofs.lemmas.Bool.{true≢false}
use Rattle.std.proofs.lemmas.List.{append-nil}
use Rattle.std.proofs.Math.Nat.{mul_comm, mul-lt-mul_of_pos_right, mul-le-mul_right, le_of_mul-le-mul_right}
use Rattle.asn_values.specs.Datum.{Datum}
use Rattle.asn_values.specs.Parts.{AreOfProfile}
use Rattle.asn_values.specs.Profile.{InProfile}
use Rattle.asn_values.specs.Shape.{Shape, boolean, integer, sequence, Demand, must, Fields, no_fields, field, MoreFields, closed}
use Rattle.asn_values.specs.View.{shape_of, part_of_field, fields_seen}
use Rattle.asn_values.specs.declared.types.Field.{Field}
use Rattle.asn_values.proofs.Components.{shape_of_part}
use Rattle.asn_values.proofs.Parts.{components_of_profile}
use Rattle.asn_bits.specs.Numbers.{bits}
use Rattle.asn_rules.specs.Begun.{AllPlain}
use Rattle.asn_rules.specs.Chunks.{Chunk, ones, flat}
use Rattle.asn_rules.specs.Languages.{AllContents, IsFront, IsLive, Short, Spells, Inhabited, Lawful, Then}
use Rattle.asn_rules.specs.Listed.{Spelt, Listed, bitmap_length}
use Rattle.asn_rules.specs.Live.{Fielding}
use Rattle.asn_rules.proofs.Answer.Answers.{done_stays}
use Rattle.asn_rules.proofs.Components.Listed.{listed_inhabited, spelt_inhabited, spelt_lawful}
use Rattle.asn_rules.proofs.Languages.Parts.{front_ones}
use Rattle.asn_rules.proofs.Languages.Then.{live_shorter, one_front}
use Rattle.asn_rules.proofs.Live.Chunks.{FieldsPart, front_longer, ones-append}
use Rattle.asn_rules.proofs.Live.Flat.{flat-ones}
use Rattle.asn_walk.specs.Coding.{Coding, PreambleOf, AddedOf, sequence_told}
use Rattle.asn_walk.specs.Laws.{Laws, IsSimple}
use Rattle.asn_walk.proofs.Parts.{fields_part_of}
use Rattle.asn_walk_feed.proofs.Cells.{sum_mul}
use Rattle.asn_walk_feed.specs.Feeding.{FeedLaws, IsBrief, ExtendsBy}
use Rattle.asn_walk_feed.specs.Small.{HasUnits, IsNarrow, AreNarrow, IsSmall, EndIn}

-- ---- lists

no_length : {X : Type 0} (xs : List X) → length xs ≡ 0 → xs ≡ []
no_length [] e = refl
no_length (x ∷ xs) e = absurd (omega (arith, e))

-- of two fronts of a list, what the longer has after the other
pub record Longer (us more xs : List ℕ) : Type 0 where
  pub next : ℕ
  pub rest : List ℕ
  pub is : xs ≡ us ++ next ∷ rest

pub longer : (us more xs vs : List ℕ) → us ++ more ≡ xs ++ vs → length vs < length more → Longer us more xs
longer us more [] vs e l = absurd (omega (arith, ap length e, length-append us more, l))
longer [] more (x ∷ xs) vs e l = record { next = x; rest = xs; is = refl }
longer (u ∷ us) more (x ∷ xs) vs e l =
    let p = longer us more xs vs (cc e) l in
    record { next = p.next; rest = p.rest; is = (let h : x ≡ u = cc e in cc (h, p.is)) }

pub record Further (us more xs vs : List ℕ) : Type 0 where
  pub rest : List ℕ
  pub is : us ≡ xs ++ rest
  pub behind : vs ≡ rest ++ more

pub further : (us more xs vs : List ℕ) → us ++ more ≡ xs ++ vs → length more ≤ length vs → Further us more xs vs
further us more [] vs e l = record { rest = us; is = refl; behind = sym e }
further [] more (x ∷ xs) vs e l = absurd (omega (arith, ap length e, length-append (x ∷ xs) vs, l))
further (u ∷ us) more (x ∷ xs) vs e l =
    let p = further us more xs vs (cc e) l in
    record { rest = p.rest; is = (let h : u ≡ x = cc e in cc (h, p.is)); behind = p.behind }

-- ---- plain units

front_self : (R : Fielding) (us zs : List ℕ) → IsFront R (ones (us ++ zs)) us
front_self R [] zs = tt
front_self R (u ∷ us) zs = (refl, front_self R us zs)

front_on : (R : Fielding) (ts : List ℕ) (cs : List Chunk) (us : List ℕ) → IsFront R cs us → IsFront R (ones ts ++ cs) (ts ++ us)
front_on R [] cs us h = h
front_on R (t ∷ ts) cs us h = (refl, front_on R ts cs us h)

contents_of : (R : Fielding) (us : List ℕ) → AllContents R (ones us)
contents_of R [] = tt
contents_of R (u ∷ us) = contents_of R us

-- where all spellings are plain units, and these with one unit more are in front of one, more are wanted of them
more_wanted : {V : Type 0} {R : Fielding} {L : V → List Chunk → Type 0} (us : List ℕ) (t : ℕ) → FieldsPart R → Lawful L → AllPlain L
    → IsLive R L (us ++ t ∷ []) → Short R L us
more_wanted {V} {R} {L} us t ok law plain h = record { live = live_shorter us (t ∷ []) h; none = none }
  where
    none : (v : V) (r : List ℕ) → Spells R L v us r → ⊥
    none v r x =
        let p = plain.plain h.value h.chunks h.spelt in
        let f = front_ones R p.0 (us ++ t ∷ []) (subst (λ (l : List Chunk). IsFront R l (us ++ t ∷ [])) p.1 h.front) in
        let whole : (us ++ t ∷ []) ++ f.0 ≡ flat R.spelled h.chunks ++ [] =
        sym f.1 ∙ sym (flat-ones R.spelled p.0) ∙ ap (flat R.spelled) (sym p.1) ∙ sym (append-nil (flat R.spelled h.chunks)) in
        let all : Spells R L h.value ((us ++ t ∷ []) ++ f.0) [] =
        record { chunks = h.chunks; spelt = h.spelt; contents = subst (AllContents R) (sym p.1) (contents_of R p.0); split = whole } in
        let o = one_front ok law all (done_stays f.0 (done_stays (t ∷ []) x)) in
        absurd (omega (arith, ap length o.1, length-append (r ++ t ∷ []) f.0, length-append r (t ∷ [])))

-- all units of a piece are added to those of a part, where they are few
pub none_left : (c : Coding) (b b' us : List ℕ) (n : ℕ) (x : ExtendsBy c b b' us n) → length b' ≤ 120 → x.rest ≡ []
none_left c b b' us n x few = ⊎_elim (λ e. e) (λ m. absurd (omega (arith, few, m))) x.full

pub all_joined : (c : Coding) (b b' us : List ℕ) (n : ℕ) → ExtendsBy c b b' us n → length b' ≤ 120 → c.to_units b' ≡ c.to_units b ++ c.to_units us
all_joined c b b' us n x few = x.joined ∙ ap (λ (l : List ℕ). c.to_units b ++ l) (sym (x.from ∙ ap (λ (l : List ℕ). x.front ++ l) (none_left c b b' us n x few) ∙ append-nil x.front))

-- ---- types

-- those of few units are simple
narrow_simple : (n : ℕ) (t : Shape) → IsNarrow n t → IsSimple t
narrow_simple n boolean h = tt
narrow_simple n (integer r) h = tt
narrow_simple n _ h = absurd h

-- a component of a row, and those after it
pub record FirstOf (room : ℕ) (d : Demand) (t : Shape) (fs : Fields) : Type 0 where
  pub octets : ℕ
  pub demand : d ≡ must
  pub narrow : IsNarrow octets t
  pub simple : IsSimple t
  pub good : InProfile t
  pub rest : AreNarrow (room - octets) fs
  pub rest_good : AreOfProfile fs

pub first_of : (room : ℕ) (name : List ℕ) (d : Demand) (t : Shape) (fs : Fields) → AreNarrow room (field name d t fs) → AreOfProfile (field name d t fs) → FirstOf room d t fs
first_of room name must t fs h good =
    record { octets = h.0; demand = refl; narrow = h.2; simple = narrow_simple h.0 t h.2; good = good.0; rest = h.3; rest_good = good.2 }
first_of room name _ t fs h good = absurd h

-- the same of the components as the program has them
pub first_field : (room : ℕ) (fs : List Field) (f : Field) (rest : List Field) → fs ≡ f ∷ rest → AreNarrow room (fields_seen fs) → AreOfProfile (fields_seen fs)
    → FirstOf room (part_of_field f).demand (shape_of f.ty) (fields_seen rest)
first_field room fs f rest e h good =
    let p = part_of_field f in
    let x = first_of room p.name p.demand p.shape (fields_seen rest) (subst (λ (l : List Field). AreNarrow room (fields_seen l)) e h) (subst (λ (l : List Field). AreOfProfile (fields_seen l)) e good) in
    subst (λ (t : Shape). FirstOf room p.demand t (fields_seen rest)) (shape_of_part f) x

-- the components of a SEQUENCE that is a row
pub row_root : (root : Fields) (more : MoreFields) → IsSmall (sequence root more) → (more ≡ closed) × AreNarrow 15 root
row_root root closed h = (refl, h)
row_root root _ h = absurd h

-- a list that has some
some_unit : {P : Type 0} (us : List ℕ) → 1 ≤ length us → ((u : ℕ) (rest : List ℕ) → us ≡ u ∷ rest → P) → P
some_unit [] l f = absurd (omega (arith, l))
some_unit (u ∷ us) l f = f u us refl

-- what n octets and those after them have
apart : (o n room : ℕ) → n ≤ room → o * n + o * (room - n) ≡ o * room
apart o n room l =
    let s : n + (room - n) ≡ room = omega (arith, l) in
    let d : (n + (room - n)) * o ≡ n * o + (room - n) * o = sum_mul n (room - n) o in
    omega (arith, d, ap (λ (k : ℕ). k * o) s, mul_comm o n, mul_comm o (room - n), mul_comm o room)

module _ (c : Coding) (laws : Laws c) (feeds : FeedLaws c) where
  abbrev R : Fielding
  R = c.ruling.fielding

  -- ---- the components

  no_bits : (room : ℕ) (root : Fields) → AreNarrow room root → bitmap_length root ≡ 0
  no_bits room no_fields h = refl
  no_bits room (field name must t fs) h = no_bits (room - h.0) fs h.3
  no_bits room _ h = absurd h

  -- they are plain units, and few
  sizes : (room : ℕ) (root : Fields) → AreNarrow room root → AreOfProfile root → (es : List (Option Datum)) (cs : List Chunk) → Listed c.code root [] es cs → HasUnits 0 (c.octet_units * room) cs
  sizes room no_fields h good es cs s = record { units = []; same = s.empty; least = omega arith; most = omega arith }
  sizes room (field name must t fs) h good es cs s =
      let w = s.spelt in
      let x = feeds.rows.narrow h.0 t h.2 good.0 _ w.first w.spelt.spelt in
      let y = sizes (room - h.0) fs h.3 good.2 _ w.second w.follows in
      let both : length (x.units ++ y.units) ≡ length x.units + length y.units = length-append x.units y.units in
      let all : c.octet_units * h.0 + c.octet_units * (room - h.0) ≡ c.octet_units * room = apart c.octet_units h.0 room h.1 in
      record {
        units = x.units ++ y.units;
        same = w.whole ∙ ap (λ (a : List Chunk). a ++ w.second) x.same ∙ ap (λ (a : List Chunk). ones x.units ++ a) y.same ∙ sym (ones-append x.units y.units);
        least = omega arith;
        most = omega (arith, both, all, x.most, y.most);
      }
  sizes room _ h good es cs s = absurd h

  -- units in front of those after the first, after a value of it
  next_lives : (name : List ℕ) (t : Shape) (fs : Fields) (v : Datum) (xs us : List ℕ) → Spelt c.code None t v (ones xs) → IsLive R (Listed c.code fs []) us
      → IsLive R (Listed c.code (field name must t fs) []) (xs ++ us)
  next_lives name t fs v xs us s x = record {
    value = Some v ∷ x.value;
    chunks = ones xs ++ x.chunks;
    spelt = record {
      source = (Some v, x.value);
      spelt = record { first = ones xs; second = x.chunks; spelt = record { source = v; spelt = s; seen = refl }; follows = x.spelt; whole = refl };
      seen = refl;
    };
    front = front_on R xs x.chunks us x.front;
  }

  -- units in front of a value of the first
  first_lives : (name : List ℕ) (t : Shape) (fs : Fields) (v : Datum) (us rest : List ℕ) → Spelt c.code None t v (ones (us ++ rest)) → Inhabited (Listed c.code fs [])
      → IsLive R (Listed c.code (field name must t fs) []) us
  first_lives name t fs v us rest s i = record {
    value = Some v ∷ i.value;
    chunks = ones (us ++ rest) ++ i.chunks;
    spelt = record {
      source = (Some v, i.value);
      spelt = record { first = ones (us ++ rest); second = i.chunks; spelt = record { source = v; spelt = s; seen = refl }; follows = i.spelt; whole = refl };
      seen = refl;
    };
    front = front_longer R (ones (us ++ rest)) i.chunks us (front_self R us rest);
  }

  -- the units of a value that was passed
  record Passed (t : Shape) (v : Datum) (old new : List ℕ) : Type 0 where
    units : List ℕ
    spelt : Spelt c.code None t v (ones units)
    split : old ≡ units ++ new

  passed : (n : ℕ) (t : Shape) (v : Datum) (old new : List ℕ) → IsNarrow n t → InProfile t → Spells R (Spelt c.code None t) v old new → Passed t v old new
  passed n t v old new narrow good x =
      let u = feeds.rows.narrow n t narrow good v x.chunks x.spelt in
      record {
        units = u.units;
        spelt = subst (Spelt c.code None t v) u.same x.spelt;
        split = x.split ∙ ap (λ (l : List ℕ). l ++ new) (ap (flat R.spelled) u.same ∙ flat-ones R.spelled u.units);
      }

  module _ (room : ℕ) (name : List ℕ) (d : Demand) (t : Shape) (fs : Fields) (first : FirstOf room d t fs) (filling : ℕ) where
    after : Inhabited (Listed c.code fs [])
    after = listed_inhabited c.code fs [] first.rest_good (sym (no_bits (room - first.octets) fs first.rest))

    -- no unit stands before what fills up
    pub none_ends : (old : List ℕ) → c.at_unit old → length old ≡ filling → EndIn c (field name d t fs) filling (c.to_units old)
    none_ends old a e us more split l =
        let i = spelt_inhabited c.code t first.good in
        let u = feeds.rows.narrow first.octets t first.narrow first.good i.value i.chunks i.spelt in
        let n : us ≡ [] = no_length us (omega (arith, feeds.rows.count old a, ap (λ (k : ℕ). k * c.octet_units) e, l, ap length split, length-append us more)) in
        some_unit u.units u.least (λ k rest same.
        (k, rw (first.demand, n) (first_lives name t fs i.value (k ∷ []) rest (subst (Spelt c.code None t i.value) (u.same ∙ ap ones same) i.spelt) after)))

    -- the value that was passed has some of what fills up
    pub first_ends : (v : Datum) (old new : List ℕ) → Spells R (Spelt c.code None t) v (c.to_units old) (c.to_units new) → c.at_unit new → length new < filling
        → EndIn c (field name d t fs) filling (c.to_units old)
    first_ends v old new x a less us more split l =
        let p = passed first.octets t v (c.to_units old) (c.to_units new) first.narrow first.good x in
        let k = mul-lt-mul_of_pos_right {k = c.octet_units} less laws.some in
        let o = longer us more p.units (c.to_units new) (sym split ∙ p.split) (omega (arith, feeds.rows.count new a, k, l)) in
        let same : p.units ≡ (us ++ o.next ∷ []) ++ o.rest = o.is ∙ sym (append_assoc us (o.next ∷ []) o.rest) in
        (o.next, rw first.demand (first_lives name t fs v (us ++ o.next ∷ []) o.rest (subst (λ (l : List ℕ). Spelt c.code None t v (ones l)) same p.spelt) after))

    -- or the units end in those after it
    pub rest_ends : (v : Datum) (old new : List ℕ) → Spells R (Spelt c.code None t) v (c.to_units old) (c.to_units new) → c.at_unit new → filling ≤ length new
        → EndIn c fs filling (c.to_units new) → EndIn c (field name d t fs) filling (c.to_units old)
    rest_ends v old new x a many h us more split l =
        let p = passed first.octets t v (c.to_units old) (c.to_units new) first.narrow first.good x in
        let k = mul-le-mul_right c.octet_units many in
        let o = further us more p.units (c.to_units new) (sym split ∙ p.split) (omega (arith, feeds.rows.count new a, k, l)) in
        let i = h o.rest more o.behind l in
        let same : p.units ++ (o.rest ++ i.0 ∷ []) ≡ us ++ i.0 ∷ [] = sym (append_assoc p.units o.rest (i.0 ∷ [])) ∙ ap (λ (l : List ℕ). l ++ i.0 ∷ []) (sym o.is) in
        (i.0, rw first.demand (subst (IsLive R (Listed c.code (field name must t fs) [])) same (next_lives name t fs v p.units (o.rest ++ i.0 ∷ []) p.spelt i.1)))

  -- what is said of the first component and those after it is said of all that the program has
  pub all_fields : (fs : List Field) (f : Field) (rest : List Field) (filling : ℕ) (us : List ℕ) → fs ≡ f ∷ rest
      → EndIn c (field (part_of_field f).name (part_of_field f).demand (shape_of f.ty) (fields_seen rest)) filling us → EndIn c (fields_seen fs) filling us
  all_fields fs f rest filling us e h =
      let p = part_of_field f in
      let a : EndIn c (field p.name p.demand p.shape (fields_seen rest)) filling us = subst (λ (t : Shape). EndIn c (field p.name p.demand t (fields_seen rest)) filling us) (sym (shape_of_part f)) h in
      subst (λ (l : List Field). EndIn c (fields_seen l) filling us) (sym e) a

  -- a reader has no more bits left than before
  pub none_added : (t : Shape) (v : Datum) (old new : List ℕ) → Spells R (Spelt c.code None t) v (c.to_units old) (c.to_units new) → c.at_unit old → c.at_unit new → length new ≤ length old
  none_added t v old new x a b =
      let l = ap length x.split ∙ length-append (flat R.spelled x.chunks) (c.to_units new) in
      le_of_mul-le-mul_right {k = c.octet_units} (omega (arith, l, feeds.rows.count old a, feeds.rows.count new b)) laws.some

  -- ---- the SEQUENCE

  nothing : c.preamble [] ≡ []
  nothing = no_length (c.preamble []) feeds.rows.preamble

  -- the preamble is nothing
  no_preamble : (n : ℕ) (p : Bool × ℕ) (cs : List Chunk) → n ≡ 0 → PreambleOf c n None p cs → cs ≡ []
  no_preamble zero p cs e s = s.same ∙ ap ones nothing
  no_preamble (suc n) p cs e s = absurd (omega (arith, e))

  no_listed : (root : Fields) (n m : ℕ) (es : List (Option Datum)) (cs : List Chunk) → n ≡ 0 → Listed c.code root (bits n m) es cs → Listed c.code root [] es cs
  no_listed root zero m es cs e s = s
  no_listed root (suc n) m es cs e s = absurd (omega (arith, e))

  -- and so is what stands after the components
  no_added : (x : Bool) (gs : List (Option Datum)) (cs : List Chunk) → (x ≡ true → ⊥) → AddedOf c closed x gs cs → cs ≡ []
  no_added false gs cs h s = s.empty
  no_added true gs cs h s = absurd (h refl)

  -- the components are the SEQUENCE
  with_preamble : (root : Fields) (n : ℕ) (es : List (Option Datum)) (cs : List Chunk) → n ≡ 0 → Listed c.code root [] es cs
      → Then (PreambleOf c n None) (λ p. Then (Listed c.code root (bits n p.1)) (λ _. AddedOf c closed p.0)) ((false, 0), (es, [])) cs
  with_preamble root zero es cs e s = record {
    first = [];
    second = cs;
    spelt = record { fits = (omega arith, λ x. absurd (true≢false (sym x))); same = sym (ap ones nothing) };
    follows = record { first = cs; second = []; spelt = s; follows = record { same = refl; empty = refl }; whole = sym (append-nil cs) };
    whole = refl;
  }
  with_preamble root (suc n) es cs e s = absurd (omega (arith, e))

  row_sized : (root : Fields) → AreNarrow 15 root → InProfile (sequence root closed) → (v : Datum) (cs : List Chunk) → Spelt c.code None (sequence root closed) v cs → HasUnits 0 (c.octet_units * 15) cs
  row_sized root narrow good v cs s =
      let a = ((laws.sequences root closed good).from v cs s).spelt in
      let p = ((laws.sequences root closed good).from v cs s).source.0 in
      let x = a.follows in
      let before : a.first ≡ [] = no_preamble (bitmap_length root) p a.first (no_bits 15 root narrow) a.spelt in
      let after : x.second ≡ [] = no_added p.0 _ x.second a.spelt.fits.1 x.follows in
      let y = sizes 15 root narrow (components_of_profile root closed good) _ x.first (no_listed root (bitmap_length root) p.1 _ x.first (no_bits 15 root narrow) x.spelt) in
      let all : cs ≡ x.first = a.whole ∙ ap (λ (l : List Chunk). l ++ a.second) before ∙ x.whole ∙ ap (λ (l : List Chunk). x.first ++ l) after ∙ append-nil x.first in
      record { units = y.units; same = all ∙ y.same; least = y.least; most = y.most }

  row_lives : (root : Fields) → AreNarrow 15 root → InProfile (sequence root closed) → (us : List ℕ) → IsLive R (Listed c.code root []) us → IsLive R (Spelt c.code None (sequence root closed)) us
  row_lives root narrow good us x = record {
    value = sequence_told ((false, 0), (x.value, []));
    chunks = x.chunks;
    spelt = (laws.sequences root closed good).to _ x.chunks (record { source = ((false, 0), (x.value, [])); spelt = with_preamble root (bitmap_length root) x.value x.chunks (no_bits 15 root narrow) x.spelt; seen = refl });
    front = x.front;
  }

  -- ---- rows

  sized : (t : Shape) → IsSmall t → InProfile t → (v : Datum) (cs : List Chunk) → Spelt c.code None t v cs → HasUnits 0 (c.octet_units * 15) cs
  sized (sequence root closed) h good v cs s = row_sized root h good v cs s
  sized _ h good v cs s = absurd h

  -- they are plain units
  pub small_plain : (t : Shape) → InProfile t → IsSmall t → AllPlain (Spelt c.code None t)
  small_plain t good h = record { plain = λ v cs s. (let x = sized t h good v cs s in (x.units, x.same)) }

  -- of few bits
  pub small_brief : (t : Shape) → InProfile t → IsSmall t → IsBrief c (Spelt c.code None t)
  small_brief t good h = record { brief = go }
    where
      go : (bs : List ℕ) → c.at_unit bs → Short R (Spelt c.code None t) (c.to_units bs) → length bs ≤ 120
      go bs a s =
          let us = c.to_units bs in
          let x = sized t h good s.live.value s.live.chunks s.live.spelt in
          let f = front_ones R x.units us (subst (λ (l : List Chunk). IsFront R l us) x.same s.live.front) in
          let l : length x.units ≡ length us + length f.0 = ap length f.1 ∙ length-append us f.0 in
          let most : length bs * c.octet_units ≤ 120 * c.octet_units = omega (arith, feeds.rows.count bs a, l, x.most) in
          le_of_mul-le-mul_right most laws.some

  -- bits with one unit more begin one
  pub row_short : (root : Fields) (more : MoreFields) → IsSmall (sequence root more) → InProfile (sequence root more) → (bs rest : List ℕ) → c.at_unit bs → c.at_unit (bs ++ rest)
      → EndIn c root (length rest) (c.to_units (bs ++ rest)) → Short R (Spelt c.code None (sequence root more)) (c.to_units bs)
  row_short root closed h good bs rest a b ends =
      let j = feeds.rows.joined bs rest a b in
      let x = ends (c.to_units bs) (c.to_units rest) j.1 (sym (feeds.rows.count rest j.0)) in
      more_wanted (c.to_units bs) x.0 (fields_part_of c laws) (spelt_lawful c.code laws.part None (sequence root closed) good) (small_plain (sequence root closed) good h)
      (row_lives root h good (c.to_units bs ++ x.0 ∷ []) x.1)
  row_short root _ h good bs rest a b ends = absurd h
