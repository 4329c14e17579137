-- A value has at most as many cells as its type has places for each bit of its spelling, or once.
use Rattle.std.proofs.Common.{◌≡◌, ◌≢◌, ◌≤◌, ◌+◌, ◌*◌, ◌⊎◌, inl, inr, ⊎_elim, ℕ, zero, suc, max, Bool, true, false, List, [], ◌∷◌, ◌++◌, length, length-append, Option, Some, None, refl, sym, ap, subst, ◌∙◌, arith}
use Rattle.std.proofs.lemmas.Bool.{true≢false}
use Rattle.std.proofs.Math.Nat.{mul-add, mul-le-mul_left, suc-mul}
use Rattle.asn_values.specs.Datum.{Datum, truth, nothing, number, item, components_of, elements_of}
use Rattle.asn_values.specs.Fits.{Fits}
use Rattle.asn_values.specs.Measures.{places, fields_places, more_places, choice_places, more_choice_places, cells, components_cells, elements_cells}
use Rattle.asn_values.specs.Parts.{AreOfProfile, AreAllOfProfile}
use Rattle.asn_values.specs.Profile.{InProfile, good_default}
use Rattle.asn_values.specs.Shape.{SizeRange, Shape, boolean, null, integer, enumerated, bit_string, octet_string, restricted, utf8_string, sequence, sequence_of, choice, closed_labels, marked_labels, must, optional, default, Fields, no_fields, field, MoreFields, closed, marked, more_fields, demands, Alternatives, no_alternatives, one_of, MoreAlternatives, closed_choice, marked_choice, more_alternatives}
use Rattle.asn_values.proofs.InnerTypes.{element_of_profile, additions_of_profile}
use Rattle.asn_values.proofs.Parts.{components_of_profile}
use Rattle.asn_bits.specs.Numbers.{bits}
use Rattle.asn_rules.specs.Answer.{IsEncoding}
use Rattle.asn_rules.specs.Chunks.{open_field, utf8_field, rest_of, Chunk, one, sealed, flat}
use Rattle.asn_rules.specs.Languages.{Map, Nothing}
use Rattle.asn_rules.specs.Listed.{Spelt, Before, Listed, bitmap_length}
use Rattle.asn_rules.specs.Live.{Fielding}
use Rattle.asn_rules.specs.Parted.{Parted}
use Rattle.asn_rules.specs.Reading.{AllSealed}
use Rattle.asn_walk.specs.Coding.{Coding, OpenOf, OpenListed, AdditionsOf, AddedOf, absent_entries, ChosenOf, ChosenBy, chosen_value}
use Rattle.asn_walk.specs.Laws.{Laws}
use Rattle.asn_walk.proofs.Parts.{root_good, added_good}
use Rattle.asn_walk_feed.specs.Feeding.{IsScalar}
use Rattle.asn_walk_feed.specs.Holding.{entry_cells, unit_bits, HoldLaws}
use Rattle.asn_walk_feed.specs.OpenFields.{FieldCoding}
use Rattle.asn_walk_feed.specs.Strings.{IsString}
use Rattle.asn_walk_feed.specs.Weights.{total, Weighs}
use Rattle.asn_walk_feed.proofs.Weights.{total-append, size-append, listing_weighs}

-- ---- cells of lists

pub components_total : (es : List (Option Datum)) → components_cells (components_of es) ≡ total entry_cells es
components_total [] = refl
components_total (None ∷ es) = (let e = components_total es in omega (arith, e))
components_total (Some d ∷ es) = ap (λ (n : ℕ). cells d + n) (components_total es)

pub elements_total : (ds : List Datum) → elements_cells (elements_of ds) ≡ total cells ds
elements_total [] = refl
elements_total (d ∷ ds) = ap (λ (n : ℕ). cells d + n) (elements_total ds)

-- ---- products

-- each type has a place
pub some_places : (t : Shape) → 1 ≤ places t
some_places boolean = omega arith
some_places null = omega arith
some_places (integer r) = omega arith
some_places (enumerated root more) = omega arith
some_places (bit_string s) = omega arith
some_places (octet_string s) = omega arith
some_places (restricted k s) = omega arith
some_places utf8_string = omega arith
some_places (sequence root more) = omega arith
some_places (sequence_of t s) = omega arith
some_places (choice root more) = omega arith

-- so one cell is within its places
pub one_within : (p k : ℕ) → 1 ≤ p → 1 ≤ k → 1 ≤ p * k
one_within zero k h l = absurd (omega (arith, h))
one_within (suc p) k h l = (let e = suc-mul p k in omega (arith, e, l))

pub sum_mul : (a b k : ℕ) → (a + b) * k ≡ a * k + b * k
sum_mul zero b k = omega arith
sum_mul (suc a) b k =
    let one = suc-mul (a + b) k in
    let two = suc-mul a k in
    let three = sum_mul a b k in
    let same : suc a + b ≡ suc (a + b) = omega arith in
    let all : (suc a + b) * k ≡ suc (a + b) * k = ap (λ (n : ℕ). n * k) same in
    omega (arith, one, two, three, all)

pub mul_assoc : (a b k : ℕ) → (a * b) * k ≡ a * (b * k)
mul_assoc zero b k = omega arith
mul_assoc (suc a) b k =
    let one : (suc a * b) * k ≡ (a * b + b) * k = ap (λ (n : ℕ). n * k) (suc-mul a b) in
    let two = sum_mul (a * b) b k in
    let three = mul_assoc a b k in
    let four = suc-mul a (b * k) in
    omega (arith, one, two, three, four)

-- ---- simple types

simple_cells : (t : Shape) (v : Datum) → IsScalar t → Fits t v → cells v ≡ 1
simple_cells boolean (truth b) s f = refl
simple_cells boolean _ s f = absurd f
simple_cells null nothing s f = refl
simple_cells null _ s f = absurd f
simple_cells (integer r) (number z) s f = refl
simple_cells (integer r) _ s f = absurd f
simple_cells (enumerated root more) (item p) s f = refl
simple_cells (enumerated root more) _ s f = absurd f
simple_cells _ v s f = absurd s

-- a DEFAULT is a value of a simple type
pub default_cells : (t : Shape) (d : Datum) → good_default t d ≡ true → cells d ≡ 1
default_cells boolean (truth b) e = refl
default_cells (integer r) (number z) e = refl
default_cells (enumerated root more) (item p) e = refl
default_cells (enumerated root closed_labels) _ e = absurd (true≢false (sym e))
default_cells (enumerated root (marked_labels ls)) _ e = absurd (true≢false (sym e))
default_cells _ d e = absurd (true≢false (sym e))

module _ (c : Coding) (laws : Laws c) (fc : FieldCoding) (hold : HoldLaws c fc) where
  abbrev R : Fielding
  R = c.ruling.fielding

  abbrev V : Shape → Datum → List Chunk → Type 0
  V t = Spelt c.code None t

  abbrev ub : ℕ
  ub = unit_bits c

  abbrev size : List Chunk → ℕ
  size cs = length (flat c.ruling.fielding.spelled cs)

  -- a unit has a bit
  pub some_bits : 1 ≤ unit_bits c
  some_bits = go (unit_bits c) hold.octet_bits
    where
      go : (n : ℕ) → n * c.octet_units ≡ 8 → 1 ≤ n
      go zero e = absurd (omega (arith, e))
      go (suc n) e = omega arith

  -- the parts of chunks that are within some bits
  first_within : (x y cs : List Chunk) (k : ℕ) → cs ≡ x ++ y → unit_bits c * size cs ≤ k → unit_bits c * size x ≤ k
  first_within x y cs k e h =
      let all : ub * size cs ≡ ub * (size x + size y) = ap (λ (zs : List Chunk). ub * size zs) e ∙ ap (λ (i : ℕ). ub * i) (size-append R x y) in
      let sum = mul-add ub (size x) (size y) in
      omega (arith, all, sum, h)

  second_within : (x y cs : List Chunk) (k : ℕ) → cs ≡ x ++ y → unit_bits c * size cs ≤ k → unit_bits c * size y ≤ k
  second_within x y cs k e h =
      let all : ub * size cs ≡ ub * (size x + size y) = ap (λ (zs : List Chunk). ub * size zs) e ∙ ap (λ (i : ℕ). ub * i) (size-append R x y) in
      let sum = mul-add ub (size x) (size y) in
      omega (arith, all, sum, h)

  -- fewer units are fewer bits
  pub fewer_bits : (m n k : ℕ) → m ≤ n → unit_bits c * n ≤ k → unit_bits c * m ≤ k
  fewer_bits m n k l h =
      let e : ub * m ≤ ub * n = mul-le-mul_left ub l in
      omega (arith, e, h)

  -- a value that is spelt in k bits has at most p * k cells
  abbrev pub Few : (Datum → List Chunk → Type 0) → ℕ → Type 0
  Few L p = (v : Datum) (cs : List Chunk) (k : ℕ) → L v cs → 1 ≤ k → unit_bits c * length (flat c.ruling.fielding.spelled cs) ≤ k → cells v ≤ p * k

  -- and so have entries
  abbrev pub FewEntries : (List (Option Datum) → List Chunk → Type 0) → ℕ → Type 0
  FewEntries L p = (es : List (Option Datum)) (cs : List Chunk) (k : ℕ) → L es cs → 1 ≤ k → unit_bits c * length (flat c.ruling.fielding.spelled cs) ≤ k → total entry_cells es ≤ p * k

  -- ---- entries

  -- one that is spelt, before others
  entries_before : (L : Datum → List Chunk → Type 0) (M : List (Option Datum) → List Chunk → Type 0) (p q : ℕ) → Few L p → FewEntries M q → FewEntries (Before L M) (p + q)
  entries_before L M p q f g es cs k h a b =
      let t = h.spelt in
      let one = f t.spelt.source t.first k t.spelt.spelt a (first_within t.first t.second cs k t.whole b) in
      let two = g h.source.1 t.second k t.follows a (second_within t.first t.second cs k t.whole b) in
      let here : entry_cells h.source.0 ≡ cells t.spelt.source = ap entry_cells t.spelt.seen in
      let all : total entry_cells es ≡ entry_cells h.source.0 + total entry_cells h.source.1 = ap (total entry_cells) h.seen in
      let sum = sum_mul p q k in
      omega (arith, one, two, here, all, sum)

  -- one that is absent or has its DEFAULT
  entries_absent : (e : Option Datum) (M : List (Option Datum) → List Chunk → Type 0) (p q : ℕ) → entry_cells e ≡ 1 → 1 ≤ p → FewEntries M q → FewEntries (Map (λ es. e ∷ es) M) (p + q)
  entries_absent e M p q x l g es cs k h a b =
      let two = g h.source cs k h.spelt a b in
      let all : total entry_cells es ≡ entry_cells e + total entry_cells h.source = ap (total entry_cells) h.seen in
      let one = one_within p k l a in
      let sum = sum_mul p q k in
      omega (arith, one, two, x, all, sum)

  -- a value that is not the one that is left out
  other_few : (d : Option Datum) (t : Shape) → Few (V t) (places t) → Few (Spelt c.code d t) (places t)
  other_few d t f v cs k h a b = f v cs k (record { fits = (h.fits.0, tt); same = h.same }) a b

  -- what an open type field holds
  pub open_few : (t : Shape) → InProfile t → Few (V t) (places t) → Few (OpenOf c t) (places t)
  open_few t good f v cs k h a b =
      let w = h.spelt.encoding in
      let x = (laws.filled t good).from v (c.ruling.whole t v) (record { fits = w.0; same = refl }) in
      let y = x.spelt in
      let split : size (c.ruling.whole t v) ≡ size y.first + size y.second = ap (λ (zs : List Chunk). size zs) y.whole ∙ size-append R y.first y.second in
      let units : length (c.ruling.units h.content) ≡ size (c.ruling.whole t v) = ap length w.1 in
      let field : size cs ≡ length (c.ruling.fielding.spelled h.content ++ []) = ap (λ (zs : List Chunk). size zs) h.same in
      let none = length-append (c.ruling.fielding.spelled h.content) [] in
      let long = laws.tells.long h.content in
      let count = laws.tells.count h.content in
      let within : size y.first ≤ size cs = omega (arith, split, units, field, none, long, count) in
      let few = f x.source.0 y.first k y.spelt a (fewer_bits (size y.first) (size cs) k within b) in
      subst (λ (u : Datum). cells u ≤ places t * k) (sym x.seen) few

  -- ---- the kinds of type

  scalar_few : (t : Shape) → IsScalar t → 1 ≤ places t → Few (V t) (places t)
  scalar_few t s l v cs k h a b =
      let e = simple_cells t v s h.fits.0 in
      let w = one_within (places t) k l a in
      omega (arith, e, w)

  string_few : (t : Shape) → InProfile t → IsString t → Few (V t) 2
  string_few t good s v cs k h a b = (let m = hold.string t good s v cs h in omega (arith, m, a, b))

  -- chunks of a whole encoding have units
  sealed_first : (xs ys : List Chunk) → AllSealed c.ruling.fielding (xs ++ ys) → AllSealed c.ruling.fielding xs
  sealed_first [] ys h = tt
  sealed_first (one u ∷ xs) ys h = sealed_first xs ys h
  sealed_first (sealed k o ∷ xs) ys h = (h.0, sealed_first xs ys h.1)

  some_units : (cs : List Chunk) → AllSealed c.ruling.fielding cs → cs ≢ [] → 1 ≤ length (flat c.ruling.fielding.spelled cs)
  some_units [] a n = absurd (n refl)
  some_units (one u ∷ cs) a n = omega arith
  some_units (sealed open_field o ∷ cs) a n = (let l = length-append (c.ruling.fielding.spelled o) (flat c.ruling.fielding.spelled cs) in let s = laws.tells.units o in omega (arith, l, s))
  some_units (sealed utf8_field o ∷ cs) a n = (let l = length-append (c.ruling.fielding.spelled o) (flat c.ruling.fielding.spelled cs) in let s = laws.tells.units o in omega (arith, l, s))
  some_units (sealed (rest_of k us) o ∷ cs) a n = absurd a.0

  -- what is spelt is the beginning of a whole encoding
  spelt_units : (t : Shape) (v : Datum) → InProfile t → Fits t v → c.code t v ≢ [] → 1 ≤ length (flat c.ruling.fielding.spelled (c.code t v))
  spelt_units t v good f n =
      let x = (laws.filled t good).from v (c.ruling.whole t v) (record { fits = f; same = refl }) in
      let y = x.spelt in
      let first : y.first ≡ c.code t v = y.spelt.same ∙ ap (c.code t) (sym x.seen) in
      let whole : c.ruling.whole t v ≡ c.code t v ++ y.second = y.whole ∙ ap (λ (cs : List Chunk). cs ++ y.second) first in
      some_units (c.code t v) (sealed_first (c.code t v) y.second (subst (λ (cs : List Chunk). AllSealed c.ruling.fielding cs) whole (laws.tells.sealed t v good f))) n

  -- an element of a list has a unit
  pub element_units : (t : Shape) (s : SizeRange) → InProfile (sequence_of t s) → Weighs R (V t) (λ v. 1) 1
  element_units t s good v cs h =
      let inside = element_of_profile t s good in
      let w = hold.element t s good in
      let n : c.code t v ≢ [] = λ e. ⊎_elim (λ x. w.2 (sym x.1 ∙ e)) (λ x. subst (λ (ds : List Chunk). Parted ds (c.code t w.0)) e x.1) (laws.part t v w.0 inside h.fits.0 w.1) in
      let units = spelt_units t v inside h.fits.0 n in
      let same : size cs ≡ size (c.code t v) = ap (λ (ds : List Chunk). size ds) h.same in
      omega (arith, units, same)

  -- elements of a list, each with a unit
  element_weighs : (t : Shape) (s : SizeRange) → InProfile (sequence_of t s) → Few (V t) (places t) → Weighs R (V t) cells (places t * unit_bits c)
  element_weighs t s good f v cs h =
      let n = size cs in
      let some : 1 ≤ n = (let e = element_units t s good v cs h in omega (arith, e)) in
      let one = one_within ub n some_bits some in
      let few = f v cs (ub * n) h one (omega arith) in
      let same = mul_assoc (places t) ub n in
      omega (arith, few, same)

  list_few : (t : Shape) (s : SizeRange) → InProfile (sequence_of t s) → Few (V t) (places t) → Few (V (sequence_of t s)) (places (sequence_of t s))
  list_few t s good f v cs k h a b =
      let x = (laws.lists t s good).from v cs h in
      let all = listing_weighs c (V t) cells (places t * ub) s (element_weighs t s good f) x.source cs x.spelt in
      let same = mul_assoc (places t) ub (size cs) in
      let most : places t * (ub * size cs) ≤ places t * k = mul-le-mul_left (places t) b in
      let here : cells v ≡ suc (elements_cells (elements_of x.source)) = ap cells x.seen in
      let sum = elements_total x.source in
      let room = suc-mul (places t) k in
      omega (arith, all, same, most, here, sum, room, a)

  sequence_few : (root : Fields) (more : MoreFields) → InProfile (sequence root more) → ((bs : List ℕ) → FewEntries (Listed c.code root bs) (fields_places root)) → ((x : Bool) → FewEntries (AddedOf c more x) (more_places more))
      → Few (V (sequence root more)) (places (sequence root more))
  sequence_few root more good f g v cs k h a b =
      let x = (laws.sequences root more good).from v cs h in
      let t = x.spelt in
      let u = t.follows in
      let rest = second_within t.first t.second cs k t.whole b in
      let one = f (bits (bitmap_length root) x.source.0.1) x.source.1.0 u.first k u.spelt a (first_within u.first u.second t.second k u.whole rest) in
      let two = g x.source.0.0 x.source.1.1 u.second k u.follows a (second_within u.first u.second t.second k u.whole rest) in
      let here : cells v ≡ suc (components_cells (components_of (x.source.1.0 ++ x.source.1.1))) = ap cells x.seen in
      let sum = components_total (x.source.1.0 ++ x.source.1.1) in
      let parts = total-append entry_cells x.source.1.0 x.source.1.1 in
      let room = suc-mul (fields_places root + more_places more) k in
      let both = sum_mul (fields_places root) (more_places more) k in
      omega (arith, one, two, here, sum, parts, room, both, a)

  choice_few : (root : Alternatives) (more : MoreAlternatives) → InProfile (choice root more) → ((i : ℕ) → Few (ChosenOf (λ t. V t) root i) (choice_places root))
      → ((i : ℕ) → Few (ChosenOf (λ t. OpenOf c t) (more_alternatives more) i) (more_choice_places more)) → Few (V (choice root more)) (places (choice root more))
  choice_few root more good f g v cs k h a b =
      let x = (laws.choices root more good).from v cs h in
      let t = x.spelt in
      go x.source.0 x.source.1 t.second x.seen t.follows (second_within t.first t.second cs k t.whole b)
    where
      go : (i : ℕ ⊎ ℕ) (d : Datum) (ds : List Chunk) → v ≡ chosen_value root (i, d) → ChosenBy c root more i d ds → unit_bits c * size ds ≤ k → cells v ≤ places (choice root more) * k
      go (inl i) d ds e x l =
          let one = f i d ds k x a l in
          let here : cells v ≡ suc (cells d) = ap cells e in
          let room = suc-mul (choice_places root + more_choice_places more) k in
          let both = sum_mul (choice_places root) (more_choice_places more) k in
          omega (arith, one, here, room, both, a)
      go (inr i) d ds e x l =
          let one = g i d ds k x a l in
          let here : cells v ≡ suc (cells d) = ap cells e in
          let room = suc-mul (choice_places root + more_choice_places more) k in
          let both = sum_mul (choice_places root) (more_choice_places more) k in
          omega (arith, one, here, room, both, a)

  -- additions that are all absent
  absent_few : (fs : Fields) (k : ℕ) → 1 ≤ k → total entry_cells (absent_entries fs) ≤ fields_places fs * k
  absent_few no_fields k a = omega arith
  absent_few (field name demand t fs) k a =
      let one = one_within (places t) k (some_places t) a in
      let more = absent_few fs k a in
      let sum = sum_mul (places t) (fields_places fs) k in
      omega (arith, one, more, sum)

  none_few : (fs : Fields) → FewEntries (Nothing (absent_entries fs)) (fields_places fs)
  none_few fs es cs k h a b = rw h.same (absent_few fs k a)

  bitmap_few : (fs : Fields) → ((bs : List ℕ) → FewEntries (OpenListed c fs bs) (fields_places fs)) → FewEntries (AdditionsOf c fs) (fields_places fs)
  bitmap_few fs f es cs k h a b =
      let t = h.spelt in
      let all = f (bits (length (demands fs)) h.source.0) h.source.1 t.second k t.follows a (second_within t.first t.second cs k t.whole b) in
      subst (λ (xs : List (Option Datum)). total entry_cells xs ≤ fields_places fs * k) (sym h.seen) all

  -- additions of a type of the profile are of the profile
  pub more_good : (root : Fields) (more : MoreFields) → InProfile (sequence root more) → AreOfProfile (more_fields more)
  more_good root closed good = tt
  more_good root (marked fs) good = additions_of_profile root fs good

  mutual
    pub few_cells : (t : Shape) → InProfile t → Few (V t) (places t)
    few_cells boolean good v cs k h a b = scalar_few boolean tt (omega arith) v cs k h a b
    few_cells null good v cs k h a b = scalar_few null tt (omega arith) v cs k h a b
    few_cells (integer r) good v cs k h a b = scalar_few (integer r) tt (omega arith) v cs k h a b
    few_cells (enumerated root more) good v cs k h a b = scalar_few (enumerated root more) tt (omega arith) v cs k h a b
    few_cells (bit_string s) good v cs k h a b = string_few (bit_string s) good tt v cs k h a b
    few_cells (octet_string s) good v cs k h a b = string_few (octet_string s) good tt v cs k h a b
    few_cells (restricted al s) good v cs k h a b = string_few (restricted al s) good tt v cs k h a b
    few_cells utf8_string good v cs k h a b = string_few utf8_string good tt v cs k h a b
    few_cells (sequence root more) good v cs k h a b =
        sequence_few root more good (λ bs xs ds j x y z. few_listed root (components_of_profile root more good) bs xs ds j x y z) (λ e xs ds j x y z. few_added more (more_good root more good) e xs ds j x y z) v cs k h a b
    few_cells (sequence_of t s) good v cs k h a b = list_few t s good (λ u ds j x y z. few_cells t (element_of_profile t s good) u ds j x y z) v cs k h a b
    few_cells (choice root more) good v cs k h a b =
        choice_few root more good (λ i u ds j x y z. few_chosen root (root_good root more good) i u ds j x y z) (λ i u ds j x y z. few_chosen_addition more (added_good root more good) i u ds j x y z) v cs k h a b

    pub few_listed : (fs : Fields) → AreOfProfile fs → (bs : List ℕ) → FewEntries (Listed c.code fs bs) (fields_places fs)
    few_listed no_fields good bs es cs k h a b = rw h.same (omega arith)
    few_listed (field name must t fs) good bs es cs k h a b =
        entries_before (V t) (Listed c.code fs bs) (places t) (fields_places fs) (λ u ds j x y z. few_cells t good.0 u ds j x y z) (λ xs ds j x y z. few_listed fs good.2 bs xs ds j x y z) es cs k h a b
    few_listed (field name optional t fs) good [] es cs k h a b = absurd h
    few_listed (field name optional t fs) good (zero ∷ bs) es cs k h a b =
        entries_absent None (Listed c.code fs bs) (places t) (fields_places fs) refl (some_places t) (λ xs ds j x y z. few_listed fs good.2 bs xs ds j x y z) es cs k h a b
    few_listed (field name optional t fs) good (suc n ∷ bs) es cs k h a b =
        entries_before (V t) (Listed c.code fs bs) (places t) (fields_places fs) (λ u ds j x y z. few_cells t good.0 u ds j x y z) (λ xs ds j x y z. few_listed fs good.2 bs xs ds j x y z) es cs k h a b
    few_listed (field name (default d) t fs) good [] es cs k h a b = absurd h
    few_listed (field name (default d) t fs) good (zero ∷ bs) es cs k h a b =
        entries_absent (Some d) (Listed c.code fs bs) (places t) (fields_places fs) (default_cells t d good.1) (some_places t) (λ xs ds j x y z. few_listed fs good.2 bs xs ds j x y z) es cs k h a b
    few_listed (field name (default d) t fs) good (suc n ∷ bs) es cs k h a b =
        entries_before (Spelt c.code (Some d) t) (Listed c.code fs bs) (places t) (fields_places fs) (other_few (Some d) t (λ u ds j x y z. few_cells t good.0 u ds j x y z)) (λ xs ds j x y z. few_listed fs good.2 bs xs ds j x y z) es cs k h a b

    pub few_opened : (fs : Fields) → AreOfProfile fs → (bs : List ℕ) → FewEntries (OpenListed c fs bs) (fields_places fs)
    few_opened no_fields good bs es cs k h a b = rw h.same (omega arith)
    few_opened (field name demand t fs) good [] es cs k h a b = absurd h
    few_opened (field name demand t fs) good (zero ∷ bs) es cs k h a b =
        entries_absent None (OpenListed c fs bs) (places t) (fields_places fs) refl (some_places t) (λ xs ds j x y z. few_opened fs good.2 bs xs ds j x y z) es cs k h a b
    few_opened (field name demand t fs) good (suc n ∷ bs) es cs k h a b =
        entries_before (OpenOf c t) (OpenListed c fs bs) (places t) (fields_places fs) (open_few t good.0 (λ u ds j x y z. few_cells t good.0 u ds j x y z)) (λ xs ds j x y z. few_opened fs good.2 bs xs ds j x y z) es cs k h a b

    few_added : (more : MoreFields) → AreOfProfile (more_fields more) → (e : Bool) → FewEntries (AddedOf c more e) (more_places more)
    few_added closed good false es cs k h a b = none_few no_fields es cs k h a b
    few_added closed good true es cs k h a b = bitmap_few no_fields (λ bs xs ds j x y z. rw x.same (omega arith)) es cs k h a b
    few_added (marked fs) good false es cs k h a b = none_few fs es cs k h a b
    few_added (marked fs) good true es cs k h a b = bitmap_few fs (λ bs xs ds j x y z. few_opened fs good bs xs ds j x y z) es cs k h a b

    pub few_chosen : (alts : Alternatives) → AreAllOfProfile alts → (i : ℕ) → Few (ChosenOf (λ t. V t) alts i) (choice_places alts)
    few_chosen no_alternatives good i v cs k h a b = absurd h
    few_chosen (one_of name t alts) good zero v cs k h a b = (let one = few_cells t good.0 v cs k h a b in let sum = sum_mul (places t) (choice_places alts) k in omega (arith, one, sum))
    few_chosen (one_of name t alts) good (suc i) v cs k h a b = (let one = few_chosen alts good.1 i v cs k h a b in let sum = sum_mul (places t) (choice_places alts) k in omega (arith, one, sum))

    few_chosen_open : (alts : Alternatives) → AreAllOfProfile alts → (i : ℕ) → Few (ChosenOf (λ t. OpenOf c t) alts i) (choice_places alts)
    few_chosen_open no_alternatives good i v cs k h a b = absurd h
    few_chosen_open (one_of name t alts) good zero v cs k h a b =
        (let one = open_few t good.0 (λ u ds j x y z. few_cells t good.0 u ds j x y z) v cs k h a b in let sum = sum_mul (places t) (choice_places alts) k in omega (arith, one, sum))
    few_chosen_open (one_of name t alts) good (suc i) v cs k h a b = (let one = few_chosen_open alts good.1 i v cs k h a b in let sum = sum_mul (places t) (choice_places alts) k in omega (arith, one, sum))

    few_chosen_addition : (more : MoreAlternatives) → AreAllOfProfile (more_alternatives more) → (i : ℕ) → Few (ChosenOf (λ t. OpenOf c t) (more_alternatives more) i) (more_choice_places more)
    few_chosen_addition closed_choice good i v cs k h a b = absurd h
    few_chosen_addition (marked_choice alts) good i v cs k h a b = few_chosen_open alts good i v cs k h a b

  -- ---- encodings

  -- a value whose encoding has some octets
  pub cells_within : (t : Shape) (v : Datum) (o : List ℕ) → InProfile t → IsEncoding c.ruling t v o → cells v ≤ places t * max 1 (8 * length o)
  cells_within t v o good w =
      let x = (laws.filled t good).from v (c.ruling.whole t v) (record { fits = w.0; same = refl }) in
      let y = x.spelt in
      let split : size (c.ruling.whole t v) ≡ size y.first + size y.second = ap (λ (zs : List Chunk). size zs) y.whole ∙ size-append R y.first y.second in
      let units : length (c.ruling.units o) ≡ size (c.ruling.whole t v) = ap length w.1 in
      let count = laws.count o in
      let within : size y.first ≤ c.octet_units * length o = omega (arith, split, units, count) in
      let octets : ub * (c.octet_units * length o) ≡ 8 * length o = sym (mul_assoc ub c.octet_units (length o)) ∙ ap (λ (n : ℕ). n * length o) hold.octet_bits in
      let few = few_cells t good x.source.0 y.first (max 1 (8 * length o)) y.spelt (omega arith) (fewer_bits (size y.first) (c.octet_units * length o) (max 1 (8 * length o)) within (omega (arith, octets))) in
      subst (λ (u : Datum). cells u ≤ places t * max 1 (8 * length o)) (sym x.seen) few

  -- the units of octets, in bits
  pub bits_of_octets : (o : List ℕ) → unit_bits c * length (c.ruling.units o) ≡ 8 * length o
  bits_of_octets o = ap (λ (n : ℕ). unit_bits c * n) (laws.count o) ∙ sym (mul_assoc (unit_bits c) c.octet_units (length o)) ∙ ap (λ (n : ℕ). n * length o) hold.octet_bits

  -- elements weigh what their units allow
  pub elements_weigh : (t : Shape) (s : SizeRange) → InProfile (sequence_of t s) → Weighs R (V t) cells (places t * unit_bits c)
  elements_weigh t s good = element_weighs t s good (few_cells t (element_of_profile t s good))
