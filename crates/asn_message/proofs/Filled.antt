-- What stands in slots, as values are added.
use Rattle.std.proofs.Common.{◌≡◌, ◌≤◌, ◌<◌, ◌+◌, ◌-◌, ◌*◌, ◌%◌, ◌^◌, ℕ, zero, suc, List, [], ◌∷◌, ◌++◌, length, map, drop, Vec, Global, Option, Some, None, refl, sym, ap, subst, ◌∙◌, append_assoc, append-nil, arith}
use Rattle.std.proofs.Math.Numerals.{add-one}
use Rattle.std.proofs.lemmas.List.{take_at, drop_at, drop_all, drop-append-le, length-append, length-map, map_push}
use Rattle.asn_values.specs.Datum.{Datum, components, components_of, elements, elements_of, alternative}
use Rattle.asn_plan.specs.Plans.{absents}
use Rattle.asn_plan.proofs.Building.{absents_more}
use Rattle.asn_message.specs.declared.flat.Elements.{Elements}
use Rattle.asn_message.specs.declared.flat.Entries.{Entries}
use Rattle.asn_message.specs.declared.slots.Content.{Content}
use Rattle.asn_message.specs.declared.slots.Content.TheVariants as content
use Rattle.asn_message.specs.declared.slots.Room.{Room}
use Rattle.asn_message.specs.declared.slots.Slot.{Slot}
use Rattle.asn_message.specs.Building.{Stand, Nest, Grows, IsPut, AreInside, AreEntries, AreElements}
use Rattle.asn_message.specs.Slots.{entries_in, entries_inside, first_of, value_at, value_in, values_of, IsCounted, AreNested}

-- ---- slots after one another

pub in_both : (os : List ℕ) (xs ys : List Slot) (es : List (Option Datum))
    → entries_in os (xs ++ ys) es ≡ entries_in os xs (entries_in os ys es)
in_both os [] ys es = refl
in_both os (x ∷ xs) ys es =
    ap (λ (fs : List (Option Datum)). absents x.absent_before ++ (Some (value_at os x.content fs) ∷ drop (entries_inside x.content) fs)) (in_both os xs ys es)

-- octets that come later change nothing
pub later : (os more : List ℕ) (ss : List Slot) (es : List (Option Datum)) → Stand os ss es → Stand (os ++ more) ss es
later os more ss es h =
    λ a fs. subst (λ (o : List ℕ). entries_in o ss fs ≡ es ++ fs) (sym (append_assoc os more a)) (h (more ++ a) fs)

pub both_stand : (os : List ℕ) (xs ys : List Slot) (es fs : List (Option Datum)) → Stand os xs es → Stand os ys fs
    → Stand os (xs ++ ys) (es ++ fs)
both_stand os xs ys es fs h k =
    λ a gs. in_both (os ++ a) xs ys gs ∙ ap (λ (l : List (Option Datum)). entries_in (os ++ a) xs l) (k a gs) ∙ h a (fs ++ gs) ∙ sym (append_assoc es fs gs)

pub nest_later : (os more : List ℕ) (ss : List Slot) → Nest os ss → Nest (os ++ more) ss
nest_later os more ss h = λ a fs. subst (λ (o : List ℕ). AreNested o fs ss) (sym (append_assoc os more a)) (h (more ++ a) fs)

both_nested : (os : List ℕ) (xs ys : List Slot) (fs : List (Option Datum)) → AreNested os (entries_in os ys fs) xs
    → AreNested os fs ys → AreNested os fs (xs ++ ys)
both_nested os [] ys fs h k = k
both_nested os (x ∷ xs) ys fs h k =
    let inside : drop (entries_inside x.content) (entries_in os (xs ++ ys) fs) ≡ entries_in os (drop x.inside (xs ++ ys)) fs = ap (λ (l : List (Option Datum)). drop (entries_inside x.content) l) (in_both os xs ys fs) ∙ h.1.0 ∙ sym (in_both os (drop x.inside xs) ys fs) ∙ ap (λ (l : List Slot). entries_in os l fs) (sym (drop-append-le x.inside xs ys h.0)) in
    (omega (arith, h.0, length-append xs ys), (inside, (subst (λ (l : List (Option Datum)). IsCounted x.content l) (sym (in_both os xs ys fs)) h.1.1.0, both_nested os xs ys fs h.1.1.1 k)))

pub both_nest : (os : List ℕ) (xs ys : List Slot) → Nest os xs → Nest os ys → Nest os (xs ++ ys)
both_nest os xs ys h k = λ a fs. both_nested (os ++ a) xs ys fs (h a (entries_in (os ++ a) ys fs)) (k a fs)

pub grows_nothing : (r s : Room) → s.octets ≡ r.octets → Grows r s
grows_nothing r s e = ([], ap (λ (v : Vec ℕ Global). v.items) e ∙ sym (append-nil r.octets.items))

pub grows_both : (r s t : Room) → Grows r s → Grows s t → Grows r t
grows_both r s t g h =
    (g.0 ++ h.0, h.1 ∙ ap (λ (o : List ℕ). o ++ h.0) g.1 ∙ append_assoc r.octets.items g.0 h.0)

pub stays : (r s : Room) (ss : List Slot) (es : List (Option Datum)) → Grows r s → Stand r.octets.items ss es
    → Stand s.octets.items ss es
stays r s ss es g h = subst (λ (o : List ℕ). Stand o ss es) (sym g.1) (later r.octets.items g.0 ss es h)

pub nest_stays : (r s : Room) (ss : List Slot) → Grows r s → Nest r.octets.items ss → Nest s.octets.items ss
nest_stays r s ss g h = subst (λ (o : List ℕ). Nest o ss) (sym g.1) (nest_later r.octets.items g.0 ss h)

-- ---- a value without parts

-- its slot, before which so many components are absent
abbrev pub alone : Content → ℕ → Slot
alone c n = record { content = c; absent_before = n; inside = 0 }

counted_alone : (c : Content) (es : List (Option Datum)) → entries_inside c ≡ 0 → IsCounted c es
counted_alone (content.List count) es h = rw h refl
counted_alone _ es h = tt

pub put_alone : (r m s : Room) (c : Content) (d : Datum) → Grows r m → m.slots ≡ r.slots → m.absent ≡ r.absent
    → s.octets ≡ m.octets → s.absent ≡ 0 → s.slots.items ≡ m.slots.items ++ alone c m.absent ∷ []
    → entries_inside c ≡ 0
    → ((more : List ℕ) (es : List (Option Datum)) → value_at (m.octets.items ++ more) c es ≡ d) → IsPut r s d
put_alone r m s c d g same before os over slots none is =
    let old : m.slots.items ≡ r.slots.items = ap (λ (v : Vec Slot Global). v.items) same in
    let all : s.octets.items ≡ m.octets.items = ap (λ (v : Vec ℕ Global). v.items) os in
    record {
      grows = grows_both r m s g (grows_nothing m s os);
      first = alone c m.absent;
      inside = [];
      slots = slots ∙ ap (λ (l : List Slot). l ++ alone c m.absent ∷ []) old;
      before = before;
      over = over;
      stand = λ a fs. (let v : value_at (s.octets.items ++ a) c fs ≡ d = rw all (is a fs) in rw (v, none, before) (sym (append_assoc (absents r.absent) (Some d ∷ []) fs)));
      nest = λ a fs. (omega arith, (rw none refl, (counted_alone c fs none, tt)));
    }

-- the same value, seen otherwise
pub of_same : (r s : Room) (d e : Datum) → e ≡ d → IsPut r s d → IsPut r s e
of_same r s d e same h = subst (λ (x : Datum). IsPut r s x) (sym same) h

-- ---- values inside another

pub begun : (r s : Room) (c : Content) (at : ℕ) → s.octets ≡ r.octets
    → s.slots.items ≡ r.slots.items ++ alone c r.absent ∷ [] → at ≡ length r.slots.items → AreInside r s at []
begun r s c at os slots here = record {
  grows = grows_nothing r s os;
  first = alone c r.absent;
  inside = [];
  slots = slots;
  here = here;
  before = refl;
  stand = λ a fs. refl;
  nest = λ a fs. tt;
}

-- a value more, and the components that are absent before it
abbrev put_inside : (r s t : Room) (at : ℕ) (es : List (Option Datum)) (d : Datum) → AreInside r s at es → IsPut s t d
    → AreInside r t at (es ++ (absents s.absent ++ Some d ∷ []))
put_inside r s t at es d h k = record {
  grows = grows_both r s t h.grows k.grows;
  first = h.first;
  inside = h.inside ++ k.first ∷ k.inside;
  slots = k.slots ∙ ap (λ (l : List Slot). l ++ k.first ∷ k.inside) h.slots ∙ append_assoc r.slots.items (h.first ∷ h.inside) (k.first ∷ k.inside);
  here = h.here;
  before = h.before;
  stand = both_stand t.octets.items h.inside (k.first ∷ k.inside) es (absents s.absent ++ Some d ∷ []) (stays s t h.inside es k.grows h.stand) k.stand;
  nest = both_nest t.octets.items h.inside (k.first ∷ k.inside) (nest_stays s t h.inside k.grows h.nest) k.nest;
}

-- they are inside it whatever is absent after them
abbrev with_absent : (r s t : Room) (at : ℕ) (es : List (Option Datum)) → t.slots ≡ s.slots → t.octets ≡ s.octets
    → AreInside r s at es → AreInside r t at es
with_absent r s t at es slots os h =
    let g : Grows s t = grows_nothing s t os in
    record {
      grows = grows_both r s t h.grows g;
      first = h.first;
      inside = h.inside;
      slots = ap (λ (v : Vec Slot Global). v.items) slots ∙ h.slots;
      here = h.here;
      before = h.before;
      stand = stays s t h.inside es g h.stand;
      nest = nest_stays s t h.inside g h.nest;
    }

-- all of them are inside this slot
pub closed : (r s t : Room) (at : ℕ) (c : Content) (es : List (Option Datum)) (d : Datum) → AreInside r s at es
    → t.octets ≡ s.octets → t.absent ≡ 0
    → ((xs : List Slot) (old : Slot) (ys : List Slot) → s.slots.items ≡ xs ++ old ∷ ys → at ≡ length xs
    → t.slots.items ≡ xs ++ record { content = c; absent_before = old.absent_before; inside = length ys } ∷ ys)
    → ((os : List ℕ) (fs : List (Option Datum)) → value_at os c (es ++ fs) ≡ d)
    → ((fs : List (Option Datum)) → drop (entries_inside c) (es ++ fs) ≡ fs)
    → ((fs : List (Option Datum)) → IsCounted c (es ++ fs)) → IsPut r t d
closed r s t at c es d h os over slots value rest counted =
    let all : t.octets.items ≡ s.octets.items = ap (λ (v : Vec ℕ Global). v.items) os in
    record {
      grows = grows_both r s t h.grows (grows_nothing s t os);
      first = record { content = c; absent_before = h.first.absent_before; inside = length h.inside };
      inside = h.inside;
      slots = slots r.slots.items h.first h.inside h.slots h.here;
      before = h.before;
      over = over;
      stand = λ a fs. (let i : entries_in (t.octets.items ++ a) h.inside fs ≡ es ++ fs = rw all (h.stand a fs) in rw (i, value (t.octets.items ++ a) fs, rest fs, h.before) (sym (append_assoc (absents r.absent) (Some d ∷ []) fs)));
      nest = λ a fs. (let i : entries_in (t.octets.items ++ a) h.inside fs ≡ es ++ fs = rw all (h.stand a fs) in let n : AreNested (t.octets.items ++ a) fs h.inside = rw all (h.nest a fs) in (omega arith, (rw (i, rest fs, drop_all (length h.inside) h.inside (omega arith)) refl, (subst (λ (l : List (Option Datum)). IsCounted c l) (sym i) (counted fs), n))));
    }

-- where a value with parts has no more than 2^32 slots, fewer are inside it
few_inside : (r s : Room) (at : ℕ) (es : List (Option Datum)) (h : AreInside r s at es) → length s.slots.items ≤ at + 2 ^ 32
    → length h.inside < 2 ^ 32
few_inside r s at es h few =
    let all : length s.slots.items ≡ length r.slots.items + suc (length h.inside) = ap (λ (l : List Slot). length l) h.slots ∙ length-append r.slots.items (h.first ∷ h.inside) in
    omega (arith, few, all, h.here)

-- ---- SEQUENCE

pub no_entries : (r s : Room) (e : Entries) (c : Content) → s.octets ≡ r.octets → s.absent ≡ 0
    → s.slots.items ≡ r.slots.items ++ alone c r.absent ∷ [] → e.at ≡ length r.slots.items → e.count ≡ 0
    → AreEntries r s e []
no_entries r s e c os over slots here n = record {
  first = [];
  within = begun r s c e.at os slots here;
  all = rw over refl;
  few_absent = omega (arith, over);
  few = omega arith;
  count = n;
}

-- counting goes on past 2^64 from 0
counted_on : (n c d : ℕ) → c ≡ n % 2 ^ 64 → d ≡ (c + 1) % 2 ^ 64 → d ≡ (n + 1) % 2 ^ 64
counted_on n c d h k = omega (arith, h, k)

pub absent_more : (r s t : Room) (e : Entries) (n : ℕ) (es : List (Option Datum)) → AreEntries r s e es → t.slots ≡ s.slots
    → t.octets ≡ s.octets → t.absent ≡ s.absent + 1 → t.absent < 2 ^ 32 → n ≡ (e.count + 1) % 2 ^ 64
    → AreEntries r t (record { at = e.at; count = n }) (es ++ None ∷ [])
absent_more r s t e n es h slots os absent few count =
    let one : length (es ++ None ∷ []) ≡ length es + 1 = length-append es (None ∷ []) in
    record {
      first = h.first;
      within = with_absent r s t e.at h.first slots os h.within;
      all = ap (λ (l : List (Option Datum)). l ++ None ∷ []) h.all ∙ append_assoc h.first (absents s.absent) (None ∷ []) ∙ ap (λ (l : List (Option Datum)). h.first ++ l) (sym (rw (absent, add-one) (absents_more s.absent)));
      few_absent = few;
      few = omega (arith, one, h.few, absent);
      count = rw one (counted_on (length es) e.count n h.count count);
    }

length-absents : (n : ℕ) → length (absents n) ≡ n
length-absents zero = refl
length-absents (suc n) = ap suc (length-absents n)

pub present_more : (r s t : Room) (e : Entries) (n : ℕ) (es : List (Option Datum)) (d : Datum) → AreEntries r s e es
    → IsPut s t d → n ≡ (e.count + 1) % 2 ^ 64 → AreEntries r t (record { at = e.at; count = n }) (es ++ Some d ∷ [])
present_more r s t e n es d h k count =
    let more = absents s.absent ++ Some d ∷ [] in
    let one : length (es ++ Some d ∷ []) ≡ length es + 1 = length-append es (Some d ∷ []) in
    let slots : length (h.within.inside ++ k.first ∷ k.inside) ≡ length h.within.inside + suc (length k.inside) = length-append h.within.inside (k.first ∷ k.inside) in
    record {
      first = h.first ++ more;
      within = put_inside r s t e.at h.first d h.within k;
      all = ap (λ (l : List (Option Datum)). l ++ Some d ∷ []) h.all ∙ append_assoc h.first (absents s.absent) (Some d ∷ []) ∙ sym (append-nil (h.first ++ more)) ∙ ap (λ (n : ℕ). (h.first ++ more) ++ absents n) (sym k.over);
      few_absent = omega (arith, k.over);
      few = omega (arith, one, slots, h.few, h.few_absent, k.over);
      count = rw one (counted_on (length es) e.count n h.count count);
    }

pub sequence_put : (r s t : Room) (e : Entries) (taken : ℕ) (es : List (Option Datum)) → AreEntries r s e es
    → length s.slots.items ≤ e.at + 2 ^ 32 → taken ≡ (e.count + 2 ^ 64 - s.absent) % 2 ^ 64
    → t.octets ≡ s.octets → t.absent ≡ 0
    → ((xs : List Slot) (old : Slot) (ys : List Slot) → s.slots.items ≡ xs ++ old ∷ ys → e.at ≡ length xs
    → t.slots.items ≡ xs ++ record { content = content.Sequence taken s.absent; absent_before = old.absent_before; inside = length ys } ∷ ys)
    → IsPut r t (components (components_of es))
sequence_put r s t e taken es h small rest os over slots =
    let whole : length es ≡ length h.first + s.absent = ap (λ (l : List (Option Datum)). length l) h.all ∙ length-append h.first (absents s.absent) ∙ ap (λ (n : ℕ). length h.first + n) (length-absents s.absent) in
    let inside = few_inside r s e.at h.first h.within small in
    let first : length h.first ≡ taken = omega (arith, rest, h.count, whole, h.few, h.few_absent, inside) in
    closed r s t e.at (content.Sequence taken s.absent) h.first (components (components_of es)) h.within os over slots (λ o fs. rw (take_at h.first fs taken first, ← h.all) refl) (λ fs. drop_at h.first fs taken first) (λ fs. tt)

-- ---- SEQUENCE OF

pub no_elements : (r s : Room) (e : Elements) (c : Content) → s.octets ≡ r.octets → s.absent ≡ 0
    → s.slots.items ≡ r.slots.items ++ alone c r.absent ∷ [] → e.at ≡ length r.slots.items → e.count ≡ 0
    → AreElements r s e []
no_elements r s e c os over slots here n = record {
  within = begun r s c e.at os slots here;
  over = over;
  few = omega arith;
  count = n;
}

-- a value more, where no component is absent before it
abbrev next_inside : (r s t : Room) (at : ℕ) (es : List (Option Datum)) (d : Datum) → AreInside r s at es
    → s.absent ≡ 0 → IsPut s t d → AreInside r t at (es ++ Some d ∷ [])
next_inside r s t at es d h none k = record {
  grows = grows_both r s t h.grows k.grows;
  first = h.first;
  inside = h.inside ++ k.first ∷ k.inside;
  slots = k.slots ∙ ap (λ (l : List Slot). l ++ k.first ∷ k.inside) h.slots ∙ append_assoc r.slots.items (h.first ∷ h.inside) (k.first ∷ k.inside);
  here = h.here;
  before = h.before;
  stand = subst (λ (n : ℕ). Stand t.octets.items (h.inside ++ k.first ∷ k.inside) (es ++ (absents n ++ Some d ∷ []))) none (put_inside r s t at es d h k).stand;
  nest = both_nest t.octets.items h.inside (k.first ∷ k.inside) (nest_stays s t h.inside k.grows h.nest) k.nest;
}

pub element_more : (r s t : Room) (e : Elements) (n : ℕ) (ds : List Datum) (d : Datum) → AreElements r s e ds
    → IsPut s t d → n ≡ (e.count + 1) % 2 ^ 32 → AreElements r t (record { at = e.at; count = n }) (ds ++ d ∷ [])
element_more r s t e n ds d h k count =
    let one : length (ds ++ d ∷ []) ≡ length ds + 1 = length-append ds (d ∷ []) in
    let slots : length (h.within.inside ++ k.first ∷ k.inside) ≡ length h.within.inside + suc (length k.inside) = length-append h.within.inside (k.first ∷ k.inside) in
    let inside : AreInside r t e.at (map (λ d. Some d) ds ++ Some d ∷ []) = next_inside r s t e.at (map (λ d. Some d) ds) d h.within h.over k in
    record {
      within = record {
        grows = inside.grows;
        first = h.within.first;
        inside = h.within.inside ++ k.first ∷ k.inside;
        slots = inside.slots;
        here = h.within.here;
        before = h.within.before;
        stand = rw (map_push (λ d. Some d) ds d) inside.stand;
        nest = inside.nest;
      };
      over = k.over;
      few = omega (arith, one, slots, h.few);
      count = omega (arith, one, h.count, count);
    }

values_somes : (ds : List Datum) → values_of (map (λ d. Some d) ds) ≡ ds
values_somes [] = refl
values_somes (d ∷ ds) = ap (λ (l : List Datum). d ∷ l) (values_somes ds)

pub list_put : (r s t : Room) (e : Elements) (ds : List Datum) → AreElements r s e ds
    → length s.slots.items ≤ e.at + 2 ^ 32 → t.octets ≡ s.octets → t.absent ≡ s.absent
    → ((xs : List Slot) (old : Slot) (ys : List Slot) → s.slots.items ≡ xs ++ old ∷ ys → e.at ≡ length xs
    → t.slots.items ≡ xs ++ record { content = content.List e.count; absent_before = old.absent_before; inside = length ys } ∷ ys)
    → IsPut r t (elements (elements_of ds))
list_put r s t e ds h small os over slots =
    let inside = few_inside r s e.at (map (λ d. Some d) ds) h.within small in
    let count : length ds ≡ e.count = omega (arith, h.few, h.count, inside) in
    let n : length (map (λ (d : Datum). Some d) ds) ≡ e.count = length-map ds (λ d. Some d) ∙ count in
    closed r s t e.at (content.List e.count) (map (λ d. Some d) ds) (elements (elements_of ds)) h.within os (over ∙ h.over) slots (λ o fs. rw (take_at (map (λ d. Some d) ds) fs e.count n, values_somes ds) refl) (λ fs. drop_at (map (λ d. Some d) ds) fs e.count n) (λ fs. rw (take_at (map (λ (d : Datum). Some d) ds) fs e.count n, values_somes ds) count)

-- ---- CHOICE

pub choice_put : (r s t u : Room) (at place : ℕ) (d : Datum) → AreInside r s at [] → s.absent ≡ 0
    → IsPut s t d → u.octets ≡ t.octets → u.absent ≡ t.absent
    → ((xs : List Slot) (old : Slot) (ys : List Slot) → t.slots.items ≡ xs ++ old ∷ ys → at ≡ length xs
    → u.slots.items ≡ xs ++ record { content = content.Choice place; absent_before = old.absent_before; inside = length ys } ∷ ys)
    → IsPut r u (alternative place d)
choice_put r s t u at place d h none k os over slots =
    closed r t u at (content.Choice place) (Some d ∷ []) (alternative place d) (next_inside r s t at [] d h none k) os (over ∙ k.over) slots (λ o fs. refl) (λ fs. refl) (λ fs. tt)

-- ---- a whole message

whole_entries : (r s : Room) (d : Datum) (h : IsPut r s d) → r.absent ≡ 0
    → entries_in s.octets.items (h.first ∷ h.inside) [] ≡ Some d ∷ []
whole_entries r s d h none =
    let all : entries_in (s.octets.items ++ []) (h.first ∷ h.inside) [] ≡ Some d ∷ [] = rw none at (h.stand [] []) in
    subst (λ (o : List ℕ). entries_in o (h.first ∷ h.inside) [] ≡ Some d ∷ []) (append-nil s.octets.items) all

pub whole_value : (r s : Room) (d : Datum) → r.slots.items ≡ [] → r.absent ≡ 0 → IsPut r s d
    → value_in s.octets.items s.slots.items ≡ d
whole_value r s d none before h =
    let is : s.slots.items ≡ h.first ∷ h.inside = h.slots ∙ ap (λ (l : List Slot). l ++ h.first ∷ h.inside) none in
    let all = rw (h.before ∙ before) at (whole_entries r s d h before) in
    ap (λ (l : List Slot). value_in s.octets.items l) is ∙ ap first_of all

pub whole_nested : (r s : Room) (d : Datum) → r.slots.items ≡ [] → IsPut r s d
    → AreNested s.octets.items [] s.slots.items
whole_nested r s d none h =
    let is : s.slots.items ≡ h.first ∷ h.inside = h.slots ∙ ap (λ (l : List Slot). l ++ h.first ∷ h.inside) none in
    let all : AreNested s.octets.items [] (h.first ∷ h.inside) = subst (λ (o : List ℕ). AreNested o [] (h.first ∷ h.inside)) (append-nil s.octets.items) (h.nest [] []) in
    subst (λ (l : List Slot). AreNested s.octets.items [] l) (sym is) all
