-- What is read of a message is a value of the type, or one in which items and alternatives that the type has not stand
-- as such.
use Rattle.std.proofs.Common.{◌≡◌, ◌+◌, ◌-◌, ◌*◌, ◌⊎◌, ℕ, zero, suc, Bool, true, false, nat_lt, MatchBool, List, [], ◌∷◌, ◌++◌, length, map, take, drop, Option, None, Some, refl, sym, ap, subst, ◌∙◌, arith, inl, inr}
use Rattle.std.proofs.lemmas.Bool.{true≢false, lt-ltb, le-ltb}
use Rattle.std.proofs.lemmas.List.{length-map}
use Rattle.std.proofs.Math.Seq.{take-append_seam, drop-append_seam}
use Rattle.std.specs.List.{AllByRecursion, list_all}
use Rattle.asn_values.specs.Datum.{Datum, elements, elements_of, alternative, unknown_alternative}
use Rattle.asn_values.specs.Shape.{SizeRange, Shape, boolean, null, integer, enumerated, bit_string, octet_string, restricted, utf8_string, sequence, sequence_of, choice, Label, closed_labels, marked_labels, must, optional, default, demands, Fields, no_fields, field, MoreFields, closed, marked, Alternatives, no_alternatives, one_of, MoreAlternatives, closed_choice, marked_choice, more_alternatives, count}
use Rattle.asn_values.specs.Fits.{FitsLength}
use Rattle.asn_values.specs.Parts.{AreOfProfile, AreAllOfProfile}
use Rattle.asn_values.specs.Profile.{InProfile, is_optional}
use Rattle.asn_values.specs.Received.{FitsReceived, FitsEachBy, FitsMoreBy, FitsAlternativeBy, FitsMoreAlternativesBy, SequenceBy}
use Rattle.asn_values.proofs.InnerTypes.{element_of_profile, root_alternatives_of_profile, added_alternatives_of_profile, additions_optional, additions_of_profile}
use Rattle.asn_values.proofs.Parts.{components_of_profile}
use Rattle.asn_values.proofs.Received.{fits_by}
use Rattle.asn_values.proofs.Views.{component_list-components_of, element_list-elements_of}
use Rattle.asn_bits.specs.Numbers.{bits}
use Rattle.asn_bits.specs.Ranges.{Spanned, At}
use Rattle.asn_rules.specs.Chunks.{Chunk}
use Rattle.asn_rules.specs.General.{Length, last, fragment, Left, Body, Within}
use Rattle.asn_rules.specs.Languages.{Map, Row}
use Rattle.asn_rules.specs.Listed.{Spelt, bitmap_length}
use Rattle.asn_rules.proofs.Components.ListedEach.{good_fits}
use Rattle.asn_rules.proofs.Law.SomeValue.{a_value}
use Rattle.asn_walk.specs.Ahead.{Ahead, items, lengths, end, Remaining}
use Rattle.asn_walk.specs.Coding.{Coding, ListingOf, IsIndexWithin, absent_entries}
use Rattle.asn_walk.specs.Laws.{Laws}
use Rattle.asn_newer.specs.declared.path.PathStep.{PathStep}
use Rattle.asn_newer.specs.declared.path.PathStep.TheVariants as step
use Rattle.asn_newer.specs.Skipped.{Reading, Entries, Inside, nothing_skipped}
use Rattle.asn_newer.specs.NewerLaws.{ReadsFit}
use Rattle.asn_newer.specs.Loose.{LooseCoding, Known, AnyItem, alternatives_to_come, by_index, Loose, LooseEach, LooseMore, LooseOpen, LooseRoot, LooseOther, LooseAdded}

-- ---- lists: as many items of another language can stand there, and each item is one of its own

all_of_both : {A : Type 0} (P : A → Type 0) (vs ws : List A) → AllByRecursion P vs → AllByRecursion P ws → AllByRecursion P (vs ++ ws)
all_of_both P [] ws h g = g
all_of_both P (v ∷ vs) ws h g = (h.0, all_of_both P vs ws h.1 g)

map_of_both : {A B : Type 0} (f : A → B) (vs ws : List A) → map f (vs ++ ws) ≡ map f vs ++ map f ws
map_of_both f [] ws = refl
map_of_both f (v ∷ vs) ws = ap (λ xs. f v ∷ xs) (map_of_both f vs ws)

module _ {A B : Type 0} (L : A → List Chunk → Type 0) (M : B → List Chunk → Type 0) (b : B) (ks : List Chunk) (m : M b ks) where
  row_filled : (n : ℕ) (vs : List A) (cs : List Chunk) → Row L n vs cs → (ds : List Chunk) × Row M n (map (λ _. b) vs) ds
  row_filled zero vs cs h = ([], record { same = ap (map (λ _. b)) h.same; empty = refl })
  row_filled (suc n) vs cs h =
      let t = h.spelt in
      let r = row_filled n h.source.1 t.second t.follows in (
        ks ++ r.0,
        record {
          source = (b, map (λ _. b) h.source.1);
          spelt = record { first = ks; second = r.0; spelt = m; follows = r.1; whole = refl };
          seen = ap (map (λ _. b)) h.seen;
        },
      )

  body_filled : (n : ℕ) (S : ℕ → Type 0) → ((k : ℕ) (vs : List A) (cs : List Chunk) → Within L n (Left S k) vs cs → (ds : List Chunk) × Within M n (Left S k) (map (λ _. b) vs) ds)
      → (k : Length) (vs : List A) (cs : List Chunk) → Body L (Within L n) S k vs cs → (ds : List Chunk) × Body M (Within M n) S k (map (λ _. b) vs) ds
  body_filled n S again (last k) vs cs h = row_filled k vs cs h
  body_filled n S again (fragment k) vs cs h =
      let t = h.spelt in
      let r = row_filled (16384 * k) h.source.0 t.first t.spelt in
      let q = again k h.source.1 t.second t.follows in (
        r.0 ++ q.0,
        record {
          source = (map (λ _. b) h.source.0, map (λ _. b) h.source.1);
          spelt = record { first = r.0; second = q.0; spelt = r.1; follows = q.1; whole = refl };
          seen = ap (map (λ _. b)) h.seen ∙ map_of_both (λ _. b) h.source.0 h.source.1;
        },
      )

  within_filled : (n : ℕ) (S : ℕ → Type 0) (vs : List A) (cs : List Chunk) → Within L n S vs cs → (ds : List Chunk) × Within M n S (map (λ _. b) vs) ds
  within_filled zero S vs cs h = absurd h
  within_filled (suc n) S vs cs h =
      let t = h.spelt in
      let r = body_filled n S (λ k ws es g. within_filled n (Left S k) ws es g) h.source.0 h.source.1 t.second t.follows in (
        t.first ++ r.0,
        record {
          source = (h.source.0, map (λ _. b) h.source.1);
          spelt = record { first = t.first; second = r.0; spelt = t.spelt; follows = r.1; whole = refl };
          seen = ap (map (λ _. b)) h.seen;
        },
      )

  remaining_filled : (a : Ahead) (vs : List A) (cs : List Chunk) → Remaining L a vs cs → (ds : List Chunk) × Remaining M a (map (λ _. b) vs) ds
  remaining_filled (items n) vs cs h = row_filled n vs cs h
  remaining_filled (lengths is so_far ended) vs cs h =
      let r = within_filled h.lengths (At (Spanned is) so_far ended) vs cs h.spelt in
      (r.0, record { lengths = h.lengths; spelt = r.1 })
  remaining_filled end vs cs h = ([], record { same = ap (map (λ _. b)) h.same; empty = refl })

  listing_filled : (c : Coding) (s : SizeRange) (vs : List A) (cs : List Chunk) → ListingOf c s L vs cs → (ds : List Chunk) × ListingOf c s M (map (λ _. b) vs) ds
  listing_filled c s vs cs h =
      let t = h.spelt in
      let r = remaining_filled h.source.0 h.source.1 t.second t.follows in (
        t.first ++ r.0,
        record {
          source = (h.source.0, map (λ _. b) h.source.1);
          spelt = record { first = t.first; second = r.0; spelt = t.spelt; follows = r.1; whole = refl };
          seen = ap (map (λ _. b)) h.seen;
        },
      )

module _ {A : Type 0} (L : A → List Chunk → Type 0) (P : A → Type 0) (each : (v : A) (cs : List Chunk) → L v cs → P v) where
  row_all : (n : ℕ) (vs : List A) (cs : List Chunk) → Row L n vs cs → AllByRecursion P vs
  row_all zero vs cs h = subst (AllByRecursion P) (sym h.same) tt
  row_all (suc n) vs cs h =
      let t = h.spelt in
      subst (AllByRecursion P) (sym h.seen) (each h.source.0 t.first t.spelt, row_all n h.source.1 t.second t.follows)

  body_all : (n : ℕ) (S : ℕ → Type 0) → ((k : ℕ) (vs : List A) (cs : List Chunk) → Within L n (Left S k) vs cs → AllByRecursion P vs)
      → (k : Length) (vs : List A) (cs : List Chunk) → Body L (Within L n) S k vs cs → AllByRecursion P vs
  body_all n S again (last k) vs cs h = row_all k vs cs h
  body_all n S again (fragment k) vs cs h =
      let t = h.spelt in
      subst (AllByRecursion P) (sym h.seen) (all_of_both P h.source.0 h.source.1 (row_all (16384 * k) h.source.0 t.first t.spelt) (again k h.source.1 t.second t.follows))

  within_all : (n : ℕ) (S : ℕ → Type 0) (vs : List A) (cs : List Chunk) → Within L n S vs cs → AllByRecursion P vs
  within_all zero S vs cs h = absurd h
  within_all (suc n) S vs cs h =
      let t = h.spelt in
      subst (AllByRecursion P) (sym h.seen) (body_all n S (λ k ws es g. within_all n (Left S k) ws es g) h.source.0 h.source.1 t.second t.follows)

  remaining_all : (a : Ahead) (vs : List A) (cs : List Chunk) → Remaining L a vs cs → AllByRecursion P vs
  remaining_all (items n) vs cs h = row_all n vs cs h
  remaining_all (lengths is so_far ended) vs cs h = within_all h.lengths (At (Spanned is) so_far ended) vs cs h.spelt
  remaining_all end vs cs h = subst (AllByRecursion P) (sym h.same) tt

  listing_all : (c : Coding) (s : SizeRange) (vs : List A) (cs : List Chunk) → ListingOf c s L vs cs → AllByRecursion P vs
  listing_all c s vs cs h = subst (AllByRecursion P) (sym h.seen) (remaining_all h.source.0 h.source.1 h.spelt.second h.spelt.follows)

-- what holds of the value of each reading holds of each value
values_all : (P : Datum → Type 0) (rs : List Reading) → AllByRecursion (λ (r : Reading). P r.0) rs → AllByRecursion P (map (λ (r : Reading). r.0) rs)
values_all P [] h = tt
values_all P (r ∷ rs) h = (h.0, values_all P rs h.1)

-- as many as a list of the size may have
count_fits : (c : Coding) → Laws c → {A : Type 0} (L : A → List Chunk → Type 0) (t : Shape) (s : SizeRange) (vs : List A) (cs : List Chunk) → InProfile (sequence_of t s) → ListingOf c s L vs cs → FitsLength s (length vs)
count_fits c laws L t s vs cs good h =
    let d = a_value t (element_of_profile t s good) in
    let r = listing_filled L (Spelt c.code None t) d.0 (c.code t d.0) (record { fits = (d.1, tt); same = refl }) c s vs cs h in
    let ds = map (λ _. d.0) vs in
    let spelt = (laws.lists t s good).to (elements (elements_of ds)) r.0 (record { source = ds; spelt = r.1; seen = refl }) in
    subst (λ (n : ℕ). FitsLength s n) (ap length (element_list-elements_of ds) ∙ length-map vs (λ _. d.0)) spelt.fits.0.0

-- ---- entries

absent_fit : (fs : Fields) → list_all is_optional (demands fs) ≡ true → FitsEachBy true fs (absent_entries fs)
absent_fit no_fields o = tt
absent_fit (field name optional t fs) o = (tt, absent_fit fs o)
absent_fit (field name must t fs) o = absurd (true≢false (sym o))
absent_fit (field name (default d) t fs) o = absurd (true≢false (sym o))

-- one for each component
as_many : (fs : Fields) (es : List (Option Datum)) → FitsEachBy true fs es → length es ≡ length (demands fs)
as_many no_fields [] h = refl
as_many no_fields (e ∷ es) h = absurd h
as_many (field name demand t fs) [] h = absurd h
as_many (field name demand t fs) (e ∷ es) h = ap suc (as_many fs es h.1)

-- those of the root and of the additions
both_fit : (root : Fields) (more : MoreFields) (es gs : List (Option Datum)) → FitsEachBy true root es → FitsMoreBy true more gs → SequenceBy true root more (es ++ gs)
both_fit root more es gs f g =
    let n = as_many root es f in (
      subst (FitsEachBy true root) (sym (take-append_seam es gs) ∙ ap (λ k. take k (es ++ gs)) n) f,
      subst (FitsMoreBy true more) (sym (drop-append_seam es gs) ∙ ap (λ k. drop k (es ++ gs)) n) g,
    )

-- ---- alternatives

-- the value is that of the alternative at an index, with this tag
abbrev IsAlternativeAt : ℕ → Alternatives → ℕ → Datum → Type 0
IsAlternativeAt tag alts i v = (d : Datum) × (v ≡ alternative tag d) × FitsAlternativeBy true alts i d

-- that of an addition, or of one that the type has not
abbrev IsOtherAt : ℕ → MoreAlternatives → ℕ → Datum → Type 0
IsOtherAt tag closed_choice i v = ⊥
IsOtherAt tag (marked_choice alts) i v = IsAlternativeAt tag alts i v ⊎ (v ≡ unknown_alternative tag)

others_of_profile : (root : Alternatives) (more : MoreAlternatives) → InProfile (choice root more) → AreAllOfProfile (more_alternatives more)
others_of_profile root closed_choice good = tt
others_of_profile root (marked_choice alts) good = added_alternatives_of_profile root alts good

addition_of : (root alts : Alternatives) (i : ℕ) (v : Datum) → IsAlternativeAt (count root + i) alts i v ⊎ (v ≡ unknown_alternative (count root + i)) → FitsReceived (choice root (marked_choice alts)) v
addition_of root alts i v (inr e) = subst (FitsReceived (choice root (marked_choice alts))) (sym e) tt
addition_of root alts i v (inl (d, e, f)) =
    let tag = count root + i in
    let index : tag - count root ≡ i = omega arith in
    let outside : nat_lt tag (count root) ≡ false = le-ltb tag (count root) (omega arith) in
    subst (FitsReceived (choice root (marked_choice alts))) (sym e)
    (subst (λ b. MatchBool b (FitsAlternativeBy true root tag d) (FitsMoreAlternativesBy true (marked_choice alts) (tag - count root) d)) (sym outside)
    (subst (λ n. FitsAlternativeBy true alts n d) (sym index) f))

-- ---- all types

module _ (l : LooseCoding) (laws : Laws l.coding) where
  -- a value that is spelt canonically
  spelt_fits : (e : Option Datum) (t : Shape) (r : Reading) (cs : List Chunk) → Map nothing_skipped (Spelt l.coding.code e t) r cs → FitsReceived t r.0
  spelt_fits e t r cs h = subst (λ (q : Reading). FitsReceived t q.0) (sym h.seen) (fits_by true t h.source h.spelt.fits.0)

  item_fits : (root additions : List Label) (r : Reading) (cs : List Chunk) → AnyItem l root additions r cs → FitsReceived (enumerated root (marked_labels additions)) r.0
  item_fits root additions r cs (inl h) = spelt_fits None (enumerated root (marked_labels additions)) r cs h
  item_fits root additions r cs (inr h) = subst (λ (q : Reading). FitsReceived (enumerated root (marked_labels additions)) q.0) (sym h.seen) tt

  chosen_fits : (root : Alternatives) (more : MoreAlternatives) (k : ℕ ⊎ ℕ) (r : Reading) (cs : List Chunk) → ((i : ℕ) → LooseRoot l i root i r cs → IsAlternativeAt i root i r.0)
      → ((i : ℕ) → LooseOther l (count root) more i r cs → IsOtherAt (count root + i) more i r.0) → IsIndexWithin (count root) (alternatives_to_come root more) k
      → by_index (λ i. LooseRoot l i root i) (λ i. LooseOther l (count root) more i) k r cs → FitsReceived (choice root more) r.0
  chosen_fits root more (inl i) r cs here there within h =
      let d = here i h in
      subst (FitsReceived (choice root more)) (sym d.1) (subst (λ b. MatchBool b (FitsAlternativeBy true root i d.0) (FitsMoreAlternativesBy true more (i - count root) d.0)) (sym (lt-ltb i (count root) within)) d.2)
  chosen_fits root closed_choice (inr i) r cs here there within h = absurd h
  chosen_fits root (marked_choice alts) (inr i) r cs here there within h = addition_of root alts i r.0 (there i h)

  -- of a part, told of the whole
  inside_fits : (s : PathStep) (t : Shape) (L : Reading → List Chunk → Type 0) (r : Reading) (cs : List Chunk) (h : Inside s L r cs) → FitsReceived t h.source.0 → FitsReceived t r.0
  inside_fits s t L r cs h f = subst (λ (q : Reading). FitsReceived t q.0) (sym h.seen) f

  mutual
    pub fits : (t : Shape) (r : Reading) (cs : List Chunk) → InProfile t → Loose l t r cs → FitsReceived t r.0
    fits boolean r cs good h = spelt_fits None boolean r cs h
    fits null r cs good h = spelt_fits None null r cs h
    fits (integer z) r cs good h = spelt_fits None (integer z) r cs h
    fits (bit_string z) r cs good h = spelt_fits None (bit_string z) r cs h
    fits (octet_string z) r cs good h = spelt_fits None (octet_string z) r cs h
    fits (restricted k z) r cs good h = spelt_fits None (restricted k z) r cs h
    fits utf8_string r cs good h = spelt_fits None utf8_string r cs h
    fits (enumerated root closed_labels) r cs good h = spelt_fits None (enumerated root closed_labels) r cs h
    fits (enumerated root (marked_labels additions)) r cs good h = item_fits root additions r cs h
    fits (sequence root more) r cs good h =
        let t = h.spelt.follows in
        let es = h.source.1.0.0 in
        let gs = h.source.1.1.0 in
        let f = fits_each 0 root (bits (bitmap_length root) h.source.0.1) h.source.1.0 t.first (components_of_profile root more good) t.spelt in
        let g = fits_more root more h.source.0.0 h.source.1.1 t.second good t.follows in
        subst (λ (q : Reading). FitsReceived (sequence root more) q.0) (sym h.seen) (subst (SequenceBy true root more) (sym (component_list-components_of (es ++ gs))) (both_fit root more es gs f g))
    fits (sequence_of t s) r cs good h =
        let rs = h.source in
        let ds = map (λ (q : Reading). q.0) rs in
        let few = count_fits l.coding laws (Loose l t) t s rs cs good h.spelt in
        let all = values_all (FitsReceived t) rs (listing_all (Loose l t) (λ (q : Reading). FitsReceived t q.0) (λ q ks g. fits t q ks (element_of_profile t s good) g) l.coding s rs cs h.spelt) in
        subst (λ (q : Reading). FitsReceived (sequence_of t s) q.0) (sym h.seen)
        (subst (λ (xs : List Datum). FitsLength s (length xs) × AllByRecursion (FitsReceived t) xs) (sym (element_list-elements_of ds)) (subst (FitsLength s) (sym (length-map rs (λ (q : Reading). q.0))) few, all))
    fits (choice root more) r cs good h = subst (λ (q : Reading). FitsReceived (choice root more) q.0) (sym h.seen)
        (chosen_fits root more h.source.0 h.source.1 h.spelt.second (λ i f. root_fits i root i h.source.1 h.spelt.second (root_alternatives_of_profile root more good) f)
        (λ i f. other_fits (count root) more i h.source.1 h.spelt.second (others_of_profile root more good) f) h.spelt.spelt.fits h.spelt.follows)

    fits_each : (i : ℕ) (fs : Fields) (present : List ℕ) (p : Entries) (cs : List Chunk) → AreOfProfile fs → LooseEach l i fs present p cs → FitsEachBy true fs p.0
    fits_each i no_fields present p cs good h = subst (λ (q : Entries). FitsEachBy true no_fields q.0) (sym h.same) tt
    fits_each i (field name must t fs) present p cs good h =
        let u = h.spelt in
        subst (λ (q : Entries). FitsEachBy true (field name must t fs) q.0) (sym h.seen) (inside_fits (step.Component i) t (Loose l t) h.source.0 u.first u.spelt (fits t u.spelt.source u.first good.0 u.spelt.spelt), fits_each (suc i) fs present h.source.1 u.second good.2 u.follows)
    fits_each i (field name optional t fs) (suc b ∷ present) p cs good h =
        let u = h.spelt in
        subst (λ (q : Entries). FitsEachBy true (field name optional t fs) q.0) (sym h.seen) (inside_fits (step.Component i) t (Loose l t) h.source.0 u.first u.spelt (fits t u.spelt.source u.first good.0 u.spelt.spelt), fits_each (suc i) fs present h.source.1 u.second good.2 u.follows)
    fits_each i (field name optional t fs) (zero ∷ present) p cs good h =
        subst (λ (q : Entries). FitsEachBy true (field name optional t fs) q.0) (sym h.seen) (tt, fits_each (suc i) fs present h.source cs good.2 h.spelt)
    fits_each i (field name (default d) t fs) (suc b ∷ present) p cs good h =
        let u = h.spelt in
        subst (λ (q : Entries). FitsEachBy true (field name (default d) t fs) q.0) (sym h.seen) (spelt_fits (Some d) t h.source.0 u.first u.spelt, fits_each (suc i) fs present h.source.1 u.second good.2 u.follows)
    fits_each i (field name (default d) t fs) (zero ∷ present) p cs good h =
        subst (λ (q : Entries). FitsEachBy true (field name (default d) t fs) q.0) (sym h.seen) (fits_by true t d (good_fits t d good.0 good.1), fits_each (suc i) fs present h.source cs good.2 h.spelt)
    fits_each i (field name optional t fs) [] p cs good h = absurd h
    fits_each i (field name (default d) t fs) [] p cs good h = absurd h

    fits_more : (root : Fields) (more : MoreFields) (extended : Bool) (p : Entries) (cs : List Chunk) → InProfile (sequence root more) → LooseMore l more extended p cs → FitsMoreBy true more p.0
    fits_more root closed extended p cs good h = subst (λ (q : Entries). FitsMoreBy true closed q.0) (sym h.same) tt
    fits_more root (marked fs) false p cs good h = subst (λ (q : Entries). FitsEachBy true fs q.0) (sym h.same) (absent_fit fs (additions_optional root fs good))
    fits_more root (marked fs) true p cs good h =
        subst (λ (q : Entries). FitsEachBy true fs q.0) (sym h.seen)
        (fits_open 0 fs (bits h.source.0.0 h.source.0.1) h.source.1 h.spelt.second (additions_of_profile root fs good) (additions_optional root fs good) h.spelt.follows)

    fits_open : (place : ℕ) (fs : Fields) (present : List ℕ) (p : Entries) (cs : List Chunk) → AreOfProfile fs → list_all is_optional (demands fs) ≡ true → LooseOpen l place fs present p cs → FitsEachBy true fs p.0
    fits_open place no_fields present p cs good o h = subst (λ (q : Entries). FitsEachBy true no_fields q.0) (sym h.seen) tt
    fits_open place (field name must t fs) present p cs good o h = absurd (true≢false (sym o))
    fits_open place (field name (default d) t fs) present p cs good o h = absurd (true≢false (sym o))
    fits_open place (field name optional t fs) [] p cs good o h = subst (λ (q : Entries). FitsEachBy true (field name optional t fs) q.0) (sym h.same) (absent_fit (field name optional t fs) o)
    fits_open place (field name optional t fs) (zero ∷ present) p cs good o h =
        subst (λ (q : Entries). FitsEachBy true (field name optional t fs) q.0) (sym h.seen) (tt, fits_open (suc place) fs present h.source cs good.2 o h.spelt)
    fits_open place (field name optional t fs) (suc b ∷ present) p cs good o h =
        let u = h.spelt in
        let content = u.spelt.spelt.spelt in
        subst (λ (q : Entries). FitsEachBy true (field name optional t fs) q.0) (sym h.seen)
        (inside_fits (step.Addition place) t (Known l.coding (Loose l t)) h.source.0 u.first u.spelt (fits t u.spelt.source content.chunks good.0 content.spelt), fits_open (suc place) fs present h.source.1 u.second good.2 o u.follows)

    root_fits : (tag : ℕ) (alts : Alternatives) (i : ℕ) (r : Reading) (cs : List Chunk) → AreAllOfProfile alts → LooseRoot l tag alts i r cs → IsAlternativeAt tag alts i r.0
    root_fits tag no_alternatives i r cs good h = absurd h
    root_fits tag (one_of name t alts) zero r cs good h = let k = h.spelt in (h.source.0, ap (λ (q : Reading). q.0) h.seen, inside_fits (step.Alternative tag) t (Loose l t) h.source cs k (fits t k.source cs good.0 k.spelt))
    root_fits tag (one_of name t alts) (suc i) r cs good h = root_fits tag alts i r cs good.1 h

    addition_fits : (tag place : ℕ) (alts : Alternatives) (i : ℕ) (r : Reading) (cs : List Chunk) → AreAllOfProfile alts → LooseAdded l tag place alts i r cs
        → IsAlternativeAt tag alts i r.0 ⊎ (r.0 ≡ unknown_alternative tag)
    addition_fits tag place no_alternatives i r cs good h = inr (ap (λ (q : Reading). q.0) h.seen)
    addition_fits tag place (one_of name t alts) zero r cs good h =
        let k = h.spelt in
        let content = k.spelt.spelt in
        inl (h.source.0, ap (λ (q : Reading). q.0) h.seen, inside_fits (step.Alternative tag) t (Known l.coding (Loose l t)) h.source cs k (fits t k.source content.chunks good.0 content.spelt))
    addition_fits tag place (one_of name t alts) (suc i) r cs good h = addition_fits tag place alts i r cs good.1 h

    other_fits : (n : ℕ) (more : MoreAlternatives) (i : ℕ) (r : Reading) (cs : List Chunk) → AreAllOfProfile (more_alternatives more) → LooseOther l n more i r cs → IsOtherAt (n + i) more i r.0
    other_fits n closed_choice i r cs good h = absurd h
    other_fits n (marked_choice alts) i r cs good h = addition_fits (n + i) i alts i r cs good h

-- what is read of a message fits
pub reads_fit : (l : LooseCoding) → Laws l.coding → ReadsFit l
reads_fit l laws t v s o good h = fits l laws t (v, h.skipped) h.read.chunks good h.read.spelt
