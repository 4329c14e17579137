-- What a canonical encoding is read as by another version of its type: as `received` says.
use Rattle.std.proofs.Common.{◌≡◌, ◌+◌, ◌-◌, ◌*◌, ◌<◌, ◌≤◌, ℕ, zero, suc, Bool, true, false, not, IsTrue, nat_lt, MatchBool, List, [], ◌∷◌, ◌++◌, length, map, take, drop, Option, None, Some, is_some, refl, sym, ap, subst, ◌∙◌, arith, append_assoc, inl, inr}
use Rattle.std.proofs.lemmas.Bool.{true≢false, ltb-true, ltb-false}
use Rattle.std.proofs.lemmas.List.{map-append}
use Rattle.std.specs.List.{list_all}
use Rattle.asn_values.specs.Datum.{Datum, item, components, component_list, Elements, elements, element_list, elements_of, alternative}
use Rattle.asn_values.specs.Shape.{SizeRange, Shape, boolean, null, integer, enumerated, bit_string, octet_string, restricted, utf8_string, sequence, sequence_of, choice, Label, closed_labels, marked_labels, Demand, must, optional, default, demands, Fields, no_fields, field, MoreFields, closed, marked, is_marked, Alternatives, no_alternatives, one_of, MoreAlternatives, closed_choice, marked_choice, is_marked_choice, more_alternatives, count}
use Rattle.asn_values.specs.Fits.{Fits, FitsEach, FitsMore, FitsAlternative, FitsMoreAlternatives}
use Rattle.asn_values.specs.Parts.{AreOfProfile, AreAllOfProfile}
use Rattle.asn_values.specs.Profile.{InProfile, good_default, is_optional, most_additions, TooMany, too_many_here, somewhere}
use Rattle.asn_values.proofs.InnerTypes.{element_of_profile, root_alternatives_of_profile, added_alternatives_of_profile, additions_optional, additions_of_profile}
use Rattle.asn_values.proofs.Parts.{components_of_profile, left_false, right_false}
use Rattle.asn_bits.specs.Numbers.{bits}
use Rattle.asn_bits.specs.Sets.{weighted}
use Rattle.asn_bits.proofs.Weights.{bits_only}
use Rattle.asn_rules.specs.Chunks.{Chunk, ones}
use Rattle.asn_rules.specs.Components.{is_default, presence, any_present, extension_bit, bit_of}
use Rattle.asn_bits.specs.Ranges.{Spanned, At}
use Rattle.asn_rules.specs.General.{Length, last, fragment, Left, Body, Within}
use Rattle.asn_rules.specs.Languages.{Row}
use Rattle.asn_rules.specs.Listed.{Spelt, bitmap_length}
use Rattle.asn_rules.proofs.Law.Entries.{presence_bits, default_is}
use Rattle.asn_walk.specs.Ahead.{Ahead, items, lengths, end, Remaining}
use Rattle.asn_walk.specs.Coding.{Coding, ListingOf, CanExtend, IsIndexWithin, absent_entries}
use Rattle.asn_walk.specs.Composites.{in_open_field, each_code, open_code, more_code, alternative_code, added_code, choice_parts}
use Rattle.asn_per.proofs.Types.AdditionLanguages.{bits_of_some}
use Rattle.asn_per.proofs.Types.ChoiceLanguages.{few_choices}
use Rattle.asn_per.proofs.Types.SequenceLanguage.{presence_length}
use Rattle.asn_newer.specs.declared.path.PathStep.TheVariants as step
use Rattle.asn_newer.specs.Skipped.{Reading, Entries, part_read, nothing_skipped, entry_read, entry_left, list_read}
use Rattle.asn_newer.specs.Loose.{LooseCoding, IsLooseAt, Complete, Unknown, additions_to_come, alternatives_to_come, Loose, LooseEach, LooseMore, LooseOpen, LooseRoot, LooseOther, LooseAdded}
use Rattle.asn_newer.specs.Versions.{Versions, FieldVersions, MoreVersions, AddedVersions, AlternativeVersions, MoreChoiceVersions, AddedAlternatives, received, entries_received, more_received, added_received, root_received, other_received, addition_received, unknown}
use Rattle.asn_newer.specs.NewerLaws.{PartLaws, Encodes}

-- ---- what versions have in common

-- as many presence bits in the root
same_bitmap : (a b : Bool) (fs gs : Fields) → FieldVersions a b fs gs → bitmap_length fs ≡ bitmap_length gs
same_bitmap a b no_fields no_fields w = refl
same_bitmap a b no_fields (field other need u gs) w = absurd w
same_bitmap a b (field name demand t fs) no_fields w = absurd w
same_bitmap a b (field name must t fs) (field other need u gs) w = subst (λ (d : Demand). bitmap_length fs ≡ bitmap_length (field other d u gs)) w.1 (same_bitmap a b fs gs w.3)
same_bitmap a b (field name optional t fs) (field other need u gs) w = subst (λ (d : Demand). suc (bitmap_length fs) ≡ bitmap_length (field other d u gs)) w.1 (ap suc (same_bitmap a b fs gs w.3))
same_bitmap a b (field name (default d) t fs) (field other need u gs) w = subst (λ (d : Demand). suc (bitmap_length fs) ≡ bitmap_length (field other d u gs)) w.1 (ap suc (same_bitmap a b fs gs w.3))

-- as many alternatives in the root
same_count : (a b : Bool) (alts others : Alternatives) → AlternativeVersions a b alts others → count alts ≡ count others
same_count a b no_alternatives no_alternatives w = refl
same_count a b no_alternatives (one_of other u others) w = absurd w
same_count a b (one_of name t alts) no_alternatives w = absurd w
same_count a b (one_of name t alts) (one_of other u others) w = ap suc (same_count a b alts others w.2)

-- a mark or none
same_mark : (a b : Bool) (more mores : MoreFields) → MoreVersions a b more mores → is_marked more ≡ is_some (additions_to_come mores)
same_mark a b closed closed w = refl
same_mark a b closed (marked gs) w = absurd w
same_mark a b (marked fs) closed w = absurd w
same_mark a b (marked fs) (marked gs) w = refl

same_choice_mark : (a b : Bool) (roots : Alternatives) (more mores : MoreAlternatives) → MoreChoiceVersions a b more mores → is_marked_choice more ≡ is_some (alternatives_to_come roots mores)
same_choice_mark a b roots closed_choice closed_choice w = refl
same_choice_mark a b roots closed_choice (marked_choice others) w = absurd w
same_choice_mark a b roots (marked_choice alts) closed_choice w = absurd w
same_choice_mark a b roots (marked_choice alts) (marked_choice others) w = refl

-- ---- limits of the profile

-- an alternative that fits is one of the count
index_below : (alts : Alternatives) (i : ℕ) (d : Datum) → FitsAlternative alts i d → i < count alts
index_below no_alternatives i d f = absurd f
index_below (one_of name t alts) zero d f = omega arith
index_below (one_of name t alts) (suc i) d f = let k = index_below alts i d f in omega (arith, k)

few_additions : (root fs : Fields) → InProfile (sequence root (marked fs)) → length (demands fs) ≤ 64
few_additions root fs good =
    ltb-false 64 (length (demands fs))
    (right_false _ (nat_lt most_additions (length (demands fs)))
    (left_false (too_many_here (sequence root (marked fs))) _ (left_false (somewhere too_many_here (sequence root (marked fs))) _ (good TooMany))))

-- ---- entries

-- additions of which none is present are read as absent
none_received : (l : LooseCoding) (place : ℕ) (a b : Bool) (fs gs : Fields) (es : List (Option Datum)) → AddedVersions a b fs gs → FitsEach fs es → any_present es ≡ false → added_received l place fs gs es ≡ (absent_entries gs, [])
none_received l place a b no_fields gs es w f e = refl
none_received l place a b (field name demand t fs) gs [] w f e = absurd f
none_received l place a b (field name demand t fs) gs (Some d ∷ es) w f e = absurd (true≢false e)
none_received l place a b (field name demand t fs) no_fields (None ∷ es) w f e = go fs es f.1 e (suc place)
  where
    go : (fs : Fields) (es : List (Option Datum)) → FitsEach fs es → any_present es ≡ false → (k : ℕ) → added_received l k fs no_fields es ≡ ([], [])
    go no_fields es f e k = refl
    go (field name demand t fs) [] f e k = absurd f
    go (field name demand t fs) (Some d ∷ es) f e k = absurd (true≢false e)
    go (field name demand t fs) (None ∷ es) f e k = go fs es f.1 e (suc k)
none_received l place a b (field name demand t fs) (field other need u gs) (None ∷ es) w f e = ap (entry_left None) (none_received l (suc place) a b fs gs es w.3 f.1 e)

-- ---- lists

module _ {A B : Type 0} (L : A → List Chunk → Type 0) (M : B → List Chunk → Type 0) (f : A → B) (each : (a : A) (cs : List Chunk) → L a cs → M (f a) cs) where
  row_map : (n : ℕ) (vs : List A) (cs : List Chunk) → Row L n vs cs → Row M n (map f vs) cs
  row_map zero vs cs h = record { same = ap (map f) h.same; empty = h.empty }
  row_map (suc n) vs cs h =
      let t = h.spelt in
      record {
        source = (f h.source.0, map f h.source.1);
        spelt = record { first = t.first; second = t.second; spelt = each h.source.0 t.first t.spelt; follows = row_map n h.source.1 t.second t.follows; whole = t.whole };
        seen = ap (map f) h.seen;
      }

  body_map : (n : ℕ) (S : ℕ → Type 0) → ((m : ℕ) (vs : List A) (cs : List Chunk) → Within L n (Left S m) vs cs → Within M n (Left S m) (map f vs) cs)
      → (k : Length) (vs : List A) (cs : List Chunk) → Body L (Within L n) S k vs cs → Body M (Within M n) S k (map f vs) cs
  body_map n S again (last k) vs cs h = row_map k vs cs h
  body_map n S again (fragment m) vs cs h =
      let t = h.spelt in
      record {
        source = (map f h.source.0, map f h.source.1);
        spelt = record { first = t.first; second = t.second; spelt = row_map (16384 * m) h.source.0 t.first t.spelt; follows = again m h.source.1 t.second t.follows; whole = t.whole };
        seen = ap (map f) h.seen ∙ map-append f h.source.0 h.source.1;
      }

  within_map : (n : ℕ) (S : ℕ → Type 0) (vs : List A) (cs : List Chunk) → Within L n S vs cs → Within M n S (map f vs) cs
  within_map zero S vs cs h = absurd h
  within_map (suc n) S vs cs h =
      let t = h.spelt in
      record {
        source = (h.source.0, map f h.source.1);
        spelt = record { first = t.first; second = t.second; spelt = t.spelt; follows = body_map n S (λ m ws ds g. within_map n (Left S m) ws ds g) h.source.0 h.source.1 t.second t.follows; whole = t.whole };
        seen = ap (map f) h.seen;
      }

  remaining_map : (a : Ahead) (vs : List A) (cs : List Chunk) → Remaining L a vs cs → Remaining M a (map f vs) cs
  remaining_map (items n) vs cs h = row_map n vs cs h
  remaining_map (lengths is so_far ended) vs cs h = record { lengths = h.lengths; spelt = within_map h.lengths (At (Spanned is) so_far ended) vs cs h.spelt }
  remaining_map end vs cs h = record { same = ap (map f) h.same; empty = h.empty }

-- a list, where each item is read as another
listing_map : {A B : Type 0} (L : A → List Chunk → Type 0) (M : B → List Chunk → Type 0) (c : Coding) (s : SizeRange) (f : A → B) → ((a : A) (cs : List Chunk) → L a cs → M (f a) cs)
    → (vs : List A) (cs : List Chunk) → ListingOf c s L vs cs → ListingOf c s M (map f vs) cs
listing_map L M c s f each vs cs h =
    let t = h.spelt in
    record {
      source = (h.source.0, map f h.source.1);
      spelt = record { first = t.first; second = t.second; spelt = t.spelt; follows = remaining_map L M f each h.source.0 h.source.1 t.second t.follows; whole = t.whole };
      seen = ap (map f) h.seen;
    }

-- the elements of a list
listed : (ds : List Datum) → element_list (elements_of ds) ≡ ds
listed [] = refl
listed (d ∷ ds) = ap (λ (l : List Datum). d ∷ l) (listed ds)

same_elements : (es : Elements) (ds : List Datum) → elements es ≡ elements (elements_of ds) → ds ≡ element_list es
same_elements es ds e = sym (listed ds) ∙ ap listed_of (sym e)
  where
    listed_of : Datum → List Datum
    listed_of (elements x) = element_list x
    listed_of _ = []

module _ (l : LooseCoding) (h : PartLaws l) (a b : Bool) where
  -- the content of an open type field
  complete : (t u : Shape) (d : Datum) → InProfile t → Fits t d → Loose l u (received l t u d) (l.coding.code t d) → Complete l.coding (Loose l u) (received l t u d) (l.coding.complete (l.coding.code t d))
  complete t u d good f r = record { octets = h.octets t d good f; chunks = l.coding.code t d; spelt = r; units = h.writes.complete t d good f ∙ h.filled t d good f }

  -- where an addition is present, there is a mark
  can_extend : (more mores : MoreFields) (es : List (Option Datum)) → MoreVersions a b more mores → FitsMore more es → any_present es ≡ true → CanExtend (additions_to_come mores)
  can_extend closed mores [] w f e = absurd (true≢false (sym e))
  can_extend closed mores (g ∷ es) w f e = absurd f
  can_extend (marked fs) closed es w f e = absurd w
  can_extend (marked fs) (marked gs) es w f e = tt

  -- where there is a mark
  none_added : (fs : Fields) → IsTrue a → AddedVersions a b fs no_fields
  none_added no_fields w = tt
  none_added (field name demand t fs) w = w

  none_chosen : (alts : Alternatives) → IsTrue a → AddedAlternatives a b alts no_alternatives
  none_chosen no_alternatives w = tt
  none_chosen (one_of name t alts) w = w

  -- a type on which a DEFAULT may stand has one version
  default_same : (t u : Shape) (d v : Datum) → good_default t d ≡ true → Versions a b t u → (t ≡ u) × (received l t u v ≡ nothing_skipped v)
  default_same boolean u d v g w = (w, refl)
  default_same (integer z) u d v g w = (w, refl)
  default_same (enumerated root closed_labels) (enumerated roots closed_labels) d v g w = (ap (λ (x : List Label). enumerated x closed_labels) w.0, refl)
  default_same (enumerated root closed_labels) (enumerated roots (marked_labels more)) d v g w = absurd w.1
  default_same (enumerated root closed_labels) _ d v g w = absurd w
  default_same _ u d v g w = absurd (true≢false (sym g))

  -- the additions of a CHOICE are of the profile
  other_profile : (root : Alternatives) (more : MoreAlternatives) → InProfile (choice root more) → AreAllOfProfile (more_alternatives more)
  other_profile root closed_choice good = tt
  other_profile root (marked_choice alts) good = added_alternatives_of_profile root alts good

  -- an index past the root is within the profile
  within : (root roots : Alternatives) (more mores : MoreAlternatives) (i : ℕ) (d : Datum) → InProfile (choice root more) → count root ≡ count roots → MoreChoiceVersions a b more mores → FitsMoreAlternatives more i d
      → IsIndexWithin (count roots) (alternatives_to_come roots mores) (inr i)
  within root roots closed_choice mores i d good e w f = absurd f
  within root roots (marked_choice alts) closed_choice i d good e w f = absurd w
  within root roots (marked_choice alts) (marked_choice others) i d good e w f =
      let few = few_choices root (marked_choice alts) good in
      let below = index_below alts i d f in
      omega (arith, few, below, e)

  marked_other : (more : MoreAlternatives) (i : ℕ) (d : Datum) → FitsMoreAlternatives more i d → true ≡ is_marked_choice more
  marked_other closed_choice i d f = absurd f
  marked_other (marked_choice alts) i d f = refl

  -- an alternative by its index
  chosen : (root roots : Alternatives) (more mores : MoreAlternatives) (tag : ℕ) (d : Datum) → InProfile (choice root more) → AlternativeVersions a b root roots → MoreChoiceVersions a b more mores
      → (k : Bool) → nat_lt tag (count root) ≡ k → MatchBool k (FitsAlternative root tag d) (FitsMoreAlternatives more (tag - count root) d)
      → (FitsAlternative root tag d → LooseRoot l tag roots tag (root_received l tag root roots tag d) (alternative_code l.coding root tag d))
      → ((i n : ℕ) → n + i ≡ tag → FitsMoreAlternatives more i d → LooseOther l n mores i (other_received l (n + i) more mores i d) (added_code l.coding more i d))
      → Loose l (choice roots mores) (received l (choice root more) (choice roots mores) (alternative tag d)) (l.coding.code (choice root more) (alternative tag d))
  chosen root roots more mores tag d good w x true q f here there =
      let c = l.coding in
      let e = same_count a b root roots w in
      record {
        source = (inl tag, root_received l tag root roots tag d);
        spelt = record {
          first = ones (c.index (count root) (is_marked_choice more) (inl tag));
          second = alternative_code c root tag d;
          spelt = record {
            fits = subst (λ (n : ℕ). tag < n) e (ltb-true tag (count root) q);
            same = ap (λ (n : ℕ). ones (c.index n (is_marked_choice more) (inl tag))) e ∙ ap (λ (k : Bool). ones (c.index (count roots) k (inl tag))) (same_choice_mark a b roots more mores x);
          };
          follows = here f;
          whole = h.writes.choices root more tag d ∙ ap (λ (k : Bool). choice_parts c root more k tag d) q;
        };
        seen = ap (λ (k : Bool). elim k [ true ↦ root_received l tag root roots tag d | false ↦ other_received l tag more mores (tag - count root) d ]) q;
      }
  chosen root roots more mores tag d good w x false q f here there =
      let c = l.coding in
      let i = tag - count root in
      let e = same_count a b root roots w in
      let above : count root ≤ tag = ltb-false tag (count root) q in
      let sum : count roots + i ≡ tag = omega (arith, e, above) in
      record {
        source = (inr i, other_received l tag more mores i d);
        spelt = record {
          first = ones (c.index (count root) true (inr i));
          second = added_code c more i d;
          spelt = record {
            fits = within root roots more mores i d good e x f;
            same = ap (λ (n : ℕ). ones (c.index n true (inr i))) e ∙ ap (λ (k : Bool). ones (c.index (count roots) k (inr i))) (marked_other more i d f ∙ same_choice_mark a b roots more mores x);
          };
          follows = subst (λ (n : ℕ). LooseOther l (count roots) mores i (other_received l n more mores i d) (added_code c more i d)) sum (there i (count roots) sum f);
          whole = h.writes.choices root more tag d ∙ ap (λ (k : Bool). choice_parts c root more k tag d) q;
        };
        seen = ap (λ (k : Bool). elim k [ true ↦ root_received l tag root roots tag d | false ↦ other_received l tag more mores i d ]) q;
      }

  -- a component with a DEFAULT, which is spelt where it has another value
  default_read : (i : ℕ) (name : List ℕ) (d v : Datum) (t u : Shape) (gs : Fields) (pres : List ℕ) (E : Entries) (cs : List Chunk) → InProfile t → good_default t d ≡ true → Versions a b t u → Fits t v
      → LooseEach l (suc i) gs pres E cs → (k : Bool) → is_default d v ≡ k
      → LooseEach l i (field name (default d) u gs) (bit_of (not k) ∷ pres) (entry_read (part_read (step.Component i) (received l t u v), E)) ((elim (not k) [ true ↦ l.coding.code t v | false ↦ [] ]) ++ cs)
  default_read i name d v t u gs pres E cs good g w f rest true e =
      record { source = E; spelt = rest; seen = ap (λ (r : Reading). entry_read (part_read (step.Component i) r, E)) (default_same t u d v g w).1 ∙ ap (λ (x : Datum). (Some x ∷ E.0, E.1)) (sym (default_is d v e)) }
  default_read i name d v t u gs pres E cs good g w f rest false e =
      let same = default_same t u d v g w in
      record {
        source = (part_read (step.Component i) (received l t u v), E);
        spelt = record {
          first = l.coding.code t v;
          second = cs;
          spelt = record { source = v; spelt = record { fits = (subst (λ (x : Shape). Fits x v) same.0 f, e); same = ap (λ (x : Shape). l.coding.code x v) same.0 }; seen = ap (part_read (step.Component i)) same.1 };
          follows = rest;
          whole = refl;
        };
        seen = refl;
      }

  -- by the extension bit
  by_bit : (root fs gs : Fields) (es : List (Option Datum)) → InProfile (sequence root (marked fs)) → AddedVersions a b fs gs → FitsEach fs es
      → LooseOpen l 0 gs (presence (demands fs) es) (added_received l 0 fs gs es) (open_code l.coding fs es)
      → (k : Bool) → any_present es ≡ k → LooseMore l (marked gs) k (added_received l 0 fs gs es) (elim k [ true ↦ ones (l.coding.addition_bitmap (presence (demands fs) es)) ++ open_code l.coding fs es | false ↦ [] ])
  by_bit root fs gs es good w f each false e = record { same = none_received l 0 a b fs gs es w f e; empty = refl }
  by_bit root fs gs es good w f each true e =
      let n = length (demands fs) in
      let m = bits_of_some fs (additions_of_profile root fs good) (additions_optional root fs good) es (f, e) in
      record {
        source = ((n, m.0), added_received l 0 fs gs es);
        spelt = record {
          first = ones (l.coding.addition_bitmap (presence (demands fs) es));
          second = open_code l.coding fs es;
          spelt = record { fits = record { few = few_additions root fs good; some = m.1.0; below = m.1.1 }; same = ap (λ (r : List ℕ). ones (l.coding.addition_bitmap r)) m.2.1 };
          follows = subst (λ (r : List ℕ). LooseOpen l 0 gs r (added_received l 0 fs gs es) (open_code l.coding fs es)) m.2.1 each;
          whole = refl;
        };
        seen = refl;
      }

  -- the open type field of an addition that the receiver has not
  skipped : (place : ℕ) (t : Shape) (d : Datum) → InProfile t → Fits t d → Unknown l.coding place (unknown l.coding place t d) (in_open_field l.coding (l.coding.code t d))
  skipped place t d good f =
      let o = l.coding.complete (l.coding.code t d) in
      record { source = o; spelt = record { content = o; spelt = record { same = refl; octets = h.octets t d good f; some = h.some t d good f }; same = refl }; seen = refl }

  mutual
    pub reads : (t u : Shape) (v : Datum) → InProfile t → Versions a b t u → Fits t v → Loose l u (received l t u v) (l.coding.code t v)
    reads boolean u v good w f = subst (λ (x : Shape). Loose l x (nothing_skipped v) (l.coding.code boolean v)) w (record { source = v; spelt = record { fits = (f, tt); same = refl }; seen = refl })
    reads null u v good w f = subst (λ (x : Shape). Loose l x (nothing_skipped v) (l.coding.code null v)) w (record { source = v; spelt = record { fits = (f, tt); same = refl }; seen = refl })
    reads (integer z) u v good w f = subst (λ (x : Shape). Loose l x (nothing_skipped v) (l.coding.code (integer z) v)) w (record { source = v; spelt = record { fits = (f, tt); same = refl }; seen = refl })
    reads (bit_string z) u v good w f = subst (λ (x : Shape). Loose l x (nothing_skipped v) (l.coding.code (bit_string z) v)) w (record { source = v; spelt = record { fits = (f, tt); same = refl }; seen = refl })
    reads (octet_string z) u v good w f = subst (λ (x : Shape). Loose l x (nothing_skipped v) (l.coding.code (octet_string z) v)) w (record { source = v; spelt = record { fits = (f, tt); same = refl }; seen = refl })
    reads (restricted k z) u v good w f = subst (λ (x : Shape). Loose l x (nothing_skipped v) (l.coding.code (restricted k z) v)) w (record { source = v; spelt = record { fits = (f, tt); same = refl }; seen = refl })
    reads utf8_string u v good w f = subst (λ (x : Shape). Loose l x (nothing_skipped v) (l.coding.code utf8_string v)) w (record { source = v; spelt = record { fits = (f, tt); same = refl }; seen = refl })
    reads (enumerated root closed_labels) (enumerated roots closed_labels) v good w f =
        subst (λ (x : List Label). Loose l (enumerated x closed_labels) (nothing_skipped v) (l.coding.code (enumerated root closed_labels) v)) w.0 (record { source = v; spelt = record { fits = (f, tt); same = refl }; seen = refl })
    reads (enumerated root closed_labels) (enumerated roots (marked_labels more)) v good w f = absurd w.1
    reads (enumerated root (marked_labels ls)) (enumerated roots closed_labels) v good w f = absurd w.1
    reads (enumerated root (marked_labels ls)) (enumerated roots (marked_labels more)) (item p) good w f =
        subst (λ (x : List Label). Loose l (enumerated x (marked_labels more)) (received l (enumerated root (marked_labels ls)) (enumerated x (marked_labels more)) (item p)) (l.coding.code (enumerated root (marked_labels ls)) (item p))) w.0
        (h.items a b root ls more p good w.1 f)
    reads (enumerated root (marked_labels ls)) (enumerated roots (marked_labels more)) _ good w f = absurd f
    reads (enumerated root closed_labels) _ v good w f = absurd w
    reads (enumerated root (marked_labels ls)) _ v good w f = absurd w
    reads (sequence root more) (sequence roots mores) (components cs) good w f =
        let c = l.coding in
        let es = take (length (demands root)) (component_list cs) in
        let gs = drop (length (demands root)) (component_list cs) in
        let pres = presence (demands root) es in
        let n = bitmap_length roots in
        let m = weighted 2 pres in
        let o = bits_only n m pres (record { digits = presence_bits (demands root) es; count = presence_length root es f.0 ∙ same_bitmap a b root roots w.0; sum = refl }) in
        let front : extension_bit (is_marked more) (any_present gs) ++ pres ≡ extension_bit (is_some (additions_to_come mores)) (any_present gs) ++ bits n m =
        ap (λ (k : Bool). extension_bit k (any_present gs) ++ pres) (same_mark a b more mores w.1) ∙ ap (λ (r : List ℕ). extension_bit (is_some (additions_to_come mores)) (any_present gs) ++ r) o.1 in
        record {
          source = ((any_present gs, m), (entries_received l 0 root roots es, more_received l more mores gs));
          spelt = record {
            first = ones (c.preamble (extension_bit (is_marked more) (any_present gs) ++ pres));
            second = each_code c root es ++ more_code c more gs;
            spelt = record { fits = (o.0, can_extend more mores gs w.1 f.1); same = ap (λ (r : List ℕ). ones (c.preamble r)) front };
            follows = record {
              first = each_code c root es;
              second = more_code c more gs;
              spelt = subst (λ (r : List ℕ). LooseEach l 0 roots r (entries_received l 0 root roots es) (each_code c root es)) o.1 (reads_each 0 root roots es (components_of_profile root more good) w.0 f.0);
              follows = reads_more root more mores gs good w.1 f.1;
              whole = refl;
            };
            whole = h.writes.sequences root more cs good f ∙ append_assoc (ones (c.preamble (extension_bit (is_marked more) (any_present gs) ++ pres))) (each_code c root es) (more_code c more gs);
          };
          seen = refl;
        }
    reads (sequence root more) (sequence roots mores) _ good w f = absurd f
    reads (sequence root more) _ v good w f = absurd w
    reads (sequence_of t s) (sequence_of u z) (elements ds) good w f =
        let there = (h.laws.lists t s good).from (elements ds) (l.coding.code (sequence_of t s) (elements ds)) (record { fits = (f, tt); same = refl }) in
        let its_spelling = subst (λ (x : SizeRange). ListingOf l.coding x (Loose l u) (map (λ d. received l t u d) there.source) (l.coding.code (sequence_of t s) (elements ds))) w.1
        (listing_map (Spelt l.coding.code None t) (Loose l u) l.coding s (λ d. received l t u d) (λ d cs k. subst (λ (x : List Chunk). Loose l u (received l t u d) x) (sym k.same) (reads t u d (element_of_profile t s good) w.0 k.fits.0)) there.source (l.coding.code (sequence_of t s) (elements ds)) there.spelt) in
        record { source = map (λ d. received l t u d) there.source; spelt = its_spelling; seen = ap (λ (es : List Datum). list_read (map (λ d. received l t u d) es)) (sym (same_elements ds there.source there.seen)) }
    reads (sequence_of t s) (sequence_of u z) _ good w f = absurd f
    reads (sequence_of t s) _ v good w f = absurd w
    reads (choice root more) (choice roots mores) (alternative tag d) good w f =
        chosen root roots more mores tag d good w.0 w.1 (nat_lt tag (count root)) refl f
        (λ g. reads_root tag root roots tag d (root_alternatives_of_profile root more good) w.0 g)
        (λ i n e g. reads_other n i more mores d (other_profile root more good) w.1 g)
    reads (choice root more) (choice roots mores) _ good w f = absurd f
    reads (choice root more) _ v good w f = absurd w

    reads_each : (i : ℕ) (fs gs : Fields) (es : List (Option Datum)) → AreOfProfile fs → FieldVersions a b fs gs → FitsEach fs es → LooseEach l i gs (presence (demands fs) es) (entries_received l i fs gs es) (each_code l.coding fs es)
    reads_each i no_fields no_fields [] good w f = record { same = refl; empty = refl }
    reads_each i no_fields no_fields (e ∷ es) good w f = absurd f
    reads_each i no_fields (field other need u gs) es good w f = absurd w
    reads_each i (field name demand t fs) no_fields es good w f = absurd w
    reads_each i (field name demand t fs) (field other need u gs) [] good w f = absurd f
    reads_each i (field name must t fs) (field other need u gs) (Some v ∷ es) good w f =
        subst (λ (k : Demand). LooseEach l i (field other k u gs) (presence (demands fs) es) (entry_read (part_read (step.Component i) (received l t u v), entries_received l (suc i) fs gs es)) (l.coding.code t v ++ each_code l.coding fs es)) w.1
        (record {
          source = (part_read (step.Component i) (received l t u v), entries_received l (suc i) fs gs es);
          spelt = record { first = l.coding.code t v; second = each_code l.coding fs es; spelt = record { source = received l t u v; spelt = reads t u v good.0 w.2 f.0; seen = refl }; follows = reads_each (suc i) fs gs es good.2 w.3 f.1; whole = refl };
          seen = refl;
        })
    reads_each i (field name must t fs) (field other need u gs) (None ∷ es) good w f = absurd f.0
    reads_each i (field name optional t fs) (field other need u gs) (Some v ∷ es) good w f =
        subst (λ (k : Demand). LooseEach l i (field other k u gs) (1 ∷ presence (demands fs) es) (entry_read (part_read (step.Component i) (received l t u v), entries_received l (suc i) fs gs es)) (l.coding.code t v ++ each_code l.coding fs es)) w.1
        (record {
          source = (part_read (step.Component i) (received l t u v), entries_received l (suc i) fs gs es);
          spelt = record { first = l.coding.code t v; second = each_code l.coding fs es; spelt = record { source = received l t u v; spelt = reads t u v good.0 w.2 f.0; seen = refl }; follows = reads_each (suc i) fs gs es good.2 w.3 f.1; whole = refl };
          seen = refl;
        })
    reads_each i (field name optional t fs) (field other need u gs) (None ∷ es) good w f =
        subst (λ (k : Demand). LooseEach l i (field other k u gs) (0 ∷ presence (demands fs) es) (entry_left None (entries_received l (suc i) fs gs es)) (each_code l.coding fs es)) w.1
        (record { source = entries_received l (suc i) fs gs es; spelt = reads_each (suc i) fs gs es good.2 w.3 f.1; seen = refl })
    reads_each i (field name (default d) t fs) (field other need u gs) (Some v ∷ es) good w f =
        subst (λ (k : Demand). LooseEach l i (field other k u gs) (presence (demands (field name (default d) t fs)) (Some v ∷ es)) (entry_read (part_read (step.Component i) (received l t u v), entries_received l (suc i) fs gs es)) (each_code l.coding (field name (default d) t fs) (Some v ∷ es))) w.1
        (default_read i other d v t u gs (presence (demands fs) es) (entries_received l (suc i) fs gs es) (each_code l.coding fs es) good.0 good.1 w.2 f.0 (reads_each (suc i) fs gs es good.2 w.3 f.1) (is_default d v) refl)
    reads_each i (field name (default d) t fs) (field other need u gs) (None ∷ es) good w f = absurd f.0

    reads_more : (root : Fields) (more mores : MoreFields) (es : List (Option Datum)) → InProfile (sequence root more) → MoreVersions a b more mores → FitsMore more es → LooseMore l mores (any_present es) (more_received l more mores es) (more_code l.coding more es)
    reads_more root closed closed [] good w f = record { same = refl; empty = refl }
    reads_more root closed closed (e ∷ es) good w f = absurd f
    reads_more root closed (marked gs) es good w f = absurd w
    reads_more root (marked fs) closed es good w f = absurd w
    reads_more root (marked fs) (marked gs) es good w f =
        by_bit root fs gs es good w f (reads_open 0 fs gs es (additions_of_profile root fs good) (additions_optional root fs good) w f) (any_present es) refl

    reads_open : (place : ℕ) (fs gs : Fields) (es : List (Option Datum)) → AreOfProfile fs → list_all is_optional (demands fs) ≡ true → AddedVersions a b fs gs → FitsEach fs es
        → LooseOpen l place gs (presence (demands fs) es) (added_received l place fs gs es) (open_code l.coding fs es)
    reads_open place no_fields no_fields [] good o w f = record { source = []; spelt = record { same = refl; empty = refl }; seen = refl }
    reads_open place no_fields (field other need u gs) [] good o w f = record { same = refl; empty = refl }
    reads_open place no_fields gs (e ∷ es) good o w f = absurd f
    reads_open place (field name demand t fs) gs [] good o w f = absurd f
    reads_open place (field name must t fs) gs (e ∷ es) good o w f = absurd (true≢false (sym o))
    reads_open place (field name (default d) t fs) gs (e ∷ es) good o w f = absurd (true≢false (sym o))
    reads_open place (field name optional t fs) no_fields (None ∷ es) good o w f = reads_open (suc place) fs no_fields es good.2 o (none_added fs w) f.1
    reads_open place (field name optional t fs) no_fields (Some d ∷ es) good o w f =
        let rest = reads_open (suc place) fs no_fields es good.2 o (none_added fs w) f.1 in
        let skip = unknown l.coding place t d in
        record {
          source = skip ∷ rest.source;
          spelt = record {
            source = (skip, rest.source);
            spelt = record { first = in_open_field l.coding (l.coding.code t d); second = open_code l.coding fs es; spelt = skipped place t d good.0 f.0; follows = rest.spelt; whole = refl };
            seen = refl;
          };
          seen = ap (λ (p : Entries). (p.0, skip ∷ p.1)) rest.seen;
        }
    reads_open place (field name optional t fs) (field other need u gs) (None ∷ es) good o w f = record { source = added_received l (suc place) fs gs es; spelt = reads_open (suc place) fs gs es good.2 o w.3 f.1; seen = refl }
    reads_open place (field name optional t fs) (field other need u gs) (Some d ∷ es) good o w f = record {
      source = (part_read (step.Addition place) (received l t u d), added_received l (suc place) fs gs es);
      spelt = record {
        first = in_open_field l.coding (l.coding.code t d);
        second = open_code l.coding fs es;
        spelt = record {
          source = received l t u d;
          spelt = record { content = l.coding.complete (l.coding.code t d); spelt = complete t u d good.0 f.0 (reads t u d good.0 w.2 f.0); same = refl };
          seen = refl;
        };
        follows = reads_open (suc place) fs gs es good.2 o w.3 f.1;
        whole = refl;
      };
      seen = refl;
    }

    reads_root : (tag : ℕ) (alts others : Alternatives) (i : ℕ) (d : Datum) → AreAllOfProfile alts → AlternativeVersions a b alts others → FitsAlternative alts i d
        → LooseRoot l tag others i (root_received l tag alts others i d) (alternative_code l.coding alts i d)
    reads_root tag no_alternatives others i d good w f = absurd f
    reads_root tag (one_of name t alts) no_alternatives i d good w f = absurd w
    reads_root tag (one_of name t alts) (one_of other u others) zero d good w f =
        record { source = part_read (step.Alternative tag) (received l t u d); spelt = record { source = received l t u d; spelt = reads t u d good.0 w.1 f; seen = refl }; seen = refl }
    reads_root tag (one_of name t alts) (one_of other u others) (suc i) d good w f = reads_root tag alts others i d good.1 w.2 f

    reads_other : (n i : ℕ) (more mores : MoreAlternatives) (d : Datum) → AreAllOfProfile (more_alternatives more) → MoreChoiceVersions a b more mores → FitsMoreAlternatives more i d
        → LooseOther l n mores i (other_received l (n + i) more mores i d) (added_code l.coding more i d)
    reads_other n i closed_choice mores d good w f = absurd f
    reads_other n i (marked_choice alts) closed_choice d good w f = absurd w
    reads_other n i (marked_choice alts) (marked_choice others) d good w f = reads_added (n + i) i alts others i d good w f

    reads_added : (tag place : ℕ) (alts others : Alternatives) (i : ℕ) (d : Datum) → AreAllOfProfile alts → AddedAlternatives a b alts others → FitsAlternative alts i d
        → LooseAdded l tag place others i (addition_received l tag place alts others i d) (in_open_field l.coding (alternative_code l.coding alts i d))
    reads_added tag place no_alternatives others i d good w f = absurd f
    reads_added tag place (one_of name t alts) no_alternatives zero d good w f = record { source = unknown l.coding place t d; spelt = skipped place t d good.0 f; seen = refl }
    reads_added tag place (one_of name t alts) no_alternatives (suc i) d good w f = reads_added tag place alts no_alternatives i d good.1 (none_chosen alts w) f
    reads_added tag place (one_of name t alts) (one_of other u others) zero d good w f = record {
      source = part_read (step.Alternative tag) (received l t u d);
      spelt = record {
        source = received l t u d;
        spelt = record { content = l.coding.complete (l.coding.code t d); spelt = complete t u d good.0 f (reads t u d good.0 w.1 f); same = refl };
        seen = refl;
      };
      seen = refl;
    }
    reads_added tag place (one_of name t alts) (one_of other u others) (suc i) d good w f = reads_added tag place alts others i d good.1 w.2 f

  -- octets of a complete encoding
  pub message_read : (t u : Shape) (v : Datum) (o : List ℕ) → InProfile t → Versions a b t u → Encodes l t v o → IsLooseAt l u (received l t u v).0 (received l t u v).1 o
  message_read t u v o good w e = record { octets = e.0; chunks = l.coding.code t v; spelt = reads t u v good w e.1.0; units = e.1.1 ∙ h.filled t v good e.1.0 }
