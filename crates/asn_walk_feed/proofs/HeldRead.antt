-- What is held of a value of which some units have come is no more than these allow.
use Rattle.std.proofs.Common.{◌≡◌, ◌≤◌, ◌<◌, ◌+◌, ◌-◌, ◌*◌, ◌/◌, ◌%◌, ◌^◌, inr, ⊎_elim, ℕ, zero, suc, max, Bool, true, false, List, [], ◌∷◌, ◌++◌, length, length-append, drop, map, append-nil, Option, refl, sym, ap, subst, ◌∙◌, arith}
use mathlib.Core.List.{map-id}
use Rattle.std.proofs.lemmas.Bool.{true≢false}
use Rattle.std.proofs.Math.Nat.{mul-le-mul_left, suc-mul}
use Rattle.asn_values.specs.Datum.{Datum}
use Rattle.asn_values.specs.Measures.{places, fields_places, more_places, choice_places, more_choice_places, cells}
use Rattle.asn_values.specs.Parts.{AreAllOfProfile, IsGoodDemand}
use Rattle.asn_values.specs.Profile.{InProfile}
use Rattle.asn_values.specs.Shape.{SizeRange, Shape, bit_string, octet_string, restricted, utf8_string, sequence, sequence_of, choice, Demand, must, optional, default, Fields, no_fields, field, MoreFields, closed, marked, more_fields, Alternatives, no_alternatives, one_of, MoreAlternatives, closed_choice, marked_choice, count}
use Rattle.asn_values.specs.View.{Part, datum_of, entries_seen}
use Rattle.asn_values.specs.declared.value.Value.{Value}
use Rattle.asn_values.proofs.InnerTypes.{element_of_profile}
use Rattle.asn_values.proofs.Parts.{components_of_profile}
use Rattle.asn_bits.specs.Numbers.{bits}
use Rattle.asn_bits.specs.Sink.{bit_of}
use Rattle.asn_rules.specs.Chunks.{Chunk, flat}
use Rattle.asn_rules.specs.Components.{has_presence_bit}
use Rattle.asn_rules.specs.Listed.{Entry, bitmap_length}
use Rattle.asn_walk.specs.Ahead.{Ahead}
use Rattle.asn_walk.specs.Coding.{Coding, added_alternatives, IsIndexWithin}
use Rattle.asn_walk.specs.Laws.{Laws}
use Rattle.asn_walk.proofs.ComponentsRead.{ReadUpTo}
use Rattle.asn_walk.proofs.Parts.{root_good}
use Rattle.asn_walk_feed.specs.Additions.{addition_count, AdditionOf, RootRead, AdditionTook, NextAdditionTook, BitmapGoesOn, AdditionsGoOn}
use Rattle.asn_walk_feed.specs.Chosen.{AlternativeTook}
use Rattle.asn_walk_feed.specs.Feeding.{NextOf, Waits}
use Rattle.asn_walk_feed.specs.Holding.{entry_cells, held_in, unit_bits, HoldLaws}
use Rattle.asn_walk_feed.specs.Keeping.{KeepLaws}
use Rattle.asn_walk_feed.specs.Octets.{OctetsGoOn, OctetsTook}
use Rattle.asn_walk_feed.specs.OpenFields.{FieldCoding}
use Rattle.asn_walk_feed.specs.Roots.{parts_in, IsPresent, OtherTook, DemandTook, EntryTook}
use Rattle.asn_walk_feed.specs.Strings.{IsString}
use Rattle.asn_walk_feed.specs.Taken.{Took, ElementTook, ListGoesOn, RootReached, ChoiceReached, AdditionReached}
use Rattle.asn_walk_feed.specs.Weights.{total, allowed}
use Rattle.asn_walk_feed.specs.declared.frame.AdditionBits.{AdditionBits}
use Rattle.asn_walk_feed.specs.declared.frame.Components.{Components}
use Rattle.asn_walk_feed.specs.declared.frame.Elements.{Elements}
use Rattle.asn_walk_feed.specs.declared.frame.Frame.{Frame}
use Rattle.asn_walk_feed.specs.declared.frame.Frame.TheVariants as frame
use Rattle.asn_walk_feed.proofs.Cells.{some_places, one_within, sum_mul, mul_assoc, some_bits, fewer_bits, default_cells, few_cells, few_listed, open_few, elements_weigh}
use Rattle.asn_walk_feed.proofs.Weights.{total-one, total-eight, spells_fewer, chunks_fewer}

-- what types allow together, for p each
allowed_places : (k : ℕ) (fs : Fields) → allowed (λ t. places t * k) (parts_in fs) ≡ fields_places fs * k
allowed_places k no_fields = omega arith
allowed_places k (field name demand t fs) =
    (let e = allowed_places k fs in let sum = sum_mul (places t) (fields_places fs) k in omega (arith, e, sum))

-- the first of some
allowed_first : (b : Shape → ℕ) (rest : List Part) (p : Part) (ps : List Part) → rest ≡ p ∷ ps → b p.shape ≤ allowed b rest
allowed_first b rest p ps e = (let all : allowed b rest ≡ b p.shape + allowed b ps = ap (allowed b) e in omega (arith, all))

-- a number below 2 is a bit
a_bit : (n : ℕ) → n < 2 → (b : Bool) × (bit_of b ≡ n)
a_bit zero h = (false, refl)
a_bit (suc zero) h = (true, refl)
a_bit (suc (suc n)) h = absurd (omega (arith, h))

-- a node and what is within others
one_more : (p k : ℕ) (m : ℕ) → 1 ≤ k → m ≤ p * k → suc m ≤ suc p * k
one_more p k m a h = (let room = suc-mul p k in omega (arith, room, a, h))

-- the types inside a SEQUENCE and a CHOICE have places
within_first : (a b k m : ℕ) → m ≤ a * k → m ≤ (a + b) * k
within_first a b k m h = (let sum = sum_mul a b k in omega (arith, sum, h))

within_second : (a b k m : ℕ) → m ≤ b * k → m ≤ (a + b) * k
within_second a b k m h = (let sum = sum_mul a b k in omega (arith, sum, h))

within_one : (p k m : ℕ) → 1 ≤ p → m ≤ k → m ≤ p * k
within_one zero k m h l = absurd (omega (arith, h))
within_one (suc p) k m h l = (let e = suc-mul p k in omega (arith, e, l))

module _ {F : Type 0} (c : Coding) (laws : Laws c) (fc : FieldCoding) (keep : KeepLaws c fc) (hold : HoldLaws c fc) (ahead : F → Ahead) (between : F → Type 0) where
  abbrev ub : ℕ
  ub = unit_bits c

  abbrev bits_so_far : List ℕ → ℕ
  bits_so_far us = max 1 (unit_bits c * length us)

  -- what is said of the nodes further in
  abbrev Again : List (Frame F) → Type 0
  Again fs = (t : Shape) (us : List ℕ) → InProfile t → Took c fc ahead between fs t us → held_in fs ≤ places t * bits_so_far us

  -- where more bits are allowed
  at_most : (fs : List (Frame F)) → Again fs → (t : Shape) (us : List ℕ) (k : ℕ) → InProfile t → Took c fc ahead between fs t us → 1 ≤ k → unit_bits c * length us ≤ k → held_in fs ≤ places t * k
  at_most fs again t us k good h a b =
      let one = again t us good h in
      let most : bits_so_far us ≤ k = omega (arith, a, b) in
      let more : places t * bits_so_far us ≤ places t * k = mul-le-mul_left (places t) most in
      omega (arith, one, more)

  none_held : (fs : List (Frame F)) → fs ≡ [] → held_in fs ≡ 0
  none_held fs e = ap held_in e

  -- ---- octets

  -- those of an open type field that have come
  field_held : (fs : List (Frame F)) (us : List ℕ) (k : ℕ) → OctetsTook c fc.open_type ahead between fs us → 1 ≤ k → unit_bits c * length us ≤ k → held_in fs ≤ k
  field_held [] us k h a b = omega arith
  field_held (frame.Start x ∷ []) us k h a b = omega (arith, a)
  field_held (frame.Start x ∷ y ∷ fs) us k h a b = absurd h
  field_held (frame.Octets q ∷ fs) us k h a b =
      let g : OctetsGoOn c fc.open_type ahead between q us [] = h.2 in
      let few = g.light (λ o. 8) (unit_bits c) (λ vs cs x. rw (keep.open_type.none_first (vs, x.0) cs x.1) (omega arith)) hold.octet in
      let same : total (λ (o : ℕ). 8) (map (λ (o : ℕ). o) q.elements.items) ≡ 8 * length q.elements.items = ap (λ (os : List ℕ). total (λ (o : ℕ). 8) os) (map-id q.elements.items) ∙ total-eight q.elements.items in
      let none = none_held fs h.0 in
      omega (arith, few, same, none, a, b)
  field_held (frame.Elements q ∷ fs) us k h a b = absurd h
  field_held (frame.Components q ∷ fs) us k h a b = absurd h
  field_held (frame.Bitmap q ∷ fs) us k h a b = absurd h
  field_held (frame.Additions q ∷ fs) us k h a b = absurd h
  field_held (frame.Chosen q ∷ fs) us k h a b = absurd h
  field_held (frame.Added q ∷ fs) us k h a b = absurd h

  -- the items of a string that have come
  string_held : (t : Shape) → InProfile t → IsString t → (q : Elements F ℕ) (fs : List (Frame F)) (us : List ℕ) → fs ≡ [] → OctetsGoOn c (fc.string t) ahead between q us []
      → suc (length q.elements.items + held_in fs) ≤ 2 * bits_so_far us
  string_held t good s q fs us e g =
      let few = g.light (λ o. 1) 1 (hold.first t good s) (hold.item t good s) in
      let same : total (λ (o : ℕ). 1) (map (λ (o : ℕ). o) q.elements.items) ≡ length q.elements.items = ap (λ (os : List ℕ). total (λ (o : ℕ). 1) os) (map-id q.elements.items) ∙ total-one q.elements.items in
      let bits_each = within_one ub (length us) (length us) (some_bits c laws fc hold) (omega arith) in
      let none = none_held fs e in
      omega (arith, few, same, none, bits_each)

  -- ---- SEQUENCE OF

  module _ (fs : List (Frame F)) (again : Again fs) (q : Elements F Value) (t : Shape) (s : SizeRange) (us : List ℕ) (good : InProfile (sequence_of t s)) (h : ListGoesOn c fc ahead between t s q fs us []) where
    -- what is held of the next element
    element_held : Took c fc ahead between fs t h.come × (h.come ≡ [] → fs ≡ []) → held_in fs ≤ places t * (unit_bits c * length h.come)
    element_held w = go h.come refl
      where
        go : (xs : List ℕ) → h.come ≡ xs → held_in fs ≤ places t * (unit_bits c * length h.come)
        go [] e = (let none = none_held fs (w.1 e) in omega (arith, none))
        go (x ∷ xs) e =
            let some : 1 ≤ length h.come = (let l : length h.come ≡ length (x ∷ xs) = ap length e in omega (arith, l)) in
            at_most fs again t h.come (unit_bits c * length h.come) (element_of_profile t s good) w.0 (one_within ub (length h.come) (some_bits c laws fc hold) some) (omega arith)

    next_element_held : held_in fs ≤ places t * (unit_bits c * length h.come)
    next_element_held = go q.left refl
      where
        go : (n : ℕ) → q.left ≡ n → held_in fs ≤ places t * (unit_bits c * length h.come)
        go zero e =
            let inner : (fs ≡ []) × Waits c (NextOf (ahead q.fragments)) q.next_part h.come = rw e at h.inner in
            let none = none_held fs inner.0 in
            omega (arith, none)
        go (suc n) e =
            let inner : ElementTook c fc ahead between q.next_part fs t h.come = rw e at h.inner in
            ⊎_elim (λ x. element_held x.1) (λ x. (let none = none_held fs x.0 in omega (arith, none))) inner

    list_held : suc (total cells (map datum_of q.elements.items) + held_in fs) ≤ places (sequence_of t s) * bits_so_far us
    list_held =
        let p = places t in
        let few = h.light cells (p * ub) (λ vs cs e. rw e (omega arith)) (elements_weigh c laws fc hold t s good) in
        let come : length (h.come ++ []) ≡ length h.come = ap length (append-nil h.come) in
        let here : (p * ub) * length (h.come ++ []) ≡ p * (ub * length h.come) = ap (λ (n : ℕ). (p * ub) * n) come ∙ mul_assoc p ub (length h.come) in
        let all = mul_assoc p ub (length us) in
        let most : p * (ub * length us) ≤ p * bits_so_far us = mul-le-mul_left p (omega arith) in
        one_more p (bits_so_far us) (total cells (map datum_of q.elements.items) + held_in fs) (omega arith) (omega (arith, few, here, all, most, next_element_held))

  -- ---- the root of a SEQUENCE

  -- the entry of a component
  entry_few : (d : Demand) (t : Shape) (present : Bool) (e : Option Datum) (cs : List Chunk) (k : ℕ) → InProfile t → IsGoodDemand d t → Entry c.code d t present e cs → 1 ≤ k → unit_bits c * length (flat c.ruling.fielding.spelled cs) ≤ k
      → entry_cells e ≤ places t * k
  entry_few d t true e cs k good g h a b =
      let few = few_cells c laws fc hold t good h.source cs k (record { fits = (h.spelt.fits.0, tt); same = h.spelt.same }) a b in
      subst (λ (x : Option Datum). entry_cells x ≤ places t * k) (sym h.seen) few
  entry_few must t false e cs k good g h a b = subst (λ (x : Option Datum). entry_cells x ≤ places t * k) (sym h.same) (one_within (places t) k (some_places t) a)
  entry_few optional t false e cs k good g h a b = subst (λ (x : Option Datum). entry_cells x ≤ places t * k) (sym h.same) (one_within (places t) k (some_places t) a)
  entry_few (default d) t false e cs k good g h a b =
      let one = one_within (places t) k (some_places t) a in
      let few : cells d ≤ places t * k = (let w = default_cells t d g in omega (arith, w, one)) in
      subst (λ (x : Option Datum). entry_cells x ≤ places t * k) (sym h.same) few

  -- what is held of a component
  entry_held : (fs : List (Frame F)) → Again fs → (p : Part) (present : Bool) (us : List ℕ) (k : ℕ) → InProfile p.shape → EntryTook c fs (λ t vs. Took c fc ahead between fs t vs) p present us → 1 ≤ k → unit_bits c * length us ≤ k
      → held_in fs ≤ places p.shape * k
  entry_held fs again p false us k good h a b = (let none = none_held fs h.0 in omega (arith, none))
  entry_held fs again p true us k good h a b = by_demand p.demand h
    where
      other : (gs : List (Frame F)) (d : Datum) → OtherTook c gs d p.shape us → held_in gs ≤ places p.shape * k
      other [] d x = omega arith
      other (frame.Start z ∷ []) d x = one_within (places p.shape) k (some_places p.shape) a
      other (frame.Start z ∷ y ∷ gs) d x = absurd x
      other (frame.Elements z ∷ gs) d x = absurd x
      other (frame.Components z ∷ gs) d x = absurd x
      other (frame.Bitmap z ∷ gs) d x = absurd x
      other (frame.Additions z ∷ gs) d x = absurd x
      other (frame.Chosen z ∷ gs) d x = absurd x
      other (frame.Added z ∷ gs) d x = absurd x
      other (frame.Octets z ∷ gs) d x = absurd x

      by_demand : (d : Demand) → DemandTook c fs (λ t vs. Took c fc ahead between fs t vs) d p.shape us → held_in fs ≤ places p.shape * k
      by_demand must x = at_most fs again p.shape us k good x a b
      by_demand optional x = at_most fs again p.shape us k good x a b
      by_demand (default d) x = other fs d x

  module _ (fs : List (Frame F)) (again : Again fs) (q : Components) (root : Fields) (more : MoreFields) (us : List ℕ) (h : RootReached c fc ahead between root more q fs us []) where
    abbrev most_root : ℕ
    most_root = max 1 (unit_bits c * length us)

    -- what has come of the next component is among all
    come_within : unit_bits c * length h.come ≤ most_root
    come_within =
        let s = (h.stands []).stands in
        let one = ap length s.split ∙ length-append (flat c.ruling.fielding.spelled s.front) ((h.come ++ []) ++ []) in
        let l : length h.come ≤ length us = omega (arith, one, length-append h.between [], length-append (h.come ++ []) [], length-append h.come [], spells_fewer h.preamble) in
        fewer_bits c laws fc hold (length h.come) (length us) most_root l (omega arith)

    next_component_held : held_in fs ≤ allowed (λ t. places t * most_root) (drop (length q.entries.items) (parts_in root))
    next_component_held = go (drop (length q.entries.items) (parts_in root)) refl
      where
        go : (rest : List Part) → drop (length q.entries.items) (parts_in root) ≡ rest → held_in fs ≤ allowed (λ t. places t * most_root) (drop (length q.entries.items) (parts_in root))
        go [] e =
            let inner : (fs ≡ []) × (h.come ≡ []) = rw e at h.inner in
            let none = none_held fs inner.0 in
            omega (arith, none)
        go (p ∷ ps) e =
            let st : ReadUpTo c [] (parts_in root) (bitmap_length root) q.presence.bitmap (h.between ++ []) (p ∷ ps) q.presence.left (entries_seen q.entries.items) ((h.come ++ []) ++ []) = rw e at h.stands [] in
            let inner : (x : Bool) → IsPresent p q.presence.left q.presence.bitmap x → EntryTook c fs (λ t vs. Took c fc ahead between fs t vs) p x h.come = rw e at h.inner in
            let first = allowed_first (λ t. places t * most_root) (drop (length q.entries.items) (parts_in root)) p ps e in
            let held = by_bit p (has_presence_bit p.demand) refl st.of_profile.0 inner in
            omega (arith, first, held)
          where
            by_bit : (p : Part) (b : Bool) → has_presence_bit p.demand ≡ b → InProfile p.shape
                → ((x : Bool) → IsPresent p q.presence.left q.presence.bitmap x → EntryTook c fs (λ t vs. Took c fc ahead between fs t vs) p x h.come) → held_in fs ≤ places p.shape * most_root
            by_bit p false e good inner =
                entry_held fs again p true h.come most_root good (inner true (record { must = λ x. refl; bit = λ x. absurd (true≢false (sym x ∙ e)) })) (omega arith) come_within
            by_bit p true e good inner =
                let x = a_bit (q.presence.bitmap / 2 ^ (q.presence.left - 1) % 2) (omega arith) in
                entry_held fs again p x.0 h.come most_root good (inner x.0 (record { must = λ y. absurd (true≢false (sym e ∙ y)); bit = λ y. x.1 })) (omega arith) come_within

    root_held : suc (total entry_cells (entries_seen q.entries.items) + held_in fs) ≤ places (sequence root more) * most_root
    root_held =
        let light = h.light entry_cells (λ t. places t * most_root) (λ p present e cs good g s l. entry_few p.demand p.shape present e cs most_root good g s (omega arith) (fewer_bits c laws fc hold (length (flat c.ruling.fielding.spelled cs)) (length us) most_root l (omega arith))) in
        let all = allowed_places most_root root in
        one_more (fields_places root + more_places more) most_root (total entry_cells (entries_seen q.entries.items) + held_in fs) (omega arith) (within_first (fields_places root) (more_places more) most_root (total entry_cells (entries_seen q.entries.items) + held_in fs) (omega (arith, light, all, next_component_held)))

  -- ---- the extension additions of a SEQUENCE

  addition_few : (t : Shape) (present : Bool) (e : Option Datum) (cs : List Chunk) (k : ℕ) → InProfile t → AdditionOf c t present e cs → 1 ≤ k → unit_bits c * length (flat c.ruling.fielding.spelled cs) ≤ k → entry_cells e ≤ places t * k
  addition_few t true e cs k good h a b =
      let few = open_few c laws fc hold t good (few_cells c laws fc hold t good) h.source cs k h.spelt a b in
      subst (λ (x : Option Datum). entry_cells x ≤ places t * k) (sym h.seen) few
  addition_few t false e cs k good h a b = subst (λ (x : Option Datum). entry_cells x ≤ places t * k) (sym h.same) (one_within (places t) k (some_places t) a)

  module _ (root : Fields) (more : MoreFields) (us : List ℕ) (good : InProfile (sequence root more)) where
    abbrev most_added : ℕ
    most_added = max 1 (unit_bits c * length us)

    -- the entries of the root
    root_few : (es : List (Option Datum)) (rest : List ℕ) → RootRead c root more es us rest → total entry_cells es ≤ fields_places root * most_added
    root_few es rest r =
        let w = r.components in
        let l : length (flat c.ruling.fielding.spelled w.chunks) ≤ length us = omega (arith, chunks_fewer w, spells_fewer r.preamble) in
        few_listed c laws fc hold root (components_of_profile root more good) (bits (bitmap_length root) r.bitmap) es w.chunks most_added w.spelt (omega arith) (fewer_bits c laws fc hold (length (flat c.ruling.fielding.spelled w.chunks)) (length us) most_added l (omega arith))

    bitmap_held : (p : AdditionBits) (fs : List (Frame F)) → fs ≡ [] → BitmapGoesOn c root more (entries_seen p.entries.items) p.begun us [] → suc (total entry_cells (entries_seen p.entries.items) + held_in fs) ≤ places (sequence root more) * most_added
    bitmap_held p fs e h =
        let few = root_few (entries_seen p.entries.items) (h.come ++ []) h.root_read in
        let none = none_held fs e in
        one_more (fields_places root + more_places more) most_added (total entry_cells (entries_seen p.entries.items) + held_in fs) (omega arith) (within_first (fields_places root) (more_places more) most_added (total entry_cells (entries_seen p.entries.items) + held_in fs) (omega (arith, few, none)))

    module _ (fs : List (Frame F)) (q : Components) (h : AdditionsGoOn c root more q (λ come. NextAdditionTook c fc ahead between fs q.presence.left q.presence.bitmap come) us []) where
      abbrev rest_of_parts : List Part
      rest_of_parts = drop (addition_count more - q.presence.left) (parts_in (more_fields more))

      added_within : unit_bits c * length h.come ≤ most_added
      added_within =
          let s = (h.stands []).stands in
          let r = h.root_read in
          let one = ap length s.split ∙ length-append (flat c.ruling.fielding.spelled s.front) ((h.come ++ []) ++ []) in
          let l : length h.come ≤ length us = omega (arith, one, length-append h.between [], length-append (h.come ++ []) [], length-append h.come [], spells_fewer h.bitmap, spells_fewer r.components, spells_fewer r.preamble) in
          fewer_bits c laws fc hold (length h.come) (length us) most_added l (omega arith)

      addition_held : held_in fs ≤ allowed (λ t. places t * most_added) rest_of_parts
      addition_held = go q.presence.left refl rest_of_parts refl
        where
          by_bit : (b : Bool) → AdditionTook c fc ahead between fs b h.come → held_in fs ≤ most_added
          by_bit false x = (let none = none_held fs x.0 in omega (arith, none))
          by_bit true x = field_held fs h.come most_added x (omega arith) added_within

          go : (n : ℕ) → q.presence.left ≡ n → (rest : List Part) → rest_of_parts ≡ rest → held_in fs ≤ allowed (λ t. places t * most_added) rest_of_parts
          go zero e rest x =
              let inner : (fs ≡ []) × (h.come ≡ []) = subst (λ (m : ℕ). NextAdditionTook c fc ahead between fs m q.presence.bitmap h.come) e h.inner in
              let none = none_held fs inner.0 in
              omega (arith, none)
          go (suc n) e [] x =
              let w : q.presence.left ≡ length rest_of_parts = (h.stands []).width in
              let z : length rest_of_parts ≡ 0 = ap length x in
              absurd (omega (arith, w, z, e))
          go (suc n) e (p ∷ ps) x =
              let next : (y : Bool) → bit_of y ≡ q.presence.bitmap / 2 ^ n % 2 → AdditionTook c fc ahead between fs y h.come = subst (λ (m : ℕ). NextAdditionTook c fc ahead between fs m q.presence.bitmap h.come) e h.inner in
              let y = a_bit (q.presence.bitmap / 2 ^ n % 2) (omega arith) in
              let one = within_one (places p.shape) most_added (held_in fs) (some_places p.shape) (by_bit y.0 (next y.0 y.1)) in
              let first = allowed_first (λ t. places t * most_added) rest_of_parts p ps x in
              omega (arith, one, first)

      additions_held : suc (total entry_cells (entries_seen q.entries.items) + held_in fs) ≤ places (sequence root more) * most_added
      additions_held =
          let light = h.light entry_cells (λ t. places t * most_added) (λ t present e cs g s l. addition_few t present e cs most_added g s (omega arith) (fewer_bits c laws fc hold (length (flat c.ruling.fielding.spelled cs)) (length us) most_added l (omega arith))) in
          let before = root_few h.before h.rest h.root_read in
          let all : allowed (λ t. places t * most_added) (parts_in (more_fields more)) ≡ more_places more * most_added = allowed_places most_added (more_fields more) ∙ ap (λ (n : ℕ). n * most_added) (added_places more) in
          let sum = sum_mul (fields_places root) (more_places more) most_added in
          one_more (fields_places root + more_places more) most_added (total entry_cells (entries_seen q.entries.items) + held_in fs) (omega arith) (omega (arith, light, before, all, sum, addition_held))
        where
          added_places : (m : MoreFields) → fields_places (more_fields m) ≡ more_places m
          added_places closed = refl
          added_places (marked gs) = refl

  -- ---- CHOICE

  alternative_held : (fs : List (Frame F)) → Again fs → (alts : Alternatives) (i : ℕ) (us : List ℕ) (k : ℕ) → AreAllOfProfile alts → AlternativeTook (λ t vs. Took c fc ahead between fs t vs) alts i us → 1 ≤ k → unit_bits c * length us ≤ k
      → held_in fs ≤ choice_places alts * k
  alternative_held fs again no_alternatives i us k good h a b = absurd h
  alternative_held fs again (one_of name t alts) zero us k good h a b = within_first (places t) (choice_places alts) k (held_in fs) (at_most fs again t us k good.0 h a b)
  alternative_held fs again (one_of name t alts) (suc i) us k good h a b = within_second (places t) (choice_places alts) k (held_in fs) (alternative_held fs again alts i us k good.1 h a b)

  added_held : (fs : List (Frame F)) (alts : Alternatives) (i k : ℕ) → i < count alts → held_in fs ≤ k → held_in fs ≤ choice_places alts * k
  added_held fs no_alternatives i k l h = absurd (omega (arith, l))
  added_held fs (one_of name t alts) i k l h = within_first (places t) (choice_places alts) k (held_in fs) (within_one (places t) k (held_in fs) (some_places t) h)

  module _ (fs : List (Frame F)) (root : Alternatives) (more : MoreAlternatives) (i : ℕ) (us : List ℕ) (good : InProfile (choice root more)) where
    abbrev most_chosen : ℕ
    most_chosen = max 1 (unit_bits c * length us)

    chosen_held : Again fs → ChoiceReached c fc ahead between root more i fs us [] → suc (held_in fs) ≤ places (choice root more) * most_chosen
    chosen_held again h =
        let l : length h.come ≤ length us = omega (arith, spells_fewer h.index, length-append h.come []) in
        let w = fewer_bits c laws fc hold (length h.come) (length us) most_chosen l (omega arith) in
        one_more (choice_places root + more_choice_places more) most_chosen (held_in fs) (omega arith) (within_first (choice_places root) (more_choice_places more) most_chosen (held_in fs) (alternative_held fs again root i h.come most_chosen (root_good root more good) h.inner (omega arith) w))

    addition_chosen_held : AdditionReached c fc ahead between root more i fs us [] → suc (held_in fs) ≤ places (choice root more) * most_chosen
    addition_chosen_held h =
        let l : length h.come ≤ length us = omega (arith, spells_fewer h.index, length-append h.come []) in
        let w = fewer_bits c laws fc hold (length h.come) (length us) most_chosen l (omega arith) in
        let held = field_held fs h.come most_chosen h.inner (omega arith) w in
        one_more (choice_places root + more_choice_places more) most_chosen (held_in fs) (omega arith) (within_second (choice_places root) (more_choice_places more) most_chosen (held_in fs) (inside more h.index.spelt.fits held))
      where
        inside : (m : MoreAlternatives) → IsIndexWithin (count root) (added_alternatives m) (inr i) → held_in fs ≤ most_chosen → held_in fs ≤ more_choice_places m * most_chosen
        inside closed_choice x y = absurd x
        inside (marked_choice alts) x y = added_held fs alts i most_chosen x y

  -- ---- a value

  start_held : (t : Shape) (us : List ℕ) → 1 ≤ places t * bits_so_far us
  start_held t us = one_within (places t) (bits_so_far us) (some_places t) (omega arith)

  pub held_within : (fs : List (Frame F)) → Again fs
  held_within [] t us good h = omega arith
  held_within (frame.Start b ∷ []) t us good h = start_held t us
  held_within (frame.Start b ∷ f ∷ fs) t us good h = absurd h
  held_within (frame.Elements q ∷ fs) (sequence_of t s) us good h = list_held fs (λ u vs g x. held_within fs u vs g x) q t s us good h
  held_within (frame.Elements q ∷ fs) _ us good h = absurd h
  held_within (frame.Components q ∷ fs) (sequence root more) us good h = root_held fs (λ u vs g x. held_within fs u vs g x) q root more us h
  held_within (frame.Components q ∷ fs) _ us good h = absurd h
  held_within (frame.Bitmap p ∷ fs) (sequence root more) us good h = bitmap_held root more us good p fs h.0 h.1
  held_within (frame.Bitmap p ∷ fs) _ us good h = absurd h
  held_within (frame.Additions q ∷ fs) (sequence root more) us good h = additions_held root more us good fs q h
  held_within (frame.Additions q ∷ fs) _ us good h = absurd h
  held_within (frame.Chosen i ∷ fs) (choice root more) us good h =
      (let x = chosen_held fs root more i us good (λ u vs g y. held_within fs u vs g y) h in omega (arith, x))
  held_within (frame.Chosen i ∷ fs) _ us good h = absurd h
  held_within (frame.Added i ∷ fs) (choice root more) us good h =
      (let x = addition_chosen_held fs root more i us good h in omega (arith, x))
  held_within (frame.Added i ∷ fs) _ us good h = absurd h
  held_within (frame.Octets q ∷ fs) (bit_string s) us good h = string_held (bit_string s) good tt q fs us h.0 h.2
  held_within (frame.Octets q ∷ fs) (octet_string s) us good h = string_held (octet_string s) good tt q fs us h.0 h.2
  held_within (frame.Octets q ∷ fs) (restricted a s) us good h = string_held (restricted a s) good tt q fs us h.0 h.2
  held_within (frame.Octets q ∷ fs) utf8_string us good h = string_held utf8_string good tt q fs us h.0 h.2
  held_within (frame.Octets q ∷ fs) _ us good h = absurd h
