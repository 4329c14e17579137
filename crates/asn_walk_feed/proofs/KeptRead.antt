-- What is kept of a value of which some units have come: of the sealed field in which they end its content so far, and
-- else nothing.
use Rattle.std.proofs.Common.{◌≡◌, ◌<◌, ◌+◌, ◌-◌, ◌/◌, ◌%◌, ◌^◌, ◌⊎◌, inl, inr, ⊎_elim, ℕ, zero, suc, Bool, true, false, List, [], ◌∷◌, ◌++◌, length, drop, map, append-nil, Option, Some, None, refl, sym, ap, subst, ◌∙◌, arith}
use Rattle.std.proofs.lemmas.Bool.{true≢false}
use Rattle.asn_values.specs.Datum.{Datum}
use Rattle.asn_values.specs.Parts.{AreOfProfile, AreAllOfProfile, IsGoodDemand}
use Rattle.asn_values.specs.Profile.{InProfile, good_default}
use Rattle.asn_values.specs.Shape.{SizeRange, Shape, boolean, null, integer, enumerated, bit_string, octet_string, restricted, utf8_string, sequence, sequence_of, choice, Demand, must, optional, default, Fields, no_fields, field, MoreFields, closed, marked, more_fields, Alternatives, no_alternatives, one_of, MoreAlternatives, closed_choice, marked_choice, more_alternatives, count}
use Rattle.asn_values.specs.View.{Part, datum_of, fields_of, entries_seen}
use Rattle.asn_values.specs.declared.value.Value.{Value}
use Rattle.asn_values.proofs.Entries.{length-demands}
use Rattle.asn_values.proofs.InnerTypes.{element_of_profile, additions_of_profile}
use Rattle.asn_bits.specs.Numbers.{bits}
use Rattle.asn_bits.specs.Ranges.{Spanned, At}
use Rattle.asn_bits.specs.Sink.{bit_of}
use Rattle.asn_bits.proofs.Octets.{length-digits}
use Rattle.asn_rules.specs.Begun.{AllPlain}
use Rattle.asn_rules.specs.Chunks.{Chunk, sealed, open_field, utf8_field}
use Rattle.asn_rules.specs.Components.{has_presence_bit}
use Rattle.asn_rules.specs.Kept.{KeptOf, EndsIn}
use Rattle.asn_rules.specs.Languages.{IsLive, Short, Inhabited}
use Rattle.asn_rules.specs.Listed.{Spelt, Listed, Entry, bitmap_length}
use Rattle.asn_rules.specs.Live.{Fielding}
use Rattle.asn_rules.specs.declared.stop.Stop.TheVariants as stop
use Rattle.asn_rules.proofs.Components.Listed.{spelt_inhabited, listed_inhabited}
use Rattle.asn_rules.proofs.Languages.Parts.{map_dead, nothing_spells}
use Rattle.asn_rules.proofs.Languages.Standing.{Opens, opens_none, opens_plain, opens_in, StandsIn, stands_on, stands_map, stands_same, stands_length, stands_padded}
use Rattle.asn_rules.proofs.Live.Chunks.{FieldsPart}
use Rattle.asn_rules.proofs.Remaining.Begun.{header_plain}
use Rattle.asn_walk.specs.Ahead.{Ahead, items, lengths, end, Remaining, SomeAhead}
use Rattle.asn_walk.specs.Coding.{Coding, ListingOf, OpenOf, OpenListed, AdditionsOf, AddedOf, IsIndexWithin, ChosenOf, ChosenBy, added_alternatives}
use Rattle.asn_walk.specs.Laws.{Laws}
use Rattle.asn_walk.proofs.AdditionsRead.{AddedUpTo, addition_stands, open_listed_inhabited, bitmap_stands, open_stands}
use Rattle.asn_walk.proofs.ChoicesRead.{index_stands, value_stands}
use Rattle.asn_walk.proofs.ComponentsRead.{ReadUpTo, ReadNext, next_must, next_bit, bit_there}
use Rattle.asn_walk.proofs.Listing.{Going, ahead_inhabited, start_stands, list_stands, list_size, going_next_stands}
use Rattle.asn_walk.proofs.Parts.{fields_part_of, open_inhabited, root_good, added_good}
use Rattle.asn_walk.proofs.SequencesRead.{added_inhabited, preamble_stands, components_stand, added_stands}
use Rattle.asn_walk_feed.specs.Additions.{addition_count, BitmapGoesOn, AdditionTook, NextAdditionTook, AdditionsGoOn}
use Rattle.asn_walk_feed.specs.Chosen.{AlternativeTook}
use Rattle.asn_walk_feed.specs.Feeding.{FeedLaws, NextOf, Waits}
use Rattle.asn_walk_feed.specs.Items.{InFragment}
use Rattle.asn_walk_feed.specs.Keeping.{octets_of, in_component, in_alternative, kept_in, IsUnsealed, KeepLaws}
use Rattle.asn_walk_feed.specs.Octets.{OctetsOf, OctetsTook}
use Rattle.asn_walk_feed.specs.OpenFields.{FieldCoding, FieldLaws}
use Rattle.asn_walk_feed.specs.Roots.{parts_in, IsPresent, OtherTook, DemandTook, EntryTook}
use Rattle.asn_walk_feed.specs.Strings.{IsString, StringLaws}
use Rattle.asn_walk_feed.specs.Taken.{Took, ElementTook, ListGoesOn, RootReached, ChoiceReached, AdditionReached}
use Rattle.asn_walk_feed.specs.declared.frame.AdditionBits.{AdditionBits}
use Rattle.asn_walk_feed.proofs.Small.{small_plain}
use Rattle.asn_walk_feed.specs.declared.frame.Components.{Components}
use Rattle.asn_walk_feed.specs.declared.frame.Elements.{Elements}
use Rattle.asn_walk_feed.specs.declared.frame.Frame.{Frame}
use Rattle.asn_walk_feed.specs.declared.frame.Frame.TheVariants as frame
use Rattle.asn_walk_feed.proofs.FieldsKept.{field_ends}
use Rattle.asn_walk_feed.proofs.OctetsRead.{start_stops}
use Rattle.asn_walk_feed.proofs.RootsRead.{fields_of-parts_in}

-- ---- places in a type

-- after all components none is kept
none_left : (Kept : Shape → List ℕ) (root : Fields) (n : ℕ) → drop n (parts_in root) ≡ [] → in_component Kept root n ≡ []
none_left Kept no_fields n e = refl
none_left Kept (field name demand t fs) zero e = absurd cc
none_left Kept (field name demand t fs) (suc n) e = none_left Kept fs n e

-- of the next component what is kept of its type
next_kept : (Kept : Shape → List ℕ) (root : Fields) (n : ℕ) (p : Part) (ps : List Part) → drop n (parts_in root) ≡ p ∷ ps → in_component Kept root n ≡ Kept p.shape
next_kept Kept no_fields zero p ps e = absurd cc
next_kept Kept no_fields (suc n) p ps e = absurd cc
next_kept Kept (field name demand t fs) zero p ps e = ap Kept (first e)
  where
    first : record { name = name; demand = demand; shape = t } ∷ parts_in fs ≡ p ∷ ps → t ≡ p.shape
    first e = (let x : record { name = name; demand = demand; shape = t } ≡ p = cc in ap (λ (y : Part). y.shape) x)
next_kept Kept (field name demand t fs) (suc n) p ps e = next_kept Kept fs n p ps e

-- a number below 2 is a bit
a_bit : (n : ℕ) → n < 2 → (b : Bool) × (bit_of b ≡ n)
a_bit zero h = (false, refl)
a_bit (suc zero) h = (true, refl)
a_bit (suc (suc n)) h = absurd (omega (arith, h))

module _ {F : Type 0} (c : Coding) (laws : Laws c) (feeds : FeedLaws c) (fc : FieldCoding) (fields : FieldLaws c fc) (strings : StringLaws c fc) (keep : KeepLaws c fc) (ahead : F → Ahead) (between : F → Type 0) where
  abbrev R : Fielding
  R = c.ruling.fielding

  abbrev V : Shape → Datum → List Chunk → Type 0
  V t = Spelt c.code None t

  ok : FieldsPart R
  ok = fields_part_of c laws

  some : (t : Shape) → InProfile t → Inhabited (V t)
  some t good = spelt_inhabited c.code t good

  -- what is said of the nodes further in
  abbrev Again : List (Frame F) → Type 0
  Again fs = (t : Shape) (us : List ℕ) → InProfile t → Took c fc ahead between fs t us → Opens R (V t) us (kept_in fs t)

  -- ---- parts of plain units

  nothing_came : {A : Type 0} {L : A → List Chunk → Type 0} {b us : List ℕ} → Waits c L b us → b ≡ [] → us ≡ []
  nothing_came w e = sym w.come ∙ ap c.to_units e ∙ feeds.none

  -- where nothing has come, or what begins a plain part
  waits_in : {A B : Type 0} {L : A → List Chunk → Type 0} {M : B → List Chunk → Type 0} {b us : List ℕ} → AllPlain L → StandsIn R L us M us → Inhabited M → Waits c L b us → Opens R M us []
  waits_in {L = L} {M = M} a s i w = ⊎_elim
      (λ e. subst (λ (l : List ℕ). Opens R M l []) (sym (nothing_came w e)) (opens_none i))
      (λ x. opens_in ok s (opens_plain a (subst (λ (l : List ℕ). IsLive R L l) w.come x.live)))
      w.begins

  -- a simple type that is no sealed field
  waits_simple : (e : Option Datum) {b us : List ℕ} (t : Shape) → AllPlain (Spelt c.code e t) → Inhabited (Spelt c.code e t) → Waits c (Spelt c.code e t) b us → Opens R (Spelt c.code e t) us []
  waits_simple e {us = us} t a i w = waits_in a (stands_same R us (record { to = λ v cs h. h; from = λ v cs h. h })) i w

  -- its items have come so far
  string_live : (t : Shape) (us : List ℕ) → InProfile t → IsString t → Short R (OctetsOf (fc.string t)) us → IsLive R (V t) us
  string_live t us good is h = (strings.stops t good is us stop.Short (record { told = h })).told.live

  string_starts : (t : Shape) (b us : List ℕ) → InProfile t → IsString t → AllPlain (V t) → Waits c (fc.string t).start b us → Opens R (V t) us []
  string_starts t b us good is a w = ⊎_elim
      (λ e. subst (λ (l : List ℕ). Opens R (V t) l []) (sym (nothing_came w e)) (opens_none (some t good)))
      (λ x.
      (let begun : Short R (fc.string t).start us = subst (λ (l : List ℕ). Short R (fc.string t).start l) w.come x in
      opens_plain a (string_live t us good is (start_stops c laws feeds (fc.string t) (strings.items t good is) ahead between us stop.Short (record { told = begun })).told)))
      w.begins

  -- ---- sealed fields

  -- a UTF8String
  utf8_kept : (fs : List (Frame F)) (us : List ℕ) → InProfile utf8_string → OctetsTook c (fc.string utf8_string) ahead between fs us → Opens R (V utf8_string) us (octets_of fs)
  utf8_kept fs us good h =
      let w = keep.utf8_value in
      record { value = w.0; chunks = sealed utf8_field w.1 ∷ []; spelt = w.2; ends = field_ends c laws feeds (fc.string utf8_string) (strings.items utf8_string good tt) utf8_field keep.utf8_same keep.utf8 ahead between fs us w.1 h }

  -- an open type field
  open_kept : (fs : List (Frame F)) (t : Shape) (us : List ℕ) → InProfile t → OctetsTook c fc.open_type ahead between fs us → Opens R (OpenOf c t) us (octets_of fs)
  open_kept fs t us good h =
      let i : Inhabited (OpenOf c t) = open_inhabited c laws t good in
      let cs = sealed open_field i.spelt.content ∷ [] in
      record { value = i.value; chunks = cs; spelt = record { content = i.spelt.content; spelt = i.spelt.spelt; same = refl }; ends = field_ends c laws feeds fc.open_type fields.octets open_field fields.same keep.open_type ahead between fs us i.spelt.content h }

  -- ---- SEQUENCE OF

  module _ (fs : List (Frame F)) (again : Again fs) (q : Elements F Value) (t : Shape) (s : SizeRange) (us : List ℕ) (good : InProfile (sequence_of t s)) (h : ListGoesOn c fc ahead between t s q fs us []) where
    abbrev L : List Datum → List Chunk → Type 0
    L = ListingOf c s (V t)

    element : Inhabited (V t)
    element = some t (element_of_profile t s good)

    -- the next length
    length_kept : (a : Ahead) (come : List ℕ) → SomeAhead a → (come ≡ []) ⊎ Short R (NextOf a) come → Opens R (Remaining (V t) a) come []
    length_kept a come i (inl e) = subst (λ (l : List ℕ). Opens R (Remaining (V t) a) l []) (sym e) (opens_none (ahead_inhabited (V t) a element i))
    length_kept (items n) come i (inr x) = absurd (x.none (Some n, end) come (nothing_spells R (Some n, end) come))
    length_kept end come i (inr x) = absurd (x.none (None, end) come (record { chunks = []; spelt = record { same = refl; empty = refl }; contents = tt; split = refl }))
    length_kept (lengths is so_far was_last) come i (inr x) = opens_in ok (stands_length R come element) (opens_plain (header_plain (At (Spanned is) so_far was_last)) (map_dead x.live))

    in_list : {os : List ℕ} → Opens R L us os → Opens R (V (sequence_of t s)) us os
    in_list x = opens_in ok (list_stands c laws t s us good) x

    -- what has come of the next element
    came : ElementTook c fc ahead between q.next_part fs t h.come → Opens R (V t) h.come (kept_in fs t)
    came (inl x) = again t h.come (element_of_profile t s good) x.1.0
    came (inr x) = rw x.0 (waits_simple None t (small_plain c laws feeds t (element_of_profile t s good) x.1.0) element x.1.1)

    list_kept : Opens R (V (sequence_of t s)) us (kept_in fs t)
    list_kept = go q.left refl
      where
        go : (n : ℕ) → q.left ≡ n → Opens R (V (sequence_of t s)) us (kept_in fs t)
        go zero e =
            let inner : (fs ≡ []) × Waits c (NextOf (ahead q.fragments)) q.next_part h.come = rw e at h.inner in
            let w : Waits c (NextOf (ahead q.fragments)) q.next_part h.come = inner.1 in
            let come : (h.come ≡ []) ⊎ Short R (NextOf (ahead q.fragments)) h.come = ⊎_elim (λ b. inl (nothing_came w b)) (λ x. inr (subst (λ (l : List ℕ). Short R (NextOf (ahead q.fragments)) l) w.come x)) w.begins in
            let here : Going c (V t) L (us ++ []) (ahead q.fragments) (map datum_of q.elements.items) ((h.come ++ []) ++ []) = rw e at h.stands [] in
            let one : StandsIn R (Remaining (V t) (ahead q.fragments)) ((h.come ++ []) ++ []) L us = subst (λ (l : List ℕ). StandsIn R (Remaining (V t) (ahead q.fragments)) ((h.come ++ []) ++ []) L l) (append-nil us) here.stands in
            let two : StandsIn R (Remaining (V t) (ahead q.fragments)) h.come L us = subst (λ (l : List ℕ). StandsIn R (Remaining (V t) (ahead q.fragments)) l L us) (append-nil (h.come ++ []) ∙ append-nil h.come) one in
            rw inner.0 (in_list (opens_in ok two (length_kept (ahead q.fragments) h.come h.some come)))
        go (suc n) e =
            let inner : ElementTook c fc ahead between q.next_part fs t h.come = rw e at h.inner in
            let here : InFragment c (V t) L (suc n) (ahead q.fragments) (map datum_of q.elements.items) (us ++ []) ((h.come ++ []) ++ []) = rw e at h.stands [] in
            let first : StandsIn R (V t) ((h.come ++ []) ++ []) L (us ++ []) = going_next_stands c here.done here.count element (omega (arith, here.sum)) here.next here.so_far here.going in
            let one : StandsIn R (V t) ((h.come ++ []) ++ []) L us = subst (λ (l : List ℕ). StandsIn R (V t) ((h.come ++ []) ++ []) L l) (append-nil us) first in
            let two : StandsIn R (V t) h.come L us = subst (λ (l : List ℕ). StandsIn R (V t) l L us) (append-nil (h.come ++ []) ∙ append-nil h.come) one in
            in_list (opens_in ok two (came inner))

  -- ---- the root of a SEQUENCE

  -- a component with a DEFAULT has a type that is no sealed field
  default_plain : (t : Shape) (d : Datum) → InProfile t → good_default t d ≡ true → AllPlain (Spelt c.code (Some d) t)
  default_plain t d good e = record {
    plain = λ v cs h.
        (let w = (keep.unsealed t good (unsealed t d e)).plain v cs (record { fits = (h.fits.0, tt); same = h.same }) in w);
  }
    where
      unsealed : (t : Shape) (d : Datum) → good_default t d ≡ true → IsUnsealed t
      unsealed boolean d e = tt
      unsealed null d e = tt
      unsealed (integer r) d e = tt
      unsealed (enumerated root more) d e = tt
      unsealed (bit_string s) d e = tt
      unsealed (octet_string s) d e = tt
      unsealed (restricted k s) d e = tt
      unsealed utf8_string d e = absurd (true≢false (sym e))
      unsealed (sequence root more) d e = absurd (true≢false (sym e))
      unsealed (sequence_of t s) d e = absurd (true≢false (sym e))
      unsealed (choice root more) d e = absurd (true≢false (sym e))

  module _ (fs : List (Frame F)) (again : Again fs) (q : Components) (root : Fields) (more : MoreFields) (us : List ℕ) (good : InProfile (sequence root more)) (h : RootReached c fc ahead between root more q fs us []) where
    abbrev parts : List Part
    parts = parts_in root

    abbrev bitmap : ℕ
    bitmap = q.presence.bitmap

    abbrev left : ℕ
    left = q.presence.left

    abbrev whole : List (Option Datum) → List Chunk → Type 0
    whole = Listed c.code (fields_of parts) (bits (bitmap_length root) bitmap)

    abbrev K : Shape → List ℕ
    K t = kept_in fs t

    -- where the components stand
    in_root : {A : Type 0} {M : A → List Chunk → Type 0} {os : List ℕ} → StandsIn R M ((h.come ++ []) ++ []) whole (h.between ++ []) → Opens R M h.come os → Opens R (V (sequence root more)) us os
    in_root {A} {M} s x =
        let one : StandsIn R M h.come whole (h.between ++ []) = subst (λ (l : List ℕ). StandsIn R M l whole (h.between ++ [])) (append-nil (h.come ++ []) ∙ append-nil h.come) s in
        let two : StandsIn R M h.come whole h.between = subst (λ (l : List ℕ). StandsIn R M h.come whole l) (append-nil h.between) one in
        let three : StandsIn R M h.come (Listed c.code root (bits (bitmap_length root) bitmap)) h.between = subst (λ (gs : Fields). StandsIn R M h.come (Listed c.code gs (bits (bitmap_length root) bitmap)) h.between) (fields_of-parts_in root) two in
        opens_in ok (stands_on three (components_stand c laws root more good (q.extended, bitmap) us h.between h.preamble)) x

    -- nothing has come of those that are left
    none_come : (rest : List Part) → ReadUpTo c [] parts (bitmap_length root) bitmap (h.between ++ []) rest left (entries_seen q.entries.items) ((h.come ++ []) ++ []) → h.come ≡ [] → Opens R (V (sequence root more)) us []
    none_come rest st e =
        let i : Inhabited (Listed c.code (fields_of rest) (bits left bitmap)) = listed_inhabited c.code (fields_of rest) (bits left bitmap) st.of_profile (length-digits 2 left bitmap ∙ st.width) in
        in_root st.stands (subst (λ (l : List ℕ). Opens R (Listed c.code (fields_of rest) (bits left bitmap)) l []) (sym e) (opens_none i))

    module _ (p : Part) (ps : List Part) (d : drop (length q.entries.items) parts ≡ p ∷ ps) where
      st : ReadUpTo c [] parts (bitmap_length root) bitmap (h.between ++ []) (p ∷ ps) left (entries_seen q.entries.items) ((h.come ++ []) ++ [])
      st = rw d at h.stands []

      inner : (x : Bool) → IsPresent p left bitmap x → EntryTook c fs (λ t vs. Took c fc ahead between fs t vs) p x h.come
      inner = rw d at h.inner

      absent : (fs ≡ []) × (h.come ≡ []) → Opens R (V (sequence root more)) us (K p.shape)
      absent w = rw w.0 (none_come (p ∷ ps) st w.1)

      -- a component that is there
      there : (after : ℕ) → ReadNext c [] parts (bitmap_length root) bitmap (h.between ++ []) p ps after true (entries_seen q.entries.items) ((h.come ++ []) ++ []) → DemandTook c fs (λ t vs. Took c fc ahead between fs t vs) p.demand p.shape h.come
          → Opens R (V (sequence root more)) us (K p.shape)
      there after next w = go p.demand next.good (next.stands refl) w
        where
          go : (demand : Demand) → IsGoodDemand demand p.shape → StandsIn R (Entry c.code demand p.shape true) ((h.come ++ []) ++ []) whole (h.between ++ [])
              → DemandTook c fs (λ t vs. Took c fc ahead between fs t vs) demand p.shape h.come → Opens R (V (sequence root more)) us (K p.shape)
          go must g s k = in_root s (opens_in ok (stands_map R Some (V p.shape) h.come) (again p.shape h.come next.of_profile k))
          go optional g s k = in_root s (opens_in ok (stands_map R Some (V p.shape) h.come) (again p.shape h.come next.of_profile k))
          go (default x) g s k = other fs refl k
            where
              begun : (b : List ℕ) → Waits c (Spelt c.code (Some x) p.shape) b h.come → Opens R (V (sequence root more)) us []
              begun b w = ⊎_elim
                  (λ e. none_come (p ∷ ps) st (nothing_came w e))
                  (λ y. in_root s (opens_in ok (stands_map R Some (Spelt c.code (Some x) p.shape) h.come) (opens_plain (default_plain p.shape x next.of_profile g) (subst (λ (l : List ℕ). IsLive R (Spelt c.code (Some x) p.shape) l) w.come y.live))))
                  w.begins

              other : (gs : List (Frame F)) → fs ≡ gs → OtherTook c gs x p.shape h.come → Opens R (V (sequence root more)) us (kept_in gs p.shape)
              other [] e k = none_come (p ∷ ps) st k
              other (frame.Start b ∷ []) e k = begun b k
              other (frame.Start b ∷ y ∷ gs) e k = absurd k
              other (frame.Elements z ∷ gs) e k = absurd k
              other (frame.Components z ∷ gs) e k = absurd k
              other (frame.Bitmap z ∷ gs) e k = absurd k
              other (frame.Additions z ∷ gs) e k = absurd k
              other (frame.Chosen z ∷ gs) e k = absurd k
              other (frame.Added z ∷ gs) e k = absurd k
              other (frame.Octets z ∷ gs) e k = absurd k

      component_kept : Opens R (V (sequence root more)) us (K p.shape)
      component_kept = go (has_presence_bit p.demand) refl
        where
          go : (b : Bool) → has_presence_bit p.demand ≡ b → Opens R (V (sequence root more)) us (K p.shape)
          go false e =
              let told : IsPresent p left bitmap true = record { must = λ x. refl; bit = λ x. absurd (true≢false (sym x ∙ e)) } in
              there left (next_must c laws st e) (inner true told)
          go true e =
              let after = left - 1 in
              let d : after + 1 ≡ left = omega (arith, bit_there c laws st e) in
              let x = a_bit (bitmap / 2 ^ after % 2) (omega arith) in
              let told : IsPresent p left bitmap x.0 = record { must = λ y. absurd (true≢false (sym e ∙ y)); bit = λ y. x.1 } in
              by_bit after d x.0 x.1 (next_bit c laws st e x.0 after d x.1) (inner x.0 told)
            where
              by_bit : (after : ℕ) → after + 1 ≡ left → (b : Bool) → bit_of b ≡ bitmap / 2 ^ after % 2
                  → ReadNext c [] parts (bitmap_length root) bitmap (h.between ++ []) p ps after b (entries_seen q.entries.items) ((h.come ++ []) ++ [])
                  → EntryTook c fs (λ t vs. Took c fc ahead between fs t vs) p b h.come → Opens R (V (sequence root more)) us (K p.shape)
              by_bit after d false e next k = absent k
              by_bit after d true e next k = there after next k

    root_kept : Opens R (V (sequence root more)) us (in_component K root (length q.entries.items))
    root_kept = go (drop (length q.entries.items) parts) refl
      where
        go : (rest : List Part) → drop (length q.entries.items) parts ≡ rest → Opens R (V (sequence root more)) us (in_component K root (length q.entries.items))
        go [] e =
            let inner : (fs ≡ []) × (h.come ≡ []) = rw e at h.inner in
            let st : ReadUpTo c [] parts (bitmap_length root) bitmap (h.between ++ []) [] left (entries_seen q.entries.items) ((h.come ++ []) ++ []) = rw e at h.stands [] in
            subst (λ (os : List ℕ). Opens R (V (sequence root more)) us os) (sym (none_left K root (length q.entries.items) e)) (none_come [] st inner.1)
        go (p ∷ ps) e = subst (λ (os : List ℕ). Opens R (V (sequence root more)) us os) (sym (next_kept K root (length q.entries.items) p ps e)) (component_kept p ps e)

  -- ---- the extension additions of a SEQUENCE

  additions_good : (root : Fields) (more : MoreFields) → InProfile (sequence root more) → AreOfProfile (more_fields more)
  additions_good root closed good = tt
  additions_good root (marked fs) good = additions_of_profile root fs good

  module _ (root : Fields) (more : MoreFields) (us : List ℕ) (good : InProfile (sequence root more)) where
    bitmap_kept : (p : AdditionBits) → BitmapGoesOn c root more (entries_seen p.entries.items) p.begun us [] → Opens R (V (sequence root more)) us []
    bitmap_kept p h =
        let r = h.root_read in
        let come : h.come ++ [] ≡ h.come = append-nil h.come in
        let s : StandsIn R (AddedOf c more true) (h.come ++ []) (V (sequence root more)) us = added_stands c laws root more good (true, r.bitmap) us r.between r.preamble (entries_seen p.entries.items) (h.come ++ []) r.components in
        let t : StandsIn R (AdditionsOf c (more_fields more)) h.come (V (sequence root more)) us = subst (λ (l : List ℕ). StandsIn R (AddedOf c more true) l (V (sequence root more)) us) come s in
        let i : Inhabited (AdditionsOf c (more_fields more)) = added_inhabited c laws root more good true r.preamble.spelt.fits.1 in
        opens_in ok t (waits_in (record { plain = λ m cs x. (_, x.same) }) (bitmap_stands c laws (more_fields more) (additions_good root more good) h.come) i h.waits)

    module _ (fs : List (Frame F)) (q : Components) (h : AdditionsGoOn c root more q (λ come. NextAdditionTook c fc ahead between fs q.presence.left q.presence.bitmap come) us []) where
      abbrev N : ℕ
      N = addition_count more

      abbrev many : ℕ
      many = q.presence.left

      abbrev bits_of : ℕ
      bits_of = q.presence.bitmap

      abbrev fields_open : List (Option Datum) → List Chunk → Type 0
      fields_open = OpenListed c (more_fields more) (bits N bits_of)

      abbrev UpTo : List Part → ℕ → Type 0
      UpTo rest n = AddedUpTo c h.before (more_fields more) (h.between ++ []) N bits_of rest n (entries_seen q.entries.items) ((h.come ++ []) ++ [])

      in_additions : {A : Type 0} {M : A → List Chunk → Type 0} {os : List ℕ} → StandsIn R M ((h.come ++ []) ++ []) fields_open (h.between ++ []) → Opens R M h.come os → Opens R (V (sequence root more)) us os
      in_additions {A} {M} s x =
          let r = h.root_read in
          let one : StandsIn R M h.come fields_open (h.between ++ []) = subst (λ (l : List ℕ). StandsIn R M l fields_open (h.between ++ [])) (append-nil (h.come ++ []) ∙ append-nil h.come) s in
          let two : StandsIn R M h.come fields_open h.between = subst (λ (l : List ℕ). StandsIn R M h.come fields_open l) (append-nil h.between) one in
          let added_ones : StandsIn R (AdditionsOf c (more_fields more)) h.rest (V (sequence root more)) us = added_stands c laws root more good (true, r.bitmap) us r.between r.preamble h.before h.rest r.components in
          opens_in ok (stands_on (stands_on two (open_stands c laws (more_fields more) (additions_good root more good) bits_of h.rest h.between h.bitmap)) added_ones) x

      -- nothing has come of those that are many
      none_added : (rest : List Part) (n : ℕ) → UpTo rest n → (fs ≡ []) × (h.come ≡ []) → Opens R (V (sequence root more)) us (octets_of fs)
      none_added rest n st w =
          let i : Inhabited (OpenListed c (fields_of rest) (bits n bits_of)) = open_listed_inhabited c laws (fields_of rest) (bits n bits_of) st.of_profile (length-digits 2 n bits_of ∙ st.width ∙ sym (length-demands rest)) in
          rw w.0 (in_additions st.stands (subst (λ (l : List ℕ). Opens R (OpenListed c (fields_of rest) (bits n bits_of)) l []) (sym w.1) (opens_none i)))

      additions_kept : Opens R (V (sequence root more)) us (octets_of fs)
      additions_kept = go many refl (drop (N - many) (parts_in (more_fields more))) (h.stands [])
        where
          by_bit : (n : ℕ) (p : Part) (ps : List Part) (st : UpTo (p ∷ ps) (suc n)) (b : Bool) → bit_of b ≡ bits_of / 2 ^ n % 2 → AdditionTook c fc ahead between fs b h.come → Opens R (V (sequence root more)) us (octets_of fs)
          by_bit n p ps st false e k = none_added (p ∷ ps) (suc n) st k
          by_bit n p ps st true e k = in_additions (addition_stands c laws st n (omega arith) e) (open_kept fs p.shape h.come st.of_profile.0 k)

          go : (n : ℕ) → many ≡ n → (rest : List Part) → UpTo rest many → Opens R (V (sequence root more)) us (octets_of fs)
          go zero e rest st = none_added rest many st (rw e at h.inner)
          go (suc n) e [] st = absurd (omega (arith, e, st.width))
          go (suc n) e (p ∷ ps) st =
              let next : (x : Bool) → bit_of x ≡ bits_of / 2 ^ n % 2 → AdditionTook c fc ahead between fs x h.come = subst (λ (k : ℕ). NextAdditionTook c fc ahead between fs k bits_of h.come) e h.inner in
              let x = a_bit (bits_of / 2 ^ n % 2) (omega arith) in
              by_bit n p ps (subst (λ (k : ℕ). UpTo (p ∷ ps) k) e st) x.0 x.1 (next x.0 x.1)

  -- ---- CHOICE

  alternative_kept : (fs : List (Frame F)) → Again fs → (alts : Alternatives) (i : ℕ) (come : List ℕ) → AreAllOfProfile alts → AlternativeTook (λ t vs. Took c fc ahead between fs t vs) alts i come
      → Opens R (ChosenOf (λ t. V t) alts i) come (in_alternative (λ t. kept_in fs t) alts i)
  alternative_kept fs again no_alternatives i come good h = absurd h
  alternative_kept fs again (one_of name t alts) zero come good h = again t come good.0 h
  alternative_kept fs again (one_of name t alts) (suc i) come good h = alternative_kept fs again alts i come good.1 h

  added_kept : (fs : List (Frame F)) (alts : Alternatives) (i : ℕ) (come : List ℕ) → AreAllOfProfile alts → i < count alts → OctetsTook c fc.open_type ahead between fs come
      → Opens R (ChosenOf (λ t. OpenOf c t) alts i) come (octets_of fs)
  added_kept fs no_alternatives i come good l h = absurd (omega (arith, l))
  added_kept fs (one_of name t alts) zero come good l h = open_kept fs t come good.0 h
  added_kept fs (one_of name t alts) (suc i) come good l h = added_kept fs alts i come good.1 (omega (arith, l)) h

  module _ (fs : List (Frame F)) (root : Alternatives) (more : MoreAlternatives) (i : ℕ) (us : List ℕ) (good : InProfile (choice root more)) where
    chosen_kept : Again fs → ChoiceReached c fc ahead between root more i fs us [] → Opens R (V (choice root more)) us (in_alternative (λ t. kept_in fs t) root i)
    chosen_kept again h =
        let s : StandsIn R (ChosenOf (λ t. V t) root i) (h.come ++ []) (V (choice root more)) us = value_stands c laws root more good (inl i) us (h.come ++ []) h.index in
        opens_in ok (subst (λ (l : List ℕ). StandsIn R (ChosenOf (λ t. V t) root i) l (V (choice root more)) us) (append-nil h.come) s) (alternative_kept fs again root i h.come (root_good root more good) h.inner)

    addition_kept : AdditionReached c fc ahead between root more i fs us [] → Opens R (V (choice root more)) us (octets_of fs)
    addition_kept h =
        let s : StandsIn R (ChosenBy c root more (inr i)) (h.come ++ []) (V (choice root more)) us = value_stands c laws root more good (inr i) us (h.come ++ []) h.index in
        opens_in ok (subst (λ (l : List ℕ). StandsIn R (ChosenBy c root more (inr i)) l (V (choice root more)) us) (append-nil h.come) s) (added_kept fs (more_alternatives more) i h.come (added_good root more good) (inside more h.index.spelt.fits) h.inner)
      where
        inside : (m : MoreAlternatives) → IsIndexWithin (count root) (added_alternatives m) (inr i) → i < count (more_alternatives m)
        inside closed_choice x = absurd x
        inside (marked_choice alts) x = x

  -- ---- a value

  kept : (fs : List (Frame F)) → Again fs
  kept [] t us good h = subst (λ (l : List ℕ). Opens R (V t) l []) (sym h) (opens_none (some t good))
  kept (frame.Start b ∷ []) boolean us good h = waits_simple None boolean (keep.unsealed boolean good tt) (some boolean good) h
  kept (frame.Start b ∷ []) null us good h = waits_simple None null (keep.unsealed null good tt) (some null good) h
  kept (frame.Start b ∷ []) (integer r) us good h = waits_simple None (integer r) (keep.unsealed (integer r) good tt) (some (integer r) good) h
  kept (frame.Start b ∷ []) (enumerated root more) us good h = waits_simple None (enumerated root more) (keep.unsealed (enumerated root more) good tt) (some (enumerated root more) good) h
  kept (frame.Start b ∷ []) (bit_string s) us good h = string_starts (bit_string s) b us good tt (keep.unsealed (bit_string s) good tt) h
  kept (frame.Start b ∷ []) (octet_string s) us good h = string_starts (octet_string s) b us good tt (keep.unsealed (octet_string s) good tt) h
  kept (frame.Start b ∷ []) (restricted k s) us good h = string_starts (restricted k s) b us good tt (keep.unsealed (restricted k s) good tt) h
  kept (frame.Start b ∷ []) utf8_string us good h = utf8_kept (frame.Start b ∷ []) us good h
  kept (frame.Start b ∷ []) (sequence root more) us good h = waits_in (record { plain = λ p cs x. (_, x.same) }) (preamble_stands c laws root more good us) (some (sequence root more) good) h
  kept (frame.Start b ∷ []) (sequence_of t s) us good h =
      waits_in (keep.list_start s (list_size t s good)) (stands_on (start_stands c laws (V t) s us (list_size t s good) (some t (element_of_profile t s good))) (list_stands c laws t s us good)) (some (sequence_of t s) good) h
  kept (frame.Start b ∷ []) (choice root more) us good h = waits_in (record { plain = λ i cs x. (_, x.same) }) (index_stands c laws root more good us) (some (choice root more) good) h
  kept (frame.Start b ∷ f ∷ fs) t us good h = absurd h
  kept (frame.Elements q ∷ fs) (sequence_of t s) us good h = list_kept fs (λ u vs g k. kept fs u vs g k) q t s us good h
  kept (frame.Elements q ∷ fs) _ us good h = absurd h
  kept (frame.Components q ∷ fs) (sequence root more) us good h = root_kept fs (λ u vs g k. kept fs u vs g k) q root more us good h
  kept (frame.Components q ∷ fs) _ us good h = absurd h
  kept (frame.Bitmap p ∷ fs) (sequence root more) us good h = bitmap_kept root more us good p h.1
  kept (frame.Bitmap p ∷ fs) _ us good h = absurd h
  kept (frame.Additions q ∷ fs) (sequence root more) us good h = additions_kept root more us good fs q h
  kept (frame.Additions q ∷ fs) _ us good h = absurd h
  kept (frame.Chosen i ∷ fs) (choice root more) us good h = chosen_kept fs root more i us good (λ u vs g k. kept fs u vs g k) h
  kept (frame.Chosen i ∷ fs) _ us good h = absurd h
  kept (frame.Added i ∷ fs) (choice root more) us good h = addition_kept fs root more i us good h
  kept (frame.Added i ∷ fs) _ us good h = absurd h
  kept (frame.Octets q ∷ fs) (bit_string s) us good h = opens_plain (keep.unsealed (bit_string s) good tt) (string_live (bit_string s) us good tt h.1)
  kept (frame.Octets q ∷ fs) (octet_string s) us good h = opens_plain (keep.unsealed (octet_string s) good tt) (string_live (octet_string s) us good tt h.1)
  kept (frame.Octets q ∷ fs) (restricted k s) us good h = opens_plain (keep.unsealed (restricted k s) good tt) (string_live (restricted k s) us good tt h.1)
  kept (frame.Octets q ∷ fs) utf8_string us good h = utf8_kept (frame.Octets q ∷ fs) us good h
  kept (frame.Octets q ∷ fs) _ us good h = absurd h

  -- of a complete encoding
  pub kept_of : (fs : List (Frame F)) (t : Shape) (us : List ℕ) → InProfile t → Took c fc ahead between fs t us → KeptOf c.ruling t us (kept_in fs t)
  kept_of fs t us good h =
      let o = opens_in ok (stands_on (stands_padded R c.padding (V t) us) (stands_same R us (laws.filled t good))) (kept fs t us good h) in
      (o.value, o.spelt.fits, subst (λ (cs : List Chunk). EndsIn R cs us (kept_in fs t)) o.spelt.same o.ends)
