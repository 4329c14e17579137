-- How the root of a SEQUENCE that may be cut goes on, as the program holds it.
use Rattle.std.proofs.Common.{Vec, Global, vec_len, ◌≡◌, ◌≤◌, ◌<◌, ◌+◌, ◌/◌, ◌%◌, ◌^◌, ◌⊎◌, inl, inr, get_or, ℕ, Bool, true, false, List, [], ◌∷◌, ◌++◌, length, map, drop, append-nil, append_assoc, Option, Some, None, refl, sym, ap, subst, ◌∙◌, arith}
use Rattle.std.specs.List.{drop-map}
use Rattle.std.specs.Option.{option_map}
use Rattle.std.proofs.lemmas.List.{map_push, drop-drop, length-append}
use Rattle.asn_values.specs.declared.types.Field.{Field}
use Rattle.asn_values.specs.declared.types.Need.{Need}
use Rattle.asn_values.specs.declared.types.Need.TheVariants as needs
use Rattle.asn_values.specs.declared.value.Value.{Value}
use Rattle.asn_values.specs.Datum.{Datum, components, components_of}
use Rattle.asn_values.specs.Shape.{Shape, Demand, must, optional, default, Fields, no_fields, field, MoreFields, more_fields, sequence}
use Rattle.asn_values.specs.Parts.{AreOfProfile, IsGoodDemand}
use Rattle.asn_values.specs.Profile.{InProfile}
use Rattle.asn_values.specs.View.{Part, fields_of, part_of_field, shape_of, demand_of, datum_of, fields_seen, entries_seen, more_fields_of}
use Rattle.asn_values.proofs.Components.{shape_of_part}
use Rattle.asn_values.proofs.Parts.{components_of_profile}
use Rattle.asn_bits.specs.Numbers.{bits}
use Rattle.asn_bits.specs.Sink.{bit_of}
use Rattle.asn_rules.specs.Chunks.{flat}
use Rattle.asn_rules.specs.Components.{has_presence_bit}
use Rattle.asn_rules.specs.Languages.{Spells}
use Rattle.asn_rules.specs.Listed.{Spelt, Listed, Entry, default_of, bitmap_length}
use Rattle.asn_rules.specs.Stops.{Stops}
use Rattle.asn_rules.specs.declared.stop.Stop.{Stop}
use Rattle.asn_rules.specs.declared.stop.Stop.TheVariants as stop
use Rattle.asn_rules.proofs.Answer.Answers.{done_stays}
use Rattle.asn_rules.proofs.Languages.Leads.{LeadsStops, stops_on, stops_by}
use Rattle.asn_walk.specs.Ahead.{Ahead}
use Rattle.asn_walk.specs.Coding.{Coding, PreambleOf, added, absent_entries}
use Rattle.asn_walk.specs.Laws.{Laws}
use Rattle.asn_walk.proofs.AdditionsRead.{after_nothing}
use Rattle.asn_walk.proofs.Parts.{count_of_fields}
use Rattle.asn_walk.proofs.ComponentsRead.{ReadUpTo, ReadNext, read_starts, bit_there, next_either, read_ends}
use Rattle.asn_walk.proofs.Widths.{next_part, no_part, demand_of_part}
use Rattle.asn_walk.proofs.SequencesRead.{components_stop, none_added}
use Rattle.asn_walk_feed.specs.Feeding.{Waits}
use Rattle.asn_walk_feed.specs.OpenFields.{FieldCoding}
use Rattle.asn_walk_feed.specs.Taken.{Took, with_node}
use Rattle.asn_walk_feed.specs.Roots.{parts_in, IsPresent, OtherTook, DemandTook, NextTook}
use Rattle.asn_walk_feed.specs.Weights.{total, allowed}
use Rattle.asn_walk_feed.specs.Taken.{RootReached, ComponentTook, KeepsOther, KeepsComponent, KeepsFrames}
use Rattle.asn_walk_feed.specs.declared.frame.Frame.TheVariants as frame
use Rattle.asn_walk_feed.specs.declared.frame.Frame.{Frame}
use Rattle.asn_walk_feed.specs.declared.frame.Components.{Components}
use Rattle.asn_walk_feed.proofs.Weights.{total-last, spells_fewer, chunks_fewer}

-- ---- components taken apart

pub fields_of-parts_in : (fs : Fields) → fields_of (parts_in fs) ≡ fs
fields_of-parts_in no_fields = refl
fields_of-parts_in (field name demand t fs) = ap (field name demand t) (fields_of-parts_in fs)

pub parts_in-fields_of : (ps : List Part) → parts_in (fields_of ps) ≡ ps
parts_in-fields_of [] = refl
parts_in-fields_of (p ∷ ps) = ap (λ (qs : List Part). p ∷ qs) (parts_in-fields_of ps)

-- after one more component the others are left
pub others_left : (n : ℕ) (ps : List Part) (p : Part) (rest : List Part) → drop n ps ≡ p ∷ rest → drop (n + 1) ps ≡ rest
others_left n ps p rest e =
    sym (drop-drop 1 n ps) ∙ ap (λ (qs : List Part). drop 1 qs) e

-- ---- presence bits

pub one_bit : (x y : Bool) → bit_of x ≡ bit_of y → x ≡ y
one_bit true true e = refl
one_bit false false e = refl
one_bit true false e = absurd (omega (arith, e))
one_bit false true e = absurd (omega (arith, e))

-- a component is there or not
one_presence : (p : Part) (left bitmap : ℕ) (x y : Bool) → IsPresent p left bitmap x → IsPresent p left bitmap y → x ≡ y
one_presence p left bitmap x y f g = go (has_presence_bit p.demand) refl
  where
    go : (b : Bool) → has_presence_bit p.demand ≡ b → x ≡ y
    go false e = f.must e ∙ sym (g.must e)
    go true e = one_bit x y (f.bit e ∙ sym (g.bit e))

-- as it is told by the bit that is taken
presence_told : (p : Part) (left after bitmap : ℕ) (x : Bool)
    → (has_presence_bit p.demand ≡ false → (x ≡ true) × (after ≡ left))
    → (has_presence_bit p.demand ≡ true → (after + 1 ≡ left) × (bit_of x ≡ bitmap / 2 ^ after % 2))
    → IsPresent p left bitmap x
presence_told p left after bitmap x f g = record {
  must = λ e. (f e).0;
  bit = λ e. (g e).1 ∙ ap (λ (i : ℕ). bitmap / 2 ^ i % 2) (let s : after + 1 ≡ left = (g e).0 in omega (arith, s));
}

module _ {F : Type 0} (c : Coding) (laws : Laws c) (fc : FieldCoding) (ahead : F → Ahead) (between : F → Type 0) (root : Fields) (more : MoreFields) (good : InProfile (sequence root more)) where
  abbrev n : ℕ
  n = bitmap_length root

  abbrev R : Components → List (Frame F) → List ℕ → List ℕ → Type 0
  R q fs all units = RootReached c fc ahead between root more q fs all units

  abbrev P : List (Frame F) → Part → Bool → List ℕ → Type 0
  P fs p present us = ComponentTook c fc ahead between fs p present us

  -- nothing has come of a component of which no node has begun
  nothing_took : (p : Part) (present : Bool) → P [] p present []
  nothing_took p false = (refl, refl)
  nothing_took p true = go p.demand
    where
      go : (d : Demand) → DemandTook {F = F} c [] (λ t us. Took {F = F} c fc ahead between [] t us) d p.shape []
      go must = refl
      go optional = refl
      go (default d) = refl

  next_took : (rest : List Part) (left bitmap : ℕ) → NextTook {F = F} c [] (λ t us. Took {F = F} c fc ahead between [] t us) rest left bitmap []
  next_took [] left bitmap = (refl, refl)
  next_took (p ∷ ps) left bitmap = λ present told. nothing_took p present

  -- ---- after the preamble

  pub root_starts : (q : Components) (fs : List (Frame F)) (all r : List ℕ)
      → Spells c.ruling.fielding (PreambleOf c n (added more)) (q.extended, q.presence.bitmap) all r
      → q.presence.left ≡ n → n ≤ 64 → q.entries.items ≡ [] → fs ≡ [] → R q fs all r
  root_starts q fs all r sp el few ee ef =
      let ps = parts_in root in
      let of_profile : AreOfProfile (fields_of ps) = rw (fields_of-parts_in root) (components_of_profile root more good) in
      let width : n ≡ bitmap_length (fields_of ps) = ap bitmap_length (sym (fields_of-parts_in root)) in
      let starts : (further : List ℕ) → ReadUpTo c [] ps n q.presence.bitmap (r ++ further) ps n [] (r ++ further) =
      λ further. read_starts c [] ps n q.presence.bitmap (r ++ further) of_profile width few in
      record {
        between = r;
        preamble = sp;
        come = [];
        stands = λ further. rw (el, ee) (starts further);
        light = λ w b h. rw ee (omega arith);
        inner = rw (ef, ee) (next_took ps q.presence.left q.presence.bitmap);
      }

  -- ---- the next component

  -- its entry weighs what its type allows
  light_next : (w : Option Datum → ℕ) (b : Shape → ℕ) (rest : List Part) (p : Part) (ps : List Part) (vs : List (Option Datum)) (x : Option Datum) (parts : List Part)
      → rest ≡ p ∷ ps → total w vs + allowed b rest ≤ allowed b parts → w x ≤ b p.shape
      → total w (vs ++ x ∷ []) + allowed b ps ≤ allowed b parts
  light_next w b rest p ps vs x parts e h l =
      let sum = total-last w vs x in
      let first : allowed b rest ≡ b p.shape + allowed b ps = ap (allowed b) e in
      omega (arith, sum, first, h, l)

  -- its units are among all
  within_all : (all between come : List ℕ) (m bitmap : ℕ) {p : Part} {ps : List Part} {left : ℕ} {vs : List (Option Datum)} → length between ≤ length all
      → ReadUpTo c [] (parts_in root) n bitmap (between ++ []) (p ∷ ps) left vs (come ++ []) → m ≤ length come → m ≤ length all
  within_all all between come m bitmap l st k =
      let s = st.stands in
      let one = ap length s.split ∙ length-append (flat c.ruling.fielding.spelled s.front) (come ++ []) in
      omega (arith, one, length-append between [], length-append come [], l, k)

  pub record ComponentAhead (q : Components) (fs : List (Frame F)) (p : Part) (present : Bool) (after : ℕ) (all units : List ℕ) : Type 0 where
    pub of_profile : InProfile p.shape
    pub good_demand : IsGoodDemand p.demand p.shape
    pub come : List ℕ
    pub took : P fs p present come
    pub stops : (why : Stop) → Stops c.ruling.fielding (Entry c.code p.demand p.shape present) (come ++ units) why
        → Stops c.ruling.fielding (Spelt c.code None (sequence root more)) all why
    pub kept : (gs : List (Frame F)) (units' : List ℕ) → units' ≡ [] → P gs p present (come ++ units) → R q gs all units'
    pub further : (q' : Components) (gs : List (Frame F)) (e : Option Value) (r : List ℕ) → q'.extended ≡ q.extended
        → q'.presence.bitmap ≡ q.presence.bitmap → q'.presence.left ≡ after
        → q'.entries.items ≡ q.entries.items ++ e ∷ [] → gs ≡ []
        → Spells c.ruling.fielding (Entry c.code p.demand p.shape present) (option_map datum_of e) (come ++ units) r
        → R q' gs all r

  pub component_ahead : (q : Components) (fs : List (Frame F)) (p : Part) (ps : List Part) (present : Bool) (after : ℕ)
      (all units : List ℕ) → drop (length q.entries.items) (parts_in root) ≡ p ∷ ps
      → (has_presence_bit p.demand ≡ false → (present ≡ true) × (after ≡ q.presence.left))
      → (has_presence_bit p.demand ≡ true
      → (after + 1 ≡ q.presence.left) × (bit_of present ≡ q.presence.bitmap / 2 ^ after % 2))
      → R q fs all units → ComponentAhead q fs p present after all units
  component_ahead q fs p ps present after all units e f g h =
      let parts = parts_in root in
      let bitmap = q.presence.bitmap in
      let left = q.presence.left in
      let vs = entries_seen q.entries.items in
      let told = presence_told p left after bitmap present f g in
      let inner : (x : Bool) → IsPresent p left bitmap x → P fs p x h.come = rw e at h.inner in
      let stand : (further : List ℕ) → ReadUpTo c [] parts n bitmap (h.between ++ further) (p ∷ ps) left vs ((h.come ++ units) ++ further) = λ further. rw e at h.stands further in
      let next : (further : List ℕ) → ReadNext c [] parts n bitmap (h.between ++ further) p ps after present vs ((h.come ++ units) ++ further) = λ further. next_either c laws (stand further) present after f g in
      let first : LeadsStops c.ruling.fielding (Entry c.code p.demand p.shape present) ((h.come ++ units) ++ []) (Listed c.code (fields_of parts) (bits n bitmap)) (h.between ++ []) = (next []).stops in
      let within : LeadsStops c.ruling.fielding (Entry c.code p.demand p.shape present) (h.come ++ units) (Listed c.code root (bits n bitmap)) h.between =
      subst (λ (us : List ℕ). LeadsStops c.ruling.fielding (Entry c.code p.demand p.shape present) us (Listed c.code root (bits n bitmap)) h.between) (append-nil (h.come ++ units))
      (subst (λ (us : List ℕ). LeadsStops c.ruling.fielding (Entry c.code p.demand p.shape present) ((h.come ++ units) ++ []) (Listed c.code root (bits n bitmap)) us) (append-nil h.between)
      (subst (λ (gs : Fields). LeadsStops c.ruling.fielding (Entry c.code p.demand p.shape present) ((h.come ++ units) ++ []) (Listed c.code gs (bits n bitmap)) (h.between ++ [])) (fields_of-parts_in root) first)) in
      record {
        of_profile = (next []).of_profile;
        good_demand = (next []).good;
        come = h.come;
        took = inner present told;
        stops = λ why k. stops_by why (stops_on within (components_stop c laws root more good (q.extended, bitmap) all h.between h.preamble)) k;
        kept = λ gs units' z k.
            (let same : (x : Bool) → IsPresent p left bitmap x → P gs p x (h.come ++ units) = λ x t. subst (λ (b : Bool). P gs p b (h.come ++ units)) (one_presence p left bitmap present x told t) k in
            record {
              between = h.between;
              preamble = h.preamble;
              come = h.come ++ units;
              stands = λ further. rw (z, append-nil (h.come ++ units)) (h.stands further);
              light = h.light;
              inner = rw e same;
            });
        further = λ q' gs x r ex eb el ei eg k.
            (let count : length q'.entries.items ≡ length q.entries.items + 1 = ap length ei ∙ length-append q.entries.items (x ∷ []) in
            let rest : drop (length q'.entries.items) parts ≡ ps = ap (λ (i : ℕ). drop i parts) count ∙ others_left (length q.entries.items) parts p ps e in
            let seen : entries_seen q'.entries.items ≡ vs ++ option_map datum_of x ∷ [] = ap entries_seen ei ∙ map_push (option_map datum_of) q.entries.items x in
            let stands : (further : List ℕ) → ReadUpTo c [] parts n bitmap (h.between ++ further) ps after (vs ++ option_map datum_of x ∷ []) (r ++ further) = λ further. (next further).more (option_map datum_of x) (r ++ further) (done_stays further k) in
            record {
              between = h.between;
              preamble = rw (ex, eb) h.preamble;
              come = [];
              stands = λ further. rw (rest, eb, el, seen) (stands further);
              light = λ w b f. rw (rest, seen) (light_next w b (drop (length q.entries.items) parts) p ps vs (option_map datum_of x) parts e (h.light w b f)
                  (f p present (option_map datum_of x) k.chunks (next []).of_profile (next []).good k.spelt (within_all all h.between (h.come ++ units) (length (flat c.ruling.fielding.spelled k.chunks)) bitmap (spells_fewer h.preamble) (stand []) (chunks_fewer k))));
              inner = rw (rest, eg) (next_took ps q'.presence.left q'.presence.bitmap);
            });
      }

  -- a presence bit is left for it, and there are few
  pub presence_left : (q : Components) (fs : List (Frame F)) (p : Part) (ps : List Part) (all units : List ℕ)
      → drop (length q.entries.items) (parts_in root) ≡ p ∷ ps → R q fs all units
      → (has_presence_bit p.demand ≡ true → 0 < q.presence.left) × (q.presence.left ≤ 64)
  presence_left q fs p ps all units e h =
      let stand : ReadUpTo c [] (parts_in root) n q.presence.bitmap (h.between ++ []) (p ∷ ps) q.presence.left (entries_seen q.entries.items) ((h.come ++ units) ++ []) = rw e at h.stands [] in
      (λ f. bit_there c laws stand f, stand.few)

  -- ---- with the next piece

  pub root_goes_on : (q : Components) (fs : List (Frame F)) (us units : List ℕ) → R q fs us [] → R q fs (us ++ units) units
  root_goes_on q fs us units h =
      let ps = parts_in root in
      let rest = drop (length q.entries.items) ps in
      let vs = entries_seen q.entries.items in
      let left = q.presence.left in
      let bitmap = q.presence.bitmap in
      record {
        between = h.between ++ units;
        preamble = done_stays units h.preamble;
        come = h.come;
        stands = λ further.
            (let one : ReadUpTo c [] ps n bitmap (h.between ++ (units ++ further)) rest left vs (h.come ++ (units ++ further)) = subst (λ (xs : List ℕ). ReadUpTo c [] ps n bitmap (h.between ++ (units ++ further)) rest left vs (xs ++ (units ++ further))) (append-nil h.come) (h.stands (units ++ further)) in
            let two : ReadUpTo c [] ps n bitmap ((h.between ++ units) ++ further) rest left vs (h.come ++ (units ++ further)) = subst (λ (xs : List ℕ). ReadUpTo c [] ps n bitmap xs rest left vs (h.come ++ (units ++ further))) (sym (append_assoc h.between units further)) one in
            subst (λ (xs : List ℕ). ReadUpTo c [] ps n bitmap ((h.between ++ units) ++ further) rest left vs xs) (sym (append_assoc h.come units further)) two);
        light = λ w b f. h.light w b (λ p present e cs g d s l. f p present e cs g d s (omega (arith, l, length-append us units)));
        inner = h.inner;
      }

  -- ---- the node

  pub took_components : (r : Option (Frame F)) (f : Frame F) (q : Components) (fs : List (Frame F)) (us : List ℕ)
      → r ≡ Some f → f ≡ frame.Components q → Took c fc ahead between (with_node r fs) (sequence root more) us → R q fs us []
  took_components r f q fs us e g h = rw (e, g) at h

  pub sequence_none : (r : Option (Frame F)) (fs : List (Frame F)) (us : List ℕ) → r ≡ None → fs ≡ []
      → Took c fc ahead between (with_node r fs) (sequence root more) us → us ≡ []
  sequence_none r fs us e g h = rw (e, g) at h

  pub sequence_start : (r : Option (Frame F)) (f : Frame F) (b : List ℕ) (fs : List (Frame F)) (us : List ℕ) → r ≡ Some f
      → f ≡ frame.Start b → Took c fc ahead between (with_node r fs) (sequence root more) us
      → (fs ≡ []) × (Waits c (PreambleOf c n (added more)) b us)
  sequence_start r f b [] us e g h = (let w : Waits c (PreambleOf c n (added more)) b us = rw (e, g) at h in (refl, w))
  sequence_start r f b (x ∷ fs) us e g h = (let z : ⊥ = rw (e, g) at h in absurd z)

  pub sequence_took : (fs : List (Frame F)) (b us : List ℕ) → fs ≡ frame.Start b ∷ [] → Waits c (PreambleOf c n (added more)) b us
      → Took c fc ahead between fs (sequence root more) us
  sequence_took fs b us e w = rw e w

-- ---- the end of the root

module _ {F : Type 0} (c : Coding) (laws : Laws c) (fc : FieldCoding) (ahead : F → Ahead) (between : F → Type 0) (root : Fields) (more : MoreFields) (good : InProfile (sequence root more)) where
  -- its components are read
  pub root_listed : (q : Components) (fs : List (Frame F)) (all units : List ℕ)
      → drop (length q.entries.items) (parts_in root) ≡ [] → (h : RootReached c fc ahead between root more q fs all units)
      → Spells c.ruling.fielding (Listed c.code root (bits (bitmap_length root) q.presence.bitmap)) (entries_seen q.entries.items) h.between units
  root_listed q fs all units e h =
      let n = bitmap_length root in
      let parts = parts_in root in
      let bitmap = q.presence.bitmap in
      let vs = entries_seen q.entries.items in
      let inner : (fs ≡ []) × (h.come ≡ []) = rw e at h.inner in
      let stand : ReadUpTo c [] parts n bitmap (h.between ++ []) (drop (length q.entries.items) parts) q.presence.left vs ((h.come ++ units) ++ []) = h.stands [] in
      let read : Spells c.ruling.fielding (Listed c.code (fields_of parts) (bits n bitmap)) vs (h.between ++ []) ((h.come ++ units) ++ []) = after_nothing (read_ends stand e) in
      let one : Spells c.ruling.fielding (Listed c.code root (bits n bitmap)) vs (h.between ++ []) ((h.come ++ units) ++ []) = subst (λ (gs : Fields). Spells c.ruling.fielding (Listed c.code gs (bits n bitmap)) vs (h.between ++ []) ((h.come ++ units) ++ [])) (fields_of-parts_in root) read in
      let two : Spells c.ruling.fielding (Listed c.code root (bits n bitmap)) vs h.between ((h.come ++ units) ++ []) = subst (λ (us : List ℕ). Spells c.ruling.fielding (Listed c.code root (bits n bitmap)) vs us ((h.come ++ units) ++ [])) (append-nil h.between) one in
      subst (λ (us : List ℕ). Spells c.ruling.fielding (Listed c.code root (bits n bitmap)) vs h.between us) (append-nil (h.come ++ units) ∙ ap (λ (us : List ℕ). us ++ units) inner.1) two

  -- no addition is present
  pub root_ends : (q : Components) (fs : List (Frame F)) (all units : List ℕ)
      → drop (length q.entries.items) (parts_in root) ≡ [] → q.extended ≡ false → RootReached c fc ahead between root more q fs all units
      → Spells c.ruling.fielding (Spelt c.code None (sequence root more)) (components (components_of (entries_seen q.entries.items ++ absent_entries (more_fields more)))) all units
  root_ends q fs all units e x h =
      none_added c laws root more good (q.extended, q.presence.bitmap) all h.between h.preamble (entries_seen q.entries.items) units (root_listed q fs all units e h) x

  pub root_emptied : (q : Components) (fs : List (Frame F)) (all units : List ℕ)
      → drop (length q.entries.items) (parts_in root) ≡ [] → RootReached c fc ahead between root more q fs all units → fs ≡ []
  root_emptied q fs all units e h =
      let inner : (fs ≡ []) × (h.come ≡ []) = rw e at h.inner in
      inner.0

-- ---- a component, as the program has it

-- the next one, and those after it
pub next_in : (fields : List Field) (i : ℕ) (x : Field) → i < length fields → x ≡ get_or fields i x
    → drop i (parts_in (fields_seen fields)) ≡ part_of_field x ∷ map part_of_field (drop (i + 1) fields)
next_in fields i x h e =
    ap (λ (ps : List Part). drop i ps) (parts_in-fields_of (map part_of_field fields)) ∙ drop-map part_of_field i fields
    ∙ next_part fields i x h e

-- past the last
pub none_left : (fields : List Field) (i : ℕ) → length fields ≤ i → drop i (parts_in (fields_seen fields)) ≡ []
none_left fields i h =
    ap (λ (ps : List Part). drop i ps) (parts_in-fields_of (map part_of_field fields)) ∙ drop-map part_of_field i fields
    ∙ no_part fields i h

-- a component without a DEFAULT
pub plain_demand : (need : Need) → (need ≡ needs.Must) ⊎ (need ≡ needs.Optional) → (demand_of need ≡ must) ⊎ (demand_of need ≡ optional)
plain_demand need (inl e) = inl (ap demand_of e)
plain_demand need (inr e) = inr (ap demand_of e)

module _ {F : Type 0} (c : Coding) (fc : FieldCoding) (ahead : F → Ahead) (between : F → Type 0) (x : Field) (present : Bool) (fs : List (Frame F)) (us : List ℕ) where
  -- it is absent
  pub absent_took : present ≡ false → ComponentTook c fc ahead between fs (part_of_field x) present us → (fs ≡ []) × (us ≡ [])
  absent_took e h = rw e at h

  module _ (there : present ≡ true) where
    demand_took : DemandTook c fs (λ t vs. Took c fc ahead between fs t vs) (part_of_field x).demand (part_of_field x).shape us
        → ComponentTook c fc ahead between fs (part_of_field x) present us
    demand_took h = rw there h

    took_demand : ComponentTook c fc ahead between fs (part_of_field x) present us
        → DemandTook c fs (λ t vs. Took c fc ahead between fs t vs) (part_of_field x).demand (part_of_field x).shape us
    took_demand h = rw there at h

    -- it has a DEFAULT
    pub took_other : (v : Value) → x.need ≡ needs.Default v → ComponentTook c fc ahead between fs (part_of_field x) present us
        → OtherTook c fs (datum_of v) (shape_of x.ty) us
    took_other v e h =
        let d : (part_of_field x).demand ≡ default (datum_of v) = demand_of_part x ∙ ap demand_of e in
        let k = took_demand h in
        let one : DemandTook c fs (λ t vs. Took c fc ahead between fs t vs) (default (datum_of v)) (part_of_field x).shape us = subst (λ (z : Demand). DemandTook c fs (λ t vs. Took c fc ahead between fs t vs) z (part_of_field x).shape us) d k in
        subst (λ (t : Shape). OtherTook c fs (datum_of v) t us) (shape_of_part x) one

    pub other_took : (v : Value) → x.need ≡ needs.Default v → OtherTook c fs (datum_of v) (shape_of x.ty) us
        → ComponentTook c fc ahead between fs (part_of_field x) present us
    other_took v e h =
        let d : (part_of_field x).demand ≡ default (datum_of v) = demand_of_part x ∙ ap demand_of e in
        let one : DemandTook c fs (λ t vs. Took c fc ahead between fs t vs) (default (datum_of v)) (part_of_field x).shape us = subst (λ (t : Shape). OtherTook c fs (datum_of v) t us) (sym (shape_of_part x)) h in
        demand_took (subst (λ (z : Demand). DemandTook c fs (λ t vs. Took c fc ahead between fs t vs) z (part_of_field x).shape us) (sym d) one)

    -- it has none
    pub took_value : (demand_of x.need ≡ must) ⊎ (demand_of x.need ≡ optional) → ComponentTook c fc ahead between fs (part_of_field x) present us
        → Took c fc ahead between fs (shape_of x.ty) us
    took_value w h = subst (λ (t : Shape). Took c fc ahead between fs t us) (shape_of_part x) (go w)
      where
        go : (demand_of x.need ≡ must) ⊎ (demand_of x.need ≡ optional) → Took c fc ahead between fs (part_of_field x).shape us
        go (inl e) = subst (λ (z : Demand). DemandTook c fs (λ t vs. Took c fc ahead between fs t vs) z (part_of_field x).shape us) (demand_of_part x ∙ e) (took_demand h)
        go (inr e) = subst (λ (z : Demand). DemandTook c fs (λ t vs. Took c fc ahead between fs t vs) z (part_of_field x).shape us) (demand_of_part x ∙ e) (took_demand h)

    pub value_took : (demand_of x.need ≡ must) ⊎ (demand_of x.need ≡ optional) → Took c fc ahead between fs (shape_of x.ty) us
        → ComponentTook c fc ahead between fs (part_of_field x) present us
    value_took w h = demand_took (go w)
      where
        one : Took c fc ahead between fs (part_of_field x).shape us
        one = subst (λ (t : Shape). Took c fc ahead between fs t us) (sym (shape_of_part x)) h

        go : (demand_of x.need ≡ must) ⊎ (demand_of x.need ≡ optional)
            → DemandTook c fs (λ t vs. Took c fc ahead between fs t vs) (part_of_field x).demand (part_of_field x).shape us
        go (inl e) = subst (λ (z : Demand). DemandTook c fs (λ t vs. Took c fc ahead between fs t vs) z (part_of_field x).shape us) (sym (demand_of_part x ∙ e)) one
        go (inr e) = subst (λ (z : Demand). DemandTook c fs (λ t vs. Took c fc ahead between fs t vs) z (part_of_field x).shape us) (sym (demand_of_part x ∙ e)) one

  -- where more units are wanted
  pub other_kept : (why : Stop) → present ≡ true → (v : Value) → x.need ≡ needs.Default v
      → KeepsOther c fs (datum_of v) (shape_of x.ty) us why → KeepsComponent c fc ahead between fs (part_of_field x) present us why
  other_kept (stop.Refused left w) e v n h = tt
  other_kept stop.Short e v n h = other_took e v n h
  other_kept stop.Memory e v n h = tt

  pub value_kept : (why : Stop) → present ≡ true → (demand_of x.need ≡ must) ⊎ (demand_of x.need ≡ optional)
      → KeepsFrames c fc ahead between fs (shape_of x.ty) us why → KeepsComponent c fc ahead between fs (part_of_field x) present us why
  value_kept (stop.Refused left w) e n h = tt
  value_kept stop.Short e n h = value_took e n h
  value_kept stop.Memory e n h = tt

-- a component that is there and has no DEFAULT
pub no_default : (d : Demand) → (d ≡ must) ⊎ (d ≡ optional) → default_of d ≡ None
no_default d (inl e) = ap default_of e
no_default d (inr e) = ap default_of e

-- how many additions there are
pub added_count : (ext : Option (Vec Field Global)) → added (more_fields_of ext) ≡ option_map vec_len ext
added_count None = refl
added_count (Some more) = ap Some (count_of_fields more.items ∙ sym more.ok.0)
