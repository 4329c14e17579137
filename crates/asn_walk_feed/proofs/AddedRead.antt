-- How the extension additions of a SEQUENCE that may be cut go on, as the program holds them.
use Rattle.std.proofs.Common.{Vec, Global, ◌≡◌, ◌≤◌, ◌<◌, ◌+◌, ◌-◌, ◌/◌, ◌%◌, ◌^◌, inl, inr, get_or, ℕ, zero, suc, Bool, true, false, List, [], ◌∷◌, ◌++◌, length, map, drop, append-nil, append_assoc, Option, Some, None, refl, sym, ap, subst, ◌∙◌, arith}
use Rattle.std.specs.Option.{option_map}
use Rattle.std.proofs.lemmas.List.{map_push, length-drop, length-append}
use Rattle.asn_values.specs.declared.types.Field.{Field}
use Rattle.asn_values.specs.declared.value.Value.{Value}
use Rattle.asn_values.specs.Datum.{Datum, components, components_of}
use Rattle.asn_values.specs.Shape.{Shape, Fields, no_fields, field, MoreFields, sequence, demands}
use Rattle.asn_values.specs.Parts.{AreOfProfile}
use Rattle.asn_values.specs.Profile.{InProfile}
use Rattle.asn_values.specs.View.{Part, part_of_field, shape_of, datum_of, fields_seen, entries_seen, more_fields_of}
use Rattle.asn_values.proofs.Components.{shape_of_part}
use Rattle.asn_values.proofs.InnerTypes.{additions_of_profile}
use Rattle.asn_bits.specs.Numbers.{bits}
use Rattle.asn_bits.specs.Sink.{bit_of}
use Rattle.asn_rules.specs.Chunks.{Chunk, flat}
use Rattle.asn_rules.specs.Languages.{Spells, Short}
use Rattle.asn_rules.specs.Listed.{Spelt, bitmap_length}
use Rattle.asn_rules.specs.Stops.{Stops}
use Rattle.asn_rules.specs.declared.stop.Stop.{Stop}
use Rattle.asn_rules.specs.declared.stop.Stop.TheVariants as stop
use Rattle.asn_rules.proofs.Languages.Standing.{stands_here}
use Rattle.asn_rules.proofs.Answer.Answers.{done_stays}
use Rattle.asn_rules.proofs.Languages.Leads.{LeadsStops, Leads, leads_here, leads_map, stops_on, stops_by}
use Rattle.asn_rules.proofs.Languages.Parts.{map_source, map_spells, nothing_spells}
use Rattle.asn_walk.specs.Ahead.{Ahead}
use Rattle.asn_walk.specs.Coding.{Coding, CanExtend, PreambleOf, AdditionBitmapOf, AdditionsOf, OpenOf, OpenListed, added}
use Rattle.asn_walk.specs.Laws.{Laws}
use Rattle.asn_walk.specs.Reading.{After}
use Rattle.asn_walk.proofs.AdditionsRead.{AddedUpTo, presence_stops_at, open_fields_lead, addition_good, addition_stops, addition_present, addition_absent, added_ends, after_leads}
use Rattle.asn_walk.proofs.Parts.{count_of_fields}
use Rattle.asn_walk.proofs.SequencesRead.{some_listed, additions_stop, additions_done}
use Rattle.asn_walk_feed.specs.AddedTaken.{BitmapReached, AdditionsReached, KeepsOneAddition}
use Rattle.asn_walk_feed.specs.Additions.{marked_seen, addition_count, AdditionOf, RootRead, AdditionTook, NextAdditionTook}
use Rattle.asn_walk_feed.specs.Feeding.{FeedLaws, HasBegun}
use Rattle.asn_walk_feed.specs.Octets.{OctetsTook, KeepsOctets}
use Rattle.asn_walk_feed.specs.OpenFields.{FieldCoding}
use Rattle.asn_walk_feed.specs.Roots.{parts_in}
use Rattle.asn_walk_feed.specs.Taken.{Took, with_node, RootReached}
use Rattle.asn_walk_feed.specs.Weights.{total, allowed}
use Rattle.asn_walk_feed.specs.declared.frame.AdditionBits.{AdditionBits}
use Rattle.asn_walk_feed.specs.declared.frame.Components.{Components}
use Rattle.asn_walk_feed.specs.declared.frame.Frame.{Frame}
use Rattle.asn_walk_feed.specs.declared.frame.Frame.TheVariants as frame
use Rattle.asn_walk_feed.proofs.ListsRead.{under}
use Rattle.asn_walk_feed.proofs.Weights.{total-last, spells_fewer, chunks_fewer}
use Rattle.asn_walk_feed.proofs.RootsRead.{fields_of-parts_in, others_left, one_bit, next_in, root_listed}

-- ---- additions taken apart

parts_count : (fs : Fields) → length (parts_in fs) ≡ length (demands fs)
parts_count no_fields = refl
parts_count (field name demand t fs) = ap suc (parts_count fs)

-- bits and units that follow are those of both pieces
root_stays : {c : Coding} {root : Fields} {more : MoreFields} {es : List (Option Datum)} {us r : List ℕ} (units : List ℕ)
    → RootRead c root more es us r → RootRead c root more es (us ++ units) (r ++ units)
root_stays units h = record {
  bitmap = h.bitmap;
  between = h.between ++ units;
  preamble = done_stays units h.preamble;
  components = done_stays units h.components;
}

-- some addition can be present
pub some_present : (c : Coding) (root : Fields) (fields : List Field) (es : List (Option Datum)) (us r : List ℕ)
    → RootRead c root (marked_seen fields) es us r → 0 < length fields
some_present c root fields es us r h =
    let some : 0 < length (demands (fields_seen fields)) = some_listed (length (demands (fields_seen fields))) (h.preamble.spelt.fits.1 refl) in
    omega (arith, some, count_of_fields fields)

module _ {F : Type 0} (c : Coding) (laws : Laws c) (feeds : FeedLaws c) (fc : FieldCoding) (ahead : F → Ahead) (between : F → Type 0) (root : Fields) (fields : List Field) (good : InProfile (sequence root (marked_seen fields))) where
  abbrev S : MoreFields
  S = marked_seen fields

  abbrev N : ℕ
  N = addition_count (marked_seen fields)

  abbrev T : Datum → List Chunk → Type 0
  T = Spelt c.code None (sequence root (marked_seen fields))

  abbrev B : AdditionBits → List ℕ → List ℕ → Type 0
  B p all units = BitmapReached c root (marked_seen fields) p all units

  abbrev R : Components → List (Frame F) → List ℕ → List ℕ → Type 0
  R q fs all units = AdditionsReached c fc ahead between root (marked_seen fields) q fs all units

  each : N ≡ length fields
  each = count_of_fields fields

  of_profile : AreOfProfile (fields_seen fields)
  of_profile = additions_of_profile root (fields_seen fields) good

  -- ---- the presence bits

  -- where what follows the root stops, so does the SEQUENCE
  after_root : (es : List (Option Datum)) (us r : List ℕ) → RootRead c root S es us r
      → LeadsStops c.ruling.fielding (AdditionsOf c (fields_seen fields)) r T us
  after_root es us r h = additions_stop c laws root S good (true, h.bitmap) us h.between h.preamble es r h.components refl

  -- within them
  pub bitmap_stops : (p : AdditionBits) (all units : List ℕ) (why : Stop) → B p all units
      → Stops c.ruling.fielding (AdditionBitmapOf c (length fields)) (c.to_units p.begun ++ units) why → Stops c.ruling.fielding T all why
  bitmap_stops p all units why h s =
      let t : Stops c.ruling.fielding (AdditionBitmapOf c (length fields)) (h.come ++ units) why = rw h.waits.come at s in
      stops_by why (stops_on (presence_stops_at c laws fields of_profile (h.come ++ units)) (after_root (entries_seen p.entries.items) all (h.come ++ units) h.root_read)) t

  pub bitmap_begun : (p : AdditionBits) (all units : List ℕ) → B p all units
      → HasBegun c (AdditionBitmapOf c (length fields)) p.begun
  bitmap_begun p all units h = subst (λ (n : ℕ). HasBegun c (AdditionBitmapOf c n) p.begun) each h.waits.begins

  -- more of them are wanted
  pub bitmap_kept : (p p' : AdditionBits) (all units : List ℕ) → B p all units → p'.entries.items ≡ p.entries.items
      → c.to_units p'.begun ≡ c.to_units p.begun ++ units → c.at_unit p'.begun
      → Short c.ruling.fielding (AdditionBitmapOf c (length fields)) (c.to_units p'.begun) → B p' all []
  bitmap_kept p p' all units h ep e u s = record {
    come = h.come ++ units;
    root_read = rw (append-nil (h.come ++ units), ep) h.root_read;
    waits = record {
      come = e ∙ ap (λ (xs : List ℕ). xs ++ units) h.waits.come;
      at_unit = u;
      begins = inr (rw each s);
    };
  }

  -- nothing has come of an addition of which no node has begun
  none_took : (present : Bool) → AdditionTook {F = F} c fc ahead between [] present []
  none_took false = (refl, refl)
  none_took true = refl

  next_none : (left bitmap : ℕ) → NextAdditionTook {F = F} c fc ahead between [] left bitmap []
  next_none zero bitmap = (refl, refl)
  next_none (suc n) bitmap = λ present told. none_took present

  -- after them stand the open type fields
  open_lead : (b : ℕ) (us vs : List ℕ) → Spells c.ruling.fielding (AdditionBitmapOf c N) b us vs
      → Leads c.ruling.fielding (OpenListed c (fields_seen fields) (bits N b)) vs (λ es. es) (AdditionsOf c (fields_seen fields)) us
  open_lead b us vs h =
      let told : Spells c.ruling.fielding (AdditionBitmapOf c (length fields)) b us vs = subst (λ (n : ℕ). Spells c.ruling.fielding (AdditionBitmapOf c n) b us vs) each h in
      let led : Leads c.ruling.fielding (OpenListed c (fields_seen fields) (bits (length fields) b)) vs (λ (es : List (Option Datum)). es) (AdditionsOf c (fields_seen fields)) us = open_fields_lead c laws fields of_profile b us vs told in
      subst (λ (n : ℕ). Leads c.ruling.fielding (OpenListed c (fields_seen fields) (bits n b)) vs (λ (es : List (Option Datum)). es) (AdditionsOf c (fields_seen fields)) us) (sym each) led

  pub additions_start : (p : AdditionBits) (q : Components) (fs : List (Frame F)) (all units r : List ℕ) → B p all units
      → Spells c.ruling.fielding (AdditionBitmapOf c (length fields)) q.presence.bitmap (c.to_units p.begun ++ units) r
      → q.presence.left ≡ length fields → length fields ≤ 64 → q.entries.items ≡ p.entries.items → fs ≡ [] → R q fs all r
  additions_start p q fs all units r h sp el few ee ef =
      let parts = parts_in (fields_seen fields) in
      let bitmap = q.presence.bitmap in
      let before = entries_seen p.entries.items in
      let ln : q.presence.left ≡ N = el ∙ sym each in
      let whole : drop (N - q.presence.left) parts ≡ parts = ap (λ (k : ℕ). drop k parts) (let z : N - q.presence.left ≡ 0 = omega (arith, ln) in z) in
      let starts : (further : List ℕ) → AddedUpTo c before (fields_seen fields) (r ++ further) N bitmap parts N before (r ++ further) = λ further. record {
        of_profile = rw (fields_of-parts_in (fields_seen fields)) of_profile;
        width = sym (parts_count (fields_seen fields));
        few = rw each few;
        read = [];
        after = sym (append-nil before);
        leads = rw (fields_of-parts_in (fields_seen fields)) (leads_here c.ruling.fielding (OpenListed c (fields_seen fields) (bits N bitmap)) (r ++ further));
        stands = rw (fields_of-parts_in (fields_seen fields)) (stands_here c.ruling.fielding (OpenListed c (fields_seen fields) (bits N bitmap)) (r ++ further));
      } in
      record {
        before = before;
        rest = h.come ++ units;
        root_read = h.root_read;
        between = r;
        bitmap = rw (each, ← h.waits.come) sp;
        come = [];
        stands = λ further. rw (whole, ln, ee) (starts further);
        light = λ w b f. rw (whole, ee) (omega arith);
        inner = rw ef (next_none q.presence.left bitmap);
      }

  -- ---- the next addition

  pub record NextAddition (q : Components) (fs : List (Frame F)) (t : Shape) (present : Bool) (after : ℕ) (all units : List ℕ) : Type 0 where
    pub good_shape : InProfile t
    pub come : List ℕ
    pub took : AdditionTook c fc ahead between fs present come
    pub stops : (why : Stop) → Stops c.ruling.fielding (AdditionOf c t present) (come ++ units) why
        → Stops c.ruling.fielding T all why
    pub kept : (gs : List (Frame F)) (units' : List ℕ) → units' ≡ []
        → AdditionTook c fc ahead between gs present (come ++ units) → R q gs all units'
    pub further : (q' : Components) (gs : List (Frame F)) (e : Option Value) (r : List ℕ)
        → q'.presence.bitmap ≡ q.presence.bitmap → q'.presence.left ≡ after
        → q'.entries.items ≡ q.entries.items ++ e ∷ [] → gs ≡ []
        → Spells c.ruling.fielding (AdditionOf c t present) (option_map datum_of e) (come ++ units) r → R q' gs all r

  module _ (q : Components) (fs : List (Frame F)) (p : Part) (ps : List Part) (present : Bool) (after : ℕ) (all units : List ℕ) (d : drop (N - q.presence.left) (parts_in (fields_seen fields)) ≡ p ∷ ps) (a : after + 1 ≡ q.presence.left) (within : q.presence.left ≤ N) (told : bit_of present ≡ q.presence.bitmap / 2 ^ after % 2) (h : R q fs all units) where
    suc_after : q.presence.left ≡ suc after
    suc_after = omega (arith, a)

    stand : (further : List ℕ) → AddedUpTo c h.before (fields_seen fields) (h.between ++ further) N q.presence.bitmap (p ∷ ps) q.presence.left (entries_seen q.entries.items) ((h.come ++ units) ++ further)
    stand further = rw d at h.stands further

    next : NextAdditionTook c fc ahead between fs (suc after) q.presence.bitmap h.come
    next = subst (λ (n : ℕ). NextAdditionTook c fc ahead between fs n q.presence.bitmap h.come) suc_after h.inner

    -- where it stops, so does the SEQUENCE
    open_stops : present ≡ true → LeadsStops c.ruling.fielding (OpenOf c p.shape) (h.come ++ units) T all
    open_stops e =
        let b : 1 ≡ q.presence.bitmap / 2 ^ after % 2 = subst (λ (x : Bool). bit_of x ≡ q.presence.bitmap / 2 ^ after % 2) e told in
        let first : LeadsStops c.ruling.fielding (OpenOf c p.shape) ((h.come ++ units) ++ []) (OpenListed c (fields_seen fields) (bits N q.presence.bitmap)) (h.between ++ []) = addition_stops c laws (stand []) after a b in
        let one : LeadsStops c.ruling.fielding (OpenOf c p.shape) ((h.come ++ units) ++ []) (OpenListed c (fields_seen fields) (bits N q.presence.bitmap)) h.between = subst (λ (us : List ℕ). LeadsStops c.ruling.fielding (OpenOf c p.shape) ((h.come ++ units) ++ []) (OpenListed c (fields_seen fields) (bits N q.presence.bitmap)) us) (append-nil h.between) first in
        let two : LeadsStops c.ruling.fielding (OpenOf c p.shape) (h.come ++ units) (OpenListed c (fields_seen fields) (bits N q.presence.bitmap)) h.between = subst (λ (us : List ℕ). LeadsStops c.ruling.fielding (OpenOf c p.shape) us (OpenListed c (fields_seen fields) (bits N q.presence.bitmap)) h.between) (append-nil (h.come ++ units)) one in
        stops_on two (stops_on (open_lead q.presence.bitmap h.rest h.between h.bitmap).stops (after_root h.before all h.rest h.root_read))

    one_stops : (b : Bool) → present ≡ b → (why : Stop) → Stops c.ruling.fielding (AdditionOf c p.shape b) (h.come ++ units) why → Stops c.ruling.fielding T all why
    one_stops true e why s = stops_by why (open_stops e) (under (h.come ++ units) why s)
    one_stops false e stop.Memory s = record { told = tt }
    one_stops false e stop.Short s = absurd (s.told.none None (h.come ++ units) (nothing_spells c.ruling.fielding None (h.come ++ units)))
    one_stops false e (stop.Refused n w) s = absurd (s.told.none None (h.come ++ units) (nothing_spells c.ruling.fielding None (h.come ++ units)))

    -- and after it stand the others
    one_more : (b : Bool) → present ≡ b → (v : Option Datum) (r : List ℕ) → Spells c.ruling.fielding (AdditionOf c p.shape b) v (h.come ++ units) r
        → (further : List ℕ) → AddedUpTo c h.before (fields_seen fields) (h.between ++ further) N q.presence.bitmap ps after (entries_seen q.entries.items ++ v ∷ []) (r ++ further)
    one_more true e v r s further =
        let b : 1 ≡ q.presence.bitmap / 2 ^ after % 2 = subst (λ (x : Bool). bit_of x ≡ q.presence.bitmap / 2 ^ after % 2) e told in
        let w = map_source s in
        rw w.2 (addition_present c laws (stand further) after a b w.0 (r ++ further) (done_stays further w.1))
    one_more false e v r s further =
        let b : 0 ≡ q.presence.bitmap / 2 ^ after % 2 = subst (λ (x : Bool). bit_of x ≡ q.presence.bitmap / 2 ^ after % 2) e told in
        let f : r ≡ h.come ++ units = sym (s.split ∙ ap (λ (cs : List Chunk). flat c.ruling.fielding.spelled cs ++ r) s.spelt.empty) in
        rw (f, s.spelt.same) (addition_absent c laws (stand further) after a b)

    -- its entry weighs what its type allows
    light_next : (w : Option Datum → ℕ) (b : Shape → ℕ) (x : Option Datum) → total w (entries_seen q.entries.items) + allowed b (drop (N - q.presence.left) (parts_in (fields_seen fields))) ≤ total w h.before + allowed b (parts_in (fields_seen fields))
        → w x ≤ b p.shape → total w (entries_seen q.entries.items ++ x ∷ []) + allowed b ps ≤ total w h.before + allowed b (parts_in (fields_seen fields))
    light_next w b x l m =
        let sum = total-last w (entries_seen q.entries.items) x in
        let first : allowed b (drop (N - q.presence.left) (parts_in (fields_seen fields))) ≡ b p.shape + allowed b ps = ap (allowed b) d in
        omega (arith, sum, first, l, m)

    -- its units are among all
    within_all : (m : ℕ) → m ≤ length (h.come ++ units) → m ≤ length all
    within_all m l =
        let s = (stand []).stands in
        let one = ap length s.split ∙ length-append (flat c.ruling.fielding.spelled s.front) ((h.come ++ units) ++ []) in
        let r = h.root_read in
        omega (arith, one, length-append h.between [], length-append (h.come ++ units) [], l, spells_fewer h.bitmap, spells_fewer r.components, spells_fewer r.preamble)

    addition_next : NextAddition q fs p.shape present after all units
    addition_next = record {
      good_shape = addition_good c laws (stand []);
      come = h.come;
      took = next present told;
      stops = λ why s. one_stops present refl why s;
      kept = λ gs units' z k. record {
        before = h.before;
        rest = h.rest;
        root_read = h.root_read;
        between = h.between;
        bitmap = h.bitmap;
        come = h.come ++ units;
        stands = λ further. rw (z, append-nil (h.come ++ units)) (h.stands further);
        light = h.light;
        inner = subst (λ (n : ℕ). NextAdditionTook c fc ahead between gs n q.presence.bitmap (h.come ++ units)) (sym suc_after)
            (λ x t. subst (λ (b : Bool). AdditionTook c fc ahead between gs b (h.come ++ units)) (one_bit present x (told ∙ sym t)) k);
      };
      further = λ q' gs x r eb el ei eg k.
          (let parts = parts_in (fields_seen fields) in
          let count : N - q'.presence.left ≡ N - q.presence.left + 1 = omega (arith, el, a, within) in
          let rest : drop (N - q'.presence.left) parts ≡ ps = ap (λ (i : ℕ). drop i parts) count ∙ others_left (N - q.presence.left) parts p ps d in
          let seen : entries_seen q'.entries.items ≡ entries_seen q.entries.items ++ option_map datum_of x ∷ [] = ap entries_seen ei ∙ map_push (option_map datum_of) q.entries.items x in
          record {
            before = h.before;
            rest = h.rest;
            root_read = h.root_read;
            between = h.between;
            bitmap = rw eb h.bitmap;
            come = [];
            stands = λ further. rw (rest, eb, el, seen) (one_more present refl (option_map datum_of x) r k further);
            light = λ w b f. rw (rest, seen) (light_next w b (option_map datum_of x) (h.light w b f)
                (f p.shape present (option_map datum_of x) k.chunks (addition_good c laws (stand [])) k.spelt (within_all (length (flat c.ruling.fielding.spelled k.chunks)) (chunks_fewer k))));
            inner = rw eg (next_none q'.presence.left q'.presence.bitmap);
          });
    }

  -- as many are left as there are presence bits
  pub left_within : (q : Components) (fs : List (Frame F)) (all units : List ℕ) → R q fs all units → (q.presence.left ≤ length fields) × (q.presence.left ≤ 64)
  left_within q fs all units h =
      let parts = parts_in (fields_seen fields) in
      let w = (h.stands []).width in
      let n = length-drop (N - q.presence.left) parts in
      let m = parts_count (fields_seen fields) in
      (omega (arith, w, n, m, each), (h.stands []).few)

  pub next_addition : (q : Components) (fs : List (Frame F)) (x : Field) (i : ℕ) (present : Bool) (after : ℕ)
      (all units : List ℕ) → i + q.presence.left ≡ length fields → x ≡ get_or fields i x → after + 1 ≡ q.presence.left
      → bit_of present ≡ q.presence.bitmap / 2 ^ after % 2 → R q fs all units
      → NextAddition q fs (shape_of x.ty) present after all units
  next_addition q fs x i present after all units s e a told h =
      let inside : i < length fields = omega (arith, s, a) in
      let at : N - q.presence.left ≡ i = omega (arith, s, each) in
      let within : q.presence.left ≤ N = omega (arith, s, each) in
      let d : drop (N - q.presence.left) (parts_in (fields_seen fields)) ≡ part_of_field x ∷ map part_of_field (drop (i + 1) fields) = ap (λ (k : ℕ). drop k (parts_in (fields_seen fields))) at ∙ next_in fields i x inside e in
      subst (λ (t : Shape). NextAddition q fs t present after all units) (shape_of_part x)
      (addition_next q fs (part_of_field x) (map part_of_field (drop (i + 1) fields)) present after all units d a within told h)

  -- ---- all have been read

  no_parts : (ps : List Part) → length ps ≡ 0 → ps ≡ []
  no_parts [] e = refl
  no_parts (p ∷ ps) e = absurd (omega arith)

  pub additions_end : (q : Components) (fs : List (Frame F)) (all units : List ℕ) → q.presence.left ≡ 0 → R q fs all units
      → Spells c.ruling.fielding T (components (components_of (entries_seen q.entries.items))) all units
  additions_end q fs all units z h =
      let L = OpenListed c (fields_seen fields) (bits N q.presence.bitmap) in
      let vs = entries_seen q.entries.items in
      let inner : (fs ≡ []) × (h.come ≡ []) = subst (λ (n : ℕ). NextAdditionTook c fc ahead between fs n q.presence.bitmap h.come) z h.inner in
      let none = no_parts (drop (N - q.presence.left) (parts_in (fields_seen fields))) (sym (h.stands []).width ∙ z) in
      let one : Spells c.ruling.fielding (After h.before L) vs (h.between ++ []) ((h.come ++ units) ++ []) = added_ends c (h.stands []) none in
      let two : Spells c.ruling.fielding (After h.before L) vs h.between ((h.come ++ units) ++ []) = subst (λ (us : List ℕ). Spells c.ruling.fielding (After h.before L) vs us ((h.come ++ units) ++ [])) (append-nil h.between) one in
      let three : Spells c.ruling.fielding (After h.before L) vs h.between units = subst (λ (us : List ℕ). Spells c.ruling.fielding (After h.before L) vs h.between us) (append-nil (h.come ++ units) ∙ ap (λ (us : List ℕ). us ++ units) inner.1) two in
      let four : Spells c.ruling.fielding (After h.before (AdditionsOf c (fields_seen fields))) vs h.rest units = after_leads h.before (open_lead q.presence.bitmap h.rest h.between h.bitmap) three in
      additions_done c laws root S good (true, h.root_read.bitmap) all h.root_read.between h.root_read.preamble h.before h.rest h.root_read.components refl vs units four

  pub additions_emptied : (q : Components) (fs : List (Frame F)) (all units : List ℕ) → q.presence.left ≡ 0 → R q fs all units → fs ≡ []
  additions_emptied q fs all units z h =
      let inner : (fs ≡ []) × (h.come ≡ []) = subst (λ (n : ℕ). NextAdditionTook c fc ahead between fs n q.presence.bitmap h.come) z h.inner in
      inner.0

  -- ---- with the next piece

  pub bitmap_goes_on : (p : AdditionBits) (us units : List ℕ) → B p us [] → B p (us ++ units) units
  bitmap_goes_on p us units h =
      let one : RootRead c root S (entries_seen p.entries.items) us h.come = subst (λ (xs : List ℕ). RootRead c root S (entries_seen p.entries.items) us xs) (append-nil h.come) h.root_read in
      record {
        come = h.come;
        root_read = root_stays units one;
        waits = h.waits;
      }

  pub additions_go_on : (q : Components) (fs : List (Frame F)) (us units : List ℕ) → R q fs us [] → R q fs (us ++ units) units
  additions_go_on q fs us units h =
      let rest = drop (N - q.presence.left) (parts_in (fields_seen fields)) in
      let vs = entries_seen q.entries.items in
      let left = q.presence.left in
      let bitmap = q.presence.bitmap in
      record {
        before = h.before;
        rest = h.rest ++ units;
        root_read = root_stays units h.root_read;
        between = h.between ++ units;
        bitmap = done_stays units h.bitmap;
        come = h.come;
        stands = λ further.
            (let one : AddedUpTo c h.before (fields_seen fields) (h.between ++ (units ++ further)) N bitmap rest left vs (h.come ++ (units ++ further)) = subst (λ (xs : List ℕ). AddedUpTo c h.before (fields_seen fields) (h.between ++ (units ++ further)) N bitmap rest left vs (xs ++ (units ++ further))) (append-nil h.come) (h.stands (units ++ further)) in
            let two : AddedUpTo c h.before (fields_seen fields) ((h.between ++ units) ++ further) N bitmap rest left vs (h.come ++ (units ++ further)) = subst (λ (xs : List ℕ). AddedUpTo c h.before (fields_seen fields) xs N bitmap rest left vs (h.come ++ (units ++ further))) (sym (append_assoc h.between units further)) one in
            subst (λ (xs : List ℕ). AddedUpTo c h.before (fields_seen fields) ((h.between ++ units) ++ further) N bitmap rest left vs xs) (sym (append_assoc h.come units further)) two);
        light = λ w b f. h.light w b (λ t present e cs g s l. f t present e cs g s (omega (arith, l, length-append us units)));
        inner = h.inner;
      }

  -- ---- the nodes

  pub took_bitmap : (r : Option (Frame F)) (f : Frame F) (p : AdditionBits) (fs : List (Frame F)) (us : List ℕ)
      → r ≡ Some f → f ≡ frame.Bitmap p → Took c fc ahead between (with_node r fs) (sequence root S) us
      → (fs ≡ []) × B p us []
  took_bitmap r f p fs us e g h = rw (e, g) at h

  pub bitmap_took : (fs : List (Frame F)) (p : AdditionBits) (us : List ℕ) → fs ≡ frame.Bitmap p ∷ [] → B p us []
      → Took c fc ahead between fs (sequence root S) us
  bitmap_took fs p us e w = rw e (refl, w)

  pub took_additions : (r : Option (Frame F)) (f : Frame F) (q : Components) (fs : List (Frame F)) (us : List ℕ)
      → r ≡ Some f → f ≡ frame.Additions q → Took c fc ahead between (with_node r fs) (sequence root S) us → R q fs us []
  took_additions r f q fs us e g h = rw (e, g) at h

  -- ---- after the root

  pub bitmap_starts : (q : Components) (p : AdditionBits) (fs : List (Frame F)) (all units : List ℕ)
      → drop (length q.entries.items) (parts_in root) ≡ [] → RootReached c fc ahead between root S q fs all units
      → q.extended ≡ true → p.entries.items ≡ q.entries.items → p.begun ≡ [] → B p all units
  bitmap_starts q p fs all units e h x ep eb =
      let told : Spells c.ruling.fielding (PreambleOf c (bitmap_length root) (added S)) (true, q.presence.bitmap) all h.between = rw x at h.preamble in
      record {
        come = [];
        root_read = record {
          bitmap = q.presence.bitmap;
          between = h.between;
          preamble = told;
          components = rw ep (root_listed c laws fc ahead between root S good q fs all units e h);
        };
        waits = record { come = ap c.to_units eb ∙ feeds.none; at_unit = rw eb feeds.begin; begins = inl eb };
      }

-- without a mark none is present
pub no_mark : {F : Type 0} (c : Coding) (fc : FieldCoding) (ahead : F → Ahead) (between : F → Type 0) (root : Fields) (ext : Option (Vec Field Global)) (q : Components) (fs : List (Frame F)) (all units : List ℕ)
    → ext ≡ None → q.extended ≡ true → RootReached c fc ahead between root (more_fields_of ext) q fs all units → ⊥
no_mark c fc ahead between root ext q fs all units e x h =
    let can : CanExtend (added (more_fields_of ext)) = h.preamble.spelt.fits.1 x in
    rw e at can

-- ---- one addition, of which it is known whether it is present

module _ {F : Type 0} (c : Coding) (fc : FieldCoding) (ahead : F → Ahead) (between : F → Type 0) (t : Shape) (present : Bool) (fs : List (Frame F)) (us : List ℕ) where
  pub left_out : present ≡ false → AdditionTook c fc ahead between fs present us → (fs ≡ []) × (us ≡ [])
  left_out e h = rw e at h

  pub absent_read : (old : List ℕ) → present ≡ false → us ≡ [] → Spells c.ruling.fielding (AdditionOf c t present) None (us ++ old) old
  absent_read old e z = rw (e, z) (nothing_spells c.ruling.fielding None old)

  pub present_took : present ≡ true → AdditionTook c fc ahead between fs present us → OctetsTook c fc.open_type ahead between fs us
  present_took e h = rw e at h

  pub present_read : (v : Datum) (r : List ℕ) → present ≡ true → Spells c.ruling.fielding (OpenOf c t) v us r
      → Spells c.ruling.fielding (AdditionOf c t present) (Some v) us r
  present_read v r e h = rw e (map_spells {f = Some} h)

  pub present_stops : (why : Stop) → present ≡ true → Stops c.ruling.fielding (OpenOf c t) us why
      → Stops c.ruling.fielding (AdditionOf c t present) us why
  present_stops why e h = rw e (stops_by why (leads_map c.ruling.fielding Some (OpenOf c t) us).stops h)

  pub present_kept : (why : Stop) → present ≡ true → KeepsOctets c fc.open_type ahead between fs us why
      → KeepsOneAddition c fc ahead between fs present us why
  present_kept (stop.Refused n w) e h = tt
  present_kept stop.Short e h = rw e h
  present_kept stop.Memory e h = tt
