-- Where the reader of the extension additions of a SEQUENCE stands.
use Rattle.std.proofs.Common.{◌≡◌, ◌≤◌, ◌<◌, ◌+◌, ◌/◌, ◌%◌, ◌^◌, ℕ, zero, suc, List, [], ◌∷◌, ◌++◌, length, map, Option, Some, None, refl, sym, ap, subst, ◌∙◌, arith, append_assoc}
use Rattle.std.proofs.lemmas.List.{append-nil, length-map}
use Rattle.asn_values.specs.Datum.{Datum}
use Rattle.asn_values.specs.Shape.{Shape, Fields, no_fields, field, demands}
use Rattle.asn_values.specs.Parts.{AreOfProfile}
use Rattle.asn_values.specs.Profile.{InProfile}
use Rattle.asn_values.specs.View.{Part, fields_of, part_of_field, fields_seen}
use Rattle.asn_values.specs.declared.types.Field.{Field}
use Rattle.asn_values.proofs.Entries.{length-demands}
use Rattle.asn_bits.specs.Numbers.{bits}
use Rattle.asn_bits.proofs.Octets.{length-digits}
use Rattle.asn_bits.proofs.Widths.{lt-two_pow}
use Rattle.asn_rules.specs.Chunks.{Chunk}
use Rattle.asn_rules.specs.General.{after_first}
use Rattle.asn_rules.specs.Live.{Fielding}
use Rattle.asn_rules.specs.Languages.{Spells, Inhabited, Then, Map, prepended}
use Rattle.asn_rules.proofs.Languages.Leads.{LeadsStops, Leads, leads_here, leads_on, leads_map, leads_second, stops_first, stops_on}
use Rattle.asn_rules.proofs.Languages.Standing.{StandsIn, stands_here, stands_on, stands_map, stands_first, stands_second}
use Rattle.asn_rules.proofs.Components.ListedReading.{leads_entry, nothing_read}
use Rattle.asn_rules.proofs.Languages.Parts.{map_inhabited, map_lawful, map_source, map_spells, nothing_inhabited}
use Rattle.asn_rules.proofs.Languages.Then.{Follows, then_inhabited}
use Rattle.asn_walk.specs.Coding.{Coding, AdditionBitmapOf, OpenOf, OpenListed, AdditionsOf}
use Rattle.asn_walk.specs.Laws.{Laws}
use Rattle.asn_walk.specs.Reading.{After}
use Rattle.asn_walk.proofs.Parts.{fields_part_of, open_lawful, open_inhabited, count_of_fields}

-- ---- the additions under their presence bits

-- one that is present, and those after it
abbrev Present : Coding → Shape → (List (Option Datum) → List Chunk → Type 0) → List (Option Datum) → List Chunk
    → Type 0
Present c t M = Map prepended (Then (Map Some (OpenOf c t)) (λ _. M))

-- whatever the bits are, additions have entries
pub open_listed_inhabited : (c : Coding) (laws : Laws c) (fs : Fields) (bs : List ℕ) → AreOfProfile fs
    → length bs ≡ length (demands fs) → Inhabited (OpenListed c fs bs)
open_listed_inhabited c laws no_fields bs good l = nothing_inhabited []
open_listed_inhabited c laws (field name demand t fs) [] good l = absurd (omega arith)
open_listed_inhabited c laws (field name demand t fs) (zero ∷ bs) good l = map_inhabited (open_listed_inhabited c laws fs bs good.2 (omega arith))
open_listed_inhabited c laws (field name demand t fs) (suc b ∷ bs) good l =
    map_inhabited (then_inhabited (map_inhabited (open_inhabited c laws t good.0)) (record { follow = λ v cs h. open_listed_inhabited c laws fs bs good.2 (omega arith) }))

-- ---- their presence bits

module _ (c : Coding) (laws : Laws c) (fs : Fields) (good : AreOfProfile fs) where
  -- after the presence bits stand open fields
  bitmap_follows : Follows (AdditionBitmapOf c (length (demands fs)))
      (λ b. OpenListed c fs (bits (length (demands fs)) b))
  bitmap_follows = record { follow = λ b cs h. open_listed_inhabited c laws fs (bits (length (demands fs)) b) good (length-digits 2 (length (demands fs)) b) }

  -- some addition is spelt
  pub some_additions : 0 < length (demands fs) → Inhabited (AdditionsOf c fs)
  some_additions some = map_inhabited (then_inhabited (record { value = 1; chunks = _; spelt = record { fits = (omega arith, omega (arith, some, lt-two_pow (length (demands fs)))); same = refl } }) bitmap_follows)

  -- the bitmap stands in front, and after it the open fields
  pub bitmap_stands : (us : List ℕ)
      → StandsIn c.ruling.fielding (AdditionBitmapOf c (length (demands fs))) us (AdditionsOf c fs) us
  bitmap_stands us = stands_on (stands_first c.ruling.fielding us bitmap_follows) (stands_map c.ruling.fielding after_first (Then (AdditionBitmapOf c (length (demands fs))) (λ b. OpenListed c fs (bits (length (demands fs)) b))) us)

  pub open_stands : (b : ℕ) (us r : List ℕ) → Spells c.ruling.fielding (AdditionBitmapOf c (length (demands fs))) b us r
      → StandsIn c.ruling.fielding (OpenListed c fs (bits (length (demands fs)) b)) r (AdditionsOf c fs) us
  open_stands b us r h =
      stands_on (stands_second {M = λ b. OpenListed c fs (bits (length (demands fs)) b)} h)
      (stands_map c.ruling.fielding after_first (Then (AdditionBitmapOf c (length (demands fs))) (λ b. OpenListed c fs (bits (length (demands fs)) b))) us)

  -- within the bitmap
  bitmap_stops : (us : List ℕ)
      → LeadsStops c.ruling.fielding (AdditionBitmapOf c (length (demands fs))) us (AdditionsOf c fs) us
  bitmap_stops us = stops_on (stops_first c.ruling.fielding us bitmap_follows) (leads_map c.ruling.fielding after_first (Then (AdditionBitmapOf c (length (demands fs))) (λ b. OpenListed c fs (bits (length (demands fs)) b))) us).stops

  -- after it
  bitmap_leads : (b : ℕ) (us r : List ℕ) → Spells c.ruling.fielding (AdditionBitmapOf c (length (demands fs))) b us r
      → Leads c.ruling.fielding (OpenListed c fs (bits (length (demands fs)) b)) r (λ es. es) (AdditionsOf c fs) us
  bitmap_leads b us r h =
      leads_on (leads_second {M = λ b. OpenListed c fs (bits (length (demands fs)) b)} (fields_part_of c laws) (laws.addition_bitmap (length (demands fs))) h)
      (leads_map c.ruling.fielding after_first (Then (AdditionBitmapOf c (length (demands fs))) (λ b. OpenListed c fs (bits (length (demands fs)) b))) us)

-- ---- where the reader stands

-- the entries that were there before, those that were read of all additions, and what is read of the other additions
pub record AddedUpTo (c : Coding) (before : List (Option Datum)) (all : Fields) (us : List ℕ) (count bitmap : ℕ) (rest : List Part) (left : ℕ) (entries : List (Option Datum)) (vs : List ℕ) : Type 0 where
  pub of_profile : AreOfProfile (fields_of rest)
  pub width : left ≡ length rest
  pub few : left ≤ 64
  pub read : List (Option Datum)
  pub after : entries ≡ before ++ read
  pub leads : Leads c.ruling.fielding (OpenListed c (fields_of rest) (bits left bitmap)) vs (λ es. read ++ es)
      (OpenListed c all (bits count bitmap)) us
  pub stands : StandsIn c.ruling.fielding (OpenListed c (fields_of rest) (bits left bitmap)) vs
      (OpenListed c all (bits count bitmap)) us

-- none was read
pub added_starts : (c : Coding) (before : List (Option Datum)) (fields : List Field) (count bitmap : ℕ) (us : List ℕ)
    → AreOfProfile (fields_seen fields) → count ≡ length fields → count ≤ 64
    → AddedUpTo c before (fields_seen fields) us count bitmap (map part_of_field fields) count before us
added_starts c before fields count bitmap us good e few = record {
  of_profile = good;
  width = e ∙ sym (length-map fields part_of_field);
  few = few;
  read = [];
  after = sym (append-nil before);
  leads = leads_here c.ruling.fielding (OpenListed c (fields_seen fields) (bits count bitmap)) us;
  stands = stands_here c.ruling.fielding (OpenListed c (fields_seen fields) (bits count bitmap)) us;
}

module _ (c : Coding) (laws : Laws c) (fields : List Field) (good : AreOfProfile (fields_seen fields)) where
  each : length fields ≡ length (demands (fields_seen fields))
  each = sym (count_of_fields fields)

  -- within the presence bitmap
  pub presence_stops_at : (us : List ℕ)
      → LeadsStops c.ruling.fielding (AdditionBitmapOf c (length fields)) us (AdditionsOf c (fields_seen fields)) us
  presence_stops_at us = rw each (bitmap_stops c laws (fields_seen fields) good us)

  -- after it stand the open fields
  pub open_fields_lead : (b : ℕ) (us vs : List ℕ)
      → Spells c.ruling.fielding (AdditionBitmapOf c (length fields)) b us vs
      → Leads c.ruling.fielding (OpenListed c (fields_seen fields) (bits (length fields) b)) vs (λ es. es)
      (AdditionsOf c (fields_seen fields)) us
  open_fields_lead b us vs g = rw each (bitmap_leads c laws (fields_seen fields) good b us vs (rw each at g))

-- the bits that are left begin with that of the next addition
next_bit : (left after bitmap bit : ℕ) → after + 1 ≡ left → bit ≡ bitmap / 2 ^ after % 2
    → bits left bitmap ≡ bit ∷ bits after bitmap
next_bit left after bitmap bit d b =
    let l : left ≡ suc after = omega (arith, d) in
    ap (λ (n : ℕ). bits n bitmap) l ∙ ap (λ (x : ℕ). x ∷ bits after bitmap) (sym b)

some_same : (v w : Datum) → Some v ≡ Some w → v ≡ w
some_same v w e = cc

module _ (c : Coding) (laws : Laws c) {before : List (Option Datum)} {all : Fields} {us : List ℕ} {count bitmap : ℕ} {p : Part} {rest : List Part} {left : ℕ} {entries : List (Option Datum)} {vs : List ℕ} (h : AddedUpTo c before all us count bitmap (p ∷ rest) left entries vs) where
  -- a presence bit is left for it
  pub addition_bit : 0 < left
  addition_bit = omega (arith, h.width)

  -- it is of the profile
  pub addition_good : InProfile p.shape
  addition_good = h.of_profile.0

  module _ (after : ℕ) (d : after + 1 ≡ left) where
    others : after ≡ length rest
    others = omega (arith, d, h.width)

    -- the additions after it have entries
    rest_inhabited : Inhabited (OpenListed c (fields_of rest) (bits after bitmap))
    rest_inhabited = open_listed_inhabited c laws (fields_of rest) (bits after bitmap) h.of_profile.2 (length-digits 2 after bitmap ∙ others ∙ sym (length-demands rest))

    module _ (b : 1 ≡ bitmap / 2 ^ after % 2) where
      present_leads : Leads c.ruling.fielding (Present c p.shape (OpenListed c (fields_of rest) (bits after bitmap))) vs
          (λ es. h.read ++ es) (OpenListed c all (bits count bitmap)) us
      present_leads = let f = next_bit left after bitmap 1 d b in rw f at h.leads

      present_stands : StandsIn c.ruling.fielding (Present c p.shape (OpenListed c (fields_of rest) (bits after bitmap))) vs
          (OpenListed c all (bits count bitmap)) us
      present_stands = let f = next_bit left after bitmap 1 d b in rw f at h.stands

      -- its open field stands there
      pub addition_stands : StandsIn c.ruling.fielding (OpenOf c p.shape) vs (OpenListed c all (bits count bitmap)) us
      addition_stands =
          stands_on (stands_map c.ruling.fielding Some (OpenOf c p.shape) vs)
          (stands_on (stands_first c.ruling.fielding vs (record { follow = λ v cs g. rest_inhabited }))
          (stands_on (stands_map c.ruling.fielding prepended (Then (Map Some (OpenOf c p.shape)) (λ _. OpenListed c (fields_of rest) (bits after bitmap))) vs) present_stands))

      -- within its open field
      pub addition_stops : LeadsStops c.ruling.fielding (OpenOf c p.shape) vs (OpenListed c all (bits count bitmap)) us
      addition_stops =
          stops_on (leads_map c.ruling.fielding Some (OpenOf c p.shape) vs).stops
          (stops_on (stops_first c.ruling.fielding vs (record { follow = λ v cs g. rest_inhabited }))
          (stops_on (leads_map c.ruling.fielding prepended (Then (Map Some (OpenOf c p.shape)) (λ _. OpenListed c (fields_of rest) (bits after bitmap))) vs).stops present_leads.stops))

      -- and after it
      pub addition_present : (v : Datum) (r : List ℕ) → Spells c.ruling.fielding (OpenOf c p.shape) v vs r
          → AddedUpTo c before all us count bitmap rest after (entries ++ Some v ∷ []) r
      addition_present v r g = record {
        of_profile = h.of_profile.2;
        width = others;
        few = omega (arith, d, h.few);
        read = h.read ++ Some v ∷ [];
        after = ap (λ (es : List (Option Datum)). es ++ Some v ∷ []) h.after ∙ append_assoc before h.read (Some v ∷ []);
        leads =
            leads_entry h.read (Some v)
            (leads_on (leads_second {M = λ _. OpenListed c (fields_of rest) (bits after bitmap)} (fields_part_of c laws) (map_lawful some_same (open_lawful c laws p.shape h.of_profile.0)) (map_spells {f = Some} g))
            (leads_map c.ruling.fielding prepended (Then (Map Some (OpenOf c p.shape)) (λ _. OpenListed c (fields_of rest) (bits after bitmap))) vs))
            present_leads;
        stands =
            stands_on (stands_on (stands_second {M = λ _. OpenListed c (fields_of rest) (bits after bitmap)} (map_spells {f = Some} g))
            (stands_map c.ruling.fielding prepended (Then (Map Some (OpenOf c p.shape)) (λ _. OpenListed c (fields_of rest) (bits after bitmap))) vs))
            present_stands;
      }

    -- it is absent
    pub addition_absent : 0 ≡ bitmap / 2 ^ after % 2
        → AddedUpTo c before all us count bitmap rest after (entries ++ None ∷ []) vs
    addition_absent b =
        let f = next_bit left after bitmap 0 d b in
        let l : Leads c.ruling.fielding (Map (λ es. None ∷ es) (OpenListed c (fields_of rest) (bits after bitmap))) vs (λ es. h.read ++ es) (OpenListed c all (bits count bitmap)) us = rw f at h.leads in
        let there : StandsIn c.ruling.fielding (Map (λ es. None ∷ es) (OpenListed c (fields_of rest) (bits after bitmap))) vs (OpenListed c all (bits count bitmap)) us = rw f at h.stands in
        record {
          of_profile = h.of_profile.2;
          width = others;
          few = omega (arith, d, h.few);
          read = h.read ++ None ∷ [];
          after = ap (λ (es : List (Option Datum)). es ++ None ∷ []) h.after ∙ append_assoc before h.read (None ∷ []);
          leads = leads_entry h.read None (leads_map c.ruling.fielding (λ es. None ∷ es) (OpenListed c (fields_of rest) (bits after bitmap)) vs) l;
          stands = stands_on (stands_map c.ruling.fielding (λ es. None ∷ es) (OpenListed c (fields_of rest) (bits after bitmap)) vs) there;
        }

-- no addition is left: all entries are read
pub added_ends : (c : Coding) {before : List (Option Datum)} {all : Fields} {us : List ℕ} {count bitmap : ℕ}
    {rest : List Part} {left : ℕ} {entries : List (Option Datum)} {vs : List ℕ}
    → AddedUpTo c before all us count bitmap rest left entries vs → rest ≡ []
    → Spells c.ruling.fielding (After before (OpenListed c all (bits count bitmap))) entries us vs
added_ends c {before} {all} {us} {count} {bitmap} {rest} {left} {entries} {vs} h e =
    let l : Leads c.ruling.fielding (OpenListed c no_fields (bits left bitmap)) vs (λ es. h.read ++ es) (OpenListed c all (bits count bitmap)) us = rw e at h.leads in
    let read : Spells c.ruling.fielding (OpenListed c all (bits count bitmap)) h.read us vs = subst (λ (es : List (Option Datum)). Spells c.ruling.fielding (OpenListed c all (bits count bitmap)) es us vs) (append-nil h.read) (l.done [] vs (nothing_read c.ruling.fielding [] vs)) in
    rw h.after (map_spells {f = λ es. before ++ es} read)

-- what was read after others, under a language that leads to another
pub after_leads : {A : Type 0} {R : Fielding} {L M : List A → List Chunk → Type 0} (before : List A) {es : List A}
    {us vs r : List ℕ} → Leads R L vs (λ ws. ws) M us → Spells R (After before L) es vs r
    → Spells R (After before M) es us r
after_leads before {r = r} l h =
    let w = map_source h in
    rw w.2 (map_spells {f = λ ws. before ++ ws} (l.done w.0 r w.1))

-- after nothing
pub after_nothing : {A : Type 0} {R : Fielding} {L : List A → List Chunk → Type 0} {es : List A} {us r : List ℕ}
    → Spells R (After [] L) es us r → Spells R L es us r
after_nothing h =
    let w = map_source h in
    rw w.2 w.1
