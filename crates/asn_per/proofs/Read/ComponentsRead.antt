-- Where the reader of the components of a SEQUENCE stands.
use Rattle.std.proofs.Common.{◌≡◌, ◌≤◌, ◌<◌, ◌+◌, ◌/◌, ◌%◌, ◌^◌, ℕ, suc, ℤ, Bool, true, false, List, [], ◌∷◌, ◌++◌, length, map, drop, get_or, Option, Some, None, refl, sym, rules, ap, subst, ◌∙◌, arith}
use Rattle.std.proofs.lemmas.List.{append-nil, drop_all}
use Rattle.std.proofs.Math.Seq.{drop-cons}
use Rattle.std.proofs.Math.Numerals.{add-one}
use Rattle.asn_values.specs.declared.types.Field.{Field}
use Rattle.asn_values.specs.Datum.{Datum, number, components, components_of}
use Rattle.asn_values.specs.Shape.{Shape, sequence, closed, Demand, must, optional, default, Fields, no_fields, field}
use Rattle.asn_values.specs.Parts.{AreOfProfile, IsGoodDemand}
use Rattle.asn_values.specs.Profile.{InProfile}
use Rattle.asn_values.specs.View.{Part, fields_of, part_of_field, shape_of, demand_of, datum_of}
use Rattle.asn_values.specs.declared.types.AsnType.{the_lemmas}
use Rattle.asn_values.specs.declared.value.Value as values
use Rattle.asn_values.specs.declared.value.Value.TheVariants as value
use Rattle.asn_values.proofs.Components.{shape_of_part}
use Rattle.asn_bits.specs.Numbers.{bits}
use Rattle.asn_bits.specs.Sink.{bit_of}
use Rattle.asn_bits.proofs.Octets.{length-digits}
use Rattle.asn_rules.specs.Components.{has_presence_bit}
use Rattle.asn_rules.specs.Languages.{Spells, Plain}
use Rattle.asn_bits.specs.Sets.{InSet}
use Rattle.asn_rules.specs.Listed.{Spelt, Listed, Entry, default_of, bitmap_length}
use Rattle.asn_rules.proofs.Languages.Leads.{LeadsStops, Leads, leads_here, leads_map, stops_on}
use Rattle.asn_rules.proofs.Components.ListedReading.{Steps, steps_must, steps_bit, leads_entry, nothing_read}
use Rattle.asn_per.specs.Per.{per, per_fields}
use Rattle.asn_rules.specs.NumberSets.{Admits, up_to}
use Rattle.asn_per.proofs.Types.SequenceLanguage.{bitmap_stops, components_leads}
use Rattle.asn_per.proofs.Encodings.PerFields.{per_fields_part}
use Rattle.asn_per.proofs.Encodings.Whole.{per_parts}

-- ---- the components that are left

-- the next one, and those after it
pub next_part : (fields : List Field) (i : ℕ) (x : Field) → i < length fields → x ≡ get_or fields i x → map part_of_field (drop i fields) ≡ part_of_field x ∷ map part_of_field (drop (i + 1) fields)
next_part fields i x h e =
    let split : drop i fields ≡ x ∷ drop (i + 1) fields = rw (add-one, drop-cons fields i x h, ← e) refl in
    ap (map part_of_field) split

-- past the last
pub no_part : (fields : List Field) (i : ℕ) → length fields ≤ i → map part_of_field (drop i fields) ≡ []
no_part fields i h = ap (map part_of_field) (drop_all i fields h)

-- ---- presence bits

-- a component with a presence bit has one more
width_more : (name : List ℕ) (demand : Demand) (t : Shape) (fs : Fields) → has_presence_bit demand ≡ true → bitmap_length (field name demand t fs) ≡ suc (bitmap_length fs)
width_more name must t fs h = absurd (cc)
width_more name optional t fs h = refl
width_more name (default d) t fs h = refl

width_same : (name : List ℕ) (demand : Demand) (t : Shape) (fs : Fields) → has_presence_bit demand ≡ false → bitmap_length (field name demand t fs) ≡ bitmap_length fs
width_same name must t fs h = refl
width_same name optional t fs h = absurd (cc)
width_same name (default d) t fs h = absurd (cc)

-- that many presence bits are counted, and the components that are left have the others
pub record WidthKnown (all left : List Part) (count : ℕ) : Type 0 where
  pub known : count + bitmap_length (fields_of left) ≡ bitmap_length (fields_of all)
  pub few : count + length left ≤ length all

pub width_starts : (all : List Part) → WidthKnown all all 0
width_starts all = record { known = omega arith; few = omega arith }

pub width_counts : {all left : List Part} {p : Part} {count : ℕ} → WidthKnown all (p ∷ left) count → has_presence_bit p.demand ≡ true → WidthKnown all left (count + 1)
width_counts {left = left} {p = p} {count = count} h e = record { known = omega (arith, h.known, width_more p.name p.demand p.shape (fields_of left) e); few = omega (arith, h.few) }

pub width_passes : {all left : List Part} {p : Part} {count : ℕ} → WidthKnown all (p ∷ left) count → has_presence_bit p.demand ≡ false → WidthKnown all left count
width_passes {left = left} {p = p} {count = count} h e = record { known = omega (arith, h.known, width_same p.name p.demand p.shape (fields_of left) e); few = omega (arith, h.few) }

pub width_ends : {all left : List Part} {count : ℕ} → WidthKnown all left count → left ≡ [] → count ≡ bitmap_length (fields_of all)
width_ends {count = count} h e = let k = rw e at h.known in omega (arith, k)

-- ---- the components

-- the entries of the components that have been read, and what is read of those that are left
pub record ReadUpTo (all : List Part) (count bitmap : ℕ) (us : List ℕ) (rest : List Part) (left : ℕ) (entries : List (Option Datum)) (vs : List ℕ) : Type 0 where
  pub of_profile : AreOfProfile (fields_of rest)
  pub width : left ≡ bitmap_length (fields_of rest)
  pub few : left ≤ 64
  pub leads : Leads per_fields (Listed per (fields_of rest) (bits left bitmap)) vs (λ es. entries ++ es) (Listed per (fields_of all) (bits count bitmap)) us

pub read_starts : (all : List Part) (count bitmap : ℕ) (us : List ℕ) → AreOfProfile (fields_of all) → count ≡ bitmap_length (fields_of all) → count ≤ 64 → ReadUpTo all count bitmap us all count [] us
read_starts all count bitmap us h e f = record { of_profile = h; width = e; few = f; leads = leads_here per_fields (Listed per (fields_of all) (bits count bitmap)) us }

-- what is read of the next component
pub record ReadNext (all : List Part) (count bitmap : ℕ) (us : List ℕ) (p : Part) (rest : List Part) (left : ℕ) (present : Bool) (entries : List (Option Datum)) (vs : List ℕ) : Type 0 where
  pub of_profile : InProfile p.shape
  pub good : IsGoodDemand p.demand p.shape
  pub stops : LeadsStops per_fields (Entry per p.demand p.shape present) vs (Listed per (fields_of all) (bits count bitmap)) us
  pub more : (e : Option Datum) (r : List ℕ) → Spells per_fields (Entry per p.demand p.shape present) e vs r → ReadUpTo all count bitmap us rest left (entries ++ e ∷ []) r

module _ {all : List Part} {count bitmap : ℕ} {us : List ℕ} {p : Part} {rest : List Part} {left : ℕ} {entries : List (Option Datum)} {vs : List ℕ} (h : ReadUpTo all count bitmap us (p ∷ rest) left entries vs) where
  next : (present : Bool) (after : ℕ) → after ≡ bitmap_length (fields_of rest) → after ≤ 64
      → Steps per per_parts per_fields per_fields_part p.demand p.shape present (Listed per (fields_of rest) (bits after bitmap)) (Listed per (fields_of (p ∷ rest)) (bits left bitmap))
      → ReadNext all count bitmap us p rest after present entries vs
  next present after e f s = record {
    of_profile = h.of_profile.0;
    good = h.of_profile.1;
    stops = stops_on (s.stops vs) h.leads.stops;
    more = λ x r k. record { of_profile = h.of_profile.2; width = e; few = f; leads = leads_entry entries x (s.done x vs r k) h.leads };
  }

  -- it has to be there
  pub next_must : has_presence_bit p.demand ≡ false → ReadNext all count bitmap us p rest left true entries vs
  next_must e =
      let w : left ≡ bitmap_length (fields_of rest) = h.width ∙ width_same p.name p.demand p.shape (fields_of rest) e in
      next true left w h.few (steps_must per per_parts per_fields per_fields_part p.name p.demand p.shape (fields_of rest) (bits left bitmap) e h.of_profile (length-digits 2 left bitmap ∙ w))

  -- a presence bit is left for it
  pub bit_there : has_presence_bit p.demand ≡ true → 0 < left
  bit_there e = omega (arith, h.width, width_more p.name p.demand p.shape (fields_of rest) e)

  -- that bit says whether it is there
  pub next_bit : has_presence_bit p.demand ≡ true → (present : Bool) (after : ℕ) → after + 1 ≡ left → bit_of present ≡ bitmap / 2 ^ after % 2 → ReadNext all count bitmap us p rest after present entries vs
  next_bit e present after d b =
      let w : after ≡ bitmap_length (fields_of rest) = omega (arith, d, h.width, width_more p.name p.demand p.shape (fields_of rest) e) in
      let l : left ≡ suc after = omega (arith, d) in
      let f : bits left bitmap ≡ bit_of present ∷ bits after bitmap = ap (λ (n : ℕ). bits n bitmap) l ∙ ap (λ (x : ℕ). x ∷ bits after bitmap) (sym b) in
      let s = steps_bit per per_parts per_fields per_fields_part p.name p.demand p.shape (fields_of rest) present (bits after bitmap) e h.of_profile (length-digits 2 after bitmap ∙ w) in
      next present after w (omega (arith, d, h.few)) (rw f s)

  pub next_either : (present : Bool) (after : ℕ) → (has_presence_bit p.demand ≡ false → (present ≡ true) × (after ≡ left))
      → (has_presence_bit p.demand ≡ true → (after + 1 ≡ left) × (bit_of present ≡ bitmap / 2 ^ after % 2)) → ReadNext all count bitmap us p rest after present entries vs
  next_either present after f g = go (has_presence_bit p.demand) refl
    where
      go : (b : Bool) → has_presence_bit p.demand ≡ b → ReadNext all count bitmap us p rest after present entries vs
      go false e = let w = f e in rw (w.0, w.1) (next_must e)
      go true e = let w = g e in next_bit e present after w.0 w.1

-- no component is left: all entries are read
pub read_ends : {all rest : List Part} {count bitmap left : ℕ} {us vs : List ℕ} {entries : List (Option Datum)} → ReadUpTo all count bitmap us rest left entries vs → rest ≡ [] → Spells per_fields (Listed per (fields_of all) (bits count bitmap)) entries us vs
read_ends {all} {rest} {count} {bitmap} {left} {us} {vs} {entries} h e =
    let l : Leads per_fields (Listed per no_fields (bits left bitmap)) vs (λ es. entries ++ es) (Listed per (fields_of all) (bits count bitmap)) us = rw e at h.leads in
    subst (λ (es : List (Option Datum)). Spells per_fields (Listed per (fields_of all) (bits count bitmap)) es us vs) (append-nil entries) (l.done [] vs (nothing_read per_fields [] vs))

-- ---- one component

-- whether it has to be there, in the program's terms
pub demand_of_part : (x : Field) → (part_of_field x).demand ≡ demand_of x.need
demand_of_part x = search (rules, the_lemmas)

-- an integer as a value
pub datum_of-Int : (z : ℤ) → datum_of (value.Int z) ≡ number z
datum_of-Int z = search (rules, values.the_lemmas)

-- where it is there, its value is read but for its DEFAULT
pub entry_leads : (x : Field) (present : Bool) (e : Option Datum) (us : List ℕ) → present ≡ true → default_of (part_of_field x).demand ≡ e
    → Leads per_fields (Spelt per e (shape_of x.ty)) us Some (Entry per (part_of_field x).demand (part_of_field x).shape present) us
entry_leads x present e us p d = rw (p, d, shape_of_part x) (leads_map per_fields Some (Spelt per e (shape_of x.ty)) us)

-- ---- the SEQUENCE

module _ (fs : Fields) (good : AreOfProfile fs) (count high : ℕ) (is : count ≡ bitmap_length fs) (all : high + 1 ≡ 2 ^ count) where
  -- within the presence bitmap
  pub bitmap_stops_at : (us : List ℕ) → LeadsStops per_fields (Plain (InSet count (λ n. Admits (up_to high None) n))) us (Spelt per None (sequence fs closed)) us
  bitmap_stops_at us = rw is (bitmap_stops fs high good (rw is at all) us)

  -- after it
  pub components_at : (n : ℕ) (us r : List ℕ) → Spells per_fields (Plain (InSet count (λ m. Admits (up_to high None) m))) n us r
      → Leads per_fields (Listed per fs (bits count n)) r (λ es. components (components_of es)) (Spelt per None (sequence fs closed)) us
  components_at n us r h = rw is (components_leads fs high good (rw is at all) n us r (rw is at h))
