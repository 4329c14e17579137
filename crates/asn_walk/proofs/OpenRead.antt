-- An open field is read as octets; when all have been read, they are read as a whole encoding, and one that they are not is
-- refused at the last unit of the field. A whole encoding is a value and what fills it up.
use Rattle.std.proofs.Common.{◌≡◌, ◌≢◌, ◌-◌, ◌≤◌, ℕ, List, [], ◌∷◌, length, length-append, refl, None, ap, arith}
use Rattle.asn_values.specs.Datum.{Datum}
use Rattle.asn_values.specs.Shape.{Shape}
use Rattle.asn_values.specs.Profile.{InProfile}
use Rattle.asn_rules.specs.Chunks.{Chunk, open_field, flat}
use Rattle.asn_rules.specs.Forks.{Same}
use Rattle.asn_rules.specs.Frames.{Frame}
use Rattle.asn_rules.specs.Languages.{Spells, Refused}
use Rattle.asn_rules.specs.Listed.{Spelt}
use Rattle.asn_rules.specs.Live.{Fielding, IsContent}
use Rattle.asn_rules.specs.Padding.{Fixed}
use Rattle.asn_rules.specs.Reading.{Wholes}
use Rattle.asn_rules.specs.Stops.{Stops}
use Rattle.asn_rules.specs.declared.stop.Stop.{Stop}
use Rattle.asn_rules.specs.declared.stop.Stop.TheVariants as stop
use Rattle.asn_rules.proofs.Languages.Exits.{stops_field, stops_padded, leads_fill}
use Rattle.asn_rules.proofs.Sealed.Fields.{field_spells, field_refused_content}
use Rattle.asn_rules.proofs.Sealed.Headed.{plain_front}
use Rattle.asn_rules.proofs.Languages.Leads.{LeadsStops, Leads, leads_on, leads_same, stops_on}
use Rattle.asn_rules.proofs.Components.Listed.{spelt_lawful}
use Rattle.asn_rules.proofs.Sealed.OpenFields.{holds_whole, holds_no_less, holds_none, holds_no_more}
use Rattle.asn_walk.specs.Coding.{Coding, OpenOf}
use Rattle.asn_walk.specs.Laws.{Laws}
use Rattle.asn_walk.proofs.Parts.{fields_part_of, some_held}

-- octets of a field are read as that field
same_frame : (R : Fielding) → Same (Frame R open_field) (Frame R open_field)
same_frame R = record { to = λ v cs h. h; from = λ v cs h. h }

-- and are what such a field may hold
pub content_of : {R : Fielding} {os us r : List ℕ} → Spells R (Frame R open_field) os us r → IsContent R open_field os
content_of h = (plain_front h).1.contents

module _ (c : Coding) (laws : Laws c) (t : Shape) (good : InProfile t) where
  -- the octets stop
  pub octets_stop : (us : List ℕ) → LeadsStops c.ruling.fielding (Frame c.ruling.fielding open_field) us (OpenOf c t) us
  octets_stop us = stops_field us (fields_part_of c laws) (some_held c laws t good) (same_frame c.ruling.fielding)

  -- they hold the value
  pub value_held : {v : Datum} {os us r rest : List ℕ}
      → Spells c.ruling.fielding (Frame c.ruling.fielding open_field) os us r
      → Spells c.ruling.fielding (Wholes c.ruling t) v (c.ruling.units os) rest → rest ≡ []
      → Spells c.ruling.fielding (OpenOf c t) v us r
  value_held {v} {os} h w e = field_spells (same_frame c.ruling.fielding) h (holds_whole c.ruling laws.tells t good os v (content_of h) (rw e at w))

  -- units follow the value
  pub more_held : {v : Datum} {os us r rest : List ℕ}
      → Spells c.ruling.fielding (Frame c.ruling.fielding open_field) os us r
      → Spells c.ruling.fielding (Wholes c.ruling t) v (c.ruling.units os) rest → rest ≢ []
      → Refused c.ruling.fielding (OpenOf c t) us (length r)
  more_held {v} {os} {rest = []} h w n = absurd (n refl)
  more_held {v} {os} {rest = u ∷ rest} h w n = field_refused_content (fields_part_of c laws) (some_held c laws t good) (same_frame c.ruling.fielding) h (holds_no_more c.ruling laws.tells t good os v u rest (content_of h) w)

  -- they hold none
  pub none_held : {os us r : List ℕ} (why : Stop) → why ≢ stop.Memory
      → Spells c.ruling.fielding (Frame c.ruling.fielding open_field) os us r
      → Stops c.ruling.fielding (Wholes c.ruling t) (c.ruling.units os) why
      → Refused c.ruling.fielding (OpenOf c t) us (length r)
  none_held {os} (stop.Refused left w) n h s = field_refused_content (fields_part_of c laws) (some_held c laws t good) (same_frame c.ruling.fielding) h (holds_none c.ruling laws.tells t good os left (content_of h) s.told)
  none_held {os} stop.Short n h s = field_refused_content (fields_part_of c laws) (some_held c laws t good) (same_frame c.ruling.fielding) h (holds_no_less c.ruling laws.tells t good os (content_of h) s.told)
  none_held stop.Memory n h s = absurd (n refl)

  -- ---- whole encodings

  -- the reader of the value answers for the whole encoding where it stops
  pub value_stops : (us : List ℕ) → LeadsStops c.ruling.fielding (Spelt c.code None t) us (Wholes c.ruling t) us
  value_stops us = stops_on (stops_padded c.ruling.fielding c.padding (Spelt c.code None t) us) (leads_same c.ruling.fielding us (laws.filled t good)).stops

  -- and the reader of what fills it up does
  pub fill_leads : (v : Datum) (us r : List ℕ) → Spells c.ruling.fielding (Spelt c.code None t) v us r
      → Leads c.ruling.fielding (Fixed (c.padding (length us - length r))) r (λ u. v) (Wholes c.ruling t) us
  fill_leads v us r h = leads_on (leads_fill c.padding v (fields_part_of c laws) (spelt_lawful c.code laws.part None t good) h) (leads_same c.ruling.fielding us (laws.filled t good))

-- no more units are left than there were
pub left_fewer : {A : Type 0} {R : Fielding} {L : A → List Chunk → Type 0} {v : A} {us r : List ℕ} → Spells R L v us r
    → length r ≤ length us
left_fewer {R = R} {r = r} h = omega (arith, ap length h.split, length-append (flat R.spelled h.chunks) r)

-- a list of no length
pub length_none : (us : List ℕ) → length us ≡ 0 → us ≡ []
length_none [] e = refl
length_none (u ∷ us) e = absurd (omega arith)
