-- An open field is read as octets under their general length, of which there is at least one; when all are at hand,
-- they are read as a complete encoding, and one that they are not is refused at the last unit of the field.
use Rattle.std.proofs.Common.{◌≡◌, ◌≢◌, ℕ, List, [], ◌∷◌, length, refl, None, false}
use Rattle.asn_values.specs.Datum.{Datum}
use Rattle.asn_values.specs.Shape.{Shape}
use Rattle.asn_values.specs.Profile.{InProfile}
use Rattle.asn_bits.specs.Numbers.{unpacked}
use Rattle.asn_rules.specs.Chunks.{Chunk, open_field}
use Rattle.asn_rules.specs.Fields.{Octet}
use Rattle.asn_rules.specs.Forks.{Same}
use Rattle.asn_rules.specs.Frames.{Frame}
use Rattle.asn_rules.specs.Languages.{Spells, Refused, SomeContent}
use Rattle.asn_rules.specs.Live.{IsContent}
use Rattle.asn_rules.specs.Reading.{Wholes, Holds}
use Rattle.asn_rules.specs.Stops.{Stops}
use Rattle.asn_rules.specs.declared.stop.Stop.{Stop}
use Rattle.asn_rules.specs.declared.stop.Stop.TheVariants as stop
use Rattle.asn_rules.proofs.Languages.Exits.{stops_field}
use Rattle.asn_rules.proofs.Sealed.Fields.{open_frame, field_spells, field_refused_content}
use Rattle.asn_rules.proofs.Languages.Forks.{same_spells}
use Rattle.asn_rules.proofs.Sealed.Headed.{plain_front}
use Rattle.asn_rules.proofs.Languages.Leads.{LeadsStops}
use Rattle.asn_rules.proofs.Sealed.OpenFields.{holds_whole, holds_no_less, holds_none, holds_no_more}
use Rattle.asn_rules.proofs.Law.SomeValue.{a_value}
use Rattle.asn_per.specs.Kinds.{Sized, OpenValues}
use Rattle.asn_per.specs.Per.{per_fields}
use Rattle.asn_per.specs.Rules.{per_ruling}
use Rattle.asn_per.proofs.Types.OpenFieldLanguages.{open_values_spelled}
use Rattle.asn_per.proofs.Encodings.PerFields.{per_fields_part}
use Rattle.asn_per.proofs.Encodings.Tells.{per_tells}

-- octets, at least one
abbrev pub SomeOctets : List ℕ → List Chunk → Type 0
SomeOctets = Sized (record { low = 1; high = None; extensible = false }) Octet

-- they are spelt as the field is
pub some_octets : Same SomeOctets (Frame per_fields open_field)
some_octets = open_frame per_fields (λ c. refl)

-- and are what such a field may hold
content_of : {os us r : List ℕ} → Spells per_fields SomeOctets os us r → IsContent per_fields open_field os
content_of h = (plain_front (same_spells some_octets h)).1.contents

module _ (t : Shape) (good : InProfile t) where
  -- some octets hold a value
  some_held : SomeContent (Holds per_ruling t)
  some_held =
      let v = a_value t good in
      let s = (open_values_spelled t good).from v.0 _ (record { fits = v.1; same = refl }) in
      record { value = v.0; content = s.content; spelt = s.spelt }

  -- the octets stop
  pub octets_stop : (us : List ℕ) → LeadsStops per_fields SomeOctets us (OpenValues t) us
  octets_stop us = stops_field us per_fields_part some_held some_octets

  -- they hold the value
  pub value_held : {v : Datum} {os us r rest : List ℕ} → Spells per_fields SomeOctets os us r → Spells per_fields (Wholes per_ruling t) v (unpacked os) rest → rest ≡ [] → Spells per_fields (OpenValues t) v us r
  unfolding per_ruling
  value_held {v} {os} h w e = field_spells some_octets h (holds_whole per_ruling per_tells t good os v (content_of h) (rw e at w))

  -- units stand after the value
  pub more_held : {v : Datum} {os us r rest : List ℕ} → Spells per_fields SomeOctets os us r → Spells per_fields (Wholes per_ruling t) v (unpacked os) rest → rest ≢ [] → Refused per_fields (OpenValues t) us (length r)
  unfolding per_ruling
  more_held {v} {os} {rest = []} h w n = absurd (n refl)
  more_held {v} {os} {rest = u ∷ rest} h w n = field_refused_content per_fields_part some_held some_octets h (holds_no_more per_ruling per_tells t good os v u rest (content_of h) w)

  -- they hold none
  pub none_held : {os us r : List ℕ} (why : Stop) → why ≢ stop.Memory → Spells per_fields SomeOctets os us r → Stops per_fields (Wholes per_ruling t) (unpacked os) why → Refused per_fields (OpenValues t) us (length r)
  unfolding per_ruling
  none_held {os} (stop.Refused left w) n h s = field_refused_content per_fields_part some_held some_octets h (holds_none per_ruling per_tells t good os left (content_of h) s.told)
  none_held {os} stop.Short n h s = field_refused_content per_fields_part some_held some_octets h (holds_no_less per_ruling per_tells t good os (content_of h) s.told)
  none_held stop.Memory n h s = absurd (n refl)
