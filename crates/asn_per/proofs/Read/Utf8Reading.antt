-- A UTF8String is read as octets under their general length, which are judged when all have been read.
use Rattle.std.proofs.Common.{ℕ, List, [], length, IsUtf8, refl, None, false, subst, sym, arith}
use Rattle.asn_rules.specs.Chunks.{Chunk, utf8_field}
use Rattle.asn_rules.specs.Fields.{Octet}
use Rattle.asn_rules.specs.Forks.{Same}
use Rattle.asn_rules.specs.Frames.{Frame}
use Rattle.asn_rules.specs.Languages.{Spells, Refused, Sealed, SomeContent}
use Rattle.asn_rules.proofs.Languages.Exits.{stops_field}
use Rattle.asn_rules.proofs.Sealed.Fields.{utf8_frame, field_spells, field_refused_content}
use Rattle.asn_rules.proofs.Numbers.General.{general_counted}
use Rattle.asn_rules.proofs.Languages.Leads.{LeadsStops}
use Rattle.asn_per.specs.Per.{per_fields}
use Rattle.asn_per.specs.Kinds.{Sized, IsUtf8Content}
use Rattle.asn_per.proofs.Encodings.PerFields.{per_fields_part}

-- octets of any number
abbrev pub AnyOctets : List ℕ → List Chunk → Type 0
AnyOctets = Sized (record { low = 0; high = None; extensible = false }) Octet

-- they are spelt as the field is
pub any_octets : Same AnyOctets (Frame per_fields utf8_field)
any_octets = utf8_frame per_fields (λ c. refl)

-- the field may be empty
some_text : SomeContent IsUtf8Content
some_text = record { value = []; content = []; spelt = record { text = ([], (refl, refl)); most = omega arith; same = refl } }

-- the octets stop
pub octets_stop : (us : List ℕ) → LeadsStops per_fields AnyOctets us (Sealed utf8_field IsUtf8Content) us
octets_stop us = stops_field us per_fields_part some_text any_octets

-- they are UTF-8
pub text_spells : {os us r : List ℕ} → IsUtf8 os → Spells per_fields AnyOctets os us r → Spells per_fields (Sealed utf8_field IsUtf8Content) os us r
text_spells t h = field_spells any_octets h (record { text = t; most = (general_counted h.spelt).1; same = refl })

-- they are not
pub no_text : {os us r : List ℕ} → (IsUtf8 os → ⊥) → Spells per_fields AnyOctets os us r → Refused per_fields (Sealed utf8_field IsUtf8Content) us (length r)
no_text {os} never h = field_refused_content per_fields_part some_text any_octets h (λ a d. never (subst IsUtf8 (sym d.same) d.text))
