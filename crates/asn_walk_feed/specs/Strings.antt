-- The types of strings, whose values a reader of messages in pieces judges once all items have come.
use Rattle.std.specs.Prelude.{◌≡◌, ℕ, List, length, None, ⊤}
use Rattle.asn_rules.specs.Languages.{Spells}
use Rattle.asn_rules.specs.Listed.{Spelt}
use Rattle.asn_rules.specs.Stops.{Stops}
use Rattle.asn_rules.specs.declared.stop.Stop.{Stop}
use Rattle.asn_values.specs.Datum.{Datum}
use Rattle.asn_values.specs.Profile.{InProfile}
use Rattle.asn_values.specs.Shape.{Shape, bit_string, octet_string, restricted, utf8_string}
use Rattle.asn_walk.specs.Coding.{Coding}
use Rattle.asn_walk_feed.specs.Octets.{OctetsOf, OctetLaws}
use Rattle.asn_walk_feed.specs.OpenFields.{FieldCoding}

abbrev pub IsString : Shape → Type 0
IsString (bit_string s) = ⊤
IsString (octet_string s) = ⊤
IsString (restricted k s) = ⊤
IsString utf8_string = ⊤
IsString _ = ⊥

-- the laws of their items
pub record StringLaws (c : Coding) (f : FieldCoding) : Type 0 where
  pub items : (t : Shape) → InProfile t → IsString t → OctetLaws c (f.string t)
  -- where a reader of the items stops, so does one of the string
  pub stops : (t : Shape) → InProfile t → IsString t → (us : List ℕ) (why : Stop)
      → Stops c.ruling.fielding (OctetsOf (f.string t)) us why → Stops c.ruling.fielding (Spelt c.code None t) us why

-- in front of whatever units these items stand, a reader of the string reads the value
abbrev pub IsStringOf : Coding → FieldCoding → Shape → List ℕ → Datum → Type 0
IsStringOf c f t items v = (us r : List ℕ) → Spells c.ruling.fielding (OctetsOf (f.string t)) items us r
    → Spells c.ruling.fielding (Spelt c.code None t) v us r

-- or stops, where this many units follow
abbrev pub IsNoString : Coding → FieldCoding → Shape → List ℕ → ℕ → Stop → Type 0
IsNoString c f t items left why = (us r : List ℕ)
    → Spells c.ruling.fielding (OctetsOf (f.string t)) items us r → length r ≡ left
    → Stops c.ruling.fielding (Spelt c.code None t) us why
