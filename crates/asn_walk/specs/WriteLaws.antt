-- The laws that the spellings keep: from them follow the writers of all composite kinds.
use Rattle.std.specs.Prelude.{◌≡◌, ◌<◌, ℕ, List, [], ◌++◌, length, map}
use Rattle.std.specs.List.{AllByRecursion}
use Rattle.asn_values.specs.Datum.{Datum, Components, components, component_list, Elements, elements, element_list, alternative}
use Rattle.asn_values.specs.Shape.{SizeRange, Shape, sequence, sequence_of, choice, Fields, MoreFields, Alternatives, MoreAlternatives}
use Rattle.asn_values.specs.Fits.{Fits}
use Rattle.asn_values.specs.Profile.{InProfile}
use Rattle.asn_bits.specs.Numbers.{unpacked}
use Rattle.asn_sinks.specs.Sink.{framed}
use Rattle.asn_sinks.specs.declared.sink.Framing.{Framing}
use Rattle.asn_rules.specs.Chunks.{flat}
use Rattle.asn_walk.specs.Coding.{Coding}
use Rattle.asn_walk.specs.Composites.{sequence_code, choice_code}
use Rattle.asn_walk.specs.Writing.{written, filling_bits}

pub record WriteLaws (c : Coding) : Type 0 where
  -- the bits of units are those of each, one after the other
  pub none : c.to_bits [] ≡ []
  pub joined : (us vs : List ℕ) → c.to_bits (us ++ vs) ≡ c.to_bits us ++ c.to_bits vs
  -- the kinds are put together from the parts
  pub sequences : (root : Fields) (more : MoreFields) (es : Components) → InProfile (sequence root more)
      → Fits (sequence root more) (components es)
      → c.code (sequence root more) (components es) ≡ sequence_code c root more (component_list es)
  pub lists : (t : Shape) (s : SizeRange) (ds : Elements)
      → c.code (sequence_of t s) (elements ds) ≡ c.sized s (map (λ d. c.code t d) (element_list ds))
  pub choices : (root : Alternatives) (more : MoreAlternatives) (tag : ℕ) (d : Datum)
      → c.code (choice root more) (alternative tag d) ≡ choice_code c root more tag d
  -- the octets of a complete encoding are the encoding of the value
  pub complete : (t : Shape) (d : Datum) → InProfile t → Fits t d
      → c.ruling.units (c.complete (c.code t d)) ≡ flat c.ruling.fielding.spelled (c.ruling.whole t d)
  -- as many units are as many octets
  pub long : (o p : List ℕ) → c.ruling.units o ≡ c.ruling.units p → length o ≡ length p

-- what holds of open type fields and of what is in them
pub record OpenLaws (framing : Framing) (c : Coding) : Type 0 where
  -- the spelling of a value and what fills it up are the bits of the octets of its complete encoding
  pub filled : (t : Shape) (d : Datum) → InProfile t → Fits t d
      → written c (c.code t d) ++ filling_bits c (c.code t d) ≡ unpacked (c.complete (c.code t d))
  pub octets : (t : Shape) (d : Datum) → InProfile t → Fits t d → AllByRecursion (λ o. o < 256) (c.complete (c.code t d))
  -- an open type field is spelt as a sink frames it
  pub spelt : (os : List ℕ) → c.to_bits (c.ruling.fielding.spelled os) ≡ framed framing os
