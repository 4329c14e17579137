-- The unit at which octets are refused.
use Rattle.std.specs.Prelude.{◌*◌, ◌-◌, ◌^◌, ℕ, min, Option, Some, None}
use Rattle.asn_rules.specs.declared.fault.DecodeFault.TheVariants as decode
use Rattle.asn_rules.specs.declared.units.Unit.{Unit}
use Rattle.asn_rules.specs.declared.units.Unit.TheVariants as unit
use Rattle.asn_constrained.specs.declared.fault.ConstrainedFault.{ConstrainedFault}
use Rattle.asn_constrained.specs.declared.fault.ConstrainedFault.TheVariants as under

-- how many units so many octets are; at most the greatest number of 64 bits
abbrev pub last_unit : Unit → ℕ → ℕ
last_unit unit.Bit octets = min (octets * 8) (2 ^ 64 - 1)
last_unit unit.Octet octets = octets

-- the unit of a refusal: that of the type alone, or the last of the encoding of a value that breaks the constraint
abbrev pub place_of : Unit → ConstrainedFault → Option ℕ
place_of u (under.Type (decode.Refused at why)) = Some at
place_of u (under.Type fault) = None
place_of u (under.Broken used b) = Some (last_unit u used)
