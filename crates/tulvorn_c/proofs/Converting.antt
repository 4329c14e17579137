-- What is told of octets that have a counterpart by the other rules: it is given, or memory was wanting.
use Rattle.std.proofs.Common.{◌≡◌, ℕ, List, Err, refl}
use Rattle.asn_rules.specs.declared.units.Unit.{Unit}
use Rattle.asn_rules.specs.declared.fault.DecodeFault.TheVariants as decode
use Rattle.asn_constrained.specs.Converted.{GivesUnlessMemory}
use Rattle.asn_constrained.specs.declared.conversion.ConvertFault.{ConvertFault}
use Rattle.asn_constrained.specs.declared.conversion.ConvertFault.TheVariants as fault
use Rattle.asn_constrained.specs.declared.fault.ConstrainedFault.TheVariants as under
use Rattle.tulvorn_c.specs.Faults.{no_memory, of_converted}

-- a fault that is told of them is that of memory
pub memory_alone : (u : Unit) (why : ConvertFault) (p : List ℕ) → GivesUnlessMemory (Err why) p → of_converted u why ≡ no_memory
memory_alone u (fault.Read (under.Type decode.Memory)) p h = refl
memory_alone u fault.Memory p h = refl
memory_alone u (fault.Read (under.Type (decode.Refused at why))) p h = absurd h
memory_alone u (fault.Read (under.Type (decode.Truncated taken))) p h = absurd h
memory_alone u (fault.Read (under.Type (decode.Rest used))) p h = absurd h
memory_alone u (fault.Read (under.Type decode.TooLong)) p h = absurd h
memory_alone u (fault.Read (under.Broken used broken)) p h = absurd h
memory_alone u fault.TooLong p h = absurd h
