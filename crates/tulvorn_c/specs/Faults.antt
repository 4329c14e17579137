-- What calls answer, as numbers: a code, a reason, a place.
use Rattle.std.specs.Prelude.{ℕ, ◌-◌, Result, Ok, Err}
use Rattle.asn_rules.specs.declared.fault.Why.{Why}
use Rattle.asn_rules.specs.declared.fault.Why.TheVariants as why
use Rattle.asn_rules.specs.declared.fault.DecodeFault.{DecodeFault}
use Rattle.asn_rules.specs.declared.fault.DecodeFault.TheVariants as decode
use Rattle.asn_rules.specs.declared.fault.EncodeFault.{EncodeFault}
use Rattle.asn_rules.specs.declared.fault.EncodeFault.TheVariants as encode
use Rattle.asn_rules.specs.declared.fault.LengthFault.{LengthFault}
use Rattle.asn_rules.specs.declared.fault.LengthFault.TheVariants as long
use Rattle.asn_rules.specs.declared.fault.EncodeIntoFault.{EncodeIntoFault}
use Rattle.asn_rules.specs.declared.fault.EncodeIntoFault.TheVariants as into
use Rattle.asn_rules.specs.declared.units.Unit as units
use Rattle.asn_rules.specs.declared.session.FeedFault.{FeedFault}
use Rattle.asn_rules.specs.declared.session.FeedFault.TheVariants as feed
use Rattle.asn_rules.specs.declared.session.Truncated.{Truncated}
use Rattle.asn_plan.specs.declared.budget.WithinFault.{WithinFault}
use Rattle.asn_plan.specs.declared.budget.WithinFault.TheVariants as within
use Rattle.asn_constrained.specs.Places.{last_unit}
use Rattle.asn_constrained.specs.declared.fault.ConstrainedFault.{ConstrainedFault}
use Rattle.asn_constrained.specs.declared.fault.ConstrainedFault.TheVariants as under
use Rattle.asn_constrained.specs.declared.conversion.ConvertFault.{ConvertFault}
use Rattle.asn_constrained.specs.declared.conversion.ConvertFault.TheVariants as convert
use Rattle.asn_json.specs.declared.fault.JsonFault.{JsonFault}
use Rattle.asn_json.specs.declared.fault.JsonFault.TheVariants as json
use Rattle.asn_newer.specs.declared.fault.NewerFault.{NewerFault}
use Rattle.asn_newer.specs.declared.fault.NewerFault.TheVariants as newer
use Rattle.asn_module.specs.declared.fault.ModuleFault.{ModuleFault}
use Rattle.asn_module.specs.declared.fault.ModuleFault.TheVariants as module_fault
use Rattle.tulvorn_c.specs.declared.fault.Fault.{Fault}

-- a code alone, and one with a place
abbrev pub plain : ℕ → Fault
plain code = record { code = code; why = 0; at = 0 }

abbrev pub placed : ℕ → ℕ → Fault
placed code at = record { code = code; why = 0; at = at }

-- ---- codes

abbrev pub done : Fault
done = plain 0

abbrev pub no_memory : Fault
no_memory = plain 1

abbrev pub misuse : Fault
misuse = plain 2

abbrev pub not_of_type : Fault
not_of_type = plain 11

abbrev pub large_constraint : Fault
large_constraint = plain 23

abbrev pub too_deep : Fault
too_deep = plain 24

abbrev pub too_long : Fault
too_long = plain 6

-- ---- the faults of the library

-- the reason of a refusal in a number
abbrev pub number_of : Why → ℕ
number_of why.Sealed = 1
number_of why.Default = 2
number_of why.Length = 3
number_of why.Extension = 4
number_of why.Character = 5
number_of why.Padding = 6
number_of why.Number = 7

abbrev pub refused : ℕ → Why → Fault
refused at why = record { code = 3; why = number_of why; at = at }

abbrev pub of_decode : DecodeFault → Fault
of_decode (decode.Refused at why) = refused at why
of_decode (decode.Truncated taken) = placed 4 taken
of_decode (decode.Rest used) = placed 5 used
of_decode decode.TooLong = too_long
of_decode decode.Memory = no_memory

-- the value whose encoding so many octets are breaks its constraint: they are refused at their last unit
abbrev pub broken_after : units.Unit → ℕ → Fault
broken_after u octets = record { code = 3; why = 8; at = last_unit u octets }

-- all their units but the last were taken
abbrev pub cut_before : units.Unit → ℕ → Fault
cut_before u octets = placed 4 (last_unit u octets - 1)

abbrev pub of_constrained : units.Unit → ConstrainedFault → Fault
of_constrained u (under.Type why) = of_decode why
of_constrained u (under.Broken used b) = broken_after u used

abbrev pub of_within : WithinFault → Fault
of_within (within.Decode why) = of_decode why
of_within within.OverBudget = plain 22

abbrev pub of_encode : EncodeFault → Fault
of_encode encode.NotOfType = not_of_type
of_encode encode.TooLong = too_long
of_encode encode.Memory = no_memory

abbrev pub of_length : LengthFault → Fault
of_length long.NotOfType = not_of_type
of_length long.TooLong = too_long

-- where the octets are too few, the place is how many are wanted
abbrev pub of_encode_into : EncodeIntoFault → Fault
of_encode_into into.NotOfType = not_of_type
of_encode_into into.TooLong = too_long
of_encode_into (into.Short wanted) = placed 7 wanted

abbrev pub of_converted : units.Unit → ConvertFault → Fault
of_converted u (convert.Read why) = of_constrained u why
of_converted u convert.TooLong = too_long
of_converted u convert.Memory = no_memory

abbrev pub of_json : JsonFault → Fault
of_json (json.Shape path) = plain 13
of_json json.NotOfType = not_of_type
of_json json.Memory = no_memory

abbrev pub of_feed : FeedFault → Fault
of_feed (feed.Refused at why) = refused at why
of_feed feed.TooLong = too_long
of_feed feed.Memory = no_memory
of_feed feed.Spent = plain 20

-- what is told at the end of a session
abbrev pub of_end : Result (Unit {0}) Truncated → Fault
of_end (Ok a) = done
of_end (Err cut) = placed 4 cut.taken

abbrev pub of_newer : NewerFault → Fault
of_newer newer.Refused = plain 16
of_newer newer.Truncated = plain 17
of_newer newer.TooManyAdditions = plain 18
of_newer newer.Memory = no_memory
of_newer newer.TooLong = too_long

-- the reason is the number of the fault, and the place an octet of the text, or 0
abbrev pub no_module : ℕ → ℕ → Fault
no_module why at = record { code = 9; why = why; at = at }

abbrev pub of_module : ModuleFault → Fault
of_module (module_fault.Character at) = no_module 1 at
of_module (module_fault.Unexpected at) = no_module 2 at
of_module (module_fault.Unknown name) = no_module 3 0
of_module (module_fault.Cycle name) = no_module 4 0
of_module (module_fault.Twice name) = no_module 5 0
of_module (module_fault.BadType name fault) = no_module 6 0
of_module (module_fault.OutOfProfile at) = no_module 7 at
of_module (module_fault.TooLarge most size name) = no_module 8 0
of_module module_fault.Memory = no_memory

-- a line of a constraint is none of its type
abbrev pub bad_constraint : Fault
bad_constraint = no_module 9 0
