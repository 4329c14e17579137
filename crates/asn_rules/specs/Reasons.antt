-- The reason of a refusal and the word for it, and the text of a fault.
use Rattle.std.specs.Prelude.{◌++◌, ℕ, Bool, true, false, List, codes}
use Rattle.std.specs.Fmt.{decimal}
use Rattle.asn_rules.specs.declared.fault.DecodeFault.{DecodeFault}
use Rattle.asn_rules.specs.declared.fault.DecodeFault.TheVariants as decode
use Rattle.asn_rules.specs.declared.units.Unit.{Unit}
use Rattle.asn_rules.specs.declared.units.Unit.TheVariants as unit
use Rattle.asn_rules.specs.declared.fault.Why.{Why}
use Rattle.asn_rules.specs.declared.fault.Why.TheVariants as why

abbrev pub word_of : Why → List ℕ
word_of why.Sealed = codes "sealed"
word_of why.Default = codes "default"
word_of why.Length = codes "length"
word_of why.Extension = codes "extension"
word_of why.Character = codes "character"
word_of why.Padding = codes "padding"
word_of why.Number = codes "number"

-- the reason in a number, where it is told whether one is left out, the DEFAULT of a component
abbrev pub reason_in_number : Bool → Why
reason_in_number true = why.Default
reason_in_number false = why.Number

-- and in the count of octets before a number
abbrev pub reason_in_count : Bool → Why
reason_in_count true = why.Default
reason_in_count false = why.Length

-- what a unit is called
abbrev pub name_of_unit : Unit → List ℕ
name_of_unit unit.Bit = codes "bit"
name_of_unit unit.Octet = codes "octet"

-- the text of a fault, its positions and lengths counted in this unit
abbrev pub text_of_fault : Unit → DecodeFault → List ℕ
text_of_fault u (decode.Refused at why) =
    codes "refused at " ++ (name_of_unit u ++ (codes " " ++ (decimal at ++ (codes ": " ++ word_of why))))
text_of_fault u (decode.Truncated taken) =
    codes "cut short after " ++ (decimal taken ++ (codes " " ++ (name_of_unit u ++ codes "s")))
text_of_fault u (decode.Rest used) = codes "octets left after " ++ decimal used
text_of_fault u decode.TooLong = codes "too long"
text_of_fault u decode.Memory = codes "memory"
