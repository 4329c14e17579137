-- The text of an explanation.
use Rattle.std.specs.Prelude.{◌++◌, ℕ, List, codes}
use Rattle.std.specs.Fmt.{decimal}
use Rattle.asn_rules.specs.Reasons.{word_of}
use Rattle.asn_rules.specs.declared.fault.DecodeFault.{DecodeFault}
use Rattle.asn_rules.specs.declared.fault.DecodeFault.TheVariants as decode

-- the text of a fault in the part to which the path leads, its positions and lengths counted in what this word says
abbrev pub text_in : List ℕ → List ℕ → DecodeFault → List ℕ
text_in unit path (decode.Refused at why) =
    codes "refused at " ++ (unit ++ (codes " " ++ (decimal at ++ (codes " in " ++ (path ++ (codes ": " ++ word_of why))))))
text_in unit path (decode.Truncated taken) =
    codes "cut short after " ++ (decimal taken ++ (codes " " ++ (unit ++ (codes "s in " ++ path))))
text_in unit path (decode.Rest used) = codes "octets left after " ++ decimal used
text_in unit path decode.TooLong = codes "too long in " ++ path
text_in unit path decode.Memory = codes "memory"
