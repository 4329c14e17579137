-- How a fault of a length is told by the calls that find the length first.
use Rattle.asn_rules.specs.declared.fault.LengthFault.{LengthFault}
use Rattle.asn_rules.specs.declared.fault.LengthFault.TheVariants as fault
use Rattle.asn_rules.specs.declared.fault.EncodeIntoFault.{EncodeIntoFault}
use Rattle.asn_rules.specs.declared.fault.EncodeIntoFault.TheVariants as into
use Rattle.asn_rules.specs.declared.fault.EncodeToFault.{EncodeToFault}
use Rattle.asn_rules.specs.declared.fault.EncodeToFault.TheVariants as to

abbrev pub length_fault_into : LengthFault → EncodeIntoFault
length_fault_into fault.NotOfType = into.NotOfType
length_fault_into fault.TooLong = into.TooLong

abbrev pub length_fault_to : LengthFault → EncodeToFault
length_fault_to fault.NotOfType = to.NotOfType
length_fault_to fault.TooLong = to.TooLong
