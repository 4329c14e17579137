use Rattle.std.proofs.Common.{refl, arith}
use Rattle.asn_bits.specs.Numbers.{packed, unpacked}
use Rattle.asn_bits.proofs.Splits.{length-unpacked}
use Rattle.asn_rules.specs.Fields.{octet_fields}
use Rattle.asn_rules.specs.Languages.{Spells}
use Rattle.asn_rules.specs.OctetStrings.{PackedBits}
use Rattle.asn_rules.specs.Stops.{Stops}
use Rattle.asn_rules.specs.declared.stop.Stop.TheVariants as stop
use Rattle.asn_oer.proofs.InPieces.PackedAgain.{packed_whole, packed_none}
use Rattle.asn_oer.proofs.bit_items.packed_bits.Goals as goal

pub read_packed-requires : goal.read_packed-requires
read_packed-requires c = record { at_octet = rw c.over-units.ensures (omega (arith, length-unpacked c.args.octets.now)) }

pub returns-in-Ok-clause-done : goal.returns-in-Ok-clause-done
returns-in-Ok-clause-done c =
    let h : Spells octet_fields (PackedBits c.args.count) c.in-Ok.bits.items (packed (unpacked c.args.octets.now)) (packed c.read_packed.new.units) = rw c.over-units.ensures at c.in-Ok.ensures.done in
    packed_whole c.args.count c.args.octets.now c.are_octets.ensures c.in-Ok.bits.items (packed c.read_packed.new.units) c.requires.filled h

pub returns-in-Err-Short-clause-stop : goal.returns-in-Err-Short-clause-stop
returns-in-Err-Short-clause-stop c =
    let h : Stops octet_fields (PackedBits c.args.count) (packed (unpacked c.args.octets.now)) stop.Short = rw (c.over-units.ensures, c.in-Err-Short.field-0-is) at c.in-Err-Short.ensures.stop in
    (refl, packed_none c.args.count c.args.octets.now c.are_octets.ensures h.told.none)

pub returns-in-Err-Refused-clause-stop : goal.returns-in-Err-Refused-clause-stop
returns-in-Err-Refused-clause-stop c =
    let h : Stops octet_fields (PackedBits c.args.count) (packed (unpacked c.args.octets.now)) (stop.Refused c.in-Err-Refused.field-0-0 c.in-Err-Refused.field-0-1) = rw (c.over-units.ensures, c.in-Err-Refused.field-0-is) at c.in-Err-Refused.ensures.stop in
    (refl, packed_none c.args.count c.args.octets.now c.are_octets.ensures h.told.none)
