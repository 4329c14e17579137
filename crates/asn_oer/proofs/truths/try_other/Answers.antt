use Rattle.asn_bits.specs.Numbers.{packed}
use Rattle.asn_rules.specs.Languages.{Spells}
use Rattle.asn_rules.specs.OctetReading.{OctetsIn, from_to}
use Rattle.asn_oer.specs.Oer.{oer_fields}
use Rattle.asn_oer.proofs.Read.OtherTruths.{other_at_once}
use Rattle.asn_oer.proofs.truths.try_other.Goals as goal

pub returns-clause-done : goal.returns-clause-done
returns-clause-done c some =
    let o = c.other_octet-octet.result in
    let us = packed c.args.units.now in
    let vs = packed c.try_octets.new.units in
    let read : Spells oer_fields (OctetsIn 1 (from_to o o)) c.in-Some.field-0 us vs = rw c.numbers.ensures at c.in-Some.ensures.done in
    other_at_once c.args.left_out o c.in-Some.field-0 us vs c.other_octet-octet.ensures read
