use Rattle.std.proofs.Common.{min}
use Rattle.asn_bits.specs.Begun.{StandsFirst}
use Rattle.asn_rules.specs.NumberSets.{Admits}
use Rattle.asn_rules.specs.OctetReading.{from_to}
use Rattle.asn_rules.proofs.Octets.LengthOctets.{short_taken, short_whole, short_done}
use Rattle.asn_rules.proofs.octet_length_reader.try_short_length.Goals as goal

pub returns-clause-at_octet : goal.returns-clause-at_octet
returns-clause-at_octet c =
    let t : StandsFirst 8 (λ m. Admits (from_to c.args.low (min c.args.high 127)) m) c.in_ok-n.n c.args.units.now c.try_in_octets.new.bits = rw (c.numbers.ensures, c.min.ensures) at c.in_ok-n.ensures.some in
    short_whole c.args.low c.args.high c.requires.narrow c.in_ok-n.n c.args.units.now c.try_in_octets.new.bits c.requires.at_octet t

pub returns-clause-within : goal.returns-clause-within
returns-clause-within c =
    let t : StandsFirst 8 (λ m. Admits (from_to c.args.low (min c.args.high 127)) m) c.in_ok-n.n c.args.units.now c.try_in_octets.new.bits = rw (c.numbers.ensures, c.min.ensures) at c.in_ok-n.ensures.some in
    (short_taken c.args.low c.args.high c.requires.narrow c.in_ok-n.n c.args.units.now c.try_in_octets.new.bits t).2

pub returns-clause-done : goal.returns-clause-done
returns-clause-done c =
    let t : StandsFirst 8 (λ m. Admits (from_to c.args.low (min c.args.high 127)) m) c.in_ok-n.n c.args.units.now c.try_in_octets.new.bits = rw (c.numbers.ensures, c.min.ensures) at c.in_ok-n.ensures.some in
    short_done c.args.low c.args.high c.requires.narrow c.in_ok-n.n c.args.units.now c.try_in_octets.new.bits t
