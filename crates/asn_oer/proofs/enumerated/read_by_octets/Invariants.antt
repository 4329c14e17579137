use Rattle.std.proofs.Common.{◌≡◌, ◌<◌, ◌^◌, ◌++◌}
use Rattle.asn_bits.specs.Numbers.{octets, packed}
use Rattle.asn_oer.proofs.Read.ItemReading.{Begun}
use Rattle.asn_rules.specs.OctetReading.{AtOctet}
use Rattle.asn_walk.specs.Items.{items_of}
use Rattle.asn_oer.proofs.enumerated.read_by_octets.Given as goal

abbrev pub invariant-loop-taken : goal.invariant-loop-taken
invariant-loop-taken l =
    AtOctet l.units × (packed l.fn.units ≡ octets l.taken l.begun ++ packed l.units) × (l.begun < 256 ^ l.taken) × Begun (items_of l.root l.more) l.excluded (octets l.taken l.begun)
