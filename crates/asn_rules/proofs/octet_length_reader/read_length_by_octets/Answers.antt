use Rattle.std.proofs.Common.{refl}
use Rattle.asn_rules.proofs.Octets.LengthOctets.{in_length_starts, in_length_short, in_length_refused, in_length_done}
use Rattle.asn_rules.proofs.octet_length_reader.read_length_by_octets.Goals as goal

pub loop-octet-init : goal.loop-octet-init
loop-octet-init c = in_length_starts c.args.low c.args.high c.requires.narrow c.args.units.now c.new-lengths.result c.requires.at_octet c.requires.ordered c.new-lengths.ensures

pub returns-in-Number-clause-done : goal.returns-in-Number-clause-done
returns-in-Number-clause-done c =
    in_length_done c.args.low c.args.high c.requires.narrow c.loop-octet.invariant c.in-Some.ensures.fits c.in-Some.ensures.some c.in-Number.n c.in-Number.ensures.state

pub returns-in-Dead-clause-stop : goal.returns-in-Dead-clause-stop
returns-in-Dead-clause-stop c =
    record { told = rw c.octets_left.ensures.count (in_length_refused c.args.low c.args.high c.requires.narrow c.loop-octet.invariant c.in-Some.ensures.fits c.in-Some.ensures.some c.in-Dead.ensures.state) }

pub returns-clause-stop : goal.returns-clause-stop
returns-clause-stop c = record { told = in_length_short c.args.low c.args.high c.requires.narrow c.loop-octet.invariant (c.in_default.ensures.none.0 refl) }
