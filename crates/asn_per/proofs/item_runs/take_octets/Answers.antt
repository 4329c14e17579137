use Rattle.std.proofs.Common.{arith}
use Rattle.asn_per.proofs.Read.Appending.{appends_taken}
use Rattle.asn_per.proofs.InPieces.Runs.{takes}
use Rattle.asn_per.proofs.item_runs.take_octets.Goals as goal

pub take_octets-requires : goal.take_octets-requires
take_octets-requires c = omega (arith, c.octets_left.ensures.count, c.min-count.ensures)

pub returns-clause-done : goal.returns-clause-done
returns-clause-done c = takes c.min-count.result (appends_taken c.min-count.result c.in_ok-take_octets.ensures.ok)
