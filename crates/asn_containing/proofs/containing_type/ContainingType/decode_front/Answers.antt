use Rattle.std.proofs.Common.{◌<◌, length, arith}
use Rattle.asn_containing.specs.View.{table_of, type_of}
use Rattle.asn_containing.proofs.Answering.{front_fault, whole_front}
use Rattle.asn_containing.proofs.containing_type.ContainingType.decode_front.Goals as goal

pub returns-in-Err : goal.returns-in-Err
returns-in-Err g c =
    front_fault g.R.Rules.ruling (table_of c.args.self.now.table.value.items) (type_of c.args.self.now.outer.value) c.args.octets.now c.in-Err.fault c.decode_front_into.new.value
    (rw (c.deref.ensures, c.in-Err.is) at c.decode_front_into.ensures)

pub returns-else-used-octets : goal.returns-else-used-octets
returns-else-used-octets g c =
    whole_front g.R.Rules.ruling (table_of c.args.self.now.table.value.items) (type_of c.args.self.now.outer.value) c.args.octets.now c.decode_front_into.new.value c.in-Ok.used
    (rw (c.deref.ensures, c.in-Ok.is) at c.decode_front_into.ensures)
    (λ (l : c.in-Ok.used < length c.args.octets.now). omega (arith, l, c.if-used-octets.false))
    (rw c.in-None.is at c.why_broken.ensures)
