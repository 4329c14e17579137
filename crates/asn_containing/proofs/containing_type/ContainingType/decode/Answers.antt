use Rattle.std.proofs.Common.{◌≡◌, false}
use Rattle.asn_containing.specs.View.{table_of, type_of}
use Rattle.asn_containing.specs.Decoded.{is_rest}
use Rattle.asn_containing.proofs.Answering.{whole_judged, not_rest}
use Rattle.asn_containing.proofs.containing_type.ContainingType.decode.Goals as goal

pub returns-in-Some : goal.returns-in-Some
returns-in-Some g c =
    whole_judged g.R.Rules.ruling (table_of c.args.self.now.table.value.items) (type_of c.args.self.now.outer.value) c.args.octets.now c.in-Ok.value c.in-Some.fault
    (rw (c.deref.ensures, c.in-Ok.is) at c.decode.ensures) (rw c.in-Some.is at c.why_broken.ensures)

pub returns-else-is_rest : goal.returns-else-is_rest
returns-else-is_rest g c =
    let other : is_rest c.in-Err.fault ≡ false = cc in
    not_rest g.R.Rules.ruling (table_of c.args.self.now.table.value.items) (type_of c.args.self.now.outer.value) c.args.octets.now c.in-Err.fault other
    (rw (c.deref.ensures, c.in-Err.is) at c.decode.ensures)
