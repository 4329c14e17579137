use Rattle.std.proofs.Common.{Some, rules}
use Rattle.asn_values.specs.View.{datum_of}
use Rattle.asn_constrained.specs.Under.{IsEncodingUnder}
use Rattle.asn_containing.specs.View.{table_of, type_of}
use Rattle.asn_containing.specs.Judged.{Judged}
use Rattle.asn_containing.proofs.containing_type.ContainingType.encode.Goals as goal

pub returns-in-Ok-Some-clause-fault : goal.returns-in-Ok-Some-clause-fault
returns-in-Ok-Some-clause-fault g c =
    let r = g.R.Rules.ruling in
    let e = type_of c.args.self.now.outer.value in
    let d = datum_of c.args.value.now in
    let is : IsEncodingUnder r e.shape e.constraint d c.in-Ok.octets.items = rw c.deref.ensures at c.in-Ok.ensures.encoding in
    let judged : Judged r (table_of c.args.self.now.table.value.items) e.contents d (Some c.in-Ok-Some.broken) =
    search (rules, c.judge_contents.ensures, c.in-Ok-Some.is, c.deref-2.ensures, c.deref-3.ensures.value, c.deref-4.ensures) in
    ((c.in-Ok.octets.items, is), judged)
