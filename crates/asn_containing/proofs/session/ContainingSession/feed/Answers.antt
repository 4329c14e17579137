use Rattle.std.proofs.Common.{Some, refl, rules}
use Rattle.asn_values.specs.View.{datum_of}
use Rattle.asn_contents.specs.View.{contents_of}
use Rattle.asn_containing.specs.View.{table_of}
use Rattle.asn_containing.specs.Judged.{Judged}
use Rattle.asn_containing.proofs.session.ContainingSession.feed.Goals as goal

pub returns-in-Ok-Some : goal.returns-in-Ok-Some
returns-in-Ok-Some g c =
    let judged : Judged g.R.Rules.ruling (table_of c.args.self.now.table.value.items) (contents_of c.args.self.now.outer.value.contents) (datum_of c.in-Ok-Done.value) (Some c.in-Ok-Some.broken) =
    search (rules, c.judge_contents.ensures, c.in-Ok-Some.is, c.deref.ensures, c.deref-in-Ok-Done.ensures.value, c.deref-in-Ok-Done-2.ensures) in
    (c.feed.result, c.feed.ensures, rw (c.in-Ok-Done.is, c.in-Ok-Done.field-0-is) (refl, judged))
