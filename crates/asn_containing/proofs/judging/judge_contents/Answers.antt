use Rattle.std.proofs.Common.{subst}
use Rattle.std.specs.Prelude.{Option}
use Rattle.asn_values.specs.View.{datum_of}
use Rattle.asn_contents.specs.View.{contents_of}
use Rattle.asn_containing.specs.declared.broken.BrokenContents.{BrokenContents}
use Rattle.asn_containing.specs.View.{table_of}
use Rattle.asn_containing.specs.Judged.{most_levels, Finds}
use Rattle.asn_containing.proofs.Breaking.{judged}
use Rattle.asn_containing.proofs.judging.judge_contents.Goals as goal

pub returns-in-Some : goal.returns-in-Some
returns-in-Some g c =
    let r = g.R.Rules.ruling in
    let T = table_of c.args.table.now in
    let t = contents_of c.args.contents.now in
    let d = datum_of c.args.value.now in
    judged r T t d c.in-Some.broken c.turned.result c.turned.ensures.reason c.turned.ensures.places
    (subst (λ (o : Option BrokenContents). Finds r T most_levels t d o) c.in-Some.is c.in_ok-first_broken.ensures)
