use Rattle.std.proofs.Common.{◌∙◌, ap, subst}
use Rattle.std.specs.Prelude.{Result}
use Rattle.asn_values.specs.declared.value.Value.{Value}
use Rattle.asn_constrained.specs.declared.fault.ConstrainedFault.{ConstrainedFault}
use Rattle.asn_values.specs.View.{datum_of}
use Rattle.asn_contents.specs.View.{contents_of, content_of, content_list}
use Rattle.asn_containing.specs.declared.broken.ContentsReason.TheVariants as reason
use Rattle.asn_containing.specs.Containing.{type_in}
use Rattle.asn_containing.specs.View.{table_of, type_of}
use Rattle.asn_containing.specs.Judged.{IsContentOrNot}
use Rattle.asn_containing.proofs.Breaking.{type_there, no_type_there, found_here, breaks_inside, all_inside, looking_first, looking_next, all_looked_at, breaks_among}
use Rattle.asn_containing.proofs.judging.+broken.Goals as goal

pub first_broken-loop-content-init : goal.first_broken-loop-content-init
first_broken-loop-content-init g t c = looking_first g.R.Rules.ruling (table_of c.args.table.now) c.args.levels c.deref-content-items.result.now

pub first_broken-returns-in-Some : goal.first_broken-returns-in-Some
first_broken-returns-in-Some g t c =
    breaks_among g.R.Rules.ruling (table_of c.args.table.now) c.args.levels c.deref-content-items.result.now (contents_of c.args.contents.now) (datum_of c.args.value.now)
    c.loop-content.content-index c.content-item.result c.in-Some.broken c.loop-content-test.true c.content-item.is
    (ap content_list c.deref-content-items.ensures.value ∙ c.in_ok-found.ensures) c.in_ok-broken.field-0 c.in_ok-broken.ensures c.in-Some.is

pub first_broken-loop-content-preserved : goal.first_broken-loop-content-preserved
first_broken-loop-content-preserved g t c =
    looking_next g.R.Rules.ruling (table_of c.args.table.now) c.args.levels c.deref-content-items.result.now
    c.loop-content.content-index c.content-item.result c.loop-content-test.true c.content-item.is
    c.in_ok-broken.field-0 c.in_ok-broken.ensures c.in_default.is c.loop-content.invariant

pub first_broken-returns : goal.first_broken-returns
first_broken-returns g t c =
    all_looked_at g.R.Rules.ruling (table_of c.args.table.now) c.args.levels c.deref-content-items.result.now (contents_of c.args.contents.now) (datum_of c.args.value.now)
    c.loop-content.content-index c.loop-content-test.false (ap content_list c.deref-content-items.ensures.value ∙ c.in_ok-found.ensures) c.loop-content.invariant

pub broken_content-returns-then-levels-eq0 : goal.broken_content-returns-then-levels-eq0
broken_content-returns-then-levels-eq0 g t c =
    found_here g.R.Rules.ruling (table_of c.args.table.now) c.args.levels (content_of c.args.content.now) reason.TooDeep c.at_octets.result c.if-levels-eq0.true c.at_octets.ensures

pub broken_content-returns-in-None : goal.broken_content-returns-in-None
broken_content-returns-in-None g t c =
    found_here g.R.Rules.ruling (table_of c.args.table.now) c.args.levels (content_of c.args.content.now) reason.NoType c.at_octets-in-None.result
    (ap (type_in (table_of c.args.table.now)) c.in-None.is) c.at_octets-in-None.ensures

pub broken_of_type-returns-then-table-index : goal.broken_of_type-returns-then-table-index
broken_of_type-returns-then-table-index g t c =
    let T = table_of c.args.table.now in
    found_here g.R.Rules.ruling T c.args.levels (content_of c.args.content.now) reason.NoType c.at_octets.result
    (ap (type_in T) c.requires.index ∙ no_type_there c.args.table.now c.args.index c.if-table-index.true) c.at_octets.ensures

pub broken_of_type-returns-in-Err : goal.broken_of_type-returns-in-Err
broken_of_type-returns-in-Err g t c =
    let r = g.R.Rules.ruling in
    let T = table_of c.args.table.now in
    let e = type_of c.index-table-index.result in
    let is = ap (type_in T) c.requires.index ∙ type_there c.args.table.now c.args.index c.index-table-index.result c.if-table-index.false c.index-table-index.is in
    let none = subst (λ (a : Result Value ConstrainedFault). IsContentOrNot r e c.args.content.now.octets.now a) c.in-Err.is c.in_ok-fault.ensures in
    found_here r T c.args.levels (content_of c.args.content.now) (reason.Octets c.in-Err.fault) c.at_octets-in-Err.result (e, is, none) c.at_octets-in-Err.ensures

pub broken_of_type-returns-in-None : goal.broken_of_type-returns-in-None
broken_of_type-returns-in-None g t c =
    let r = g.R.Rules.ruling in
    let T = table_of c.args.table.now in
    let e = type_of c.index-table-index.result in
    let is = ap (type_in T) c.requires.index ∙ type_there c.args.table.now c.args.index c.index-table-index.result c.if-table-index.false c.index-table-index.is in
    let only = subst (λ (a : Result Value ConstrainedFault). IsContentOrNot r e c.args.content.now.octets.now a) c.in-Ok.is c.in_ok-fault.ensures in
    all_inside r T c.args.levels (content_of c.args.content.now) e (datum_of c.in-Ok.value) c.in_ok-first_broken-in-Ok.field-0 c.requires.levels is only c.in_ok-first_broken-in-Ok.ensures c.in-None.is

pub broken_of_type-returns : goal.broken_of_type-returns
broken_of_type-returns g t c =
    let r = g.R.Rules.ruling in
    let T = table_of c.args.table.now in
    let e = type_of c.index-table-index.result in
    let is = ap (type_in T) c.requires.index ∙ type_there c.args.table.now c.args.index c.index-table-index.result c.if-table-index.false c.index-table-index.is in
    let only = subst (λ (a : Result Value ConstrainedFault). IsContentOrNot r e c.args.content.now.octets.now a) c.in-Ok.is c.in_ok-fault.ensures in
    breaks_inside r T c.args.levels (content_of c.args.content.now) e (datum_of c.in-Ok.value) c.in_ok-first_broken-in-Ok.field-0 c.in_ok-at-in-Some.field-0 c.in-Some.broken c.requires.levels is only
    c.in_ok-first_broken-in-Ok.ensures c.in-Some.is c.in_ok-at-in-Some.ensures.reason c.in_ok-at-in-Some.ensures.places
