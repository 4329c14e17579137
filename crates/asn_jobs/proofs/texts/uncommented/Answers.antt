use Rattle.std.proofs.Common.{rules, tests}
use Rattle.std.proofs.lemmas.Iterator.{YieldsList-from_slice}
use Rattle.std.proofs.lemmas.Iterator.Search.{position_from_yields_List}
use Rattle.asn_jobs.specs.Texts.{is_comment}
use Rattle.asn_jobs.proofs.Steps.{first_comment, no_comment}
use Rattle.asn_jobs.proofs.texts.uncommented.Goals as goal

pub returns-in-Some : goal.returns-in-Some
returns-in-Some c =
    let found = position_from_yields_List is_comment _ _ _ c.in-Some.ensures.ran (YieldsList-from_slice c.args.line.now cc) (λ x b q k. search (rules, tests)) in
    first_comment c.args.line.now c.in-Some.length _ found c.split_at.ensures.front

pub returns-in-None : goal.returns-in-None
returns-in-None c =
    let found = position_from_yields_List is_comment _ _ _ c.in-None.ensures.ran (YieldsList-from_slice c.args.line.now cc) (λ x b q k. search (rules, tests)) in
    no_comment c.args.line.now found
