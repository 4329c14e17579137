use Rattle.std.proofs.Common.{rules, tests}
use Rattle.std.proofs.lemmas.Iterator.{YieldsList-from_slice}
use Rattle.std.proofs.lemmas.Iterator.Search.{position_from_yields_List}
use Rattle.asn_jobs.specs.DumpTexts.{is_octet}
use Rattle.asn_jobs.proofs.Found.{found_at, found_within, not_found}
use Rattle.asn_jobs.proofs.dump_texts.first_at.Goals as goal

pub returns-in-Some-clause-value : goal.returns-in-Some-clause-value
returns-in-Some-clause-value c =
    let found = position_from_yields_List (is_octet c.args.wanted) _ _ _ c.in-Some.ensures.ran (YieldsList-from_slice c.args.text.now cc) (λ x b q k. search (rules, tests)) in
    found_at (is_octet c.args.wanted) c.args.text.now c.in-Some.length found

pub returns-in-Some-clause-within : goal.returns-in-Some-clause-within
returns-in-Some-clause-within c =
    let found = position_from_yields_List (is_octet c.args.wanted) _ _ _ c.in-Some.ensures.ran (YieldsList-from_slice c.args.text.now cc) (λ x b q k. search (rules, tests)) in
    found_within (is_octet c.args.wanted) c.args.text.now c.in-Some.length found

pub returns-in-None-clause-value : goal.returns-in-None-clause-value
returns-in-None-clause-value c =
    let found = position_from_yields_List (is_octet c.args.wanted) _ _ _ c.in-None.ensures.ran (YieldsList-from_slice c.args.text.now cc) (λ x b q k. search (rules, tests)) in
    not_found (is_octet c.args.wanted) c.args.text.now found
