use Rattle.std.proofs.Common.{◌++◌, ◌∙◌, ap, rules, tests}
use Rattle.std.specs.List.{flat_map, slice_split}
use Rattle.std.proofs.lemmas.Iterator.Consumers.{YieldsList-end}
use Rattle.std.proofs.lemmas.Iterator.Splits.{YieldsList-from_slice_split}
use Rattle.asn_jobs.specs.Texts.{is_blank, unprefixed}
use Rattle.asn_jobs.proofs.Steps.{all_parts}
use Rattle.asn_jobs.proofs.texts.push_line.Goals as goal

pub returns : goal.returns
returns c =
    let end = YieldsList-end (YieldsList-from_slice_split _ is_blank c.uncommented.result.now (search rules) (search rules) (search rules) (λ x r q k. search (rules, tests))) c.loop-word.yielded _ c.loop-word.yielded_by _ _ c.in-None.is c.next.ensures.steps in
    let words = all_parts (λ word. word.now) unprefixed c.loop-word.yielded _ end.0 in
    c.loop-word.invariant ∙ ap (λ t. c.args.digits.now.items ++ t) (words ∙ ap (λ t. flat_map unprefixed (slice_split is_blank t)) c.uncommented.ensures)
