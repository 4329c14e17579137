use Rattle.std.proofs.Common.{◌∙◌, rules, tests}
use Rattle.std.proofs.lemmas.Iterator.Consumers.{YieldsList-end}
use Rattle.std.proofs.lemmas.Iterator.Splits.{YieldsList-from_slice_split}
use Rattle.asn_jobs.specs.Texts.{unprefixed}
use Rattle.asn_jobs.specs.DumpLines.{is_separator, is_word}
use Rattle.asn_jobs.proofs.Steps.{all_fit, all_parts}
use Rattle.asn_jobs.proofs.dump_lines.word_digits.Goals as goal

pub returns-clause-fit : goal.returns-clause-fit
returns-clause-fit c =
    let end = YieldsList-end (YieldsList-from_slice_split _ is_separator c.args.text.now (search rules) (search rules) (search rules) (λ x r q k. search (rules, tests))) c.loop-word.yielded _ c.loop-word.yielded_by _ _ c.in-None.is c.next.ensures.steps in
    c.loop-word.invariant.1 ∙ all_fit (λ word. word.now) (is_word c.args.most) c.loop-word.yielded _ end.0

pub returns-clause-digits : goal.returns-clause-digits
returns-clause-digits c =
    let end = YieldsList-end (YieldsList-from_slice_split _ is_separator c.args.text.now (search rules) (search rules) (search rules) (λ x r q k. search (rules, tests))) c.loop-word.yielded _ c.loop-word.yielded_by _ _ c.in-None.is c.next.ensures.steps in
    c.loop-word.invariant.0 ∙ all_parts (λ word. word.now) unprefixed c.loop-word.yielded _ end.0
