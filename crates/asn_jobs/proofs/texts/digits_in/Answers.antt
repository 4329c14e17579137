use Rattle.std.proofs.Common.{◌∙◌, rules, tests}
use Rattle.std.proofs.lemmas.Iterator.Consumers.{YieldsList-end}
use Rattle.std.proofs.lemmas.Iterator.Splits.{YieldsList-from_slice_split}
use Rattle.asn_jobs.specs.Texts.{is_end, line_digits}
use Rattle.asn_jobs.proofs.Steps.{all_parts}
use Rattle.asn_jobs.proofs.texts.digits_in.Goals as goal

pub returns : goal.returns
returns c =
    let end = YieldsList-end (YieldsList-from_slice_split _ is_end c.args.text.now (search rules) (search rules) (search rules) (λ x r q k. search (rules, tests))) c.loop-line.yielded _ c.loop-line.yielded_by _ _ c.in-None.is c.next.ensures.steps in
    c.loop-line.invariant ∙ all_parts (λ line. line.now) line_digits c.loop-line.yielded _ end.0
