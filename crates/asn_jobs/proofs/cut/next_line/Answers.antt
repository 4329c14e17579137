use Rattle.std.proofs.Common.{◌≡◌, ◌<◌, length, [], rules, ◌∙◌}
use Rattle.asn_jobs.proofs.Lines.{cut_at, cut_nowhere, take_whole, drop_whole}
use Rattle.asn_jobs.proofs.cut.next_line.Goals as goal

pub returns-clause-some : goal.returns-clause-some
returns-clause-some c =
    rw (c.split_at-3.ensures.back, c.split_at-2.ensures.back, c.split_at-2.ensures.front)
    (cut_at c.args.rest.now c.in-Some.index (rw c.in-Some.is at c.memchr.ensures))

pub returns-in_default-clause-some : goal.returns-in_default-clause-some
returns-in_default-clause-some c =
    let some : 0 < length c.args.rest.now = search rules in
    let front : c.split_at.result.0.now ≡ c.args.rest.now = c.split_at.ensures.front ∙ take_whole c.args.rest.now in
    let back : c.split_at.result.1.now ≡ [] = c.split_at.ensures.back ∙ drop_whole c.args.rest.now in
    rw (front, back) (cut_nowhere c.args.rest.now some (rw c.in_default.is at c.memchr.ensures))
