use Rattle.std.proofs.Common.{◌≡◌, ◌+◌, ◌<◌, length, arith, rules}
use Rattle.asn_jobs.proofs.Taken.{no_line_more, one_line_more}
use Rattle.asn_jobs.proofs.cutting.add_line.Goals as goal

pub returns-in-Ok-eq0-clause-line : goal.returns-in-Ok-eq0-clause-line
returns-in-Ok-eq0-clause-line g c =
    no_line_more (g.R.Read.remaining c.args.input.now) (g.R.Read.remaining c.read_until.new.self) _ _ (c.in-Ok-eq0.ensures.end (search rules)) c.in-Ok-eq0.ensures.bytes c.in-Ok-eq0.ensures.rest

pub returns-in-Ok-clause-line : goal.returns-in-Ok-clause-line
returns-in-Ok-clause-line g c =
    let some : 0 < c.in-Ok.field-0 = grind (arith, rules) in
    let size : length c.read_until.new.buf.items ≡ length c.args.text.now.items + c.in-Ok.field-0 = grind (arith, rules) in
    one_line_more (g.R.Read.remaining c.args.input.now) (g.R.Read.remaining c.read_until.new.self) c.args.lines.now c.saturating_add.result _ _ c.in-Ok.field-0 size some c.saturating_add.ensures c.in-Ok.ensures.bytes c.in-Ok.ensures.rest
