use Rattle.std.proofs.Common.{◌≡◌, ◌∙◌, true, false, rules, length}
use Rattle.asn_jobs.proofs.Taken.{none_added, line_seen, block_ends_there, block_ends_here, block_goes_on}
use Rattle.asn_jobs.proofs.cutting.add_block.Goals as goal

pub loop-init : goal.loop-init
loop-init g c = none_added (g.R.Read.remaining c.args.input.now) c.args.lines.now c.args.text.now.items

pub returns-then-not-branch : goal.returns-then-not-branch
returns-then-not-branch g c =
    let none : c.in_ok-add_line.field-0 ≡ false = search rules in
    block_ends_there (g.R.Read.remaining c.args.input.now) c.args.lines.now (g.R.Read.remaining c.loop.input) c.loop.lines (g.R.Read.remaining c.add_line.new.input) c.add_line.new.lines c.args.text.now.items c.loop.text.items c.add_line.new.text.items c.loop.invariant (rw none at c.in_ok-add_line.ensures.line)

pub returns-then-is_blank_line : goal.returns-then-is_blank_line
returns-then-is_blank_line g c =
    let some : c.in_ok-add_line.field-0 ≡ true = search rules in
    let before : c.len-before.result ≡ length c.loop.text.items = search rules in
    let is : c.is_blank_line.result ≡ true = search rules in
    let blank = line_seen c.is_blank_line.result c.len-before.result _ c.add_line.new.text.items c.deref.result.now c.is_blank_line.ensures before (search rules) ∙ is in
    block_ends_here (g.R.Read.remaining c.args.input.now) c.args.lines.now (g.R.Read.remaining c.loop.input) c.loop.lines (g.R.Read.remaining c.add_line.new.input) c.add_line.new.lines c.args.text.now.items c.loop.text.items c.add_line.new.text.items c.loop.invariant (rw some at c.in_ok-add_line.ensures.line) blank

pub loop-preserved : goal.loop-preserved
loop-preserved g c =
    let some : c.in_ok-add_line.field-0 ≡ true = search rules in
    let before : c.len-before.result ≡ length c.loop.text.items = search rules in
    let is : c.is_blank_line.result ≡ false = search rules in
    let full = line_seen c.is_blank_line.result c.len-before.result _ c.add_line.new.text.items c.deref.result.now c.is_blank_line.ensures before (search rules) ∙ is in
    block_goes_on (g.R.Read.remaining c.args.input.now) c.args.lines.now (g.R.Read.remaining c.loop.input) c.loop.lines (g.R.Read.remaining c.add_line.new.input) c.add_line.new.lines c.args.text.now.items c.loop.text.items c.add_line.new.text.items c.loop.invariant (rw some at c.in_ok-add_line.ensures.line) full
