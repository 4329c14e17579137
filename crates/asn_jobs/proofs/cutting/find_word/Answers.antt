use Rattle.std.proofs.Common.{◌≡◌, true, false, rules}
use Rattle.asn_jobs.specs.Cutting.{has_word}
use Rattle.asn_jobs.proofs.Taken.{none_passed, no_word_left, word_found, one_passed}
use Rattle.asn_jobs.proofs.cutting.find_word.Goals as goal

pub loop-init : goal.loop-init
loop-init g c = none_passed (g.R.Read.remaining c.args.input.now) c.args.lines.now

pub returns-then-not-branch : goal.returns-then-not-branch
returns-then-not-branch g c =
    let none : c.in_ok-take_line.field-0 ≡ false = search rules in
    no_word_left (g.R.Read.remaining c.args.input.now) c.args.lines.now (g.R.Read.remaining c.loop.input) c.loop.lines c.loop.invariant (rw none at c.in_ok-take_line.ensures)

pub returns-then-has_word : goal.returns-then-has_word
returns-then-has_word g c =
    let some : c.in_ok-take_line.field-0 ≡ true = search rules in
    let has : has_word c.take_line.new.text.items ≡ true = search rules in
    word_found (g.R.Read.remaining c.args.input.now) c.args.lines.now (g.R.Read.remaining c.loop.input) c.loop.lines (g.R.Read.remaining c.take_line.new.input) c.take_line.new.lines c.take_line.new.text.items c.loop.invariant has (rw some at c.in_ok-take_line.ensures)

pub loop-preserved : goal.loop-preserved
loop-preserved g c =
    let some : c.in_ok-take_line.field-0 ≡ true = search rules in
    let has : has_word c.take_line.new.text.items ≡ false = search rules in
    one_passed (g.R.Read.remaining c.args.input.now) c.args.lines.now (g.R.Read.remaining c.loop.input) c.loop.lines (g.R.Read.remaining c.take_line.new.input) c.take_line.new.lines c.take_line.new.text.items c.loop.invariant has (rw some at c.in_ok-take_line.ensures)
