use Rattle.std.proofs.Common.{◌≡◌, true, rules}
use Rattle.asn_jobs.proofs.Taken.{block_cut}
use Rattle.asn_jobs.proofs.cutting.next_block.Goals as goal

pub returns : goal.returns
returns g c =
    let some : c.in_ok-find_word.field-0 ≡ true = search rules in
    block_cut (g.R.Read.remaining c.args.input.now) c.args.lines.now (g.R.Read.remaining c.find_word.new.input) c.find_word.new.lines (g.R.Read.remaining c.add_block.new.input) c.add_block.new.lines c.find_word.new.text.items c.add_block.new.text.items
    (rw some at c.in_ok-find_word.ensures) c.in_ok-add_block.ensures
