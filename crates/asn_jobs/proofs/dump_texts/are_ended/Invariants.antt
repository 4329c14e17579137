use Rattle.std.proofs.Common.{◌≡◌, length}
use Rattle.std.specs.List.{list_all}
use Rattle.asn_jobs.specs.DumpTexts.{dump_lines, ends_array}
use Rattle.asn_jobs.proofs.dump_texts.are_ended.Given as goal

-- the lines so far end an array
abbrev pub invariant-loop-line : goal.invariant-loop-line
invariant-loop-line l = list_all ends_array (dump_lines l.initial.rest) ≡ list_all ends_array (dump_lines l.rest)

abbrev pub decreases-loop-line : goal.decreases-loop-line
decreases-loop-line l = length l.rest
