use Rattle.std.proofs.Common.{◌≡◌, [], length}
use Rattle.asn_jobs.specs.DumpTexts.{dump_lines, lines_octets}
use Rattle.asn_jobs.proofs.dump_texts.lines_octets.Given as goal

-- the octets of the lines so far
abbrev pub invariant-loop-line : goal.invariant-loop-line
invariant-loop-line l = lines_octets l.form [] (dump_lines l.initial.rest) ≡ lines_octets l.form l.octets.items (dump_lines l.rest)

abbrev pub decreases-loop-line : goal.decreases-loop-line
decreases-loop-line l = length l.rest
