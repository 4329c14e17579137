use Rattle.std.proofs.Common.{◌≡◌, false, length}
use Rattle.asn_jobs.specs.DumpTexts.{dump_lines, octets_from}
use Rattle.asn_jobs.proofs.dump_texts.dump_octets.Given as goal

-- the lines so far are passed over, or headings
abbrev pub invariant-loop-line : goal.invariant-loop-line
invariant-loop-line l = octets_from false (dump_lines l.initial.rest) ≡ octets_from l.is_headed (dump_lines l.rest)

abbrev pub decreases-loop-line : goal.decreases-loop-line
decreases-loop-line l = length l.rest
