use Rattle.std.proofs.Common.{◌≡◌, [], ◌∷◌, length}
use Rattle.asn_jobs.specs.DumpTexts.{array_octets, dump_lines}
use Rattle.asn_jobs.proofs.dump_texts.array_octets.Given as goal

-- the octets of the lines so far
abbrev pub invariant-loop-line : goal.invariant-loop-line
invariant-loop-line l = array_octets [] (l.initial.line ∷ dump_lines l.initial.rest) ≡ array_octets l.octets.items (l.line ∷ dump_lines l.rest)

abbrev pub decreases-loop-line : goal.decreases-loop-line
decreases-loop-line l = length l.rest
