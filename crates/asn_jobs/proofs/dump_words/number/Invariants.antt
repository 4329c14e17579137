use Rattle.std.proofs.Common.{◌≡◌, length}
use Rattle.asn_jobs.specs.DumpWords.{number}
use Rattle.asn_jobs.proofs.dump_words.number.Given as goal

-- the number of the digits so far
abbrev pub invariant-loop-rest : goal.invariant-loop-rest
invariant-loop-rest l = number 0 l.initial.rest ≡ number l.value l.rest

abbrev pub decreases-loop-rest : goal.decreases-loop-rest
decreases-loop-rest l = length l.rest
