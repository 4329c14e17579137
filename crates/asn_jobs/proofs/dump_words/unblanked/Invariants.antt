use Rattle.std.proofs.Common.{◌≡◌, length}
use Rattle.asn_jobs.specs.DumpWords.{unblanked}
use Rattle.asn_jobs.proofs.dump_words.unblanked.Given as goal

-- blanks alone were left out
abbrev pub invariant-loop-rest : goal.invariant-loop-rest
invariant-loop-rest l = unblanked l.initial.rest ≡ unblanked l.rest

abbrev pub decreases-loop-rest : goal.decreases-loop-rest
decreases-loop-rest l = length l.rest
