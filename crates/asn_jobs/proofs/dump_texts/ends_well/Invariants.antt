use Rattle.std.proofs.Common.{◌≡◌, length, true}
use Rattle.asn_jobs.specs.DumpTexts.{ends_well}
use Rattle.asn_jobs.proofs.dump_texts.ends_well.Given as goal

-- what is known of the octets so far
abbrev pub invariant-loop-rest : goal.invariant-loop-rest
invariant-loop-rest l = ends_well true l.initial.rest ≡ ends_well l.is_end l.rest

abbrev pub decreases-loop-rest : goal.decreases-loop-rest
decreases-loop-rest l = length l.rest
