use Rattle.std.proofs.Common.{◌≡◌, length}
use Rattle.asn_jobs.specs.DumpWords.{is_text}
use Rattle.asn_jobs.proofs.dump_words.is_text.Given as goal

-- the characters so far are those of the octets so far
abbrev pub invariant-loop-octets : goal.invariant-loop-octets
invariant-loop-octets l = is_text l.initial.octets l.initial.text ≡ is_text l.octets l.text

abbrev pub decreases-loop-octets : goal.decreases-loop-octets
decreases-loop-octets l = length l.octets
