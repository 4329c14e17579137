-- How a program ends that does a job.
use Rattle.std.specs.Prelude.{ℕ, Bool, true, false, List, [], codes, Result, Ok, Err}
use Rattle.asn_jobs.specs.declared.job.RunFault.{RunFault}
use Rattle.asn_jobs.specs.declared.job.RunFault.TheVariants as fault
use Rattle.asn_jobs.specs.declared.job.Status.{Status}
use Rattle.asn_jobs.specs.declared.job.Status.TheVariants as status

-- where a write failed: whether the reader of the output has gone, which ends the program as the signal for it does
abbrev pub write_end_of : Bool → ℕ × List ℕ
write_end_of true = (141, [])
write_end_of false = (3, codes "write failed")

-- the exit status, and the line for standard error
abbrev pub end_of : Result Status RunFault → Bool → ℕ × List ℕ
end_of (Ok status.Good) closed = (0, [])
end_of (Ok status.Marked) closed = (1, [])
end_of (Ok status.NoModule) closed = (2, [])
end_of (Err fault.Read) closed = (3, codes "read failed")
end_of (Err fault.Write) closed = write_end_of closed
end_of (Err fault.Memory) closed = (3, codes "memory")

-- the same where nothing is done: whether the words are refused, and whether what is to be told was written
abbrev pub refusal_end_of : Bool → Bool → ℕ × List ℕ
refusal_end_of true written = (2, [])
refusal_end_of false true = (0, [])
refusal_end_of false false = (3, codes "write failed")
