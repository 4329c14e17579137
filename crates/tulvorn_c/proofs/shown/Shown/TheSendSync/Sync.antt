-- Threads may read a handle at once that is only read: a `&` to it holds shares of the whole value.
use denote.Memory.{raw_all}
use denote.Param.Send.{IsSync, whole-keyless}
use Rattle.tulvorn_c.proofs.shown.Shown.TheSendSync.Send.{send}
use Rattle.tulvorn_c.specs.contracts.shown.Shown.{the_row}

pub sync : IsSync the_row
sync = record { shared = λ d b o κ q. whole-keyless (raw_all the_row.mir) the_row.own_val send.owned q d b o }
