-- What a handle leads to that is only read may go to another thread, since threads may read what it may hold.
use Rattle.std.proofs.Common.{[]}
use base.Shift.{Keyless}
use denote.RawPtr.{Ptr}
use denote.Param.Send.{IsSend}
use Rattle.std.specs.declared.option.Option.{Option}
use Rattle.std.specs.declared.option.Option.TheVariants.{None, Some}
use Rattle.std_alloc.proofs.SendSync.{seen}
use Rattle.tulvorn_c.proofs.ObjectSend.{object_sync}
use Rattle.tulvorn_c.specs.contracts.object.Object as object
use Rattle.tulvorn_c.specs.contracts.shown.Shown.{the_row}
use Rattle.tulvorn_c.specs.Kept.{shows}

kept : (p : Ptr) (o : Option object.the_row.Denot) → Keyless (shows object.the_row p o)
kept p None = tt
kept p (Some x) = (seen object.the_row object_sync p x [], λ t. tt)

pub send : IsSend the_row
send = record { owned = λ d vs. ((λ vss. (tt, (tt, tt))), kept d.at d.kept); leaving = λ k x vs. tt }
