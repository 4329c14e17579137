-- A handle may cross threads, since what it may hold may.
use base.Shift.{Keyless}
use denote.RawPtr.{Ptr}
use denote.Param.Send.{IsSend}
use Rattle.std.specs.declared.alloc.Global.{Global}
use Rattle.std.specs.declared.option.Option.{Option}
use Rattle.std.specs.declared.option.Option.TheVariants.{None, Some}
use Rattle.std.proofs.alloc.Global.TheSendSync as heap
use Rattle.std.specs.contracts.alloc.Global as heaps
use Rattle.std.proofs.Crossing.{frees}
use mir.Raw.{raw}
use denote.Memory.{lone}
use Rattle.std_alloc.proofs.SendSync.{lies}
use Rattle.tulvorn_c.proofs.ObjectSend.{object_send}
use Rattle.tulvorn_c.specs.contracts.object.Object as object
use Rattle.tulvorn_c.specs.contracts.handle.Handle.{the_row}
use Rattle.tulvorn_c.specs.Kept.{keeps}

kept : (a : Global) (p : Ptr) (o : Option object.the_row.Denot) → Keyless (keeps object.the_row a p o)
kept a p None = tt
kept a p (Some x) = (lies object.the_row object_send p x, frees.frees a (raw (lone object.the_row.mir)) p)

pub send : IsSend the_row
send = record {
  owned = λ d vs. (
    (λ vss.
        (tt, (tt, (heap.the_field_send.owned (heaps.the_field.into d.alloc) vss.1.0, tt)))),
    kept d.alloc d.at d.kept,
  );
  leaving = λ k x vs. tt;
}
