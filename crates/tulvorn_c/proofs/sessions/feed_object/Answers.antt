-- What the session of these rules answers is what the object does.
use Rattle.std.proofs.Common.{refl}
use Rattle.tulvorn_c.proofs.sessions.feed_object.Goals as goal

pub returns-in-PerSession : goal.returns-in-PerSession
returns-in-PerSession c =
    rw c.in-PerSession.is (refl, λ t past took. c.feed_by.ensures t past (rw c.as_mut.ensures.value took))

pub returns-in-OerSession : goal.returns-in-OerSession
returns-in-OerSession c =
    rw c.in-OerSession.is (
      refl,
      λ t past took.
          c.feed_by-in-OerSession.ensures t past (rw c.as_mut-in-OerSession.ensures.value took),
    )
