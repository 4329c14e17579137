use Rattle.std.proofs.Common.{sym}
use Rattle.std.proofs.lemmas.List.{set_at}
use Rattle.asn_message.proofs.slots.Room.replace.Goals as goal

pub returns-clause-slots : goal.returns-clause-slots
returns-clause-slots c some xs old ys e at = rw e (set_at xs old ys c.args.slot c.args.at (sym at))
