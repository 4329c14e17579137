use Rattle.asn_values.specs.View.{shape_of}
use Rattle.asn_look.proofs.Feeding.{message_followed}
use Rattle.asn_look.proofs.streams.message_len.Goals as goal

pub returns-in-Err-Rest-clause-message : goal.returns-in-Err-Rest-clause-message
returns-in-Err-Rest-clause-message g c = λ some.
    message_followed g.S.Rules.ruling (shape_of c.args.ty.now) c.args.octets.now c.in-Err-Rest.used (rw (c.in-Err-Rest.is, c.in-Err-Rest.field-0-is) at c.decode.ensures) some
