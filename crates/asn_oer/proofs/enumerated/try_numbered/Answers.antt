use Rattle.std.proofs.Common.{sym, ◌∙◌}
use Rattle.asn_oer.proofs.Read.ItemReading.{another_item}
use Rattle.asn_oer.proofs.enumerated.try_numbered.Goals as goal

pub returns-clause-done : goal.returns-clause-done
returns-clause-done c =
    c.take_item.ensures.done c.if-not-take_item.false c.args.excluded (another_item c.args.excluded c.in_ok-position.position (sym c.eq.ensures ∙ c.if-eq.false))
