use Rattle.std.proofs.Common.{refl}
use Rattle.asn_per.specs.Kinds.{SmallBelow}
use Rattle.asn_per.specs.Rules.{per_ruling}
use Rattle.asn_per.specs.Walk.{per_coding}
use Rattle.asn_per.proofs.Encodings.PerFields.{per_fields_part}
use Rattle.asn_newer.proofs.Walk.Halts.{halts_none, halts_short}
use Rattle.asn_newer.proofs.Walk.ItemsRead.{none_of_refused, none_of_short}
use Rattle.asn_newer.proofs.per_items.read_index_below.Goals as goal

pub returns-then-is_small_past-clause-stop : goal.returns-then-is_small_past-clause-stop
unfolding per_coding per_ruling
returns-then-is_small_past-clause-stop c =
    halts_none per_coding (SmallBelow c.args.most) c.args.bits.now _
    (none_of_refused per_coding (SmallBelow c.args.most) c.args.bits.now c.args.bits.now _ per_fields_part c.in-Err-Refused.ensures.stop c.in-Err-Refused.field-0-is refl)

pub returns-else-is_small_past-clause-stop : goal.returns-else-is_small_past-clause-stop
unfolding per_coding per_ruling
returns-else-is_small_past-clause-stop c =
    halts_none per_coding (SmallBelow c.args.most) c.args.bits.now _
    (none_of_refused per_coding (SmallBelow c.args.most) c.args.bits.now c.args.bits.now _ per_fields_part c.in-Err-Refused.ensures.stop c.in-Err-Refused.field-0-is refl)

pub returns-in-Err-Short-clause-stop : goal.returns-in-Err-Short-clause-stop
unfolding per_coding per_ruling
returns-in-Err-Short-clause-stop c =
    halts_short per_coding (SmallBelow c.args.most) c.args.bits.now
    (none_of_short per_coding (SmallBelow c.args.most) c.args.bits.now c.args.bits.now _ c.in-Err-Short.ensures.stop c.in-Err-Short.field-0-is refl)
