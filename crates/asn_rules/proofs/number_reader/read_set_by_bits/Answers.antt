-- The numbers of the set are those of its intervals.
use Rattle.std.proofs.Common.{arith}
use Rattle.asn_rules.proofs.Numbers.Sets.{giving_starts}
use Rattle.asn_bits.proofs.Wide.{narrow}
use Rattle.asn_rules.proofs.Languages.Forks.{same_spells}
use Rattle.asn_rules.proofs.Languages.Leads.{leads_same, stops_by}
use Rattle.asn_rules.proofs.Plain.NumberSets.{same_set, number_waits}
use Rattle.asn_rules.proofs.number_reader.read_set_by_bits.Goals as goal

pub returns-then-is_empty-clause-stop : goal.returns-then-is_empty-clause-stop
returns-then-is_empty-clause-stop c R =
    record { told = number_waits R (giving_starts c.args.bits.now c.requires.many c.requires.some) (c.is_empty.ensures.0 c.if-is_empty.true) }

pub overflow_cast-result : goal.overflow_cast-result
overflow_cast-result c = omega (arith, narrow c.args.k c.in-Ok.number c.requires.few c.in-Ok.ensures.fits)

pub returns-in-Ok-clause-done : goal.returns-in-Ok-clause-done
returns-in-Ok-clause-done c R = same_spells (same_set 2 c.args.k c.intervals_of-numbers.ensures.back c.intervals_of-numbers.ensures.there) (c.in-Ok.ensures.done R)

pub returns-in-Ok-clause-member : goal.returns-in-Ok-clause-member
returns-in-Ok-clause-member c = c.intervals_of-numbers.ensures.back c.in-Ok.number c.in-Ok.ensures.member

pub returns-in-Err-clause-stop : goal.returns-in-Err-clause-stop
returns-in-Err-clause-stop c R =
    let same = same_set 2 c.args.k c.intervals_of-numbers.ensures.back c.intervals_of-numbers.ensures.there in
    stops_by c.in-Err.stop (leads_same R c.args.bits.now same).stops (c.in-Err.ensures.stop R)
