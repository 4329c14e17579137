-- The numbers of the set are those of its intervals.
use Rattle.std.proofs.lemmas.Result.{IfOk-weaker, IfErr-weaker}
use Rattle.asn_rules.proofs.Languages.Forks.{same_spells}
use Rattle.asn_rules.proofs.Languages.Leads.{leads_same, stops_by}
use Rattle.asn_rules.proofs.Plain.NumberSets.{same_set}
use Rattle.asn_rules.proofs.whole_number_reader.read_wide_number.Goals as goal

pub returns-clause-stop : goal.returns-clause-stop
returns-clause-stop c R =
    let same = same_set 2 c.args.k c.intervals_between.ensures.back c.intervals_between.ensures.there in
    IfErr-weaker c.read_number_among.result _ _ (λ why s. stops_by why (leads_same R c.args.bits.now same).stops s) (c.read_number_among.ensures.stop R)

pub returns-clause-done : goal.returns-clause-done
returns-clause-done c R =
    let same = same_set 2 c.args.k c.intervals_between.ensures.back c.intervals_between.ensures.there in
    IfOk-weaker c.read_number_among.result _ _ (λ n s. same_spells same s) (c.read_number_among.ensures.done R)

pub returns-clause-member : goal.returns-clause-member
returns-clause-member c = IfOk-weaker c.read_number_among.result _ _ (λ n m. c.intervals_between.ensures.back n m) c.read_number_among.ensures.member
