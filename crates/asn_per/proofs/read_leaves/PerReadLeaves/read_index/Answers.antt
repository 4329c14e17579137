use Rattle.std.proofs.lemmas.Result.{IfOk-weaker, IfErr-weaker}
use Rattle.asn_rules.proofs.Languages.Forks.{same_spells}
use Rattle.asn_rules.proofs.Languages.Leads.{stops_by, leads_same}
use Rattle.asn_per.specs.Per.{per_fields}
use Rattle.asn_per.specs.Rules.{per_ruling}
use Rattle.asn_per.specs.Walk.{per_coding}
use Rattle.asn_per.proofs.Walk.WalkChoices.{index_spelled, few_added}
use Rattle.asn_per.proofs.read_leaves.PerReadLeaves.read_index.Goals as goal

pub read_index-requires-clause-few : goal.read_index-requires-clause-few
read_index-requires-clause-few c = few_added c.args.root c.args.additions c.requires.few

pub returns-clause-done : goal.returns-clause-done
unfolding per_coding per_ruling
returns-clause-done c =
    let same = index_spelled c.args.root c.args.additions c.requires.few in
    IfOk-weaker c.read_index.result _ _ (λ i s. same_spells same s) c.read_index.ensures.done

pub returns-clause-stop : goal.returns-clause-stop
unfolding per_coding per_ruling
returns-clause-stop c =
    let same = index_spelled c.args.root c.args.additions c.requires.few in
    IfErr-weaker c.read_index.result _ _ (λ why s. stops_by why (leads_same per_fields c.args.units.now same).stops s) c.read_index.ensures.stop
