use Rattle.std.proofs.Common.{subst}
use Rattle.std.proofs.lemmas.Result.{IfOk-weaker, IfErr-weaker}
use Rattle.asn_values.specs.Shape.{SizeRange}
use Rattle.asn_rules.specs.Fields.{Octet}
use Rattle.asn_rules.proofs.Languages.Forks.{same_spells}
use Rattle.asn_rules.proofs.Languages.Leads.{stops_by, leads_same}
use Rattle.asn_per.specs.Kinds.{Sized}
use Rattle.asn_per.specs.Reading.{Reads, StopsIn}
use Rattle.asn_per.proofs.Read.OpenFieldReading.{SomeOctets, some_octets}
use Rattle.asn_per.specs.Per.{per_fields}
use Rattle.asn_per.specs.Rules.{per_ruling}
use Rattle.asn_per.specs.Walk.{per_coding}
use Rattle.asn_per.proofs.read_leaves.PerReadLeaves.read_open_octets.Goals as goal

pub returns-clause-done : goal.returns-clause-done
unfolding per_coding per_ruling
returns-clause-done c =
    let done : Reads c.read_octet_string.result (λ os. os.items) SomeOctets c.args.units.now c.read_octet_string.new.cursor =
    subst (λ (s : SizeRange). Reads c.read_octet_string.result (λ os. os.items) (Sized s Octet) c.args.units.now c.read_octet_string.new.cursor) c.at_least.ensures c.read_octet_string.ensures.done in
    IfOk-weaker c.read_octet_string.result _ _ (λ v s. same_spells some_octets s) done

pub returns-clause-stop : goal.returns-clause-stop
unfolding per_coding per_ruling
returns-clause-stop c =
    let stop : StopsIn c.read_octet_string.result SomeOctets c.args.units.now =
    subst (λ (s : SizeRange). StopsIn c.read_octet_string.result (Sized s Octet) c.args.units.now) c.at_least.ensures c.read_octet_string.ensures.stop in
    IfErr-weaker c.read_octet_string.result _ _ (λ why s. stops_by why (leads_same per_fields _ some_octets).stops s) stop
