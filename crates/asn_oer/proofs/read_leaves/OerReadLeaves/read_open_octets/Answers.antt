use Rattle.std.proofs.lemmas.Result.{IfOk-weaker, IfErr-weaker}
use Rattle.asn_bits.specs.Numbers.{packed}
use Rattle.asn_rules.proofs.Languages.Leads.{stops_by}
use Rattle.asn_rules.proofs.Octets.OctetReading.{open_leads}
use Rattle.asn_oer.specs.Rules.{oer_ruling}
use Rattle.asn_oer.specs.Walk.{oer_coding}
use Rattle.asn_oer.proofs.read_leaves.OerReadLeaves.read_open_octets.Goals as goal

pub returns-clause-done : goal.returns-clause-done
unfolding oer_coding oer_ruling
returns-clause-done c = IfOk-weaker c.read_octets_with_length.result _ _ (λ os h. (open_leads (packed c.args.units.now)).done os.items (packed c.read_octets_with_length.new.units) h) c.read_octets_with_length.ensures.done

pub returns-clause-stop : goal.returns-clause-stop
unfolding oer_coding oer_ruling
returns-clause-stop c = IfErr-weaker c.read_octets_with_length.result _ _ (λ why h. stops_by why (open_leads (packed c.args.units.now)).stops h) c.read_octets_with_length.ensures.stop
