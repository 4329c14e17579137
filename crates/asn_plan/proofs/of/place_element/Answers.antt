use Rattle.std.proofs.Common.{◌∙◌}
use Rattle.asn_plan.proofs.Growing.{element_placed}
use Rattle.asn_plan.proofs.of.place_element.Goals as goal

pub returns-clause-plan : goal.returns-clause-plan
returns-clause-plan c t p =
    element_placed c.args.nodes.now.items c.push.new.self.items _ (record { size = c.args.size; counts = c.count_fields-counts.result; element = c.len-element.result; of_profile = c.requires.of_profile; are_counts = c.count_fields-counts.ensures }) t c.in_ok-push.ensures.items (c.len-element.ensures ∙ c.args.nodes.now.ok.0) p
