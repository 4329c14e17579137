use Rattle.std.proofs.Common.{◌∙◌, ◌<◌, length, rules}
use Rattle.asn_published_text.specs.Modules.{StandIn}
use Rattle.asn_published_read.proofs.texts.read_texts.Goals as goal

-- the names of classes and the sets of values leave each module in its text

pub returns-in_err-classes-clause-fault : goal.returns-in_err-classes-clause-fault
returns-in_err-classes-clause-fault c =
    let kept = c.take_value_sets.ensures.modules ∙ c.take_class_names.ensures.modules in
    let stand : StandIn (length c.args.texts.now) c.take_value_sets.new.world.modules.items = rw kept c.in_ok-world.ensures.modules in
    let some : 0 < length c.args.texts.now = search rules in
    let is = c.in_err-classes.ensures.fault (length c.args.texts.now) some stand in
    search rules

pub returns-in_err-read_all-clause-fault : goal.returns-in_err-read_all-clause-fault
returns-in_err-read_all-clause-fault c =
    let kept = c.take_classes.ensures.modules ∙ (c.take_value_sets.ensures.modules ∙ c.take_class_names.ensures.modules) in
    let stand : StandIn (length c.args.texts.now) c.take_classes.new.self.modules.items = rw kept c.in_ok-world.ensures.modules in
    let some : 0 < length c.args.texts.now = search rules in
    let is = c.in_err-read_all.ensures.fault (length c.args.texts.now) some stand in
    search rules

pub returns-clause-modules : goal.returns-clause-modules
returns-clause-modules c =
    rw (c.take_classes.ensures.modules ∙ (c.take_value_sets.ensures.modules ∙ c.take_class_names.ensures.modules))
    c.in_ok-world.ensures.modules
