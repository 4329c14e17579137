use Rattle.std.proofs.Common.{ap, ◌∙◌}
use Rattle.asn_values.specs.Profile.{bad_names}
use Rattle.asn_values.specs.Shape.{more_labels}
use Rattle.asn_values.specs.View.{more_labels_of}
use Rattle.asn_values.proofs.NameLists.{names_of_items}
use Rattle.asn_values.proofs.enumerations.has_bad_names.Goals as goal

pub returns : goal.returns
returns c =
    c.are_bad.ensures ∙ ap bad_names (names_of_items c.args.root.now c.additions.result.now (more_labels (more_labels_of c.args.ext.now)) c.additions.ensures)
