use Rattle.asn_values.specs.View.{shape_of}
use Rattle.asn_oer.specs.Rules.{oer_ruling}
use Rattle.asn_oer.specs.Walk.{oer_coding}
use Rattle.asn_oer.proofs.rules.OerReads.may_be_empty.Goals as goal

pub returns : goal.returns
unfolding oer_coding
returns c = c.is_value_of_none.ensures oer_ruling (shape_of c.args.ty.now) c.read_message.ensures
