use Rattle.asn_containing.proofs.Meeting.{more_levels_meet}
use Rattle.asn_containing.proofs.laws.more_levels_serve.Goals as goal

pub returns : goal.returns
returns c = λ r T d v n more. more_levels_meet r T d v n more
