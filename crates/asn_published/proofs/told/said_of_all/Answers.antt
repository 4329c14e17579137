-- The place has the words, and nothing else is said.
use Rattle.std.proofs.Common.{refl}
use Rattle.asn_published.proofs.told.said_of_all.Goals as goal

pub returns : goal.returns
returns c = ((_, refl, c.in_ok-from_str.ensures.ok, c.in_ok-from_str-2.ensures.ok), refl, refl)
