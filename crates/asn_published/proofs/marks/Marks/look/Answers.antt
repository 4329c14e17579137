-- Where a text tells how the type differs, that is said.
use Rattle.asn_published.proofs.marks.Marks.look.Goals as goal

pub returns-in-Some : goal.returns-in-Some
returns-in-Some c = rw (c.in-Some.is, ← c.as_str.ensures.value) c.said_of_all.ensures
