use Rattle.std.proofs.Common.{rules}
use Rattle.asn_notation.specs.declared.notation.TypeNotation.{the_lemmas}
use Rattle.asn_module.proofs.counting.+counting.Goals as goal

pub count-count_components-requires-in-Some : goal.count-count_components-requires-in-Some
count-count_components-requires-in-Some t c = (search (rules, the_lemmas), c.requires)

pub count-count_branches-requires-in-Some-more : goal.count-count_branches-requires-in-Some-more
count-count_branches-requires-in-Some-more t c = (search (rules, the_lemmas), c.requires)
