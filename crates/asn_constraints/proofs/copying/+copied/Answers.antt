use Rattle.std.proofs.Common.{rules}
use Rattle.std.proofs.lemmas.List.Elements.{same_from_all_zip}
use Rattle.asn_constraints.proofs.Copies.{copied_numbers, copied_items, copied_lengths, copied_characters}
use Rattle.asn_constraints.proofs.copying.+copied.Goals as goal

pub copied-returns-in_ok-clone-in-Numbers : goal.copied-returns-in_ok-clone-in-Numbers
copied-returns-in_ok-clone-in-Numbers t c =
    copied_numbers c.args.constraint.now c.in-Numbers.intervals c.in_ok-clone-in-Numbers.field-0 c.in-Numbers.is (search (rules, same_from_all_zip))

pub copied-returns-in_ok-clone-in-Items : goal.copied-returns-in_ok-clone-in-Items
copied-returns-in_ok-clone-in-Items t c =
    copied_items c.args.constraint.now c.in-Items.positions c.in_ok-clone-in-Items.field-0 c.in-Items.is (search (rules, same_from_all_zip))

pub copied-returns-in_ok-clone-in-Lengths : goal.copied-returns-in_ok-clone-in-Lengths
copied-returns-in_ok-clone-in-Lengths t c =
    copied_lengths c.args.constraint.now c.in-Lengths.lengths c.in_ok-clone-in-Lengths.field-0 c.in-Lengths.is (search (rules, same_from_all_zip))

pub copied-returns-in_ok-clone-in-Characters : goal.copied-returns-in_ok-clone-in-Characters
copied-returns-in_ok-clone-in-Characters t c =
    copied_characters c.args.constraint.now c.in-Characters.intervals c.in_ok-clone-in-Characters.field-0 c.in-Characters.is (search (rules, same_from_all_zip))
