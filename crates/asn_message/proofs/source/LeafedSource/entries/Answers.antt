use Rattle.std.proofs.Common.{◌≡◌, ◌+◌, ◌∙◌, [], drop, take, sym, refl, arith}
use Rattle.asn_message.specs.Rows.{row_value, left_entries}
use Rattle.asn_message.specs.Slots.{entries_in}
use Rattle.asn_message.specs.Sources.{entries_at}
use Rattle.asn_message.proofs.Sourced.{entries_whole, left_same}
use Rattle.asn_message.proofs.source.LeafedSource.entries.Goals as goal

pub returns-in-Some-Sequence-clause-some : goal.returns-in-Some-Sequence-clause-some
returns-in-Some-Sequence-clause-some c =
    let row = c.args.self.row in
    let l = c.first_entries-inside.result in
    let es = entries_in row.octets.now (drop 1 row.slots.now) [] in
    let arm = c.in-Some-Sequence in
    let taken : left_entries l ≡ take arm.taken es = rw (c.inside.ensures.slots, c.inside.ensures.octets) at c.first_entries-inside.ensures.entries in
    let left : entries_at c.at.result.row l.count l.absent ≡ take arm.taken es = sym (left_same l c.at.result.row l.count l.absent (sym c.at.ensures) refl refl) ∙ taken in
    entries_whole row.octets.now arm.field-0 arm.taken arm.absent (arm.taken + arm.absent) es (entries_at c.at.result.row l.count l.absent) (row_value row) arm.field-0-is arm.ensures.some left (omega arith)
