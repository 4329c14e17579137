use Rattle.std.proofs.Common.{◌≡◌, ◌<◌, ◌∙◌, ◌-◌, length, ap, arith, rules, take}
use Rattle.asn_message.specs.Slots.{entries_after, entries_from, value_in, values_of}
use Rattle.asn_message.proofs.Passing.{no_value_passed, no_slot_passed, next_value_passed}
use Rattle.asn_message.proofs.RowSteps.{no_entry_from, first_entry_from}
use Rattle.asn_message.proofs.left.next_value.Goals as goal
use Rattle.asn_message.proofs.left.next_value.Goals.{then-count-absent-via-then-count-absent, then-count-absent-via-else-count-absent+then-is_empty}

pub returns-then-count-absent-clause-first : goal.returns-then-count-absent-clause-first
returns-then-count-absent-clause-first c =
    let os = c.args.left.row.octets.now in
    let ss = c.args.left.row.slots.now in
    elim c.then-count-absent.branch [
      | then-count-absent-via-then-count-absent w ↦ (no_value_passed c.args.left.count c.args.left.absent (entries_from os ss) w.if-count-absent.true).0
      | then-count-absent-via-else-count-absent+then-is_empty w ↦ (let none : length ss ≡ 0 = first_of (search rules, grind arith) in (no_slot_passed c.args.left.count c.args.left.absent (entries_from os ss) (no_entry_from os ss none)).0)
    ]

pub returns-then-count-absent-clause-others : goal.returns-then-count-absent-clause-others
returns-then-count-absent-clause-others c =
    let os = c.args.left.row.octets.now in
    let ss = c.args.left.row.slots.now in
    elim c.then-count-absent.branch [
      | then-count-absent-via-then-count-absent w ↦ (no_value_passed c.args.left.count c.args.left.absent (entries_from os ss) w.if-count-absent.true).1
      | then-count-absent-via-else-count-absent+then-is_empty w ↦ (let none : length ss ≡ 0 = first_of (search rules, grind arith) in (no_slot_passed c.args.left.count c.args.left.absent (entries_from os ss) (no_entry_from os ss none)).1)
    ]

pub returns-clause-first : goal.returns-clause-first
returns-clause-first c =
    let os = c.args.left.row.octets.now in
    let ss = c.args.left.row.slots.now in
    let some : 0 < length ss = first_of (search rules, grind arith) in
    (next_value_passed (c.args.left.count - c.args.left.absent - 1) (value_in os ss) (entries_after os ss) (entries_from os ss) c.args.left.count c.args.left.absent (omega (arith, c.if-count-absent.false)) (first_entry_from os ss some)).0

pub returns-clause-others : goal.returns-clause-others
returns-clause-others c =
    let os = c.args.left.row.octets.now in
    let ss = c.args.left.row.slots.now in
    let n = c.args.left.count - c.args.left.absent - 1 in
    let some : 0 < length ss = first_of (search rules, grind arith) in
    ap values_of (c.first_entries-next.ensures.entries ∙ ap (λ es. take n es) c.after.ensures.entries)
    ∙ (next_value_passed n (value_in os ss) (entries_after os ss) (entries_from os ss) c.args.left.count c.args.left.absent (omega (arith, c.if-count-absent.false)) (first_entry_from os ss some)).1
