-- By the number of the rules the octets are checked.
use Rattle.std.proofs.Common.{rules}
use Rattle.tulvorn_c.proofs.within.tulvorn_check_within.Goals.{in-Checked+in-0, in-Checked+in-1, in-Checked+in_default-rules, in_default-it}
use Rattle.tulvorn_c.proofs.within.tulvorn_check_within.Goals as goal

pub returns-clause-told : goal.returns-clause-told
returns-clause-told c =
    elim c.match-it.branch [
      | in-Checked+in-0 w ↦ rw (c.in-Some.ensures, w.in-Checked.is, w.in-0.is, w.fault-is) w.check_by.ensures
      | in-Checked+in-1 w ↦ rw (c.in-Some.ensures, w.in-Checked.is, w.in-1.is, w.fault-is) w.check_by-in-1.ensures
      | in-Checked+in_default-rules w ↦ search rules
      | in_default-it w ↦ search rules
    ]
