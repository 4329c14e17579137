use Rattle.std.proofs.Common.{◌≡◌, map, drop}
use Rattle.asn_contents.specs.Contents.{type_of_number}
use Rattle.asn_contents.specs.View.{row_of}
use Rattle.asn_contents.proofs.finding.type_of_number.Given as goal

-- the row is among those that are still to be looked at
abbrev pub invariant-loop-row : goal.invariant-loop-row
invariant-loop-row l = type_of_number (map row_of (drop l.row-index l.rows)) l.number ≡ type_of_number (map row_of l.rows) l.number
