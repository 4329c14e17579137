use Rattle.std.proofs.Common.{◌≡◌, string_bytes, take}
use Rattle.asn_published_report.specs.Telling.{marked_lines}
use Rattle.asn_published_report.proofs.way.marked_text.Given as goal

-- the lines so far are those of the types that were passed
abbrev pub invariant-loop-index : goal.invariant-loop-index
invariant-loop-index l = string_bytes l.text ≡ marked_lines l.files l.marks 0 (take l.index l.report)
