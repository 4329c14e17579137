use Rattle.std.proofs.Common.{◌≡◌, flat_map, string_bytes, take}
use Rattle.asn_published_report.specs.Telling.{type_lines}
use Rattle.asn_published_report.proofs.telling.report_text.Given as goal

-- the types that were passed are written
abbrev pub invariant-loop-one : goal.invariant-loop-one
invariant-loop-one l = string_bytes l.text ≡ flat_map (type_lines l.files) (take l.one-index l.report)
