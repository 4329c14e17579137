use Rattle.std.proofs.Common.{◌≡◌, flat_map, string_bytes, take}
use Rattle.asn_published_report.specs.Missing.{import_line}
use Rattle.asn_published_report.proofs.missing.missing_text.Given as goal

-- the imports that were passed are written
abbrev pub invariant-loop-one : goal.invariant-loop-one
invariant-loop-one l = string_bytes l.text ≡ flat_map (import_line l.files) (take l.one-index l.missing)
