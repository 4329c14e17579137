use Rattle.std.proofs.Common.{◌≡◌, ◌++◌, codes, flat_map, string_bytes}
use Rattle.asn_published_report.specs.Telling.{escaped}
use Rattle.asn_published_report.proofs.json.quoted.Given as goal

-- the characters so far are written
abbrev pub invariant-loop-letter : goal.invariant-loop-letter
invariant-loop-letter l = string_bytes l.out ≡ codes "\"" ++ flat_map escaped l.yielded
