use Rattle.std.proofs.Common.{◌≡◌, ◌++◌, take, string_bytes}
use Rattle.asn_newer.specs.Reading.{skipped_seen}
use Rattle.asn_convert.specs.Answers.{skipped_texts}
use Rattle.asn_convert.proofs.newer.push_skipped.Given as goal

-- after the text stand the fields so far
abbrev pub invariant-loop-field : goal.invariant-loop-field
invariant-loop-field l = string_bytes l.text ≡ string_bytes l.fn.text ++ skipped_texts (skipped_seen (take l.field-index l.skipped))
