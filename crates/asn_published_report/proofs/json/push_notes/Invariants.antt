use Rattle.std.proofs.Common.{◌≡◌, ◌++◌, codes, flat_map, string_bytes, take}
use Rattle.asn_published_report.specs.Telling.{note_json}
use Rattle.asn_published_report.proofs.json.push_notes.Given as goal

-- the notes that were passed are written, each after a comma
abbrev pub invariant-loop-note : goal.invariant-loop-note
invariant-loop-note l =
    string_bytes l.out ≡ string_bytes l.initial.out ++ flat_map (note_json (codes ",")) (take l.note-index l.others)
