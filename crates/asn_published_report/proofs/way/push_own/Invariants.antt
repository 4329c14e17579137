use Rattle.std.proofs.Common.{◌≡◌, ◌++◌, flat_map, string_bytes, take}
use Rattle.asn_published_report.specs.Telling.{own_line}
use Rattle.asn_published_report.proofs.way.push_own.Given as goal

-- the lines so far are those of the notes that were passed
abbrev pub invariant-loop-note : goal.invariant-loop-note
invariant-loop-note l =
    string_bytes l.text ≡ string_bytes l.fn.text
    ++ flat_map (own_line l.file l.one) (take l.note-index l.one.notes.items)
