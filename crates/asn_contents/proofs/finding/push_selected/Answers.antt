use Rattle.std.proofs.Common.{◌++◌, ◌∷◌, [], ◌∙◌, ◌≡◌, Some, None, option_map, map, ap, sym}
use Rattle.std.proofs.lemmas.Result.{on_ok_weaker}
use Rattle.asn_values.specs.View.{entries_seen}
use Rattle.asn_contents.specs.Contents.{number_at, octets_at}
use Rattle.asn_contents.specs.View.{row_of, octets_now, content_list}
use Rattle.asn_contents.proofs.Places.{selected_absent, selected_there}
use Rattle.asn_contents.proofs.finding.push_selected.Goals as goal

pub returns-in-None : goal.returns-in-None
returns-in-None c =
    let s = c.args.selection.now in
    let es = entries_seen c.args.entries.now in
    let none : None ≡ octets_at s.open es = ap (option_map octets_now) (sym c.in-None.is) ∙ c.octets_at.ensures in
    selected_absent (map row_of s.rows.items) s.extensible (c.args.path.now ++ s.open ∷ []) (number_at s.by es) (octets_at s.open es) (content_list c.args.found.now.items) none

pub returns-in-Some : goal.returns-in-Some
returns-in-Some c =
    let s = c.args.selection.now in
    let es = entries_seen c.args.entries.now in
    let some : Some c.in-Some.octets.now ≡ octets_at s.open es = ap (option_map octets_now) (sym c.in-Some.is) ∙ c.octets_at.ensures in
    on_ok_weaker c.push_open.result
    (selected_there (map row_of s.rows.items) s.extensible (c.args.path.now ++ s.open ∷ []) (number_at s.by es) c.number_at-number.result (octets_at s.open es) c.in-Some.octets.now _ _ some c.number_at-number.ensures)
    c.push_open.ensures
