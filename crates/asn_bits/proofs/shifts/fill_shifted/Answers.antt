-- The words are filled in, and then single octets.
use Rattle.std.proofs.Common.{◌≡◌, ◌*◌, ◌/◌, ◌++◌, [], length, drop, sym, ◌∙◌, ap}
use Rattle.std.proofs.lemmas.List.{take-append-drop}
use Rattle.asn_bits.proofs.Moving.{begun_all, begun_front, shifted_after}
use Rattle.asn_bits.proofs.shifts.fill_shifted.Goals as goal

pub returns : goal.returns
returns c =
    let a = c.args in
    let words = c.fill_words-high.new.into in
    let high = c.fill_words-high.result in
    let rest = c.split_at.result.1.now in
    let whole = length a.octets.now / 8 * 8 in
    let parts : a.octets.now ≡ c.split_at.result.0.now ++ rest =
    sym (take-append-drop whole a.octets.now) ∙ ap (λ t. t ++ drop whole a.octets.now) (sym c.split_at.ensures.front)
    ∙ ap (λ t. c.split_at.result.0.now ++ t) (sym c.split_at.ensures.back) in
    let start = begun_front [] words a.octets.now _ rest a.count a.pending high c.fill_words-high.ensures.shifted parts in
    begun_all [] words _ a.octets.now rest a.count a.pending high c.fill_singles.result start
    (shifted_after words c.fill_singles.new.into rest a.count high c.fill_singles.result c.fill_singles.ensures)
