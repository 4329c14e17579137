use Rattle.std.proofs.Common.{◌≡◌, ◌-◌, ◌∙◌, [], drop, List, Option, sym, ap, refl, arith}
use Rattle.asn_values.specs.Datum.{Datum}
use Rattle.asn_values.proofs.Alternatives.{no_truth}
use Rattle.asn_message.specs.Rows.{left_entries}
use Rattle.asn_message.specs.Sources.{entries_at}
use Rattle.asn_message.proofs.Sourced.{absent_after, left_same, others_there}
use Rattle.asn_message.proofs.source.take_entry.Goals as goal

pub returns-then-is_done-clause-others : goal.returns-then-is_done-clause-others
returns-then-is_done-clause-others c =
    let e = c.args.entries.now in
    let left = c.left_of-left.ensures in
    let none : entries_at e.first.row e.count e.before ≡ [] = sym (left_same c.left_of-left.result e.first.row e.count e.before left.row left.count left.absent) ∙ c.if-is_done.ensures.0 refl in
    absent_after e.most e.after c.saturating_sub.result (entries_at e.first.row e.count e.before) none c.if-before-eq0.false c.saturating_sub.ensures

pub returns-in-Some-clause-others : goal.returns-in-Some-clause-others
returns-in-Some-clause-others c =
    let e = c.args.entries.now in
    let left = c.left_of-left.ensures in
    let same : left_entries c.left_of-left.result ≡ entries_at e.first.row e.count e.before = left_same c.left_of-left.result e.first.row e.count e.before left.row left.count left.absent in
    let l = c.next_entry.result.1 in
    let after : entries_at c.at.result.row l.count l.absent ≡ drop 1 (entries_at e.first.row e.count e.before) =
    sym (left_same l c.at.result.row l.count l.absent (sym c.at.ensures) refl refl) ∙ c.next_entry.ensures.others ∙ ap (λ (es : List (Option Datum)). drop 1 es) same in
    others_there e.most (e.most - 1) e.after (entries_at e.first.row e.count e.before) (entries_at c.at.result.row l.count l.absent)
    (λ none. no_truth (c.if-is_done.ensures.1 (same ∙ none))) (omega (arith, c.if-before-eq0.false)) after

pub returns-in-None-clause-others : goal.returns-in-None-clause-others
returns-in-None-clause-others c =
    let e = c.args.entries.now in
    let left = c.left_of-left.ensures in
    let same : left_entries c.left_of-left.result ≡ entries_at e.first.row e.count e.before = left_same c.left_of-left.result e.first.row e.count e.before left.row left.count left.absent in
    let l = c.next_entry.result.1 in
    let after : entries_at c.at.result.row l.count l.absent ≡ drop 1 (entries_at e.first.row e.count e.before) =
    sym (left_same l c.at.result.row l.count l.absent (sym c.at.ensures) refl refl) ∙ c.next_entry.ensures.others ∙ ap (λ (es : List (Option Datum)). drop 1 es) same in
    others_there e.most (e.most - 1) e.after (entries_at e.first.row e.count e.before) (entries_at c.at.result.row l.count l.absent)
    (λ none. no_truth (c.if-is_done.ensures.1 (same ∙ none))) (omega (arith, c.if-before-eq0.false)) after
