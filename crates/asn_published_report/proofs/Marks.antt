-- Lines of types that are marked, of one type more.
use Rattle.std.proofs.Common.{◌≡◌, ◌<◌, ◌+◌, ◌++◌, ◌∙◌, ℕ, zero, suc, add-one, Bool, false, List, [], ◌∷◌, length, get_or, take, append_assoc, append-nil, ap, sym, arith}
use Rattle.std.specs.Borrow.{Bor}
use Rattle.asn_published_types.specs.declared.report.TypeReport.{TypeReport}
use Rattle.asn_published_report.specs.Telling.{lines_if, marked_lines}

one_more : (files : List (Bor (List ℕ))) (marks : List Bool) (from : ℕ) (ts : List TypeReport) (i : ℕ) (t : TypeReport) (n : ℕ) → n ≡ from + i → i < length ts → get_or ts i t ≡ t → marked_lines files marks from (take (suc i) ts) ≡ marked_lines files marks from (take i ts) ++ lines_if files (get_or marks n false) t
one_more files marks from [] i t n at below is = absurd (omega arith)
one_more files marks from (x ∷ ts) zero t n at below is =
    let here : n ≡ from = omega (arith, at) in
    append-nil (lines_if files (get_or marks from false) x)
    ∙ (ap (λ k. lines_if files (get_or marks k false) x) (sym here) ∙ ap (λ y. lines_if files (get_or marks n false) y) is)
one_more files marks from (x ∷ ts) (suc i) t n at below is =
    let first = lines_if files (get_or marks from false) x in
    ap (λ xs. first ++ xs) (one_more files marks (suc from) ts i t n (omega (arith, at)) (omega (arith, below)) is)
    ∙ sym (append_assoc first (marked_lines files marks (suc from) (take i ts)) (lines_if files (get_or marks n false) t))

-- a text with the lines so far, and those of one type more
pub type_passed : (files : List (Bor (List ℕ))) (marks : List Bool) (ts : List TypeReport) (i : ℕ) (t : TypeReport) (before after : List ℕ) → i < length ts → get_or ts i t ≡ t → before ≡ marked_lines files marks 0 (take i ts) → after ≡ before ++ lines_if files (get_or marks i false) t → after ≡ marked_lines files marks 0 (take (i + 1) ts)
type_passed files marks ts i t before after below is so_far more =
    let step = one_more files marks 0 ts i t i (omega arith) below is in
    more ∙ (ap (λ xs. xs ++ lines_if files (get_or marks i false) t) so_far ∙ (sym step ∙ ap (λ k. marked_lines files marks 0 (take k ts)) (sym (add-one i))))
