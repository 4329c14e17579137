-- A path has no LF, so that the refusal that tells it is one line.
use Rattle.std.proofs.Common.{arith, ◌≡◌, ℕ, true, false, List, [], ◌∷◌, ◌++◌, refl, sym, ◌∙◌, append_assoc, ◌==◌}
use Rattle.std.proofs.lemmas.Bool.{and_parts, or_from}
use Rattle.std.specs.Prelude.{codes}
use Rattle.std.specs.List.{list_all, list_any}
use Rattle.asn_jobs.specs.Lines.{IsOneLine}
use Rattle.asn_look.specs.Refusals.{is_of_path, is_path, IsEndedLine}

no_end : (octet : ℕ) → is_of_path octet ≡ true → (octet == 10) ≡ false
no_end octet is = grind arith

no_ends : (octets : List ℕ) → list_all is_of_path octets ≡ true → IsOneLine octets
no_ends [] are = refl
no_ends (octet ∷ octets) are =
    let each = and_parts (is_of_path octet) (list_all is_of_path octets) are in
    or_from (octet == 10) (list_any (λ x. x == 10) octets) (no_end octet each.0) (no_ends octets each.1)

one_line : (path : List ℕ) → is_path path ≡ true → IsOneLine path
one_line [] is = refl
one_line (octet ∷ octets) is =
    let each = and_parts (octet == 36) (list_all is_of_path octets) is in
    or_from (octet == 10) (list_any (λ x. x == 10) octets) (grind arith) (no_ends octets each.1)

pub told_in_one_line : (path refusal : List ℕ) → is_path path ≡ true → refusal ≡ codes "! skipped " ++ (path ++ 10 ∷ []) → IsEndedLine refusal
told_in_one_line path refusal is told =
    (codes "! skipped " ++ path, told ∙ sym (append_assoc (codes "! skipped ") path (10 ∷ [])), one_line path is)

pub shape_in_one_line : (path refusal : List ℕ) → is_path path ≡ true → refusal ≡ codes "! shape " ++ (path ++ 10 ∷ []) → IsEndedLine refusal
shape_in_one_line path refusal is told =
    (codes "! shape " ++ path, told ∙ sym (append_assoc (codes "! shape ") path (10 ∷ [])), one_line path is)
