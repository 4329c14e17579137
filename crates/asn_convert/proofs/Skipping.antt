-- Skipped fields as texts, one after the other.
use Rattle.std.proofs.Common.{◌≡◌, ◌+◌, ◌<◌, ◌++◌, ℕ, zero, suc, List, [], ◌∷◌, length, get_or, take, sym, ap, subst, ◌∙◌, append_assoc, arith}
use Rattle.std.proofs.lemmas.List.{append-nil}
use Rattle.asn_newer.specs.Reading.{skipped_of, skipped_seen}
use Rattle.asn_rules.specs.declared.newer.Skipped.{Skipped}
use Rattle.asn_convert.specs.Answers.{skipped_text, skipped_texts}

-- one more field
pub one_field : (xs : List Skipped) (i : ℕ) (x : Skipped) → i < length xs → x ≡ get_or xs i x → skipped_texts (skipped_seen (take (suc i) xs)) ≡ skipped_texts (skipped_seen (take i xs)) ++ skipped_text (skipped_of x)
one_field [] i x below e = absurd (omega (arith, below))
one_field (y ∷ xs) zero x below e = append-nil (skipped_text (skipped_of y)) ∙ ap (λ f. skipped_text (skipped_of f)) (sym e)
one_field (y ∷ xs) (suc i) x below e =
    ap (λ t. skipped_text (skipped_of y) ++ t) (one_field xs i x (omega (arith, below)) e) ∙ sym (append_assoc (skipped_text (skipped_of y)) (skipped_texts (skipped_seen (take i xs))) (skipped_text (skipped_of x)))

-- the text so far, and one more field after it
pub one_more_field : (xs : List Skipped) (i : ℕ) (x : Skipped) (old text more new : List ℕ) → i < length xs → x ≡ get_or xs i x → text ≡ old ++ skipped_texts (skipped_seen (take i xs))
    → more ≡ skipped_text (skipped_of x) → new ≡ text ++ more → new ≡ old ++ skipped_texts (skipped_seen (take (i + 1) xs))
one_more_field xs i x old text more new below e before is written =
    let next : suc i ≡ i + 1 = omega arith in
    subst (λ n. new ≡ old ++ skipped_texts (skipped_seen (take n xs))) next
    (written ∙ ap (λ t. t ++ more) before ∙ ap (λ m. (old ++ skipped_texts (skipped_seen (take i xs))) ++ m) is ∙ append_assoc old (skipped_texts (skipped_seen (take i xs))) (skipped_text (skipped_of x))
    ∙ ap (λ t. old ++ t) (sym (one_field xs i x below e)))
