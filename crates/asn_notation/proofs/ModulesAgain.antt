-- A module that is written is read again.
use Rattle.std.proofs.Common.{◌≡◌, ℕ, zero, suc, ◌<◌, ◌≤◌, false, List, [], ◌∷◌, ◌++◌, length, Some, refl, sym, ap, ◌∙◌, append_assoc, arith}
use Rattle.std.proofs.lemmas.List.{append-nil, length-append}
use Rattle.std.specs.List.{AllByRecursion}
use Rattle.asn_notation.specs.declared.token.Word.TheVariants as words
use Rattle.asn_notation.specs.declared.token.Sign.TheVariants as signs
use Rattle.asn_notation.specs.Token.{Token, word}
use Rattle.asn_notation.specs.Tree.{Assignment, ModuleTree}
use Rattle.asn_notation.specs.Reading.{begins_sign, begins_word, after_sign, after_word}
use Rattle.asn_notation.specs.ModuleReading.{name_at, assignment_at, more_assignments, assignments_at, heading_at, whole_module}
use Rattle.asn_notation.specs.Grammar as g
use Rattle.asn_notation.specs.Fitting.{IsTree, IsModule}
use Rattle.asn_notation.proofs.TreesAgain.{tree_again}

-- END, and nothing more
abbrev ending : List Token
ending = word words.End ∷ []

no_paren : (xs : List Assignment) → begins_sign signs.LeftParen (g.assignments xs ++ ending) ≡ false
unfolding begins_sign
no_paren [] = refl
no_paren (a ∷ xs) = refl

assignment_again : (levels : ℕ) (a : Assignment) (rest : List Token) → IsTree a.tree levels → begins_sign signs.LeftParen rest ≡ false → assignment_at levels (g.assignment a ++ rest) ≡ Some (a, rest)
unfolding assignment_at name_at after_sign begins_sign
assignment_again levels a rest fits stop = rw (tree_again a.tree levels rest fits stop) refl

assignments_again : (levels : ℕ) (xs : List Assignment) (n : ℕ) (found : List Assignment) → AllByRecursion (λ a. IsTree a.tree levels) xs → length xs < n
    → more_assignments levels n found (g.assignments xs ++ ending) ≡ Some (found ++ xs, ending)
unfolding more_assignments begins_word
assignments_again levels xs zero found all enough = absurd (omega arith)
assignments_again levels [] (suc n) found all enough = ap (λ (f : List Assignment). Some (f, ending)) (sym (append-nil found))
assignments_again levels (a ∷ xs) (suc n) found all enough =
    let tail : List Token = g.assignments xs ++ ending in
    ap (more_assignments levels (suc n) found) (append_assoc (g.assignment a) (g.assignments xs) ending)
    ∙ rw (assignment_again levels a tail all.0 (no_paren xs)) (assignments_again levels xs n (found ++ a ∷ []) all.1 (omega arith) ∙ ap (λ (f : List Assignment). Some (f, ending)) (append_assoc found (a ∷ []) xs))

enough : (xs : List Assignment) → length xs ≤ length (g.assignments xs ++ ending)
enough [] = omega arith
enough (a ∷ xs) =
    let inner = enough xs in
    let e = append_assoc (g.assignment a) (g.assignments xs) ending in
    let l = length-append (g.assignment a) (g.assignments xs ++ ending) in
    omega (arith, inner, ap length e, l)

all_again : (levels : ℕ) (xs : List Assignment) → AllByRecursion (λ a. IsTree a.tree levels) xs → assignments_at levels (g.assignments xs ++ ending) ≡ Some (xs, ending)
unfolding assignments_at
all_again levels xs all = let l = enough xs in assignments_again levels xs (suc (length (g.assignments xs ++ ending))) [] all (omega arith)

heading_again : (n : List ℕ) (rest : List Token) → heading_at (g.heading n ++ rest) ≡ Some (n, rest)
unfolding heading_at name_at after_word after_sign begins_word begins_sign
heading_again n rest = refl

pub module_again : (levels : ℕ) (m : ModuleTree) → IsModule m levels → whole_module levels (g.module_written m) ≡ Some m
unfolding whole_module after_word begins_word
module_again levels m fits = rw (heading_again m.name (g.assignments m.assignments ++ ending), all_again levels m.assignments fits) refl
