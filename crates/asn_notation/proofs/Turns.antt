-- Lists that are read an entry at a time.
use Rattle.std.proofs.Common.{◌≡◌, ℕ, zero, suc, ◌-◌, ◌<◌, true, false, List, [], ◌∷◌, ◌++◌, drop, Option, Some, None, refl, arith, ◌∙◌}
use Rattle.asn_notation.specs.Token.{Token}
use Rattle.std.proofs.Common.{ℕ, length, Result, Ok, Err}
use Rattle.std.specs.Result.{IsErrAnd}
use Rattle.asn_notation.specs.declared.fault.SyntaxFault.{SyntaxFault}
use Rattle.asn_notation.specs.declared.fault.SyntaxFault.TheVariants.{Memory}
use Rattle.asn_notation.specs.declared.notation.ItemNotation.{ItemNotation}
use Rattle.asn_notation.specs.declared.notation.ComponentNotation.{ComponentNotation}
use Rattle.asn_notation.specs.declared.notation.AlternativeNotation.{AlternativeNotation}
use Rattle.asn_notation.specs.declared.token.Sign.TheVariants.{RightBrace, Dots}
use Rattle.asn_notation.specs.declared.token.Word.TheVariants.{End}
use Rattle.asn_notation.specs.Tree.{Tree, Part, sequence, no_components, marked, components_of, item_view, items_view, part_view, parts_view, branch_view, branches_view, Assignment}
use Rattle.asn_notation.specs.Reading.{Read, Gives, goes_on, others, all_others, begins_sign, after_sign, begins_word, component_at, body_at}
use Rattle.asn_notation.specs.ModuleReading.{assignment_at, more_assignments, assignments_at}

-- an error that a `?` passes on
pub gives_err : {A B : Type 0} (f : A → B) (r : Result A SyntaxFault) (expected : Option B) (e : SyntaxFault) (Q : SyntaxFault → Type 0)
    → IsErrAnd r Q → ((y : SyntaxFault) → Q y → y ≡ e) → ((e ≡ Memory → ⊥) → expected ≡ None) → Gives f r expected
gives_err f (Ok a) expected e Q h same refused = absurd h
gives_err f (Err y) expected e Q h same refused = λ other. refused (λ m. other (same y h ∙ m))

-- a vector with one push
pub pushed_items : (old new : List ItemNotation) (i : ItemNotation) → old ≡ [] → new ≡ old ++ i ∷ [] → items_view new ≡ item_view i ∷ []
pushed_items old new i empty pushed = rw (pushed, empty) refl

pub pushed_branches : (old new : List AlternativeNotation) (a : AlternativeNotation) → old ≡ [] → new ≡ old ++ a ∷ [] → branches_view new ≡ branch_view a ∷ []
pushed_branches old new a empty pushed = rw (pushed, empty) refl

pub pushed_parts : (old new : List ComponentNotation) (c : ComponentNotation) → old ≡ [] → new ≡ old ++ c ∷ [] → parts_view new ≡ part_view c ∷ []
pushed_parts old new c empty pushed = rw (pushed, empty) refl

module _ {A : Type 0} (one : Read A) where
  pub others_end : (m : ℕ) (found : List A) (ts : List Token) → 0 < m → goes_on ts ≡ false → others one m found ts ≡ Some (found, ts)
  unfolding others
  others_end zero found ts some stop = absurd (omega arith)
  others_end (suc m) found ts some stop = rw stop refl

  pub others_more : (m : ℕ) (found : List A) (ts : List Token) (x : A) (after : List Token) → 0 < m → goes_on ts ≡ true → one (drop 1 ts) ≡ Some (x, after) → others one m found ts ≡ others one (m - 1) (found ++ x ∷ []) after
  unfolding others
  others_more zero found ts x after some more read = absurd (omega arith)
  others_more (suc m) found ts x after some more read =
      let less : suc m - 1 ≡ m = omega arith in
      rw (more, read, less) refl

  pub others_none : (m : ℕ) (found : List A) (ts : List Token) → 0 < m → goes_on ts ≡ true → one (drop 1 ts) ≡ None → others one m found ts ≡ None
  unfolding others
  others_none zero found ts some more read = absurd (omega arith)
  others_none (suc m) found ts some more read = rw (more, read) refl

  pub all_others_is : (found : List A) (ts : List Token) → all_others one found ts ≡ others one (suc (length ts)) found ts
  unfolding all_others
  all_others_is found ts = refl

-- a body without a root
pub body_dots : (one : Read Tree) (ts rest after : List Token) (found : List Part) → begins_sign RightBrace ts ≡ false → begins_sign Dots ts ≡ true
    → all_others (component_at one) [] (drop 1 ts) ≡ Some (found, rest) → after_sign RightBrace rest ≡ Some after
    → body_at one ts ≡ Some (sequence no_components (marked (components_of found)), after)
unfolding body_at
body_dots one ts rest after found no_brace begins read closed = rw (no_brace, begins, read, closed) refl

-- assignments, one at a time
pub assignments_end : (levels m : ℕ) (found : List Assignment) (ts : List Token) → 0 < m → begins_word End ts ≡ true → more_assignments levels m found ts ≡ Some (found, ts)
unfolding more_assignments
assignments_end levels zero found ts some stop = absurd (omega arith)
assignments_end levels (suc m) found ts some stop = rw stop refl

pub assignments_more : (levels m : ℕ) (found : List Assignment) (ts : List Token) (x : Assignment) (after : List Token) → 0 < m → begins_word End ts ≡ false → assignment_at levels ts ≡ Some (x, after)
    → more_assignments levels m found ts ≡ more_assignments levels (m - 1) (found ++ x ∷ []) after
unfolding more_assignments
assignments_more levels zero found ts x after some more read = absurd (omega arith)
assignments_more levels (suc m) found ts x after some more read =
    let less : suc m - 1 ≡ m = omega arith in
    rw (more, read, less) refl

pub assignments_none : (levels m : ℕ) (found : List Assignment) (ts : List Token) → 0 < m → begins_word End ts ≡ false → assignment_at levels ts ≡ None → more_assignments levels m found ts ≡ None
unfolding more_assignments
assignments_none levels zero found ts some more read = absurd (omega arith)
assignments_none levels (suc m) found ts some more read = rw (more, read) refl

pub assignments_are : (levels : ℕ) (ts : List Token) → assignments_at levels ts ≡ more_assignments levels (suc (length ts)) [] ts
unfolding assignments_at
assignments_are levels ts = refl
