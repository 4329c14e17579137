-- A text is read exactly where it is a module, as that module.
use Rattle.std.proofs.Common.{◌≡◌, ℕ, suc, List, [], ◌∷◌, ◌++◌, length, Option, Some, None, Result, Ok, Err, sym, ap, ◌∙◌}
use Rattle.std.specs.Prelude.{IfOk}
use Rattle.std.specs.List.{AllByRecursion}
use Rattle.asn_notation.specs.declared.fault.SyntaxFault.{SyntaxFault}
use Rattle.asn_notation.specs.declared.notation.ModuleNotation.{ModuleNotation}
use Rattle.asn_notation.specs.declared.token.Word.TheVariants as words
use Rattle.asn_notation.specs.Token.{Token, word}
use Rattle.asn_notation.specs.Tree.{Assignment, ModuleTree, module_view}
use Rattle.asn_notation.specs.Lexing.{lexed}
use Rattle.asn_notation.specs.Reading.{Gives, after_word}
use Rattle.asn_notation.specs.ModuleReading.{heading_at, assignments_at, if_end, whole_module}
use Rattle.asn_notation.specs.Grammar as g
use Rattle.asn_notation.specs.Fitting.{IsTree, IsModule}
use Rattle.asn_notation.specs.ModuleText.{IsModuleText}
use Rattle.asn_notation.proofs.Sound.{Is, none, now, bind, after_word_takes}
use Rattle.asn_notation.proofs.SoundTypes.{assignments_take, heading_takes}
use Rattle.asn_notation.proofs.Fits.{assignments_fit}
use Rattle.asn_notation.proofs.ModulesAgain.{module_again}

both : {A : Type 0} (P Q : A → Type 0) (r : Option A) → Is r P → Is r Q → Is r (λ x. P x × Q x)
both P Q None p q = none _
both P Q (Some x) p q = now _ _ (p.holds, q.holds)

assignments_found : (levels : ℕ) (ts : List Token) → Is (assignments_at levels ts) (λ p. (ts ≡ g.assignments p.0 ++ p.1) × AllByRecursion (λ a. IsTree a.tree levels) p.0)
unfolding assignments_at
assignments_found levels ts =
    again _ (both _ _ _ (assignments_take levels (suc (length ts)) [] ts) (assignments_fit levels (suc (length ts)) [] ts tt))
  where
    again : (r : Option (List Assignment × List Token)) → Is r (λ p. ((new : List Assignment) × (p.0 ≡ [] ++ new) × (ts ≡ g.assignments new ++ p.1)) × AllByRecursion (λ a. IsTree a.tree levels) p.0)
        → Is r (λ p. (ts ≡ g.assignments p.0 ++ p.1) × AllByRecursion (λ a. IsTree a.tree levels) p.0)
    again None h = none _
    again (Some p) h = let (new, all, e) = h.holds.0 in now _ _ (e ∙ ap (λ (xs : List Assignment). g.assignments xs ++ p.1) (sym all), h.holds.1)

whole_found : (levels : ℕ) (ts : List Token) → Is (whole_module levels ts) (λ m. (ts ≡ g.module_written m) × IsModule m levels)
unfolding whole_module
whole_found levels ts =
    bind _ _ (heading_at ts) _ (heading_takes ts) (λ n en.
    bind _ _ (assignments_at levels n.1) _ (assignments_found levels n.1) (λ xs h.
    bind _ _ (after_word words.End xs.1) _ (after_word_takes words.End xs.1) (λ rest er.
    at_end ts n.0 n.1 xs.0 xs.1 rest en h.0 er h.1)))
  where
    at_end : (ts : List Token) (n : List ℕ) (a : List Token) (xs : List Assignment) (b rest : List Token) → ts ≡ g.heading n ++ a → a ≡ g.assignments xs ++ b → b ≡ word words.End ∷ rest
        → AllByRecursion (λ a. IsTree a.tree levels) xs → Is (if_end (record { name = n; assignments = xs }) rest) (λ m. (ts ≡ g.module_written m) × IsModule m levels)
    at_end ts n a xs b [] en ea eb fits = now _ _ (en ∙ ap (λ (x : List Token). g.heading n ++ x) (ea ∙ ap (λ (x : List Token). g.assignments xs ++ x) eb), fits)
    at_end ts n a xs b (x ∷ rest) en ea eb fits = none _

found_at : (levels : ℕ) (text : List ℕ) (m : ModuleTree) (r : Option ModuleTree) → Is r (λ m. (lexed text ≡ g.module_written m) × IsModule m levels) → r ≡ Some m → IsModuleText levels text m
found_at levels text m None h e = absurd cc
found_at levels text m (Some found) h e =
    let same : found ≡ m = cc in
    let it : IsModuleText levels text found = record { tokens = h.holds.0; fits = h.holds.1 } in
    rw same at it

pub is_found : (levels : ℕ) (text : List ℕ) (r : Result ModuleNotation SyntaxFault) → Gives module_view r (whole_module levels (lexed text)) → IfOk r (λ m. IsModuleText levels text (module_view m))
is_found levels text (Ok m) given = found_at levels text (module_view m) (whole_module levels (lexed text)) (whole_found levels (lexed text)) given
is_found levels text (Err e) given = tt

pub is_only : (levels : ℕ) (text : List ℕ) (r : Result ModuleNotation SyntaxFault) → Gives module_view r (whole_module levels (lexed text)) → (m : ModuleTree) → IsModuleText levels text m → Gives module_view r (Some m)
is_only levels text r given m h = let read : whole_module levels (lexed text) ≡ Some m = ap (whole_module levels) h.tokens ∙ module_again levels m h.fits in rw read at given

some_is : (levels : ℕ) (a b : ModuleTree) → whole_module levels (g.module_written a) ≡ Some b → whole_module levels (g.module_written a) ≡ Some a → a ≡ b
some_is levels a b e f = let same : Some a ≡ Some b = sym f ∙ e in cc

-- a text is one module at most
pub one_module : (levels : ℕ) (text : List ℕ) (a b : ModuleTree) → IsModuleText levels text a → IsModuleText levels text b → a ≡ b
one_module levels text a b h k = some_is levels a b (ap (whole_module levels) (sym h.tokens ∙ k.tokens) ∙ module_again levels b k.fits) (module_again levels a h.fits)
