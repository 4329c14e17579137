-- The printed form of a module is a module of the same names and types.
use Rattle.std.proofs.Common.{◌≡◌, ℕ, List, [], ◌∷◌, ◌++◌, map, Option, Some, None, Result, Ok, Err, refl, sym, ap, subst, ◌∙◌, append_assoc}
use Rattle.std.proofs.lemmas.Bool.{ltb-false}
use Rattle.std.proofs.lemmas.List.{append-nil}
use Rattle.std.specs.Prelude.{OnOk, is_ok, if◌then◌else◌}
use Rattle.std.specs.List.{AllByRecursion}
use Rattle.asn_values.specs.Measures.{depth}
use Rattle.asn_values.specs.Profile.{InProfile, TooDeep, most_levels}
use Rattle.asn_notation.specs.declared.token.Word.TheVariants as reserved
use Rattle.asn_notation.specs.Token.{Token, name, word}
use Rattle.asn_notation.specs.Tree.{Assignment}
use Rattle.asn_notation.specs.Grammar as g
use Rattle.asn_notation.specs.Lexing.{lexed, lex, blank_from}
use Rattle.asn_notation.specs.Fitting.{IsTree}
use Rattle.asn_notation.specs.Printed.{IsPrintable, IsRead, token_text, line}
use Rattle.asn_notation.proofs.LexedWords.{lexed_read}
use Rattle.asn_notation.proofs.Printing.{line_again}
use Rattle.asn_module.specs.Accepted.{Accepted, AreTypes, Typed, ModuleTypes}
use Rattle.asn_module.specs.Known.{typed_if}
use Rattle.asn_module.specs.declared.known.Known.{Known}
use Rattle.asn_module.specs.Meaning.{stands_for}
use Rattle.asn_module.specs.Printing.{Adds, after_spaces, type_printed, line_printed, lines_printed, printed}
use Rattle.asn_module.proofs.PrintedBounds.{AreWords}
use Rattle.asn_module.proofs.PrintedTypes.{TypeAgain, type_again}

abbrev assignment_printed : Typed → Assignment
assignment_printed x = record { name = x.name; tree = type_printed x.shape }

-- a name with a type of the profile
record IsGood (x : Typed) : Type 0 where
  named : IsPrintable (name x.name)
  of_profile : InProfile x.shape

again : (all : List Assignment) (x : Typed) → IsGood x → TypeAgain (stands_for 0 all) x.shape 64
again all x h = type_again (stands_for 0 all) x.shape 64 (ltb-false most_levels (depth x.shape) (h.of_profile TooDeep)) h.of_profile

-- ---- the text is read as what it was printed from

line_words : (x : Typed) → IsGood x → AreWords (g.assignment (assignment_printed x))
line_words x h = (h.named, (tt, (again [] x h).words))

lines_again : (xs : List Typed) (rest : List ℕ) → AllByRecursion IsGood xs → lexed (lines_printed xs ++ rest) ≡ g.assignments (map assignment_printed xs) ++ lexed rest
lines_again [] rest h = refl
lines_again (x ∷ xs) rest h =
    let first = g.assignment (assignment_printed x) in
    ap lexed (append_assoc (line first) (lines_printed xs) rest) ∙ line_again first (lines_printed xs ++ rest) (line_words x h.0)
    ∙ ap (λ (ts : List Token). first ++ ts) (lines_again xs rest h.1) ∙ sym (append_assoc first (g.assignments (map assignment_printed xs)) (lexed rest))

end_again : lexed (line (word reserved.End ∷ [])) ≡ word reserved.End ∷ []
unfolding lexed lex blank_from
end_again = ap lexed (sym (append-nil (line (word reserved.End ∷ [])))) ∙ line_again (word reserved.End ∷ []) [] (tt, tt)

all_again : (n : List ℕ) (xs : List Typed) → IsPrintable (name n) → AllByRecursion IsGood xs
    → lexed ((line (g.heading n) ++ lines_printed xs) ++ line (word reserved.End ∷ [])) ≡ (g.heading n ++ g.assignments (map assignment_printed xs)) ++ word reserved.End ∷ []
all_again n xs named h =
    let last = line (word reserved.End ∷ []) in
    let all = g.assignments (map assignment_printed xs) in
    ap lexed (append_assoc (line (g.heading n)) (lines_printed xs) last) ∙ line_again (g.heading n) (lines_printed xs ++ last) (named, (tt, (tt, (tt, (tt, (tt, tt))))))
    ∙ ap (λ (ts : List Token). g.heading n ++ ts) (lines_again xs last h ∙ ap (λ (ts : List Token). all ++ ts) end_again) ∙ sym (append_assoc (g.heading n) all (word reserved.End ∷ []))

-- ---- the names are words, since they stand in a text

left_read : (xs ys : List Token) → AllByRecursion IsRead (xs ++ ys) → AllByRecursion IsRead xs
left_read [] ys h = tt
left_read (x ∷ xs) ys h = (h.0, left_read xs ys h.1)

right_read : (xs ys : List Token) → AllByRecursion IsRead (xs ++ ys) → AllByRecursion IsRead ys
right_read [] ys h = h
right_read (x ∷ xs) ys h = right_read xs ys h.1

are_good : (all rest : List Assignment) (xs : List Typed) → AreTypes all rest xs → AllByRecursion IsRead (g.assignments rest) → AllByRecursion IsGood xs
are_good all [] [] h r = tt
are_good all [] (x ∷ xs) h r = absurd h
are_good all (a ∷ rest) [] h r = absurd h
are_good all (a ∷ rest) (x ∷ xs) h r =
    let here : IsPrintable (name a.name) = (left_read (g.assignment a) (g.assignments rest) r).0 in
    (record { named = subst (λ (n : List ℕ). IsPrintable (name n)) (sym h.0) here; of_profile = h.2 }, are_good all rest xs h.3 (right_read (g.assignment a) (g.assignments rest) r))

same_names : (all rest : List Assignment) (xs : List Typed) → AreTypes all rest xs → map (λ a. a.name) (map assignment_printed xs) ≡ map (λ a. a.name) rest
same_names all [] [] h = refl
same_names all [] (x ∷ xs) h = absurd h
same_names all (a ∷ rest) [] h = absurd h
same_names all (a ∷ rest) (x ∷ xs) h = rw (h.0, same_names all rest xs h.3) refl

-- ---- a module again

all_fit : (xs : List Typed) → AllByRecursion IsGood xs → AllByRecursion (λ (a : Assignment). IsTree a.tree 64) (map assignment_printed xs)
all_fit [] h = tt
all_fit (x ∷ xs) h = ((again [] x h.0).fits, all_fit xs h.1)

all_typed : (all : List Assignment) (xs : List Typed) → AllByRecursion IsGood xs → AreTypes all (map assignment_printed xs) xs
all_typed all [] h = tt
all_typed all (x ∷ xs) h =
    let m = (again all x h.0).means in
    (refl, record { steps = 0; constraint = m.constraint; is = m.is }, h.0.of_profile, all_typed all xs h.1)

pub printed_again : (text : List ℕ) (m : ModuleTypes) → Accepted text m → Accepted (printed m) m
printed_again text m h =
    let tree = h.tree in
    let all = map assignment_printed m.types in
    let read = subst (λ (ts : List Token). AllByRecursion IsRead ts) h.written.tokens (lexed_read text) in
    let front = left_read (g.heading tree.name ++ g.assignments tree.assignments) (word reserved.End ∷ []) read in
    let head : IsPrintable (name m.name) = subst (λ (n : List ℕ). IsPrintable (name n)) (sym h.named) (left_read (g.heading tree.name) (g.assignments tree.assignments) front).0 in
    let good = are_good tree.assignments tree.assignments m.types h.typed (right_read (g.heading tree.name) (g.assignments tree.assignments) front) in
    record {
      tree = record { name = m.name; assignments = all };
      written = record { tokens = all_again m.name m.types head good; fits = all_fit m.types good };
      distinct = rw (same_names tree.assignments tree.assignments m.types h.typed) h.distinct;
      named = refl;
      typed = all_typed all m.types good;
    }

-- ---- what the writers of lines add

line_ends : (x : Token) (xs : List Token) → line (x ∷ xs) ≡ token_text x ++ (after_spaces xs ++ 10 ∷ [])
line_ends x [] = refl
line_ends x (y ∷ xs) = ap (λ (l : List ℕ). token_text x ++ 32 ∷ l) (line_ends y xs ∙ sym (append_assoc (token_text y) (after_spaces xs) (10 ∷ [])))

pub line_written : {T E : Type 0} (r : Result T E) (x : Token) (xs : List Token) (a b c d : List ℕ) → b ≡ a ++ token_text x → Adds xs b c → d ≡ (if is_ok r then c ++ 10 ∷ [] else c) → OnOk r (d ≡ a ++ line (x ∷ xs))
line_written (Err e) x xs a b c d first others last = tt
line_written (Ok u) x xs a b c d first others last =
    last ∙ rw (others, first) (append_assoc (a ++ token_text x) (after_spaces xs) (10 ∷ []) ∙ append_assoc a (token_text x) (after_spaces xs ++ 10 ∷ []) ∙ ap (λ (l : List ℕ). a ++ l) (sym (line_ends x xs)))

-- the line of a name, where it has a type, and those of the others
pub lines_first : (n : List ℕ) (o : Option Known) (xs : List Typed) → lines_printed (typed_if n o xs) ≡ lines_printed (typed_if n o []) ++ lines_printed xs
lines_first n None xs = refl
lines_first n (Some k) xs = ap (λ (l : List ℕ). l ++ lines_printed xs) (sym (append-nil (line_printed n _)))
