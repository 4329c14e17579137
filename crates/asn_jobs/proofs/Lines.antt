-- Lines of octets, cut one after the other.
use Rattle.std.proofs.Common.{◌≡◌, ◌≢◌, ◌<◌, ◌==◌, ℕ, zero, suc, false, List, [], ◌∷◌, ◌++◌, length, get_or, take, drop, refl, sym, ◌∙◌, ap, append_assoc, length-take-le, get_or-take, length-drop, arith, rules, inl, inr, Option, Some, None, option_map}
use Rattle.std.proofs.lemmas.Bool.{eqb-true}
use Rattle.std.proofs.lemmas.Bool.Decides.{nat_tests}
use Rattle.std.proofs.lemmas.Grind.{common_steps}
use Rattle.memchr.specs.Find.{IsFirstByte, is_byte}
use Rattle.asn_jobs.specs.Lines.{lines_of, is_mark_line, cut_at_mark, IsFirstLine}

-- an octet that is no LF begins the first line
begins : (x : ℕ) (xs line : List ℕ) (rest : List (List ℕ)) → x ≢ 10 → lines_of xs ≡ line ∷ rest → lines_of (x ∷ xs) ≡ (x ∷ line) ∷ rest
begins x xs line rest other e = let no : (x == 10) ≡ false = grind (arith, nat_tests) in rw (no, e) refl

-- a line, its LF and more
pub first_line : (line rest : List ℕ) → ((k : ℕ) → k < length line → get_or line k 0 ≢ 10) → lines_of ((line ++ 10 ∷ []) ++ rest) ≡ line ∷ lines_of rest
first_line [] rest h = refl
first_line (x ∷ xs) rest h = begins x ((xs ++ 10 ∷ []) ++ rest) xs (lines_of rest) (h 0 (omega arith)) (first_line xs rest (λ k below. h (suc k) (omega arith)))

-- a last line that lacks its LF
pub last_line : (x : ℕ) (line : List ℕ) → ((k : ℕ) → k < length (x ∷ line) → get_or (x ∷ line) k 0 ≢ 10) → lines_of (x ∷ line) ≡ (x ∷ line) ∷ []
last_line x [] h = let no : (x == 10) ≡ false = (let other : x ≢ 10 = h 0 (omega arith) in grind (arith, nat_tests)) in rw no refl
last_line x (y ∷ ys) h = begins x (y ∷ ys) (y ∷ ys) [] (h 0 (omega arith)) (last_line y ys (λ k below. h (suc k) (omega arith)))

-- the octets up to an LF, and after it
pub cut_octets : (xs : List ℕ) (i : ℕ) → i < length xs → get_or xs i 0 ≡ 10 → xs ≡ (take i xs ++ 10 ∷ []) ++ drop 1 (drop i xs)
cut_octets [] i below e = absurd (omega arith)
cut_octets (x ∷ xs) zero below e = ap (λ y. y ∷ xs) e
cut_octets (x ∷ xs) (suc i) below e = ap (λ ys. x ∷ ys) (cut_octets xs i (omega arith) e)

-- a line that is cut at the first LF
pub cut_here : (xs : List ℕ) (i : ℕ) → i < length xs → ((k : ℕ) → k < i → get_or xs k 0 ≡ 10 → ⊥) → get_or xs i 0 ≡ 10 → IsFirstLine xs (take i xs) (drop 1 (drop i xs))
cut_here xs i below none e =
    let octets = cut_octets xs i below e in
    let size : length (take i xs) ≡ i = length-take-le i xs (omega arith) in
    record {
      lines = ap lines_of octets ∙ first_line (take i xs) (drop 1 (drop i xs)) (λ k under. rw (get_or-take i xs k 0 (omega arith)) (none k (omega arith)));
      octets = inl octets;
      shorter = simp (length-drop, length-drop) (omega arith);
    }

-- the last line, without an LF
pub cut_last : (xs : List ℕ) → 0 < length xs → ((k : ℕ) → k < length xs → get_or xs k 0 ≡ 10 → ⊥) → IsFirstLine xs xs []
cut_last [] some none = absurd (omega arith)
cut_last (x ∷ xs) some none = record { lines = last_line x xs none; octets = inr (refl, refl); shorter = some }

-- the first LF, as a search finds it
pub cut_at : (xs : List ℕ) (i : ℕ) → IsFirstByte (is_byte 10) xs (Some i) → IsFirstLine xs (take i xs) (drop 1 (drop i xs))
cut_at xs i f = cut_here xs i f.0.high (λ k below e. f.0.before k (omega arith) below (rw e refl)) (eqb-true (get_or xs i 0) 10 f.1)

pub cut_nowhere : (xs : List ℕ) → 0 < length xs → IsFirstByte (is_byte 10) xs None → IsFirstLine xs xs []
cut_nowhere xs some f = cut_last xs some (λ k below e. f k (omega arith) below (rw e refl))

abbrev pub Cut : Type 0
Cut = Option (List ℕ × List (List ℕ))

-- what a mark cuts, with octets in front
abbrev pub with_front : List ℕ → Cut → Cut
with_front front o = option_map (λ c. (front ++ c.0, c.1)) o

with_front_twice : (a b : List ℕ) (o : Cut) → with_front a (with_front b o) ≡ with_front (a ++ b) o
with_front_twice a b None = refl
with_front_twice a b (Some c) = ap (λ xs. Some (xs, c.1)) (sym (append_assoc a b c.0))

-- one more line was passed
pub line_passed : (input front rest line more : List ℕ) → input ≡ front ++ rest → cut_at_mark (lines_of input) ≡ with_front front (cut_at_mark (lines_of rest)) → IsFirstLine rest line more → is_mark_line line ≡ false
    → (x : List ℕ) × (input ≡ x ++ more) × (cut_at_mark (lines_of input) ≡ with_front x (cut_at_mark (lines_of more)))
line_passed input front rest line more is cut first other =
    let here : cut_at_mark (lines_of rest) ≡ with_front (line ++ 10 ∷ []) (cut_at_mark (lines_of more)) = rw (first.lines, other) refl in
    elim first.octets [
      | inl e ↦ (front ++ (line ++ 10 ∷ []), is ∙ (ap (λ xs. front ++ xs) e ∙ sym (append_assoc front (line ++ 10 ∷ []) more)), cut ∙ (ap (with_front front) here ∙ with_front_twice front (line ++ 10 ∷ []) _))
      | inr e ↦ (front ++ line, is ∙ rw (e.0, e.1) (search (rules, common_steps)), cut ∙ rw (here, e.1) refl)
    ]

pub take_whole : (xs : List ℕ) → take (length xs) xs ≡ xs
take_whole [] = refl
take_whole (x ∷ xs) = ap (λ ys. x ∷ ys) (take_whole xs)

pub drop_whole : (xs : List ℕ) → drop (length xs) xs ≡ []
drop_whole [] = refl
drop_whole (x ∷ xs) = drop_whole xs
