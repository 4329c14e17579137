-- Pieces of a path, along which types go.
use Rattle.std.proofs.Common.{◌≡◌, ◌∙◌, ◌≤◌, ◌<◌, ◌+◌, ◌-◌, ℕ, Bool, true, false, List, [], ◌∷◌, ◌++◌, length, take, drop, get_or, Option, None, cond, refl, sym, ap, add-one, arith}
use Rattle.std.specs.Option.{option_and_then}
use Rattle.std.proofs.lemmas.List.{take_more, get_or-drop, length-drop}
use Rattle.std.proofs.Math.Seq.{drop-cons}
use Rattle.asn_values.specs.Shape.{Shape}
use Rattle.asn_view.specs.Paths.{is_separator}
use Rattle.tulvorn_c.specs.Paths.{shape_after, shape_at_step}

-- the characters of the path from one index on to another
abbrev pub piece_of : List ℕ → ℕ → ℕ → List ℕ
piece_of path start i = take (i - start) (drop start path)

piece_more : (path : List ℕ) (start i : ℕ) → start ≤ i → i < length path → piece_of path start (i + 1) ≡ piece_of path start i ++ get_or path i 0 ∷ []
piece_more path start i before within =
    let more : i + 1 - start ≡ (i - start) + 1 = omega arith in
    let same : start + (i - start) ≡ i = omega arith in
    let left : i - start < length (drop start path) = omega (arith, length-drop start path) in
    ap (λ n. take n (drop start path)) more ∙ take_more (drop start path) (i - start) 0 left
    ∙ ap (λ c. piece_of path start i ++ c ∷ []) (get_or-drop start path (i - start) 0 ∙ ap (λ n. get_or path n 0) same)

after_more : (path : List ℕ) (start i : ℕ) (t : Option Shape) → i < length path →
    shape_after (piece_of path start i) (drop i path) t
    ≡ cond (is_separator (get_or path i 0)) (shape_after [] (drop (i + 1) path) (option_and_then (shape_at_step (piece_of path start i)) t))
    (shape_after (piece_of path start i ++ get_or path i 0 ∷ []) (drop (i + 1) path) t)
after_more path start i t within =
    let left : drop i path ≡ get_or path i 0 ∷ drop (i + 1) path = rw add-one (drop-cons path i 0 within) in
    ap (λ cs. shape_after (piece_of path start i) cs t) left

-- a character of the piece
pub piece_goes_on : (path : List ℕ) (start i : ℕ) (t : Option Shape) → start ≤ i → i < length path → is_separator (get_or path i 0) ≡ false →
    shape_after (piece_of path start (i + 1)) (drop (i + 1) path) t ≡ shape_after (piece_of path start i) (drop i path) t
piece_goes_on path start i t before within inside =
    ap (λ piece. shape_after piece (drop (i + 1) path) t) (piece_more path start i before within)
    ∙ sym (after_more path start i t within ∙ ap (λ b. cond b (shape_after [] (drop (i + 1) path) (option_and_then (shape_at_step (piece_of path start i)) t)) (shape_after (piece_of path start i ++ get_or path i 0 ∷ []) (drop (i + 1) path) t)) inside)

-- the end of a piece
pub piece_ends : (path : List ℕ) (start i : ℕ) (t : Option Shape) → i < length path → is_separator (get_or path i 0) ≡ true →
    shape_after (piece_of path start i) (drop i path) t ≡ shape_after [] (drop (i + 1) path) (option_and_then (shape_at_step (piece_of path start i)) t)
piece_ends path start i t within ends =
    after_more path start i t within ∙ ap (λ b. cond b (shape_after [] (drop (i + 1) path) (option_and_then (shape_at_step (piece_of path start i)) t)) (shape_after (piece_of path start i ++ get_or path i 0 ∷ []) (drop (i + 1) path) t)) ends

both_none : (b : Bool) (x y : Option Shape) → x ≡ None → y ≡ None → cond b x y ≡ None
both_none true x y hx hy = hx
both_none false x y hx hy = hy

-- nothing goes on from nothing
pub nothing_after : (piece cs : List ℕ) → shape_after piece cs None ≡ None
nothing_after piece [] = refl
nothing_after piece (c ∷ cs) =
    both_none (is_separator c) (shape_after [] cs None) (shape_after (piece ++ c ∷ []) cs None) (nothing_after [] cs) (nothing_after (piece ++ c ∷ []) cs)
