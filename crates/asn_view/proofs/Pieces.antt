-- Pieces of a path.
use Rattle.std.proofs.Common.{◌≡◌, ◌∙◌, ◌≤◌, ◌<◌, ◌+◌, ◌-◌, ℕ, Bool, true, false, List, [], ◌∷◌, ◌++◌, length, take, drop, get_or, Option, None, cond, refl, sym, ap, add-one, arith}
use Rattle.std.specs.Option.{option_and_then}
use Rattle.std.proofs.lemmas.List.{take_more, get_or-drop, length-drop}
use Rattle.std.proofs.Math.Seq.{drop-cons}
use Rattle.asn_view.specs.Typed.{Typed}
use Rattle.asn_view.specs.Paths.{is_separator, value_after, value_at_step}

-- the characters of the path from one index on to another
abbrev pub piece_of : List ℕ → ℕ → ℕ → List ℕ
piece_of path start i = take (i - start) (drop start path)

piece_more : (path : List ℕ) (start i : ℕ) → start ≤ i → i < length path → piece_of path start (i + 1) ≡ piece_of path start i ++ get_or path i 0 ∷ []
piece_more path start i before within =
    let more : i + 1 - start ≡ (i - start) + 1 = omega arith in
    let same : start + (i - start) ≡ i = omega arith in
    let left : i - start < length (drop start path) = omega (arith, length-drop start path) in
    ap (λ n. take n (drop start path)) more ∙ take_more (drop start path) (i - start) 0 left
    ∙ ap (λ c. piece_of path start i ++ c ∷ []) (get_or-drop start path (i - start) 0 ∙ ap (λ n. get_or path n 0) same)

after_more : (path : List ℕ) (start i : ℕ) (v : Option Typed) → i < length path →
    value_after (piece_of path start i) (drop i path) v
    ≡ cond (is_separator (get_or path i 0)) (value_after [] (drop (i + 1) path) (option_and_then (value_at_step (piece_of path start i)) v))
    (value_after (piece_of path start i ++ get_or path i 0 ∷ []) (drop (i + 1) path) v)
after_more path start i v within =
    let left : drop i path ≡ get_or path i 0 ∷ drop (i + 1) path = rw add-one (drop-cons path i 0 within) in
    ap (λ cs. value_after (piece_of path start i) cs v) left

-- a character of the piece
pub piece_goes_on : (path : List ℕ) (start i : ℕ) (v : Option Typed) → start ≤ i → i < length path → is_separator (get_or path i 0) ≡ false →
    value_after (piece_of path start (i + 1)) (drop (i + 1) path) v ≡ value_after (piece_of path start i) (drop i path) v
piece_goes_on path start i v before within inside =
    ap (λ piece. value_after piece (drop (i + 1) path) v) (piece_more path start i before within)
    ∙ sym (after_more path start i v within ∙ ap (λ b. cond b (value_after [] (drop (i + 1) path) (option_and_then (value_at_step (piece_of path start i)) v)) (value_after (piece_of path start i ++ get_or path i 0 ∷ []) (drop (i + 1) path) v)) inside)

-- the end of a piece
pub piece_ends : (path : List ℕ) (start i : ℕ) (v : Option Typed) → i < length path → is_separator (get_or path i 0) ≡ true →
    value_after (piece_of path start i) (drop i path) v ≡ value_after [] (drop (i + 1) path) (option_and_then (value_at_step (piece_of path start i)) v)
piece_ends path start i v within ends =
    after_more path start i v within ∙ ap (λ b. cond b (value_after [] (drop (i + 1) path) (option_and_then (value_at_step (piece_of path start i)) v)) (value_after (piece_of path start i ++ get_or path i 0 ∷ []) (drop (i + 1) path) v)) ends

both_none : (b : Bool) (x y : Option Typed) → x ≡ None → y ≡ None → cond b x y ≡ None
both_none true x y hx hy = hx
both_none false x y hx hy = hy

-- nothing goes on from nothing
pub nothing_after : (piece cs : List ℕ) → value_after piece cs None ≡ None
nothing_after piece [] = refl
nothing_after piece (c ∷ cs) =
    both_none (is_separator c) (value_after [] cs None) (value_after (piece ++ c ∷ []) cs None) (nothing_after [] cs) (nothing_after (piece ++ c ∷ []) cs)
