-- The lexer's definitions, a step at a time.
use Rattle.std.proofs.Common.{◌≡◌, ℕ, zero, suc, ◌+◌, ◌-◌, ◌<◌, ◌≤◌, Bool, true, false, cond, List, [], ◌∷◌, length, take, drop, get_or, Some, None, refl, ap, ◌∙◌, add-zero, arith}
use Rattle.std.proofs.lemmas.List.{get_or-drop, drop_more, drop_all, length-drop}
use Rattle.std.proofs.lemmas.Bool.Decides.{nat_tests}
use Rattle.std.specs.Prelude.{◌==◌, slice_index}
use Rattle.std.specs.Str.{IsUtf8, IsCharBoundary}
use Rattle.std.proofs.lemmas.Str.{IsCharBoundary-start, lead_after_ascii}
use Rattle.asn_notation.specs.declared.lexer.Blank.{Blank}
use Rattle.asn_notation.specs.declared.lexer.Blank.TheVariants as blank
use Rattle.std.specs.Char.{digit_value}
use Rattle.std.specs.Str.Parse.{AllDigits, IsNumeral}
use Rattle.asn_notation.specs.Lexing.{is_in_word, is_letter, is_digit, after_octet, counted_on, blank_from, word_len, digits_len, leading_sign, leading_token, lex, lexed, blank_len}

pub blank_from_at : (b : Blank) (xs : List ℕ) (i : ℕ) → i < length xs
    → blank_from b (drop i xs) ≡ counted_on (after_octet b (get_or xs i 0) (get_or xs (i + 1) 0)) (λ next. blank_from next (drop (i + 1) xs))
unfolding blank_from
blank_from_at b xs i h =
    let next : get_or (drop (i + 1) xs) 0 0 ≡ get_or xs (i + 1) 0 = rw (get_or-drop (i + 1) xs 0 0, add-zero) in
    rw (drop_more xs i 0 h, next)

pub word_len_at : (xs : List ℕ) (i : ℕ) → i < length xs → word_len (drop i xs) ≡ cond (is_in_word (get_or xs i 0) (get_or xs (i + 1) 0)) (suc (word_len (drop (i + 1) xs))) 0
unfolding word_len
word_len_at xs i h =
    let next : get_or (drop (i + 1) xs) 0 0 ≡ get_or xs (i + 1) 0 = rw (get_or-drop (i + 1) xs 0 0, add-zero) in
    rw (drop_more xs i 0 h, next)

pub blank_from_past : (b : Blank) (xs : List ℕ) (i : ℕ) → length xs ≤ i → blank_from b (drop i xs) ≡ 0
unfolding blank_from
blank_from_past b xs i h = rw (drop_all i xs h) refl

pub word_len_past : (xs : List ℕ) (i : ℕ) → length xs ≤ i → word_len (drop i xs) ≡ 0
unfolding word_len
word_len_past xs i h = rw (drop_all i xs h) refl

-- only outside a comment can an octet stop
pub stops_outside : (b : Blank) (c next : ℕ) → after_octet b c next ≡ None → b ≡ blank.Outside
unfolding after_octet
stops_outside blank.Outside c next e = refl
stops_outside blank.Opened c next e = absurd cc
stops_outside blank.Inside c next e = absurd (grind (arith, nat_tests))
stops_outside blank.Closing c next e = absurd cc

-- what leads outside is an ASCII octet: after the first hyphen of a closing pair stands a hyphen
pub leads_outside : (b : Blank) (c next : ℕ) → (b ≡ blank.Closing → c ≡ 45) → after_octet b c next ≡ Some blank.Outside → c < 128
unfolding after_octet
leads_outside blank.Outside c next hyphen e = grind (arith, nat_tests)
leads_outside blank.Opened c next hyphen e = absurd cc
leads_outside blank.Inside c next hyphen e = grind (arith, nat_tests)
leads_outside blank.Closing c next hyphen e = omega (arith, hyphen refl)

pub leads_closing : (b : Blank) (c next : ℕ) → after_octet b c next ≡ Some blank.Closing → next ≡ 45
unfolding after_octet
leads_closing blank.Outside c next e = grind (arith, nat_tests)
leads_closing blank.Opened c next e = absurd cc
leads_closing blank.Inside c next e = grind (arith, nat_tests)
leads_closing blank.Closing c next e = absurd cc

-- ---- where a text may be cut

pub boundary : (s : List ℕ) (at : ℕ) → IsUtf8 s → at ≤ length s → (0 < at → at < length s → get_or s (at - 1) 0 < 128) → IsCharBoundary s at
boundary s zero utf8 within ascii = IsCharBoundary-start s utf8
boundary s (suc i) utf8 within ascii =
    let back : suc i - 1 ≡ i = omega arith in
    let on : i + 1 ≡ suc i = omega arith in (
      within,
      λ less wide.
          let narrow : get_or s i 0 < 128 = rw back at (ascii (omega arith) less) in
          let there : i + 1 < length s = omega arith in
          let lead : 128 ≤ get_or s (i + 1) 0 → 192 ≤ get_or s (i + 1) 0 = lead_after_ascii s i utf8 narrow there in
          rw on at lead wide,
    )

ascii_from : (b : Bool) (c : ℕ) (cs : List ℕ) (n i : ℕ) → (b ≡ true → c < 128) → ((j : ℕ) → j < n → get_or cs j 0 < 128) → i < cond b (suc n) 0 → get_or (c ∷ cs) i 0 < 128
ascii_from true c cs n zero narrow inner less = narrow refl
ascii_from true c cs n (suc j) narrow inner less = inner j (omega arith)
ascii_from false c cs n i narrow inner less = absurd (omega arith)

in_word_ascii : (c next : ℕ) → is_in_word c next ≡ true → c < 128
in_word_ascii c next e = grind (arith, nat_tests)

digit_ascii : (c : ℕ) → is_digit c ≡ true → c < 128
digit_ascii c e = grind (arith, nat_tests)

pub word_ascii : (s : List ℕ) (i : ℕ) → i < word_len s → get_or s i 0 < 128
unfolding word_len
word_ascii [] i less = absurd (omega arith)
word_ascii (c ∷ cs) i less = ascii_from (is_in_word c (slice_index cs 0)) c cs (word_len cs) i (in_word_ascii c (slice_index cs 0)) (word_ascii cs) less

pub digits_ascii : (s : List ℕ) (i : ℕ) → i < digits_len s → get_or s i 0 < 128
digits_ascii [] i less = absurd (omega arith)
digits_ascii (c ∷ cs) i less = ascii_from (is_digit c) c cs (digits_len cs) i (digit_ascii c) (digits_ascii cs) (rw (← suc_is (digits_len cs)) at less)
  where
    suc_is : (n : ℕ) → suc n ≡ 1 + n
    suc_is n = omega arith

-- ---- numbers

digit_below : (c : ℕ) → is_digit c ≡ true → digit_value c < 10
digit_below c e = grind (arith, nat_tests)

pub digits_all : (s : List ℕ) → AllDigits 10 (take (digits_len s) s)
digits_all [] = tt
digits_all (c ∷ cs) = all_from (is_digit c) c cs (digits_len cs) (digit_below c) (digits_all cs)
  where
    all_from : (b : Bool) (c : ℕ) (cs : List ℕ) (n : ℕ) → (b ≡ true → digit_value c < 10) → AllDigits 10 (take n cs) → AllDigits 10 (take (cond b (1 + n) 0) (c ∷ cs))
    all_from true c cs n below inner = let e : 1 + n ≡ suc n = omega arith in rw e (below refl, inner)
    all_from false c cs n below inner = tt

pub is_numeral : (s : List ℕ) → is_digit (slice_index s 0) ≡ true → IsNumeral 10 (take (digits_len s) s)
is_numeral [] e = absurd (grind (arith, nat_tests))
is_numeral (c ∷ cs) e = (let n : digits_len (c ∷ cs) ≡ suc (digits_len cs) = rw e (omega arith) in rw n (omega arith), digits_all (c ∷ cs))

pub at_one : (s : List ℕ) → get_or (drop 1 s) 0 0 ≡ get_or s 1 0
at_one s = rw (get_or-drop 1 s 0 0) refl

-- ---- tokens one after the other

sign_moves : (s : List ℕ) → 0 < length s → 0 < (leading_sign s).1
unfolding leading_sign
sign_moves s some = grind (arith, nat_tests)

word_begins : (s : List ℕ) → is_letter (slice_index s 0) ≡ true → 0 < word_len s
unfolding word_len
word_begins [] e = absurd (grind (arith, nat_tests))
word_begins (c ∷ cs) e = rw e (omega arith)

digits_begin : (s : List ℕ) → is_digit (slice_index s 0) ≡ true → 0 < digits_len s
digits_begin [] e = absurd (grind (arith, nat_tests))
digits_begin (c ∷ cs) e = rw e (omega arith)

pub leading_token_moves : (s : List ℕ) → 0 < length s → 0 < (leading_token s).1
unfolding leading_token
leading_token_moves s some =
    let sign_on = sign_moves s some in
    let word_on = word_begins s in
    let digits_on = digits_begin s in
    grind (arith, nat_tests)

same_but_rest : {A : Type 0} (b : Bool) (x y z : A) → (b ≡ false → y ≡ z) → cond b x y ≡ cond b x z
same_but_rest true x y z e = refl
same_but_rest false x y z e = e refl

pub lex_enough : (m n : ℕ) (s : List ℕ) → length s < m → length s < n → lex m s ≡ lex n s
unfolding lex
lex_enough zero n s a b = absurd (omega arith)
lex_enough (suc m) zero s a b = absurd (omega arith)
lex_enough (suc m) (suc n) s a b =
    let rest : List ℕ = drop (blank_len s) s in
    same_but_rest (length rest == 0) [] ((leading_token rest).0 ∷ lex m (drop (leading_token rest).1 rest)) ((leading_token rest).0 ∷ lex n (drop (leading_token rest).1 rest)) (λ e.
    let some : 0 < length rest = grind (arith, nat_tests) in
    let moves = leading_token_moves rest some in
    let shorter = length-drop (leading_token rest).1 rest in
    let blanks = length-drop (blank_len s) s in
    ap (λ ts. (leading_token rest).0 ∷ ts) (lex_enough m n (drop (leading_token rest).1 rest) (omega arith) (omega arith)))

pub lexed_none : (s : List ℕ) → length (drop (blank_len s) s) ≡ 0 → lexed s ≡ []
unfolding lex lexed
lexed_none s none = rw none refl

lex_step : (n : ℕ) (s : List ℕ) → 0 < length (drop (blank_len s) s) → lex (suc n) s ≡ (leading_token (drop (blank_len s) s)).0 ∷ lex n (drop (leading_token (drop (blank_len s) s)).1 (drop (blank_len s) s))
unfolding lex
lex_step n s some =
    let e : (length (drop (blank_len s) s) == 0) ≡ false = grind (arith, nat_tests) in
    rw e refl

pub lexed_some : (s : List ℕ) → 0 < length (drop (blank_len s) s) → lexed s ≡ (leading_token (drop (blank_len s) s)).0 ∷ lexed (drop (leading_token (drop (blank_len s) s)).1 (drop (blank_len s) s))
unfolding lexed
lexed_some s some =
    let rest : List ℕ = drop (blank_len s) s in
    let after : List ℕ = drop (leading_token rest).1 rest in
    let moves = leading_token_moves rest some in
    let shorter = length-drop (leading_token rest).1 rest in
    let blanks = length-drop (blank_len s) s in
    lex_step (length s) s some ∙ ap (λ ts. (leading_token rest).0 ∷ ts) (lex_enough (length s) (suc (length after)) after (omega arith) (omega arith))
