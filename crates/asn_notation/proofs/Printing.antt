-- A token's text with white space after it is read as that token.
use Rattle.std.proofs.Common.{◌≡◌, ℕ, zero, suc, ◌+◌, ◌<◌, ◌≤◌, ◌^◌, Bool, true, false, cond, List, [], ◌∷◌, ◌++◌, length, take, drop, refl, ap, ◌∙◌, append_assoc, arith}
use Rattle.std.proofs.lemmas.List.{take_at, drop_at, length-append}
use Rattle.std.proofs.lemmas.Bool.Decides.{nat_tests}
use Rattle.std.specs.Prelude.{◌&&◌, ◌==◌, slice_index}
use Rattle.asn_notation.specs.declared.token.Word.{Word}
use Rattle.asn_notation.specs.declared.token.Word.TheVariants as words
use Rattle.asn_notation.specs.declared.token.Sign.{Sign}
use Rattle.asn_notation.specs.declared.token.Sign.TheVariants as signs
use Rattle.std.specs.List.{AllByRecursion}
use Rattle.std.specs.Char.{digit_value}
use Rattle.std.specs.Str.Parse.{AllDigits, digits_value}
use Rattle.std.specs.Fmt.{decimal}
use Rattle.std.proofs.lemmas.Str.Parse.{digit_from_value}
use Rattle.std.proofs.lemmas.Fmt.{decimal_by_steps, decimal_is_IsNumeral, decimal_digit}
use Rattle.std.specs.Prelude.{nat_lt, ◌/◌, ◌%◌}
use Rattle.asn_notation.specs.Token.{Token, identifier, name, word, out_of_profile, number, negative, too_large, sign, illegal}
use Rattle.asn_notation.specs.Lexing.{is_white, is_small, is_letter, is_digit, is_in_word, after_octet, blank_from, blank_len, word_len, digits_len, capital_word, word_token, number_token, negative_token, leading_sign, leading_token, lex, lexed}
use Rattle.asn_notation.specs.Printed.{word_text, sign_text, token_text, IsWord, IsPrintable, spaced, line}
use Rattle.asn_notation.proofs.LexingLemmas.{lex_enough, lexed_some}

-- ---- white space

white_blank : (c : ℕ) (rest : List ℕ) → is_white c ≡ true → blank_len (c ∷ rest) ≡ suc (blank_len rest)
unfolding blank_from after_octet
white_blank c rest white = rw white refl

same_rest : (n c : ℕ) (rest : List ℕ) → is_white c ≡ true → lex (suc n) (c ∷ rest) ≡ lex (suc n) rest
unfolding lex
same_rest n c rest white =
    let e : drop (blank_len (c ∷ rest)) (c ∷ rest) ≡ drop (blank_len rest) rest = rw (white_blank c rest white) refl in
    ap (λ (r : List ℕ). cond (length r == 0) [] ((leading_token r).0 ∷ lex n (drop (leading_token r).1 r))) e

pub lexed_white : (c : ℕ) (rest : List ℕ) → is_white c ≡ true → lexed (c ∷ rest) ≡ lexed rest
unfolding lexed
lexed_white c rest white = same_rest (suc (length rest)) c rest white ∙ lex_enough (suc (suc (length rest))) (suc (length rest)) rest (omega arith) (omega arith)

-- what begins no white space and no comment
starts : (c next : ℕ) → is_white c ≡ false → ((c == 45) && (next == 45)) ≡ false → (rest : List ℕ) → slice_index rest 0 ≡ next → blank_len (c ∷ rest) ≡ 0
unfolding blank_from after_octet
starts c next black single rest e = rw (black, e, single) refl

-- ---- words

in_word_white : (x c : ℕ) → is_in_word x 0 ≡ true → is_in_word x c ≡ true
in_word_white x c e = grind (arith, nat_tests)

white_ends : (c next : ℕ) → is_white c ≡ true → is_in_word c next ≡ false
white_ends c next e = grind (arith, nat_tests)

on_is : (b : Bool) (n m : ℕ) → cond b (suc n) 0 ≡ suc m → (b ≡ true) × (n ≡ m)
on_is true n m e = (refl, omega arith)
on_is false n m e = absurd (omega arith)

pub word_len_ends : (s : List ℕ) (c : ℕ) (rest : List ℕ) → word_len s ≡ length s → is_white c ≡ true → word_len (s ++ c ∷ rest) ≡ length s
unfolding word_len
word_len_ends [] c rest whole white = rw (white_ends c (slice_index rest 0) white) refl
word_len_ends (x ∷ []) c rest whole white = rw (in_word_white x c (on_is (is_in_word x 0) 0 0 whole).0, white_ends c (slice_index rest 0) white) refl
word_len_ends (x ∷ y ∷ s) c rest whole white =
    let on = on_is (is_in_word x y) (word_len (y ∷ s)) (suc (length s)) whole in
    rw on.0 (ap suc (word_len_ends (y ∷ s) c rest on.1 white))

letter_starts : (c next : ℕ) → is_letter c ≡ true → (is_white c ≡ false) × (((c == 45) && (next == 45)) ≡ false)
letter_starts c next e = (grind (arith, nat_tests), grind (arith, nat_tests))

leading_word : (s : List ℕ) (c : ℕ) (rest : List ℕ) → IsWord s → is_white c ≡ true → leading_token (s ++ c ∷ rest) ≡ (word_token s, length s)
unfolding leading_token
leading_word [] c rest h white = absurd (not_letter h.letter)
  where
    not_letter : is_letter 0 ≡ true → ⊥
    not_letter e = grind (arith, nat_tests)
leading_word (x ∷ s) c rest h white = rw (h.letter, word_len_ends (x ∷ s) c rest h.whole white) (ap (λ (w : List ℕ). (word_token w, length (x ∷ s))) (take_at (x ∷ s) (c ∷ rest) (length (x ∷ s)) refl))

-- the token at the start of a text that begins with it
taken : (s : List ℕ) (t : Token) (c : ℕ) (rest : List ℕ) → 0 < length s → blank_len (s ++ c ∷ rest) ≡ 0 → leading_token (s ++ c ∷ rest) ≡ (t, length s) → is_white c ≡ true → lexed (s ++ c ∷ rest) ≡ t ∷ lexed rest
taken s t c rest some blanks here white =
    let text : List ℕ = s ++ c ∷ rest in
    let at_once : drop (blank_len text) text ≡ text = rw blanks refl in
    let there : 0 < length (drop (blank_len text) text) = rw at_once (omega (arith, length-append s (c ∷ rest))) in
    lexed_some text there ∙ ap (λ (r : List ℕ). (leading_token r).0 ∷ lexed (drop (leading_token r).1 r)) at_once
    ∙ ap (λ (f : Token × ℕ). f.0 ∷ lexed (drop f.1 text)) here
    ∙ ap (λ (r : List ℕ). t ∷ lexed r) (drop_at s (c ∷ rest) (length s) refl) ∙ ap (λ (ts : List Token). t ∷ ts) (lexed_white c rest white)

pub word_again : (s : List ℕ) (c : ℕ) (rest : List ℕ) → IsWord s → is_white c ≡ true → lexed (s ++ c ∷ rest) ≡ word_token s ∷ lexed rest
word_again [] c rest h white = absurd (not_letter h.letter)
  where
    not_letter : is_letter 0 ≡ true → ⊥
    not_letter e = grind (arith, nat_tests)
word_again (x ∷ s) c rest h white =
    let begins = letter_starts x (slice_index (s ++ c ∷ rest) 0) h.letter in
    taken (x ∷ s) (word_token (x ∷ s)) c rest (omega arith) (starts x (slice_index (s ++ c ∷ rest) 0) begins.0 begins.1 (s ++ c ∷ rest) refl) (leading_word (x ∷ s) c rest h white) white

reserved_is : (w : Word) → IsWord (word_text w) × (word_token (word_text w) ≡ word w)
unfolding word_len capital_word
reserved_is words.Automatic = (record { whole = refl; letter = refl }, refl)
reserved_is words.Begin = (record { whole = refl; letter = refl }, refl)
reserved_is words.Bit = (record { whole = refl; letter = refl }, refl)
reserved_is words.Boolean = (record { whole = refl; letter = refl }, refl)
reserved_is words.Choice = (record { whole = refl; letter = refl }, refl)
reserved_is words.Default = (record { whole = refl; letter = refl }, refl)
reserved_is words.Definitions = (record { whole = refl; letter = refl }, refl)
reserved_is words.End = (record { whole = refl; letter = refl }, refl)
reserved_is words.Enumerated = (record { whole = refl; letter = refl }, refl)
reserved_is words.False = (record { whole = refl; letter = refl }, refl)
reserved_is words.Ia5String = (record { whole = refl; letter = refl }, refl)
reserved_is words.Integer = (record { whole = refl; letter = refl }, refl)
reserved_is words.Max = (record { whole = refl; letter = refl }, refl)
reserved_is words.Min = (record { whole = refl; letter = refl }, refl)
reserved_is words.Null = (record { whole = refl; letter = refl }, refl)
reserved_is words.NumericString = (record { whole = refl; letter = refl }, refl)
reserved_is words.Octet = (record { whole = refl; letter = refl }, refl)
reserved_is words.Of = (record { whole = refl; letter = refl }, refl)
reserved_is words.Optional = (record { whole = refl; letter = refl }, refl)
reserved_is words.Sequence = (record { whole = refl; letter = refl }, refl)
reserved_is words.Size = (record { whole = refl; letter = refl }, refl)
reserved_is words.String = (record { whole = refl; letter = refl }, refl)
reserved_is words.Tags = (record { whole = refl; letter = refl }, refl)
reserved_is words.True = (record { whole = refl; letter = refl }, refl)
reserved_is words.Utf8String = (record { whole = refl; letter = refl }, refl)
reserved_is words.VisibleString = (record { whole = refl; letter = refl }, refl)

pub reserved_again : (w : Word) (c : ℕ) (rest : List ℕ) → is_white c ≡ true → lexed (word_text w ++ c ∷ rest) ≡ word w ∷ lexed rest
reserved_again w c rest white = word_again (word_text w) c rest (reserved_is w).0 white ∙ ap (λ (t : Token). t ∷ lexed rest) (reserved_is w).1

-- ---- signs

white_no_dot : (c : ℕ) → is_white c ≡ true → (c == 46) ≡ false
white_no_dot c e = grind (arith, nat_tests)

leading_sign_is : (s : Sign) (c : ℕ) (rest : List ℕ) → is_white c ≡ true → leading_token (sign_text s ++ c ∷ rest) ≡ (sign s, length (sign_text s))
unfolding leading_token leading_sign
leading_sign_is signs.Becomes c rest white = refl
leading_sign_is signs.Dots c rest white = refl
leading_sign_is signs.UpTo c rest white = rw (white_no_dot c white) refl
leading_sign_is signs.LeftBrace c rest white = refl
leading_sign_is signs.RightBrace c rest white = refl
leading_sign_is signs.LeftParen c rest white = refl
leading_sign_is signs.RightParen c rest white = refl
leading_sign_is signs.Comma c rest white = refl

sign_starts : (s : Sign) (c : ℕ) (rest : List ℕ) → (0 < length (sign_text s)) × (blank_len (sign_text s ++ c ∷ rest) ≡ 0)
unfolding blank_from after_octet
sign_starts signs.Becomes c rest = (omega arith, refl)
sign_starts signs.Dots c rest = (omega arith, refl)
sign_starts signs.UpTo c rest = (omega arith, refl)
sign_starts signs.LeftBrace c rest = (omega arith, refl)
sign_starts signs.RightBrace c rest = (omega arith, refl)
sign_starts signs.LeftParen c rest = (omega arith, refl)
sign_starts signs.RightParen c rest = (omega arith, refl)
sign_starts signs.Comma c rest = (omega arith, refl)

pub sign_again : (s : Sign) (c : ℕ) (rest : List ℕ) → is_white c ≡ true → lexed (sign_text s ++ c ∷ rest) ≡ sign s ∷ lexed rest
sign_again s c rest white = let begins = sign_starts s c rest in taken (sign_text s) (sign s) c rest begins.0 begins.1 (leading_sign_is s c rest white) white

-- ---- a line

identifier_token : (s : List ℕ) → is_small (slice_index s 0) ≡ true → word_token s ≡ identifier s
identifier_token s e = rw e refl

name_token : (s : List ℕ) → (is_small (slice_index s 0) ≡ true → ⊥) → capital_word s ≡ name s → word_token s ≡ name s
name_token s capital e = by_case (is_small (slice_index s 0)) capital
  where
    by_case : (b : Bool) → (b ≡ true → ⊥) → cond b (identifier s) (capital_word s) ≡ name s
    by_case true small = absurd (small refl)
    by_case false small = e

-- ---- numbers

digit_is : (d : ℕ) → digit_value d < 10 → is_digit d ≡ true
digit_is d h = let range = digit_from_value d h in grind (arith, nat_tests, range)

white_no_digit : (c : ℕ) → is_white c ≡ true → is_digit c ≡ false
white_no_digit c e = grind (arith, nat_tests)

digits_len_ends : (ds : List ℕ) (c : ℕ) (rest : List ℕ) → AllDigits 10 ds → is_white c ≡ true → digits_len (ds ++ c ∷ rest) ≡ length ds
digits_len_ends [] c rest all white = rw (white_no_digit c white) refl
digits_len_ends (d ∷ ds) c rest all white = rw (digit_is d all.0, digits_len_ends ds c rest all.1 white) (omega arith)

-- digits, the first of them not 0
pub record AreDigits (n : ℕ) (ds : List ℕ) : Type 0 where
  pub some : 0 < length ds
  pub first : 0 < n → nat_lt 48 (slice_index ds 0) ≡ true

one_digit : (n : ℕ) → n < 10 → AreDigits n ((48 + n) ∷ [])
one_digit n less = record { some = omega arith; first = λ some. above n some }
  where
    above : (n : ℕ) → 0 < n → nat_lt 48 (48 + n) ≡ true
    above n some = grind (arith, nat_tests)

more_digits : (n : ℕ) (ds : List ℕ) → 10 ≤ n → AreDigits (n / 10) ds → AreDigits n (ds ++ ((48 + n % 10) ∷ []))
more_digits n [] ten h = absurd (omega (arith, h.some))
more_digits n (d ∷ ds) ten h = record { some = omega arith; first = λ some. h.first (omega arith) }

digits_of : (n : ℕ) → n < 2 ^ 64 → AreDigits n (decimal n)
digits_of n small = decimal_by_steps AreDigits one_digit more_digits n small

digit_facts : (d : ℕ) → is_digit d ≡ true → nat_lt 48 d ≡ true → (is_letter d ≡ false) × ((d == 48) ≡ false) × ((d == 45) ≡ false) × (is_white d ≡ false)
digit_facts d e f = (grind (arith, nat_tests), grind (arith, nat_tests), grind (arith, nat_tests), grind (arith, nat_tests))

small_token : (n : ℕ) → n < 2 ^ 64 → (number_token n ≡ number n) × (negative_token n ≡ negative n)
small_token n small = let e : nat_lt n (2 ^ 64) ≡ true = below n small in (rw e refl, rw e refl)
  where
    below : (n : ℕ) → n < 2 ^ 64 → nat_lt n (2 ^ 64) ≡ true
    below n h = grind (arith, nat_tests)

number_text : (ds : List ℕ) (n c : ℕ) (rest : List ℕ) → AllDigits 10 ds → digits_value 10 ds ≡ n → nat_lt 48 (slice_index ds 0) ≡ true → n < 2 ^ 64 → is_white c ≡ true
    → lexed (ds ++ c ∷ rest) ≡ number n ∷ lexed rest
unfolding leading_token
number_text [] n c rest all value first small white = absurd cc
number_text (d ∷ ds) n c rest all value first small white =
    let facts = digit_facts d (digit_is d all.0) first in
    let here : leading_token ((d ∷ ds) ++ c ∷ rest) ≡ (number n, length (d ∷ ds)) =
    rw (facts.0, facts.1, digit_is d all.0, digits_len_ends ds c rest all.1 white) (ap (λ (k : ℕ). (number_token (digits_value 10 (take k (d ∷ (ds ++ c ∷ rest)))), k)) (one_more (length ds))
    ∙ ap (λ (w : List ℕ). (number_token (digits_value 10 w), suc (length ds))) (take_at (d ∷ ds) (c ∷ rest) (suc (length ds)) refl)
    ∙ ap (λ (v : ℕ). (number_token v, suc (length ds))) value ∙ ap (λ (t : Token). (t, suc (length ds))) (small_token n small).0) in
    let no_comment : ((d == 45) && (slice_index (ds ++ c ∷ rest) 0 == 45)) ≡ false = rw facts.2 refl in
    taken (d ∷ ds) (number n) c rest (omega arith) (starts d (slice_index (ds ++ c ∷ rest) 0) facts.3 no_comment (ds ++ c ∷ rest) refl) here white
  where
    one_more : (n : ℕ) → 1 + n ≡ suc n
    one_more n = omega arith

zero_text : (c : ℕ) (rest : List ℕ) → is_white c ≡ true → lexed (48 ∷ c ∷ rest) ≡ number 0 ∷ lexed rest
unfolding leading_token blank_from after_octet
zero_text c rest white = taken (48 ∷ []) (number 0) c rest (omega arith) refl refl white

number_again : (n : ℕ) (c : ℕ) (rest : List ℕ) → n < 2 ^ 64 → is_white c ≡ true → lexed (decimal n ++ c ∷ rest) ≡ number n ∷ lexed rest
number_again zero c rest small white = ap (λ (ds : List ℕ). lexed (ds ++ c ∷ rest)) (decimal_digit 0 (omega arith)) ∙ zero_text c rest white
number_again (suc n) c rest small white =
    let numeral = decimal_is_IsNumeral (suc n) small in
    number_text (decimal (suc n)) (suc n) c rest numeral.0.1 numeral.1 ((digits_of (suc n) small).first (omega arith)) small white

negative_text : (ds : List ℕ) (n c : ℕ) (rest : List ℕ) → AllDigits 10 ds → digits_value 10 ds ≡ n → nat_lt 48 (slice_index ds 0) ≡ true → n < 2 ^ 64 → is_white c ≡ true
    → lexed (45 ∷ (ds ++ c ∷ rest)) ≡ negative n ∷ lexed rest
unfolding leading_token
negative_text [] n c rest all value first small white = absurd cc
negative_text (d ∷ ds) n c rest all value first small white =
    let facts = digit_facts d (digit_is d all.0) first in
    let here : leading_token (45 ∷ ((d ∷ ds) ++ c ∷ rest)) ≡ (negative n, suc (length (d ∷ ds))) =
    rw (digit_is d all.0, first, digits_len_ends ds c rest all.1 white) (ap (λ (k : ℕ). (negative_token (digits_value 10 (take k (d ∷ (ds ++ c ∷ rest)))), suc k)) (one_more (length ds))
    ∙ ap (λ (w : List ℕ). (negative_token (digits_value 10 w), suc (suc (length ds)))) (take_at (d ∷ ds) (c ∷ rest) (suc (length ds)) refl)
    ∙ ap (λ (v : ℕ). (negative_token v, suc (suc (length ds)))) value ∙ ap (λ (t : Token). (t, suc (suc (length ds)))) (small_token n small).1) in
    let no_comment : ((45 == 45) && (d == 45)) ≡ false = facts.2 in
    taken (45 ∷ d ∷ ds) (negative n) c rest (omega arith) (starts 45 d refl no_comment (d ∷ (ds ++ c ∷ rest)) refl) here white
  where
    one_more : (n : ℕ) → 1 + n ≡ suc n
    one_more n = omega arith

negative_again : (n : ℕ) (c : ℕ) (rest : List ℕ) → 0 < n → n < 2 ^ 64 → is_white c ≡ true → lexed (45 ∷ (decimal n ++ c ∷ rest)) ≡ negative n ∷ lexed rest
negative_again n c rest some small white =
    let numeral = decimal_is_IsNumeral n small in
    negative_text (decimal n) n c rest numeral.0.1 numeral.1 ((digits_of n small).first some) small white

pub token_again : (t : Token) (c : ℕ) (rest : List ℕ) → IsPrintable t → is_white c ≡ true → lexed (token_text t ++ c ∷ rest) ≡ t ∷ lexed rest
token_again (identifier s) c rest h white = word_again s c rest h.0 white ∙ ap (λ (t : Token). t ∷ lexed rest) (identifier_token s h.1)
token_again (name s) c rest h white = word_again s c rest h.0 white ∙ ap (λ (t : Token). t ∷ lexed rest) (name_token s h.1 h.2)
token_again (word w) c rest h white = reserved_again w c rest white
token_again out_of_profile c rest h white = absurd h
token_again (number n) c rest h white = number_again n c rest h white
token_again (negative n) c rest h white = negative_again n c rest h.0 h.1 white
token_again too_large c rest h white = absurd h
token_again (sign s) c rest h white = sign_again s c rest white
token_again illegal c rest h white = absurd h

lexed_nothing : lexed [] ≡ []
unfolding lexed lex blank_from
lexed_nothing = refl

-- tokens that are printed are read again
pub spaced_again : (c : ℕ) (ts : List Token) → is_white c ≡ true → AllByRecursion IsPrintable ts → lexed (spaced c ts) ≡ ts
spaced_again c [] white all = lexed_nothing
spaced_again c (t ∷ ts) white all = token_again t c (spaced c ts) all.0 white ∙ ap (λ (xs : List Token). t ∷ xs) (spaced_again c ts white all.1)

-- a line of printed tokens is read again, and then what follows it
pub line_again : (ts : List Token) (rest : List ℕ) → AllByRecursion IsPrintable ts → lexed (line ts ++ rest) ≡ ts ++ lexed rest
line_again [] rest all = lexed_white 10 rest refl
line_again (t ∷ []) rest all = ap lexed (append_assoc (token_text t) (10 ∷ []) rest) ∙ token_again t 10 rest all.0 refl
line_again (t ∷ u ∷ ts) rest all =
    ap lexed (append_assoc (token_text t) (32 ∷ line (u ∷ ts)) rest) ∙ token_again t 32 (line (u ∷ ts) ++ rest) all.0 refl ∙ ap (λ (xs : List Token). t ∷ xs) (line_again (u ∷ ts) rest all.1)
