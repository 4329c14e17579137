-- The words among the tokens of a text are whole words, which can be printed.
use Rattle.std.proofs.Common.{◌≡◌, ℕ, zero, suc, ◌^◌, Bool, true, false, cond, List, [], ◌∷◌, length, take, refl, ap, ◌∙◌, arith}
use Rattle.std.proofs.lemmas.Bool.Decides.{nat_tests}
use Rattle.std.specs.Prelude.{◌==◌, ◌&&◌, slice_index, bytes_eq, drop, map, nat_lt}
use Rattle.std.specs.Str.Parse.{digits_value}
use Rattle.std.specs.List.{AllByRecursion}
use Rattle.asn_notation.specs.declared.token.Reserved.{Reserved}
use Rattle.asn_notation.specs.declared.token.Reserved.TheVariants as reserved
use Rattle.asn_notation.specs.declared.token.TheConstants.{RESERVED}
use Rattle.asn_notation.specs.Token.{Token, identifier, name, word, out_of_profile, number, negative, too_large, sign, illegal}
use Rattle.asn_notation.specs.Lexing.{is_small, is_letter, is_digit, is_in_word, word_len, digits_len, reserved_token, looked_up, capital_word, word_token, number_token, negative_token, leading_sign, leading_token, blank_len, lex, lexed}
use Rattle.asn_notation.specs.Printed.{IsWord, IsRead}

-- ---- words

-- what follows a word does not belong to it
cut : (c d e : ℕ) → is_in_word c d ≡ true → is_in_word d e ≡ false → is_in_word c 0 ≡ true
cut c d e on off = grind (arith, nat_tests)

on_at_cut : (c : ℕ) (cs : List ℕ) → is_in_word c (slice_index cs 0) ≡ true → is_in_word c (slice_index (take (word_len cs) cs) 0) ≡ true
unfolding word_len
on_at_cut c [] on = on
on_at_cut c (d ∷ ds) on = by_next (is_in_word d (slice_index ds 0)) refl
  where
    by_next : (b : Bool) → is_in_word d (slice_index ds 0) ≡ b → is_in_word c (slice_index (take (cond b (suc (word_len ds)) 0) (d ∷ ds)) 0) ≡ true
    by_next true e = on
    by_next false e = cut c d (slice_index ds 0) on e

whole_taken : (s : List ℕ) → word_len (take (word_len s) s) ≡ length (take (word_len s) s)
unfolding word_len
whole_taken [] = refl
whole_taken (c ∷ cs) = by_first (is_in_word c (slice_index cs 0)) refl (whole_taken cs)
  where
    by_first : (b : Bool) → is_in_word c (slice_index cs 0) ≡ b → word_len (take (word_len cs) cs) ≡ length (take (word_len cs) cs)
        → word_len (take (cond b (suc (word_len cs)) 0) (c ∷ cs)) ≡ length (take (cond b (suc (word_len cs)) 0) (c ∷ cs))
    by_first true e inner = rw (on_at_cut c cs e) (ap suc inner)
    by_first false e inner = refl

letter_on : (c d : ℕ) → is_letter c ≡ true → is_in_word c d ≡ true
letter_on c d e = grind (arith, nat_tests)

not_letter : is_letter 0 ≡ true → ⊥
not_letter e = grind (arith, nat_tests)

first_taken : (s : List ℕ) → is_letter (slice_index s 0) ≡ true → is_letter (slice_index (take (word_len s) s) 0) ≡ true
unfolding word_len
first_taken [] e = absurd (not_letter e)
first_taken (c ∷ cs) e = rw (letter_on c (slice_index cs 0) e) e

word_taken : (s : List ℕ) → is_letter (slice_index s 0) ≡ true → IsWord (take (word_len s) s)
word_taken s e = record { whole = whole_taken s; letter = first_taken s e }

-- ---- names

reserved_is_none : (r : Reserved) (w : List ℕ) → reserved_token r ≡ name w → ⊥
reserved_is_none (reserved.InProfile x) w e = absurd cc
reserved_is_none reserved.OutOfProfile w e = absurd cc

reserved_is_no_identifier : (r : Reserved) (w : List ℕ) → reserved_token r ≡ identifier w → ⊥
reserved_is_no_identifier (reserved.InProfile x) w e = absurd cc
reserved_is_no_identifier reserved.OutOfProfile w e = absurd cc

looked_name : (table : List (List ℕ × Reserved)) (s w : List ℕ) → looked_up table s ≡ name w → w ≡ s
looked_name [] s w e = cc
looked_name (r ∷ rs) s w e = by_test (bytes_eq r.0 s) (looked_name rs s w) e
  where
    by_test : (b : Bool) → (looked_up rs s ≡ name w → w ≡ s) → cond b (reserved_token r.1) (looked_up rs s) ≡ name w → w ≡ s
    by_test true others e = absurd (reserved_is_none r.1 w e)
    by_test false others e = others e

looked_no_identifier : (table : List (List ℕ × Reserved)) (s w : List ℕ) → looked_up table s ≡ identifier w → ⊥
looked_no_identifier [] s w e = absurd cc
looked_no_identifier (r ∷ rs) s w e = by_test (bytes_eq r.0 s) (looked_no_identifier rs s w) e
  where
    by_test : (b : Bool) → (looked_up rs s ≡ identifier w → ⊥) → cond b (reserved_token r.1) (looked_up rs s) ≡ identifier w → ⊥
    by_test true others e = reserved_is_no_identifier r.1 w e
    by_test false others e = others e

capital_read : (s : List ℕ) → IsWord s → (is_small (slice_index s 0) ≡ true → ⊥) → (t : Token) → capital_word s ≡ t → IsRead t
unfolding capital_word
capital_read s h capital (identifier w) e = absurd (looked_no_identifier (map (λ r. (r.0.now, r.1)) RESERVED) s w e)
capital_read s h capital (name w) e =
    let same : w ≡ s = looked_name (map (λ r. (r.0.now, r.1)) RESERVED) s w e in
    rw same (h, capital, e ∙ ap name same)
capital_read s h capital (word w) e = tt
capital_read s h capital out_of_profile e = tt
capital_read s h capital (number n) e = tt
capital_read s h capital (negative n) e = tt
capital_read s h capital too_large e = tt
capital_read s h capital (sign w) e = tt
capital_read s h capital illegal e = tt

word_read : (s : List ℕ) → IsWord s → IsRead (word_token s)
word_read s h = by_small (is_small (slice_index s 0)) refl
  where
    by_small : (b : Bool) → is_small (slice_index s 0) ≡ b → IsRead (cond b (identifier s) (capital_word s))
    by_small true e = (h, e)
    by_small false e = capital_read s h (λ small. absurd (both (is_small (slice_index s 0)) small e)) (capital_word s) refl
      where
        both : (b : Bool) → b ≡ true → b ≡ false → ⊥
        both b e f = absurd cc

-- ---- tokens

-- a word, which may be a name
abbrev is_named : Token → Bool
is_named (identifier s) = true
is_named (name s) = true
is_named (word w) = false
is_named out_of_profile = false
is_named (number n) = false
is_named (negative n) = false
is_named too_large = false
is_named (sign s) = false
is_named illegal = false

unnamed_read : (t : Token) → is_named t ≡ false → IsRead t
unnamed_read (identifier s) e = absurd cc
unnamed_read (name s) e = absurd cc
unnamed_read (word w) e = tt
unnamed_read out_of_profile e = tt
unnamed_read (number n) e = tt
unnamed_read (negative n) e = tt
unnamed_read too_large e = tt
unnamed_read (sign s) e = tt
unnamed_read illegal e = tt

sign_unnamed : (s : List ℕ) → is_named (leading_sign s).0 ≡ false
unfolding leading_sign
sign_unnamed s = grind (arith, nat_tests)

number_unnamed : (n : ℕ) → is_named (number_token n) ≡ false
number_unnamed n = by_size (nat_lt n (2 ^ 64))
  where
    by_size : (b : Bool) → is_named (cond b (number n) too_large) ≡ false
    by_size true = refl
    by_size false = refl

negative_unnamed : (n : ℕ) → is_named (negative_token n) ≡ false
negative_unnamed n = by_size (nat_lt n (2 ^ 64))
  where
    by_size : (b : Bool) → is_named (cond b (negative n) too_large) ≡ false
    by_size true = refl
    by_size false = refl

-- one of three, and else another
one_unnamed : (a b c : Bool) (x y z : Token × ℕ) → is_named x.0 ≡ false → is_named y.0 ≡ false → is_named z.0 ≡ false
    → is_named (cond a (number 0, 1) (cond b x (cond c y z))).0 ≡ false
one_unnamed true b c x y z ex ey ez = refl
one_unnamed false true c x y z ex ey ez = ex
one_unnamed false false true x y z ex ey ez = ey
one_unnamed false false false x y z ex ey ez = ez

leading_read : (s : List ℕ) → IsRead (leading_token s).0
unfolding leading_token
leading_read s = by_letter (is_letter (slice_index s 0)) refl
  where
    by_letter : (b : Bool) → is_letter (slice_index s 0) ≡ b → IsRead (leading_token s).0
    by_letter true e = rw e (word_read (take (word_len s) s) (word_taken s e))
    by_letter false e =
        rw e (unnamed_read _ (one_unnamed (slice_index s 0 == 48) (is_digit (slice_index s 0)) (slice_index s 0 == 45 && (is_digit (slice_index s 1) && nat_lt 48 (slice_index s 1)))
        (number_token (digits_value 10 (take (digits_len s) s)), digits_len s) (negative_token (digits_value 10 (take (digits_len (drop 1 s)) (drop 1 s))), suc (digits_len (drop 1 s))) (leading_sign s)
        (number_unnamed (digits_value 10 (take (digits_len s) s))) (negative_unnamed (digits_value 10 (take (digits_len (drop 1 s)) (drop 1 s)))) (sign_unnamed s)))

all_if : (b : Bool) (t : Token) (ts : List Token) → IsRead t → AllByRecursion IsRead ts → AllByRecursion IsRead (cond b [] (t ∷ ts))
all_if true t ts h hs = tt
all_if false t ts h hs = (h, hs)

lex_read : (n : ℕ) (s : List ℕ) → AllByRecursion IsRead (lex n s)
unfolding lex
lex_read zero s = tt
lex_read (suc n) s =
    let rest : List ℕ = drop (blank_len s) s in
    all_if _ _ _ (leading_read rest) (lex_read n (drop (leading_token rest).1 rest))

pub lexed_read : (s : List ℕ) → AllByRecursion IsRead (lexed s)
unfolding lexed
lexed_read s = lex_read (suc (length s)) s
