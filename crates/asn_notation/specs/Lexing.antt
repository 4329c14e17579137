-- From a text to its tokens, from left to right.
use Rattle.std.specs.Prelude.{ℕ, zero, suc, ◌^◌, Bool, ◌&&◌, ◌||◌, ◌==◌, nat_lt, nat_le, if◌then◌else◌, List, [], ◌∷◌}
use Rattle.std.specs.Prelude.{length, take, drop, slice_index, map, Option, Some, None}
use Rattle.std.specs.List.{prefix_len}
use Rattle.std.specs.Str.{bytes_eq}
use Rattle.std.specs.Str.Parse.{digits_value}
use Rattle.asn_notation.specs.declared.token.Sign.TheVariants as signs
use Rattle.asn_notation.specs.declared.token.Reserved.{Reserved}
use Rattle.asn_notation.specs.declared.token.Reserved.TheVariants as reserved
use Rattle.asn_notation.specs.declared.lexer.Blank.{Blank}
use Rattle.asn_notation.specs.declared.lexer.Blank.TheVariants as blank
use Rattle.asn_notation.specs.declared.token.TheConstants.{RESERVED}
use Rattle.asn_notation.specs.Token.{Token, identifier, name, word, out_of_profile, number, negative, too_large, sign}
use Rattle.asn_notation.specs.Token.{illegal}

-- ---- characters

abbrev pub is_white : ℕ → Bool
is_white c = c == 32 || (nat_le 9 c && nat_le c 13)

-- LF, VT, FF, CR
abbrev pub is_end_of_line : ℕ → Bool
is_end_of_line c = nat_le 10 c && nat_le c 13

abbrev pub is_digit : ℕ → Bool
is_digit c = nat_le 48 c && nat_le c 57

abbrev pub is_small : ℕ → Bool
is_small c = nat_le 97 c && nat_le c 122

abbrev pub is_letter : ℕ → Bool
is_letter c = is_small c || (nat_le 65 c && nat_le c 90)

abbrev pub is_word_character : ℕ → Bool
is_word_character c = is_letter c || is_digit c

-- ---- white space and comments

-- what state follows the octet c, which `next` follows; None where c is neither white space nor of a comment
unfoldable pub after_octet : Blank → ℕ → ℕ → Option Blank
after_octet blank.Outside c next =
    if is_white c then Some blank.Outside else if c == 45 && next == 45 then Some blank.Opened else None
after_octet blank.Opened c next = Some blank.Inside
after_octet blank.Inside c next =
    if is_end_of_line c then Some blank.Outside else if c == 45 && next == 45 then Some blank.Closing
    else Some blank.Inside
after_octet blank.Closing c next = Some blank.Outside

abbrev pub counted_on : Option Blank → (Blank → ℕ) → ℕ
counted_on None more = 0
counted_on (Some b) more = suc (more b)

-- the number of octets of white space and comments at the start
unfoldable pub blank_from : Blank → List ℕ → ℕ
blank_from b [] = 0
blank_from b (c ∷ cs) = counted_on (after_octet b c (slice_index cs 0)) (λ next. blank_from next cs)

abbrev pub blank_len : List ℕ → ℕ
blank_len text = blank_from blank.Outside text

-- ---- words

-- whether the octet c belongs to a word that has begun, where `next` follows: a hyphen only before a letter or digit
abbrev pub is_in_word : ℕ → ℕ → Bool
is_in_word c next = is_word_character c || (c == 45 && is_word_character next)

-- the number of octets of a word at the start
unfoldable pub word_len : List ℕ → ℕ
word_len [] = 0
word_len (c ∷ cs) = if is_in_word c (slice_index cs 0) then suc (word_len cs) else 0

abbrev pub reserved_token : Reserved → Token
reserved_token (reserved.InProfile w) = word w
reserved_token reserved.OutOfProfile = out_of_profile

-- a word that begins with a capital
abbrev pub looked_up : List (List ℕ × Reserved) → List ℕ → Token
looked_up [] s = name s
looked_up (r ∷ rs) s = if bytes_eq r.0 s then reserved_token r.1 else looked_up rs s

unfoldable pub capital_word : List ℕ → Token
capital_word s = looked_up (map (λ r. (r.0.now, r.1)) RESERVED) s

abbrev pub word_token : List ℕ → Token
word_token s = if is_small (slice_index s 0) then identifier s else capital_word s

-- ---- numbers

abbrev pub digits_len : List ℕ → ℕ
digits_len text = prefix_len is_digit text

abbrev pub number_token : ℕ → Token
number_token n = if nat_lt n (2 ^ 64) then number n else too_large

abbrev pub negative_token : ℕ → Token
negative_token n = if nat_lt n (2 ^ 64) then negative n else too_large

-- ---- signs

-- the sign at the start, and its length; else nothing of the text is a token
unfoldable pub leading_sign : List ℕ → Token × ℕ
leading_sign text =
    let c = slice_index text 0 in
    let next = slice_index text 1 in
    let third = slice_index text 2 in
    if c == 123 then (sign signs.LeftBrace, 1)
    else if c == 125 then (sign signs.RightBrace, 1)
    else if c == 40 then (sign signs.LeftParen, 1)
    else if c == 41 then (sign signs.RightParen, 1)
    else if c == 44 then (sign signs.Comma, 1)
    else if c == 46 && next == 46 then (if third == 46 then (sign signs.Dots, 3) else (sign signs.UpTo, 2))
    else if (c == 58 && next == 58) && third == 61 then (sign signs.Becomes, 3)
    else (illegal, length text)

-- ---- tokens

-- the token at the start of a text that is not empty and begins with no white space and no comment, and its length
unfoldable pub leading_token : List ℕ → Token × ℕ
leading_token text =
    let c = slice_index text 0 in
    if is_letter c then (word_token (take (word_len text) text), word_len text)
    else if c == 48 then (number 0, 1)
    else if is_digit c then (number_token (digits_value 10 (take (digits_len text) text)), digits_len text)
    else if c == 45 && (is_digit (slice_index text 1) && nat_lt 48 (slice_index text 1))
    then (
      negative_token (digits_value 10 (take (digits_len (drop 1 text)) (drop 1 text))),
      suc (digits_len (drop 1 text)),
    )
    else leading_sign text

-- at most n tokens
unfoldable pub lex : ℕ → List ℕ → List Token
lex zero text = []
lex (suc n) text =
    let rest = drop (blank_len text) text in
    if length rest == 0 then [] else (leading_token rest).0 ∷ lex n (drop (leading_token rest).1 rest)

-- the tokens of a text, the last one `illegal` where a character begins none
unfoldable pub lexed : List ℕ → List Token
lexed text = lex (suc (length text)) text
