-- Tokens as text, joined by white space.
use Rattle.std.specs.Prelude.{◌≡◌, ◌≢◌, ℕ, ◌<◌, ◌^◌, ⊤, true, List, [], ◌∷◌, ◌++◌, length, codes, slice_index}
use Rattle.std.specs.List.{AllByRecursion}
use Rattle.std.specs.Fmt.{decimal}
use Rattle.asn_notation.specs.declared.token.Word.{Word}
use Rattle.asn_notation.specs.declared.token.Word.TheVariants as words
use Rattle.asn_notation.specs.declared.token.Sign.{Sign}
use Rattle.asn_notation.specs.declared.token.Sign.TheVariants as signs
use Rattle.asn_notation.specs.Token.{Token, identifier, name, word, out_of_profile, number, negative, too_large, sign}
use Rattle.asn_notation.specs.Token.{illegal}
use Rattle.asn_notation.specs.Lexing.{is_small, is_letter, word_len, capital_word}

abbrev pub word_text : Word → List ℕ
word_text words.Automatic = codes "AUTOMATIC"
word_text words.Begin = codes "BEGIN"
word_text words.Bit = codes "BIT"
word_text words.Boolean = codes "BOOLEAN"
word_text words.Choice = codes "CHOICE"
word_text words.Default = codes "DEFAULT"
word_text words.Definitions = codes "DEFINITIONS"
word_text words.End = codes "END"
word_text words.Enumerated = codes "ENUMERATED"
word_text words.False = codes "FALSE"
word_text words.Ia5String = codes "IA5String"
word_text words.Integer = codes "INTEGER"
word_text words.Max = codes "MAX"
word_text words.Min = codes "MIN"
word_text words.Null = codes "NULL"
word_text words.NumericString = codes "NumericString"
word_text words.Octet = codes "OCTET"
word_text words.Of = codes "OF"
word_text words.Optional = codes "OPTIONAL"
word_text words.Sequence = codes "SEQUENCE"
word_text words.Size = codes "SIZE"
word_text words.String = codes "STRING"
word_text words.Tags = codes "TAGS"
word_text words.True = codes "TRUE"
word_text words.Utf8String = codes "UTF8String"
word_text words.VisibleString = codes "VisibleString"

abbrev pub sign_text : Sign → List ℕ
sign_text signs.Becomes = 58 ∷ 58 ∷ 61 ∷ []
sign_text signs.Dots = 46 ∷ 46 ∷ 46 ∷ []
sign_text signs.UpTo = 46 ∷ 46 ∷ []
sign_text signs.LeftBrace = 123 ∷ []
sign_text signs.RightBrace = 125 ∷ []
sign_text signs.LeftParen = 40 ∷ []
sign_text signs.RightParen = 41 ∷ []
sign_text signs.Comma = 44 ∷ []

abbrev pub token_text : Token → List ℕ
token_text (identifier s) = s
token_text (name s) = s
token_text (word w) = word_text w
token_text out_of_profile = []
token_text (number n) = decimal n
token_text (negative n) = 45 ∷ decimal n
token_text too_large = []
token_text (sign s) = sign_text s
token_text illegal = []

-- one word, from end to end
pub record IsWord (s : List ℕ) : Type 0 where
  pub whole : word_len s ≡ length s
  pub letter : is_letter (slice_index s 0) ≡ true

-- a token that has a text of its own
abbrev pub IsPrintable : Token → Type 0
IsPrintable (identifier s) = IsWord s × (is_small (slice_index s 0) ≡ true)
IsPrintable (name s) = IsWord s × (is_small (slice_index s 0) ≢ true) × (capital_word s ≡ name s)
IsPrintable (word w) = ⊤
IsPrintable out_of_profile = ⊥
IsPrintable (number n) = n < 2 ^ 64
IsPrintable (negative n) = (0 < n) × (n < 2 ^ 64)
IsPrintable too_large = ⊥
IsPrintable (sign s) = ⊤
IsPrintable illegal = ⊥

-- tokens that each have a text of their own
abbrev pub ArePrintable : List Token → Type 0
ArePrintable ts = AllByRecursion IsPrintable ts

-- an identifier or a name, as a text can have it, is a whole word, and can be printed
abbrev pub IsRead : Token → Type 0
IsRead (identifier s) = IsPrintable (identifier s)
IsRead (name s) = IsPrintable (name s)
IsRead (word w) = ⊤
IsRead out_of_profile = ⊤
IsRead (number n) = ⊤
IsRead (negative n) = ⊤
IsRead too_large = ⊤
IsRead (sign s) = ⊤
IsRead illegal = ⊤

-- tokens, each followed by the white space c
abbrev pub spaced : ℕ → List Token → List ℕ
spaced c [] = []
spaced c (t ∷ ts) = token_text t ++ c ∷ spaced c ts

-- tokens as a line: joined by one SPACE, and ended by LF
abbrev pub line : List Token → List ℕ
line [] = 10 ∷ []
line (t ∷ []) = token_text t ++ 10 ∷ []
line (t ∷ u ∷ ts) = token_text t ++ 32 ∷ line (u ∷ ts)
