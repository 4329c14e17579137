-- Tokens without the text that they lie in.
use Rattle.std.specs.Prelude.{ℕ, List}
use Rattle.asn_notation.specs.declared.token.Word.{Word}
use Rattle.asn_notation.specs.declared.token.Sign.{Sign}
use Rattle.asn_notation.specs.declared.token.Lexeme.{Lexeme}
use Rattle.asn_notation.specs.declared.token.Lexeme.TheVariants as lexeme

pub data Token : Type 0 where
  identifier : List ℕ → Token
  name : List ℕ → Token
  word : Word → Token
  -- a reserved word out of the profile
  out_of_profile : Token
  number : ℕ → Token
  negative : ℕ → Token
  -- a number past 64 bits, with or without a minus sign
  too_large : Token
  sign : Sign → Token
  -- no token begins here
  illegal : Token

-- what a token of the program stands for
abbrev pub token_view : Lexeme → Token
token_view (lexeme.Identifier s) = identifier s.now
token_view (lexeme.Name s) = name s.now
token_view (lexeme.Word w) = word w
token_view lexeme.OutOfProfile = out_of_profile
token_view (lexeme.Number n) = number n
token_view (lexeme.Negative n) = negative n
token_view lexeme.TooLarge = too_large
token_view lexeme.TooSmall = too_large
token_view (lexeme.Sign s) = sign s
token_view lexeme.Illegal = illegal
