use Rattle.std.proofs.Common.{◌≡◌, ◌-◌, true, arith}
use Rattle.std.proofs.lemmas.Grind.{common_steps}
use Rattle.std.specs.Prelude.{slice_index}
use Rattle.asn_notation.specs.Lexing.{word_len, digits_len, is_digit}
use Rattle.asn_notation.proofs.LexingLemmas.{word_ascii, digits_ascii, is_numeral, at_one}
use Rattle.asn_notation.proofs.lexer.leading_token.Goals as goal

pub split-requires-clause-ascii : goal.split-requires-clause-ascii
split-requires-clause-ascii c some less =
    let n : c.word_len.result ≡ word_len c.args.text.now = grind (arith, common_steps) in
    word_ascii c.args.text.now (c.word_len.result - 1) (omega (arith, n))

pub split-requires-then-is_digit-clause-ascii : goal.split-requires-then-is_digit-clause-ascii
split-requires-then-is_digit-clause-ascii c some less =
    let n : c.digits_len.result ≡ digits_len c.args.text.now = grind (arith, common_steps) in
    digits_ascii c.args.text.now (c.digits_len.result - 1) (omega (arith, n))

pub number_lexeme-requires : goal.number_lexeme-requires
number_lexeme-requires c =
    let n : c.digits_len.result ≡ digits_len c.args.text.now = grind (arith, common_steps) in
    let first : is_digit (slice_index c.args.text.now 0) ≡ true = grind (arith, common_steps) in
    rw (c.split-then-is_digit.ensures.front, n) (is_numeral c.args.text.now first)

pub split-requires-then-second-gt48-2-clause-ascii : goal.split-requires-then-second-gt48-2-clause-ascii
split-requires-then-second-gt48-2-clause-ascii c some less =
    let after = c.split-then-second-gt48.result.1.now in
    let n : c.digits_len-then-second-gt48.result ≡ digits_len after = grind (arith, common_steps) in
    digits_ascii after (c.digits_len-then-second-gt48.result - 1) (omega (arith, n))

pub negative_lexeme-requires : goal.negative_lexeme-requires
negative_lexeme-requires c =
    let after = c.split-then-second-gt48.result.1.now in
    let n : c.digits_len-then-second-gt48.result ≡ digits_len after = grind (arith, common_steps) in
    let second : is_digit (slice_index c.args.text.now 1) ≡ true = grind (arith, common_steps) in
    let first : is_digit (slice_index after 0) ≡ true = rw (c.split-then-second-gt48.ensures.rest, at_one) second in
    rw (c.split-then-second-gt48-2.ensures.front, n) (is_numeral after first)
