use Rattle.std.proofs.Common.{◌≡◌, ◌+◌, ◌-◌, ◌<◌, get_or, drop}
use Rattle.asn_notation.specs.declared.lexer.Blank.TheVariants.{Outside, Closing}
use Rattle.asn_notation.specs.Lexing.{blank_len, blank_from}
use Rattle.asn_notation.proofs.lexer.blank_len.Given as goal

abbrev pub invariant-loop-index : goal.invariant-loop-index
invariant-loop-index l = record {
  counted : l.index + blank_from l.blank (drop l.index l.text) ≡ blank_len l.text;
  ascii : l.blank ≡ Outside → 0 < l.index → get_or l.text (l.index - 1) 0 < 128;
  hyphen : l.blank ≡ Closing → get_or l.text l.index 0 ≡ 45;
}
