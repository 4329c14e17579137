use Rattle.std.proofs.Common.{◌∷◌, [], refl}
use Rattle.asn_notation.specs.declared.token.Word.TheVariants as words
use Rattle.asn_notation.specs.Token.{word}
use Rattle.asn_notation.specs.Grammar.{string_words}
use Rattle.asn_module.proofs.Adding.{adds_none, adds_token, ends_token}
use Rattle.asn_module.proofs.printing.write_kind.Goals as goal

pub returns-in_ok-write_token-in-Bits : goal.returns-in_ok-write_token-in-Bits
returns-in_ok-write_token-in-Bits c =
    ends_token c.write_token-in-Bits.result (word words.Bit ∷ []) (string_words c.args.kind) (word words.String) _ _ _ (rw c.in-Bits.is refl) (adds_token (word words.Bit) _ _ c.in_ok-write_token-in-Bits.ensures) c.write_token-in-Bits.ensures

pub returns-in_ok-write_token-in-Octets : goal.returns-in_ok-write_token-in-Octets
returns-in_ok-write_token-in-Octets c =
    ends_token c.write_token-in-Octets-2.result (word words.Octet ∷ []) (string_words c.args.kind) (word words.String) _ _ _ (rw c.in-Octets.is refl) (adds_token (word words.Octet) _ _ c.in_ok-write_token-in-Octets.ensures) c.write_token-in-Octets-2.ensures

pub returns-in-Visible : goal.returns-in-Visible
returns-in-Visible c = ends_token c.write_token-in-Visible.result [] (string_words c.args.kind) (word words.VisibleString) _ _ _ (rw c.in-Visible.is refl) (adds_none _) c.write_token-in-Visible.ensures
