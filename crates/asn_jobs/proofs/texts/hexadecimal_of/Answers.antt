use Rattle.std.proofs.Common.{◌≡◌, ◌∙◌, ap, arith, rules}
use Rattle.std.specs.Result.{result_ok}
use Rattle.hex.specs.Hex.{decode_of, encode_lower}
use Rattle.asn_jobs.specs.Texts.{digits_of}
use Rattle.asn_jobs.proofs.Back.{hexadecimal_back}
use Rattle.asn_jobs.proofs.texts.hexadecimal_of.Goals as goal

pub returns-clause-read_again : goal.returns-clause-read_again
returns-clause-read_again c =
    let is : c.in_ok-text.text.items ≡ encode_lower c.args.octets.now = search rules in
    ap (λ t. result_ok (decode_of (digits_of t))) is ∙ hexadecimal_back c.args.octets.now (λ k. omega (arith, c.type_inv.octets k))
