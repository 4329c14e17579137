-- Readers of OER can tell encodings, octet by octet.
use Rattle.std.proofs.Common.{◌*◌, ◌≤◌, ℕ, List, length, length-append, refl, arith}
use Rattle.asn_bits.specs.Lengths.{octet_length}
use Rattle.asn_rules.specs.Reading.{RulesTell}
use Rattle.asn_rules.specs.Fields.{spelled}
use Rattle.asn_rules.proofs.Octets.OctetFields.{spelled_code, some_octets}
use Rattle.asn_oer.specs.Rules.{oer_ruling}
use Rattle.asn_oer.proofs.Law.GoodTypes.{good}
use Rattle.asn_oer.proofs.Encodings.LiveParts.{open_starts, utf8_starts}
use Rattle.asn_oer.proofs.Encodings.SpeltTypes.{oer_spelt, few_levels}
use Rattle.asn_oer.proofs.Encodings.Whole.{oer_part}

-- a sealed field is at least as long as its content
longer : (c : List ℕ) → 1 * length c ≤ length (spelled c)
longer c = omega (arith, length-append (octet_length (length c)) c)

-- what readers of OER rest on
pub oer_tells : RulesTell oer_ruling
unfolding oer_ruling
oer_tells = record {
  weight = 1;
  some = omega arith;
  count = λ o. omega arith;
  joined = λ o p. refl;
  long = longer;
  units = some_octets;
  tells = λ c d s t p q e. (spelled_code c d s t e).0;
  open_starts = open_starts;
  utf8_starts = utf8_starts;
  sealed = λ t v h f. (oer_spelt t (good t h) (few_levels t h) v f).held;
  part = oer_part;
}
