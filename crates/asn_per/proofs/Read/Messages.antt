-- A message is the spelling of a value and the zeros that fill up its octets.
use Rattle.std.proofs.Common.{refl, None}
use Rattle.asn_values.specs.Shape.{Shape}
use Rattle.asn_rules.specs.Forks.{Same}
use Rattle.asn_rules.specs.Listed.{Spelt}
use Rattle.asn_rules.specs.Padding.{Padded}
use Rattle.asn_rules.specs.Reading.{Wholes}
use Rattle.asn_rules.proofs.Languages.Spellings.{same_after, same_spelled, padded_spelled}
use Rattle.asn_per.specs.Per.{per, per_fields, filling}
use Rattle.asn_per.specs.Rules.{per_ruling}

-- spellings that are filled up are whole encodings
pub message_language : (t : Shape) → Same (Padded per_fields filling (Spelt per None t)) (Wholes per_ruling t)
unfolding per_ruling
message_language t = same_after (padded_spelled per_fields filling) (same_spelled (λ v h. h.0) (λ v h. (h, tt)) (λ v h. refl))
