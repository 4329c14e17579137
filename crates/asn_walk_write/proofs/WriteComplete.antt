-- What the octets of a complete encoding are, in any rules.
use Rattle.std.proofs.Common.{◌≡◌, ℕ, List, length, sym, ap, ◌∙◌}
use Rattle.asn_values.specs.Datum.{Datum}
use Rattle.asn_values.specs.Shape.{Shape}
use Rattle.asn_values.specs.Fits.{Fits}
use Rattle.asn_values.specs.Profile.{InProfile}
use Rattle.asn_rules.specs.Answer.{IsEncoding}
use Rattle.asn_walk.specs.Coding.{Coding}
use Rattle.asn_walk.specs.WriteLaws.{WriteLaws}

-- they are the encoding of the value
pub is_encoding : {c : Coding} (laws : WriteLaws c) (t : Shape) (v : Datum) (o : List ℕ) → InProfile t → Fits t v
    → o ≡ c.complete (c.code t v) → IsEncoding c.ruling t v o
is_encoding {c} laws t v o good fits e = (fits, ap (λ (x : List ℕ). c.ruling.units x) e ∙ laws.complete t v good fits)

-- each encoding of a value is as long as any other
pub same_lengths : {c : Coding} (laws : WriteLaws c) (t : Shape) (v : Datum) (o p : List ℕ) → IsEncoding c.ruling t v o
    → IsEncoding c.ruling t v p → length o ≡ length p
same_lengths laws t v o p a b = laws.long o p (a.1 ∙ sym b.1)
