-- A complete encoding has an octet at least.
use Rattle.std.proofs.Common.{◌≢◌, ℕ, List, [], ◌∷◌, ◌++◌, length, sym, ◌∙◌}
use Rattle.asn_values.specs.Datum.{Datum}
use Rattle.asn_values.specs.Shape.{Shape}
use Rattle.asn_rules.specs.Chunks.{flat}
use Rattle.asn_per.specs.Per.{spelled, filling, per}
use Rattle.asn_per.specs.Rules.{per_ruling, IsPerEncoding}
use Rattle.asn_per.proofs.Encodings.Complete.{filled_is}

-- bits that are filled up are some
some_filled : (us : List ℕ) → us ++ filling (length us) ≢ []
some_filled [] e = cc
some_filled (u ∷ us) e = cc

pub not_empty : (t : Shape) (v : Datum) → IsPerEncoding t v [] → ⊥
unfolding per_ruling
not_empty t v h = some_filled (flat spelled (per t v)) (sym (filled_is (per t v)) ∙ sym h.1)
