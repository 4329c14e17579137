-- The open fields of PER are those that hold the complete encodings of the values of a type: two are one or part,
-- and there is one.
use Rattle.std.proofs.Common.{◌≡◌, ℕ, List, [], ◌∷◌, refl, sym, ◌∙◌}
use Rattle.std.proofs.lemmas.List.{append-nil}
use Rattle.asn_values.specs.Datum.{Datum}
use Rattle.asn_values.specs.Shape.{Shape}
use Rattle.asn_values.specs.Fits.{Fits}
use Rattle.asn_values.specs.Profile.{InProfile}
use Rattle.asn_bits.specs.Numbers.{unpacked}
use Rattle.asn_rules.specs.Chunks.{open_field, sealed, flat}
use Rattle.asn_rules.specs.Forks.{Same}
use Rattle.asn_rules.specs.Languages.{Lawful, Inhabited}
use Rattle.asn_rules.specs.Laws.{AreOctets}
use Rattle.asn_rules.specs.Reading.{Holds}
use Rattle.asn_rules.specs.Spellings.{SpelledBy}
use Rattle.asn_rules.proofs.Languages.Forks.{same_flip, same_inhabited}
use Rattle.asn_rules.proofs.Sealed.OpenFields.{open_spelled}
use Rattle.asn_rules.proofs.Languages.Parts.{sealed_lawful}
use Rattle.asn_rules.proofs.Law.SomeValue.{a_value}
use Rattle.asn_rules.proofs.Languages.Spellings.{spelled_inhabited}
use Rattle.asn_per.specs.Per.{spelled, per, per_whole, complete, an_open_field}
use Rattle.asn_per.specs.Rules.{per_ruling}
use Rattle.asn_per.specs.Kinds.{OpenValues}
use Rattle.asn_per.proofs.Encodings.Complete.{filled_is, complete_octets, complete_full}
use Rattle.asn_per.proofs.Encodings.Spelt.{per_spelt}
use Rattle.asn_per.proofs.Encodings.Tells.{per_tells}
use Rattle.asn_per.proofs.Encodings.Whole.{per_wholes}

-- the values of a type in open fields, as the definition spells them
pub open_values_spelled : (t : Shape) → InProfile t → Same (OpenValues t) (SpelledBy (Fits t) (λ v. an_open_field (per t v)))
unfolding per_ruling
open_values_spelled t good = open_spelled per_ruling per_tells t good per_wholes (λ v. complete (per t v)) given
  where
    given : (v : Datum) → Fits t v → AreOctets (complete (per t v)) × (unpacked (complete (per t v)) ≡ flat spelled (per_whole t v))
    given v f = (complete_octets (per t v) (per_spelt t v f).bits, complete_full (per t v) (per_spelt t v f).bits ∙ sym (filled_is (per t v)))

module _ (t : Shape) (good : InProfile t) where
  -- a content is of one value
  one_value : (v w : Datum) (c : List ℕ) → Holds per_ruling t v c → Holds per_ruling t w c → v ≡ w
  unfolding per_ruling
  one_value v w c p q = per_wholes.told t v w [] good p.encoding.0 q.encoding.0 (append-nil (flat spelled (per_whole t v)) ∙ sym p.encoding.1 ∙ q.encoding.1)

  -- the content of a value is its complete encoding
  the_content : (v : Datum) (c : List ℕ) → Holds per_ruling t v c → c ≡ complete (per t v)
  the_content v c h =
      let e : sealed open_field c ∷ [] ≡ sealed open_field (complete (per t v)) ∷ [] = ((open_values_spelled t good).to v (sealed open_field c ∷ []) (record { content = c; spelt = h; same = refl })).same in
      cc

  -- two open fields are one, of one value, or they part
  pub open_values_lawful : Lawful (OpenValues t)
  open_values_lawful = sealed_lawful (record { one_value = one_value; one_content = λ v c d p q. the_content v c p ∙ sym (the_content v d q) })

  -- there is one
  pub open_values_inhabited : Inhabited (OpenValues t)
  open_values_inhabited = let v = a_value t good in same_inhabited (same_flip (open_values_spelled t good)) (spelled_inhabited v.0 v.1)
