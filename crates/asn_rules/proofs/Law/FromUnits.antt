-- The laws of encoding rules, from what is said of whole encodings in units.
use Rattle.std.proofs.Common.{◌≡◌, [], ◌++◌, sym, ◌∙◌, ap}
use Rattle.std.proofs.lemmas.List.{append-nil}
use Rattle.asn_rules.specs.Chunks.{flat}
use Rattle.asn_rules.specs.Answer.{Ruling}
use Rattle.asn_rules.specs.Laws.{RulesLaws, WholesTell}

-- whole encodings that tell their values, and units that tell their octets
pub rules_laws : (r : Ruling) → WholesTell r → RulesLaws r
rules_laws r h = record {
  one_value = λ t v w o p a b. h.told t v w [] p a.0 b.0 (append-nil (flat r.fielding.spelled (r.whole t v)) ∙ sym a.1 ∙ b.1);
  encoding = λ t v p fits. (let o = h.filled t v p fits in (o.0, o.1, (fits, o.2)));
  one_encoding = λ t v o q p oo oq a b. h.once o q oo oq (a.1 ∙ sym b.1);
  none_begins = λ t v w o q p oo oq a b begins.
      (let rest = r.units begins.0 in
      let longer : flat r.fielding.spelled (r.whole t v) ++ rest ≡ flat r.fielding.spelled (r.whole t w) =
      ap (λ z. z ++ rest) (sym a.1) ∙ sym (h.joined o begins.0) ∙ ap r.units (sym begins.1) ∙ b.1 in
      let same = h.told t v w rest p a.0 b.0 longer in
      h.once o q oo oq (a.1 ∙ ap (λ z. flat r.fielding.spelled (r.whole t z)) same ∙ sym b.1));
}
