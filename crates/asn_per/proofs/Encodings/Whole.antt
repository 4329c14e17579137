-- The laws of PER, from its spellings and what is said of complete encodings.
use Rattle.std.proofs.Common.{◌≡◌, ℕ, List, [], ◌∷◌, ◌++◌, length, refl, sym, ◌∙◌, ap, arith, append_assoc}
use Rattle.std.proofs.lemmas.List.{append-nil}
use Rattle.asn_values.specs.Datum.{Datum}
use Rattle.asn_values.specs.Shape.{Shape}
use Rattle.asn_values.specs.Fits.{Fits}
use Rattle.asn_values.specs.Profile.{EmptyRange, SizeTooLarge, ZeroWidthElement, InProfile}
use Rattle.asn_bits.specs.Numbers.{bits, unpacked}
use Rattle.asn_bits.proofs.Digits.{digits_code}
use Rattle.asn_rules.specs.Chunks.{flat}
use Rattle.asn_rules.specs.Laws.{AreOctets, EncodesAs, UnitsTellTheValue, OneValue, NoneBegins, RulesLaws, WholesTell}
use Rattle.asn_rules.specs.Parted.{SpellingsPart}
use Rattle.asn_rules.proofs.Law.FromFacing.{units_tell, spellings_part}
use Rattle.asn_rules.proofs.Law.FromUnits.{rules_laws}
use Rattle.asn_per.specs.Per.{spelled, per, filling, complete, per_whole, per_octets}
use Rattle.asn_per.specs.Rules.{per_ruling}
use Rattle.asn_per.specs.Laws.{per_bits, NoBitsIsExact}
use Rattle.asn_per.proofs.Encodings.Spelt.{per_spelt}
use Rattle.asn_per.proofs.Encodings.Complete.{filled_is, complete_code, complete_octets, complete_full, unpacked-append}
use Rattle.asn_per.proofs.Encodings.SomeBits.{no_bits_exact}
use Rattle.asn_per.proofs.Law.Facing.{spellings_face}

-- ---- spellings and octets

-- the bits of a spelling tell the value, whatever follows
pub bits_tell : UnitsTellTheValue per_bits
bits_tell = units_tell spelled per spellings_face

-- two spellings are one, of one value, or part
pub per_parts : SpellingsPart per
per_parts = spellings_part spelled per spellings_face

-- octets, with whatever follows, tell the value
octets_tell : UnitsTellTheValue per_octets
octets_tell t v w r s h p q e =
    complete_code (λ d. Fits t d) (λ d. per t d) (λ d p. (per_spelt t d p).bits) (λ x y r s p q e. bits_tell t x y r s h p q e) v w r s p q e

-- octets have one value
pub one_value_octets : OneValue per_octets
one_value_octets t v w h p q e = (octets_tell t v w [] [] h p q (ap (λ o. o ++ []) e)).0

-- no encoding begins another
pub none_begins_octets : NoneBegins per_octets
none_begins_octets t v w rest h p q e = octets_tell t v w rest [] h p q (e ∙ sym (append-nil (per_octets t w)))

-- ---- as encoding rules

-- the bits of octets tell the octets
unpacked_once : (os ps : List ℕ) → AreOctets os → AreOctets ps → unpacked os ≡ unpacked ps → os ≡ ps
unpacked_once [] [] p q e = refl
unpacked_once [] (b ∷ ps) p q e = let f : [] ≡ bits 8 b ++ unpacked ps = e in absurd (cc)
unpacked_once (a ∷ os) [] p q e = let f : bits 8 a ++ unpacked os ≡ [] = e in absurd (cc)
unpacked_once (a ∷ os) (b ∷ ps) p q e =
    let w = digits_code 2 (omega arith) 8 a b (unpacked os) (unpacked ps) p.0 q.0 e in
    let again = unpacked_once os ps p.1 q.1 w.1 in
    cc (w.0, again)

-- a complete encoding that begins another is of the same value
wholes_told : (t : Shape) (v w : Datum) (rest : List ℕ) → InProfile t → Fits t v → Fits t w → flat spelled (per_whole t v) ++ rest ≡ flat spelled (per_whole t w) → v ≡ w
wholes_told t v w rest h p q e =
    let F = filling (length (per_bits t v)) in
    let G = filling (length (per_bits t w)) in
    (bits_tell t v w (F ++ rest) G h p q
    (sym (append_assoc (per_bits t v) F rest) ∙ ap (λ x. x ++ rest) (sym (filled_is (per t v))) ∙ e ∙ filled_is (per t w))).0

-- what the laws of encoding rules follow from
pub per_wholes : WholesTell per_ruling
unfolding per_ruling
per_wholes = record {
  told = wholes_told;
  filled = λ t v h f. (complete (per t v), complete_octets (per t v) (per_spelt t v f).bits, complete_full (per t v) (per_spelt t v f).bits ∙ sym (filled_is (per t v)));
  joined = unpacked-append;
  once = unpacked_once;
}

-- the encoding of a value is the octets of its complete encoding
pub per_encodes : EncodesAs per_ruling per_octets
unfolding per_ruling
per_encodes t v o h os = (
  λ a. (let whole = complete_full (per t v) (per_spelt t v a.0).bits ∙ sym (filled_is (per t v)) in
      (a.0, unpacked_once o (per_octets t v) os (complete_octets (per t v) (per_spelt t v a.0).bits) (a.1 ∙ sym whole))),
  λ a. (a.0, ap unpacked a.1 ∙ complete_full (per t v) (per_spelt t v a.0).bits ∙ sym (filled_is (per t v))),
)

-- the laws
pub per_laws : RulesLaws per_ruling
per_laws = rules_laws per_ruling per_wholes

-- ---- types without bits

-- no_bits says which types have no bits
pub bits_exact : NoBitsIsExact
bits_exact t h = no_bits_exact t (h EmptyRange) (h SizeTooLarge) (h ZeroWidthElement)
