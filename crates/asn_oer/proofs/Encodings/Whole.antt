-- The laws of OER, from spellings that face each other.
use Rattle.std.proofs.Common.{[], ◌++◌, refl, sym, ◌∙◌, ap}
use Rattle.std.proofs.lemmas.List.{append-nil}
use Rattle.asn_rules.specs.Laws.{EncodesAs, UnitsTellTheValue, OneValue, NoneBegins, WholesTell, RulesLaws}
use Rattle.asn_rules.specs.Parted.{SpellingsPart}
use Rattle.asn_rules.proofs.Law.FromFacing.{units_tell, spellings_part}
use Rattle.asn_rules.proofs.Law.FromUnits.{rules_laws}
use Rattle.asn_rules.specs.Fields.{spelled}
use Rattle.asn_oer.specs.Oer.{oer, oer_octets}
use Rattle.asn_oer.specs.Rules.{oer_ruling}
use Rattle.asn_oer.proofs.Law.Spellings.{oer_faces}
use Rattle.asn_oer.proofs.Law.GoodTypes.{good}
use Rattle.asn_oer.proofs.Encodings.SpeltTypes.{oer_spelt, few_levels}

-- encodings at the front of one list of octets are one, of one value
pub octets_tell : UnitsTellTheValue oer_octets
octets_tell = units_tell spelled oer oer_faces

-- an encoding has one value
pub one_value_octets : OneValue oer_octets
one_value_octets t v w h p q e = (octets_tell t v w [] [] h p q (ap (λ o. o ++ []) e)).0

-- no encoding begins another
pub none_begins_octets : NoneBegins oer_octets
none_begins_octets t v w rest h p q e = octets_tell t v w rest [] h p q (e ∙ sym (append-nil (oer_octets t w)))

-- two spellings are one, or they part
pub oer_part : SpellingsPart oer
oer_part = spellings_part spelled oer oer_faces

-- ---- as encoding rules

-- the same said of the rules' whole encodings
pub oer_wholes : WholesTell oer_ruling
unfolding oer_ruling
oer_wholes = record {
  told = λ t v w rest h p q e. (octets_tell t v w rest [] h p q (e ∙ sym (append-nil (oer_octets t w)))).0;
  filled = λ t v h f. (oer_octets t v, (oer_spelt t (good t h) (few_levels t h) v f).units.octets, refl);
  joined = λ o p. refl;
  once = λ o p a b e. e;
}

-- OER keeps the laws of encoding rules
pub oer_laws : RulesLaws oer_ruling
oer_laws = rules_laws oer_ruling oer_wholes

-- the encoding of a value is the units of its spelling
pub oer_encodes : EncodesAs oer_ruling oer_octets
unfolding oer_ruling
oer_encodes t v o h os = (λ a. (a.0, a.1), λ a. (a.0, a.1))
