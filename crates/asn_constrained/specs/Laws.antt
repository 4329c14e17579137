-- What encodings and answers under a constraint keep of the laws of encoding rules.
use Rattle.std.specs.Prelude.{◌≡◌, ℕ, true, List, length, take}
use Rattle.asn_values.specs.Datum.{Datum}
use Rattle.asn_values.specs.Fits.{Fits}
use Rattle.asn_values.specs.Shape.{Shape}
use Rattle.asn_values.specs.Profile.{InProfile}
use Rattle.asn_rules.specs.Answer.{Ruling, Told, refused, Answer}
use Rattle.asn_rules.specs.Laws.{AreOctets}
use Rattle.asn_rules.specs.Live.{Begins}
use Rattle.asn_constraints.specs.Constraints.{Constraint, meets}
use Rattle.asn_constrained.specs.Under.{IsEncodingUnder, BreaksConstraint, AnswerUnder}

-- one encoding for each value that meets the constraint, one value for each encoding, and none begins another
pub record EncodingsUnder (r : Ruling) : Type 0 where
  pub one_value : (t : Shape) (c : Constraint) (v w : Datum) (o : List ℕ) → InProfile t → IsEncodingUnder r t c v o
      → IsEncodingUnder r t c w o → v ≡ w
  pub encoding : (t : Shape) (c : Constraint) (v : Datum) → InProfile t → Fits t v → meets c v ≡ true
      → (o : List ℕ) × AreOctets o × IsEncodingUnder r t c v o
  pub one_encoding : (t : Shape) (c : Constraint) (v : Datum) (o p : List ℕ) → InProfile t → AreOctets o → AreOctets p
      → IsEncodingUnder r t c v o → IsEncodingUnder r t c v p → o ≡ p
  pub none_begins : (t : Shape) (c : Constraint) (v w : Datum) (o p : List ℕ) → InProfile t → AreOctets o → AreOctets p
      → IsEncodingUnder r t c v o → IsEncodingUnder r t c w p → Begins o p → o ≡ p

-- ---- answers

-- two answers to one list of octets are one
abbrev pub OneAnswerUnder : Ruling → Type 0
OneAnswerUnder r =
    (t : Shape) (c : Constraint) (s : List ℕ) (a b : Told) → InProfile t → AreOctets s → AnswerUnder r t c s a
    → AnswerUnder r t c s b → a ≡ b

-- octets that are answered without it are answered under it
abbrev pub AnsweredUnder : Ruling → Type 0
AnsweredUnder r =
    (t : Shape) (c : Constraint) (s : List ℕ) (a : Told) → Answer r t s a → (b : Told) × AnswerUnder r t c s b

-- octets that begin with the encoding of a value that breaks the constraint are refused at the last unit of that encoding
abbrev pub BrokenAreRefused : Ruling → Type 0
BrokenAreRefused r =
    (t : Shape) (c : Constraint) (s : List ℕ) (n : ℕ) → BreaksConstraint r t c s n
    → AnswerUnder r t c s (refused (length (r.units (take n s))))
