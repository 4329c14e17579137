-- What a receiver may give of a message: a value of its type, or one in which items and alternatives that the type has
-- not stand as such, at types with an extension marker.
use Rattle.std.specs.Prelude.{◌<◌, ◌+◌, ◌-◌, ℕ, zero, suc, Bool, true, false, List, [], ◌∷◌, length, take, drop, Option, nat_lt, MatchBool, ⊤}
use Rattle.std.specs.List.{AllByRecursion}
use Rattle.asn_values.specs.Datum.{Datum, item, unknown_item, alternative, unknown_alternative}
use Rattle.asn_values.specs.Shape.{Shape, boolean, null, integer, enumerated, bit_string, octet_string, restricted, utf8_string, sequence, sequence_of, choice, MoreLabels, closed_labels, marked_labels, more_labels, Fields, no_fields, field, MoreFields, closed, marked, demands, count, Alternatives, no_alternatives, one_of, MoreAlternatives, closed_choice, marked_choice}
use Rattle.asn_values.specs.View.{Part}
use Rattle.asn_values.specs.Fits.{Fits, FitsLength, FitsDemand, IsComponents, IsElements}

-- an item of the type, or, where that is allowed, one that the type has not
abbrev pub IsItemOr : Type 0 → (ℕ → Type 0) → Datum → Type 0
IsItemOr Q P (item p) = P p
IsItemOr Q P (unknown_item z) = Q
IsItemOr Q P _ = ⊥

-- an alternative of the type, or, where that is allowed, one that the type has not
abbrev pub IsAlternativeOr : Type 0 → (ℕ → Datum → Type 0) → Datum → Type 0
IsAlternativeOr Q P (alternative t d) = P t d
IsAlternativeOr Q P (unknown_alternative t) = Q
IsAlternativeOr Q P _ = ⊥

-- unknown items are asked for, and the type has an extension marker
abbrev pub UnknownItems : Bool → MoreLabels → Type 0
UnknownItems false more = ⊥
UnknownItems true closed_labels = ⊥
UnknownItems true (marked_labels ls) = ⊤

abbrev pub UnknownAlternatives : Bool → MoreAlternatives → Type 0
UnknownAlternatives false more = ⊥
UnknownAlternatives true closed_choice = ⊥
UnknownAlternatives true (marked_choice alts) = ⊤

abbrev mutual
  -- d is a value of the type, with unknown items and alternatives where they are asked for
  pub FitsBy : Bool → Shape → Datum → Type 0
  FitsBy u boolean d = Fits boolean d
  FitsBy u null d = Fits null d
  FitsBy u (integer b) d = Fits (integer b) d
  FitsBy u (enumerated root more) d =
      IsItemOr (UnknownItems u more) (λ p. p < length root + length (more_labels more)) d
  FitsBy u (bit_string s) d = Fits (bit_string s) d
  FitsBy u (octet_string s) d = Fits (octet_string s) d
  FitsBy u (restricted k s) d = Fits (restricted k s) d
  FitsBy u utf8_string d = Fits utf8_string d
  FitsBy u (sequence root more) d =
      IsComponents (λ es. FitsEachBy u root (take (length (demands root)) es)
      × FitsMoreBy u more (drop (length (demands root)) es)) d
  FitsBy u (sequence_of t s) d = IsElements (λ ds. FitsLength s (length ds) × AllByRecursion (λ e. FitsBy u t e) ds) d
  FitsBy u (choice root more) d =
      IsAlternativeOr (UnknownAlternatives u more) (λ t e.
      MatchBool (nat_lt t (count root)) (FitsAlternativeBy u root t e)
      (FitsMoreAlternativesBy u more (t - count root) e)) d

  -- one entry for each component
  pub FitsEachBy : Bool → Fields → List (Option Datum) → Type 0
  FitsEachBy u no_fields [] = ⊤
  FitsEachBy u no_fields (e ∷ es) = ⊥
  FitsEachBy u (field name demand t fs) [] = ⊥
  FitsEachBy u (field name demand t fs) (e ∷ es) = FitsDemand (λ d. FitsBy u t d) demand e × FitsEachBy u fs es

  pub FitsMoreBy : Bool → MoreFields → List (Option Datum) → Type 0
  FitsMoreBy u closed [] = ⊤
  FitsMoreBy u closed (e ∷ es) = ⊥
  FitsMoreBy u (marked fs) es = FitsEachBy u fs es

  -- a value of the alternative with this index
  pub FitsAlternativeBy : Bool → Alternatives → ℕ → Datum → Type 0
  FitsAlternativeBy u no_alternatives t d = ⊥
  FitsAlternativeBy u (one_of name shape alts) zero d = FitsBy u shape d
  FitsAlternativeBy u (one_of name shape alts) (suc t) d = FitsAlternativeBy u alts t d

  pub FitsMoreAlternativesBy : Bool → MoreAlternatives → ℕ → Datum → Type 0
  FitsMoreAlternativesBy u closed_choice t d = ⊥
  FitsMoreAlternativesBy u (marked_choice alts) t d = FitsAlternativeBy u alts t d

-- d is a value of the type, or one that a receiver gives of a message of another version of it
abbrev pub FitsReceived : Shape → Datum → Type 0
FitsReceived t d = FitsBy true t d

-- the entry of one component
abbrev pub FitsComponent : Bool → Part → Option Datum → Type 0
FitsComponent u part e = FitsDemand (λ d. FitsBy u part.shape d) part.demand e

-- the entries of a SEQUENCE; the tag and value of a CHOICE
abbrev pub SequenceBy : Bool → Fields → MoreFields → List (Option Datum) → Type 0
SequenceBy u root more es =
    FitsEachBy u root (take (length (demands root)) es) × FitsMoreBy u more (drop (length (demands root)) es)

abbrev pub ChoiceBy : Bool → Alternatives → MoreAlternatives → ℕ → Datum → Type 0
ChoiceBy u root more t e =
    MatchBool (nat_lt t (count root)) (FitsAlternativeBy u root t e) (FitsMoreAlternativesBy u more (t - count root) e)
