-- Which values a type has (X.680), within the limits of the profile.
use Rattle.std.specs.Prelude.{◌≤◌, ◌<◌, ◌+◌, ◌-◌, ℕ, zero, suc, ℤ, ◌≤ℤ◌, Bool, true, ◌&&◌, ◌||◌, List, [], ◌∷◌, length, take, drop, Option, Some, None, IsTrue, nat_lt, nat_le, IsUtf8, MatchBool, ⊤, ◌==◌}
use Rattle.std.specs.List.{AllByRecursion}
use Rattle.std.specs.Int.RustNames.{int_le}
pub use Rattle.asn_limits.specs.Limits.{max_len, lowest_integer, highest_integer, highest_number, offset_of_zero, integer_count}
use Rattle.asn_limits.specs.Limits.{most_alternatives, most_item_additions, most_nodes, most_levels}
use Rattle.asn_values.specs.Datum.{Datum, truth, nothing, number, item, bit_list, octet_list, characters, unicode, components, elements, alternative, component_list, element_list}
use Rattle.asn_values.specs.Shape.{Range, SizeRange, Alphabet, ia5, numeric, visible, Shape, boolean, null, integer, enumerated, bit_string, octet_string, restricted, utf8_string, sequence, sequence_of, choice, Demand, must, optional, default, more_labels, Fields, no_fields, field, MoreFields, closed, marked, demands, count, Alternatives, no_alternatives, one_of, MoreAlternatives, closed_choice, marked_choice}
use Rattle.asn_values.specs.Measures.{depth}

-- ---- limits

-- the limits that another profile may have higher
pub record Limits : Type 0 where
  -- the highest integer
  pub highest : ℤ
  -- the most alternatives of a CHOICE, and the most extension additions of an ENUMERATED
  pub alternatives : ℕ
  pub item_additions : ℕ
  -- the most types inside a type, itself counted
  pub nodes : ℕ
  -- how many levels a type has, and the most levels
  pub levels_of : Shape → ℕ
  pub levels : ℕ

-- each limit of the second profile is that of the first, or above it
pub record AreWider (l m : Limits) : Type 0 where
  pub highest : l.highest ≤ℤ m.highest
  pub alternatives : l.alternatives ≤ m.alternatives
  pub item_additions : l.item_additions ≤ m.item_additions
  pub nodes : l.nodes ≤ m.nodes
  pub levels : (t : Shape) → l.levels_of t ≤ l.levels → m.levels_of t ≤ m.levels

-- those of this profile
abbrev pub limits : Limits
limits = record {
  highest = highest_integer;
  alternatives = most_alternatives;
  item_additions = most_item_additions;
  nodes = most_nodes;
  levels_of = depth;
  levels = most_levels;
}

-- ---- numbers and lengths

abbrev pub at_least : Option ℤ → ℤ → Bool
at_least None z = true
at_least (Some low) z = int_le low z

abbrev pub at_most : Option ℤ → ℤ → Bool
at_most None z = true
at_most (Some high) z = int_le z high

-- inside the root of a range
abbrev pub in_range : Range → ℤ → Bool
in_range b z = at_least b.low z && at_most b.high z

abbrev pub not_above : Option ℕ → ℕ → Bool
not_above None n = true
not_above (Some high) n = nat_le n high

-- inside the root of a size
abbrev pub in_size : SizeRange → ℕ → Bool
in_size s n = nat_le s.low n && not_above s.high n

-- an integer of the profile, in the root or, where the range is extensible, outside it
abbrev pub FitsNumberUnder : Limits → Range → ℤ → Type 0
FitsNumberUnder l b z = (lowest_integer ≤ℤ z) × (z ≤ℤ l.highest) × IsTrue (b.extensible || in_range b z)

abbrev pub FitsNumber : Range → ℤ → Type 0
FitsNumber = FitsNumberUnder limits

-- a length of the profile, in the root or, where the size is extensible, outside it
abbrev pub FitsLength : SizeRange → ℕ → Type 0
FitsLength s n = (n ≤ max_len) × IsTrue (s.extensible || in_size s n)

-- ---- characters

-- IA5String: the codes 0 to 127; NumericString: SPACE and the digits; VisibleString: 32 to 126
abbrev pub is_of_kind : Alphabet → ℕ → Bool
is_of_kind ia5 c = nat_lt c 128
is_of_kind numeric c = (c == 32) || (nat_le 48 c && nat_le c 57)
is_of_kind visible c = nat_le 32 c && nat_le c 126

-- ---- the parts of a value at each kind of type

abbrev pub IsTruth : Datum → Type 0
IsTruth (truth b) = ⊤
IsTruth _ = ⊥

abbrev pub IsNothing : Datum → Type 0
IsNothing nothing = ⊤
IsNothing _ = ⊥

abbrev pub IsNumber : (ℤ → Type 0) → Datum → Type 0
IsNumber P (number z) = P z
IsNumber P _ = ⊥

abbrev pub IsItem : (ℕ → Type 0) → Datum → Type 0
IsItem P (item p) = P p
IsItem P _ = ⊥

abbrev pub IsBits : (List Bool → Type 0) → Datum → Type 0
IsBits P (bit_list bs) = P bs
IsBits P _ = ⊥

abbrev pub IsOctets : (List ℕ → Type 0) → Datum → Type 0
IsOctets P (octet_list os) = P os
IsOctets P _ = ⊥

abbrev pub IsText : (List ℕ → Type 0) → Datum → Type 0
IsText P (characters cs) = P cs
IsText P _ = ⊥

abbrev pub IsUnicode : (List ℕ → Type 0) → Datum → Type 0
IsUnicode P (unicode bs) = P bs
IsUnicode P _ = ⊥

abbrev pub IsComponents : (List (Option Datum) → Type 0) → Datum → Type 0
IsComponents P (components cs) = P (component_list cs)
IsComponents P _ = ⊥

abbrev pub IsElements : (List Datum → Type 0) → Datum → Type 0
IsElements P (elements ds) = P (element_list ds)
IsElements P _ = ⊥

abbrev pub IsAlternative : (ℕ → Datum → Type 0) → Datum → Type 0
IsAlternative P (alternative t d) = P t d
IsAlternative P _ = ⊥

-- ---- which values a type has

-- a component may be absent only where it is OPTIONAL
abbrev pub FitsDemand : (Datum → Type 0) → Demand → Option Datum → Type 0
FitsDemand P demand (Some d) = P d
FitsDemand P optional None = ⊤
FitsDemand P must None = ⊥
FitsDemand P (default e) None = ⊥

abbrev mutual
  -- d is a value of the type
  pub FitsUnder : Limits → Shape → Datum → Type 0
  FitsUnder l boolean d = IsTruth d
  FitsUnder l null d = IsNothing d
  FitsUnder l (integer b) d = IsNumber (FitsNumberUnder l b) d
  FitsUnder l (enumerated root more) d = IsItem (λ p. p < length root + length (more_labels more)) d
  FitsUnder l (bit_string s) d = IsBits (λ bs. FitsLength s (length bs)) d
  FitsUnder l (octet_string s) d = IsOctets (λ os. FitsLength s (length os) × AllByRecursion (λ o. o < 256) os) d
  FitsUnder l (restricted k s) d =
      IsText (λ cs. FitsLength s (length cs) × AllByRecursion (λ c. IsTrue (is_of_kind k c)) cs) d
  FitsUnder l utf8_string d = IsUnicode (λ os. (length os ≤ max_len) × IsUtf8 os) d
  FitsUnder l (sequence root more) d =
      IsComponents (λ es. FitsEachUnder l root (take (length (demands root)) es)
      × FitsMoreUnder l more (drop (length (demands root)) es)) d
  FitsUnder l (sequence_of t s) d =
      IsElements (λ ds. FitsLength s (length ds) × AllByRecursion (λ e. FitsUnder l t e) ds) d
  FitsUnder l (choice root more) d =
      IsAlternative (λ t e. MatchBool (nat_lt t (count root)) (FitsAlternativeUnder l root t e)
      (FitsMoreAlternativesUnder l more (t - count root) e)) d

  -- one entry for each component
  pub FitsEachUnder : Limits → Fields → List (Option Datum) → Type 0
  FitsEachUnder l no_fields [] = ⊤
  FitsEachUnder l no_fields (e ∷ es) = ⊥
  FitsEachUnder l (field name demand t fs) [] = ⊥
  FitsEachUnder l (field name demand t fs) (e ∷ es) = FitsDemand (λ d. FitsUnder l t d) demand e × FitsEachUnder l fs es

  pub FitsMoreUnder : Limits → MoreFields → List (Option Datum) → Type 0
  FitsMoreUnder l closed [] = ⊤
  FitsMoreUnder l closed (e ∷ es) = ⊥
  FitsMoreUnder l (marked fs) es = FitsEachUnder l fs es

  -- a value of the alternative at that index; the tags count the alternatives from 0, root first
  pub FitsAlternativeUnder : Limits → Alternatives → ℕ → Datum → Type 0
  FitsAlternativeUnder l no_alternatives t d = ⊥
  FitsAlternativeUnder l (one_of name shape alts) zero d = FitsUnder l shape d
  FitsAlternativeUnder l (one_of name shape alts) (suc t) d = FitsAlternativeUnder l alts t d

  pub FitsMoreAlternativesUnder : Limits → MoreAlternatives → ℕ → Datum → Type 0
  FitsMoreAlternativesUnder l closed_choice t d = ⊥
  FitsMoreAlternativesUnder l (marked_choice alts) t d = FitsAlternativeUnder l alts t d

abbrev pub Fits : Shape → Datum → Type 0
Fits = FitsUnder limits

abbrev pub FitsEach : Fields → List (Option Datum) → Type 0
FitsEach = FitsEachUnder limits

abbrev pub FitsMore : MoreFields → List (Option Datum) → Type 0
FitsMore = FitsMoreUnder limits

abbrev pub FitsAlternative : Alternatives → ℕ → Datum → Type 0
FitsAlternative = FitsAlternativeUnder limits

abbrev pub FitsMoreAlternatives : MoreAlternatives → ℕ → Datum → Type 0
FitsMoreAlternatives = FitsMoreAlternativesUnder limits

-- the entries of a SEQUENCE; the tag and value of a CHOICE
abbrev pub FitsSequence : Fields → MoreFields → List (Option Datum) → Type 0
FitsSequence root more es =
    FitsEach root (take (length (demands root)) es) × FitsMore more (drop (length (demands root)) es)

abbrev pub FitsChoice : Alternatives → MoreAlternatives → ℕ → Datum → Type 0
FitsChoice root more t e =
    MatchBool (nat_lt t (count root)) (FitsAlternative root t e) (FitsMoreAlternatives more (t - count root) e)
