-- Types as trees, without memory: what an `AsnType` stands for (X.680), for all kinds of type of the profile.
use Rattle.std.specs.Prelude.{ℕ, suc, ℤ, Bool, true, false, List, [], ◌∷◌, Option}
use Rattle.asn_values.specs.Datum.{Datum}

-- ---- what the kinds of type are made of

-- the bounds of an INTEGER (X.680, value range): None is MIN or MAX, extensible where "..." follows
pub record Range : Type 0 where
  pub low : Option ℤ
  pub high : Option ℤ
  pub extensible : Bool

-- the bounds of a length (X.680, size constraint), in items: None is MAX, extensible where "..." follows
pub record SizeRange : Type 0 where
  pub low : ℕ
  pub high : Option ℕ
  pub extensible : Bool

-- the characters of IA5String, NumericString and VisibleString (X.680, restricted character string types)
pub data Alphabet : Type 0 where
  ia5 numeric visible : Alphabet

-- an item of an ENUMERATED, with its number
pub record Label : Type 0 where
  pub name : List ℕ
  pub number : ℤ

-- the additions of an ENUMERATED, where it has an extension marker
pub data MoreLabels : Type 0 where
  closed_labels : MoreLabels
  marked_labels : List Label → MoreLabels

-- whether a component of a SEQUENCE has to be there: always, not where OPTIONAL, or DEFAULT a value
pub data Demand : Type 0 where
  must : Demand
  optional : Demand
  default : Datum → Demand

-- ---- types

mutual
  pub data Shape : Type 0 where
    boolean : Shape
    null : Shape
    integer : Range → Shape
    enumerated : List Label → MoreLabels → Shape
    bit_string : SizeRange → Shape
    octet_string : SizeRange → Shape
    restricted : Alphabet → SizeRange → Shape
    utf8_string : Shape
    sequence : Fields → MoreFields → Shape
    sequence_of : Shape → SizeRange → Shape
    choice : Alternatives → MoreAlternatives → Shape

  -- the components of a SEQUENCE, each with its name
  pub data Fields : Type 0 where
    no_fields : Fields
    field : List ℕ → Demand → Shape → Fields → Fields

  -- the extension additions of a SEQUENCE, where it has the mark
  pub data MoreFields : Type 0 where
    closed : MoreFields
    marked : Fields → MoreFields

  -- the alternatives of a CHOICE, each with its name
  pub data Alternatives : Type 0 where
    no_alternatives : Alternatives
    one_of : List ℕ → Shape → Alternatives → Alternatives

  -- the extension additions of a CHOICE, where it has the mark
  pub data MoreAlternatives : Type 0 where
    closed_choice : MoreAlternatives
    marked_choice : Alternatives → MoreAlternatives

-- ---- the extension additions, and whether there is a mark

abbrev pub more_labels : MoreLabels → List Label
more_labels closed_labels = []
more_labels (marked_labels ls) = ls

abbrev pub has_more_labels : MoreLabels → Bool
has_more_labels closed_labels = false
has_more_labels (marked_labels ls) = true

abbrev pub more_fields : MoreFields → Fields
more_fields closed = no_fields
more_fields (marked fs) = fs

abbrev pub is_marked : MoreFields → Bool
is_marked closed = false
is_marked (marked fs) = true

abbrev pub more_alternatives : MoreAlternatives → Alternatives
more_alternatives closed_choice = no_alternatives
more_alternatives (marked_choice alts) = alts

abbrev pub is_marked_choice : MoreAlternatives → Bool
is_marked_choice closed_choice = false
is_marked_choice (marked_choice alts) = true

-- ---- components and alternatives, one after the other

abbrev pub demands : Fields → List Demand
demands no_fields = []
demands (field name demand t fs) = demand ∷ demands fs

abbrev pub field_names : Fields → List (List ℕ)
field_names no_fields = []
field_names (field name demand t fs) = name ∷ field_names fs

abbrev pub append_fields : Fields → Fields → Fields
append_fields no_fields more = more
append_fields (field name demand t fs) more = field name demand t (append_fields fs more)

abbrev pub alternative_names : Alternatives → List (List ℕ)
alternative_names no_alternatives = []
alternative_names (one_of name t alts) = name ∷ alternative_names alts

-- how many alternatives
abbrev pub count : Alternatives → ℕ
count no_alternatives = 0
count (one_of name t alts) = suc (count alts)
