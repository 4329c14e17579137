-- Which types the nodes of a plan stand for, and what the walk of a plan says of units.
use Rattle.std.specs.Prelude.{◌≡◌, ◌+◌, ◌-◌, ◌*◌, ◌≤◌, ◌<◌, ℕ, zero, suc, true, false, List, [], ◌∷◌, ◌++◌, length, take, drop, Option, None, IfSome, Result, ⊤}
use Rattle.asn_values.specs.Datum.{Datum}
use Rattle.asn_values.specs.Parts.{AreOfProfile}
use Rattle.asn_values.specs.Profile.{InProfile}
use Rattle.asn_values.specs.Shape.{Shape, boolean, null, integer, enumerated, bit_string, octet_string, restricted, utf8_string, sequence, sequence_of, choice, Fields, no_fields, field, MoreFields, closed, marked, Demand, must, optional, default, Alternatives, no_alternatives, one_of, MoreAlternatives, closed_choice, marked_choice}
use Rattle.asn_values.specs.View.{shape_of, datum_of, size_range_of}
use Rattle.asn_bits.specs.Numbers.{bits}
use Rattle.asn_rules.specs.Answer.{Ruling, IsEncoding}
use Rattle.asn_rules.specs.Chunks.{Chunk}
use Rattle.asn_rules.specs.declared.fault.DecodeFault.{DecodeFault}
use Rattle.asn_rules.specs.Languages.{Spells}
use Rattle.asn_rules.specs.Listed.{Listed, bitmap_length}
use Rattle.asn_walk.specs.Coding.{Coding, OpenOf, OpenListed, added, added_alternatives}
use Rattle.asn_plan.specs.FixedStrings.{IsFixedString, IsStringOf}
use Rattle.asn_plan.specs.declared.fixed.FixedString.{FixedString}
use Rattle.asn_plan.specs.Nothing.{HasEntriesIfAny}
use Rattle.asn_plan.specs.Ranged.{ranged}
use Rattle.asn_plan.specs.Words.{before}
use Rattle.asn_plan.specs.declared.word.Word.{Word}
use Rattle.asn_walk.specs.Reading.{Reads, ValuesOf, OthersOf}
use Rattle.asn_walk_check.specs.Checked.{Checks as ChecksMessage}
use Rattle.asn_plan.specs.declared.plan.Plan.{Plan}
use Rattle.asn_plan.specs.declared.plan.WithDefault.{WithDefault}
use Rattle.asn_plan.specs.declared.plan.Node.{Node}
use Rattle.asn_plan.specs.declared.plan.Presence.{Presence}
use Rattle.asn_plan.specs.declared.plan.Presence.TheVariants as presence
use Rattle.asn_plan.specs.declared.plan.Kind.{Kind}
use Rattle.asn_plan.specs.declared.plan.Kind.TheVariants as kind

-- ---- plans

-- of a type without parts a node says its bounds, or holds it; what it says of a string of one length is so
abbrev pub IsLeafPlan : Kind → Shape → Type 0
IsLeafPlan (kind.Number b) t = t ≡ ranged b.range
IsLeafPlan kind.Truth t = t ≡ boolean
IsLeafPlan (kind.Item e) t = t ≡ shape_of e.of.ty
IsLeafPlan (kind.Leaf l) t = (t ≡ shape_of l.ty) × IfSome l.fixed (λ f. IsFixedString f t)
IsLeafPlan (kind.Sequence s) t = ⊥
IsLeafPlan (kind.List l) t = ⊥
IsLeafPlan (kind.Choice a) t = ⊥

-- whether a component has to be there, is OPTIONAL or has a DEFAULT, and of which type that is
abbrev pub IsPresence : Presence → Demand → Shape → Type 0
IsPresence presence.Must d t = d ≡ must
IsPresence presence.Optional d t = d ≡ optional
IsPresence (presence.Default w) d t = (d ≡ default (datum_of w.default)) × (t ≡ shape_of w.ty)

-- the nodes from one place up to another
abbrev pub row : ℕ → ℕ → List Node → List Node
row a b ns = take (b - a) (drop a ns)

abbrev mutual
  -- this is a plan of the type, where these nodes stand before it
  pub IsPlan : List Node → Shape → Kind → Type 0
  IsPlan ns boolean k = IsLeafPlan k boolean
  IsPlan ns null k = IsLeafPlan k null
  IsPlan ns (integer r) k = IsLeafPlan k (integer r)
  IsPlan ns (enumerated ls more) k = IsLeafPlan k (enumerated ls more)
  IsPlan ns (bit_string s) k = IsLeafPlan k (bit_string s)
  IsPlan ns (octet_string s) k = IsLeafPlan k (octet_string s)
  IsPlan ns (restricted a s) k = IsLeafPlan k (restricted a s)
  IsPlan ns utf8_string k = IsLeafPlan k utf8_string
  IsPlan ns (sequence root more) (kind.Number b) = ⊥
  IsPlan ns (sequence root more) kind.Truth = ⊥
  IsPlan ns (sequence root more) (kind.Item e) = ⊥
  IsPlan ns (sequence root more) (kind.Leaf l) = ⊥
  IsPlan ns (sequence root more) (kind.Sequence s) =
      (s.begin ≤ s.middle) × (s.middle ≤ s.end) × (s.end ≤ length ns)
      × (s.width ≡ bitmap_length root) × (s.additions ≡ added more)
      × ArePlans (take s.begin ns) (row s.begin s.middle ns) root
      × ArePlansOfMore (take s.begin ns) (row s.middle s.end ns) more
      × HasEntriesIfAny false s.entries (sequence root more)
      × HasEntriesIfAny true s.single_entries (sequence root more)
  IsPlan ns (sequence root more) (kind.List l) = ⊥
  IsPlan ns (sequence root more) (kind.Choice a) = ⊥
  IsPlan ns (sequence_of t s) (kind.Number b) = ⊥
  IsPlan ns (sequence_of t s) kind.Truth = ⊥
  IsPlan ns (sequence_of t s) (kind.Item e) = ⊥
  IsPlan ns (sequence_of t s) (kind.Leaf l) = ⊥
  IsPlan ns (sequence_of t s) (kind.Sequence p) = ⊥
  IsPlan ns (sequence_of t s) (kind.List l) = (l.element < length ns) × (s ≡ size_range_of l.size) × (m : Node)
      × (rest : List Node) × (drop l.element ns ≡ m ∷ rest) × IsPlan (take l.element ns) t m.kind
  IsPlan ns (sequence_of t s) (kind.Choice a) = ⊥
  IsPlan ns (choice root more) (kind.Number b) = ⊥
  IsPlan ns (choice root more) kind.Truth = ⊥
  IsPlan ns (choice root more) (kind.Item e) = ⊥
  IsPlan ns (choice root more) (kind.Leaf l) = ⊥
  IsPlan ns (choice root more) (kind.Sequence s) = ⊥
  IsPlan ns (choice root more) (kind.List l) = ⊥
  IsPlan ns (choice root more) (kind.Choice a) =
      (a.begin ≤ a.middle) × (a.middle ≤ a.end) × (a.end ≤ length ns)
      × (a.additions ≡ added_alternatives more)
      × ArePlansOfEach (take a.begin ns) (row a.begin a.middle ns) root
      × ArePlansOfOthers (take a.begin ns) (row a.middle a.end ns) more

  -- the nodes are plans of the components, each in its place
  pub ArePlans : List Node → List Node → Fields → Type 0
  ArePlans ns [] no_fields = ⊤
  ArePlans ns (m ∷ ms) (field name demand t fs) =
      IsPresence m.presence demand t × IsPlan ns t m.kind × ArePlans ns ms fs
  ArePlans ns [] (field name demand t fs) = ⊥
  ArePlans ns (m ∷ ms) no_fields = ⊥

  -- the same of the extension additions
  pub ArePlansOfMore : List Node → List Node → MoreFields → Type 0
  ArePlansOfMore ns ms closed = ms ≡ []
  ArePlansOfMore ns ms (marked fs) = ArePlans ns ms fs

  -- the nodes are plans of the alternatives, each in its place
  pub ArePlansOfEach : List Node → List Node → Alternatives → Type 0
  ArePlansOfEach ns [] no_alternatives = ⊤
  ArePlansOfEach ns (m ∷ ms) (one_of name t alts) = IsPlan ns t m.kind × ArePlansOfEach ns ms alts
  ArePlansOfEach ns [] (one_of name t alts) = ⊥
  ArePlansOfEach ns (m ∷ ms) no_alternatives = ⊥

  -- the same of those after the extension mark
  pub ArePlansOfOthers : List Node → List Node → MoreAlternatives → Type 0
  ArePlansOfOthers ns ms closed_choice = ms ≡ []
  ArePlansOfOthers ns ms (marked_choice alts) = ArePlansOfEach ns ms alts

-- this many entries of components that are absent
abbrev pub absents : ℕ → List (Option Datum)
absents zero = []
absents (suc n) = None ∷ absents n

-- the plan is one of the type
abbrev pub IsPlanOf : Plan → Shape → Type 0
IsPlanOf p t = IsPlan p.nodes.items t p.root

-- ---- what is read

-- a prefix of the units is a spelling of a value of the type, of which this part was built, and the others follow it
pub record Builds {P : Type 0} (c : Coding) (built : P → Datum → Type 0) (t : Shape) (p : P) (old new : List ℕ)
    : Type 0 where
  pub value : Datum
  pub of_value : built p value
  pub read : Reads c (ValuesOf c t) value old new

-- from units, a word's and those after it, a value of the type was read, of which this part was built
pub record BuildsNext {P : Type 0} (c : Coding) (built : P → Datum → Type 0) (t : Shape) (p : P) (us vs : List ℕ)
    : Type 0 where
  pub value : Datum
  pub of_value : built p value
  pub read : Spells c.ruling.fielding (ValuesOf c t) value us vs

-- the same of a component with a DEFAULT, of another value of its type
pub record BuildsOther {P : Type 0} (c : Coding) (built : P → Datum → Type 0) (w : WithDefault) (p : P) (us vs : List ℕ)
    : Type 0 where
  pub value : Datum
  pub of_value : built p value
  pub read : Spells c.ruling.fielding (OthersOf c (datum_of w.default) (shape_of w.ty)) value us vs

-- a string of the type, whose bits are those of the number, was read from a word, whatever units stand after it
pub record TellsString (c : Coding) (t : Shape) (f : FixedString) (n : ℕ) (old new : Word) : Type 0 where
  pub value : Datum
  pub is : IsStringOf f n value
  pub read : (us : List ℕ) → Spells c.ruling.fielding (ValuesOf c t) value (before c old us) (before c new us)

-- the same of components that all have to be there
pub record BuildsNumbers {P : Type 0} (c : Coding) (listed : P → List (Option Datum) → Type 0) (root : Fields) (p : P)
    (us vs : List ℕ) : Type 0 where
  pub entries : List (Option Datum)
  pub of_entries : listed p entries
  pub read : Spells c.ruling.fielding (Listed c.code root []) entries us vs

-- Of components, of which the first is one that the node is of, an entry was read, and put after those that were there
-- before. P says which these were, N which there are now; left is how many presence bits there were, after how many
-- there are now.
pub record BuildsEntry (c : Coding) (P N : List (Option Datum) → Type 0) (ns : List Node) (n : Node)
    (bitmap left after : ℕ) (us vs : List ℕ) : Type 0 where
  pub few : after ≤ left
  pub entry : (name : List ℕ) (demand : Demand) (t : Shape) (others : Fields) → InProfile t
      → IsPresence n.presence demand t → IsPlan ns t n.kind → left ≡ bitmap_length (field name demand t others)
      → (es : List (Option Datum)) → P es
      → (e : Option Datum) × N (es ++ e ∷ []) × (after ≡ bitmap_length others)
      × ((gs : List (Option Datum)) (ws : List ℕ)
      → Spells c.ruling.fielding (Listed c.code others (bits after bitmap)) gs vs ws
      → Spells c.ruling.fielding (Listed c.code (field name demand t others) (bits left bitmap)) (e ∷ gs) us ws)

-- the same of the open type field that holds it
pub record BuildsOpen {P : Type 0} (c : Coding) (built : P → Datum → Type 0) (t : Shape) (p : P) (old new : List ℕ)
    : Type 0 where
  pub value : Datum
  pub of_value : built p value
  pub read : Reads c (OpenOf c t) value old new

-- the components that are left, of which these nodes are plans, and what is read of all once these are read
pub record GoesOn (c : Coding) (ns rest : List Node) (root : Fields) (count bitmap left : ℕ) (us : List ℕ)
    (es : List (Option Datum)) (vs : List ℕ) : Type 0 where
  pub fields : Fields
  pub good : AreOfProfile fields
  pub plans : ArePlans ns rest fields
  pub width : left ≡ bitmap_length fields
  pub on : (gs : List (Option Datum)) (ws : List ℕ)
      → Spells c.ruling.fielding (Listed c.code fields (bits left bitmap)) gs vs ws
      → Spells c.ruling.fielding (Listed c.code root (bits count bitmap)) (es ++ gs) us ws

-- the same of all components that these nodes are plans of, where the entries that are read are such
pub record BuiltUpTo (c : Coding) (P : List (Option Datum) → Type 0) (ns parts rest : List Node)
    (count bitmap left : ℕ) (us vs : List ℕ) : Type 0 where
  pub few : left ≤ 64
  pub goes : (root : Fields) → AreOfProfile root → ArePlans ns parts root → count ≡ bitmap_length root
      → (es : List (Option Datum)) × P es × GoesOn c ns rest root count bitmap left us es vs

-- What fills up an open type field of so many octets is read, where its value takes so many units: the units of the
-- padding, with which it takes just these octets.
pub record EndsOpen (c : Coding) (octets taken : ℕ) (us vs : List ℕ) : Type 0 where
  pub all : taken + length (c.padding taken) ≡ c.octet_units * octets
  pub split : us ≡ c.padding taken ++ vs

-- Units are at the front of an open type field of so many octets, where what stands in it may be read next: a value of
-- any type, and then what fills up the field.
abbrev pub BeginsOpen : Coding → ℕ → List ℕ → List ℕ → Type 0
BeginsOpen c octets us vs = (t : Shape) (d : Datum) (ws xs : List ℕ) → InProfile t
    → Spells c.ruling.fielding (ValuesOf c t) d vs ws → EndsOpen c octets (length vs - length ws) ws xs
    → Spells c.ruling.fielding (OpenOf c t) d us xs

-- the same as `BuildsEntry` of an extension addition
pub record BuildsAddition (c : Coding) (P N : List (Option Datum) → Type 0) (ns : List Node) (n : Node)
    (bitmap left after : ℕ) (us vs : List ℕ) : Type 0 where
  pub less : after + 1 ≡ left
  pub entry : (name : List ℕ) (demand : Demand) (t : Shape) (others : Fields) → InProfile t → IsPlan ns t n.kind
      → (es : List (Option Datum)) → P es
      → (e : Option Datum) × N (es ++ e ∷ [])
      × ((gs : List (Option Datum)) (ws : List ℕ)
      → Spells c.ruling.fielding (OpenListed c others (bits after bitmap)) gs vs ws
      → Spells c.ruling.fielding (OpenListed c (field name demand t others) (bits left bitmap)) (e ∷ gs) us ws)

-- entries of the language were read, and put after those that were there before: P says which these were, N which
-- there are now
pub record BuildsMore (c : Coding) (P N : List (Option Datum) → Type 0) (L : List (Option Datum) → List Chunk → Type 0)
    (us vs : List ℕ) : Type 0 where
  pub more : (es : List (Option Datum)) → P es
      → (gs : List (Option Datum)) × N (es ++ gs) × Spells c.ruling.fielding L gs us vs

-- a prefix of the units is a spelling of the components under these presence bits, with entries of which this was built
pub record BuildsComponents {P : Type 0} (c : Coding) (listed : P → List (Option Datum) → Type 0) (root : Fields)
    (bitmap left : ℕ) (p : P) (old new : List ℕ) : Type 0 where
  pub entries : List (Option Datum)
  pub of_entries : listed p entries
  pub read : Spells c.ruling.fielding (Listed c.code root (bits left bitmap)) entries old new

-- a prefix of the units is a spelling of elements, of which this was built
pub record BuildsList {P : Type 0} (c : Coding) (rowed : P → List Datum → Type 0)
    (L : List Datum → List Chunk → Type 0) (p : P) (old new : List ℕ) : Type 0 where
  pub value : List Datum
  pub of_value : rowed p value
  pub read : Reads c L value old new

-- elements of the language were read, and put after those that were there before: P says which these were, N which
-- there are now
pub record BuildsRow (c : Coding) (P N : List Datum → Type 0) (L : List Datum → List Chunk → Type 0) (us vs : List ℕ)
    : Type 0 where
  pub row : (ds : List Datum) → P ds → (es : List Datum) × N (ds ++ es) × Spells c.ruling.fielding L es us vs

-- the octets are the encoding of a value of the type, of which this part was built
pub record BuildsMessage {P : Type 0} (r : Ruling) (built : P → Datum → Type 0) (t : Shape) (p : P) (o : List ℕ)
    : Type 0 where
  pub value : Datum
  pub of_value : built p value
  pub encoding : IsEncoding r t value o

-- what is told of octets: they are the encoding of some value of the type, or the fault that `decode` tells
abbrev pub Checks : Ruling → Result (Unit {0}) DecodeFault → Shape → List ℕ → Type 0
Checks r answer t o = ChecksMessage r answer t o
