-- What both rules say of the components of a SEQUENCE and of the items of an ENUMERATED.
use Rattle.std.specs.Prelude.{◌==◌, ℕ, zero, suc, ℤ, pos, Bool, true, false, not, ◌&&◌, List, [], ◌∷◌, Option, Some, None, is_some}
use Rattle.std.specs.List.{list_any}
use Rattle.std.specs.Int.RustNames.{int_le}
use Rattle.asn_values.specs.Datum.{Datum, truth, number, item, components, elements, alternative, component_list, element_list}
use Rattle.asn_values.specs.Shape.{Label, Demand, must, optional, default}
pub use Rattle.asn_bits.specs.Sink.{bit_of}
use Rattle.asn_rules.specs.Chunks.{Chunk}

-- the number of the item at an index
abbrev pub number_at : List Label → ℕ → ℤ
number_at [] p = pos 0
number_at (l ∷ ls) zero = l.number
number_at (l ∷ ls) (suc p) = number_at ls p

-- ---- DEFAULT (X.691, canonical: a component equal to its DEFAULT is absent; the profile has it in OER too)

-- the value is the DEFAULT, which is a truth value, a number or an item
abbrev pub is_default : Datum → Datum → Bool
is_default (truth true) (truth b) = b
is_default (truth false) (truth b) = not b
is_default (number y) (number z) = int_le y z && int_le z y
is_default (item p) (item q) = p == q
is_default _ _ = false

-- the component is spelt: it has a value, and not its DEFAULT
abbrev pub is_spelled : Demand → Option Datum → Bool
is_spelled must e = true
is_spelled optional e = is_some e
is_spelled (default d) None = false
is_spelled (default d) (Some e) = not (is_default d e)

-- ---- the presence bitmap (X.691, sequence; X.696, preamble)

-- a component that may be absent has a presence bit
abbrev pub has_presence_bit : Demand → Bool
has_presence_bit must = false
has_presence_bit optional = true
has_presence_bit (default d) = true

-- the presence bits of the components, in order: 1 where the component is spelt
abbrev pub presence : List Demand → List (Option Datum) → List ℕ
presence (must ∷ ds) (e ∷ es) = presence ds es
presence (d ∷ ds) (e ∷ es) = bit_of (is_spelled d e) ∷ presence ds es
presence _ _ = []

-- the spelling of a component, where it is spelt
abbrev pub if_spelled : Demand → Option Datum → (Datum → List Chunk) → List Chunk
if_spelled demand None code = []
if_spelled demand (Some d) code = elim (is_spelled demand (Some d)) [ true ↦ code d | false ↦ [] ]

-- ---- extension additions

-- some addition is present
abbrev pub any_present : List (Option Datum) → Bool
any_present es = list_any is_some es

-- the extension bit, where there is a mark: 1 where an addition is present
abbrev pub extension_bit : Bool → Bool → List ℕ
extension_bit false extended = []
extension_bit true extended = bit_of extended ∷ []

-- ---- the parts of a value, and nothing for a value of another kind

abbrev pub at_components : (List (Option Datum) → List Chunk) → Datum → List Chunk
at_components code (components cs) = code (component_list cs)
at_components code _ = []

abbrev pub at_elements : (List Datum → List Chunk) → Datum → List Chunk
at_elements code (elements ds) = code (element_list ds)
at_elements code _ = []

abbrev pub at_alternative : (ℕ → Datum → List Chunk) → Datum → List Chunk
at_alternative code (alternative t d) = code t d
at_alternative code _ = []
