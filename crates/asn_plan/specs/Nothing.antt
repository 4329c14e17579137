-- Types whose values have no units: by any rules NULL, and SEQUENCEs of components that have to be there and are such; by
-- rules that spell the only value of a type by nothing (`single`) also the simple types with one value.
use Rattle.std.specs.Prelude.{◌≡◌, ◌<◌, ◌==◌, ◌&&◌, ℕ, ℤ, pos, Bool, true, false, List, [], length, Option, Some, None}
use Rattle.asn_values.specs.Datum.{Datum, nothing, number, item, bit_list, octet_list, characters, components, Components, no_components, present}
use Rattle.asn_values.specs.Fits.{Fits}
use Rattle.asn_values.specs.Profile.{is_one_number, is_zero_size, is_closed}
use Rattle.asn_values.specs.Shape.{Shape, null, integer, enumerated, bit_string, octet_string, restricted, sequence, closed, Fields, no_fields, field, must}
use Rattle.asn_rules.specs.Chunks.{Chunk}
use Rattle.asn_plan.specs.Taken.{entries_of}

abbrev mutual
  -- whether the type is such
  pub has_nothing : Bool → Shape → Bool
  has_nothing single null = true
  has_nothing single (integer b) = single && is_one_number b
  has_nothing single (enumerated root more) = single && (length root == 1 && is_closed more)
  has_nothing single (bit_string s) = single && is_zero_size s
  has_nothing single (octet_string s) = single && is_zero_size s
  has_nothing single (restricted k s) = single && is_zero_size s
  has_nothing single (sequence root closed) = have_nothing single root
  has_nothing single _ = false

  -- whether these components are
  pub have_nothing : Bool → Fields → Bool
  have_nothing single no_fields = true
  have_nothing single (field name must t fs) = has_nothing single t && have_nothing single fs
  have_nothing single (field name _ t fs) = false

abbrev pub HasNothing : Bool → Shape → Type 0
HasNothing single t = has_nothing single t ≡ true

-- the low bound, where there is one
abbrev pub low_or_zero : Option ℤ → ℤ
low_or_zero None = pos 0
low_or_zero (Some low) = low

abbrev mutual
  -- its only value
  pub only_value : Shape → Datum
  only_value (integer b) = number (low_or_zero b.low)
  only_value (enumerated root more) = item 0
  only_value (bit_string s) = bit_list []
  only_value (octet_string s) = octet_list []
  only_value (restricted k s) = characters []
  only_value (sequence root more) = components (only_components root)
  only_value _ = nothing

  pub only_components : Fields → Components
  only_components no_fields = no_components
  only_components (field name demand t fs) = present (only_value t) (only_components fs)

-- the type is such, and its value has this many entries
abbrev pub HasEntries : Bool → ℕ → Shape → Type 0
HasEntries single n t = HasNothing single t × (n ≡ entries_of (only_value t))

-- the same, where there are entries
abbrev pub HasEntriesIfAny : Bool → ℕ → Shape → Type 0
HasEntriesIfAny single n t = 0 < n → HasEntries single n t

-- by these spellings the values of such types have no units
abbrev pub SpellsNothing : Bool → (Shape → Datum → List Chunk) → Type 0
SpellsNothing single code = (t : Shape) (d : Datum) → HasNothing single t → Fits t d → code t d ≡ []
