-- What a walk over a type finds, which has some levels and some nodes to go.
use Rattle.std.specs.Prelude.{◌≡◌, ◌≤◌, ◌<◌, ◌+◌, ◌-◌, ◌⊎◌, ◌&&◌, ◌||◌, ℕ, max, Bool, true, false, List, [], ◌∷◌, length, Option, Some, None, nat_lt, ◌==◌}
use Rattle.asn_values.specs.declared.fault.TypeFault.{TypeFault}
use Rattle.asn_values.specs.declared.fault.TypeFault.TheVariants as fault
use Rattle.asn_values.specs.Shape.{SizeRange, Shape, boolean, null, integer, enumerated, bit_string, octet_string, restricted, utf8_string, sequence, sequence_of, choice, must, Fields, no_fields, field, Alternatives, one_of, no_alternatives}
use Rattle.asn_values.specs.Measures.{depth, nodes}
use Rattle.asn_values.specs.Profile.{Condition, EmptyRange, SizeTooLarge, DuplicateName, BadEnumeration, UselessMark, BadDefault, ZeroWidthElement, AdditionNotOptional, TooMany, TooDeep, somewhere, empty_range, size_above, size_too_large, large_size, is_every_length, duplicate_name, bad_enumeration, useless_mark, bad_default, zero_width_element, addition_not_optional, too_many_here, is_one_number, is_closed, is_zero_size, is_fixed_size, no_more_bits, no_more_choice}

-- ---- one node

-- whether the condition holds of a type by itself; nodes and levels are counted along the walk
abbrev pub test_of : Condition → Shape → Bool
test_of EmptyRange = empty_range
test_of SizeTooLarge = size_too_large
test_of DuplicateName = duplicate_name
test_of BadEnumeration = bad_enumeration
test_of UselessMark = useless_mark
test_of BadDefault = bad_default
test_of ZeroWidthElement = zero_width_element
test_of AdditionNotOptional = addition_not_optional
test_of TooMany = too_many_here
test_of TooDeep = λ t. false

-- none of them holds of the type by itself
abbrev pub IsFaultless : Shape → Type 0
IsFaultless t = (c : Condition) → test_of c t ≡ false

-- the condition that a fault tells of a type by itself, where there is one
abbrev pub condition_of : TypeFault → Option (Shape → Bool)
condition_of fault.EmptyRange = Some empty_range
condition_of fault.SizeTooLarge = Some size_too_large
condition_of fault.DuplicateName = Some duplicate_name
condition_of fault.BadEnumeration = Some bad_enumeration
condition_of fault.UselessMark = Some useless_mark
condition_of fault.BadDefault = Some bad_default
condition_of fault.ZeroWidthElement = Some zero_width_element
condition_of fault.AdditionNotOptional = Some addition_not_optional
condition_of fault.TooMany = Some too_many_here
condition_of fault.TooDeep = None
condition_of fault.Memory = None

-- there is a condition, and it holds, where `holds` says which do
abbrev pub IsFound : Option (Shape → Bool) → ((Shape → Bool) → Bool) → Type 0
IsFound None holds = ⊥
IsFound (Some condition) holds = holds condition ≡ true

-- the fault's condition holds of the type by itself
abbrev pub HoldsHere : TypeFault → Shape → Type 0
HoldsHere f t = IsFound (condition_of f) (λ condition. condition t)

-- ---- a size

-- none of the conditions holds of it
pub record IsFaultlessSize (s : SizeRange) : Type 0 where
  pub ranged : size_above s ≡ false
  pub small : large_size (Some s) ≡ false
  pub marked : is_every_length (Some s) ≡ false

-- the fault's condition, as a test of one size
abbrev pub HoldsOfSize : TypeFault → SizeRange → Type 0
HoldsOfSize fault.EmptyRange s = size_above s ≡ true
HoldsOfSize fault.SizeTooLarge s = large_size (Some s) ≡ true
HoldsOfSize fault.UselessMark s = is_every_length (Some s) ≡ true
HoldsOfSize _ s = ⊥

-- ---- types without bits

abbrev mutual
  -- no value of the type has a bit in PER; `levels` levels of types inside it are looked at, and a type below them
  -- counts as one with bits
  pub no_bits_within : ℕ → Shape → Bool
  no_bits_within levels boolean = false
  no_bits_within levels null = true
  no_bits_within levels (integer b) = is_one_number b
  no_bits_within levels (enumerated root more) = length root == 1 && is_closed more
  no_bits_within levels (bit_string s) = is_zero_size s
  no_bits_within levels (octet_string s) = is_zero_size s
  no_bits_within levels (restricted k s) = is_zero_size s
  no_bits_within levels utf8_string = false
  no_bits_within levels (sequence root more) = no_field_bits_within levels root && no_more_bits more
  no_bits_within levels (sequence_of t s) =
      is_zero_size s || (is_fixed_size s && (nat_lt 0 levels && no_bits_within (levels - 1) t))
  no_bits_within levels (choice root more) = single_no_bits_within levels root && no_more_choice more

  pub no_field_bits_within : ℕ → Fields → Bool
  no_field_bits_within levels no_fields = true
  no_field_bits_within levels (field name must t fs) =
      (nat_lt 0 levels && no_bits_within (levels - 1) t) && no_field_bits_within levels fs
  no_field_bits_within levels (field name _ t fs) = false

  pub single_no_bits_within : ℕ → Alternatives → Bool
  single_no_bits_within levels (one_of name t no_alternatives) = nat_lt 0 levels && no_bits_within (levels - 1) t
  single_no_bits_within levels _ = false

-- ---- types with all inside them

-- what a walk goes over: how many nodes, how many levels, and which conditions hold of one of the nodes
pub record Extent : Type 0 where
  pub count : ℕ
  pub levels : ℕ
  pub holds : (Shape → Bool) → Bool

abbrev pub of_type : Shape → Extent
of_type t = record { count = nodes t; levels = depth t; holds = λ condition. somewhere condition t }

-- one beside the other
abbrev pub beside : Extent → Extent → Extent
beside a b = record {
  count = a.count + b.count;
  levels = max a.levels b.levels;
  holds =
      λ condition. a.holds condition || b.holds condition;
}

-- types beside one another
abbrev pub of_types : List Shape → Extent
of_types [] = record { count = 0; levels = 0; holds = λ condition. false }
of_types (t ∷ ts) = beside (of_type t) (of_types ts)

-- no condition holds anywhere, the levels suffice, and of the nodes `left` are left
pub record IsSoundWithin (levels start left : ℕ) (e : Extent) : Type 0 where
  pub counted : left + e.count ≡ start
  pub shallow : e.levels ≤ levels
  pub faultless : (c : Condition) → e.holds (test_of c) ≡ false

-- the fault's condition holds somewhere, or there are more nodes or levels than these
abbrev pub IsFaultWithin : TypeFault → ℕ → ℕ → Extent → Type 0
IsFaultWithin f levels start e =
    IsFound (condition_of f) e.holds
    ⊎ (((f ≡ fault.TooMany) × (start < e.count)) ⊎ ((f ≡ fault.TooDeep) × (levels < e.levels)))
