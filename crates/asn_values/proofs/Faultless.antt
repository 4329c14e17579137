-- What a SEQUENCE and a CHOICE need to have no fault by themselves.
use Rattle.std.proofs.Common.{◌≡◌, ◌≤◌, ◌<◌, ◌+◌, ◌++◌, ◌||◌, ◌⊎◌, inl, inr, Bool, true, false, List, length, map, nat_lt, refl, arith}
use Rattle.std.specs.List.{list_all}
use Rattle.std.proofs.lemmas.Bool.{le-ltb, lt-ltb, ne_eqb}
use Rattle.std.proofs.lemmas.List.{length-map}
use Rattle.asn_values.specs.declared.types.Field.{Field}
use Rattle.asn_values.specs.Shape.{SizeRange, Shape, sequence, sequence_of, choice, Fields, MoreFields, more_fields, demands, field_names, Alternatives, MoreAlternatives, more_alternatives, alternative_names, count}
use Rattle.asn_values.specs.Profile.{EmptyRange, SizeTooLarge, DuplicateName, BadEnumeration, UselessMark, BadDefault, ZeroWidthElement, AdditionNotOptional, TooMany, TooDeep, bad_names, bad_default_at, is_optional, too_many_here, no_bits, most_components, most_additions, most_alternatives}
use Rattle.asn_values.specs.Walk.{IsFaultless, IsFaultlessSize}
use Rattle.asn_values.specs.View.{fields_of, part_of_field}
use Rattle.asn_values.proofs.Entries.{length-demands}

-- ---- a SEQUENCE

-- how many components there are
pub length-fields : (fs : List Field) → length (demands (fields_of (map part_of_field fs))) ≡ length fs
length-fields fs = simp (length-demands, length-map)

-- its names, DEFAULTs, additions and the number of its components are right
pub faultless_sequence : (root : Fields) (more : MoreFields) → bad_names (field_names root ++ field_names (more_fields more)) ≡ false →
    bad_default_at root ≡ false → bad_default_at (more_fields more) ≡ false → list_all is_optional (demands (more_fields more)) ≡ true →
    length (demands root) ≤ most_components → length (demands (more_fields more)) ≤ most_additions → IsFaultless (sequence root more)
faultless_sequence root more names here after optional few added EmptyRange = refl
faultless_sequence root more names here after optional few added SizeTooLarge = refl
faultless_sequence root more names here after optional few added DuplicateName = names
faultless_sequence root more names here after optional few added BadEnumeration = refl
faultless_sequence root more names here after optional few added UselessMark = refl
faultless_sequence root more names here after optional few added BadDefault = rw here after
faultless_sequence root more names here after optional few added ZeroWidthElement = refl
faultless_sequence root more names here after optional few added AdditionNotOptional = rw optional refl
faultless_sequence root more names here after optional few added TooMany =
    rw (le-ltb most_components (length (demands root)) few) (le-ltb most_additions (length (demands (more_fields more))) added)
faultless_sequence root more names here after optional few added TooDeep = refl

-- it has more components than there may be, in front of the mark or after it
pub many_components : (root : Fields) (more : MoreFields) → (most_components < length (demands root)) ⊎ (most_additions < length (demands (more_fields more))) → too_many_here (sequence root more) ≡ true
many_components root more (inl many) = rw (lt-ltb most_components (length (demands root)) many) refl
many_components root more (inr many) = one (nat_lt most_components (length (demands root))) (lt-ltb most_additions (length (demands (more_fields more))) many)
  where
    one : (a : Bool) → nat_lt most_additions (length (demands (more_fields more))) ≡ true → (a || nat_lt most_additions (length (demands (more_fields more)))) ≡ true
    one true e = refl
    one false e = e

-- ---- a CHOICE

-- it has an alternative in the root, and its names and the number of its alternatives are right
pub faultless_choice : (root : Alternatives) (more : MoreAlternatives) → 0 < count root → bad_names (alternative_names root ++ alternative_names (more_alternatives more)) ≡ false →
    count root + count (more_alternatives more) ≤ most_alternatives → IsFaultless (choice root more)
faultless_choice root more some names few EmptyRange = ne_eqb (count root) 0 (λ e. omega arith)
faultless_choice root more some names few SizeTooLarge = refl
faultless_choice root more some names few DuplicateName = names
faultless_choice root more some names few BadEnumeration = refl
faultless_choice root more some names few UselessMark = refl
faultless_choice root more some names few BadDefault = refl
faultless_choice root more some names few ZeroWidthElement = refl
faultless_choice root more some names few AdditionNotOptional = refl
faultless_choice root more some names few TooMany = le-ltb most_alternatives (count root + count (more_alternatives more)) few
faultless_choice root more some names few TooDeep = refl

-- ---- a SEQUENCE OF

-- its size is right, and its element has bits
pub faultless_list : (t : Shape) (s : SizeRange) → IsFaultlessSize s → no_bits t ≡ false → IsFaultless (sequence_of t s)
faultless_list t s size bits EmptyRange = size.ranged
faultless_list t s size bits SizeTooLarge = size.small
faultless_list t s size bits DuplicateName = refl
faultless_list t s size bits BadEnumeration = refl
faultless_list t s size bits UselessMark = size.marked
faultless_list t s size bits BadDefault = refl
faultless_list t s size bits ZeroWidthElement = bits
faultless_list t s size bits AdditionNotOptional = refl
faultless_list t s size bits TooMany = refl
faultless_list t s size bits TooDeep = refl
