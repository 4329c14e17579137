-- The components of a SEQUENCE of the profile are of the profile themselves.
use Rattle.std.proofs.Common.{◌≡◌, ◌≤◌, ℕ, Bool, true, false, not, ◌||◌, List, nat_lt, refl, arith}
use Rattle.std.proofs.lemmas.Bool.{not-false, ltb-false, le-ltb}
use Rattle.asn_values.specs.Shape.{Shape, sequence, Demand, must, optional, default, Fields, no_fields, field, MoreFields, more_fields}
use Rattle.asn_values.specs.Measures.{depth, nodes, fields_nodes, fields_depth}
use Rattle.asn_values.specs.Profile.{EmptyRange, SizeTooLarge, DuplicateName, BadEnumeration, UselessMark, BadDefault, ZeroWidthElement, AdditionNotOptional, TooMany, TooDeep, somewhere, some_field, some_addition, empty_range, size_too_large, duplicate_name, bad_enumeration, useless_mark, bad_default, bad_default_at, good_default, zero_width_element, addition_not_optional, too_many_here, most_nodes, most_levels, InProfile}
use Rattle.asn_values.specs.Parts.{AreOfProfile}

-- no side of an alternative that does not hold holds
pub left_false : (a b : Bool) → (a || b) ≡ false → a ≡ false
left_false false b h = refl
left_false true b h = h

pub right_false : (a b : Bool) → (a || b) ≡ false → b ≡ false
right_false false b h = h
right_false true b h = absurd (cc)

-- ---- one component, and those after it

-- what holds of no node of a type, told by the test
abbrev pub Nowhere : (Shape → Bool) → Shape → Type 0
Nowhere test t = somewhere test t ≡ false

first_nowhere : (test : Shape → Bool) (name : List ℕ) (demand : Demand) (t : Shape) (fs : Fields) → some_field test (field name demand t fs) ≡ false → Nowhere test t
first_nowhere test name demand t fs h = left_false (somewhere test t) (some_field test fs) h

rest_nowhere : (test : Shape → Bool) (name : List ℕ) (demand : Demand) (t : Shape) (fs : Fields) → some_field test (field name demand t fs) ≡ false → some_field test fs ≡ false
rest_nowhere test name demand t fs h = right_false (somewhere test t) (some_field test fs) h

-- what a SEQUENCE of the profile says of its components, whichever are left
record Sound (fs : Fields) : Type 0 where
  ranges : some_field empty_range fs ≡ false
  sizes : some_field size_too_large fs ≡ false
  names : some_field duplicate_name fs ≡ false
  numbers : some_field bad_enumeration fs ≡ false
  marks : some_field useless_mark fs ≡ false
  defaults : some_field bad_default fs ≡ false
  elements : some_field zero_width_element fs ≡ false
  additions : some_field addition_not_optional fs ≡ false
  counts : some_field too_many_here fs ≡ false
  demands_here : bad_default_at fs ≡ false
  few : fields_nodes fs ≤ most_nodes
  flat_enough : fields_depth fs ≤ most_levels

first_of_profile : (name : List ℕ) (demand : Demand) (t : Shape) (fs : Fields) → Sound (field name demand t fs) → InProfile t
first_of_profile name demand t fs h EmptyRange = first_nowhere empty_range name demand t fs h.ranges
first_of_profile name demand t fs h SizeTooLarge = first_nowhere size_too_large name demand t fs h.sizes
first_of_profile name demand t fs h DuplicateName = first_nowhere duplicate_name name demand t fs h.names
first_of_profile name demand t fs h BadEnumeration = first_nowhere bad_enumeration name demand t fs h.numbers
first_of_profile name demand t fs h UselessMark = first_nowhere useless_mark name demand t fs h.marks
first_of_profile name demand t fs h BadDefault = first_nowhere bad_default name demand t fs h.defaults
first_of_profile name demand t fs h ZeroWidthElement = first_nowhere zero_width_element name demand t fs h.elements
first_of_profile name demand t fs h AdditionNotOptional = first_nowhere addition_not_optional name demand t fs h.additions
first_of_profile name demand t fs h TooMany =
    rw (first_nowhere too_many_here name demand t fs h.counts) (le-ltb most_nodes (nodes t) (omega (arith, h.few)))
first_of_profile name demand t fs h TooDeep = le-ltb most_levels (depth t) (omega (arith, h.flat_enough))

rest_sound : (name : List ℕ) (demand : Demand) (t : Shape) (fs : Fields) → bad_default_at fs ≡ false → Sound (field name demand t fs) → Sound fs
rest_sound name demand t fs d h = record {
  ranges = rest_nowhere empty_range name demand t fs h.ranges;
  sizes = rest_nowhere size_too_large name demand t fs h.sizes;
  names = rest_nowhere duplicate_name name demand t fs h.names;
  numbers = rest_nowhere bad_enumeration name demand t fs h.numbers;
  marks = rest_nowhere useless_mark name demand t fs h.marks;
  defaults = rest_nowhere bad_default name demand t fs h.defaults;
  elements = rest_nowhere zero_width_element name demand t fs h.elements;
  additions = rest_nowhere addition_not_optional name demand t fs h.additions;
  counts = rest_nowhere too_many_here name demand t fs h.counts;
  demands_here = d;
  few = omega (arith, h.few);
  flat_enough = omega (arith, h.flat_enough);
}

all_of_profile : (fs : Fields) → Sound fs → AreOfProfile fs
all_of_profile no_fields h = tt
all_of_profile (field name must t fs) h = (first_of_profile name must t fs h, tt, all_of_profile fs (rest_sound name must t fs h.demands_here h))
all_of_profile (field name optional t fs) h = (first_of_profile name optional t fs h, tt, all_of_profile fs (rest_sound name optional t fs h.demands_here h))
all_of_profile (field name (default d) t fs) h = (
  first_of_profile name (default d) t fs h,
  not-false (good_default t d) (left_false (not (good_default t d)) (bad_default_at fs) h.demands_here),
  all_of_profile fs (rest_sound name (default d) t fs (right_false (not (good_default t d)) (bad_default_at fs) h.demands_here) h),
)

-- ---- all components

of_root : (test : Shape → Bool) (root : Fields) (more : MoreFields) → Nowhere test (sequence root more) → some_field test root ≡ false
of_root test root more h =
    left_false (some_field test root) (some_addition test more) (right_false (test (sequence root more)) (some_field test root || some_addition test more) h)

of_node : (test : Shape → Bool) (root : Fields) (more : MoreFields) → Nowhere test (sequence root more) → test (sequence root more) ≡ false
of_node test root more h = left_false (test (sequence root more)) (some_field test root || some_addition test more) h

-- the components of a SEQUENCE of the profile are of the profile
pub components_of_profile : (root : Fields) (more : MoreFields) → InProfile (sequence root more) → AreOfProfile root
components_of_profile root more h =
    let few : nodes (sequence root more) ≤ most_nodes = ltb-false most_nodes (nodes (sequence root more)) (right_false (somewhere too_many_here (sequence root more)) (nat_lt most_nodes (nodes (sequence root more))) (h TooMany)) in
    let deep : depth (sequence root more) ≤ most_levels = ltb-false most_levels (depth (sequence root more)) (h TooDeep) in
    all_of_profile root (record {
      ranges = of_root empty_range root more (h EmptyRange);
      sizes = of_root size_too_large root more (h SizeTooLarge);
      names = of_root duplicate_name root more (h DuplicateName);
      numbers = of_root bad_enumeration root more (h BadEnumeration);
      marks = of_root useless_mark root more (h UselessMark);
      defaults = of_root bad_default root more (h BadDefault);
      elements = of_root zero_width_element root more (h ZeroWidthElement);
      additions = of_root addition_not_optional root more (h AdditionNotOptional);
      counts = of_root too_many_here root more (left_false (somewhere too_many_here (sequence root more)) (nat_lt most_nodes (nodes (sequence root more))) (h TooMany));
      demands_here = left_false (bad_default_at root) (bad_default_at (more_fields more)) (of_node bad_default root more (h BadDefault));
      few = omega (arith, few);
      flat_enough = omega (arith, deep);
    })
