-- The only value of a type whose values have no units, and how its entries are counted.
use Rattle.std.proofs.Common.{◌≡◌, ◌+◌, ◌==◌, ◌&&◌, ◌||◌, ◌∷◌, [], ℕ, ℤ, Bool, true, false, List, Option, Some, None, take, drop, length, nat_le, refl, sym, ap, ◌∙◌, arith}
use Rattle.std.specs.Int.RustNames.{int_le}
use Rattle.std.proofs.lemmas.Bool.{and_parts, true≢false, eqb-true}
use Rattle.std.proofs.lemmas.Int.{ints}
use Rattle.asn_values.specs.Datum.{component_list}
use Rattle.asn_values.specs.Fits.{Fits, FitsEach, FitsLength, FitsNumber, not_above}
use Rattle.asn_values.specs.Parts.{AreOfProfile}
use Rattle.asn_values.specs.Profile.{InProfile, is_one_number, is_zero_size, is_closed}
use Rattle.asn_values.specs.Shape.{Range, SizeRange, Shape, null, integer, enumerated, bit_string, octet_string, restricted, sequence, closed, Fields, no_fields, field, Demand, must, demands}
use Rattle.asn_values.proofs.Parts.{components_of_profile}
use Rattle.asn_rules.proofs.Plain.IntegerSets.{low_bound}
use Rattle.asn_rules.specs.Languages.{Spells}
use Rattle.asn_walk.specs.Coding.{Coding}
use Rattle.asn_walk.specs.Reading.{ValuesOf}
use Rattle.asn_plan.specs.declared.plan.Node.{Node}
use Rattle.asn_plan.specs.Nothing.{HasNothing, has_nothing, have_nothing, low_or_zero, only_value, only_components, HasEntries, SpellsNothing}
use Rattle.asn_plan.specs.Plans.{IsPlan, IsPresence, ArePlans}
use Rattle.asn_plan.specs.Taken.{entries_of, entries_of_components, octets_of, octets_of_components}

-- no other type is such
pub not_such : {A : Type 0} → false ≡ true → A
not_such e = absurd (true≢false (sym e))

at_itself : (z : ℤ) → int_le z z ≡ true
at_itself z = grind (arith, ints)

-- the one number of a range
only_number : (b : Range) → is_one_number b ≡ true → InProfile (integer b) → FitsNumber b (low_or_zero b.low)
only_number b h good = go b.low b.high b.extensible h good
  where
    go : (low high : Option ℤ) (m : Bool) → is_one_number (record { low = low; high = high; extensible = m }) ≡ true
        → InProfile (integer (record { low = low; high = high; extensible = m }))
        → FitsNumber (record { low = low; high = high; extensible = m }) (low_or_zero low)
    go low high true e fine = not_such e
    go None high false e fine = not_such e
    go (Some l) None false e fine = not_such e
    go (Some l) (Some u) false e fine =
        let ends = low_bound (record { low = Some l; high = Some u; extensible = false }) l fine refl in
        let w = and_parts (int_le l u) (int_le u l) e in
        (ends.0, ends.1, ap (λ (t : Bool). t && int_le l u) (at_itself l) ∙ w.0)

-- no items of a size that is zero
no_length : (s : SizeRange) → is_zero_size s ≡ true → FitsLength s 0
no_length s h = (omega arith, go s.high s.extensible h)
  where
    go : (high : Option ℕ) (m : Bool) → is_zero_size (record { low = s.low; high = high; extensible = m }) ≡ true
        → (m || (nat_le s.low 0 && not_above high 0)) ≡ true
    go high true e = refl
    go None false e = not_such e
    go (Some n) false e =
        let w = and_parts (s.low == 0) (n == 0) e in
        rw (eqb-true s.low 0 w.0, eqb-true n 0 w.1) refl

mutual
  -- it is a value of the type
  pub only_fits : (single : Bool) (t : Shape) → InProfile t → HasNothing single t → Fits t (only_value t)
  only_fits single null good h = tt
  only_fits single (integer b) good h = only_number b (and_parts single (is_one_number b) h).1 good
  only_fits single (enumerated root more) good h =
      let w = and_parts (length root == 1) (is_closed more) (and_parts single _ h).1 in
      omega (arith, eqb-true (length root) 1 w.0)
  only_fits single (bit_string s) good h = no_length s (and_parts single (is_zero_size s) h).1
  only_fits single (octet_string s) good h = (no_length s (and_parts single (is_zero_size s) h).1, tt)
  only_fits single (restricted k s) good h = (no_length s (and_parts single (is_zero_size s) h).1, tt)
  only_fits single (sequence root closed) good h =
      let none : drop (length (demands root)) (component_list (only_components root)) ≡ [] = only_these root in
      rw none (only_each single root (components_of_profile root closed good) h, tt)
  only_fits single t good h = not_such h

  only_each : (single : Bool) (fs : Fields) → AreOfProfile fs → have_nothing single fs ≡ true
      → FitsEach fs (take (length (demands fs)) (component_list (only_components fs)))
  only_each single no_fields good h = tt
  only_each single (field name must t fs) good h =
      let w = and_parts (has_nothing single t) (have_nothing single fs) h in
      (only_fits single t good.0 w.0, only_each single fs good.2 w.1)
  only_each single (field name demand t fs) good h = not_such h

  -- and has no more entries than components
  only_these : (fs : Fields) → drop (length (demands fs)) (component_list (only_components fs)) ≡ []
  only_these no_fields = refl
  only_these (field name demand t fs) = only_these fs

mutual
  -- it has no strings
  pub only_octets : (t : Shape) → octets_of (only_value t) ≡ 0
  only_octets (sequence root more) = only_octets_in root
  only_octets t = refl

  only_octets_in : (fs : Fields) → octets_of_components (only_components fs) ≡ 0
  only_octets_in no_fields = refl
  only_octets_in (field name demand t fs) =
      let e : octets_of (only_value t) + octets_of_components (only_components fs) ≡ 0 = omega (arith, only_octets t, only_octets_in fs) in
      e

-- it is read of any units, and takes none
pub nothing_taken : (c : Coding) (single : Bool) → SpellsNothing single c.code → (t : Shape) → InProfile t → HasNothing single t
    → (us : List ℕ) → Spells c.ruling.fielding (ValuesOf c t) (only_value t) us us
nothing_taken c single law t good h us = record {
  chunks = [];
  spelt = record { fits = (only_fits single t good h, tt); same = sym (law t (only_value t) h (only_fits single t good h)) };
  contents = tt;
  split = refl;
}

-- ---- the entries of components, one after the other

-- of the components that all these nodes are of, so many entries are counted, of all before the rest
pub record CountedUpTo (single : Bool) (n : ℕ) (all rest : List Node) : Type 0 where
  pub goes : (ns : List Node) (root : Fields) → ArePlans ns all root
      → (fs : Fields) × ArePlans ns rest fs × (have_nothing single fs ≡ true → have_nothing single root ≡ true)
      × (1 + entries_of_components (only_components root) ≡ n + entries_of_components (only_components fs))

pub counted_starts : (single : Bool) (all : List Node) → CountedUpTo single 1 all all
counted_starts single all = record { goes = λ ns root p. (root, p, λ h. h, refl) }

-- of the next one too
next_counted : (single : Bool) (n k : ℕ) (m : Node) (rest : List Node)
    → ((ns : List Node) (demand : Demand) (t : Shape) → IsPresence m.presence demand t → IsPlan ns t m.kind
    → (demand ≡ must) × HasEntries single k t)
    → (ns : List Node) (root fs : Fields) → ArePlans ns (m ∷ rest) fs → (have_nothing single fs ≡ true → have_nothing single root ≡ true)
    → 1 + entries_of_components (only_components root) ≡ n + entries_of_components (only_components fs)
    → (gs : Fields) × ArePlans ns rest gs × (have_nothing single gs ≡ true → have_nothing single root ≡ true)
    × (1 + entries_of_components (only_components root) ≡ (n + k) + entries_of_components (only_components gs))
next_counted single n k m rest one ns root no_fields p on e = absurd p
next_counted single n k m rest one ns root (field name demand t fs) p on e =
    let x = one ns demand t p.0 p.1 in
    let here : have_nothing single fs ≡ true → have_nothing single (field name demand t fs) ≡ true = λ h. rw x.0 (ap (λ (b : Bool). b && have_nothing single fs) x.1.0 ∙ h) in
    let sum : 1 + entries_of_components (only_components root) ≡ n + (entries_of (only_value t) + entries_of_components (only_components fs)) = e in
    (fs, p.2, λ h. on (here h), omega (arith, sum, x.1.1))

pub counted_further : {single : Bool} {n : ℕ} {all rest : List Node} {m : Node} → CountedUpTo single n all (m ∷ rest) → (k : ℕ)
    → ((ns : List Node) (demand : Demand) (t : Shape) → IsPresence m.presence demand t → IsPlan ns t m.kind
    → (demand ≡ must) × HasEntries single k t)
    → CountedUpTo single (n + k) all rest
counted_further {single} {n} {all} {rest} {m} h k one = record {
  goes = λ ns root p. (let g = h.goes ns root p in next_counted single n k m rest one ns root g.0 g.1 g.2 g.3);
}

-- of all
all_counted : (single : Bool) (n : ℕ) (ns : List Node) (root fs : Fields) → ArePlans ns [] fs → (have_nothing single fs ≡ true → have_nothing single root ≡ true)
    → 1 + entries_of_components (only_components root) ≡ n + entries_of_components (only_components fs)
    → HasEntries single n (sequence root closed)
all_counted single n ns root no_fields p on e =
    let sum : 1 + entries_of_components (only_components root) ≡ n + 0 = e in
    let same : n ≡ 1 + entries_of_components (only_components root) = omega (arith, sum) in
    (on refl, same)
all_counted single n ns root (field name demand t fs) p on e = absurd p

pub counted_ends : {single : Bool} {n : ℕ} {all rest : List Node} → CountedUpTo single n all rest → rest ≡ []
    → (ns : List Node) (root : Fields) → ArePlans ns all root → HasEntries single n (sequence root closed)
counted_ends {single} {n} {all} {rest} h e ns root p =
    let g = h.goes ns root p in
    all_counted single n ns root g.0 (rw e at g.1) g.2 g.3
