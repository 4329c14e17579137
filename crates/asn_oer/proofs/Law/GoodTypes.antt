-- What the spellings in OER need of a type of the profile, for the type and each part of it: good numbers in each
-- ENUMERATED, and not too many components and alternatives.
use Rattle.std.proofs.Common.{◌≡◌, ◌≤◌, ◌<◌, ◌+◌, ◌-◌, ℕ, zero, suc, Bool, true, false, List, refl, arith, nat_lt, MatchBool}
use Rattle.std.proofs.lemmas.Bool.{ltb-true, ltb-false, or_parts}
use Rattle.asn_values.specs.Datum.{Datum}
use Rattle.asn_values.specs.Shape.{Shape, sequence, choice, Demand, Fields, field, MoreFields, marked, Alternatives, no_alternatives, one_of, MoreAlternatives, closed_choice, marked_choice, more_alternatives, count}
use Rattle.asn_values.specs.Fits.{FitsAlternative, FitsMoreAlternatives}
use Rattle.asn_values.specs.Profile.{InProfile, BadEnumeration, TooMany, bad_enumeration, too_many_here, most_alternatives, most_nodes, somewhere, some_field, some_addition, some_alternative, some_more}
use Rattle.asn_values.specs.Measures.{nodes}

-- no ENUMERATED inside has bad numbers, and nothing inside too many parts
pub record Good (t : Shape) : Type 0 where
  pub numbers : somewhere bad_enumeration t ≡ false
  pub parts : somewhere too_many_here t ≡ false

-- the same of components
pub record GoodFields (fs : Fields) : Type 0 where
  pub numbers : some_field bad_enumeration fs ≡ false
  pub parts : some_field too_many_here fs ≡ false

-- the same of alternatives
pub record GoodAlternatives (alts : Alternatives) : Type 0 where
  pub numbers : some_alternative bad_enumeration alts ≡ false
  pub parts : some_alternative too_many_here alts ≡ false

-- every type of the profile is such
pub good : (t : Shape) → InProfile t → Good t
good t h = record { numbers = h BadEnumeration; parts = (or_parts (somewhere too_many_here t) (nat_lt most_nodes (nodes t)) (h TooMany)).0 }

-- the type of the first component is such
pub first_good : (name : List ℕ) (demand : Demand) (t : Shape) (fs : Fields) → GoodFields (field name demand t fs) → Good t
first_good name demand t fs h = record { numbers = (or_parts (somewhere bad_enumeration t) (some_field bad_enumeration fs) h.numbers).0; parts = (or_parts (somewhere too_many_here t) (some_field too_many_here fs) h.parts).0 }

-- and so are the components after it
pub rest_good : (name : List ℕ) (demand : Demand) (t : Shape) (fs : Fields) → GoodFields (field name demand t fs) → GoodFields fs
rest_good name demand t fs h = record { numbers = (or_parts (somewhere bad_enumeration t) (some_field bad_enumeration fs) h.numbers).1; parts = (or_parts (somewhere too_many_here t) (some_field too_many_here fs) h.parts).1 }

-- the type of the first alternative is such
pub here_good : (name : List ℕ) (t : Shape) (alts : Alternatives) → GoodAlternatives (one_of name t alts) → Good t
here_good name t alts h = record { numbers = (or_parts (somewhere bad_enumeration t) (some_alternative bad_enumeration alts) h.numbers).0; parts = (or_parts (somewhere too_many_here t) (some_alternative too_many_here alts) h.parts).0 }

-- and so are the alternatives after it
pub later_good : (name : List ℕ) (t : Shape) (alts : Alternatives) → GoodAlternatives (one_of name t alts) → GoodAlternatives alts
later_good name t alts h = record { numbers = (or_parts (somewhere bad_enumeration t) (some_alternative bad_enumeration alts) h.numbers).1; parts = (or_parts (somewhere too_many_here t) (some_alternative too_many_here alts) h.parts).1 }

-- of the components and additions of a SEQUENCE
pub root_good : (root : Fields) (more : MoreFields) → Good (sequence root more) → GoodFields root
root_good root more h =
    let a = or_parts (some_field bad_enumeration root) (some_addition bad_enumeration more) h.numbers in
    let b = or_parts (some_field too_many_here root) (some_addition too_many_here more) (or_parts (too_many_here (sequence root more)) _ h.parts).1 in
    record { numbers = a.0; parts = b.0 }

-- and of its additions
pub additions_good : (root fs : Fields) → Good (sequence root (marked fs)) → GoodFields fs
additions_good root fs h =
    let a = or_parts (some_field bad_enumeration root) (some_field bad_enumeration fs) h.numbers in
    let b = or_parts (some_field too_many_here root) (some_field too_many_here fs) (or_parts (too_many_here (sequence root (marked fs))) _ h.parts).1 in
    record { numbers = a.1; parts = b.1 }

-- of the alternatives of a CHOICE
pub choice_good : (root : Alternatives) (more : MoreAlternatives) → Good (choice root more) → GoodAlternatives root
choice_good root more h =
    let a = or_parts (some_alternative bad_enumeration root) (some_more bad_enumeration more) h.numbers in
    let b = or_parts (some_alternative too_many_here root) (some_more too_many_here more) (or_parts (too_many_here (choice root more)) _ h.parts).1 in
    record { numbers = a.0; parts = b.0 }

-- and of its additions
pub choice_additions_good : (root alts : Alternatives) → Good (choice root (marked_choice alts)) → GoodAlternatives alts
choice_additions_good root alts h =
    let a = or_parts (some_alternative bad_enumeration root) (some_alternative bad_enumeration alts) h.numbers in
    let b = or_parts (some_alternative too_many_here root) (some_alternative too_many_here alts) (or_parts (too_many_here (choice root (marked_choice alts))) _ h.parts).1 in
    record { numbers = a.1; parts = b.1 }

-- there are no more alternatives than the profile allows
pub few_alternatives : (root : Alternatives) (more : MoreAlternatives) → Good (choice root more) → count root + count (more_alternatives more) ≤ most_alternatives
few_alternatives root more h = ltb-false most_alternatives (count root + count (more_alternatives more)) (or_parts (too_many_here (choice root more)) _ h.parts).0

-- ---- the tags of a CHOICE

-- the index of a value of an alternative is one of the alternatives
alternative_place : (alts : Alternatives) (i : ℕ) (d : Datum) → FitsAlternative alts i d → i < count alts
alternative_place no_alternatives i d f = absurd f
alternative_place (one_of name t alts) zero d f = omega arith
alternative_place (one_of name t alts) (suc i) d f = let h = alternative_place alts i d f in omega arith

-- and so is that of an addition
addition_place : (more : MoreAlternatives) (i : ℕ) (d : Datum) → FitsMoreAlternatives more i d → i < count (more_alternatives more)
addition_place closed_choice i d f = absurd f
addition_place (marked_choice alts) i d f = alternative_place alts i d f

-- the tag of a value is below the number of alternatives
pub tag_below : (root : Alternatives) (more : MoreAlternatives) (i : ℕ) (d : Datum) → MatchBool (nat_lt i (count root)) (FitsAlternative root i d) (FitsMoreAlternatives more (i - count root) d)
    → i < count root + count (more_alternatives more)
tag_below root more i d f = go (nat_lt i (count root)) refl f
  where
    go : (b : Bool) → nat_lt i (count root) ≡ b → MatchBool b (FitsAlternative root i d) (FitsMoreAlternatives more (i - count root) d) → i < count root + count (more_alternatives more)
    go true e f = omega (arith, ltb-true i (count root) e)
    go false e f = let h = addition_place more (i - count root) d f in omega (arith, ltb-false i (count root) e)
