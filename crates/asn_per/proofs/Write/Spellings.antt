-- The bits of each kind of value, as a writer puts them and a reader takes them.
use Rattle.std.proofs.Common.{◌≡◌, ◌⊎◌, inl, inr, ◌||◌, not, IsTrue, ℕ, suc, ℤ, Bool, true, false, List, [], ◌∷◌, ◌++◌, length, take, Option, Some, None, refl, sym, ◌∙◌, ap}
use Rattle.std.proofs.lemmas.List.{append-nil}
use Rattle.std.proofs.Math.Seq.{take-length}
use Rattle.asn_values.specs.Datum.{Datum, truth, number, components, Components, component_list, components_of}
use Rattle.asn_values.specs.Shape.{Range, Shape, boolean, integer, sequence, Demand, Fields, no_fields, field, closed, demands}
use Rattle.asn_values.specs.Fits.{FitsEach}
use Rattle.asn_rules.specs.Chunks.{ones, flat}
use Rattle.asn_rules.specs.Components.{bit_of, extension_bit, presence, is_spelled}
use Rattle.asn_rules.proofs.Live.Flat.{flat-append, flat-ones}
use Rattle.asn_values.specs.Fits.{in_range, FitsNumber}
use Rattle.asn_bits.specs.Numbers.{above}
use Rattle.asn_per.specs.Per.{spelled, per, per_each, whole_number, after_mark, ranged, semi_constrained, unconstrained}
use Rattle.asn_per.specs.Kinds.{IsNotBetween}
use Rattle.asn_per.specs.Laws.{per_bits, component_bits}

-- ---- simple types

pub bits_of_truth : (b : Bool) → per_bits boolean (truth b) ≡ bit_of b ∷ []
bits_of_truth b = refl

-- an integer, as the definition has it
bits_of_integer : (b : Range) (z : ℤ) → per_bits (integer b) (number z) ≡ whole_number b z
bits_of_integer b z = flat-ones spelled (whole_number b z)

-- without a mark
pub bits_of_unmarked : (b : Range) (z : ℤ) → b.extensible ≡ false → per_bits (integer b) (number z) ≡ ranged b.low b.high z
bits_of_unmarked b z e = bits_of_integer b z ∙ ap (λ (m : Bool). after_mark (λ u. u) m (in_range b z) (ranged b.low b.high z) (unconstrained z)) e

-- after a mark, between the bounds
pub bits_of_inside : (b : Range) (z : ℤ) → b.extensible ≡ true → in_range b z ≡ true → per_bits (integer b) (number z) ≡ 0 ∷ ranged b.low b.high z
bits_of_inside b z e i =
    bits_of_integer b z ∙ ap (λ (m : Bool). after_mark (λ u. u) m (in_range b z) (ranged b.low b.high z) (unconstrained z)) e
    ∙ ap (λ (m : Bool). after_mark (λ u. u) true m (ranged b.low b.high z) (unconstrained z)) i

-- the extension bit where there is one, and the form of the root or the other
abbrev form : Bool → List ℕ → List ℕ → List ℕ
form true root other = root
form false root other = other

marked_form : (m i : Bool) (root other : List ℕ) → IsTrue (m || i) → after_mark (λ u. u) m i root other ≡ extension_bit m (not i) ++ form i root other
marked_form false true root other h = refl
marked_form false false root other h = absurd (cc)
marked_form true true root other h = refl
marked_form true false root other h = refl

same_form : (i : Bool) (us : List ℕ) → form i us us ≡ us
same_form true us = refl
same_form false us = refl

bits_of_form : (b : Range) (z : ℤ) → FitsNumber b z → per_bits (integer b) (number z) ≡ extension_bit b.extensible (not (in_range b z)) ++ form (in_range b z) (ranged b.low b.high z) (unconstrained z)
bits_of_form b z f = bits_of_integer b z ∙ marked_form b.extensible (in_range b z) (ranged b.low b.high z) (unconstrained z) f.2

-- without a low bound, and outside the bounds
pub bits_of_unconstrained : (b : Range) (z : ℤ) → FitsNumber b z → (b.low ≡ None) ⊎ (in_range b z ≡ false) → per_bits (integer b) (number z) ≡ extension_bit b.extensible (not (in_range b z)) ++ unconstrained z
bits_of_unconstrained b z f (inl e) =
    let u = unconstrained z in
    let mark = extension_bit b.extensible (not (in_range b z)) in
    bits_of_form b z f ∙ ap (λ (l : Option ℤ). mark ++ form (in_range b z) (ranged l b.high z) u) e ∙ ap (λ (t : List ℕ). mark ++ t) (same_form (in_range b z) u)
bits_of_unconstrained b z f (inr e) =
    let mark = extension_bit b.extensible (not (in_range b z)) in
    bits_of_form b z f ∙ ap (λ (i : Bool). mark ++ form i (ranged b.low b.high z) (unconstrained z)) e

-- from a low bound on
pub bits_of_semi_constrained : (b : Range) (low z : ℤ) → FitsNumber b z → b.low ≡ Some low → in_range b z ≡ true → IsNotBetween b z
    → per_bits (integer b) (number z) ≡ extension_bit b.extensible (not (in_range b z)) ++ semi_constrained (above low z)
bits_of_semi_constrained b low z f l i (inl n) = absurd (cc)
bits_of_semi_constrained b low z f l i (inr (inl n)) =
    let mark = extension_bit b.extensible (not (in_range b z)) in
    bits_of_form b z f ∙ ap (λ (j : Bool). mark ++ form j (ranged b.low b.high z) (unconstrained z)) i
    ∙ ap (λ (o : Option ℤ). mark ++ ranged o b.high z) l ∙ ap (λ (o : Option ℤ). mark ++ ranged (Some low) o z) n
bits_of_semi_constrained b low z f l i (inr (inr o)) = absurd (cc)

-- ---- SEQUENCE

pub component_list-of : (es : List (Option Datum)) → component_list (components_of es) ≡ es
component_list-of [] = refl
component_list-of (None ∷ es) = ap (λ t. None ∷ t) (component_list-of es)
component_list-of (Some d ∷ es) = ap (λ t. Some d ∷ t) (component_list-of es)

pub components_of-list : (cs : Components) → components_of (component_list cs) ≡ cs
components_of-list Components.no_components = refl
components_of-list (Components.absent cs) = ap Components.absent (components_of-list cs)
components_of-list (Components.present d cs) = ap (Components.present d) (components_of-list cs)

pub entries_count : (fs : Fields) (es : List (Option Datum)) → FitsEach fs es → length es ≡ length (demands fs)
entries_count no_fields [] h = refl
entries_count no_fields (e ∷ es) h = absurd h
entries_count (field name demand t fs) [] h = absurd h
entries_count (field name demand t fs) (e ∷ es) h = ap suc (entries_count fs es h.1)

pub bits_of_sequence : (fs : Fields) (es : List (Option Datum)) → FitsEach fs es
    → per_bits (sequence fs closed) (components (components_of es)) ≡ presence (demands fs) es ++ component_bits fs es
bits_of_sequence fs es h =
    let all : take (length (demands fs)) (component_list (components_of es)) ≡ es =
    ap (take (length (demands fs))) (component_list-of es) ∙ ap (λ n. take n es) (sym (entries_count fs es h)) ∙ take-length es in
    ap (λ root_entries. flat spelled ((ones (presence (demands fs) root_entries) ++ per_each fs root_entries) ++ [])) all
    ∙ ap (flat spelled) (append-nil (ones (presence (demands fs) es) ++ per_each fs es))
    ∙ flat-append spelled (ones (presence (demands fs) es)) (per_each fs es)
    ∙ ap (λ front. front ++ component_bits fs es) (flat-ones spelled (presence (demands fs) es))

-- ---- the first component, and those after it

-- a component that is spelt
pub component_bits-spelled : (name : List ℕ) (demand : Demand) (t : Shape) (fs : Fields) (d : Datum) (es : List (Option Datum)) → is_spelled demand (Some d) ≡ true
    → component_bits (field name demand t fs) (Some d ∷ es) ≡ per_bits t d ++ component_bits fs es
component_bits-spelled name demand t fs d es h =
    ap (λ b. flat spelled ((elim b [ true ↦ per t d | false ↦ [] ]) ++ per_each fs es)) h ∙ flat-append spelled (per t d) (per_each fs es)

-- a component equal to its DEFAULT
pub component_bits-default : (name : List ℕ) (demand : Demand) (t : Shape) (fs : Fields) (d : Datum) (es : List (Option Datum)) → is_spelled demand (Some d) ≡ false
    → component_bits (field name demand t fs) (Some d ∷ es) ≡ component_bits fs es
component_bits-default name demand t fs d es h = ap (λ b. flat spelled ((elim b [ true ↦ per t d | false ↦ [] ]) ++ per_each fs es)) h

-- a component that is absent
pub component_bits-absent : (name : List ℕ) (demand : Demand) (t : Shape) (fs : Fields) (es : List (Option Datum))
    → component_bits (field name demand t fs) (None ∷ es) ≡ component_bits fs es
component_bits-absent name demand t fs es = refl
