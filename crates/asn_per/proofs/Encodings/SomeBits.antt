-- A type of the profile has a value that takes a bit, unless no_bits says that it has none.
use Rattle.std.proofs.Common.{◌≡◌, ◌≢◌, ◌≤◌, ◌<◌, ◌-◌, ◌==◌, ◌⊎◌, ◌↔◌, ℕ, suc, ℤ, pos, negsuc, Bool, true, false, not, ◌&&◌, ◌||◌, List, [], ◌∷◌, ◌++◌, length, map, take, drop, replicate, Option, Some, None, inl, inr, refl, sym, ◌∙◌, ap, subst, arith, IsTrue, nat_lt, MatchBool}
use Rattle.std.proofs.lemmas.Bool.{or_parts, true≢false, leb-false, eq-eqb}
use Rattle.std.proofs.Math.Seq.{take-append_seam, drop-append_seam}
use Rattle.std.proofs.lemmas.Str.{IsUtf8-nil}
use Rattle.std.specs.List.{AllByRecursion}
use Rattle.std.specs.Int.RustNames.{int_le}
use Rattle.asn_values.specs.Datum.{Datum, truth, number, item, bit_list, octet_list, characters, unicode, components, elements, alternative, Components, component_list, elements_of, components_of}
use Rattle.asn_values.specs.Shape.{Alphabet, Range, ia5, numeric, visible, Shape, boolean, null, integer, enumerated, bit_string, octet_string, restricted, utf8_string, sequence, sequence_of, choice, Label, MoreLabels, closed_labels, marked_labels, must, optional, default, Fields, no_fields, field, MoreFields, closed, marked, is_marked, demands, Alternatives, no_alternatives, one_of, MoreAlternatives, closed_choice, marked_choice, is_marked_choice, count}
use Rattle.asn_values.specs.Fits.{Fits, FitsEach, FitsMoreAlternatives, FitsLength, is_of_kind, in_range}
use Rattle.asn_values.specs.Profile.{somewhere, some_field, some_alternative, empty_range, size_too_large, size_above, large_size, no_bits, no_field_bits, is_zero_size, is_fixed_size, is_one_number, is_closed, int_eq, low_above_high, zero_width_element}
use Rattle.asn_bits.specs.Numbers.{bits, above, least, least_signed}
use Rattle.asn_bits.specs.Lengths.{general_octets}
use Rattle.asn_rules.specs.Chunks.{one, ones}
use Rattle.asn_rules.specs.Components.{number_at, bit_of, presence, any_present, extension_bit}
use Rattle.asn_per.specs.Per.{after_mark, rank, unconstrained, sized, constrained, small, whole_number, ranged, enumeration, character_bits, per, per_each, per_additions, per_alternative, per_more}
use Rattle.asn_rules.proofs.Law.SomeValue.{number_between, all_same, shortest_fits, entries_again, list_again, character_fits, some_length, entries_fit, first_place, some_value, some_entries}
use Rattle.asn_per.proofs.Encodings.Empty.{spelt_by_nothing}
use Rattle.asn_per.proofs.Encodings.NotEmpty.{cons_not_empty, left_not_empty, right_not_empty, ones_not_empty, constrained_not_empty, general_not_empty, sized_not_empty}

-- ---- numbers

-- bounds with two numbers between them
above_some : (low high : ℤ) → int_le high low ≡ false → 1 ≤ above low high
above_some (pos l) (pos h) e = omega (arith, leb-false h l e)
above_some (pos l) (negsuc h) e = absurd (true≢false e)
above_some (negsuc l) (pos h) e = omega arith
above_some (negsuc l) (negsuc h) e = omega (arith, leb-false l h e)

-- octets under their general length have bits
octets_not_empty : (os : List ℕ) → general_octets (λ u. u) os ≢ []
octets_not_empty os = general_not_empty (λ u. u) (map (λ o. map (λ u. u) (bits 8 o)) os)

-- bounds that are not the same, and not the wrong way round
not_below : (l u : ℤ) → not (int_le l u) ≡ false → int_eq l u ≡ false → int_le u l ≡ false
not_below l u o e = go (int_le l u) (int_le u l) o e
  where
    go : (a b : Bool) → not a ≡ false → (a && b) ≡ false → b ≡ false
    go true b o e = e
    go false b o e = absurd (true≢false o)

-- a number between such bounds has bits
ranged_not_empty : (low high : Option ℤ) → low_above_high low high ≡ false → is_one_number (record { low = low; high = high; extensible = false }) ≡ false → (z : ℤ) → ranged low high z ≢ []
ranged_not_empty (Some l) (Some u) o e z = constrained_not_empty (suc (above l u)) _ (omega (arith, above_some l u (not_below l u o e)))
ranged_not_empty (Some l) None o e z = octets_not_empty (least (above l z))
ranged_not_empty None high o e z = octets_not_empty (least_signed z)

-- so has each number of a range that is not one number
number_not_empty : (b : Range) → low_above_high b.low b.high ≡ false → is_one_number b ≡ false → (z : ℤ) → whole_number b z ≢ []
number_not_empty b o e z = go b.extensible (in_range b z) e
  where
    go : (m i : Bool) → is_one_number (record { low = b.low; high = b.high; extensible = m }) ≡ false → after_mark (λ u. u) m i (ranged b.low b.high z) (unconstrained z) ≢ []
    go false i e = ranged_not_empty b.low b.high o e z
    go true true e = cons_not_empty 0 _
    go true false e = cons_not_empty 1 _

-- ---- parts with bits

-- with a part in between
between_not_empty : {A : Type 0} (xs ys zs : List A) → xs ++ zs ≢ [] → xs ++ (ys ++ zs) ≢ []
between_not_empty [] ys zs h = right_not_empty ys zs h
between_not_empty (x ∷ xs) ys zs h = cons_not_empty x (xs ++ (ys ++ zs))

-- a SEQUENCE with that in front has bits
components_not_empty : (root : Fields) (more : MoreFields) (cs : Components) (es gs : List (Option Datum)) → component_list cs ≡ es ++ gs → length es ≡ length (demands root)
    → ones (extension_bit (is_marked more) (any_present gs) ++ presence (demands root) es) ++ per_each root es ≢ [] → per (sequence root more) (components cs) ≢ []
components_not_empty root more cs es gs e l h =
    left_not_empty _ (per_additions more (drop (length (demands root)) (component_list cs)))
    (subst (λ xs. ones (extension_bit (is_marked more) (any_present (drop (length (demands root)) xs)) ++ presence (demands root) (take (length (demands root)) xs)) ++ per_each root (take (length (demands root)) xs) ≢ []) (sym e)
    (subst (λ n. ones (extension_bit (is_marked more) (any_present (drop n (es ++ gs))) ++ presence (demands root) (take n (es ++ gs))) ++ per_each root (take n (es ++ gs)) ≢ []) l
    (subst (λ xs. ones (extension_bit (is_marked more) (any_present (drop (length es) (es ++ gs))) ++ presence (demands root) xs) ++ per_each root xs ≢ []) (sym (take-append_seam es gs))
    (subst (λ xs. ones (extension_bit (is_marked more) (any_present xs) ++ presence (demands root) es) ++ per_each root es ≢ []) (sym (drop-append_seam es gs)) h))))

-- one of two tests fails
either_false : (a b : Bool) → (a && b) ≡ false → (a ≡ false) ⊎ (b ≡ false)
either_false true b h = inr h
either_false false b h = inl refl

-- an ENUMERATED of two items, or with a mark
enumeration_not_empty : (root : List Label) (more : MoreLabels) (p : ℕ) → 0 < length root → (length root == 1 && is_closed more) ≡ false → enumeration root more p ≢ []
enumeration_not_empty root closed_labels p l h =
    let other : length root ≢ 1 = λ e. true≢false (sym (eq-eqb (length root) 1 e) ∙ not_one (length root == 1) h) in
    constrained_not_empty (length root) _ (omega arith)
  where
    not_one : (b : Bool) → (b && true) ≡ false → b ≡ false
    not_one true e = e
    not_one false e = refl
enumeration_not_empty root (marked_labels ls) p l h = go (nat_lt p (length root))
  where
    go : (i : Bool) → after_mark (λ u. u) true i (constrained (length root) (rank root (number_at root p))) (small (p - length root)) ≢ []
    go true = cons_not_empty 0 _
    go false = cons_not_empty 1 _

-- a root alternative with that spelling has bits
alternative_not_empty : (alts : Alternatives) (more : MoreAlternatives) (name : List ℕ) (t : Shape) (d : Datum)
    → ones (extension_bit (is_marked_choice more) false ++ constrained (suc (count alts)) 0) ++ per t d ≢ [] → per (choice (one_of name t alts) more) (alternative 0 d) ≢ []
alternative_not_empty alts more name t d h =
    subst (λ i. elim i [
      | true ↦ ones (extension_bit (is_marked_choice more) false ++ constrained (suc (count alts)) 0) ++ per_alternative (one_of name t alts) 0 d
      | false ↦ ones (1 ∷ small (0 - suc (count alts))) ++ per_more more (0 - suc (count alts)) d
    ] ≢ []) (sym (first_place (count alts))) h

-- a value of the first alternative is one of the CHOICE
alternative_fits : (alts : Alternatives) (more : MoreAlternatives) (name : List ℕ) (t : Shape) (d : Datum) → Fits t d → Fits (choice (one_of name t alts) more) (alternative 0 d)
alternative_fits alts more name t d f = subst (λ i. MatchBool i (Fits t d) (FitsMoreAlternatives more (0 - suc (count alts)) d)) (sym (first_place (count alts))) f

-- a value with bits
abbrev pub WithBits : Shape → Type 0
WithBits t = (d : Datum) × Fits t d × (per t d ≢ [])

mutual
  -- a type of which no_bits fails has a value with bits
  pub some_bits : (t : Shape) → somewhere empty_range t ≡ false → somewhere size_too_large t ≡ false → no_bits t ≡ false → WithBits t
  some_bits boolean h g n = (truth true, tt, cons_not_empty (one 1) [])
  some_bits null h g n = absurd (true≢false n)
  some_bits (integer b) h g n = let w = number_between b.low b.high b.extensible h in (number w.0, w.1, ones_not_empty (whole_number b w.0) (number_not_empty b (or_parts (low_above_high b.low b.high) _ h).0 n w.0))
  some_bits (enumerated root more) h g n =
      let l = some_length root more h in
      (item 0, omega arith, ones_not_empty (enumeration root more 0) (enumeration_not_empty root more 0 l n))
  some_bits (bit_string z) h g n =
      (bit_list (replicate z.low true), shortest_fits z true h g, sized_not_empty (λ b. one (bit_of b) ∷ []) true z h n (inr (cons_not_empty (one 1) [])))
  some_bits (octet_string z) h g n =
      (octet_list (replicate z.low 0), (shortest_fits z 0 h g, all_same (λ o. o < 256) 0 z.low (omega arith)), sized_not_empty (λ o. ones (bits 8 o)) 0 z h n (inr (cons_not_empty (one 0) _)))
  some_bits (restricted k z) h g n = (
    characters (replicate z.low 32),
    (shortest_fits z 32 h g, all_same (λ c. IsTrue (is_of_kind k c)) 32 z.low (character_fits k)),
    sized_not_empty (λ c. ones (character_bits k c)) 32 z h n (inr (character_not_empty k)),
  )
    where
      character_not_empty : (k : Alphabet) → ones (character_bits k 32) ≢ []
      character_not_empty ia5 = cons_not_empty (one 0) _
      character_not_empty visible = cons_not_empty (one 0) _
      character_not_empty numeric = cons_not_empty (one 0) _
  some_bits utf8_string h g n = (unicode [], (omega arith, IsUtf8-nil), cons_not_empty _ [])
  some_bits (sequence root closed) h g n =
      let a = or_parts (some_field empty_range root) false h in
      let b = or_parts (some_field size_too_large root) false g in
      let w = some_entry_bits root a.0 b.0 (elim (either_false (no_field_bits root) true n) [ inl e ↦ e | inr e ↦ absurd (true≢false e) ]) in
      (components (components_of (w.0 ++ [])), entries_fit root closed w.0 [] w.2 w.1 tt, components_not_empty root closed (components_of (w.0 ++ [])) w.0 [] (entries_again (w.0 ++ [])) w.2 w.3)
  some_bits (sequence root (marked fs)) h g n =
      let a = or_parts (some_field empty_range root) (some_field empty_range fs) h in
      let b = or_parts (some_field size_too_large root) (some_field size_too_large fs) g in
      let es = some_entries root a.0 b.0 in
      let gs = some_entries fs a.1 b.1 in (
        components (components_of (es.0 ++ gs.0)),
        entries_fit root (marked fs) es.0 gs.0 es.2 es.1 gs.1,
        components_not_empty root (marked fs) (components_of (es.0 ++ gs.0)) es.0 gs.0 (entries_again (es.0 ++ gs.0)) es.2 (cons_not_empty (one (bit_of (any_present gs.0))) _),
      )
  some_bits (sequence_of t z) h g n =
      let a = or_parts (size_above z) (somewhere empty_range t) h in
      let b = or_parts (large_size (Some z)) (somewhere size_too_large t) g in
      let c = or_parts (is_zero_size z) (is_fixed_size z && no_bits t) n in
      let v : (d : Datum) × Fits t d × ((is_fixed_size z ≡ false) ⊎ (per t d ≢ [])) =
      elim (either_false (is_fixed_size z) (no_bits t) c.1) [
        | inl e ↦ let w = some_value t a.1 b.1 in (w.0, w.1, inl e)
        | inr e ↦ let w = some_bits t a.1 b.1 e in (w.0, w.1, inr w.2)
      ] in (
        elements (elements_of (replicate z.low v.0)),
        subst (λ ds. FitsLength z (length ds) × AllByRecursion (λ e. Fits t e) ds) (sym (list_again (replicate z.low v.0))) (shortest_fits z v.0 a.0 b.0, all_same (λ e. Fits t e) v.0 z.low v.1),
        subst (λ ds. sized z (map (λ e. per t e) ds) ≢ []) (sym (list_again (replicate z.low v.0))) (sized_not_empty (λ e. per t e) v.0 z a.0 c.0 v.2),
      )
  some_bits (choice no_alternatives more) h g n = absurd (true≢false h)
  some_bits (choice (one_of name t no_alternatives) closed_choice) h g n =
      let a = or_parts (somewhere empty_range t) false (or_parts (somewhere empty_range t || false) false h).0 in
      let b = or_parts (somewhere size_too_large t) false (or_parts (somewhere size_too_large t || false) false g).0 in
      let v = some_bits t a.0 b.0 (elim (either_false (no_bits t) true n) [ inl e ↦ e | inr e ↦ absurd (true≢false e) ]) in
      (alternative 0 v.0, alternative_fits no_alternatives closed_choice name t v.0 v.1, alternative_not_empty no_alternatives closed_choice name t v.0 (right_not_empty (ones (constrained 1 0)) (per t v.0) v.2))
  some_bits (choice (one_of name t (one_of name2 t2 alts)) closed_choice) h g n =
      let a = or_parts (somewhere empty_range t) (some_alternative empty_range (one_of name2 t2 alts)) (or_parts _ false (or_parts (count (one_of name t (one_of name2 t2 alts)) == 0) _ h).1).0 in
      let b = or_parts (somewhere size_too_large t) (some_alternative size_too_large (one_of name2 t2 alts)) (or_parts _ false g).0 in
      let v = some_value t a.0 b.0 in (
        alternative 0 v.0,
        alternative_fits (one_of name2 t2 alts) closed_choice name t v.0 v.1,
        alternative_not_empty (one_of name2 t2 alts) closed_choice name t v.0 (left_not_empty _ (per t v.0) (ones_not_empty _ (constrained_not_empty (suc (suc (count alts))) 0 (omega arith)))),
      )
  some_bits (choice (one_of name t alts) (marked_choice more)) h g n =
      let a = or_parts (somewhere empty_range t) (some_alternative empty_range alts) (or_parts _ (some_alternative empty_range more) (or_parts (count (one_of name t alts) == 0) _ h).1).0 in
      let b = or_parts (somewhere size_too_large t) (some_alternative size_too_large alts) (or_parts _ (some_alternative size_too_large more) g).0 in
      let v = some_value t a.0 b.0 in
      (alternative 0 v.0, alternative_fits alts (marked_choice more) name t v.0 v.1, alternative_not_empty alts (marked_choice more) name t v.0 (cons_not_empty (one 0) _))

  -- and so have components of which it fails, with their presence bits
  some_entry_bits : (fs : Fields) → some_field empty_range fs ≡ false → some_field size_too_large fs ≡ false → no_field_bits fs ≡ false
      → (es : List (Option Datum)) × FitsEach fs es × (length es ≡ length (demands fs)) × (ones (presence (demands fs) es) ++ per_each fs es ≢ [])
  some_entry_bits no_fields h g n = absurd (true≢false n)
  some_entry_bits (field name optional t fs) h g n =
      let w = some_entries (field name optional t fs) h g in
      (w.0, w.1, w.2, starts w.0 w.2)
    where
      starts : (es : List (Option Datum)) → length es ≡ suc (length (demands fs)) → ones (presence (optional ∷ demands fs) es) ++ per_each (field name optional t fs) es ≢ []
      starts [] l = absurd (omega arith)
      starts (e ∷ es) l = cons_not_empty _ _
  some_entry_bits (field name (default d) t fs) h g n =
      let w = some_entries (field name (default d) t fs) h g in
      (w.0, w.1, w.2, starts w.0 w.2)
    where
      starts : (es : List (Option Datum)) → length es ≡ suc (length (demands fs)) → ones (presence (default d ∷ demands fs) es) ++ per_each (field name (default d) t fs) es ≢ []
      starts [] l = absurd (omega arith)
      starts (e ∷ es) l = cons_not_empty _ _
  some_entry_bits (field name must t fs) h g n =
      let a = or_parts (somewhere empty_range t) (some_field empty_range fs) h in
      let b = or_parts (somewhere size_too_large t) (some_field size_too_large fs) g in
      elim (either_false (no_bits t) (no_field_bits fs) n) [
        | inl e ↦
            let v = some_bits t a.0 b.0 e in
            let es = some_entries fs a.1 b.1 in
            (Some v.0 ∷ es.0, (v.1, es.1), ap suc es.2, right_not_empty (ones (presence (demands fs) es.0)) (per t v.0 ++ per_each fs es.0) (left_not_empty (per t v.0) (per_each fs es.0) v.2))
        | inr e ↦
            let v = some_value t a.0 b.0 in
            let es = some_entry_bits fs a.1 b.1 e in
            (Some v.0 ∷ es.0, (v.1, es.1), ap suc es.2, between_not_empty (ones (presence (demands fs) es.0)) (per t v.0) (per_each fs es.0) es.3)
      ]

-- no_bits says exactly that each value is spelt by nothing
pub no_bits_exact : (t : Shape) → somewhere empty_range t ≡ false → somewhere size_too_large t ≡ false → somewhere zero_width_element t ≡ false
    → (no_bits t ≡ true) ↔ ((d : Datum) → Fits t d → per t d ≡ [])
no_bits_exact t h g z = (λ n d f. spelt_by_nothing t d z n f, λ all. back all (no_bits t) refl)
  where
    back : ((d : Datum) → Fits t d → per t d ≡ []) → (b : Bool) → no_bits t ≡ b → b ≡ true
    back all true e = refl
    back all false e = let w = some_bits t h g e in absurd (w.2 (all w.0 w.1))
