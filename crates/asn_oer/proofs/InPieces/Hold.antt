-- An element of a list has an octet in OER, and strings have an octet for each item, or for eight bits.
use Rattle.std.proofs.Common.{◌≡◌, ◌≢◌, ◌≤◌, ◌<◌, ◌+◌, ◌-◌, ◌*◌, ◌/◌, ◌==◌, ◌⊎◌, inl, inr, ⊎_elim, ℕ, zero, suc, ℤ, pos, negsuc, Bool, true, false, not, ◌&&◌, ◌||◌, IsTrue, List, [], ◌∷◌, ◌++◌, length, length-append, map, Option, Some, None, refl, sym, ap, ◌∙◌, subst, arith}
use Rattle.std.proofs.lemmas.Bool.{true≢false, and_parts, eqb-true, eq-eqb, leb-true}
use Rattle.std.proofs.lemmas.List.{length-map}
use Rattle.std.specs.Prelude.{◌^◌, nat_le, nat_lt, is_some}
use Rattle.std.specs.Int.RustNames.{int_le, int_lt}
use Rattle.asn_values.specs.Datum.{Datum, truth, number, item, bit_list, octet_list, characters, unicode, elements, element_list, alternative}
use Rattle.asn_values.specs.Fits.{Fits, FitsLength, in_size}
use Rattle.asn_values.specs.Measures.{cells}
use Rattle.asn_values.specs.Parts.{AreOfProfile}
use Rattle.asn_values.specs.Profile.{InProfile, EmptyRange, SizeTooLarge, ZeroWidthElement, somewhere, zero_width_element, no_bits, no_field_bits, no_more_bits, is_zero_size, is_fixed_size}
use Rattle.asn_values.specs.Shape.{Range, SizeRange, Shape, boolean, null, integer, enumerated, bit_string, octet_string, restricted, utf8_string, sequence, sequence_of, choice, must, optional, default, more_labels, Fields, no_fields, field, MoreFields, closed, marked, count}
use Rattle.asn_values.proofs.InnerTypes.{element_of_profile}
use Rattle.asn_values.proofs.Parts.{left_false, components_of_profile}
use Rattle.asn_bits.specs.Lengths.{joined, octet_length}
use Rattle.asn_bits.specs.Numbers.{base_128, bits, octets, least, least_signed, padding, signed_octets}
use Rattle.asn_bits.specs.Sets.{InDigits}
use Rattle.asn_bits.proofs.Octets.{length-digits}
use Rattle.asn_rules.specs.Chunks.{Chunk, one, ones, flat}
use Rattle.asn_rules.specs.Components.{bit_of, number_at, extension_bit}
use Rattle.asn_rules.specs.Fields.{OneOctet, spelled}
use Rattle.asn_rules.specs.Filled.{filled_bits, filled_octets}
use Rattle.asn_rules.specs.IntegerSets.{magnitude_of}
use Rattle.asn_rules.specs.Holding.{CellsAreFew}
use Rattle.asn_rules.specs.Languages.{Nothing, Plain}
use Rattle.asn_rules.specs.Listed.{Spelt, Listed, bitmap_length}
use Rattle.asn_rules.specs.OctetStrings.{Character}
use Rattle.asn_rules.proofs.Law.SomeValue.{some_value}
use Rattle.asn_rules.proofs.Live.Flat.{flat-append, flat-ones}
use Rattle.asn_rules.proofs.Octets.OctetFields.{some_octets}
use Rattle.asn_walk.specs.Ahead.{Ahead}
use Rattle.asn_walk.specs.Coding.{added}
use Rattle.asn_walk_feed.specs.Holding.{HoldLaws}
use Rattle.asn_walk_feed.specs.Octets.{FirstOf}
use Rattle.asn_walk_feed.specs.Strings.{IsString}
use Rattle.asn_walk_feed.specs.Weights.{total}
use Rattle.asn_walk_feed.proofs.Cells.{cells_within}
use Rattle.asn_oer.specs.Oer.{oer, oer_alternative, oer_more, unsigned_octets, both_in, signed_size, counted_signed, unsigned_in, signed_in, ranged, whole_number, variable_bits, bit_octets, sized_octets, item_number, tag}
use Rattle.asn_oer.specs.Rules.{oer_ruling}
use Rattle.asn_oer.specs.SingleItems.{InFront, AfterUnused, BitsStart, string_items, oer_parts}
use Rattle.asn_oer.specs.Walk.{oer_coding}
use Rattle.asn_oer.proofs.InPieces.PackedItems.{filled_count}
use Rattle.asn_oer.proofs.Walk.WalkLaws.{oer_laws}

-- ---- some octets

some_spelled : (c : List ℕ) → 1 ≤ length (spelled c)
some_spelled c = (let l = some_octets c in omega (arith, l))

some_list : {A : Type 0} (xs : List A) → 1 ≤ length xs → xs ≢ []
some_list xs h e = (let l : length xs ≡ 0 = ap length e in absurd (omega (arith, l, h)))

some_ones : (us : List ℕ) → 1 ≤ length us → ones us ≢ []
some_ones us h = some_list (ones us) (omega (arith, h, length-map us one))

left_some : (xs ys : List Chunk) → xs ≢ [] → xs ++ ys ≢ []
left_some [] ys n = absurd (n refl)
left_some (x ∷ xs) ys n = λ e. absurd cc

right_some : (xs ys : List Chunk) → ys ≢ [] → xs ++ ys ≢ []
right_some [] ys n = n
right_some (x ∷ xs) ys n = λ e. absurd cc

filled_some : (us : List ℕ) → 1 ≤ length us → 1 ≤ length (filled_bits us)
filled_some us h = (let e = filled_count us in omega (arith, e, h))

-- ---- numbers

unsigned_some : (high : ℤ) (z : ℤ) → 1 ≤ length (unsigned_in (unsigned_octets high) z)
unsigned_some high z = go (int_lt high (pos (2 ^ 8))) (int_lt high (pos (2 ^ 16))) (int_lt high (pos (2 ^ 32))) (int_lt high (pos (2 ^ 64)))
  where
    go : (a b c d : Bool) → 1 ≤ length (unsigned_in (elim a [ true ↦ Some 1 | false ↦ elim b [ true ↦ Some 2 | false ↦ elim c [ true ↦ Some 4 | false ↦ elim d [ true ↦ Some 8 | false ↦ None ] ] ] ]) z)
    go true b c d = (let e = length-digits 256 1 (magnitude_of z) in omega (arith, e))
    go false true c d = (let e = length-digits 256 2 (magnitude_of z) in omega (arith, e))
    go false false true d = (let e = length-digits 256 4 (magnitude_of z) in omega (arith, e))
    go false false false true = (let e = length-digits 256 8 (magnitude_of z) in omega (arith, e))
    go false false false false = some_spelled (least (magnitude_of z))

signed_some : (k : ℕ) (z : ℤ) → length (signed_octets k z) ≡ k
signed_some k (pos n) = length-digits 256 k n
signed_some k (negsuc n) = length-digits 256 k _

signed_in_some : (low high : ℤ) (z : ℤ) → 1 ≤ length (signed_in (signed_size low high) z)
signed_in_some low high z = go (both_in 1 low high) (both_in 2 low high) (both_in 4 low high) (both_in 8 low high)
  where
    go : (a b c d : Bool) → 1 ≤ length (signed_in (elim a [ true ↦ Some 1 | false ↦ elim b [ true ↦ Some 2 | false ↦ elim c [ true ↦ Some 4 | false ↦ elim d [ true ↦ Some 8 | false ↦ None ] ] ] ]) z)
    go true b c d = (let e = signed_some 1 z in omega (arith, e))
    go false true c d = (let e = signed_some 2 z in omega (arith, e))
    go false false true d = (let e = signed_some 4 z in omega (arith, e))
    go false false false true = (let e = signed_some 8 z in omega (arith, e))
    go false false false false = some_spelled (least_signed z)

ranged_some : (low high : Option ℤ) (z : ℤ) → 1 ≤ length (ranged low high z)
ranged_some (Some (pos low)) (Some high) z = unsigned_some high z
ranged_some (Some (pos low)) None z = some_spelled (least (magnitude_of z))
ranged_some (Some (negsuc low)) (Some high) z = signed_in_some (negsuc low) high z
ranged_some (Some (negsuc low)) None z = some_spelled (least_signed z)
ranged_some None high z = some_spelled (least_signed z)

number_some : (b : Range) (z : ℤ) → 1 ≤ length (whole_number b z)
number_some b z = go b.extensible
  where
    go : (e : Bool) → 1 ≤ length {A = ℕ} (elim e [ true ↦ counted_signed z | false ↦ ranged b.low b.high z ])
    go true = some_spelled (least_signed z)
    go false = ranged_some b.low b.high z

item_some : (z : ℤ) → 1 ≤ length (item_number z)
item_some z = go (int_le (pos 0) z && int_lt z (pos 128))
  where
    go : (e : Bool) → 1 ≤ length {A = ℕ} (elim e [ true ↦ magnitude_of z ∷ [] | false ↦ (128 + length (least_signed z)) ∷ least_signed z ])
    go true = omega arith
    go false = omega arith

-- ---- strings

-- a fixed size that is not 0
fixed_some : (s : SizeRange) (n : ℕ) → is_fixed_size s ≡ true → is_zero_size s ≡ false → IsTrue (s.extensible || in_size s n) → 1 ≤ n
fixed_some s n f z h = go s.extensible s.high f z h
  where
    not_zero : (l : ℕ) → ((l == 0) && (l == 0)) ≡ false → 1 ≤ l
    not_zero zero e = absurd (true≢false e)
    not_zero (suc l) e = omega arith

    go : (e : Bool) (high : Option ℕ) → is_fixed_size (record { low = s.low; high = high; extensible = e }) ≡ true → is_zero_size (record { low = s.low; high = high; extensible = e }) ≡ false
        → IsTrue (e || in_size (record { low = s.low; high = high; extensible = e }) n) → 1 ≤ n
    go true high f z h = absurd (true≢false (sym f))
    go false None f z h = absurd (true≢false (sym f))
    go false (Some top) f z h =
        let same : s.low ≡ top = eqb-true s.low top f in
        let some : 1 ≤ s.low = not_zero s.low (subst (λ (t : ℕ). ((s.low == 0) && (t == 0)) ≡ false) (sym same) z) in
        let least : s.low ≤ n = leb-true s.low n (and_parts (nat_le s.low n) _ h).0 in
        omega (arith, some, least)

bits_some : (s : SizeRange) (bs : List ℕ) → is_zero_size s ≡ false → IsTrue (s.extensible || in_size s (length bs)) → 1 ≤ length (bit_octets s bs)
bits_some s bs z h = go (is_fixed_size s) refl
  where
    go : (f : Bool) → is_fixed_size s ≡ f → 1 ≤ length {A = ℕ} (elim f [ true ↦ filled_bits bs | false ↦ variable_bits bs ])
    go true e = filled_some bs (fixed_some s (length bs) e z h)
    go false e = some_spelled (length (padding (length bs)) ∷ filled_bits bs)

sized_some : (s : SizeRange) (os : List ℕ) → is_zero_size s ≡ false → IsTrue (s.extensible || in_size s (length os)) → 1 ≤ length (sized_octets s os)
sized_some s os z h = go (is_fixed_size s) refl
  where
    go : (f : Bool) → is_fixed_size s ≡ f → 1 ≤ length {A = ℕ} (elim f [ true ↦ os | false ↦ spelled os ])
    go true e = fixed_some s (length os) e z h
    go false e = some_spelled os

-- ---- all types

either_false : (a b : Bool) → (a && b) ≡ false → (a ≡ false) ⊎ (b ≡ false)
either_false true b h = inr h
either_false false b h = inl refl

tag_some : (n : ℕ) → 1 ≤ length (tag n)
tag_some n = go (nat_lt n 63)
  where
    go : (e : Bool) → 1 ≤ length {A = ℕ} (elim e [ true ↦ (128 + n) ∷ [] | false ↦ 191 ∷ base_128 n ])
    go true = omega arith
    go false = omega arith

-- a SEQUENCE with a presence bit, an extension bit or a component that is spelt
sequence_some : (root : Fields) (more : MoreFields) (v : Datum) → InProfile (sequence root more) → Fits (sequence root more) v
    → (no_more_bits more ≡ false) ⊎ ((0 < bitmap_length root) ⊎ ((bs : List ℕ) (es : List (Option Datum)) (cs : List Chunk) → Listed oer root bs es cs → cs ≢ [])) → oer (sequence root more) v ≢ []
unfolding oer_coding oer_ruling
sequence_some root more v good f some =
    let x = (oer_laws.sequences root more good).from v (oer (sequence root more) v) (record { fits = (f, tt); same = refl }) in
    let t = x.spelt in
    let u = t.follows in
    let p = x.source.0 in
    let n = bitmap_length root in
    let front : (1 ≤ length (extension_bit (is_some (added more)) p.0 ++ bits n p.1)) → oer (sequence root more) v ≢ [] = λ l.
    subst (λ (cs : List Chunk). cs ≢ []) (sym t.whole) (left_some t.first t.second (subst (λ (cs : List Chunk). cs ≢ []) (sym t.spelt.same) (some_ones _ (filled_some _ l)))) in
    ⊎_elim
    (λ m. front (by_mark more m p.0 (bits n p.1)))
    (λ w. ⊎_elim
    (λ b. front (let l = length-append (extension_bit (is_some (added more)) p.0) (bits n p.1) in let d = length-digits 2 n p.1 in omega (arith, l, d, b)))
    (λ g. subst (λ (cs : List Chunk). cs ≢ []) (sym t.whole) (right_some t.first t.second (subst (λ (cs : List Chunk). cs ≢ []) (sym u.whole) (left_some u.first u.second (g (bits n p.1) x.source.1.0 u.first u.spelt)))))
    w)
    some
  where
    by_mark : (more : MoreFields) → no_more_bits more ≡ false → (e : Bool) (bs : List ℕ) → 1 ≤ length (extension_bit (is_some (added more)) e ++ bs)
    by_mark closed m e bs = absurd (true≢false m)
    by_mark (marked fs) m e bs = omega arith

mutual
  not_empty : (t : Shape) → InProfile t → no_bits t ≡ false → (v : Datum) → Fits t v → oer t v ≢ []
  not_empty boolean good n (truth b) f = λ e. absurd cc
  not_empty boolean good n _ f = absurd f
  not_empty null good n v f = absurd (true≢false n)
  not_empty (integer r) good n (number z) f = some_ones (whole_number r z) (number_some r z)
  not_empty (integer r) good n _ f = absurd f
  not_empty (enumerated root more) good n (item p) f = some_ones _ (item_some (number_at (root ++ more_labels more) p))
  not_empty (enumerated root more) good n _ f = absurd f
  not_empty (bit_string s) good n (bit_list bs) f =
      some_ones _ (bits_some s (map bit_of bs) n (subst (λ (k : ℕ). IsTrue (s.extensible || in_size s k)) (sym (length-map bs bit_of)) f.1))
  not_empty (bit_string s) good n _ f = absurd f
  not_empty (octet_string s) good n (octet_list os) f = some_ones _ (sized_some s os n f.0.1)
  not_empty (octet_string s) good n _ f = absurd f
  not_empty (restricted k s) good n (characters cs) f = some_ones _ (sized_some s cs n f.0.1)
  not_empty (restricted k s) good n _ f = absurd f
  not_empty utf8_string good n (unicode os) f = λ e. absurd cc
  not_empty utf8_string good n _ f = absurd f
  not_empty (sequence root more) good n v f =
      sequence_some root more v good f (⊎_elim (λ x. inr (some_parts root (components_of_profile root more good) x)) (λ x. inl x) (either_false (no_field_bits root) (no_more_bits more) n))
  not_empty (sequence_of t s) good n (elements ds) f =
      let os = spelled (least (length (element_list ds))) in
      left_some (ones os) (joined (map (λ e. oer t e) (element_list ds))) (some_ones os (some_spelled (least (length (element_list ds)))))
  not_empty (sequence_of t s) good n _ f = absurd f
  not_empty (choice root more) good n (alternative i d) f =
      left_some (ones (tag i)) (elim (nat_lt i (count root)) [ true ↦ oer_alternative root i d | false ↦ oer_more more (i - count root) d ]) (some_ones (tag i) (tag_some i))
  not_empty (choice root more) good n _ f = absurd f

  some_parts : (fs : Fields) → AreOfProfile fs → no_field_bits fs ≡ false → (0 < bitmap_length fs) ⊎ ((bs : List ℕ) (es : List (Option Datum)) (cs : List Chunk) → Listed oer fs bs es cs → cs ≢ [])
  some_parts no_fields good n = absurd (true≢false n)
  some_parts (field name must t fs) good n = ⊎_elim
      (λ x. inr (λ bs es cs h.
      (let t2 = h.spelt in
      let w = t2.spelt.spelt in
      subst (λ (ds : List Chunk). ds ≢ []) (sym t2.whole) (left_some t2.first t2.second (subst (λ (ds : List Chunk). ds ≢ []) (sym w.same) (not_empty t good.0 x t2.spelt.source w.fits.0))))))
      (λ x. ⊎_elim
      (λ l. inl l)
      (λ g. inr (λ bs es cs h.
      (let t2 = h.spelt in
      subst (λ (ds : List Chunk). ds ≢ []) (sym t2.whole) (right_some t2.first t2.second (g bs h.source.1 t2.second t2.follows)))))
      (some_parts fs good.2 x))
      (either_false (no_bits t) (no_field_bits fs) n)
  some_parts (field name optional t fs) good n = inl (omega arith)
  some_parts (field name (default d) t fs) good n = inl (omega arith)

element_octets : (t : Shape) (s : SizeRange) → InProfile (sequence_of t s) → (v : Datum) × Fits t v × (oer t v ≢ [])
element_octets t s good =
    let inside = element_of_profile t s good in
    let v = some_value t (inside EmptyRange) (inside SizeTooLarge) in
    let n : no_bits t ≡ false = left_false (zero_width_element (sequence_of t s)) (somewhere zero_width_element t) (good ZeroWidthElement) in
    (v.0, v.1, not_empty t inside n v.0 v.1)

-- ---- items of strings

spelled_long : (os : List ℕ) → length os ≤ length (spelled os)
spelled_long os = (let l = length-append (octet_length (length os)) os in omega (arith, l))

bits_many : (s : SizeRange) (bs : List ℕ) → length bs ≤ 8 * length (bit_octets s bs)
bits_many s bs = go (is_fixed_size s)
  where
    go : (f : Bool) → length bs ≤ 8 * length {A = ℕ} (elim f [ true ↦ filled_bits bs | false ↦ variable_bits bs ])
    go true = (let e = filled_count bs in omega (arith, e))
    go false = (let e = filled_count bs in let l = spelled_long (length (padding (length bs)) ∷ filled_bits bs) in omega (arith, e, l))

sized_many : (s : SizeRange) (os : List ℕ) → length os ≤ 8 * length (sized_octets s os)
sized_many s os = go (is_fixed_size s)
  where
    go : (f : Bool) → length os ≤ 8 * length {A = ℕ} (elim f [ true ↦ os | false ↦ spelled os ])
    go true = omega arith
    go false = (let l = spelled_long os in omega (arith, l))

string_bits : (t : Shape) → IsString t → (v : Datum) → Fits t v → cells v ≤ suc (8 * length (flat spelled (oer t v)))
string_bits (bit_string s) h (bit_list bs) f =
    let us = bit_octets s (map bit_of bs) in
    let l = ap length (flat-ones spelled us) in
    let m = bits_many s (map bit_of bs) in
    let n = length-map bs bit_of in
    omega (arith, l, m, n)
string_bits (bit_string s) h _ f = absurd f
string_bits (octet_string s) h (octet_list os) f = (let l = ap length (flat-ones spelled (sized_octets s os)) in let m = sized_many s os in omega (arith, l, m))
string_bits (octet_string s) h _ f = absurd f
string_bits (restricted k s) h (characters cs) f = (let l = ap length (flat-ones spelled (sized_octets s cs)) in let m = sized_many s cs in omega (arith, l, m))
string_bits (restricted k s) h _ f = absurd f
string_bits utf8_string h (unicode os) f = (let l = length-append (spelled os) [] in let m = spelled_long os in omega (arith, l, m))
string_bits utf8_string h _ f = absurd f
string_bits _ h v f = absurd h

-- ---- items, one by one

plain_count : (b k : ℕ) (S : ℕ → Type 0) (n : ℕ) (cs : List Chunk) → Plain (InDigits b k S) n cs → length (flat spelled cs) ≡ k
plain_count b k S n cs h = ap (λ (ds : List Chunk). length (flat spelled ds)) h.same ∙ ap length (flat-ones spelled h.units) ∙ h.spelt.digits.count

item_units : (t : Shape) → IsString t → (o : ℕ) (cs : List Chunk) → (string_items t).octet o cs → 1 ≤ 1 * length (flat spelled cs)
item_units (bit_string s) i o cs h = (let e = plain_count 256 1 _ o cs h in omega (arith, e))
item_units (octet_string s) i o cs h = (let e = plain_count 256 1 _ o cs h in omega (arith, e))
item_units (restricted k s) i o cs h = (let e = plain_count 256 1 _ o cs h in omega (arith, e))
item_units utf8_string i o cs h = (let e = plain_count 256 1 _ o cs h in omega (arith, e))
item_units _ i o cs h = absurd i

-- none stands before the first length, but the number of unused bits
first_units : (t : Shape) → IsString t → (vs : List ℕ) (cs : List Chunk) → FirstOf (string_items t) vs cs → total (λ (o : ℕ). 1) vs ≤ 1 * length (flat spelled cs)
first_units (bit_string s) i vs cs h = go (is_fixed_size s) refl h.0 h.1
  where
    go : (f : Bool) → is_fixed_size s ≡ f → (a : Ahead) → BitsStart s (vs, a) cs → total (λ (o : ℕ). 1) vs ≤ 1 * length (flat spelled cs)
    go true b a y =
        let x : InFront (Nothing (filled_octets s.low)) (vs, a) cs = rw (b, BitsStart) at y in
        let e : vs ≡ [] = ap (λ (p : List ℕ × Ahead). p.0) x.seen in
        rw e (omega arith)
    go false b a y =
        let x : AfterUnused (FitsLength s) (vs, a) cs = rw (b, BitsStart) at y in
        let e : vs ≡ x.source.1 ∷ [] = ap (λ (p : List ℕ × Ahead). p.0) x.seen in
        let t2 = x.spelt in
        let units : length (flat spelled cs) ≡ length (flat spelled t2.first) + length (flat spelled t2.second) =
        ap (λ (ds : List Chunk). length (flat spelled ds)) t2.whole ∙ ap length (flat-append spelled t2.first t2.second) ∙ length-append (flat spelled t2.first) (flat spelled t2.second) in
        let last = plain_count 256 1 _ x.source.1 t2.second t2.follows in
        rw e (omega (arith, units, last))
first_units (octet_string s) i vs cs h = (let e : vs ≡ [] = ap (λ (p : List ℕ × Ahead). p.0) h.1.seen in rw e (omega arith))
first_units (restricted k s) i vs cs h = (let e : vs ≡ [] = ap (λ (p : List ℕ × Ahead). p.0) h.1.seen in rw e (omega arith))
first_units utf8_string i vs cs h = (let e : vs ≡ [] = ap (λ (p : List ℕ × Ahead). p.0) h.1.seen in rw e (omega arith))
first_units _ i vs cs h = absurd i

pub oer_hold_laws : HoldLaws oer_coding oer_parts
unfolding oer_coding oer_ruling
oer_hold_laws = record {
  octet_bits = refl;
  element = element_octets;
  string = λ t good i v cs h. subst (λ (ds : List Chunk). cells v ≤ suc (8 * length (flat spelled ds))) (sym h.same) (string_bits t i v h.fits.0);
  item = λ t good i o cs h. item_units t i o cs h;
  first = λ t good i vs cs h. first_units t i vs cs h;
  octet = λ o cs h. (let e = plain_count 256 1 _ o cs h in omega (arith, e));
}

pub oer_cells : CellsAreFew oer_ruling
unfolding oer_coding
oer_cells t v o good e = cells_within oer_coding oer_laws oer_parts oer_hold_laws t v o good e
