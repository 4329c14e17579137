-- The parts of OER keep the laws of the walk.
use Rattle.std.proofs.Common.{◌≡◌, ◌≢◌, ◌+◌, ◌*◌, ◌≤◌, ◌<◌, ◌^◌, ◌⊎◌, inl, inr, ⊎_elim, ℕ, suc, Bool, true, false, List, [], ◌∷◌, ◌++◌, length, Option, None, Some, is_some, refl, sym, ap, ◌∙◌, subst, arith}
use Rattle.std.proofs.lemmas.Bool.{cases_eq}
use Rattle.std.proofs.lemmas.List.{append_cancel_left, length-append}
use Rattle.asn_values.specs.Shape.{Shape, SizeRange, sequence_of}
use Rattle.asn_values.specs.Fits.{FitsLength}
use Rattle.asn_values.specs.Profile.{InProfile}
use Rattle.asn_bits.specs.Numbers.{bits, octet_count, padding, unpacked}
use Rattle.asn_bits.proofs.Digits.{digits_code}
use Rattle.asn_bits.proofs.FilledBits.{AreBits, filled_up, filled_up_fills, filled_up_code, length-packed, length-padding}
use Rattle.asn_bits.proofs.Octets.{length-digits}
use Rattle.asn_bits.proofs.Splits.{length-unpacked}
use Rattle.asn_bits.proofs.Weights.{are_digits}
use Rattle.asn_rules.specs.Chunks.{Chunk, ones}
use Rattle.asn_rules.specs.Components.{bit_of, extension_bit}
use Rattle.asn_rules.specs.Counted.{Least, Counted, number_of}
use Rattle.asn_rules.specs.Forks.{Same}
use Rattle.asn_rules.specs.General.{after_first}
use Rattle.asn_rules.specs.Languages.{Lawful, Then, Map, Row}
use Rattle.asn_rules.specs.Laws.{AreOctets, WholesTell}
use Rattle.asn_rules.specs.Listed.{Spelt}
use Rattle.asn_rules.specs.Padding.{Padded}
use Rattle.asn_rules.specs.Parted.{Parted, SpellingsPart}
use Rattle.asn_rules.specs.Reading.{Wholes, RulesTell}
use Rattle.asn_rules.specs.Spellings.{SpelledBy}
use Rattle.asn_rules.proofs.Numbers.CountedCodes.{counted_lawful}
use Rattle.asn_rules.proofs.Languages.Forks.{map_lawful_on, map_map}
use Rattle.asn_rules.proofs.Languages.Parts.{map_lawful}
use Rattle.asn_rules.proofs.Languages.Spellings.{spelled_lawful, same_after, same_map, same_then, same_row, same_spelled, padded_spelled}
use Rattle.asn_rules.specs.Filled.{filled_bits}
use Rattle.asn_rules.proofs.Octets.Octetwise.{packed_again}
use Rattle.std.proofs.lemmas.List.{append-nil}
use Rattle.asn_walk.specs.Ahead.{Ahead, items, SomeAhead, Remaining}
use Rattle.asn_walk.specs.Coding.{ListsOf, GoodPreamble, PreambleOf, AdditionBitmapOf, IsIndexWithin, AreFew, IndexOf}
use Rattle.asn_walk.specs.Laws.{Laws, IsSizeOfProfile}
use Rattle.asn_oer.specs.Constructed.{Quantity}
use Rattle.asn_oer.specs.Oer.{oer, variable_bits, tag}
use Rattle.asn_oer.specs.Rules.{oer_ruling}
use Rattle.asn_oer.specs.Walk.{oer_coding, tag_of}
use Rattle.asn_oer.proofs.Read.IndexReading.{tag_within}
use Rattle.asn_oer.proofs.Law.TagForms.{tags_part}
use Rattle.asn_oer.proofs.Types.ListLanguages.{sequence_of_language}
use Rattle.asn_oer.proofs.Read.PreambleReading.{bitmap_front, bitmap_is}
use Rattle.asn_oer.proofs.Encodings.Tells.{oer_tells}
use Rattle.asn_oer.proofs.Types.LeftOut.{none_left_out}
use Rattle.asn_oer.proofs.Walk.WalkChoices.{walk_choices}
use Rattle.asn_oer.proofs.Walk.WalkSequences.{walk_sequences}
use Rattle.asn_oer.proofs.Encodings.Whole.{oer_part, oer_wholes}

walk_tells : RulesTell oer_coding.ruling
unfolding oer_coding
walk_tells = oer_tells

walk_wholes : WholesTell oer_coding.ruling
unfolding oer_coding
walk_wholes = oer_wholes

walk_part : SpellingsPart oer_coding.code
unfolding oer_coding
walk_part = oer_part

-- octets under a cursor are the units of OER
walk_over : (o : List ℕ) → AreOctets o → oer_coding.to_units (unpacked o) ≡ oer_coding.ruling.units o
unfolding oer_coding oer_ruling
walk_over o h = packed_again o h

walk_count : (o : List ℕ) → length (oer_coding.ruling.units o) ≡ oer_coding.octet_units * length o
unfolding oer_coding oer_ruling
walk_count o = omega arith

walk_some : 1 ≤ oer_coding.octet_units
unfolding oer_coding
walk_some = omega arith

walk_few : oer_coding.octet_units ≤ 8
unfolding oer_coding
walk_few = omega arith

walk_begin : (o : List ℕ) → AreOctets o → oer_coding.at_unit (unpacked o)
unfolding oer_coding
walk_begin o h = omega (arith, length-unpacked o)

-- ---- units of one length

-- they are one or part
units_part : (x y : List ℕ) → length x ≡ length y → (x ≡ y) ⊎ ((x ≢ y) × Parted (ones x) (ones y))
units_part [] [] e = inl refl
units_part [] (b ∷ y) e = absurd (omega (arith, e))
units_part (a ∷ x) [] e = absurd (omega (arith, e))
units_part (a ∷ x) (b ∷ y) e = ⊎_elim
    (λ f. ⊎_elim (λ g. inl (ap (λ (n : ℕ). n ∷ x) f ∙ ap (λ (l : List ℕ). b ∷ l) g)) (λ g. inr (λ h. g.0 (tails h), inr (f, g.1))) (units_part x y (omega (arith, e))))
    (λ n. inr (λ h. n (heads h), inl n))
    (cases_eq a b)
  where
    tails : {u v : ℕ} {us vs : List ℕ} → u ∷ us ≡ v ∷ vs → us ≡ vs
    tails h = cc

    heads : {u v : ℕ} {us vs : List ℕ} → u ∷ us ≡ v ∷ vs → u ≡ v
    heads h = cc

-- values that are spelt so, and are told by their units
fixed_lawful : {V : Type 0} {P : V → Type 0} (f : V → List ℕ) → ((v w : V) → P v → P w → length (f v) ≡ length (f w)) → ((v w : V) → P v → P w → f v ≡ f w → v ≡ w) → Lawful (SpelledBy P (λ v. ones (f v)))
fixed_lawful f count tell = spelled_lawful (λ v w a b.
    ⊎_elim
    (λ e. inl (tell v w a b e, ap ones e))
    (λ h. inr (λ e. h.0 (ap f e), h.1))
    (units_part (f v) (f w) (count v w a b)))

-- ---- the preamble

bits_tell : (n m k : ℕ) → m < 2 ^ n → k < 2 ^ n → bits n m ≡ bits n k → m ≡ k
bits_tell n m k f g e = (digits_code 2 (omega arith) n m k [] [] f g (ap (λ (l : List ℕ). l ++ []) e)).0

-- bits that are filled up tell the bits
filled_length : (bs cs : List ℕ) → length bs ≡ length cs → length (filled_bits bs) ≡ length (filled_bits cs)
filled_length bs cs e =
    omega (arith, e, length-packed (filled_up bs) (filled_up_fills bs), length-packed (filled_up cs) (filled_up_fills cs), length-append bs (padding (length bs)), length-append cs (padding (length cs)), length-padding (length bs), length-padding (length cs))

filled_tell : (bs cs : List ℕ) → AreBits bs → AreBits cs → length bs ≡ length cs → filled_bits bs ≡ filled_bits cs → bs ≡ cs
filled_tell bs cs p q l e = (filled_up_code bs cs [] [] p q l (ap (λ (o : List ℕ). o ++ []) e)).0

walk_preamble : (n : ℕ) (more : Option ℕ) → Lawful (PreambleOf oer_coding n more)
unfolding oer_coding
walk_preamble n more = fixed_lawful (λ p. filled_bits (front more p)) (λ p q a b. filled_length (front more p) (front more q) (counts more p q)) (λ p q a b e. tell more p q a b (filled_tell (front more p) (front more q) (are more p) (are more q) (counts more p q) e))
  where
    front : Option ℕ → Bool × ℕ → List ℕ
    front more p = extension_bit (is_some more) p.0 ++ bits n p.1

    bit_below : (b : Bool) → bit_of b < 2
    bit_below true = omega arith
    bit_below false = omega arith

    bit_same : (a b : Bool) → bit_of a ≡ bit_of b → a ≡ b
    bit_same true true e = refl
    bit_same false false e = refl
    bit_same true false e = absurd (omega (arith, e))
    bit_same false true e = absurd (omega (arith, e))

    closed_false : (b : Bool) → (b ≡ true → ⊥) → b ≡ false
    closed_false true h = absurd (h refl)
    closed_false false h = refl

    are : (more : Option ℕ) (p : Bool × ℕ) → AreBits (front more p)
    are None p = are_digits 2 n p.1 (omega arith)
    are (Some k) p = (bit_below p.0, are_digits 2 n p.1 (omega arith))

    counts : (more : Option ℕ) (p q : Bool × ℕ) → length (front more p) ≡ length (front more q)
    counts None p q = length-digits 2 n p.1 ∙ sym (length-digits 2 n q.1)
    counts (Some k) p q = ap suc (length-digits 2 n p.1 ∙ sym (length-digits 2 n q.1))

    tell : (more : Option ℕ) (p q : Bool × ℕ) → GoodPreamble n more p → GoodPreamble n more q → front more p ≡ front more q → p ≡ q
    tell None (b, m) (c, k) f g e =
        let s : m ≡ k = bits_tell n m k f.0 g.0 e in
        let t : b ≡ c = closed_false b f.1 ∙ sym (closed_false c g.1) in
        cc
    tell (Some x) (b, m) (c, k) f g e =
        let r : bits n m ≡ bits n k = cc in
        let d : bit_of b ≡ bit_of c = cc in
        let s : m ≡ k = bits_tell n m k f.0 g.0 r in
        let t : b ≡ c = bit_same b c d in
        cc

-- ---- presence bits of additions

walk_addition_bitmap : (n : ℕ) → Lawful (AdditionBitmapOf oer_coding n)
unfolding oer_coding
walk_addition_bitmap n = fixed_lawful (λ m. variable_bits (bits n m)) count tell
  where
    same : (m k : ℕ) → length (bits n m) ≡ length (bits n k)
    same m k = length-digits 2 n m ∙ sym (length-digits 2 n k)

    count : (m k : ℕ) → (0 < m) × (m < 2 ^ n) → (0 < k) × (k < 2 ^ n) → length (variable_bits (bits n m)) ≡ length (variable_bits (bits n k))
    count m k f g =
        let p = bitmap_front n in
        ap length (bitmap_is n m) ∙ length-append p (filled_bits (bits n m)) ∙ ap (λ (i : ℕ). length p + i) (filled_length (bits n m) (bits n k) (same m k)) ∙ sym (length-append p (filled_bits (bits n k))) ∙ sym (ap length (bitmap_is n k))

    tell : (m k : ℕ) → (0 < m) × (m < 2 ^ n) → (0 < k) × (k < 2 ^ n) → variable_bits (bits n m) ≡ variable_bits (bits n k) → m ≡ k
    tell m k f g e =
        let h = append_cancel_left (bitmap_front n) (filled_bits (bits n m)) (filled_bits (bits n k)) (sym (bitmap_is n m) ∙ e ∙ bitmap_is n k) in
        bits_tell n m k f.1 g.1 (filled_tell (bits n m) (bits n k) (are_digits 2 n m (omega arith)) (are_digits 2 n k (omega arith)) (same m k) h)

-- ---- tags

walk_index : (root : ℕ) (more : Option ℕ) → AreFew root more → Lawful (IndexOf oer_coding root more)
unfolding oer_coding
walk_index root more few = spelled_lawful (λ i j f g.
    ⊎_elim
    (λ e. inl (one more i j f g e, ap (λ (t : ℕ). ones (tag t)) e))
    (λ n. inr (λ e. n (ap (tag_of root) e), tags_part (tag_of root i) (tag_of root j) (below i f) (below j g) n))
    (cases_eq (tag_of root i) (tag_of root j)))
  where
    below : (i : ℕ ⊎ ℕ) → IsIndexWithin root more i → tag_of root i < 16384
    below i h = (let w = tag_within root more i few h in omega (arith, w.0, w.1))

    one : (more : Option ℕ) (i j : ℕ ⊎ ℕ) → IsIndexWithin root more i → IsIndexWithin root more j → tag_of root i ≡ tag_of root j → i ≡ j
    one more (inl n) (inl m) f g e = ap inl e
    one more (inr n) (inr m) f g e = ap inr (omega (arith, e))
    one None (inl n) (inr m) f g e = absurd g
    one None (inr n) (inl m) f g e = absurd f
    one (Some k) (inl n) (inr m) f g e = absurd (omega (arith, f, e))
    one (Some k) (inr n) (inl m) f g e = absurd (omega (arith, g, e))

-- ---- SEQUENCE OF

-- two quantities are one or part
pub quantity_lawful : (S : ℕ → Type 0) → Lawful (Quantity S)
quantity_lawful S = map_lawful_on once (counted_lawful 256 1 (Least S))
  where
    once : (a b : ℕ × ℕ) (x y : List Chunk) → Counted 256 1 (Least S) a x → Counted 256 1 (Least S) b y → number_of a ≡ number_of b → a ≡ b
    once a b x y p q e =
        let f : a.0 ≡ b.0 = sym p.follows.spelt.member.count ∙ ap octet_count e ∙ q.follows.spelt.member.count in
        λ i. (f i, e i)

walk_list_start : (s : SizeRange) → IsSizeOfProfile s → Lawful (oer_coding.list_start s)
unfolding oer_coding
walk_list_start s good = map_lawful (λ a b e. cc) (quantity_lawful (FitsLength s))

walk_list_ahead : (s : SizeRange) → IsSizeOfProfile s → (a : Ahead) (cs : List Chunk) → oer_coding.list_start s a cs → SomeAhead a
unfolding oer_coding
walk_list_ahead s good a cs h = subst SomeAhead (sym h.seen) tt

-- the elements after their quantity
rows_after : {A : Type 0} (L : A → List Chunk → Type 0) (S : ℕ → Type 0) → Same (Map after_first (Then (Map items (Quantity S)) (λ a. Remaining L a))) (Map after_first (Then (Quantity S) (λ n. Row L n)))
rows_after {A} L S = record {
  to = λ v cs h.
      let t = h.spelt in
      record { source = (t.spelt.source, h.source.1); spelt = record { first = t.first; second = t.second; spelt = t.spelt.spelt; follows = subst (λ (a : Ahead). Remaining L a h.source.1 t.second) t.spelt.seen t.follows; whole = t.whole }; seen = h.seen };
  from = λ v cs h.
      let t = h.spelt in
      record { source = (items h.source.0, h.source.1); spelt = record { first = t.first; second = t.second; spelt = record { source = h.source.0; spelt = t.spelt; seen = refl }; follows = t.follows; whole = t.whole }; seen = h.seen };
}

walk_lists : (t : Shape) (s : SizeRange) → InProfile (sequence_of t s) → Same (ListsOf oer_coding t s) (Spelt oer_coding.code None (sequence_of t s))
unfolding oer_coding
walk_lists t s good =
    same_after (same_map (rows_after (Spelt oer None t) (FitsLength s)))
    (same_after (map_map (λ a. refl))
    (same_after (same_map (same_then (record { to = λ v cs h. h; from = λ v cs h. h }) (λ n. same_row (record { to = (none_left_out t).from; from = (none_left_out t).to }) n)))
    (same_after (sequence_of_language t s) (none_left_out (sequence_of t s)))))

-- ---- complete encodings

walk_filled : (t : Shape) → InProfile t → Same (Padded oer_coding.ruling.fielding oer_coding.padding (Spelt oer_coding.code None t)) (Wholes oer_coding.ruling t)
unfolding oer_coding oer_ruling
walk_filled t good = same_after (padded_spelled oer_ruling.fielding (λ n. [])) (same_spelled (λ v h. h.0) (λ v h. (h, tt)) (λ v h. append-nil (oer t v)))

-- all of them
pub oer_laws : Laws oer_coding
oer_laws = record {
  tells = walk_tells;
  wholes = walk_wholes;
  part = walk_part;
  over = walk_over;
  count = walk_count;
  some = walk_some;
  few = walk_few;
  begin = walk_begin;
  preamble = walk_preamble;
  addition_bitmap = walk_addition_bitmap;
  index = walk_index;
  list_start = walk_list_start;
  list_ahead = walk_list_ahead;
  sequences = walk_sequences;
  lists = walk_lists;
  choices = walk_choices;
  filled = walk_filled;
}
