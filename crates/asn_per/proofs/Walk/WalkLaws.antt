-- The parts of PER keep the laws of the walk.
use Rattle.std.proofs.Common.{◌≡◌, ◌≢◌, ◌+◌, ◌*◌, ◌≤◌, ◌^◌, ◌<◌, ◌⊎◌, inl, inr, ⊎_elim, ℕ, suc, Bool, true, false, List, [], ◌∷◌, ◌++◌, length, Option, None, Some, is_some, refl, sym, ap, ◌∙◌, arith}
use Rattle.std.proofs.lemmas.Bool.{cases_eq}
use Rattle.std.proofs.lemmas.List.{append_cancel_left, length-append}
use Rattle.asn_values.specs.Shape.{Shape, SizeRange, sequence_of}
use Rattle.asn_values.specs.Profile.{InProfile}
use Rattle.asn_rules.specs.Forks.{Same}
use Rattle.asn_rules.specs.Languages.{Lawful}
use Rattle.asn_rules.specs.Listed.{Spelt}
use Rattle.asn_rules.specs.Padding.{Padded}
use Rattle.asn_rules.specs.Parted.{Parted, SpellingsPart}
use Rattle.asn_rules.specs.Reading.{Wholes, RulesTell}
use Rattle.asn_rules.specs.Laws.{AreOctets, WholesTell}
use Rattle.asn_rules.proofs.Languages.Forks.{same_flip}
use Rattle.asn_rules.proofs.Languages.Spellings.{same_after, same_map}
use Rattle.asn_rules.specs.Chunks.{Chunk, ones}
use Rattle.asn_rules.proofs.Languages.Spellings.{spelled_lawful}
use Rattle.asn_walk.specs.Ahead.{Ahead, SomeAhead}
use Rattle.asn_walk.specs.Coding.{ListsOf, GoodPreamble, PreambleOf, AdditionBitmapOf}
use Rattle.asn_bits.specs.Numbers.{bits, unpacked}
use Rattle.asn_bits.specs.Sink.{bit_of}
use Rattle.asn_bits.proofs.Digits.{digits_code}
use Rattle.asn_bits.proofs.Octets.{length-digits}
use Rattle.asn_bits.proofs.Splits.{length-unpacked}
use Rattle.asn_rules.specs.Components.{extension_bit}
use Rattle.asn_per.specs.Rules.{per_ruling}
use Rattle.asn_walk.specs.Laws.{Laws, IsSizeOfProfile}
use Rattle.asn_per.specs.Walk.{per_coding}
use Rattle.asn_per.specs.Per.{per, small_length}
use Rattle.asn_per.proofs.Types.LeftOut.{none_left_out}
use Rattle.asn_per.proofs.Types.ListLanguages.{lists_compose}
use Rattle.asn_walk.proofs.Listing.{list_size}
use Rattle.asn_per.proofs.Read.ListsAhead.{start_lawful, start_some, sized_ahead}
use Rattle.asn_per.proofs.Read.Messages.{message_language}
use Rattle.asn_per.proofs.Types.SizedLists.{same_sized}
use Rattle.asn_per.proofs.Encodings.Tells.{per_tells}
use Rattle.asn_per.proofs.Walk.WalkChoices.{walk_index, walk_choices}
use Rattle.asn_per.proofs.Walk.WalkSequences.{walk_sequences}
use Rattle.asn_per.proofs.Encodings.Whole.{per_parts, per_wholes}

pub walk_tells : RulesTell per_coding.ruling
unfolding per_coding
walk_tells = per_tells

pub walk_wholes : WholesTell per_coding.ruling
unfolding per_coding
walk_wholes = per_wholes

pub walk_part : SpellingsPart per_coding.code
unfolding per_coding
walk_part = per_parts

pub walk_list_start : (s : SizeRange) → IsSizeOfProfile s → Lawful (per_coding.list_start s)
unfolding per_coding
walk_list_start s good = start_lawful s good

-- SEQUENCE OF, as the walk puts it together
pub walk_lists : (t : Shape) (s : SizeRange) → InProfile (sequence_of t s) → Same (ListsOf per_coding t s) (Spelt per_coding.code None (sequence_of t s))
unfolding per_coding
walk_lists t s good =
    same_after (same_map (sized_ahead (Spelt per None t) s (list_size t s good)))
    (same_after (same_map (same_sized (same_flip (none_left_out t)) s)) (same_after (lists_compose t s good) (none_left_out (sequence_of t s))))

-- what fills up a message
pub walk_filled : (t : Shape) → InProfile t → Same (Padded per_coding.ruling.fielding per_coding.padding (Spelt per_coding.code None t)) (Wholes per_coding.ruling t)
unfolding per_coding per_ruling
walk_filled t good = message_language t

-- units of one length are one or part
units_part : (x y : List ℕ) → length x ≡ length y → (x ≡ y) ⊎ ((x ≢ y) × Parted (ones x) (ones y))
units_part [] [] e = inl refl
units_part [] (b ∷ y) e = absurd (omega (arith, e))
units_part (a ∷ x) [] e = absurd (omega (arith, e))
units_part (a ∷ x) (b ∷ y) e = ⊎_elim
    (λ f. ⊎_elim (λ g. inl (ap (λ (n : ℕ). n ∷ x) f ∙ ap (λ (l : List ℕ). b ∷ l) g)) (λ g. inr (λ h. g.0 (tails h), inr (f, g.1))) (units_part x y (omega (arith, e))))
    (λ n. inr (λ h. n (heads h), inl n))
    (cases_eq a b)
  where
    tails : {u v : ℕ} {us vs : List ℕ} → u ∷ us ≡ v ∷ vs → us ≡ vs
    tails h = cc

    heads : {u v : ℕ} {us vs : List ℕ} → u ∷ us ≡ v ∷ vs → u ≡ v
    heads h = cc

-- some list is ahead after what stands in front
pub walk_list_ahead : (s : SizeRange) → IsSizeOfProfile s → (a : Ahead) (cs : List Chunk) → per_coding.list_start s a cs → SomeAhead a
unfolding per_coding
walk_list_ahead s good a cs h = start_some s good a cs h

-- bits tell their number
bits_tell : (n m k : ℕ) → m < 2 ^ n → k < 2 ^ n → bits n m ≡ bits n k → m ≡ k
bits_tell n m k f g e = (digits_code 2 (omega arith) n m k [] [] f g (ap (λ (l : List ℕ). l ++ []) e)).0

-- the extension bit and the presence bits
pub walk_preamble : (n : ℕ) (more : Option ℕ) → Lawful (PreambleOf per_coding n more)
unfolding per_coding
walk_preamble n more = spelled_lawful (λ p q a b. go more p q a b)
  where
    units : Option ℕ → Bool × ℕ → List ℕ
    units more p = extension_bit (is_some more) p.0 ++ bits n p.1

    closed_false : (b : Bool) → (b ≡ true → ⊥) → b ≡ false
    closed_false true h = absurd (h refl)
    closed_false false h = refl

    bit_same : (a b : Bool) → bit_of a ≡ bit_of b → a ≡ b
    bit_same true true e = refl
    bit_same false false e = refl
    bit_same true false e = absurd (omega (arith, e))
    bit_same false true e = absurd (omega (arith, e))

    counts : (more : Option ℕ) (p q : Bool × ℕ) → length (units more p) ≡ length (units more q)
    counts None p q = length-digits 2 n p.1 ∙ sym (length-digits 2 n q.1)
    counts (Some k) p q = ap suc (length-digits 2 n p.1 ∙ sym (length-digits 2 n q.1))

    tell : (more : Option ℕ) (p q : Bool × ℕ) → GoodPreamble n more p → GoodPreamble n more q → units more p ≡ units more q → p ≡ q
    tell None (b, m) (c, k) f g e =
        let s : m ≡ k = bits_tell n m k f.0 g.0 e in
        let t : b ≡ c = closed_false b f.1 ∙ sym (closed_false c g.1) in
        cc
    tell (Some x) (b, m) (c, k) f g e =
        let r : bits n m ≡ bits n k = cc in
        let d : bit_of b ≡ bit_of c = cc in
        let s : m ≡ k = bits_tell n m k f.0 g.0 r in
        let t : b ≡ c = bit_same b c d in
        cc

    go : (more : Option ℕ) (p q : Bool × ℕ) → GoodPreamble n more p → GoodPreamble n more q → ((p ≡ q) × (ones (units more p) ≡ ones (units more q))) ⊎ ((p ≢ q) × Parted (ones (units more p)) (ones (units more q)))
    go more p q a b = ⊎_elim
        (λ e. inl (tell more p q a b e, ap ones e))
        (λ h. inr (λ e. h.0 (ap (λ (x : Bool × ℕ). units more x) e), h.1))
        (units_part (units more p) (units more q) (counts more p q))

-- presence bits of additions
pub walk_addition_bitmap : (n : ℕ) → Lawful (AdditionBitmapOf per_coding n)
unfolding per_coding
walk_addition_bitmap n = spelled_lawful (λ m k a b. rw (length-digits 2 n m, length-digits 2 n k) (go m k a b))
  where
    units : ℕ → List ℕ
    units m = small_length n ++ bits n m

    go : (m k : ℕ) → (0 < m) × (m < 2 ^ n) → (0 < k) × (k < 2 ^ n) → ((m ≡ k) × (ones (units m) ≡ ones (units k))) ⊎ ((m ≢ k) × Parted (ones (units m)) (ones (units k)))
    go m k f g = ⊎_elim
        (λ e. inl (bits_tell n m k f.1 g.1 (append_cancel_left (small_length n) (bits n m) (bits n k) e), ap ones e))
        (λ h. inr (λ e. h.0 (ap units e), h.1))
        (units_part (units m) (units k) (length-append (small_length n) (bits n m) ∙ ap (λ (i : ℕ). length (small_length n) + i) (length-digits 2 n m ∙ sym (length-digits 2 n k)) ∙ sym (length-append (small_length n) (bits n k))))

-- octets under a cursor are the units of PER
pub walk_over : (o : List ℕ) → AreOctets o → per_coding.to_units (unpacked o) ≡ per_coding.ruling.units o
unfolding per_coding per_ruling
walk_over o h = refl

-- an octet is eight bits
pub walk_count : (o : List ℕ) → length (per_coding.ruling.units o) ≡ per_coding.octet_units * length o
unfolding per_coding per_ruling
walk_count o = length-unpacked o

pub walk_some : 1 ≤ per_coding.octet_units
unfolding per_coding
walk_some = omega arith

pub walk_few : per_coding.octet_units ≤ 8
unfolding per_coding
walk_few = omega arith

pub walk_begin : (o : List ℕ) → AreOctets o → per_coding.at_unit (unpacked o)
unfolding per_coding
walk_begin o h = tt

-- all of them
pub per_laws : Laws per_coding
per_laws = record {
  tells = walk_tells;
  wholes = walk_wholes;
  part = walk_part;
  over = walk_over;
  count = walk_count;
  some = walk_some;
  few = walk_few;
  begin = walk_begin;
  preamble = walk_preamble;
  addition_bitmap = walk_addition_bitmap;
  index = walk_index;
  list_start = walk_list_start;
  list_ahead = walk_list_ahead;
  sequences = walk_sequences;
  lists = walk_lists;
  choices = walk_choices;
  filled = walk_filled;
}
