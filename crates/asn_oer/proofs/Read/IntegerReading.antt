-- INTEGER as its reader takes it: the numbers and offsets of the integers of a range, but for one that is left out, and
-- what the readers of their octets say of the type.
use Rattle.std.proofs.Common.{◌≡◌, ◌≤◌, ◌<◌, ◌≤ℤ◌, ◌<ℤ◌, ◌*◌, ◌^◌, ◌⊎◌, inl, inr, ℕ, ℤ, pos, negsuc, Bool, true, false, ◌||◌, List, ◌++◌, Option, Some, None, refl, sym, ap, ◌∙◌, subst, arith}
use Rattle.std.proofs.lemmas.Bool.{true≢false, and_parts, and_from, le-leb}
use Rattle.std.proofs.lemmas.Int.{ints}
use Rattle.std.specs.Int.RustNames.{int_le, int_lt}
use Rattle.std.specs.Option.{option_map}
use Rattle.std.specs.Prelude.{IsSomeAnd}
use mir.Syntax.{w128}
use mir.Val.{to_z, of_z}
use Rattle.asn_values.specs.Datum.{Datum, number}
use Rattle.asn_values.specs.Fits.{Fits, lowest_integer, in_range}
use Rattle.asn_values.specs.Profile.{InProfile, EmptyRange, SizeTooLarge, DuplicateName, BadEnumeration, UselessMark, BadDefault, ZeroWidthElement, AdditionNotOptional, TooMany, TooDeep}
use Rattle.asn_values.specs.Shape.{Range, integer}
use Rattle.asn_bits.specs.Numbers.{above, digits, octets, octet_count, least, signed_octet_count, least_signed}
use Rattle.asn_bits.specs.Lengths.{octet_length}
use Rattle.asn_bits.specs.Sets.{Meets}
use Rattle.asn_bits.proofs.Above.{kept, test_of_le}
use Rattle.asn_bits.proofs.Octets.{length-digits, octet_count_below, residue, residue_fits, signed_is, length-least_signed, signed_count_below}
use Rattle.asn_bits.proofs.Splits.{two_pow_octets}
use Rattle.asn_bits.proofs.Unions.{set_meets}
use Rattle.asn_rules.specs.Chunks.{Chunk, ones}
use Rattle.asn_rules.specs.Counted.{signed_number}
use Rattle.asn_rules.specs.Forks.{Same}
use Rattle.asn_rules.specs.Languages.{Spells, Inhabited, Map}
use Rattle.asn_rules.specs.Listed.{IsOther}
use Rattle.asn_rules.specs.NumberSets.{Admits}
use Rattle.asn_rules.specs.OffsetSets.{HasOffset, HasInteger, StandsFor}
use Rattle.asn_rules.specs.Spellings.{SpelledBy}
use Rattle.asn_rules.specs.declared.number_reader.NumberSet.{NumberSet}
use Rattle.asn_rules.specs.declared.signed_reader.OffsetSet.{OffsetSet}
use Rattle.asn_rules.proofs.Numbers.CountedCodes.{counted_octets, counted_signed_octets, residue_of, number_again}
use Rattle.asn_rules.proofs.Languages.Leads.{Leads, leads_on, leads_map, leads_same}
use Rattle.asn_rules.proofs.Languages.Spellings.{same_after, same_map, same_spelled, digits_spelled, map_spelled, spelled_inhabited}
use Rattle.asn_rules.specs.OctetReading.{OctetsIn, CountedIn, CountedSignedIn, SignedOctetsIn}
use Rattle.asn_rules.specs.IntegerSets.{IsWithin, IsOneBut, unmarked, AreNumbersBut, AreOffsetsBut}
use Rattle.asn_rules.proofs.Plain.IntegerSets.{low_inside}
use Rattle.asn_oer.specs.Oer.{counted_signed, unsigned_octets, both_in, signed_size, signed_in, ranged, whole_number, oer, oer_fields}
use Rattle.asn_oer.specs.Reading.{IntegersBut, IsBelowZero, signed_size_of}
use Rattle.asn_oer.proofs.Law.Integers.{below_bound, unsigned_cases, signed_cases}
use Rattle.asn_oer.proofs.Encodings.SpeltLeaves.{in_64_bits}
use Rattle.asn_oer.proofs.Write.WrittenNumbers.{some_same, unsigned_form, signed_form, counted_form, counted_signed_form, SignedRoom, signed_room}

-- ---- integers of a range, but for one

-- a value of the type that is not left out
one_of : (e : Option ℤ) (b : Range) (v : Datum) → Fits (integer b) v × IsOther (option_map number e) v → (z : ℤ) × IsOneBut e b z × (v ≡ number z)
one_of e b (number z) h = (z, h, refl)
one_of e b _ h = absurd h.0

-- one is there
pub some_one : (e : Option ℤ) (b : Range) → Inhabited (IntegersBut e b) → (z : ℤ) × IsOneBut e b z
some_one e b h = let w = one_of e b h.value h.spelt.fits in (w.0, w.1)

-- where each is spelt as its type spells it
but_spelled : {A : Type 0} {P : A → Type 0} {f : A → ℤ} {g : A → List Chunk} (e : Option ℤ) (b : Range) → ((a : A) → P a → IsOneBut e b (f a) × (g a ≡ ones (whole_number b (f a)))) → ((z : ℤ) → IsOneBut e b z → (a : A) × P a × (z ≡ f a)) → Same (Map (λ a. number (f a)) (SpelledBy P g)) (IntegersBut e b)
but_spelled e b there back = map_spelled there (λ v h. (let w = one_of e b v h in let a = back w.0 w.1 in (a.0, a.1, w.2 ∙ ap number a.2)))

through : {A : Type 0} {f : A → Datum} {L : A → List Chunk → Type 0} {M : Datum → List Chunk → Type 0} (us : List ℕ) → Same (Map f L) M → Leads oer_fields L us f M us
through {f = f} {L = L} us e = leads_on (leads_map oer_fields f L us) (leads_same oer_fields us e)

-- under an extension mark all integers of the profile
pub marked_leads : (b : Range) (us : List ℕ) → b.extensible ≡ true → Leads oer_fields (IntegersBut None (unmarked None None)) us (λ v. v) (IntegersBut None b) us
marked_leads b us m = leads_same oer_fields us (same_spelled there back code)
  where
    there : (v : Datum) → Fits (integer (unmarked None None)) v × IsOther None v → Fits (integer b) v × IsOther None v
    there (number z) h = ((h.0.0, h.0.1, subst (λ (x : Bool). (x || in_range b z) ≡ true) (sym m) refl), tt)
    there _ h = absurd h.0

    back : (v : Datum) → Fits (integer b) v × IsOther None v → Fits (integer (unmarked None None)) v × IsOther None v
    back (number z) h = ((h.0.0, h.0.1, refl), tt)
    back _ h = absurd h.0

    code : (v : Datum) → Fits (integer (unmarked None None)) v × IsOther None v → oer (integer (unmarked None None)) v ≡ oer (integer b) v
    code (number z) h = sym (ap (λ (x : Bool). ones (elim x [ true ↦ counted_signed z | false ↦ ranged b.low b.high z ])) m)
    code _ h = absurd h.0

-- ---- from 0 on

module _ (e : Option ℤ) (low : ℤ) (s : NumberSet) (from : int_le (pos 0) low ≡ true) where
  -- in k octets
  module _ (high : ℤ) (k : ℕ) (size : unsigned_octets high ≡ Some k) (are : AreNumbersBut e (unmarked (Some low) (Some high)) s) where
    room : (n : ℕ) → Admits s n → n < 256 ^ k
    room n a =
        elim (unsigned_cases high) [
          | inl w ↦
              let same : w.0 ≡ k = some_same (sym w.1 ∙ size) in
              let below = (and_parts (int_le low (pos n)) (int_le (pos n) high) (are.there n a).0.2).1 in
              subst (λ (i : ℕ). n < 256 ^ i) same (below_bound high (pos n) (256 ^ w.0) (le-leb 0 n (omega arith)) below w.2)
          | inr w ↦ absurd (cc (w, size))
        ]

    pub unsigned_leads : (us : List ℕ) → Leads oer_fields (OctetsIn k s) us (λ n. number (pos n)) (IntegersBut e (unmarked (Some low) (Some high))) us
    unsigned_leads us =
        through us (same_after (same_map (digits_spelled 256 k (λ n. Admits s n) room))
        (but_spelled e (unmarked (Some low) (Some high)) (λ n a. (are.there n a, ap ones (sym (unsigned_form low high (pos n) k from size)))) are.back))

    pub unsigned_meets : Inhabited (IntegersBut e (unmarked (Some low) (Some high))) → Meets (λ n. Admits s n) 0 (8 * k)
    unsigned_meets h =
        let z = some_one e (unmarked (Some low) (Some high)) h in
        let n = are.back z.0 z.1 in
        set_meets 2 (8 * k) n.0 n.1 (omega (arith, room n.0 n.1, two_pow_octets k))

  -- after their count
  module _ (are : AreNumbersBut e (unmarked (Some low) None) s) where
    few : (n : ℕ) → Admits s n → octet_count n < 128
    few n a =
        let most = (are.there n a).0.1 in
        let l : octet_count n ≤ 8 = octet_count_below n 8 (omega arith) (omega (arith, ints, most)) in
        omega arith

    same : (n : ℕ) → ones (octet_length (octet_count n) ++ least n) ≡ ones (ranged (Some low) None (pos n))
    same n = ap (λ (k : ℕ). ones (octet_length k ++ least n)) (sym (length-digits 256 (octet_count n) n)) ∙ ap ones (sym (counted_form low (pos n) from))

    pub counted_leads : (us : List ℕ) → Leads oer_fields (CountedIn s) us (λ n. number (pos n)) (IntegersBut e (unmarked (Some low) None)) us
    counted_leads us =
        through us (same_after (same_map (counted_octets (λ n. Admits s n) few))
        (but_spelled e (unmarked (Some low) None) (λ n a. (are.there n a, same n)) are.back))

    pub counted_some : Inhabited (IntegersBut e (unmarked (Some low) None)) → (n : ℕ) × Admits s n
    counted_some h =
        let z = some_one e (unmarked (Some low) None) h in
        let n = are.back z.0 z.1 in
        (n.0, n.1)

-- ---- in two's complement

-- in k octets
pub size_within : (low high : ℤ) (k : ℕ) → signed_size low high ≡ Some k → (1 ≤ k) × (k ≤ 8)
size_within low high k size =
    elim (signed_cases low high) [
      | inl w ↦ (let same : w.0 ≡ k = some_same (sym w.2 ∙ size) in (omega (arith, w.1, same), omega (arith, w.4, same)))
      | inr w ↦ absurd (cc (w, size))
    ]

module _ (e : Option ℤ) (low high : ℤ) (k : ℕ) (s : OffsetSet) (below : int_le (pos 0) low ≡ false) (size : signed_size low high ≡ Some k) (are : AreOffsetsBut e (unmarked (Some low) (Some high)) s) where
  some : 1 ≤ k
  some = (size_within low high k size).0

  rooms : (z : ℤ) → IsOneBut e (unmarked (Some low) (Some high)) z → SignedRoom k z
  rooms z h =
      let w = and_parts (int_le low z) (int_le z high) h.0.2 in
      signed_room low high z k size w.0 w.1

  again : (z : ℤ) → IsOneBut e (unmarked (Some low) (Some high)) z → signed_number (k, residue k z) ≡ z
  again z h = number_again k z some (rooms z h).room

  stands : (z : ℤ) → IsOneBut e (unmarked (Some low) (Some high)) z → StandsFor s k (residue k z)
  stands z h = record { member = subst (HasInteger s) (sym (again z h)) (are.back z h); fits = residue_fits k z some (rooms z h).room }

  code : (n : ℕ) → StandsFor s k n → ones (digits 256 k n) ≡ ones (whole_number (unmarked (Some low) (Some high)) (signed_number (k, n)))
  code n t =
      let z = signed_number (k, n) in
      ap ones (ap (λ (i : ℕ). octets k i) (sym (residue_of k n some t.fits)) ∙ sym (signed_is k z) ∙ sym (signed_form low high z k below size))

  pub signed_leads : (us : List ℕ) → Leads oer_fields (SignedOctetsIn k s) us number (IntegersBut e (unmarked (Some low) (Some high))) us
  signed_leads us =
      through us (same_after (same_map (same_after (same_map (digits_spelled 256 k (StandsFor s k) (λ n t. t.fits)))
      (map_spelled {Q = IsOneBut e (unmarked (Some low) (Some high))} {g = λ z. ones (whole_number (unmarked (Some low) (Some high)) z)} (λ n t. (are.there (signed_number (k, n)) t.member, code n t)) (λ z h. (residue k z, stands z h, sym (again z h))))))
      (but_spelled e (unmarked (Some low) (Some high)) (λ z h. (h, refl)) (λ z h. (z, h, refl))))

  pub signed_some : Inhabited (IntegersBut e (unmarked (Some low) (Some high))) → (n : ℕ) × StandsFor s k n
  signed_some h =
      let z = some_one e (unmarked (Some low) (Some high)) h in
      (residue k z.0, stands z.0 z.1)

-- after their count
module _ (e : Option ℤ) (b : Range) (s : OffsetSet) (are : AreOffsetsBut e b s) where
  few_signed : (z : ℤ) → HasInteger s z → signed_octet_count z < 128
  few_signed z h =
      let l : signed_octet_count z ≤ 9 = signed_count_below z 9 (omega arith) (omega (arith, in_64_bits z h.0 h.1)) in
      omega arith

  pub counted_signed_leads : ((z : ℤ) → whole_number b z ≡ counted_signed z) → (us : List ℕ) → Leads oer_fields (CountedSignedIn s) us number (IntegersBut e b) us
  counted_signed_leads form us =
      through us (same_after (same_map (counted_signed_octets (λ z. HasInteger s z) few_signed))
      (but_spelled e b (λ z h. (are.there z h, ap (λ (k : ℕ). ones (octet_length k ++ least_signed z)) (sym (length-least_signed z)) ∙ ap ones (sym (form z)))) (λ z h. (z, are.back z h, refl))))

  pub counted_signed_some : Inhabited (IntegersBut e b) → (w : ℕ) × HasOffset s w
  counted_signed_some h =
      let z = some_one e b h in
      (above lowest_integer z.0, (are.back z.0 z.1).2)

-- ---- bounds without a size

-- from the lowest integer on
large : (l h : ℤ) → lowest_integer ≤ℤ l → signed_size l h ≡ None → pos 9223372036854775808 ≤ℤ h
large l h low e = go (both_in 1 l h) (both_in 2 l h) (both_in 4 l h) (both_in 8 l h) refl refl refl refl
  where
    below : (t : Bool) → int_lt h (pos 9223372036854775808) ≡ t → both_in 8 l h ≡ false → pos 9223372036854775808 ≤ℤ h
    below true e f = absurd (true≢false (sym (and_from (int_le (negsuc 9223372036854775807) l) (int_lt h (pos 9223372036854775808)) (test_of_le (negsuc 9223372036854775807) l low) e) ∙ f))
    below false e f = grind (arith, ints)

    go : (a b c d : Bool) → both_in 1 l h ≡ a → both_in 2 l h ≡ b → both_in 4 l h ≡ c → both_in 8 l h ≡ d → pos 9223372036854775808 ≤ℤ h
    go true b c d ea eb ec ed = absurd (let s : signed_size l h ≡ Some 1 = rw (ea, signed_size) refl in cc (s, e))
    go false true c d ea eb ec ed = absurd (let s : signed_size l h ≡ Some 2 = rw (ea, eb, signed_size) refl in cc (s, e))
    go false false true d ea eb ec ed = absurd (let s : signed_size l h ≡ Some 4 = rw (ea, eb, ec, signed_size) refl in cc (s, e))
    go false false false true ea eb ec ed = absurd (let s : signed_size l h ≡ Some 8 = rw (ea, eb, ec, ed, signed_size) refl in cc (s, e))
    go false false false false ea eb ec ed = below (int_lt h (pos 9223372036854775808)) refl ed

-- ---- for the exits of the readers

-- all integers of the profile are a range of it
pub unmarked_good : InProfile (integer (unmarked None None))
unmarked_good EmptyRange = refl
unmarked_good SizeTooLarge = refl
unmarked_good DuplicateName = refl
unmarked_good BadEnumeration = refl
unmarked_good UselessMark = refl
unmarked_good BadDefault = refl
unmarked_good ZeroWidthElement = refl
unmarked_good AdditionNotOptional = refl
unmarked_good TooMany = refl
unmarked_good TooDeep = refl

pub unmarked_some : Inhabited (IntegersBut None (unmarked None None))
unmarked_some = spelled_inhabited (number (pos 0)) ((omega (arith, ints), omega (arith, ints), refl), tt)

-- nothing is left out under an extension mark
pub none_out : (b : Range) (e : Option ℤ) → IsWithin b e → b.extensible ≡ true → e ≡ None
none_out b None w m = refl
none_out b (Some d) w m = absurd (true≢false (sym m ∙ w.1))

-- the integer that is given, as the program holds it
pub given : (e : Option ℤ) (b : Range) (z : ℤ) (us r : List ℕ) → Spells oer_fields (IntegersBut e b) (number z) us r → Spells oer_fields (IntegersBut e b) (number (to_z w128 (of_z w128 z))) us r
given e b z us r h = rw (kept z h.spelt.fits.0.0 h.spelt.fits.0.1) h

-- a low bound that is negative
pub negative : (low : ℤ) → low <ℤ pos 0 → int_le (pos 0) low ≡ false
negative (pos n) h = absurd (omega (arith, ints, h))
negative (negsuc n) h = refl

-- in two's complement after their count, where the bounds have no size
pub counted_where : (low high : Option ℤ) → IsBelowZero low → signed_size_of low high ≡ None → (z : ℤ) → whole_number (unmarked low high) z ≡ counted_signed z
counted_where None high b o z = refl
counted_where (Some low) None b o z = counted_signed_form low z (negative low b)
counted_where (Some (pos low)) (Some high) b o z = absurd (omega (arith, ints, b))
counted_where (Some (negsuc low)) (Some high) b o z = ap (λ k. signed_in k z) o

-- in k octets, where the bounds have that size
pub sized_leads : (e : Option ℤ) (low high : Option ℤ) (k : ℕ) (s : OffsetSet) → IsBelowZero low → signed_size_of low high ≡ Some k → AreOffsetsBut e (unmarked low high) s → (us : List ℕ) → Leads oer_fields (SignedOctetsIn k s) us number (IntegersBut e (unmarked low high)) us
sized_leads e (Some l) (Some h) k s below size are us = signed_leads e l h k s (negative l below) size are us
sized_leads e (Some l) None k s below size are us = absurd (cc size)
sized_leads e None high k s below size are us = absurd (cc size)

pub sized_some : (e : Option ℤ) (low high : Option ℤ) (k : ℕ) (s : OffsetSet) → IsBelowZero low → signed_size_of low high ≡ Some k → AreOffsetsBut e (unmarked low high) s → Inhabited (IntegersBut e (unmarked low high)) → (n : ℕ) × StandsFor s k n
sized_some e (Some l) (Some h) k s below size are some = signed_some e l h k s (negative l below) size are some
sized_some e (Some l) None k s below size are some = absurd (cc size)
sized_some e None high k s below size are some = absurd (cc size)

-- without a size one is missing, or the high one is above those of 64 bits in two's complement
pub no_size : (low high : Option ℤ) → InProfile (integer (unmarked low high)) → signed_size_of low high ≡ None → ((low ≡ None) ⊎ (high ≡ None)) ⊎ IsSomeAnd high (λ h. pos 9223372036854775808 ≤ℤ h)
no_size None high good e = inl (inl refl)
no_size (Some l) None good e = inl (inr refl)
no_size (Some l) (Some h) good e = inr (large l h (low_inside (Some l) (Some h) good).0 e)
