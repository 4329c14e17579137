-- Numbers that are told by octets taken at once, by OER.
use Rattle.std.proofs.Common.{◌≡◌, ◌≤◌, ◌<◌, ◌+◌, ◌-◌, ◌*◌, ◌/◌, ◌%◌, ◌^◌, ◌++◌, ◌∷◌, [], inl, inr, ℕ, zero, suc, ℤ, pos, negsuc, ◌+ℤ◌, ◌≤ℤ◌, ◌<ℤ◌, Bool, true, false, ◌&&◌, nat_lt, bit_and, length, replicate, List, Option, Some, None, refl, sym, ap, subst, ◌∙◌, append_assoc, length-append, arith}
use Rattle.std.proofs.lemmas.Bool.{le-leb, lt-ltb, ltb-true, ltb-false, and_from}
use Rattle.std.proofs.lemmas.Int.{ints}
use Rattle.std.proofs.lemmas.List.{append-nil}
use Rattle.std.proofs.lemmas.Nat.{mod-mul-add, and_mask, pow-add}
use Rattle.std.proofs.Math.Nat.{suc-mul, add-mod_left, mod-eq_of_lt, one-le-pow}
use Rattle.std.specs.Int.RustNames.{int_le, int_lt}
use Rattle.asn_values.specs.Datum.{truth, number, item}
use Rattle.asn_values.specs.Fits.{lowest_integer, highest_integer}
use Rattle.asn_values.specs.Shape.{Shape, Label, boolean, enumerated, more_labels}
use Rattle.asn_values.specs.View.{shape_of}
use Rattle.asn_bits.specs.Numbers.{bits, octets, packed, padding, above, magnitude, least_signed}
use Rattle.asn_bits.specs.Sets.{AreBits}
use Rattle.asn_bits.proofs.Above.{add_within, test_of_le, le_of_test}
use Rattle.asn_bits.proofs.FilledBits.{unpacked-packed}
use Rattle.asn_bits.proofs.LengthsInOctets.{one_is}
use Rattle.asn_bits.proofs.Octets.{all_octets, length-digits, half, residue, signed_is, packed_octets}
use Rattle.asn_bits.proofs.Packing.{bits_zero}
use Rattle.asn_bits.proofs.Splits.{unpacked-octets, two_pow_octets}
use Rattle.asn_bits.proofs.Weights.{digits-append}
use Rattle.asn_rules.specs.Components.{number_at}
use Rattle.asn_rules.specs.Fields.{spelled}
use Rattle.asn_rules.specs.IntegerSets.{magnitude_of}
use Rattle.asn_rules.specs.Languages.{Spells}
use Rattle.asn_rules.specs.Listed.{Spelt}
use Rattle.asn_rules.specs.Filled.{filled_bits}
use Rattle.asn_rules.specs.Forks.{Same}
use Rattle.asn_rules.specs.OctetReading.{FilledFields}
use Rattle.asn_rules.proofs.Languages.Parts.{contents-ones}
use Rattle.asn_rules.proofs.Languages.Spellings.{units_front}
use Rattle.asn_rules.proofs.Live.Flat.{flat-ones}
use Rattle.asn_rules.proofs.Octets.Octetwise.{packed_front}
use Rattle.asn_walk.specs.Coding.{PreambleOf}
use Rattle.asn_plan.specs.Bounds.{between}
use Rattle.asn_plan.specs.FixedSizes.{fixed_size}
use Rattle.asn_plan.specs.Enumerations.{IsEnumeration, AreInRow, root_items_of, other_items_of}
use Rattle.asn_plan.specs.Ranged.{ranged, held_in, IsRanged, InOctets}
use Rattle.asn_plan.specs.Words.{units_in, before}
use Rattle.asn_plan.specs.declared.enumeration.Enumeration.{Enumeration}
use Rattle.asn_plan.specs.declared.ranged.Ranged.{Ranged}
use Rattle.asn_plan.specs.declared.word.Word.{Word}
use Rattle.asn_plan.proofs.Bounds.{within, between_fits}
use Rattle.asn_plan.proofs.RootItems.{enumerated_is}
use Rattle.asn_oer.specs.Oer.{oer, oer_fields, unsigned_octets, ranged as ranged_octets, whole_number, item_number}
use Rattle.asn_oer.specs.Walk.{oer_coding, mark_of}
use Rattle.asn_oer.proofs.Law.Integers.{unsigned_cases, below_bound}
use Rattle.asn_oer.proofs.Read.PreambleReading.{preamble_leads}
use Rattle.asn_oer.proofs.Write.WrittenNumbers.{some_same, unsigned_form, signed_form, signed_room}

-- ---- units of a word

pub units_are_octets : (n m : ℕ) → units_in oer_coding n m ≡ packed (bits n m)
unfolding oer_coding
units_are_octets zero m = refl
units_are_octets (suc n) m = refl

-- a number in k octets, before other bits
pub packed_number : (k n : ℕ) (r : List ℕ) → packed (bits (8 * k) n ++ r) ≡ octets k n ++ packed r
packed_number k n r = ap (λ (l : List ℕ). packed (l ++ r)) (sym (unpacked-octets k n)) ∙ packed_front (octets k n) r (all_octets k n)

-- the number in the first k octets that are left
pub octets_taken : (old new : Word) (k n : ℕ) (us : List ℕ) → bits old.left old.bits ≡ bits (8 * k) n ++ bits new.left new.bits
    → before oer_coding old us ≡ octets k n ++ before oer_coding new us
octets_taken old new k n us e =
    let rest = bits new.left new.bits in
    ap (λ (t : List ℕ). t ++ us) (units_are_octets old.left old.bits ∙ ap packed e ∙ packed_number k n rest) ∙ append_assoc (octets k n) (packed rest) us
    ∙ ap (λ (t : List ℕ). octets k n ++ (t ++ us)) (sym (units_are_octets new.left new.bits))

pub digits_bits : (k n : ℕ) → AreBits (bits k n)
digits_bits zero n = tt
digits_bits (suc k) n = (omega arith, digits_bits k n)

-- bits that fill octets, in front of others
pub packed_both : (xs ys : List ℕ) → AreBits xs → length xs % 8 ≡ 0 → packed (xs ++ ys) ≡ packed xs ++ packed ys
packed_both xs ys b whole = ap (λ (l : List ℕ). packed (l ++ ys)) (sym (unpacked-packed xs b whole)) ∙ packed_front (packed xs) ys (packed_octets xs b)

-- these are taken from a word
pub filled_taken : (old new : Word) (xs us : List ℕ) → AreBits xs → length xs % 8 ≡ 0 → bits old.left old.bits ≡ xs ++ bits new.left new.bits
    → before oer_coding old us ≡ packed xs ++ before oer_coding new us
filled_taken old new xs us b whole e =
    let rest = bits new.left new.bits in
    ap (λ (t : List ℕ). t ++ us) (units_are_octets old.left old.bits ∙ ap packed e ∙ packed_both xs rest b whole) ∙ append_assoc (packed xs) (packed rest) us
    ∙ ap (λ (t : List ℕ). packed xs ++ (t ++ us)) (sym (units_are_octets new.left new.bits))

-- a word of whole octets, in front of the bits of others
pub word_in_front : (w : Word) (old new : List ℕ) → w.left % 8 ≡ 0 → old ≡ bits w.left w.bits ++ new → packed old ≡ before oer_coding w (packed new)
word_in_front w old new whole e =
    let k = w.left / 8 in
    let count : 8 * k ≡ w.left = omega (arith, whole) in
    let front : packed (bits w.left w.bits ++ new) ≡ octets k w.bits ++ packed new = subst (λ (n : ℕ). packed (bits n w.bits ++ new) ≡ octets k w.bits ++ packed new) count (packed_number k w.bits new) in
    let nothing : packed (bits (8 * k) w.bits) ≡ octets k w.bits = ap packed (sym (append-nil (bits (8 * k) w.bits))) ∙ packed_number k w.bits [] ∙ append-nil (octets k w.bits) in
    let alone : packed (bits w.left w.bits) ≡ octets k w.bits = subst (λ (n : ℕ). packed (bits n w.bits) ≡ octets k w.bits) count nothing in
    ap packed e ∙ front ∙ ap (λ (t : List ℕ). t ++ packed new) (sym (units_are_octets w.left w.bits ∙ alone))

-- after which whole octets are left
pub octets_after : (n m : ℕ) (old new : List ℕ) → n % 8 ≡ 0 → old ≡ bits n m ++ new → length old % 8 ≡ 0 → length new % 8 ≡ 0
octets_after n m old new whole e h = omega (arith, whole, h, ap length e, length-append (bits n m) new, length-digits 2 n m)

-- ---- the preamble of a SEQUENCE

-- the bits of two numbers, and the zeros that fill up the last octet
pub preamble_held : (a : Option ℕ) (n mark m : ℕ) (r : ℕ × ℕ) (old mid new last : Word) (us : List ℕ) → r ≡ mark_of a → mark ≤ r.1 → m < 2 ^ n
    → bits old.left old.bits ≡ bits r.0 mark ++ bits mid.left mid.bits → bits mid.left mid.bits ≡ bits n m ++ bits new.left new.bits
    → bits new.left new.bits ≡ bits ((8 - (r.0 + n) % 8) % 8) 0 ++ bits last.left last.bits
    → Spells oer_fields (PreambleOf oer_coding n a) (nat_lt 0 mark, m) (before oer_coding old us) (before oer_coding last us)
preamble_held a n mark m r old mid new last us is few fits e f g =
    let k = r.0 in
    let z = (8 - (k + n) % 8) % 8 in
    let ys = bits k mark ++ bits n m in
    let xs = ys ++ bits z 0 in
    let count : length ys ≡ k + n = omega (arith, length-append (bits k mark) (bits n m), length-digits 2 k mark, length-digits 2 n m) in
    let whole : length xs % 8 ≡ 0 = omega (arith, count, length-append ys (bits z 0), length-digits 2 z 0) in
    let are : AreBits xs = digits-append 2 ys (bits z 0) (digits-append 2 (bits k mark) (bits n m) (digits_bits k mark) (digits_bits n m)) (digits_bits z 0) in
    let rest = bits last.left last.bits in
    let all : bits old.left old.bits ≡ xs ++ rest =
    e ∙ ap (λ (t : List ℕ). bits k mark ++ t) (f ∙ ap (λ (t : List ℕ). bits n m ++ t) g) ∙ sym (append_assoc (bits k mark) (bits n m) (bits z 0 ++ rest)) ∙ sym (append_assoc ys (bits z 0) rest) in
    let zeros : bits z 0 ≡ padding (length ys) = bits_zero z ∙ ap (λ (i : ℕ). replicate ((8 - i % 8) % 8) 0) (sym count) in
    let code = λ (q : ℕ × ℕ). filled_bits (bits k q.0 ++ bits n q.1) in
    let filled : packed xs ≡ code (mark, m) = ap (λ (t : List ℕ). packed (ys ++ t)) zeros in
    let split : before oer_coding old us ≡ code (mark, m) ++ before oer_coding last us =
    filled_taken old last xs us are whole all ∙ ap (λ (t : List ℕ). t ++ before oer_coding last us) filled in
    let same : Same (FilledFields k r.1 n 0) (FilledFields k r.1 n 0) = record { to = λ q cs h. h; from = λ q cs h. h } in
    let read : Spells oer_fields (FilledFields r.0 r.1 n 0) (mark, m) (before oer_coding old us) (before oer_coding last us) =
    subst (λ (l : List ℕ). Spells oer_fields (FilledFields k r.1 n 0) (mark, m) l (before oer_coding last us)) (sym split) (units_front code oer_fields same (mark, m) (few, omega arith, fits) (before oer_coding last us)) in
    (preamble_leads n a (before oer_coding old us)).done (mark, m) (before oer_coding last us) (subst (λ (q : ℕ × ℕ). Spells oer_fields (FilledFields q.0 q.1 n 0) (mark, m) (before oer_coding old us) (before oer_coding last us)) is read)

-- presence bits without an extension bit
pub alone_held : (n m z : ℕ) (a : Option ℕ) (old new last : Word) (us : List ℕ) → a ≡ None → z ≡ (8 - n % 8) % 8 → m < 2 ^ n
    → bits old.left old.bits ≡ bits n m ++ bits new.left new.bits → bits new.left new.bits ≡ bits z 0 ++ bits last.left last.bits
    → Spells oer_fields (PreambleOf oer_coding n a) (false, m) (before oer_coding old us) (before oer_coding last us)
alone_held n m z a old new last us is zeros fits f g =
    preamble_held a n 0 m (0, 0) old old new last us (rw is refl) (omega arith) fits refl f (subst (λ (i : ℕ). bits new.left new.bits ≡ bits i 0 ++ bits last.left last.bits) (omega (arith, zeros)) g)

-- and with one
pub marked_held : (n k mark m z : ℕ) (a : Option ℕ) (old mid new last : Word) (us : List ℕ) → a ≡ Some k → z ≡ 7 - n % 8 → mark < 2
    → (nat_lt 0 mark ≡ true → 0 < k) → m < 2 ^ n → bits old.left old.bits ≡ bits 1 mark ++ bits mid.left mid.bits
    → bits mid.left mid.bits ≡ bits n m ++ bits new.left new.bits → bits new.left new.bits ≡ bits z 0 ++ bits last.left last.bits
    → Spells oer_fields (PreambleOf oer_coding n a) (nat_lt 0 mark, m) (before oer_coding old us) (before oer_coding last us)
marked_held n k mark m z a old mid new last us is zeros one some fits e f g = go k is some
  where
    filled : bits new.left new.bits ≡ bits ((8 - (1 + n) % 8) % 8) 0 ++ bits last.left last.bits
    filled = subst (λ (i : ℕ). bits new.left new.bits ≡ bits i 0 ++ bits last.left last.bits) (omega (arith, zeros)) g

    none_listed : (i : ℕ) → (nat_lt 0 i ≡ true → 0 < 0) → i ≤ 0
    none_listed zero h = omega arith
    none_listed (suc i) h = absurd (omega (arith, h (lt-ltb 0 (suc i) (omega arith))))

    go : (j : ℕ) → a ≡ Some j → (nat_lt 0 mark ≡ true → 0 < j)
        → Spells oer_fields (PreambleOf oer_coding n a) (nat_lt 0 mark, m) (before oer_coding old us) (before oer_coding last us)
    go zero same h = preamble_held a n mark m (1, 0) old mid new last us (rw same refl) (none_listed mark h) fits e f filled
    go (suc j) same h = preamble_held a n mark m (1, 1) old mid new last us (rw same refl) (omega (arith, one)) fits e f filled

-- ---- INTEGER

-- how far one number lies above another, where k octets hold both, is told by the last k octets of their difference
pub offset_is : (least n w p q : ℕ) → least < p → n < p → suc q * p ≡ 18446744073709551616 → w ≡ (n + (18446744073709551616 - least)) % 18446744073709551616
    → (least + w % p) % p ≡ n
offset_is least n w p q l f whole is = go (nat_lt n least) refl
  where
    parts : q * p + p ≡ 18446744073709551616
    parts = omega (arith, suc-mul q p, whole)

    go : (t : Bool) → nat_lt n least ≡ t → (least + w % p) % p ≡ n
    go true e =
        let below = ltb-true n least e in
        let far : w ≡ q * p + (p + n - least) = omega (arith, is, parts, below, l, f) in
        let off : w % p ≡ p + n - least = ap (λ (i : ℕ). i % p) far ∙ mod-mul-add q p (p + n - least) (omega (arith, below, l)) in
        let sum : least + w % p ≡ p + n = omega (arith, off, l) in
        ap (λ (i : ℕ). i % p) sum ∙ add-mod_left p n ∙ mod-eq_of_lt f
    go false e =
        let above = ltb-false n least e in
        let far : w ≡ n - least = omega (arith, is, parts, above, f) in
        let off : w % p ≡ n - least = ap (λ (i : ℕ). i % p) far ∙ mod-eq_of_lt (omega (arith, f)) in
        let sum : least + w % p ≡ n = omega (arith, off, above) in
        ap (λ (i : ℕ). i % p) sum ∙ mod-eq_of_lt f

-- the difference as the program has it
pub offset_held : (least n k m : ℕ) → k ≤ 8 → m + 1 ≡ 2 ^ (8 * k) → least < 256 ^ k → n < 256 ^ k
    → (least + bit_and ((n + (18446744073709551616 - least)) % 18446744073709551616) m) % 256 ^ k ≡ n
offset_held least n k m few highest l f =
    let w = (n + (18446744073709551616 - least)) % 18446744073709551616 in
    let q = 256 ^ (8 - k) - 1 in
    let some : 1 ≤ 256 ^ (8 - k) = one-le-pow (8 - k) 256 (omega arith) in
    let one_more : 256 ^ (8 - k) ≡ suc q = omega (arith, some) in
    let whole : 8 - k + k ≡ 8 = omega (arith, few) in
    let all : 256 ^ (8 - k) * 256 ^ k ≡ 18446744073709551616 = sym (pow-add 256 (8 - k) k) ∙ ap (λ (i : ℕ). 256 ^ i) whole in
    let mask : m ≡ 2 ^ (8 * k) - 1 = omega (arith, highest) in
    let masked : bit_and w m ≡ w % 256 ^ k =
    ap (bit_and w) mask ∙ and_mask w (8 * k) ∙ ap (λ (t : ℕ). w % t) (sym (two_pow_octets k)) in
    ap (λ (i : ℕ). (least + i) % 256 ^ k) masked ∙ offset_is least n w (256 ^ k) q l f (subst (λ (i : ℕ). i * 256 ^ k ≡ 18446744073709551616) one_more all) refl

-- the k octets of an integer from low on: those of low, and how far it lies above it
held_again : (l k off n : ℕ) (z : ℤ) → 1 ≤ k → z ≡ (negsuc l +ℤ pos off) → magnitude z < 2 ^ (8 * k - 1) → l < 2 ^ (8 * k - 1) → (256 ^ k - 1 - l + off) % 256 ^ k ≡ n → residue k z ≡ n
held_again l k off n (pos m) some is few room e =
    let h = half k some in
    let sum : 256 ^ k - 1 - l + off ≡ 256 ^ k + m = omega (arith, ints, is, h, room) in
    sym (sym e ∙ ap (λ (i : ℕ). i % 256 ^ k) sum ∙ add-mod_left (256 ^ k) m ∙ mod-eq_of_lt (omega (arith, few, h)))
held_again l k off n (negsuc m) some is few room e =
    let h = half k some in
    let sum : 256 ^ k - 1 - l + off ≡ 256 ^ k - 1 - m = omega (arith, ints, is, h, room, few) in
    sym (sym e ∙ ap (λ (i : ℕ). i % 256 ^ k) sum ∙ mod-eq_of_lt (omega (arith, few, h)))

-- a number from a bound on that is not negative has room in the octets of the high one
unsigned_room : (low high z : ℤ) (k : ℕ) → int_le (pos 0) low ≡ true → unsigned_octets high ≡ Some k → low ≤ℤ z → z ≤ℤ high → magnitude_of z < 256 ^ k
unsigned_room low high z k from size least most =
    elim (unsigned_cases high) [
      | inl w ↦
          let same : w.0 ≡ k = some_same (sym w.1 ∙ size) in
          let below = below_bound high z (256 ^ w.0) (not_negative low z from least) (test_of_le z high most) w.2 in
          subst (λ (i : ℕ). magnitude_of z < 256 ^ i) same below
      | inr w ↦ absurd (cc (w, size))
    ]
  where
    not_negative : (low z : ℤ) → int_le (pos 0) low ≡ true → low ≤ℤ z → int_le (pos 0) z ≡ true
    not_negative low z from least = test_of_le (pos 0) z (omega (arith, ints, le_of_test (pos 0) low from, least))

-- the octets of an integer between two bounds, told by those of the low one
as_held : (low high z : ℤ) (k off n : ℕ) → fixed_size low high ≡ Some k → z ≡ (low +ℤ pos off) → low ≤ℤ z → z ≤ℤ high → (held_in k low + off) % 256 ^ k ≡ n
    → ranged_octets (Some low) (Some high) z ≡ octets k n
as_held (pos l) high z k off n size is least most e =
    let from : int_le (pos 0) (pos l) ≡ true = le-leb 0 l (omega arith) in
    let few : magnitude_of z < 256 ^ k = unsigned_room (pos l) high z k from size least most in
    let same : magnitude_of z ≡ l + off = ap magnitude_of is in
    let back : l + off ≡ n = sym (mod-eq_of_lt (omega (arith, few, same))) ∙ e in
    unsigned_form (pos l) high z k from size ∙ ap (octets k) (same ∙ back)
as_held (negsuc l) high z k off n size is least most e =
    let above : int_le (negsuc l) high ≡ true = test_of_le (negsuc l) high (omega (arith, ints, least, most)) in
    let room = signed_room (negsuc l) high z k size (test_of_le (negsuc l) z least) (test_of_le z high most) in
    let low = signed_room (negsuc l) high (negsuc l) k size (le-leb l l (omega arith)) above in
    signed_form (negsuc l) high z k refl size ∙ signed_is k z ∙ ap (octets k) (held_again l k off n z room.some is room.room low.room e)

-- the octets hold a number of the type
pub number_held : (r : Ranged) (n off : ℕ) (us vs : List ℕ) → IsRanged r → InOctets r → (r.least + off) % 256 ^ r.octets ≡ n → off ≤ r.highest → us ≡ octets r.octets n ++ vs
    → Spells oer_fields (Spelt oer None (ranged r)) (number (r.low +ℤ pos off)) us vs
number_held r n off us vs good held e few split =
    let low = r.low in
    let high = r.high in
    let z = low +ℤ pos off in
    let w = within r good in
    let below : off ≤ above low high = omega (arith, few, good.highest) in
    let least : low ≤ℤ z = omega (arith, ints) in
    let most : z ≤ℤ high = add_within low high off w.1 below in
    let told : (held_in r.octets low + off) % 256 ^ r.octets ≡ n = ap (λ (i : ℕ). (i + off) % 256 ^ r.octets) (sym held.least) ∙ e in
    let same : whole_number (between low high r.marked) z ≡ octets r.octets n =
    ap (λ (m : Bool). whole_number (between low high m) z) held.unmarked ∙ as_held low high z r.octets off n held.size refl least most told in
    record {
      chunks = oer (ranged r) (number z);
      spelt = record { fits = (between_fits low high z r.marked good.of_profile least most, tt); same = refl };
      contents = contents-ones oer_fields (whole_number (between low high r.marked) z);
      split = split ∙ ap (λ (t : List ℕ). t ++ vs) (sym (flat-ones spelled (whole_number (between low high r.marked) z) ∙ same));
    }

-- the low bound has room in the octets of its range
pub record LowHeld (low : ℤ) (k : ℕ) : Type 0 where
  pub some : low <ℤ pos 0 → 1 ≤ k
  pub few : k ≤ 8
  pub room : magnitude low < 256 ^ k
  pub held : held_in k low < 256 ^ k

pub bound_fits : (low high : ℤ) (k : ℕ) → fixed_size low high ≡ Some k → low ≤ℤ high → LowHeld low k
bound_fits (pos l) high k size order =
    let room = unsigned_room (pos l) high (pos l) k (le-leb 0 l (omega arith)) size (omega (arith, ints)) order in
    let few : k ≤ 8 = elim (unsigned_cases high) [ inl w ↦ (let same : w.0 ≡ k = some_same (sym w.1 ∙ size) in omega (arith, w.3, same)) | inr w ↦ absurd (cc (w, size)) ] in
    record { some = λ h. absurd (omega (arith, ints, h)); few = few; room = room; held = room }
bound_fits (negsuc l) high k size order =
    let room = signed_room (negsuc l) high (negsuc l) k size (le-leb l l (omega arith)) (test_of_le (negsuc l) high order) in
    record { some = λ h. room.some; few = room.few; room = omega (arith, room.room, half k room.some); held = omega (arith, room.room, half k room.some) }

-- an integer of the type is one of the profile
pub offset_within : (r : Ranged) (off : ℕ) → IsRanged r → off ≤ r.highest → (lowest_integer ≤ℤ (r.low +ℤ pos off)) × ((r.low +ℤ pos off) ≤ℤ highest_integer)
offset_within r off good few =
    let w = within r good in
    let below : off ≤ above r.low r.high = omega (arith, few, good.highest) in
    let most : (r.low +ℤ pos off) ≤ℤ r.high = add_within r.low r.high off w.1 below in
    (omega (arith, ints, w.0), omega (arith, ints, most, w.2))

-- the octets of the low bound are no more than they hold
pub least_fits : (r : Ranged) → IsRanged r → InOctets r → r.least < 256 ^ r.octets
least_fits r good held = omega (arith, held.least, (bound_fits r.low r.high r.octets held.size (within r good).1).held)

-- ---- BOOLEAN

pub false_held : (us vs : List ℕ) → us ≡ octets 1 0 ++ vs → Spells oer_fields (Spelt oer None boolean) (truth false) us vs
false_held us vs e = record { chunks = oer boolean (truth false); spelt = record { fits = (tt, tt); same = refl }; contents = contents-ones oer_fields (0 ∷ []); split = e }

pub true_held : (us vs : List ℕ) → us ≡ octets 1 255 ++ vs → Spells oer_fields (Spelt oer None boolean) (truth true) us vs
true_held us vs e = record { chunks = oer boolean (truth true); spelt = record { fits = (tt, tt); same = refl }; contents = contents-ones oer_fields (255 ∷ []); split = e }

-- ---- ENUMERATED

at_front : (xs ys : List Label) (p : ℕ) → p < length xs → number_at (xs ++ ys) p ≡ number_at xs p
at_front [] ys p h = absurd (omega (arith, h))
at_front (x ∷ xs) ys zero h = refl
at_front (x ∷ xs) ys (suc p) h = at_front xs ys p (omega (arith, h))

-- an item of the root, whose numbers run on from the first one
pub item_held : (e : Enumeration) (p n : ℕ) (us vs : List ℕ) → IsEnumeration e → AreInRow e.first (root_items_of (shape_of e.ty)) → p ≤ e.highest → e.first + p ≡ n → us ≡ octets 1 n ++ vs
    → Spells oer_fields (Spelt oer None (shape_of e.ty)) (item p) us vs
item_held e p n us vs good row few is split =
    let root = root_items_of (shape_of e.ty) in
    let more = other_items_of (shape_of e.ty) in
    let labels = root ++ more_labels more in
    let type_is = enumerated_is (shape_of e.ty) good.is in
    let inside : p < length root = omega (arith, few, good.count) in
    let small : n < 128 = omega (arith, is, (row p inside).1) in
    let told : number_at labels p ≡ pos n = at_front root (more_labels more) p inside ∙ (row p inside).0 ∙ ap pos is in
    let flag : (int_le (pos 0) (pos n) && int_lt (pos n) (pos 128)) ≡ true = and_from (int_le (pos 0) (pos n)) (int_lt (pos n) (pos 128)) (le-leb 0 n (omega arith)) (lt-ltb n 128 small) in
    let short : item_number (pos n) ≡ n ∷ [] = ap (λ (b : Bool). elim b [ true ↦ n ∷ [] | false ↦ (128 + length (least_signed (pos n))) ∷ least_signed (pos n) ]) flag in
    let one : octets 1 n ≡ n ∷ [] = one_is n (omega (arith, small)) in
    let whole : item_number (number_at labels p) ≡ octets 1 n = ap item_number told ∙ short ∙ sym one in
    let read : Spells oer_fields (Spelt oer None (enumerated root more)) (item p) us vs = record {
      chunks = oer (enumerated root more) (item p);
      spelt = record { fits = (omega (arith, inside), tt); same = refl };
      contents = contents-ones oer_fields (item_number (number_at labels p));
      split = split ∙ ap (λ (t : List ℕ). t ++ vs) (sym (flat-ones spelled (item_number (number_at labels p)) ∙ whole));
    } in
    subst (λ (t : Shape). Spells oer_fields (Spelt oer None t) (item p) us vs) (sym type_is) read
