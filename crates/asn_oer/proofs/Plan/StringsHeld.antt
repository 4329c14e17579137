-- Strings of one length that are told by octets taken at once, by OER.
use Rattle.std.proofs.Common.{◌≡◌, ◌≤◌, ◌<◌, ◌+◌, ◌-◌, ◌*◌, ◌/◌, ◌%◌, ◌^◌, ◌++◌, ◌∷◌, [], ℕ, Bool, true, false, length, map, replicate, List, Some, None, refl, sym, ap, subst, ◌∙◌, append_assoc, append-nil, length-append, arith}
use Rattle.std.proofs.lemmas.Bool.{eq-eqb}
use Rattle.std.proofs.lemmas.List.{length-map, length-replicate}
use Rattle.asn_values.specs.Datum.{Datum, bit_list, octet_list}
use Rattle.asn_values.specs.Fits.{FitsLength}
use Rattle.asn_values.specs.Profile.{InProfile, EmptyRange, SizeTooLarge, is_fixed_size, large_size, size_above}
use Rattle.asn_values.specs.Shape.{Shape, SizeRange, bit_string, octet_string}
use Rattle.asn_bits.specs.Lengths.{octet_length}
use Rattle.asn_bits.specs.Numbers.{bits, octets, packed, padding}
use Rattle.asn_bits.specs.Sets.{AreBits}
use Rattle.asn_bits.specs.Sink.{bit_of}
use Rattle.asn_bits.proofs.FilledBits.{length-packed}
use Rattle.asn_bits.proofs.LengthsInOctets.{small_is}
use Rattle.asn_bits.proofs.Octets.{length-digits, all_octets}
use Rattle.asn_bits.proofs.Packing.{bits_zero}
use Rattle.asn_bits.proofs.Weights.{digits-append, are_digits}
use Rattle.asn_rules.specs.Chunks.{ones}
use Rattle.asn_rules.specs.Fields.{spelled}
use Rattle.asn_rules.specs.Filled.{filled_bits}
use Rattle.asn_rules.specs.Languages.{Spells}
use Rattle.asn_rules.specs.Listed.{Spelt}
use Rattle.asn_rules.specs.OctetStrings.{is_one}
use Rattle.asn_rules.proofs.Languages.Parts.{contents-ones}
use Rattle.asn_rules.proofs.Law.SomeValue.{shortest_fits}
use Rattle.asn_rules.proofs.Live.Flat.{flat-ones}
use Rattle.asn_rules.proofs.Octets.BitStrings.{bits_again}
use Rattle.asn_walk.specs.AtOnce.{IsOnlyLength}
use Rattle.asn_plan.specs.FixedStrings.{IsFixedString, IsStringOf, IsInOctets}
use Rattle.asn_plan.specs.Words.{before}
use Rattle.asn_plan.specs.declared.fixed.FixedString.{FixedString}
use Rattle.asn_plan.specs.declared.word.Word.{Word}
use Rattle.asn_oer.specs.Oer.{oer, oer_fields, bit_octets, sized_octets, variable_bits}
use Rattle.asn_oer.specs.Walk.{oer_coding}
use Rattle.asn_oer.proofs.Plan.OctetsRead.{packed_number, filled_taken, digits_bits}

-- a size of one length
fixed_size_is : (s : SizeRange) (n : ℕ) → IsOnlyLength s n → s.extensible ≡ false → is_fixed_size s ≡ true
fixed_size_is s n h e = rw (e, h.high, h.low, is_fixed_size) (eq-eqb n n refl)

marked_size_is : (s : SizeRange) → s.extensible ≡ true → is_fixed_size s ≡ false
marked_size_is s e = rw (e, is_fixed_size) refl

-- the octets of the two numbers before the bits
head_octets : (k u : ℕ) → k < 256 → u < 256 → octets 2 (256 * k + u) ≡ k ∷ u ∷ []
head_octets k u few small =
    let first : (256 * k + u) / 256 % 256 ≡ k = omega (arith, few, small) in
    let second : (256 * k + u) / 1 % 256 ≡ u = omega (arith, small) in
    ap (λ (i : ℕ). i ∷ ((256 * k + u) / 1 % 256) ∷ []) first ∙ ap (λ (i : ℕ). k ∷ i ∷ []) second

-- how many octets bits fill
filled_count : (bs : List ℕ) → length (filled_bits bs) ≡ (length bs + 7) / 8
filled_count bs =
    let pad = padding (length bs) in
    let count : length pad ≡ (8 - length bs % 8) % 8 = length-replicate ((8 - length bs % 8) % 8) 0 in
    let whole : length (bs ++ pad) % 8 ≡ 0 = omega (arith, length-append bs pad, count) in
    omega (arith, length-packed (bs ++ pad) whole, length-append bs pad, count)

-- a BIT STRING of variable size
variable_is : (bs : List ℕ) → length bs ≤ 62 → variable_bits bs ≡ (1 + (length bs + 7) / 8) ∷ (8 - length bs % 8) % 8 ∷ filled_bits bs
variable_is bs few =
    let fs = filled_bits bs in
    let u = length (padding (length bs)) in
    let unused : u ≡ (8 - length bs % 8) % 8 = length-replicate ((8 - length bs % 8) % 8) 0 in
    let count : length (u ∷ fs) ≡ 1 + (length bs + 7) / 8 = omega (arith, filled_count bs) in
    let small : octet_length (1 + (length bs + 7) / 8) ≡ (1 + (length bs + 7) / 8) ∷ [] = small_is (1 + (length bs + 7) / 8) (omega (arith, few)) in
    ap (λ (i : ℕ). octet_length i ++ (u ∷ fs)) count ∙ ap (λ (l : List ℕ). l ++ (u ∷ fs)) small ∙ ap (λ (i : ℕ). (1 + (length bs + 7) / 8) ∷ i ∷ fs) unused

-- a string whose bits are those of the number, whatever stands after them
pub record IsFixedHeld (f : FixedString) (t : Shape) (n : ℕ) : Type 0 where
  pub value : Datum
  pub is : IsStringOf f n value
  pub read : (us r : List ℕ) → us ≡ packed (bits f.head_bits f.head) ++ (filled_bits (bits f.own_bits n) ++ r) → Spells oer_fields (Spelt oer None t) value us r

-- no bits stand before one without an extension mark
no_head : (f : FixedString) (own : ℕ) → IsInOctets f false own → packed (bits f.head_bits f.head) ≡ []
no_head f own h = ap (λ (k : ℕ). packed (bits k f.head)) h.head_bits

-- a length and a count of unused bits before one with such a mark
marked_head : (f : FixedString) (own : ℕ) → IsInOctets f true own → packed (bits f.head_bits f.head) ≡ (1 + (own + 7) / 8) ∷ (8 - own % 8) % 8 ∷ []
marked_head f own h =
    let k = 1 + (own + 7) / 8 in
    let u = (8 - own % 8) % 8 in
    let number : f.head ≡ 256 * k + u = h.head refl ∙ ap (λ (i : ℕ). 256 * k + i) h.unused in
    let octets_are : packed (bits 16 (256 * k + u)) ≡ octets 2 (256 * k + u) = ap packed (sym (append-nil (bits 16 (256 * k + u)))) ∙ packed_number 2 (256 * k + u) [] ∙ append-nil (octets 2 (256 * k + u)) in
    ap (λ (i : ℕ). packed (bits i f.head)) h.head_bits ∙ ap (λ (i : ℕ). packed (bits 16 i)) number ∙ octets_are ∙ head_octets k u (omega (arith, h.few)) (omega arith)

-- the octets of a BIT STRING of the only length of its size
bits_held : (f : FixedString) (s : SizeRange) (m : Bool) (n : ℕ) → s.extensible ≡ m → IsOnlyLength s f.length → IsInOctets f m f.length
    → packed (bits f.head_bits f.head) ++ filled_bits (bits f.own_bits n) ≡ bit_octets s (bits f.length n)
bits_held f s false n e only h =
    let bs = bits f.length n in
    let plain : bit_octets s bs ≡ filled_bits bs = ap (λ (b : Bool). elim b [ true ↦ filled_bits bs | false ↦ variable_bits bs ]) (fixed_size_is s f.length only e) in
    ap (λ (l : List ℕ). l ++ filled_bits (bits f.own_bits n)) (no_head f f.length h) ∙ ap (λ (k : ℕ). filled_bits (bits k n)) h.own_bits ∙ sym plain
bits_held f s true n e only h =
    let bs = bits f.length n in
    let many : length bs ≡ f.length = length-digits 2 f.length n in
    let form : bit_octets s bs ≡ variable_bits bs = ap (λ (b : Bool). elim b [ true ↦ filled_bits bs | false ↦ variable_bits bs ]) (marked_size_is s e) in
    let whole : variable_bits bs ≡ (1 + (f.length + 7) / 8) ∷ (8 - f.length % 8) % 8 ∷ filled_bits bs = variable_is bs (omega (arith, many, h.few)) ∙ ap (λ (k : ℕ). (1 + (k + 7) / 8) ∷ (8 - k % 8) % 8 ∷ filled_bits bs) many in
    ap (λ (l : List ℕ). l ++ filled_bits (bits f.own_bits n)) (marked_head f f.length h)
    ∙ ap (λ (k : ℕ). (1 + (f.length + 7) / 8) ∷ (8 - f.length % 8) % 8 ∷ filled_bits (bits k n)) h.own_bits ∙ sym (form ∙ whole)

-- those of an OCTET STRING of the only length
octets_held : (f : FixedString) (s : SizeRange) (n : ℕ) → s.extensible ≡ false → IsOnlyLength s f.length → IsInOctets f false (8 * f.length)
    → packed (bits f.head_bits f.head) ++ filled_bits (bits f.own_bits n) ≡ sized_octets s (octets f.length n)
octets_held f s n e only h =
    let os = octets f.length n in
    let plain : sized_octets s os ≡ os = ap (λ (b : Bool). elim b [ true ↦ os | false ↦ spelled os ]) (fixed_size_is s f.length only e) in
    let bs = bits (8 * f.length) n in
    let whole : (8 - length bs % 8) % 8 ≡ 0 = omega (arith, length-digits 2 (8 * f.length) n) in
    let none : padding (length bs) ≡ [] = ap (λ (k : ℕ). replicate k 0) whole in
    let filled : filled_bits bs ≡ os = ap (λ (l : List ℕ). packed (bs ++ l)) none ∙ packed_number f.length n [] ∙ append-nil os in
    ap (λ (l : List ℕ). l ++ filled_bits (bits f.own_bits n)) (no_head f (8 * f.length) h) ∙ ap (λ (k : ℕ). filled_bits (bits k n)) h.own_bits ∙ filled ∙ sym plain

-- the only length of a size of the profile is one of its lengths
only_fits : (s : SizeRange) (n : ℕ) → size_above s ≡ false → large_size (Some s) ≡ false → IsOnlyLength s n → FitsLength s n
only_fits s n ordered small only = subst (FitsLength s) (length-replicate s.low true ∙ only.low) (shortest_fits s true ordered small)

pub fixed_held : (f : FixedString) (t : Shape) (n : ℕ) → InProfile t → IsFixedString f t → n < 2 ^ f.own_bits → IsFixedHeld f t n
fixed_held f (bit_string s) n good is room =
    let h : IsInOctets f s.extensible f.length = is.4 in
    let bs = bits f.length n in
    let ts : List Bool = map is_one bs in
    let same : map bit_of ts ≡ bs = bits_again bs (are_digits 2 f.length n (omega arith)) in
    let many : length ts ≡ f.length = length-map bs is_one ∙ length-digits 2 f.length n in
    let only : IsOnlyLength s (length ts) = subst (IsOnlyLength s) (sym many) is.1 in
    let fits : FitsLength s (length ts) = only_fits s (length ts) (good EmptyRange) (good SizeTooLarge) only in
    let code = bit_octets s (map bit_of ts) in
    let held = bits_held f s s.extensible n refl is.1 h in
    record {
      value = bit_list ts;
      is = (is.0, same);
      read = λ us r e. record {
        chunks = ones code;
        spelt = record { fits = (fits, tt); same = refl };
        contents = contents-ones oer_fields code;
        split = e ∙ sym (append_assoc (packed (bits f.head_bits f.head)) (filled_bits (bits f.own_bits n)) r) ∙ ap (λ (l : List ℕ). l ++ r) (held ∙ ap (bit_octets s) (sym same) ∙ sym (flat-ones spelled code));
      };
    }
fixed_held f (octet_string s) n good is room =
    let h : IsInOctets f false (8 * f.length) = is.5 in
    let os = octets f.length n in
    let many : length os ≡ f.length = length-digits 256 f.length n in
    let only : IsOnlyLength s (length os) = subst (IsOnlyLength s) (sym many) is.1 in
    let fits : FitsLength s (length os) = only_fits s (length os) (good EmptyRange) (good SizeTooLarge) only in
    let code = sized_octets s os in
    let held = octets_held f s n is.2 is.1 h in
    record {
      value = octet_list os;
      is = (is.0, refl);
      read = λ us r e. record {
        chunks = ones code;
        spelt = record { fits = ((fits, all_octets f.length n), tt); same = refl };
        contents = contents-ones oer_fields code;
        split = e ∙ sym (append_assoc (packed (bits f.head_bits f.head)) (filled_bits (bits f.own_bits n)) r) ∙ ap (λ (l : List ℕ). l ++ r) (held ∙ sym (flat-ones spelled code));
      };
    }
fixed_held f _ n good is room = absurd is

-- what is told of a word: the number before the bits, that of the bits, and the zeros
pub string_taken : (f : FixedString) (n : ℕ) (old mid new last : Word) (us : List ℕ) → f.head_bits % 8 ≡ 0 → f.unused ≡ (8 - f.own_bits % 8) % 8
    → bits old.left old.bits ≡ bits f.head_bits f.head ++ bits mid.left mid.bits
    → bits mid.left mid.bits ≡ bits f.own_bits n ++ bits new.left new.bits
    → bits new.left new.bits ≡ bits f.unused 0 ++ bits last.left last.bits
    → before oer_coding old us ≡ packed (bits f.head_bits f.head) ++ (filled_bits (bits f.own_bits n) ++ before oer_coding last us)
string_taken f n old mid new last us whole unused e g i =
    let hs = bits f.head_bits f.head in
    let bs = bits f.own_bits n in
    let zs = bits f.unused 0 in
    let rest = bits last.left last.bits in
    let count : length bs ≡ f.own_bits = length-digits 2 f.own_bits n in
    let filled : length (bs ++ zs) % 8 ≡ 0 = omega (arith, length-append bs zs, count, length-digits 2 f.unused 0, unused) in
    let headed : length hs % 8 ≡ 0 = omega (arith, length-digits 2 f.head_bits f.head, whole) in
    let are : AreBits (bs ++ zs) = digits-append 2 bs zs (digits_bits f.own_bits n) (digits_bits f.unused 0) in
    let next : bits mid.left mid.bits ≡ (bs ++ zs) ++ rest = g ∙ ap (λ (l : List ℕ). bs ++ l) i ∙ sym (append_assoc bs zs rest) in
    let zeros : zs ≡ padding (length bs) = bits_zero f.unused ∙ ap (λ (k : ℕ). replicate k 0) (unused ∙ ap (λ (k : ℕ). (8 - k % 8) % 8) (sym count)) in
    let tail : packed (bs ++ zs) ≡ filled_bits bs = ap (λ (l : List ℕ). packed (bs ++ l)) zeros in
    filled_taken old mid hs us (digits_bits f.head_bits f.head) headed e
    ∙ ap (λ (l : List ℕ). packed hs ++ l) (filled_taken mid last (bs ++ zs) us are filled next ∙ ap (λ (l : List ℕ). l ++ before oer_coding last us) tail)

-- the parts of what was worked out that do not speak of the type
pub record HasOctets (f : FixedString) : Type 0 where
  pub whole : f.head_bits % 8 ≡ 0
  pub unused : f.unused ≡ (8 - f.own_bits % 8) % 8

in_octets : (f : FixedString) (m : Bool) (own : ℕ) → IsInOctets f m own → HasOctets f
in_octets f m own h = record { whole = omega (arith, h.head_bits); unused = h.unused ∙ ap (λ (k : ℕ). (8 - k % 8) % 8) (sym h.own_bits) }

pub has_octets : (f : FixedString) (t : Shape) → IsFixedString f t → HasOctets f
has_octets f (bit_string s) is = in_octets f s.extensible f.length is.4
has_octets f (octet_string s) is = in_octets f false (8 * f.length) is.5
has_octets f _ is = absurd is
