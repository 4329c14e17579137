-- ENUMERATED in OER: which octets the numbers of the items have, and which item a number is.
use Rattle.std.proofs.Common.{◌≡◌, ◌≤◌, ◌<◌, ◌-◌, ◌+◌, ◌*◌, ◌^◌, ◌⊎◌, ℕ, zero, suc, ℤ, pos, negsuc, Bool, true, false, List, [], ◌∷◌, ◌++◌, length, inl, inr, refl, sym, ap, ◌∙◌, subst, nat_le, nat_lt, arith, length-append}
use Rattle.std.proofs.lemmas.Bool.{true≢false, ltb-true, ltb-false, lt-ltb, le-leb, and_parts}
use Rattle.std.specs.Int.RustNames.{int_le, int_lt}
use Rattle.asn_values.specs.Datum.{Datum, item}
use Rattle.asn_values.specs.Shape.{Label, MoreLabels, more_labels, enumerated}
use Rattle.asn_values.specs.Fits.{Fits}
use Rattle.asn_values.specs.Profile.{InProfile, BadEnumeration, int_eq}
use Rattle.asn_bits.specs.Numbers.{digits, octets, magnitude, signed_octet_count, least_signed}
use Rattle.asn_bits.proofs.Octets.{residue, signed_is, residue_fits, length-least_signed, signed_count_below, signed_count_some, signed_fits}
use Rattle.asn_rules.specs.Chunks.{Chunk, one, ones}
use Rattle.asn_rules.specs.Components.{number_at}
use Rattle.asn_rules.specs.Languages.{Map, Nothing, Plain}
use Rattle.asn_bits.specs.Sets.{InDigits}
use Rattle.asn_rules.specs.Forks.{Same}
use Rattle.asn_rules.specs.Counted.{SomeOf, signed_number, LeastSigned}
use Rattle.asn_rules.specs.Spellings.{SpelledBy}
use Rattle.asn_rules.proofs.Numbers.CountedCodes.{residue_of, number_again}
use Rattle.asn_rules.proofs.Law.Entries.{le_z_antisymm}
use Rattle.asn_rules.proofs.Law.Items.{int_eq_refl, good_items, item_once}
use Rattle.asn_bits.proofs.LengthsInOctets.{one_is}
use Rattle.asn_rules.proofs.Languages.Spellings.{same_after, same_then, same_map, same_spelled, digits_spelled, map_spelled, nothing_spelled, then_spelled}
use Rattle.asn_walk.proofs.ItemNumbers.{number_is_small}
use Rattle.asn_oer.specs.Oer.{item_number, oer}
use Rattle.asn_oer.specs.SimpleTypes.{IsNumberOf, place_of, is_short, LongOnes, ItemOctet, AfterItemOctet, ItemNumbers, item_told, Items}

-- ---- the numbers

-- a number from 0 to 127 is its octet
short_code : (b : ℕ) → b < 128 → item_number (pos b) ≡ b ∷ []
short_code b h =
    let low : nat_le 0 b ≡ true = le-leb 0 b (omega arith) in
    let high = lt-ltb b 128 h in
    rw (low, high, item_number) refl

-- another stands after the count of its octets
long_code : (z : ℤ) → is_short z ≡ false → item_number z ≡ (128 + signed_octet_count z) ∷ octets (signed_octet_count z) (residue (signed_octet_count z) z)
long_code z e = rw (e, item_number) (ap (λ (k : ℕ). (128 + k) ∷ least_signed z) (length-least_signed z) ∙ ap (λ (os : List ℕ). (128 + signed_octet_count z) ∷ os) (signed_is (signed_octet_count z) z))

-- a short number is one from 0 to 127
short_is : (z : ℤ) → is_short z ≡ true → (n : ℕ) × (n < 128) × (z ≡ pos n)
short_is (pos n) e = let w = and_parts (int_le (pos 0) (pos n)) (int_lt (pos n) (pos 128)) e in (n, ltb-true n 128 w.1, refl)
short_is (negsuc n) e = absurd (true≢false (sym e))

module _ (S : ℤ → Type 0) where
  -- the long numbers in k octets
  abbrev OfCount : ℕ → ℤ → Type 0
  OfCount k z = LongOnes S z × (signed_octet_count z ≡ k)

  -- in k octets of two's complement
  long_spelled : (k : ℕ) → Same (Map (λ n. signed_number (k, n)) (Plain (InDigits 256 k (LeastSigned (LongOnes S) k)))) (SpelledBy (OfCount k) (λ z. ones (octets k (residue k z))))
  long_spelled k = same_after (same_map (digits_spelled 256 k (LeastSigned (LongOnes S) k) (λ n l. l.fits))) (map_spelled there back)
    where
      there : (n : ℕ) → LeastSigned (LongOnes S) k n → OfCount k (signed_number (k, n)) × (ones (digits 256 k n) ≡ ones (octets k (residue k (signed_number (k, n)))))
      there n l =
          let some : 1 ≤ k = subst (λ (i : ℕ). 1 ≤ i) l.count (signed_count_some (signed_number (k, n))) in
          ((l.member, l.count), ap (λ (i : ℕ). ones (digits 256 k i)) (sym (residue_of k n some l.fits)))

      back : (z : ℤ) → OfCount k z → (n : ℕ) × LeastSigned (LongOnes S) k n × (z ≡ signed_number (k, n))
      back z h =
          let some : 1 ≤ k = subst (λ (i : ℕ). 1 ≤ i) h.1 (signed_count_some z) in
          let room : magnitude z < 2 ^ (8 * k - 1) = subst (λ (i : ℕ). magnitude z < 2 ^ (8 * i - 1)) h.1 (signed_fits z) in
          let again : signed_number (k, residue k z) ≡ z = number_again k z some room in
          (residue k z, record { member = subst (LongOnes S) (sym again) h.0; count = ap signed_octet_count again ∙ h.1; fits = residue_fits k z some room }, sym again)

  -- what stands after the first octet, as it is spelt
  abbrev AfterFits : ℕ → ℤ → Type 0
  AfterFits b z = ((b < 128) × (z ≡ pos b)) ⊎ ((128 ≤ b) × OfCount (b - 128) z)

  -- its octets
  abbrev after_code : ℕ → ℤ → List Chunk
  after_code b z = elim (nat_lt b 128) [ true ↦ [] | false ↦ ones (octets (b - 128) (residue (b - 128) z)) ]

  -- what stands after the first octet is spelt so
  after_spelled : (b : ℕ) → Same (AfterItemOctet S b) (SpelledBy (AfterFits b) (after_code b))
  after_spelled b = go (nat_lt b 128) refl
    where
      go : (t : Bool) → nat_lt b 128 ≡ t
          → Same {V = ℤ} (elim t [ true ↦ Nothing (pos b) | false ↦ Map (λ n. signed_number (b - 128, n)) (Plain (InDigits 256 (b - 128) (LeastSigned (LongOnes S) (b - 128)))) ]) (SpelledBy (AfterFits b) (λ z. elim t [ true ↦ [] | false ↦ ones (octets (b - 128) (residue (b - 128) z)) ]))
      go true e =
          let small : b < 128 = ltb-true b 128 e in
          same_after (nothing_spelled (pos b)) (same_spelled (λ z h. inl (small, h)) (λ z h. elim h [ inl a ↦ a.1 | inr c ↦ absurd (let l = c.0 in omega arith) ]) (λ z h. refl))
      go false e =
          let large : 128 ≤ b = ltb-false b 128 e in
          same_after (long_spelled (b - 128)) (same_spelled (λ z h. inr (large, h)) (λ z h. elim h [ inl a ↦ absurd (let l = a.0 in omega arith) | inr c ↦ c.1 ]) (λ z h. refl))

  -- after a small first octet nothing stands
  small_after : (b : ℕ) (z : ℤ) → b < 128 → after_code b z ≡ []
  small_after b z h = let e : nat_lt b 128 ≡ true = lt-ltb b 128 h in rw (e, after_code) refl

  -- after a large one as many octets as it says
  large_after : (b : ℕ) (z : ℤ) → 128 ≤ b → after_code b z ≡ ones (octets (b - 128) (residue (b - 128) z))
  large_after b z h = go (nat_lt b 128) refl
    where
      go : (t : Bool) → nat_lt b 128 ≡ t → after_code b z ≡ ones (octets (b - 128) (residue (b - 128) z))
      go true e = absurd (let l = ltb-true b 128 e in omega arith)
      go false e = rw (e, after_code) refl

  -- the first octet is one
  first_fits : (b : ℕ) → ItemOctet S b → b < 256 ^ 1
  first_fits b (inl h) = (let l = h.0 in omega arith)
  first_fits b (inr h) = (let f = h.1.few in omega arith)

  -- the numbers of the set, as they are spelt
  pub item_numbers_spelled : ((z : ℤ) → S z → signed_octet_count z < 128) → Same (ItemNumbers S) (SpelledBy S (λ z. ones (item_number z)))
  item_numbers_spelled few = same_after (same_map (same_after (same_then (digits_spelled 256 1 (ItemOctet S) first_fits) after_spelled) then_spelled)) (map_spelled there back)
    where
      small : (b : ℕ) (z : ℤ) → b < 128 → z ≡ pos b → ones (digits 256 1 b) ++ after_code b z ≡ ones (item_number z)
      small b z l e =
          let first : ones (digits 256 1 b) ≡ one b ∷ [] = ap ones (one_is b (omega arith)) in
          ap (λ (t : List Chunk). t ++ after_code b z) first ∙ ap (λ (t : List Chunk). one b ∷ t) (small_after b z l) ∙ ap ones (sym (short_code b l)) ∙ ap (λ (y : ℤ). ones (item_number y)) (sym e)

      large : (b : ℕ) (z : ℤ) → 128 ≤ b → b < 256 → OfCount (b - 128) z → ones (digits 256 1 b) ++ after_code b z ≡ ones (item_number z)
      large b z l w h =
          let first : ones (digits 256 1 b) ≡ one b ∷ [] = ap ones (one_is b w) in
          let again : b ≡ 128 + signed_octet_count z = omega (arith, h.1) in
          ap (λ (t : List Chunk). t ++ after_code b z) first ∙ ap (λ (t : List Chunk). one b ∷ t) (large_after b z l ∙ ap (λ (i : ℕ). ones (octets i (residue i z))) (sym h.1)) ∙ ap (λ (i : ℕ). one i ∷ ones (octets (signed_octet_count z) (residue (signed_octet_count z) z))) again ∙ ap ones (sym (long_code z h.0.1))

      there : (p : ℕ × ℤ) → ItemOctet S p.0 × AfterFits p.0 p.1 → S p.1 × (ones (digits 256 1 p.0) ++ after_code p.0 p.1 ≡ ones (item_number p.1))
      there p h = elim h.1 [
        | inl a ↦ (elim h.0 [ inl f ↦ subst S (sym a.1) f.1 | inr f ↦ absurd (let l = a.0 in let m = f.0 in omega arith) ], small p.0 p.1 a.0 a.1)
        | inr c ↦ (c.1.0.0, large p.0 p.1 c.0 (let w = first_fits p.0 h.0 in omega arith) c.1)
      ]

      back : (z : ℤ) → S z → (p : ℕ × ℤ) × (ItemOctet S p.0 × AfterFits p.0 p.1) × (z ≡ p.1)
      back z s = go (is_short z) refl
        where
          go : (t : Bool) → is_short z ≡ t → (p : ℕ × ℤ) × (ItemOctet S p.0 × AfterFits p.0 p.1) × (z ≡ p.1)
          go true e = let n = short_is z e in ((n.0, z), (inl (n.1, subst S n.2 s), inl (n.1, n.2)), refl)
          go false e =
              let k = signed_octet_count z in
              let same : k ≡ 128 + k - 128 = omega arith in
              let some = signed_count_some z in
              let again : signed_number (k, residue k z) ≡ z = number_again k z some (signed_fits z) in
              let l : LeastSigned (LongOnes S) k (residue k z) = record { member = subst (LongOnes S) (sym again) (s, e); count = ap signed_octet_count again; fits = residue_fits k z some (signed_fits z) } in
              let of : SomeOf (LeastSigned (LongOnes S)) k = record { few = few z s; number = residue k z; member = l; fits = residue_fits k z some (signed_fits z) } in
              ((128 + k, z), (inr (omega arith, subst (SomeOf (LeastSigned (LongOnes S))) same of), inr (omega arith, ((s, e), same))), refl)

-- ---- the items

-- where a number is that of an item, it is that of the item at its position
place_has : (labels : List Label) (z : ℤ) (p : ℕ) → p < length labels → z ≡ number_at labels p → (place_of labels z < length labels) × (z ≡ number_at labels (place_of labels z))
place_has [] z p h e = absurd (omega arith)
place_has (l ∷ labels) z p h e = go (int_eq z l.number) refl (λ q i f. place_has labels z q i f) p h e
  where
    equal : int_eq z l.number ≡ true → z ≡ l.number
    equal t = let w = and_parts (int_le z l.number) (int_le l.number z) t in le_z_antisymm z l.number w.0 w.1

    go : (t : Bool) → int_eq z l.number ≡ t → ((q : ℕ) → q < length labels → z ≡ number_at labels q → (place_of labels z < length labels) × (z ≡ number_at labels (place_of labels z))) → (p : ℕ) → p < suc (length labels) → z ≡ number_at (l ∷ labels) p
        → (elim t [ true ↦ 0 | false ↦ suc (place_of labels z) ] < suc (length labels)) × (z ≡ number_at (l ∷ labels) (elim t [ true ↦ 0 | false ↦ suc (place_of labels z) ]))
    go true t again p h e = (omega arith, equal t)
    go false t again zero h e = absurd (true≢false (sym (ap (λ (y : ℤ). int_eq y l.number) e ∙ int_eq_refl l.number) ∙ t))
    go false t again (suc p) h e = let w = again p (omega arith) e in (omega (arith, w.0), w.1)

module _ (root : List Label) (more : MoreLabels) (good : InProfile (enumerated root more)) where
  -- the items, those after the mark too
  abbrev labels : List Label
  labels = root ++ more_labels more

  -- the numbers of the items have few octets
  pub items_few : (z : ℤ) → IsNumberOf labels z → signed_octet_count z < 128
  items_few z h =
      let small : magnitude z < 2147483648 = subst (λ (y : ℤ). magnitude y < 2147483648) (sym h.same) (number_is_small labels h.place (good_items root more (good BadEnumeration)).bits_32) in
      let l : signed_octet_count z ≤ 4 = signed_count_below z 4 (omega arith) (omega (arith, small)) in
      omega arith

  -- the numbers of the items, seen as the items
  pub items_seen : Same (Map (item_told labels) (SpelledBy (IsNumberOf labels) (λ z. ones (item_number z)))) (SpelledBy (Fits (enumerated root more)) (oer (enumerated root more)))
  items_seen = map_spelled there back
    where
      there : (z : ℤ) → IsNumberOf labels z → Fits (enumerated root more) (item_told labels z) × (ones (item_number z) ≡ oer (enumerated root more) (item_told labels z))
      there z h =
          let w = place_has labels z h.place h.here h.same in
          (omega (arith, w.0, length-append root (more_labels more)), ap (λ (y : ℤ). ones (item_number y)) w.1)

      back : (v : Datum) → Fits (enumerated root more) v → (z : ℤ) × IsNumberOf labels z × (v ≡ item_told labels z)
      back (item p) f =
          let z = number_at labels p in
          let n : length labels ≡ length root + length (more_labels more) = length-append root (more_labels more) in
          let w = place_has labels z p (omega (arith, f, n)) refl in
          (z, record { place = p; here = omega (arith, f, n); same = refl }, ap item (item_once root more (good_items root more (good BadEnumeration)) p (place_of labels z) f (omega (arith, w.0, n)) w.1))
      back _ f = absurd f

  -- ENUMERATED
  pub enumerated_language : Same (Items labels) (SpelledBy (Fits (enumerated root more)) (oer (enumerated root more)))
  enumerated_language = same_after (same_map (item_numbers_spelled (IsNumberOf labels) items_few)) items_seen
