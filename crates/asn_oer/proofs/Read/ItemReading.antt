-- The number of an item of an ENUMERATED as octets: where the reader of an item stands, and what it cites at each exit.
use Rattle.std.proofs.Common.{◌==◌, ◌⊎◌, inl, inr, ◌≡◌, ◌≤◌, ◌<◌, ◌+◌, ◌-◌, ◌*◌, ◌/◌, ◌%◌, ◌^◌, ◌&&◌, ℕ, zero, suc, ℤ, pos, Bool, true, false, Option, Some, None, List, [], ◌∷◌, ◌++◌, length, refl, sym, ap, ◌∙◌, subst, arith, append_assoc, length-append, nat_lt}
use Rattle.std.proofs.lemmas.Bool.{ltb-false, ltb-true, le-leb, lt-ltb, and_from, true≢false}
use Rattle.std.proofs.lemmas.List.{append-nil}
use Rattle.std.proofs.lemmas.Nat.{pow_pos, pow-add}
use Rattle.std.proofs.Math.Nat.{div-lt_iff_lt-mul}
use Rattle.std.specs.Option.{option_map, option_eq}
use Rattle.std.specs.Int.RustNames.{int_le, int_lt}
use Rattle.asn_values.specs.Datum.{Datum, item}
use Rattle.asn_values.specs.Fits.{Fits}
use Rattle.asn_values.specs.Profile.{InProfile}
use Rattle.asn_values.specs.Shape.{Label, MoreLabels, enumerated, more_labels}
use Rattle.asn_bits.specs.Numbers.{bits, octets, packed, signed_octets, signed_octet_count, least_signed, magnitude}
use Rattle.asn_bits.proofs.Digits.{digits_code}
use Rattle.asn_bits.proofs.Octets.{length-digits, signed_count_below}
use Rattle.asn_bits.proofs.Splits.{digits-add, digits-join, two_pow_octets}
use Rattle.asn_rules.specs.Chunks.{Chunk, ones}
use Rattle.asn_rules.specs.Components.{number_at}
use Rattle.asn_rules.specs.Forks.{Same}
use Rattle.asn_rules.specs.Languages.{Inhabited, IsLive, Lawful, Refused, Short, Spells}
use Rattle.asn_rules.specs.Listed.{IsOther, Spelt}
use Rattle.asn_rules.specs.Spellings.{SpelledBy}
use Rattle.asn_rules.proofs.Components.Listed.{spelt_lawful}
use Rattle.asn_bits.proofs.LengthsInOctets.{one_is, one_more}
use Rattle.asn_rules.proofs.Languages.Parts.{front_ones, refused_here}
use Rattle.asn_rules.proofs.Languages.Spellings.{same_spelled, units_front, units_short}
use Rattle.asn_rules.specs.OctetReading.{AtOctet}
use Rattle.asn_rules.proofs.Octets.OctetFields.{octet_fields_part}
use Rattle.asn_rules.proofs.Octets.Octetwise.{next_octet, no_octet}
use Rattle.asn_rules.specs.IntegerSets.{magnitude_of}
use Rattle.asn_oer.specs.LeafReading.{ItemBegins}
use Rattle.asn_oer.specs.Oer.{oer, oer_fields, item_number}
use Rattle.asn_oer.proofs.Encodings.SpeltLeaves.{item_short}
use Rattle.asn_oer.proofs.Encodings.Whole.{oer_part}
use Rattle.asn_oer.proofs.Plan.OctetsRead.{packed_number}
use Rattle.asn_oer.proofs.Write.WrittenItems.{item_narrow, long_form}

-- ---- octets of a number

-- a number of 32 bits has at most four octets
pub few_octets : (z : ℤ) → magnitude z < 2147483648 → signed_octet_count z ≤ 4
few_octets z h = signed_count_below z 4 (omega arith) (omega (arith, h))

-- the first octet in front of at most four
pub in_front : (k r : ℕ) → k ≤ 4 → r < 2 ^ (8 * k) → ((128 + k) * 2 ^ (8 * k) % 18446744073709551616 ≡ (128 + k) * 2 ^ (8 * k)) × ((128 + k) * 2 ^ (8 * k) + r < 256 ^ (1 + k)) × (256 ^ (1 + k) < 18446744073709551616)
in_front zero r h l = (omega arith, omega (arith, l), omega arith)
in_front (suc zero) r h l = (omega arith, omega (arith, l), omega arith)
in_front (suc (suc zero)) r h l = (omega arith, omega (arith, l), omega arith)
in_front (suc (suc (suc zero))) r h l = (omega arith, omega (arith, l), omega arith)
in_front (suc (suc (suc (suc zero)))) r h l = (omega arith, omega (arith, l), omega arith)
in_front (suc (suc (suc (suc (suc k))))) r h l = absurd (omega arith)

-- the long form as one number
pub long_number : (z : ℤ) (k r : ℕ) → (int_le (pos 0) z && int_lt z (pos 128)) ≡ false → k ≡ signed_octet_count z → signed_octets k z ≡ octets k r → k ≤ 4 → r < 2 ^ (8 * k)
    → item_number z ≡ octets (1 + k) ((128 + k) * 2 ^ (8 * k) % 18446744073709551616 + r)
long_number z k r f e o h l =
    let fits : r < 256 ^ k = omega (arith, l, two_pow_octets k) in
    let join = digits-join 256 (omega arith) 1 k (128 + k) r fits in
    let first = one_is (128 + k) (omega (arith, h)) in
    long_form z k r f e o ∙ ap (λ (t : List ℕ). t ++ octets k r) (sym first) ∙ join
    ∙ ap (λ (i : ℕ). octets (1 + k) (i + r)) (ap (λ (p : ℕ). (128 + k) * p) (two_pow_octets k) ∙ sym (in_front k r h l).0)

-- the first octets of a number
pub first_octets : (all n count begun : ℕ) → count ≤ all → n / 2 ^ (8 * (all - count)) ≡ begun → octets all n ≡ octets count begun ++ octets (all - count) n
first_octets all n count begun h e =
    let sum : all ≡ count + (all - count) = omega (arith, h) in
    ap (λ (i : ℕ). octets i n) sum ∙ digits-add 256 count (all - count) n
    ∙ ap (λ (i : ℕ). octets count i ++ octets (all - count) n) (ap (λ (p : ℕ). n / p) (two_pow_octets (all - count)) ∙ e)

-- a number with these octets in front begins so
pub begins_so : (all n count begun : ℕ) (rest : List ℕ) → n < 256 ^ all → begun < 256 ^ count → octets all n ≡ octets count begun ++ rest → (count ≤ all) × (n / 2 ^ (8 * (all - count)) ≡ begun)
begins_so all n count begun rest h l e = (fits, sym (ap (λ (p : ℕ). n / p) (two_pow_octets (all - count))) ∙ w.0)
  where
    fits : count ≤ all
    fits = omega (arith, ap length e, length-append (octets count begun) rest, length-digits 256 all n, length-digits 256 count begun)

    sum : all ≡ count + (all - count)
    sum = omega (arith, fits)

    power : 256 ^ all ≡ 256 ^ count * 256 ^ (all - count)
    power = ap (λ (i : ℕ). 256 ^ i) sum ∙ pow-add 256 count (all - count)

    below : n / 256 ^ (all - count) < 256 ^ count
    below = (div-lt_iff_lt-mul (omega (arith, two_pow_octets (all - count), pow_pos (8 * (all - count))))).1 (omega (arith, h, power))

    w : (n / 256 ^ (all - count) ≡ begun) × (octets (all - count) n ≡ rest)
    w = digits_code 256 (omega arith) count (n / 256 ^ (all - count)) begun (octets (all - count) n) rest below l (sym (digits-add 256 count (all - count) n) ∙ ap (λ (i : ℕ). octets i n) (sym sum) ∙ e)

-- ---- positions

-- a position below the next one is below this one, or this one
pub up_to : (n p : ℕ) → p < n + 1 → (p < n) ⊎ (p ≡ n)
up_to n p h = go (nat_lt p n) refl
  where
    go : (b : Bool) → nat_lt p n ≡ b → (p < n) ⊎ (p ≡ n)
    go true e = inl (ltb-true p n e)
    go false e = inr (omega (arith, h, ltb-false p n e))

-- the item that is left out
pub left_out : (e : Option ℕ) (p : ℕ) → option_eq (λ x y. x == y) e (Some p) ≡ true → IsOther (option_map item e) (item p) → ⊥
left_out None p h o = absurd (true≢false (sym h))
left_out (Some d) p h o = true≢false (sym h ∙ o)

-- another one
pub another_item : (e : Option ℕ) (p : ℕ) → option_eq (λ x y. x == y) e (Some p) ≡ false → IsOther (option_map item e) (item p)
another_item None p h = tt
another_item (Some d) p h = h

-- ---- the items

-- some item has these octets, and is not at its end
pub record Begun (labels : List Label) (e : Option ℕ) (os : List ℕ) : Type 0 where
  pub place : ℕ
  pub next : ℕ
  pub rest : List ℕ
  pub begins : ItemBegins labels e place os (next ∷ rest)

module _ (root : List Label) (more : MoreLabels) (e : Option ℕ) (good : InProfile (enumerated root more)) where
  abbrev labels : List Label
  labels = root ++ more_labels more

  abbrev Others : Datum → List Chunk → Type 0
  Others = Spelt oer (option_map item e) (enumerated root more)

  abbrev IsOne : Datum → Type 0
  IsOne v = Fits (enumerated root more) v × IsOther (option_map item e) v

  abbrev octets_of : Datum → List ℕ
  octets_of (item p) = item_number (number_at labels p)
  octets_of _ = []

  others_spelled : Same Others (SpelledBy IsOne (λ v. ones (octets_of v)))
  others_spelled = same_spelled (λ v h. h) (λ v h. h) same
    where
      same : (v : Datum) → IsOne v → oer (enumerated root more) v ≡ ones (octets_of v)
      same (item p) h = refl
      same _ h = absurd h.0

  others_lawful : Lawful Others
  others_lawful = spelt_lawful oer oer_part (option_map item e) (enumerated root more) good

  is_one : (p : ℕ) (os rest : List ℕ) → ItemBegins labels e p os rest → IsOne (item p)
  is_one p os rest h = (omega (arith, h.there, length-append root (more_labels more)), h.other)

  -- an item and others after it
  pub item_done : (p : ℕ) (os us : List ℕ) → ItemBegins labels e p os [] → Spells oer_fields Others (item p) (os ++ us) us
  item_done p os us h =
      let whole : item_number (number_at labels p) ≡ os = h.whole ∙ append-nil os in
      subst (λ (l : List ℕ). Spells oer_fields Others (item p) (l ++ us) us) whole (units_front octets_of oer_fields others_spelled (item p) (is_one p os [] h) us)

  pub item_short_of : (os : List ℕ) → Begun labels e os → Short oer_fields Others os
  item_short_of os h = units_short octets_of octet_fields_part others_lawful others_spelled (item h.place) (is_one h.place os (h.next ∷ h.rest) h.begins) os h.next h.rest (sym h.begins.whole)

  -- an octet with which no item goes on
  pub item_refused : (os : List ℕ) (o : ℕ) (us : List ℕ) → Begun labels e os → ((p : ℕ) (rest : List ℕ) → ItemBegins labels e p (os ++ o ∷ []) rest → ⊥) → Refused oer_fields Others (os ++ o ∷ us) (length us)
  item_refused os o us h none = refused_here octet_fields_part os o us (item_short_of os h) dead
    where
      dead : IsLive oer_fields Others (os ++ o ∷ []) → ⊥
      dead l =
          let w = others_spelled.to l.value l.chunks l.spelt in
          let f = front_ones oer_fields (octets_of l.value) (os ++ o ∷ []) (rw w.same at l.front) in
          go l.value w.fits f.0 f.1
        where
          go : (v : Datum) → IsOne v → (rest : List ℕ) → octets_of v ≡ (os ++ o ∷ []) ++ rest → ⊥
          go (item p) h rest e = none p rest (record { there = omega (arith, h.0, length-append root (more_labels more)); other = h.1; whole = e })
          go _ h rest e = absurd h.0

  -- at the start some item is ahead
  pub item_ahead : Inhabited Others → Begun labels e []
  item_ahead h =
      let w = others_spelled.to h.value h.chunks h.spelt in
      go h.value w.fits
    where
      some : (z : ℤ) → (o : ℕ) × (os : List ℕ) × (item_number z ≡ o ∷ os)
      some z = by_form (int_le (pos 0) z && int_lt z (pos 128))
        where
          by_form : (b : Bool) → (o : ℕ) × (os : List ℕ) × (elim b [ true ↦ magnitude_of z ∷ [] | false ↦ (128 + length (least_signed z)) ∷ least_signed z ] ≡ o ∷ os)
          by_form true = (magnitude_of z, [], refl)
          by_form false = (128 + length (least_signed z), least_signed z, refl)

      go : (v : Datum) → IsOne v → Begun labels e []
      go (item p) f = let w = some (number_at labels p) in record { place = p; next = w.0; rest = w.1; begins = record { there = omega (arith, f.0, length-append root (more_labels more)); other = f.1; whole = w.2 } }
      go _ f = absurd f.0

  -- no item has more than five octets
  pub five_at_most : (begun : ℕ) → Begun labels e (octets 5 begun) → ⊥
  five_at_most begun h =
      let s = (item_short (number_at labels h.place) (item_narrow root more h.place good)).most in
      omega (arith, s, ap length h.begins.whole, length-append (octets 5 begun) (h.next ∷ h.rest), length-digits 256 5 begun)

  -- ---- at the exits of the reader, where these octets have been read

  module _ (us : List ℕ) (taken begun : ℕ) (now : List ℕ) (so_far : packed us ≡ octets taken begun ++ packed now) where
    pub no_octet_left : Begun labels e (octets taken begun) → AtOctet now → length now < 8 → Short oer_fields Others (packed us)
    no_octet_left h a l =
        let all : packed us ≡ octets taken begun = so_far ∙ ap (λ (r : List ℕ). octets taken begun ++ r) (no_octet now a l) ∙ append-nil (octets taken begun) in
        subst (λ (r : List ℕ). Short oer_fields Others r) (sym all) (item_short_of (octets taken begun) h)

    module _ (o : ℕ) (after : List ℕ) (octet : o < 256) (split : now ≡ bits 8 o ++ after) where
      pub comes : packed us ≡ octets (taken + 1) (256 * begun + o) ++ packed after
      comes =
          so_far ∙ ap (λ (r : List ℕ). octets taken begun ++ r) (ap packed split ∙ next_octet o after octet) ∙ sym (append_assoc (octets taken begun) (o ∷ []) (packed after))
          ∙ ap (λ (r : List ℕ). r ++ packed after) (one_more taken begun o octet)

      pub no_item_goes_on : Begun labels e (octets taken begun) → ((p : ℕ) (rest : List ℕ) → ItemBegins labels e p (octets (taken + 1) (256 * begun + o)) rest → ⊥) → Refused oer_fields Others (packed us) (length (packed after))
      no_item_goes_on h none =
          let whole : packed us ≡ octets taken begun ++ o ∷ packed after = so_far ∙ ap (λ (r : List ℕ). octets taken begun ++ r) (ap packed split ∙ next_octet o after octet) in
          subst (λ (r : List ℕ). Refused oer_fields Others r (length (packed after))) (sym whole)
          (item_refused (octets taken begun) o (packed after) h (λ p rest b. none p rest (subst (λ (r : List ℕ). ItemBegins labels e p r rest) (one_more taken begun o octet) b)))

      pub item_ends : (p : ℕ) (rest : List ℕ) → ItemBegins labels e p (octets (taken + 1) (256 * begun + o)) rest → length rest ≡ 0 → Spells oer_fields Others (item p) (packed us) (packed after)
      item_ends p [] b l = subst (λ (r : List ℕ). Spells oer_fields Others (item p) r (packed after)) (sym comes) (item_done p (octets (taken + 1) (256 * begun + o)) (packed after) b)
      item_ends p (x ∷ rest) b l = absurd (omega (arith, l))

      pub item_goes_on : (p : ℕ) (rest : List ℕ) → ItemBegins labels e p (octets (taken + 1) (256 * begun + o)) rest → 0 < length rest → Begun labels e (octets (taken + 1) (256 * begun + o))
      item_goes_on p [] b l = absurd (omega (arith, l))
      item_goes_on p (x ∷ rest) b l = record { place = p; next = x; rest = rest; begins = b }

-- five octets are a number of 64 bits
pub below_word : (t b : ℕ) → t < 5 → b < 256 ^ t → 256 * b + 255 < 18446744073709551616
below_word zero b h l = omega (arith, l)
below_word (suc zero) b h l = omega (arith, l)
below_word (suc (suc zero)) b h l = omega (arith, l)
below_word (suc (suc (suc zero))) b h l = omega (arith, l)
below_word (suc (suc (suc (suc zero)))) b h l = omega (arith, l)
below_word (suc (suc (suc (suc (suc t))))) b h l = absurd (omega (arith, h))

-- an item of a small number is told by one octet
pub item_at_once : (root : List Label) (more : MoreLabels) → InProfile (enumerated root more) → (us after : List ℕ) (p n : ℕ)
    → p < length (root ++ more_labels more) → n < 128 → number_at (root ++ more_labels more) p ≡ pos n → us ≡ bits 8 n ++ after
    → Spells oer_fields (Spelt oer None (enumerated root more)) (item p) (packed us) (packed after)
item_at_once root more good us after p n there small number split =
    item_ends root more None good us 0 0 us refl n after (omega (arith, small)) split p [] (record { there = there; other = tt; whole = whole }) refl
  where
    flag : (int_le (pos 0) (pos n) && int_lt (pos n) (pos 128)) ≡ true
    flag = and_from (int_le (pos 0) (pos n)) (int_lt (pos n) (pos 128)) (le-leb 0 n (omega arith)) (lt-ltb n 128 small)

    short : item_number (pos n) ≡ n ∷ []
    short = ap (λ (b : Bool). elim b [ true ↦ n ∷ [] | false ↦ (128 + length (least_signed (pos n))) ∷ least_signed (pos n) ]) flag

    same : n ≡ 256 * 0 + n
    same = omega arith

    whole : item_number (number_at (root ++ more_labels more) p) ≡ octets (0 + 1) (256 * 0 + n) ++ []
    whole =
        ap (λ (z : ℤ). item_number z) number ∙ short ∙ sym (one_is n (omega (arith, small))) ∙ ap (λ (m : ℕ). octets 1 m) same
        ∙ sym (append-nil (octets 1 (256 * 0 + n)))

-- an item whose octets were taken as one number
pub item_taken : (root : List Label) (more : MoreLabels) (e : Option ℕ) → InProfile (enumerated root more) → (p k n : ℕ) (us after : List ℕ)
    → p < length (root ++ more_labels more) → IsOther (option_map item e) (item p) → item_number (number_at (root ++ more_labels more) p) ≡ octets k n
    → us ≡ bits (8 * k) n ++ after → Spells oer_fields (Spelt oer (option_map item e) (enumerated root more)) (item p) (packed us) (packed after)
item_taken root more e good p k n us after there other whole split =
    let begins : ItemBegins (root ++ more_labels more) e p (octets k n) [] = record { there = there; other = other; whole = whole ∙ sym (append-nil (octets k n)) } in
    let front : packed us ≡ octets k n ++ packed after = ap packed split ∙ packed_number k n after in
    subst (λ (l : List ℕ). Spells oer_fields (Spelt oer (option_map item e) (enumerated root more)) (item p) l (packed after)) (sym front) (item_done root more e good p (octets k n) (packed after) begins)
