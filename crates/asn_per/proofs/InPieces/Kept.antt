-- What is kept of open type fields and UTF8Strings in PER is their content; the other simple types are plain bits.
use Rattle.std.proofs.Common.{◌≡◌, ◌≢◌, ◌≤◌, ◌<◌, ◌+◌, ◌-◌, ◌/◌, ◌%◌, ◌^◌, ⊎_elim, ℕ, zero, suc, Bool, true, false, List, [], ◌∷◌, ◌++◌, length, length-append, map, append-nil, append_assoc, Option, Some, None, nat_lt, refl, sym, ap, ◌∙◌, subst, arith}
use Rattle.std.proofs.lemmas.Bool.{cases_eq}
use Rattle.std.proofs.lemmas.List.{length-map}
use Rattle.std.proofs.lemmas.Str.{IsUtf8-nil}
use Rattle.asn_values.specs.Datum.{Datum, truth, number, item, bit_list, octet_list, characters, unicode}
use Rattle.asn_values.specs.Fits.{in_size}
use Rattle.asn_values.specs.Shape.{SizeRange, Shape, boolean, null, integer, enumerated, bit_string, octet_string, restricted}
use Rattle.asn_bits.specs.Lengths.{lengths, joined, with_lengths, general}
use Rattle.asn_bits.specs.Numbers.{bits}
use Rattle.asn_bits.proofs.Octets.{length-digits}
use Rattle.asn_bits.proofs.Splits.{digits-add}
use Rattle.asn_rules.specs.Begun.{AllPlain}
use Rattle.asn_rules.specs.Chunks.{Chunk, one, ones}
use Rattle.asn_rules.specs.Components.{bit_of}
use Rattle.asn_rules.specs.Fields.{Octet}
use Rattle.asn_rules.specs.Languages.{IsFront, Short}
use Rattle.asn_rules.proofs.Languages.Parts.{contents-ones, front_ones}
use Rattle.asn_rules.proofs.Languages.Spellings.{same_after}
use Rattle.asn_rules.proofs.Live.Chunks.{ones-append}
use Rattle.asn_rules.proofs.Live.Fronts.{split}
use Rattle.asn_rules.proofs.Live.Flat.{flat-ones}
use Rattle.asn_rules.proofs.Remaining.Begun.{front_of_ones}
use Rattle.asn_rules.proofs.Sealed.Fields.{joined_ones, lengths_ones, octet_spelled}
use Rattle.asn_per.specs.Per.{per, per_fields, after_mark, within, sized, constrained, whole_number, enumeration, character_bits}
use Rattle.asn_per.specs.Rules.{per_ruling}
use Rattle.asn_per.specs.SingleItems.{at_least, under_size, per_field_coding}
use Rattle.asn_per.specs.Walk.{per_coding}
use Rattle.asn_per.proofs.InPieces.Brief.{few_start}
use Rattle.asn_per.proofs.InPieces.Fields.{items_sized, at_least_none}
use Rattle.asn_per.proofs.InPieces.Few.{HasFew}
use Rattle.asn_per.proofs.Read.Utf8Reading.{any_octets}
use Rattle.asn_walk.specs.Ahead.{Ahead}
use Rattle.asn_walk_feed.specs.Keeping.{OtherOctet, OctetsDiffer, IsUnsealed, KeepLaws}

-- ---- octets

-- an octet is its bits
spelt_octet : (x : ℕ) → x < 256 → Octet x (ones (bits 8 x))
spelt_octet x h = octet_spelled.from x (ones (bits 8 x)) (record { fits = h; same = refl })

-- no bit has come
first_octet : (s : SizeRange) (o : ℕ) (us : List ℕ) → us ≡ [] → OtherOctet per_coding (under_size s Octet) o us
unfolding per_coding per_ruling
first_octet s o us e = ⊎_elim
    (λ z. record { octet = 1; differs = λ x. (let y : 1 ≡ 0 = x ∙ z in absurd (omega (arith, y))); chunks = ones (bits 8 1); spelt = spelt_octet 1 (omega arith); front = rw e tt })
    (λ n. record { octet = 0; differs = λ x. n (sym x); chunks = ones (bits 8 0); spelt = spelt_octet 0 (omega arith); front = rw e tt })
    (cases_eq o 0)

-- bits that are not all of an octet's begin two octets, which differ in the last bit
module _ (us : List ℕ) (h : Short per_fields Octet us) where
  abbrev v : ℕ
  v = h.live.value

  octet_fits : v < 256
  octet_fits = (octet_spelled.to v h.live.chunks h.live.spelt).fits

  begun : (rest : List ℕ) × (bits 8 v ≡ us ++ rest)
  begun =
      let e = (octet_spelled.to v h.live.chunks h.live.spelt).same in
      let w = front_ones per_fields (bits 8 v) us (subst (λ (cs : List Chunk). IsFront per_fields cs us) e h.live.front) in
      (w.0, w.1)

  some_left : (rest : List ℕ) → bits 8 v ≡ us ++ rest → rest ≢ []
  some_left rest e z =
      let whole : us ≡ bits 8 v ++ [] = sym (append-nil us) ∙ ap (λ (l : List ℕ). us ++ l) (sym z) ∙ sym e ∙ sym (append-nil (bits 8 v)) in
      h.none v [] (record { chunks = ones (bits 8 v); spelt = spelt_octet v octet_fits; contents = contents-ones per_fields (bits 8 v); split = whole ∙ ap (λ (l : List ℕ). l ++ []) (sym (flat-ones per_fields.spelled (bits 8 v))) })

  short_enough : length us ≤ 7
  short_enough = go begun.0 begun.1 (some_left begun.0 begun.1)
    where
      go : (rest : List ℕ) → bits 8 v ≡ us ++ rest → rest ≢ [] → length us ≤ 7
      go [] e n = absurd (n refl)
      go (r ∷ rest) e n = (let all = sym (length-digits 2 8 v) ∙ ap length e ∙ length-append us (r ∷ rest) in omega (arith, all))

  high_bits : (m : List ℕ) × (bits 7 (v / 2 ^ 1) ≡ us ++ m)
  high_bits =
      let e : us ++ begun.0 ≡ bits 7 (v / 2 ^ 1) ++ bits 1 v = sym begun.1 ∙ digits-add 2 7 1 v in
      ⊎_elim
      (λ w. (w.0, w.1))
      (λ w. (let all = ap length w.2 ∙ length-append (bits 7 (v / 2 ^ 1)) (w.0 ∷ w.1) in absurd (omega (arith, all, short_enough, length-digits 2 7 (v / 2 ^ 1)))))
      (split us (bits 7 (v / 2 ^ 1)) begun.0 (bits 1 v) e)

  -- another with the same first bits
  front_of : (w : ℕ) → w / 2 ^ 1 ≡ v / 2 ^ 1 → IsFront per_fields (ones (bits 8 w)) us
  front_of w e =
      let all : bits 8 w ≡ us ++ (high_bits.0 ++ bits 1 w) = digits-add 2 7 1 w ∙ ap (λ (n : ℕ). bits 7 n ++ bits 1 w) e ∙ ap (λ (l : List ℕ). l ++ bits 1 w) high_bits.1 ∙ append_assoc us high_bits.0 (bits 1 w) in
      subst (λ (l : List ℕ). IsFront per_fields (ones l) us) (sym all) (front_of_ones per_fields us (high_bits.0 ++ bits 1 w))

  module _ (s : SizeRange) (o : ℕ) where
    with_first : (w : ℕ) → w < 256 → w / 2 ^ 1 ≡ v / 2 ^ 1 → w ≢ o → OtherOctet per_coding (under_size s Octet) o us
    unfolding per_coding per_ruling
    with_first w l e n = record { octet = w; differs = n; chunks = ones (bits 8 w); spelt = spelt_octet w l; front = front_of w e }

    other_octet : OtherOctet per_coding (under_size s Octet) o us
    other_octet = ⊎_elim (λ e. turned (v % 2) refl e) (λ n. with_first v octet_fits refl n) (cases_eq v o)
      where
        turned : (r : ℕ) → v % 2 ≡ r → v ≡ o → OtherOctet per_coding (under_size s Octet) o us
        turned zero e is = with_first (v + 1) (omega (arith, e, octet_fits)) (omega (arith, e)) (λ x. absurd (omega (arith, x, is)))
        turned (suc zero) e is = with_first (v - 1) (omega (arith, e, octet_fits)) (omega (arith, e)) (λ x. absurd (omega (arith, x, is, e)))
        turned (suc (suc r)) e is = absurd (omega (arith, e))

octets_differ : (s : SizeRange) → OctetsDiffer per_coding (under_size s Octet)
unfolding per_coding per_ruling
octets_differ s = record {
  none_first = λ p cs h. ap (λ (q : List ℕ × Ahead). q.0) h.seen;
  other = λ o us h. ⊎_elim (λ e. first_octet s o us e) (λ x. other_octet us x s o) h;
}

-- ---- plain bits

abbrev Plainly : List Chunk → Type 0
Plainly cs = (us : List ℕ) × (cs ≡ ones us)

-- items of plain bits
items_plain : {A : Type 0} (f : A → List ℕ) (xs : List A) → map (λ x. ones (f x)) xs ≡ map ones (map f xs)
items_plain f [] = refl
items_plain f (x ∷ xs) = ap (λ (l : List (List Chunk)). ones (f x) ∷ l) (items_plain f xs)

general_plain : (ys : List (List ℕ)) → Plainly (general one (map ones ys))
general_plain ys = (_, ap (λ (n : ℕ). with_lengths one (lengths n) (map ones ys)) (length-map ys ones) ∙ lengths_ones (lengths (length ys)) ys)

within_plain : (low : ℕ) (high : Option ℕ) (ys : List (List ℕ)) → Plainly (within low high (map ones ys))
within_plain low None ys = general_plain ys
within_plain low (Some high) ys = go (nat_lt high 65536)
  where
    us : List ℕ
    us = constrained (suc (high - low)) (length (map ones ys) - low)

    go : (b : Bool) → Plainly (elim b [ true ↦ ones us ++ joined (map ones ys) | false ↦ general one (map ones ys) ])
    go true = (us ++ joined ys, ap (λ (l : List Chunk). ones us ++ l) (joined_ones ys) ∙ sym (ones-append us (joined ys)))
    go false = general_plain ys

mark_plain : (extensible inside : Bool) (root other : List Chunk) → Plainly root → Plainly other → Plainly (after_mark one extensible inside root other)
mark_plain false inside root other p q = p
mark_plain true true root other p q = (0 ∷ p.0, ap (λ (l : List Chunk). one 0 ∷ l) p.1)
mark_plain true false root other p q = (1 ∷ q.0, ap (λ (l : List Chunk). one 1 ∷ l) q.1)

sized_plain : {A : Type 0} (s : SizeRange) (f : A → List ℕ) (xs : List A) → Plainly (sized s (map (λ x. ones (f x)) xs))
sized_plain s f xs =
    let ys = map f xs in
    let p : Plainly (sized s (map ones ys)) = mark_plain s.extensible (in_size s (length (map ones ys))) (within s.low s.high (map ones ys)) (general one (map ones ys)) (within_plain s.low s.high ys) (general_plain ys) in
    (p.0, ap (sized s) (items_plain f xs) ∙ p.1)

-- a simple type that is no UTF8String
simple_plain : (t : Shape) → IsUnsealed t → (v : Datum) → Plainly (per t v)
simple_plain boolean h (truth b) = (bit_of b ∷ [], refl)
simple_plain boolean h _ = ([], refl)
simple_plain null h v = ([], refl)
simple_plain (integer r) h (number z) = (whole_number r z, refl)
simple_plain (integer r) h _ = ([], refl)
simple_plain (enumerated root more) h (item p) = (enumeration root more p, refl)
simple_plain (enumerated root more) h _ = ([], refl)
simple_plain (bit_string s) h (bit_list bs) = sized_plain s (λ b. bit_of b ∷ []) bs
simple_plain (bit_string s) h _ = ([], refl)
simple_plain (octet_string s) h (octet_list os) = sized_plain s (λ o. bits 8 o) os
simple_plain (octet_string s) h _ = ([], refl)
simple_plain (restricted k s) h (characters cs) = sized_plain s (λ c. character_bits k c) cs
simple_plain (restricted k s) h _ = ([], refl)
simple_plain _ h v = absurd h

few_are_plain : {A : Type 0} {L : A → List Chunk → Type 0} {n : ℕ} → HasFew n L → AllPlain L
few_are_plain f = record { plain = λ v cs h. (let x = f.spelt v cs h in (x.units, x.same)) }

pub per_keep_laws : KeepLaws per_coding per_field_coding
unfolding per_coding per_ruling per_field_coding
per_keep_laws = record {
  open_type = octets_differ (at_least 1);
  utf8 = octets_differ (at_least 0);
  utf8_same = same_after (items_sized (at_least 0) Octet at_least_none) any_octets;
  utf8_value = (unicode [], [], record { fits = ((omega arith, IsUtf8-nil), tt); same = refl });
  unsealed = λ t good h. record { plain = λ v cs x. (let p = simple_plain t h v in (p.0, x.same ∙ p.1)) };
  list_start = λ s good. few_are_plain (few_start s good);
}
