-- What stands before octets and items in OER keeps the laws of octets in fragments, and with what follows it is what the
-- definition of OER has.
use Rattle.std.proofs.Common.{◌≡◌, ◌≤◌, ◌<◌, ◌-◌, inl, inr, ℕ, Bool, true, false, List, [], ◌∷◌, ◌++◌, refl, sym, ap, subst, ◌∙◌, arith, append_assoc}
use Rattle.asn_values.specs.Fits.{FitsLength, max_len}
use Rattle.asn_values.specs.Profile.{is_fixed_size}
use Rattle.asn_values.specs.Shape.{SizeRange}
use Rattle.asn_bits.specs.Sets.{Between, InDigits, Among}
use Rattle.asn_rules.specs.Chunks.{Chunk}
use Rattle.asn_rules.specs.Fields.{OneOctet, OctetLength, octets_told, octet_fields}
use Rattle.asn_rules.specs.Filled.{filled_octets}
use Rattle.asn_rules.specs.Forks.{Same}
use Rattle.asn_rules.specs.Languages.{Lawful, Inhabited, Then, Map, Nothing, Row, Plain}
use Rattle.asn_rules.specs.OctetStrings.{BitsLength, UnusedBits}
use Rattle.asn_rules.specs.OctetReading.{OctetsAmong}
use Rattle.asn_rules.proofs.Languages.Forks.{map_lawful_on}
use Rattle.asn_rules.proofs.Languages.Leads.{Leads, leads_on, leads_map, leads_same}
use Rattle.asn_rules.proofs.Languages.Parts.{map_lawful, nothing_lawful}
use Rattle.asn_rules.proofs.Languages.Then.{then_lawful}
use Rattle.asn_rules.proofs.Numbers.OctetLengths.{length_spelled, length_lawful, one_octet_lawful, one_octet_inhabited}
use Rattle.asn_rules.proofs.Numbers.Sets.{set_lawful}
use Rattle.asn_rules.proofs.Octets.BitStrings.{short}
use Rattle.asn_walk.specs.Ahead.{Ahead, items, Remaining, SomeAhead}
use Rattle.asn_walk.specs.Sizes.{Count}
use Rattle.asn_walk_feed.specs.Octets.{no_first, OctetsOf, OctetLaws}
use Rattle.asn_oer.specs.Walk.{oer_coding}
use Rattle.asn_oer.specs.Strings.{ItemsAfterLength, Sized}
use Rattle.asn_oer.specs.SingleItems.{InFront, any_octets, unused_first, AfterUnused, bit_octets_of, items_of_size}
use Rattle.asn_oer.proofs.InPieces.Brief.{HasFew, few_map, few_then, few_more, few_nothing, few_digits, few_brief}
use Rattle.asn_oer.proofs.InPieces.Counts.{octet_length_few, count_few, count_lawful}

-- ---- laws

-- parts of few octets that tell their values keep the laws
laws_of : (S : List ℕ × Ahead → List Chunk → Type 0) (L : ℕ → List Chunk → Type 0) → Lawful S → ((p : List ℕ × Ahead) (cs : List Chunk) → S p cs → SomeAhead p.1)
    → HasFew 16 S → Lawful L → Inhabited L → HasFew 16 L → OctetLaws oer_coding (record { start = S; octet = L })
laws_of S L law ahead few items_law some items_few = record {
  start = law;
  ahead = ahead;
  octet = items_law;
  some = some;
  brief_start = few_brief few;
  brief_octet = few_brief items_few;
}

-- a count in front
pub counted_laws : (C L : ℕ → List Chunk → Type 0) → Lawful C → HasFew 5 C → Lawful L → Inhabited L → HasFew 16 L
    → OctetLaws oer_coding (record { start = InFront C; octet = L })
counted_laws C L law few items_law some items_few =
    laws_of (InFront C) L (map_lawful (λ a b e. ap (λ (p : List ℕ × Ahead). p.1) e) (map_lawful (λ a b e. cc) law))
    (λ p cs h. subst (λ (q : List ℕ × Ahead). SomeAhead q.1) (sym (h.seen ∙ ap no_first h.spelt.seen)) tt)
    (few_more 5 16 (omega arith) (few_map (few_map few))) items_law some items_few

octet_few : HasFew 16 OneOctet
octet_few = few_more 1 16 (omega arith) (few_digits 256 1 (λ n. n < 256))

pub any_laws : OctetLaws oer_coding any_octets
any_laws =
    counted_laws (OctetLength (Between 0 max_len)) OneOctet (length_lawful (Between 0 max_len)) (octet_length_few (Between 0 max_len) (λ n h. omega (arith, h.1)))
    one_octet_lawful one_octet_inhabited octet_few

pub items_laws : (s : SizeRange) (L : ℕ → List Chunk → Type 0) → Lawful L → Inhabited L → HasFew 16 L → OctetLaws oer_coding (items_of_size s L)
items_laws s L law some few = counted_laws (Count s) L (count_lawful s) (count_few s) law some few

-- a length and the number of unused bits
unused_laws : (S : ℕ → Type 0) → ((n : ℕ) → S n → n ≤ max_len) → OctetLaws oer_coding (record { start = AfterUnused S; octet = OneOctet })
unused_laws S small =
    laws_of (AfterUnused S) OneOctet
    (map_lawful_on once (then_lawful (length_lawful (BitsLength S)) (λ l. set_lawful 256 1 (UnusedBits S l))))
    (λ p cs h. subst (λ (q : List ℕ × Ahead). SomeAhead q.1) (sym h.seen) tt)
    (few_more 6 16 (omega arith) (few_map (few_then 5 1 (octet_length_few (BitsLength S) (λ l h. omega (arith, h.same, small h.count h.member))) (λ l. few_digits 256 1 (UnusedBits S l)))))
    one_octet_lawful one_octet_inhabited octet_few
  where
    told : (l : ℕ) (cs : List Chunk) → OctetLength (BitsLength S) l cs → BitsLength S l
    told l cs h = ((length_spelled (BitsLength S) (short S small)).to l cs h).fits

    one_length : (l m : ℕ) → BitsLength S l → BitsLength S m → l - 1 ≡ m - 1 → l ≡ m
    one_length l m h g e = omega (arith, h.same, g.same, e)

    once : (a b : ℕ × ℕ) (x y : List Chunk) → Then (OctetLength (BitsLength S)) (λ l. Plain (InDigits 256 1 (UnusedBits S l))) a x
        → Then (OctetLength (BitsLength S)) (λ l. Plain (InDigits 256 1 (UnusedBits S l))) b y → unused_first a ≡ unused_first b → a ≡ b
    once a b x y p q e =
        let f : a.1 ∷ [] ≡ b.1 ∷ [] = ap (λ (r : List ℕ × Ahead). r.0) e in
        let g : items (a.0 - 1) ≡ items (b.0 - 1) = ap (λ (r : List ℕ × Ahead). r.1) e in
        let u : a.1 ≡ b.1 = cc f in
        let l : a.0 - 1 ≡ b.0 - 1 = cc g in
        let k : a.0 ≡ b.0 = one_length a.0 b.0 (told a.0 p.first p.spelt) (told b.0 q.first q.spelt) l in
        λ i. (k i, u i)

pub bits_laws : (s : SizeRange) → OctetLaws oer_coding (bit_octets_of s)
bits_laws s = go (is_fixed_size s)
  where
    go : (t : Bool) → OctetLaws oer_coding (record { start = elim t [ true ↦ InFront (Nothing (filled_octets s.low)) | false ↦ AfterUnused (FitsLength s) ]; octet = OneOctet })
    go true = counted_laws (Nothing (filled_octets s.low)) OneOctet (nothing_lawful (filled_octets s.low)) (few_more 0 5 (omega arith) (few_nothing (filled_octets s.low))) one_octet_lawful one_octet_inhabited octet_few
    go false = unused_laws (FitsLength s) (λ n h. h.0)

-- ---- how they are read

-- a count in front
pub front_leads : (C : ℕ → List Chunk → Type 0) (us : List ℕ) → Leads octet_fields C us (λ n. ([], items n)) (InFront C) us
front_leads C us = leads_on (leads_map octet_fields items C us) (leads_map octet_fields no_first (Map items C) us)

-- an octet of these intervals
pub octets_among : {S : ℕ → Type 0} (is : List (ℕ × ℕ)) (us : List ℕ) → ((n : ℕ) → Among is n → S n) → ((n : ℕ) → S n → Among is n)
    → Leads octet_fields (OctetsAmong 1 is) us (λ n. n) (Plain (InDigits 256 1 S)) us
octets_among is us there back = leads_same octet_fields us (record {
  to = λ v cs h. record { units = h.units; spelt = record { digits = h.spelt.digits; member = there v h.spelt.member }; same = h.same };
  from = λ v cs h. record { units = h.units; spelt = record { digits = h.spelt.digits; member = back v h.spelt.member }; same = h.same };
})

-- every octet is one of 0 to 255
pub any_among : (n : ℕ) → (Among ((0, 255) ∷ []) n → n < 256) × (n < 256 → Among ((0, 255) ∷ []) n)
any_among n = (there, λ h. inl (omega arith, omega (arith, h)))
  where
    there : Among ((0, 255) ∷ []) n → n < 256
    there (inl h) = omega (arith, h.1)
    there (inr h) = absurd h

-- ---- what they are with the items

-- items after their count
pub counted_same : (C L : ℕ → List Chunk → Type 0) → Same (OctetsOf (record { start = InFront C; octet = L })) (Map octets_told (Then C (λ n. Row L n)))
counted_same C L = record { to = to; from = from }
  where
    to : (v : List ℕ) (cs : List Chunk) → OctetsOf (record { start = InFront C; octet = L }) v cs → Map octets_told (Then C (λ n. Row L n)) v cs
    to v cs h =
        let t = h.spelt in
        let a = t.spelt.spelt in
        let e : h.source.0 ≡ ([], items a.source) = t.spelt.seen ∙ ap no_first a.seen in
        record {
          source = (a.source, h.source.1);
          spelt = record { first = t.first; second = t.second; spelt = a.spelt; follows = subst (λ (q : List ℕ × Ahead). Remaining L q.1 h.source.1 t.second) e t.follows; whole = t.whole };
          seen = h.seen ∙ ap (λ (q : List ℕ × Ahead). q.0 ++ h.source.1) e;
        }

    from : (v : List ℕ) (cs : List Chunk) → Map octets_told (Then C (λ n. Row L n)) v cs → OctetsOf (record { start = InFront C; octet = L }) v cs
    from v cs h =
        let t = h.spelt in
        record {
          source = (([], items h.source.0), h.source.1);
          spelt = record {
            first = t.first;
            second = t.second;
            spelt = record { source = items h.source.0; spelt = record { source = h.source.0; spelt = t.spelt; seen = refl }; seen = refl };
            follows = t.follows;
            whole = t.whole;
          };
          seen = h.seen;
        }

-- after a count that is not spelt
pub unspelt : (L : ℕ → List Chunk → Type 0) (n : ℕ) → Same (Map octets_told (Then (Nothing n) (λ m. Row L m))) (Row L n)
unspelt L n = record {
  to = λ v cs h.
      let p = h.spelt in
      let e : cs ≡ p.second = p.whole ∙ ap (λ (c : List Chunk). c ++ p.second) p.spelt.empty in
      let row : Row L n h.source.1 p.second = subst (λ (m : ℕ). Row L m h.source.1 p.second) p.spelt.same p.follows in
      subst (λ (w : List ℕ). Row L n w cs) (sym h.seen) (subst (λ (c : List Chunk). Row L n h.source.1 c) (sym e) row);
  from = λ v cs h. record { source = (n, v); spelt = record { first = []; second = cs; spelt = record { same = refl; empty = refl }; follows = h; whole = refl }; seen = refl };
}

-- items of a size
pub sized_same : (s : SizeRange) (L : ℕ → List Chunk → Type 0) → Same (Map octets_told (Then (Count s) (λ n. Row L n))) (Sized s L)
sized_same s L = go (is_fixed_size s)
  where
    go : (t : Bool) → Same {V = List ℕ} (Map octets_told (Then (elim t [ true ↦ Nothing s.low | false ↦ OctetLength (FitsLength s) ]) (λ n. Row L n))) (elim t [ true ↦ Row L s.low | false ↦ ItemsAfterLength (FitsLength s) L ])
    go true = unspelt L s.low
    go false = record { to = λ v cs h. h; from = λ v cs h. h }

-- the octets after a length and the number of unused bits, which is the first of them
abbrev pub unused_told : ℕ × (ℕ × List ℕ) → List ℕ
unused_told p = p.1.0 ∷ p.1.1

abbrev pub Unused : (ℕ → Type 0) → ℕ → ℕ × List ℕ → List Chunk → Type 0
Unused S l = Then (Plain (InDigits 256 1 (UnusedBits S l))) (λ u. Row OneOctet (l - 1))

pub unused_same : (S : ℕ → Type 0) → Same (OctetsOf (record { start = AfterUnused S; octet = OneOctet })) (Map unused_told (Then (OctetLength (BitsLength S)) (Unused S)))
unused_same S = record { to = to; from = from }
  where
    to : (v : List ℕ) (cs : List Chunk) → OctetsOf (record { start = AfterUnused S; octet = OneOctet }) v cs → Map unused_told (Then (OctetLength (BitsLength S)) (Unused S)) v cs
    to v cs h =
        let t = h.spelt in
        let a = t.spelt in
        let e : h.source.0 ≡ unused_first a.source = a.seen in
        record {
          source = (a.source.0, (a.source.1, h.source.1));
          spelt = record {
            first = a.spelt.first;
            second = a.spelt.second ++ t.second;
            spelt = a.spelt.spelt;
            follows = record {
              first = a.spelt.second;
              second = t.second;
              spelt = a.spelt.follows;
              follows = subst (λ (q : List ℕ × Ahead). Remaining OneOctet q.1 h.source.1 t.second) e t.follows;
              whole = refl;
            };
            whole = t.whole ∙ ap (λ (c : List Chunk). c ++ t.second) a.spelt.whole ∙ append_assoc a.spelt.first a.spelt.second t.second;
          };
          seen = h.seen ∙ ap (λ (q : List ℕ × Ahead). q.0 ++ h.source.1) e;
        }

    from : (v : List ℕ) (cs : List Chunk) → Map unused_told (Then (OctetLength (BitsLength S)) (Unused S)) v cs → OctetsOf (record { start = AfterUnused S; octet = OneOctet }) v cs
    from v cs h =
        let t = h.spelt in
        let i = t.follows in
        let p : ℕ × ℕ = (h.source.0, h.source.1.0) in
        record {
          source = (unused_first p, h.source.1.1);
          spelt = record {
            first = t.first ++ i.first;
            second = i.second;
            spelt = record { source = p; spelt = record { first = t.first; second = i.first; spelt = t.spelt; follows = i.spelt; whole = refl }; seen = refl };
            follows = i.follows;
            whole = t.whole ∙ ap (λ (c : List Chunk). t.first ++ c) i.whole ∙ sym (append_assoc t.first i.first i.second);
          };
          seen = h.seen;
        }
