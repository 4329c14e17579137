-- Languages of octets, read as bits: the same spellings, and what a reader of the bits says of the octets.
use Rattle.std.proofs.Common.{◌≡◌, ◌<◌, ◌+◌, ◌*◌, ◌/◌, ◌%◌, ◌^◌, ◌⊎◌, inl, inr, ℕ, zero, suc, List, [], ◌∷◌, ◌++◌, length, refl, sym, ap, ◌∙◌, subst, arith, append_assoc, length-append, get_or}
use Rattle.asn_bits.specs.Numbers.{octets, bits, packed, unpacked}
use Rattle.asn_bits.specs.Sets.{AreBits, InDigits}
use Rattle.asn_bits.proofs.FilledBits.{unpacked-packed, length-packed}
use Rattle.std.specs.List.{AllByRecursion}
use Rattle.std.proofs.lemmas.List.{append-nil}
use Rattle.asn_bits.proofs.Octets.{packed_octets, all_octets}
use Rattle.asn_bits.proofs.Packing.{packed-unpacked}
use Rattle.asn_bits.proofs.Splits.{unpacked-append, length-unpacked, unpacked-octets, two_pow_octets}
use Rattle.asn_bits.proofs.Weights.{digits_are, digits_only, digits-append, digits-first}
use Rattle.asn_rules.specs.Chunks.{Chunk, ones, flat}
use Rattle.asn_rules.specs.Forks.{Same}
use Rattle.asn_rules.specs.Languages.{IsFront, Spells, NoSpelling, IsLive, Short, Refused, Then, Map, Plain}
use Rattle.asn_rules.specs.Laws.{AreOctets}
use Rattle.asn_rules.specs.Live.{Fielding}
use Rattle.asn_rules.specs.Spellings.{SpelledBy}
use Rattle.asn_rules.specs.Stops.{Stops}
use Rattle.asn_rules.specs.declared.stop.Stop.{Stop}
use Rattle.asn_rules.specs.declared.stop.Stop.TheVariants as stop
use Rattle.asn_rules.proofs.Live.Chunks.{ones-append}
use Rattle.asn_rules.proofs.Live.Flat.{flat-ones}
use Rattle.asn_rules.proofs.Live.Fronts.{split}
use Rattle.asn_rules.proofs.Languages.Parts.{contents-ones, front_ones}
use Rattle.asn_rules.proofs.Languages.Then.{live_shorter}
use Rattle.asn_rules.specs.OctetReading.{AtOctet, counted_in_octets}

-- the spellings of the second language are octets, and those of the first one are their bits
pub record InOctets {V : Type 0} (L M : V → List Chunk → Type 0) : Type 0 where
  pub there : (v : V) (cs : List Chunk) → L v cs → (os : List ℕ) × AreOctets os × (cs ≡ ones (unpacked os)) × M v (ones os)
  pub back : (v : V) (cs : List Chunk) → M v cs → (os : List ℕ) × AreOctets os × (cs ≡ ones os) × L v (ones (unpacked os))

-- each of a list of octets is one
each_octet : (os : List ℕ) → AllByRecursion (λ o. o < 256) os → (i d : ℕ) → i < length os → get_or os i d < 256
each_octet [] h i d l = absurd (omega arith)
each_octet (o ∷ os) h zero d l = h.0
each_octet (o ∷ os) h (suc i) d l = each_octet os h.1 i d (omega arith)

-- octets are what their bits are packed to
pub packed_again : (os : List ℕ) → AllByRecursion (λ o. o < 256) os → packed (unpacked os) ≡ os
packed_again os h = packed-unpacked os (each_octet os h)

-- ---- which languages

-- numbers of a set
pub number_octets : (k : ℕ) (S : ℕ → Type 0) → InOctets (Plain (InDigits 2 (8 * k) S)) (Plain (InDigits 256 k S))
number_octets k S = record {
  there = λ v cs h.
      let w = digits_only 2 (8 * k) v h.units h.spelt.digits in
      let fits : v < 256 ^ k = omega (arith, w.0, two_pow_octets k) in (
        octets k v,
        all_octets k v,
        h.same ∙ ap ones w.1 ∙ ap ones (sym (unpacked-octets k v)),
        record { units = octets k v; spelt = record { digits = digits_are 256 k v fits; member = h.spelt.member }; same = refl },
      );
  back = λ v cs h.
      let w = digits_only 256 k v h.units h.spelt.digits in
      let fits : v < 2 ^ (8 * k) = omega (arith, w.0, two_pow_octets k) in (
        octets k v,
        all_octets k v,
        h.same ∙ ap ones w.1,
        record { units = bits (8 * k) v; spelt = record { digits = digits_are 2 (8 * k) v fits; member = h.spelt.member }; same = ap ones (unpacked-octets k v) },
      );
}

-- one after the other
pub then_octets : {A B : Type 0} {L K : A → List Chunk → Type 0} {M N : A → B → List Chunk → Type 0} → InOctets L K → ((a : A) → InOctets (M a) (N a)) → InOctets (Then L M) (Then K N)
then_octets e f = record {
  there = λ v cs h.
      let p = e.there v.0 h.first h.spelt in
      let q = (f v.0).there v.1 h.second h.follows in (
        p.0 ++ q.0,
        digits-append 256 p.0 q.0 p.1 q.1,
        h.whole ∙ ap (λ (c : List Chunk). c ++ h.second) p.2 ∙ ap (λ (c : List Chunk). ones (unpacked p.0) ++ c) q.2
            ∙ sym (ones-append (unpacked p.0) (unpacked q.0)) ∙ ap ones (sym (unpacked-append p.0 q.0)),
        record { first = ones p.0; second = ones q.0; spelt = p.3; follows = q.3; whole = ones-append p.0 q.0 },
      );
  back = λ v cs h.
      let p = e.back v.0 h.first h.spelt in
      let q = (f v.0).back v.1 h.second h.follows in (
        p.0 ++ q.0,
        digits-append 256 p.0 q.0 p.1 q.1,
        h.whole ∙ ap (λ (c : List Chunk). c ++ h.second) p.2 ∙ ap (λ (c : List Chunk). ones p.0 ++ c) q.2 ∙ sym (ones-append p.0 q.0),
        record { first = ones (unpacked p.0); second = ones (unpacked q.0); spelt = p.3; follows = q.3; whole = ap ones (unpacked-append p.0 q.0) ∙ ones-append (unpacked p.0) (unpacked q.0) },
      );
}

-- under a view of the values
pub map_octets : {A B : Type 0} (f : A → B) {L K : A → List Chunk → Type 0} → InOctets L K → InOctets (Map f L) (Map f K)
map_octets f e = record {
  there = λ v cs h.
      let p = e.there h.source cs h.spelt in
      (p.0, p.1, p.2, record { source = h.source; spelt = p.3; seen = h.seen });
  back = λ v cs h.
      let p = e.back h.source cs h.spelt in
      (p.0, p.1, p.2, record { source = h.source; spelt = p.3; seen = h.seen });
}

-- the same spellings, in either
pub same_octets : {A : Type 0} {L K M N : A → List Chunk → Type 0} → Same L K → InOctets K M → Same M N → InOctets L N
same_octets e i f = record {
  there = λ v cs h.
      let p = i.there v cs (e.to v cs h) in
      (p.0, p.1, p.2, f.to v (ones p.0) p.3);
  back = λ v cs h.
      let p = i.back v cs (f.from v cs h) in
      (p.0, p.1, p.2, e.from v (ones (unpacked p.0)) p.3);
}

-- bits that fill octets, and these octets
pub packed_octets_of : {A : Type 0} {P : A → Type 0} (f : A → List ℕ) → ((a : A) → P a → AreBits (f a) × AtOctet (f a)) → InOctets (SpelledBy P (λ a. ones (f a))) (SpelledBy P (λ a. ones (packed (f a))))
packed_octets_of f fill = record {
  there = λ v cs h.
      let w = fill v h.fits in
      (packed (f v), packed_octets (f v) w.0, h.same ∙ ap ones (sym (unpacked-packed (f v) w.0 w.1)), record { fits = h.fits; same = refl });
  back = λ v cs h.
      let w = fill v h.fits in
      (packed (f v), packed_octets (f v) w.0, h.same, record { fits = h.fits; same = ap ones (unpacked-packed (f v) w.0 w.1) });
}

-- ---- bits of octets

-- octets in front of others
pub packed_front : (os r : List ℕ) → AreOctets os → packed (unpacked os ++ r) ≡ os ++ packed r
packed_front [] r h = refl
packed_front (o ∷ os) r h =
    let rest = packed_front os r h.1 in
    let one = octet_of o h.0 in
    cc
  where
    octet_of : (o : ℕ) → o < 256 → 128 * (o / 2 ^ 7 % 2) + 64 * (o / 2 ^ 6 % 2) + 32 * (o / 2 ^ 5 % 2) + 16 * (o / 2 ^ 4 % 2) + 8 * (o / 2 ^ 3 % 2) + 4 * (o / 2 ^ 2 % 2) + 2 * (o / 2 ^ 1 % 2) + o / 2 ^ 0 % 2 ≡ o
    octet_of o h = omega arith

-- the next octet of the bits
pub next_octet : (o : ℕ) (us : List ℕ) → o < 256 → packed (bits 8 o ++ us) ≡ o ∷ packed us
next_octet o us h = ap (λ (l : List ℕ). packed (l ++ us)) (sym (append-nil (bits 8 o))) ∙ packed_front (o ∷ []) us (h, tt)

-- fewer bits than an octet are none
pub no_octet : (us : List ℕ) → AtOctet us → length us < 8 → packed us ≡ []
no_octet [] a h = refl
no_octet (u ∷ us) a h = absurd (omega (arith, a, h))

-- this many octets, the next one and those after it
octet_at : (q : ℕ) (ps : List ℕ) → q < length ps → (before : List ℕ) × (o : ℕ) × (after : List ℕ) × (ps ≡ before ++ o ∷ after) × (length before ≡ q)
octet_at q [] h = absurd (omega arith)
octet_at zero (p ∷ ps) h = ([], p, ps, refl, refl)
octet_at (suc q) (p ∷ ps) h = let w = octet_at q ps (omega arith) in (p ∷ w.0, w.1, w.2, ap (λ (l : List ℕ). p ∷ l) w.3, omega (arith, w.4))

-- units begin themselves and others
ones_front : (R : Fielding) (us t : List ℕ) → IsFront R (ones (us ++ t)) us
ones_front R [] t = tt
ones_front R (u ∷ us) t = (refl, ones_front R us t)

-- ---- answers

module _ {V : Type 0} {L M : V → List Chunk → Type 0} (e : InOctets L M) (R : Fielding) where
  bits_front : {v : V} {us r : List ℕ} → Spells R L v us r → (os : List ℕ) × AreOctets os × (us ≡ unpacked os ++ r) × M v (ones os)
  bits_front {v} {us} {r} h =
      let p = e.there v h.chunks h.spelt in
      (p.0, p.1, h.split ∙ ap (λ (c : List Chunk). flat R.spelled c ++ r) p.2 ∙ ap (λ (l : List ℕ). l ++ r) (flat-ones R.spelled (unpacked p.0)), p.3)

  pub spells_octets : {v : V} {us r : List ℕ} → Spells R L v us r → Spells R M v (packed us) (packed r)
  spells_octets {v} {us} {r} h =
      let p = bits_front h in record {
        chunks = ones p.0;
        spelt = p.3;
        contents = contents-ones R p.0;
        split = ap packed p.2 ∙ packed_front p.0 r p.1 ∙ ap (λ (l : List ℕ). l ++ packed r) (sym (flat-ones R.spelled p.0));
      }

  pub spells_whole : {v : V} {us r : List ℕ} → Spells R L v us r → AtOctet us → AtOctet r
  spells_whole {v} {us} {r} h a =
      let p = bits_front h in
      omega (arith, a, ap length p.2, length-append (unpacked p.0) r, length-unpacked p.0)

  -- some octets begin a spelling where their bits do
  live_bits : (ps : List ℕ) → IsLive R M ps → IsLive R L (unpacked ps)
  live_bits ps h =
      let p = e.back h.value h.chunks h.spelt in
      let g = front_ones R p.0 ps (rw p.2 at h.front) in
      let parts : unpacked p.0 ≡ unpacked ps ++ unpacked g.0 = ap unpacked g.1 ∙ unpacked-append ps g.0 in
      record { value = h.value; chunks = ones (unpacked p.0); spelt = p.3; front = subst (λ (l : List ℕ). IsFront R (ones l) (unpacked ps)) (sym parts) (ones_front R (unpacked ps) (unpacked g.0)) }

  live_octets : (ps : List ℕ) → AreOctets ps → IsLive R L (unpacked ps) → IsLive R M ps
  live_octets ps are h =
      let p = e.there h.value h.chunks h.spelt in
      let g = front_ones R (unpacked p.0) (unpacked ps) (rw p.2 at h.front) in
      let parts : p.0 ≡ ps ++ packed g.0 = sym (packed_again p.0 p.1) ∙ ap packed g.1 ∙ packed_front ps g.0 are in
      record { value = h.value; chunks = ones p.0; spelt = p.3; front = subst (λ (l : List ℕ). IsFront R (ones l) ps) (sym parts) (ones_front R ps (packed g.0)) }

  none_octets : (us : List ℕ) → AreBits us → AtOctet us → NoSpelling R L us → NoSpelling R M (packed us)
  none_octets us b a n = λ v r h.
      let p = e.back v h.chunks h.spelt in
      let whole : packed us ≡ p.0 ++ r = h.split ∙ ap (λ (c : List Chunk). flat R.spelled c ++ r) p.2 ∙ ap (λ (l : List ℕ). l ++ r) (flat-ones R.spelled p.0) in
      let parts : us ≡ unpacked p.0 ++ unpacked r = sym (unpacked-packed us b a) ∙ ap unpacked whole ∙ unpacked-append p.0 r in
      n v (unpacked r) (record { chunks = ones (unpacked p.0); spelt = p.3; contents = contents-ones R (unpacked p.0); split = parts ∙ ap (λ (l : List ℕ). l ++ unpacked r) (sym (flat-ones R.spelled (unpacked p.0))) })

  pub short_octets : (us : List ℕ) → AreBits us → AtOctet us → Short R L us → Short R M (packed us)
  short_octets us b a h = record {
    live = live_octets (packed us) (packed_octets us b) (subst (λ (l : List ℕ). IsLive R L l) (sym (unpacked-packed us b a)) h.live);
    none = none_octets us b a h.none;
  }

  pub refused_octets : (us : List ℕ) (n : ℕ) → AreBits us → AtOctet us → Refused R L us n → Refused R M (packed us) (n / 8)
  refused_octets us n b a h = go (octet_at (length h.before / 8) (packed us) (omega (arith, count, total)))
    where
      count : 8 * length (packed us) ≡ length us
      count = length-packed us a

      total : length us ≡ length h.before + suc n
      total = ap length h.split ∙ length-append h.before (h.unit ∷ h.after) ∙ omega (arith, h.left_is)

      go : (before : List ℕ) × (o : ℕ) × (after : List ℕ) × (packed us ≡ before ++ o ∷ after) × (length before ≡ length h.before / 8) → Refused R M (packed us) (n / 8)
      go w = record {
        before = w.0;
        unit = w.1;
        after = w.2;
        split = w.3;
        left_is = omega (arith, total, count, ap length w.3, length-append w.0 (w.1 ∷ w.2), w.4);
        live = live_octets w.0 (digits-first 256 w.0 (w.1 ∷ w.2) are) (live (split (unpacked w.0) h.before (unpacked (w.1 ∷ w.2)) (h.unit ∷ h.after) (sym whole ∙ h.split)));
        dead = λ l. dead (live_bits (w.0 ++ w.1 ∷ []) l) (split (h.before ++ h.unit ∷ []) (unpacked (w.0 ++ w.1 ∷ [])) h.after (unpacked w.2) (append_assoc h.before (h.unit ∷ []) h.after ∙ sym h.split ∙ again));
        none = none_octets us b a h.none;
      }
        where
          are : AreOctets (w.0 ++ w.1 ∷ w.2)
          are = subst AreOctets w.3 (packed_octets us b)

          whole : us ≡ unpacked w.0 ++ unpacked (w.1 ∷ w.2)
          whole = sym (unpacked-packed us b a) ∙ ap unpacked w.3 ∙ unpacked-append w.0 (w.1 ∷ w.2)

          again : us ≡ unpacked (w.0 ++ w.1 ∷ []) ++ unpacked w.2
          again = sym (unpacked-packed us b a) ∙ ap unpacked (w.3 ∙ sym (append_assoc w.0 (w.1 ∷ []) w.2)) ∙ unpacked-append (w.0 ++ w.1 ∷ []) w.2

          live : ((m : List ℕ) × (h.before ≡ unpacked w.0 ++ m) × (unpacked (w.1 ∷ w.2) ≡ m ++ h.unit ∷ h.after)) ⊎ ((u : ℕ) × (m : List ℕ) × (unpacked w.0 ≡ h.before ++ u ∷ m)) → IsLive R L (unpacked w.0)
          live (inl x) = live_shorter (unpacked w.0) x.0 (subst (λ (l : List ℕ). IsLive R L l) x.1 h.live)
          live (inr x) = absurd (omega (arith, ap length x.2, length-append h.before (x.0 ∷ x.1), length-unpacked w.0, w.4))

          dead : IsLive R L (unpacked (w.0 ++ w.1 ∷ [])) → ((m : List ℕ) × (unpacked (w.0 ++ w.1 ∷ []) ≡ (h.before ++ h.unit ∷ []) ++ m) × (h.after ≡ m ++ unpacked w.2)) ⊎ ((u : ℕ) × (m : List ℕ) × (h.before ++ h.unit ∷ [] ≡ unpacked (w.0 ++ w.1 ∷ []) ++ u ∷ m)) → ⊥
          dead l (inl x) = h.dead (live_shorter (h.before ++ h.unit ∷ []) x.0 (subst (λ (k : List ℕ). IsLive R L k) x.1 l))
          dead l (inr x) =
              absurd (omega (arith, ap length x.2, length-append h.before (h.unit ∷ []), length-append (unpacked (w.0 ++ w.1 ∷ [])) (x.0 ∷ x.1), length-unpacked (w.0 ++ w.1 ∷ []), length-append w.0 (w.1 ∷ []), w.4))

  -- a reader's answer
  pub stops_octets : (us : List ℕ) (why : Stop) → AreBits us → AtOctet us → Stops R L us why → Stops R M (packed us) (counted_in_octets why)
  stops_octets us (stop.Refused left w) b a h = record { told = refused_octets us left b a h.told }
  stops_octets us stop.Short b a h = record { told = short_octets us b a h.told }
  stops_octets us stop.Memory b a h = record { told = tt }
