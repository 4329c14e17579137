-- Octets moved by fewer bits than an octet has: what is added and what is left over are what there was.
use Rattle.std.proofs.Common.{◌≡◌, ◌<◌, ◌≤◌, ◌+◌, ◌-◌, ◌*◌, ◌/◌, ◌%◌, ◌^◌, ℕ, suc, Bool, true, false, List, [], ◌∷◌, ◌++◌, length, take, drop, get_or, refl, sym, ◌∙◌, ap, subst, arith, append_assoc, length-append}
use Rattle.std.proofs.lemmas.List.{append-nil, take_at, take_all, length-take-le, take-append-drop, drop-drop}
use Rattle.std.proofs.lemmas.Nat.{mod-mul-add}
use Rattle.std.proofs.Math.Seq.{drop-append_seam}
use Rattle.std.specs.Bool.{if◌then◌else◌}
use Rattle.std.specs.List.{AllByRecursion}
use Rattle.asn_bits.specs.Numbers.{bits, octets, unpacked}
use Rattle.asn_bits.specs.Moves.{Shifted, Taken}
use Rattle.asn_bits.proofs.Octets.{all_octets, length-digits}
use Rattle.asn_bits.proofs.Packing.{bits_low}
use Rattle.asn_bits.proofs.Reading.{field_passed, take_below, drop-unpacked}
use Rattle.asn_bits.proofs.Splits.{digits-mod, unpacked-append, length-unpacked, unpacked-octets, appended}
use Rattle.asn_bits.proofs.Utf8.{append_octets}

-- each item of a list of octets
each_octet : (os : List ℕ) → ((i : ℕ) → get_or os i 0 < 256) → AllByRecursion (λ o. o < 256) os
each_octet [] h = tt
each_octet (o ∷ os) h = (h 0, each_octet os (λ i. h (suc i)))

-- and of its end
pub range_after : (xs os : List ℕ) → ((i : ℕ) → get_or (xs ++ os) i 0 < 256) → (i : ℕ) → get_or os i 0 < 256
range_after [] os h i = h i
range_after (x ∷ xs) os h i = range_after xs os (λ j. h (suc j)) i

-- nothing is added yet
pub shifted_none : (old : List ℕ) (c p : ℕ) → Shifted old old [] c p p
shifted_none old c p =
    record { octets = []; added = sym (append-nil old); count = refl; each = tt; same = sym (append-nil (bits c p)) }

-- m octets more, of the number n
pub shifted_more : (old new from : List ℕ) (c p w m n j v : ℕ) → Shifted old new from c p w → n < 2 ^ (8 * m) → j ≡ w * 2 ^ (8 * m) + n → bits c v ≡ bits c j
    → Shifted old (new ++ octets m (j / 2 ^ c)) (from ++ octets m n) c p v
shifted_more old new from c p w m n j v h less i e =
    let os = h.octets in
    let more = octets m (j / 2 ^ c) in
    record {
      octets = os ++ more;
      added = ap (λ t. t ++ more) h.added ∙ append_assoc old os more;
      count = omega (arith, length-append os more, length-append from (octets m n), length-digits 256 m (j / 2 ^ c), length-digits 256 m n, h.count);
      each = append_octets os more h.each (all_octets m (j / 2 ^ c));
      same =
          ap (λ t. unpacked (os ++ more) ++ t) e ∙ appended os c w (8 * m) n m c j less (omega arith) i
          ∙ ap (λ t. t ++ bits (8 * m) n) h.same ∙ append_assoc (bits c p) (unpacked from) (bits (8 * m) n)
          ∙ ap (λ t. bits c p ++ t) (ap (λ t. unpacked from ++ t) (sym (unpacked-octets m n)) ∙ sym (unpacked-append from (octets m n)));
    }

-- one octet more
pub shifted_octet : (old new from : List ℕ) (c p w o b : ℕ) → Shifted old new from c p w → o < 256 → c < 8 → b ≡ (w * 2 ^ 8 + o) / 2 ^ c % 256
    → Shifted old (new ++ b ∷ []) (from ++ o ∷ []) c p o
shifted_octet old new from c p w o b h less few e =
    let j = w * 2 ^ 8 + o in
    let last : bits c o ≡ bits c j = ap (bits c) (omega arith) ∙ bits_low c 8 j (omega arith) in
    let here : octets 1 (j / 2 ^ c) ≡ b ∷ [] = ap (λ t. t ∷ []) (omega arith) in
    let there : octets 1 o ≡ o ∷ [] = ap (λ t. t ∷ []) (omega arith) in
    subst (λ t. Shifted old (new ++ t) (from ++ o ∷ []) c p o) here
    (subst (λ t. Shifted old (new ++ octets 1 (j / 2 ^ c)) (from ++ t) c p o) there (shifted_more old new from c p w 1 o j o h (omega arith) (omega arith) last))

-- all octets, those that were shifted and the rest
pub record Begun (old new all rest : List ℕ) (c p w : ℕ) : Type 0 where
  pub from : List ℕ
  pub shifted : Shifted old new from c p w
  pub parts : all ≡ from ++ rest

pub begun_none : (old all : List ℕ) (c p : ℕ) → Begun old old all all c p p
begun_none old all c p = record { from = []; shifted = shifted_none old c p; parts = refl }

-- a word more
pub begun_word : (old new next all rest eight after : List ℕ) (c p w n b : ℕ) → Begun old new all rest c p w → c < 8 → rest ≡ eight ++ after → octets 8 n ≡ eight → n < 2 ^ 64
    → b ≡ (w * 2 ^ 64 + n) / 2 ^ c % 2 ^ 64 → next ≡ new ++ octets 8 b → Begun old next all after c p n
begun_word old new next all rest eight after c p w n b h few e i less word g =
    let j = w * 2 ^ 64 + n in
    let last : bits c n ≡ bits c j = ap (bits c) (sym (mod-mul-add w (2 ^ 64) n less)) ∙ bits_low c 64 j (omega arith) in
    let out : octets 8 (j / 2 ^ c) ≡ octets 8 b = sym (ap (octets 8) word ∙ digits-mod 256 (omega arith) 8 (j / 2 ^ c)) in
    let more = shifted_more old new h.from c p w 8 n j n h.shifted less refl last in
    record {
      from = h.from ++ eight;
      shifted =
          subst (λ t. Shifted old t (h.from ++ eight) c p n) (ap (λ t. new ++ t) out ∙ sym g)
          (subst (λ t. Shifted old (new ++ octets 8 (j / 2 ^ c)) (h.from ++ t) c p n) i more);
      parts = h.parts ∙ ap (λ t. h.from ++ t) e ∙ sym (append_assoc h.from eight after);
    }

-- the rest after what was shifted
pub begun_all : (old mid new all rest : List ℕ) (c p w v : ℕ) → Begun old mid all rest c p w → Shifted mid new rest c w v → Shifted old new all c p v
begun_all old mid new all rest c p w v h t =
    let s = h.shifted in
    record {
      octets = s.octets ++ t.octets;
      added = t.added ∙ ap (λ i. i ++ t.octets) s.added ∙ append_assoc old s.octets t.octets;
      count = length-append s.octets t.octets ∙ omega (arith, s.count, t.count) ∙ sym (ap length h.parts ∙ length-append h.from rest);
      each = append_octets s.octets t.octets s.each t.each;
      same =
          ap (λ i. i ++ bits c v) (unpacked-append s.octets t.octets) ∙ append_assoc (unpacked s.octets) (unpacked t.octets) (bits c v)
          ∙ ap (λ i. unpacked s.octets ++ i) t.same ∙ sym (append_assoc (unpacked s.octets) (bits c w) (unpacked rest))
          ∙ ap (λ i. i ++ unpacked rest) s.same ∙ append_assoc (bits c p) (unpacked h.from) (unpacked rest)
          ∙ ap (λ i. bits c p ++ i) (sym (ap unpacked h.parts ∙ unpacked-append h.from rest));
    }

-- nothing is left
pub begun_whole : (old new all rest : List ℕ) (c p w : ℕ) → Begun old new all rest c p w → length rest ≡ 0 → Shifted old new all c p w
begun_whole old new all [] c p w h z = subst (λ t. Shifted old new t c p w) (sym (h.parts ∙ append-nil h.from)) h.shifted
begun_whole old new all (x ∷ rest) c p w h z = absurd (omega arith)

-- and all of it follows something
pub shifted_after : (front new from : List ℕ) (c p w : ℕ) → Shifted [] new from c p w → Shifted front (front ++ new) from c p w
shifted_after front new from c p w h =
    record { octets = h.octets; added = ap (λ t. front ++ t) h.added; count = h.count; each = h.each; same = h.same }

-- what a vector held stands in front once it is longer
pub resized_front : (b : Bool) (old pad held : List ℕ) (s n : ℕ) → held ≡ (if b then take n old ++ pad else old) → s ≡ length old → s ≤ n → take s held ≡ old
resized_front true old pad held s n e l m =
    let all : take n old ≡ old = take_all n old (omega arith) in
    ap (take s) (e ∙ ap (λ t. t ++ pad) all) ∙ take_at old pad s (sym l)
resized_front false old pad held s n e l m = ap (take s) e ∙ take_all s old (omega arith)

-- and what follows is filled
pub filled_after : (old into held post tail : List ℕ) (s n : ℕ) → take s held ≡ old → n ≡ length old + length into → take n ((take s held ++ (into ++ post)) ++ tail) ≡ old ++ into
filled_after old into held post tail s n e l =
    let parts : (take s held ++ (into ++ post)) ++ tail ≡ (old ++ into) ++ (post ++ tail) =
    ap (λ t. (t ++ (into ++ post)) ++ tail) e ∙ ap (λ t. t ++ tail) (sym (append_assoc old into post)) ∙ append_assoc (old ++ into) post tail in
    ap (take n) parts ∙ take_at (old ++ into) (post ++ tail) n (length-append old into ∙ sym l)

-- words and what follows them
pub begun_front : (old new all words rest : List ℕ) (c p w : ℕ) → Shifted old new words c p w → all ≡ words ++ rest → Begun old new all rest c p w
begun_front old new all words rest c p w h e = record { from = words; shifted = h; parts = e }

-- ---- taken from a cursor

-- after n octets of the bits stands what the cursor then holds
taken_seam : (os taken rest : List ℕ) (f n : ℕ) → drop f (unpacked os) ≡ unpacked taken ++ rest → length taken ≡ n
    → drop f (unpacked os) ≡ unpacked taken ++ drop f (unpacked (drop n os))
taken_seam os taken rest f n e l =
    let order : f + 8 * n ≡ 8 * n + f = omega arith in
    let passed : drop (8 * n) (drop f (unpacked os)) ≡ drop f (unpacked (drop n os)) =
    drop-drop (8 * n) f (unpacked os) ∙ ap (λ i. drop i (unpacked os)) order ∙ drop-unpacked n f os in
    let all : 8 * n ≡ length (unpacked taken) = omega (arith, length-unpacked taken) in
    let seam : drop (8 * n) (drop f (unpacked os)) ≡ rest =
    ap (drop (8 * n)) e ∙ ap (λ i. drop i (unpacked taken ++ rest)) all ∙ drop-append_seam (unpacked taken) rest in
    e ∙ ap (λ t. unpacked taken ++ t) (sym seam ∙ passed)

-- at an octet, the octets themselves
pub taken_whole : (os old new : List ℕ) (f n : ℕ) → f ≡ 0 → n ≤ length os → ((i : ℕ) → get_or os i 0 < 256) → new ≡ old ++ take n os
    → Taken n (drop f (unpacked os)) (drop f (unpacked (drop n os))) old new
taken_whole os old new f n z enough range e =
    let all : drop f (unpacked os) ≡ unpacked (take n os) ++ unpacked (drop n os) =
    ap (λ i. drop i (unpacked os)) z ∙ ap unpacked (sym (take-append-drop n os)) ∙ unpacked-append (take n os) (drop n os) in
    let count = length-take-le n os enough in
    record {
      octets = take n os;
      added = e;
      count = count;
      each = each_octet (take n os) (take_below n os range);
      taken = taken_seam os (take n os) (unpacked (drop n os)) f n all count;
    }

-- within an octet, the octets shifted
pub taken_shifted : (os old new : List ℕ) (f n w : ℕ) → f < 8 → n < length os → Shifted old new (take n (drop 1 os)) (8 - f) (get_or os 0 0) w
    → Taken n (drop f (unpacked os)) (drop f (unpacked (drop n os))) old new
taken_shifted [] old new f n w less enough h = absurd (omega arith)
taken_shifted (o ∷ os) old new f n w less enough h =
    let c = 8 - f in
    let rest = unpacked (drop n os) in
    let eight : 8 ≡ 0 + (f + c) = omega arith in
    let start : f ≡ 0 + f = omega arith in
    let first : drop f (bits 8 o ++ unpacked os) ≡ bits c o ++ unpacked os =
    ap (λ i. drop f (bits i o ++ unpacked os)) eight ∙ ap (λ i. drop i (bits (0 + (f + c)) o ++ unpacked os)) start ∙ field_passed 0 f c o (unpacked os) in
    let parts : unpacked os ≡ unpacked (take n os) ++ rest = ap unpacked (sym (take-append-drop n os)) ∙ unpacked-append (take n os) (drop n os) in
    let all : drop f (unpacked (o ∷ os)) ≡ unpacked h.octets ++ (bits c w ++ rest) =
    first ∙ ap (λ t. bits c o ++ t) parts ∙ sym (append_assoc (bits c o) (unpacked (take n os)) rest) ∙ ap (λ t. t ++ rest) (sym h.same)
    ∙ append_assoc (unpacked h.octets) (bits c w) rest in
    let count : length h.octets ≡ n = h.count ∙ length-take-le n os (omega arith) in
    record { octets = h.octets; added = h.added; count = count; each = h.each; taken = taken_seam (o ∷ os) h.octets (bits c w ++ rest) f n all count }

-- ---- pushed to a sink

-- what a sink holds once the octets follow the c bits that waited
pub pushed_shifted : (old new from : List ℕ) (c p w : ℕ) → Shifted old new from c p w → unpacked new ++ bits c w ≡ (unpacked old ++ bits c p) ++ unpacked from
pushed_shifted old new from c p w h =
    ap (λ t. unpacked t ++ bits c w) h.added ∙ ap (λ t. t ++ bits c w) (unpacked-append old h.octets) ∙ append_assoc (unpacked old) (unpacked h.octets) (bits c w)
    ∙ ap (λ t. unpacked old ++ t) h.same ∙ sym (append_assoc (unpacked old) (bits c p) (unpacked from))
