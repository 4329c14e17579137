-- Items under their general length: laws, and what readers of parts say of the whole.
use Rattle.std.proofs.Common.{◌≡◌, ℕ, zero, suc, ◌+◌, ◌*◌, ◌<◌, ◌≤◌, ⊎_elim, List, [], ◌∷◌, ◌++◌, length, length-append, refl, sym, ap, ◌∙◌, subst, append_assoc, arith}
use Rattle.std.proofs.lemmas.Bool.{cases_lt}
use Rattle.asn_bits.specs.Numbers.{bits}
use Rattle.asn_bits.proofs.Weights.{bits_are}
use Rattle.asn_rules.proofs.Remaining.Carries.{carries_both, carries_map, carries_short, carries_refused, carries_after, taken}
use Rattle.asn_rules.proofs.Live.Chunks.{FieldsPart}
use Rattle.asn_rules.proofs.Languages.Forks.{map_map, map_lawful_on, same_flip, same_short, same_refused, carries_left, carries_whole, same_inhabited}
use Rattle.asn_rules.proofs.Languages.Parts.{map_inhabited, map_source, map_spells, map_short, map_refused}
use Rattle.asn_rules.proofs.Languages.Rows.{row_lawful, row_inhabited}
use Rattle.asn_rules.proofs.Languages.Then.{Follows, then_lawful, then_spells, then_splits, then_inhabited, then_short_first, then_short_second, then_refused_first, then_refused_second}
use Rattle.asn_rules.specs.Chunks.{Chunk, ones}
use Rattle.asn_rules.specs.Forks.{Same}
use Rattle.asn_rules.specs.General.{Length, last, fragment, Left, Blocks, Header, together, after_first, Body, Once, Within, General}
use Rattle.asn_rules.specs.Languages.{Spells, Short, Refused, Lawful, Inhabited, Then, Map, Row, Whole, Carries}
use Rattle.asn_rules.specs.Live.{Fielding}
use Rattle.asn_rules.proofs.Numbers.Headers.{Tells, header_tells, header_lawful, block_cases, header_blocks_is, last_is}

-- Lengths of lists.
pub row_length : {A : Type 0} (L : A → List Chunk → Type 0) (n : ℕ) (vs : List A) (cs : List Chunk) → Row L n vs cs → length vs ≡ n
row_length L zero vs cs h = ap length h.same
row_length L (suc n) vs cs h = ap length h.seen ∙ ap suc (row_length L n h.source.1 h.spelt.second h.spelt.follows)

-- lists in two parts of the same lengths
same_halves : {A : Type 0} (a b c d : List A) → length a ≡ length b → a ++ c ≡ b ++ d → (a ≡ b) × (c ≡ d)
same_halves [] [] c d l e = (refl, e)
same_halves [] (y ∷ b) c d l e = absurd (omega arith)
same_halves (x ∷ a) [] c d l e = absurd (omega arith)
same_halves (x ∷ a) (y ∷ b) c d l e =
    let h = same_halves a b c d (omega arith) cc in
    let g : x ≡ y = cc in
    let f = h.0 in
    (cc, h.1)

-- lengths of two parts
together_length : {A : Type 0} (a b : List A) → length (a ++ b) ≡ length a + length b
together_length a b = length-append a b

-- Each count is of the set.
within_counted : {A : Type 0} (L : A → List Chunk → Type 0) (f : ℕ) (S : ℕ → Type 0) (vs : List A) (cs : List Chunk) → Within L f S vs cs → S (length vs)
within_counted L zero S vs cs h = absurd h
within_counted {A} L (suc f) S vs cs h = subst (λ (l : List A). S (length l)) (sym h.seen) (body h.source.0 h.source.1 h.spelt.second (header_tells h.spelt.spelt) h.spelt.follows (λ m ws ds g. within_counted L f (Left S m) ws ds g))
  where
    body : (l : Length) (ws : List A) (ds : List Chunk) → Tells S l → Body L (Within L f) S l ws ds → ((m : ℕ) (ws : List A) (ds : List Chunk) → Within L f (Left S m) ws ds → Left S m (length ws)) → S (length ws)
    body (last n) ws ds t b again = subst (λ (x : ℕ). S x) (sym (row_length L n ws ds b)) t.0
    body (fragment m) ws ds t b again =
        let c = again m b.source.1 b.spelt.second b.spelt.follows in
        let r = row_length L (16384 * m) b.source.0 b.spelt.first b.spelt.spelt in
        let e : 16384 * m + length b.source.1 ≡ length ws = sym (ap length b.seen ∙ together_length b.source.0 b.source.1 ∙ ap (λ (x : ℕ). x + length b.source.1) r) in
        subst (λ (x : ℕ). S x) e c.member

-- what a length and the count of what follows it have to do with each other
abbrev Counts : Length → ℕ → Type 0
Counts (last n) k = (k ≡ n) × (n < 16384)
Counts (fragment m) k = (1 ≤ m) × (m ≤ 4) × ((r : ℕ) × (16384 * m + r ≡ k) × (m < 4 → r < 16384))

-- a length and the items after it
body_counts : {A : Type 0} (L : A → List Chunk → Type 0) (f : ℕ) (S : ℕ → Type 0) (l : Length) (ws : List A) (ds : List Chunk) → Tells S l → Body L (Within L f) S l ws ds → Counts l (length ws)
body_counts L f S (last n) ws ds t b = (row_length L n ws ds b, t.1)
body_counts L f S (fragment m) ws ds t b =
    let c = within_counted L f (Left S m) b.source.1 b.spelt.second b.spelt.follows in
    let r = row_length L (16384 * m) b.source.0 b.spelt.first b.spelt.spelt in
    (t.some, t.most, (length b.source.1, sym (ap length b.seen ∙ together_length b.source.0 b.source.1 ∙ ap (λ (x : ℕ). x + length b.source.1) r), c.largest))

-- a count has one first length
one_length : (l k : Length) (n : ℕ) → Counts l n → Counts k n → l ≡ k
one_length (last m) (last n) k a b = ap last (sym a.0 ∙ b.0)
one_length (last m) (fragment n) k a b = absurd (omega (arith, a.0, a.1, b.0, b.2.1))
one_length (fragment m) (last n) k a b = absurd (omega (arith, b.0, b.1, a.0, a.2.1))
one_length (fragment m) (fragment n) k a b = ap fragment (blocks m n k a b)
  where
    blocks : (m n k : ℕ) → Counts (fragment m) k → Counts (fragment n) k → m ≡ n
    blocks m n k a b = ⊎_elim (λ h. (let g : a.2.0 < 16384 = a.2.2 (omega (arith, b.1)) in absurd (omega (arith, a.2.1, b.2.1)))) (λ h. ⊎_elim (λ f. (let g : b.2.0 < 16384 = b.2.2 (omega (arith, a.1)) in absurd (omega (arith, a.2.1, b.2.1)))) (λ f. omega arith) (cases_lt n m)) (cases_lt m n)

-- what follows a length is one or parts
body_lawful : {A : Type 0} {L : A → List Chunk → Type 0} → Lawful L → (f : ℕ) (S : ℕ → Type 0) → ((m : ℕ) → Lawful (Within L f (Left S m))) → (l : Length) → Lawful (Body L (Within L f) S l)
body_lawful l f S again (last n) = row_lawful l n
body_lawful {A} {L} l f S again (fragment m) = map_lawful_on once (then_lawful (row_lawful l (16384 * m)) (λ _. again m))
  where
    once : (a b : List A × List A) (x y : List Chunk) → Then (Row L (16384 * m)) (λ _. Within L f (Left S m)) a x → Then (Row L (16384 * m)) (λ _. Within L f (Left S m)) b y → together a ≡ together b → a ≡ b
    once a b x y p q e =
        let h = same_halves a.0 b.0 a.1 b.1 (row_length L (16384 * m) a.0 p.first p.spelt ∙ sym (row_length L (16384 * m) b.0 q.first q.spelt)) e in
        λ i. (h.0 i, h.1 i)

-- with a bound on the lengths
within_lawful : {A : Type 0} {L : A → List Chunk → Type 0} → Lawful L → (f : ℕ) (S : ℕ → Type 0) → Lawful (Within L f S)
within_lawful l zero S = record { law = λ v w x y p q. absurd p }
within_lawful {A} {L} l (suc f) S = map_lawful_on once (then_lawful (header_lawful S) (body_lawful l f S (λ m. within_lawful l f (Left S m))))
  where
    once : (a b : Length × List A) (x y : List Chunk) → Then (Header S) (Body L (Within L f) S) a x → Then (Header S) (Body L (Within L f) S) b y → after_first a ≡ after_first b → a ≡ b
    once a b x y p q e =
        let c = body_counts L f S a.0 a.1 p.second (header_tells p.spelt) p.follows in
        let d = body_counts L f S b.0 b.1 q.second (header_tells q.spelt) q.follows in
        let h : a.0 ≡ b.0 = one_length a.0 b.0 (length b.1) (subst (λ (l : List A). Counts a.0 (length l)) e c) d in
        λ i. (h i, e i)

-- More lengths than are needed do no harm.
body_more : {A : Type 0} (L : A → List Chunk → Type 0) (G H : (ℕ → Type 0) → List A → List Chunk → Type 0) (S : ℕ → Type 0) → ((m : ℕ) (vs : List A) (cs : List Chunk) → G (Left S m) vs cs → H (Left S m) vs cs) → (l : Length) (vs : List A) (cs : List Chunk) → Body L G S l vs cs → Body L H S l vs cs
body_more L G H S f (last n) vs cs h = h
body_more L G H S f (fragment m) vs cs h = record { source = h.source; spelt = record { first = h.spelt.first; second = h.spelt.second; spelt = h.spelt.spelt; follows = f m h.source.1 h.spelt.second h.spelt.follows; whole = h.spelt.whole }; seen = h.seen }

-- a length and what follows it
once_more : {A : Type 0} (L : A → List Chunk → Type 0) (G H : (ℕ → Type 0) → List A → List Chunk → Type 0) (S : ℕ → Type 0) → ((m : ℕ) (vs : List A) (cs : List Chunk) → G (Left S m) vs cs → H (Left S m) vs cs) → (vs : List A) (cs : List Chunk) → Once L G S vs cs → Once L H S vs cs
once_more L G H S f vs cs h = record { source = h.source; spelt = record { first = h.spelt.first; second = h.spelt.second; spelt = h.spelt.spelt; follows = body_more L G H S f h.source.0 h.source.1 h.spelt.second h.spelt.follows; whole = h.spelt.whole }; seen = h.seen }

-- with one length more
within_more : {A : Type 0} (L : A → List Chunk → Type 0) (f : ℕ) (S : ℕ → Type 0) (vs : List A) (cs : List Chunk) → Within L f S vs cs → Within L (suc f) S vs cs
within_more L zero S vs cs h = absurd h
within_more L (suc f) S vs cs h = once_more L (Within L f) (Within L (suc f)) S (λ m ws ds g. within_more L f (Left S m) ws ds g) vs cs h

-- with k lengths more
within_plus : {A : Type 0} (L : A → List Chunk → Type 0) (k f : ℕ) (S : ℕ → Type 0) (vs : List A) (cs : List Chunk) → Within L f S vs cs → Within L (k + f) S vs cs
within_plus {A} L zero f S vs cs h =
    let e : f ≡ 0 + f = omega arith in
    subst (λ (n : ℕ). Within L n S vs cs) e h
within_plus {A} L (suc k) f S vs cs h =
    let e : suc (k + f) ≡ suc k + f = omega arith in
    subst (λ (n : ℕ). Within L n S vs cs) e (within_more L (k + f) S vs cs (within_plus L k f S vs cs h))

-- items under their general length are one or part
pub general_lawful : {A : Type 0} {L : A → List Chunk → Type 0} → Lawful L → (S : ℕ → Type 0) → Lawful (General L S)
general_lawful {A} {L} l S = record {
  law = λ v w x y p q.
      let e : q.lengths + p.lengths ≡ p.lengths + q.lengths = omega arith in
      let a : Within L (p.lengths + q.lengths) S v x = subst (λ (n : ℕ). Within L n S v x) e (within_plus L q.lengths p.lengths S v x p.spelt) in
      (within_lawful l (p.lengths + q.lengths) S).law v w x y a (within_plus L p.lengths q.lengths S w y q.spelt);
}

-- The general length is one length, and what follows it.
pub general_once : {A : Type 0} (L : A → List Chunk → Type 0) (S : ℕ → Type 0) → Same (Once L (General L) S) (General L S)
general_once {A} L S = record { to = to; from = from }
  where
    least_body : (l : Length) (vs : List A) (cs : List Chunk) → Body L (General L) S l vs cs → (f : ℕ) × Body L (Within L f) S l vs cs
    least_body (last n) vs cs h = (zero, h)
    least_body (fragment m) vs cs h = (h.spelt.follows.lengths, record { source = h.source; spelt = record { first = h.spelt.first; second = h.spelt.second; spelt = h.spelt.spelt; follows = h.spelt.follows.spelt; whole = h.spelt.whole }; seen = h.seen })

    to : (vs : List A) (cs : List Chunk) → Once L (General L) S vs cs → General L S vs cs
    to vs cs h =
        let b = least_body h.source.0 h.source.1 h.spelt.second h.spelt.follows in
        record { lengths = suc b.0; spelt = record { source = h.source; spelt = record { first = h.spelt.first; second = h.spelt.second; spelt = h.spelt.spelt; follows = b.1; whole = h.spelt.whole }; seen = h.seen } }

    open_up : (f : ℕ) (vs : List A) (cs : List Chunk) → Within L f S vs cs → Once L (General L) S vs cs
    open_up zero vs cs h = absurd h
    open_up (suc f) vs cs h = once_more L (Within L f) (General L) S (λ m ws ds g. record { lengths = f; spelt = g }) vs cs h

    from : (vs : List A) (cs : List Chunk) → General L S vs cs → Once L (General L) S vs cs
    from vs cs h = open_up h.lengths vs cs h.spelt

-- the count of the items is of the set
pub general_counted : {A : Type 0} {L : A → List Chunk → Type 0} {S : ℕ → Type 0} {vs : List A} {cs : List Chunk} → General L S vs cs → S (length vs)
general_counted {L = L} {S = S} {vs = vs} {cs = cs} h = within_counted L h.lengths S vs cs h.spelt

-- Some list has a general length where some count is of the set.
then_inhabited_at : {A B : Type 0} {L : A → List Chunk → Type 0} {M : A → B → List Chunk → Type 0} (a : A) (x : List Chunk) → L a x → Inhabited (M a) → Inhabited (Then L M)
then_inhabited_at a x l i = record { value = (a, i.value); chunks = x ++ i.chunks; spelt = record { first = x; second = i.chunks; spelt = l; follows = i.spelt; whole = refl } }

-- a fragment, and what follows it
part_inhabited : {A : Type 0} {L : A → List Chunk → Type 0} {S : ℕ → Type 0} → Inhabited L → (m : ℕ) → Inhabited (General L (Left S m)) → Inhabited (Body L (General L) S (fragment m))
part_inhabited i m j = map_inhabited (then_inhabited (row_inhabited i (16384 * m)) (record { follow = λ a x h. j }))

-- some items have a general length, by their count
inhabited_within : {A : Type 0} {L : A → List Chunk → Type 0} → Inhabited L → (f : ℕ) (S : ℕ → Type 0) (n : ℕ) → n < f → S n → Inhabited (General L S)
inhabited_within i zero S n w h = absurd (omega arith)
inhabited_within {A} {L} i (suc f) S n w h = ⊎_elim few (λ a. blocks (block_cases n a) (λ m r b. inhabited_within i f (Left S m) r b)) (cases_lt n 16384)
  where
    few : n < 16384 → Inhabited (General L S)
    few a =
        let p = last_is S n h a in
        same_inhabited (general_once L S) (map_inhabited (then_inhabited_at {M = Body L (General L) S} (last n) p.0 p.1 (row_inhabited i n)))

    blocks : (m : ℕ) × (r : ℕ) × (1 ≤ m) × (m ≤ 4) × (16384 * m + r ≡ n) × (m < 4 → r < 16384) → ((m r : ℕ) → r < f → Left S m r → Inhabited (General L (Left S m))) → Inhabited (General L S)
    blocks p again =
        let l : Left S p.0 p.1 = record { member = subst (λ (x : ℕ). S x) (sym p.4) h; largest = p.5 } in
        let b = header_blocks_is S p.0 (bits 6 p.0) (record { some = p.2; most = p.3; rest = p.1; left = l }) (bits_are 6 p.0 (omega (arith, p.3))) in
        same_inhabited (general_once L S) (map_inhabited (then_inhabited_at {M = Body L (General L) S} (fragment p.0) (ones (1 ∷ 1 ∷ bits 6 p.0)) b (part_inhabited i p.0 (again p.0 p.1 (omega (arith, p.2, p.4)) l))))

-- a count of the set has items under their general length
pub general_inhabited : {A : Type 0} {L : A → List Chunk → Type 0} {S : ℕ → Type 0} → Inhabited L → (n : ℕ) → S n → Inhabited (General L S)
general_inhabited {S = S} i n h = inhabited_within i (suc n) S n (omega arith) h

-- after each length something stands
pub general_follows : {A : Type 0} {L : A → List Chunk → Type 0} (S : ℕ → Type 0) → Inhabited L → Follows (Header S) (Body L (General L) S)
general_follows {A} {L} S i = record { follow = λ l x h. follow l (header_tells h) }
  where
    follow : (l : Length) → Tells S l → Inhabited (Body L (General L) S l)
    follow (last n) t = row_inhabited i n
    follow (fragment m) t = part_inhabited i m (general_inhabited i t.rest t.left)

-- The answers within the length.
pub general_short : {A : Type 0} {R : Fielding} {L : A → List Chunk → Type 0} {S : ℕ → Type 0} {us : List ℕ} → Inhabited L → Short R (Header S) us → Short R (General L S) us
general_short {L = L} {S = S} i h = same_short (general_once L S) (map_short (then_short_first (general_follows S i) h))

-- the length is refused
pub general_refused : {A : Type 0} {R : Fielding} {L : A → List Chunk → Type 0} {S : ℕ → Type 0} {us : List ℕ} {n : ℕ} → Inhabited L → Refused R (Header S) us n → Refused R (General L S) us n
general_refused {L = L} {S = S} i h = same_refused (general_once L S) (map_refused (then_refused_first (general_follows S i) h))

-- After a length, what is left is what follows it.
general_after : {A : Type 0} {R : Fielding} (L : A → List Chunk → Type 0) (S : ℕ → Type 0) (l : Length) {us : List ℕ} → FieldsPart R → Inhabited L → Whole R (Header S) l us → Carries R (Body L (General L) S l) (General L S) us
general_after {A} {R} L S l {us} ok i h = carries_left same (carries_whole (general_once L S) (carries_map (carries_after (Body L (General L) S) ok (header_lawful S) (general_follows S i) h)))
  where
    same : Same (Body L (General L) S l) (Map after_first (Map (λ (b : List A). (l, b)) (Body L (General L) S l)))
    same = record {
      to = λ v cs m. record { source = (l, v); spelt = record { source = v; spelt = m; seen = refl }; seen = refl };
      from = λ v cs m. (let e : v ≡ m.spelt.source = m.seen ∙ ap after_first m.spelt.seen in subst (λ (x : List A). Body L (General L) S l x cs) (sym e) m.spelt.spelt);
    }

-- After the last length this many items are left.
pub general_last : {A : Type 0} {R : Fielding} (L : A → List Chunk → Type 0) (S : ℕ → Type 0) (n : ℕ) {us : List ℕ} → FieldsPart R → Inhabited L → Whole R (Header S) (last n) us → Carries R (Row L n) (General L S) us
general_last L S n ok i h = general_after L S (last n) ok i h

-- After the length of m blocks this many items are left, and then a general length.
pub general_fragment : {A : Type 0} {R : Fielding} (L : A → List Chunk → Type 0) (S : ℕ → Type 0) (m : ℕ) {us : List ℕ} → FieldsPart R → Inhabited L → Whole R (Header S) (fragment m) us → Carries R (Map together (Then (Row L (16384 * m)) (λ _. General L (Left S m)))) (General L S) us
general_fragment L S m ok i h = general_after L S (fragment m) ok i h

-- After m blocks of items a general length is left.
pub general_blocks : {A : Type 0} {R : Fielding} (L : A → List Chunk → Type 0) (S : ℕ → Type 0) (m : ℕ) {vs : List A} {us ws : List ℕ} → FieldsPart R → Inhabited L → Lawful L → Whole R (Header S) (fragment m) us → Whole R (Row L (16384 * m)) vs ws → Carries R (Map (λ (rest : List A). vs ++ rest) (General L (Left S m))) (General L S) (us ++ ws)
general_blocks {A} {R} L S m {vs} {us} {ws} ok i law h w = carries_both (general_fragment L S m ok i h) (carries_left (same_flip (map_map (λ rest. refl))) (carries_map (carries_after (λ _. General L (Left S m)) ok (row_lawful law (16384 * m)) (rests (header_tells h.spelt)) w)))
  where
    rests : Blocks S m → Follows (Row L (16384 * m)) (λ _. General L (Left S m))
    rests b = record { follow = λ a x g. general_inhabited i b.rest b.left }

-- The same, as answers of a reader by (length; that many items; more).
pub general_last_spells : {A : Type 0} {R : Fielding} {L : A → List Chunk → Type 0} {S : ℕ → Type 0} {n : ℕ} {vs : List A} {us r s : List ℕ} → FieldsPart R → Inhabited L → Spells R (Header S) (last n) us r → Spells R (Row L n) vs r s → Spells R (General L S) vs us s
general_last_spells {A} {R} {L} {S} {n} {vs} {us} {r} {s} ok i h g =
    let t = taken h in
    subst (λ (l : List ℕ). Spells R (General L S) vs l s) (sym t.2) ((general_last L S n ok i t.1).reads vs r s g)

-- the last items want more
pub general_last_short : {A : Type 0} {R : Fielding} (L : A → List Chunk → Type 0) {S : ℕ → Type 0} {n : ℕ} {us r : List ℕ} → FieldsPart R → Inhabited L → Spells R (Header S) (last n) us r → Short R (Row L n) r → Short R (General L S) us
general_last_short {A} {R} L {S} {n} ok i h g =
    let t = taken h in
    subst (λ (l : List ℕ). Short R (General L S) l) (sym t.2) (carries_short (general_last L S n ok i t.1) g)

-- the last items are refused
pub general_last_refused : {A : Type 0} {R : Fielding} (L : A → List Chunk → Type 0) {S : ℕ → Type 0} {n k : ℕ} {us r : List ℕ} → FieldsPart R → Inhabited L → Spells R (Header S) (last n) us r → Refused R (Row L n) r k → Refused R (General L S) us k
general_last_refused {A} {R} L {S} {n} {k} ok i h g =
    let t = taken h in
    subst (λ (l : List ℕ). Refused R (General L S) l k) (sym t.2) (carries_refused (general_last L S n ok i t.1) g)

-- after a fragment something stands
pub rest_follows : {A : Type 0} {R : Fielding} {L : A → List Chunk → Type 0} {S : ℕ → Type 0} {m : ℕ} {us r : List ℕ} → Inhabited L → Spells R (Header S) (fragment m) us r → Follows (Row L (16384 * m)) (λ _. General L (Left S m))
rest_follows {A} {R} {L} {S} {m} i h = rests (header_tells h.spelt)
  where
    rests : Blocks S m → Follows (Row L (16384 * m)) (λ _. General L (Left S m))
    rests b = record { follow = λ a x g. general_inhabited i b.rest b.left }

-- the items of a fragment want more
pub general_row_short : {A : Type 0} {R : Fielding} (L : A → List Chunk → Type 0) {S : ℕ → Type 0} {m : ℕ} {us r : List ℕ} → FieldsPart R → Inhabited L → Spells R (Header S) (fragment m) us r → Short R (Row L (16384 * m)) r → Short R (General L S) us
general_row_short {A} {R} L {S} {m} ok i h g =
    let t = taken h in
    subst (λ (l : List ℕ). Short R (General L S) l) (sym t.2) (carries_short (general_fragment L S m ok i t.1) (map_short (then_short_first (rest_follows i h) g)))

-- the items of a fragment are refused
pub general_row_refused : {A : Type 0} {R : Fielding} (L : A → List Chunk → Type 0) {S : ℕ → Type 0} {m k : ℕ} {us r : List ℕ} → FieldsPart R → Inhabited L → Spells R (Header S) (fragment m) us r → Refused R (Row L (16384 * m)) r k → Refused R (General L S) us k
general_row_refused {A} {R} L {S} {m} {k} ok i h g =
    let t = taken h in
    subst (λ (l : List ℕ). Refused R (General L S) l k) (sym t.2) (carries_refused (general_fragment L S m ok i t.1) (map_refused (then_refused_first (rest_follows i h) g)))

-- a fragment, and what follows it
pub general_rest_spells : {A : Type 0} {R : Fielding} (L : A → List Chunk → Type 0) {S : ℕ → Type 0} {m : ℕ} {vs ws : List A} {us r s t : List ℕ} → FieldsPart R → Inhabited L → Spells R (Header S) (fragment m) us r → Spells R (Row L (16384 * m)) vs r s → Spells R (General L (Left S m)) ws s t → Spells R (General L S) (vs ++ ws) us t
general_rest_spells {A} {R} L {S} {m} {vs} {ws} {us} {r} {s} {t} ok i h f g =
    let p = taken h in
    subst (λ (l : List ℕ). Spells R (General L S) (vs ++ ws) l t) (sym p.2) ((general_fragment L S m ok i p.1).reads (vs ++ ws) r t (map_spells (then_spells f g)))

-- what follows a fragment wants more
pub general_rest_short : {A : Type 0} {R : Fielding} (L : A → List Chunk → Type 0) {S : ℕ → Type 0} {m : ℕ} {vs : List A} {us r s : List ℕ} → FieldsPart R → Inhabited L → Lawful L → Spells R (Header S) (fragment m) us r → Spells R (Row L (16384 * m)) vs r s → Short R (General L (Left S m)) s → Short R (General L S) us
general_rest_short {A} {R} L {S} {m} ok i law h f g =
    let t = taken h in
    subst (λ (l : List ℕ). Short R (General L S) l) (sym t.2) (carries_short (general_fragment L S m ok i t.1) (map_short (then_short_second ok (row_lawful law (16384 * m)) f g)))

-- what follows a fragment is refused
pub general_rest_refused : {A : Type 0} {R : Fielding} (L : A → List Chunk → Type 0) {S : ℕ → Type 0} {m k : ℕ} {vs : List A} {us r s : List ℕ} → FieldsPart R → Inhabited L → Lawful L → Spells R (Header S) (fragment m) us r → Spells R (Row L (16384 * m)) vs r s → Refused R (General L (Left S m)) s k → Refused R (General L S) us k
general_rest_refused {A} {R} L {S} {m} {k} ok i law h f g =
    let t = taken h in
    subst (λ (l : List ℕ). Refused R (General L S) l k) (sym t.2) (carries_refused (general_fragment L S m ok i t.1) (map_refused (then_refused_second ok (row_lawful law (16384 * m)) f g)))

-- A list that begins so has these items: after the last length
pub general_last_only : {A : Type 0} {R : Fielding} (L : A → List Chunk → Type 0) {S : ℕ → Type 0} {n : ℕ} {vs : List A} {us r s : List ℕ} → FieldsPart R → Inhabited L → Spells R (Header S) (last n) us r → Spells R (General L S) vs us s → Spells R (Row L n) vs r s
general_last_only {A} {R} L {S} {n} {vs} {us} {r} {s} ok i h g =
    let t = taken h in
    (general_last L S n ok i t.1).read vs r s (subst (λ (l : List ℕ). Spells R (General L S) vs l s) t.2 g)

-- and after a fragment
pub general_rest_only : {A : Type 0} {R : Fielding} (L : A → List Chunk → Type 0) {S : ℕ → Type 0} {m : ℕ} {vs ws : List A} {us r x s : List ℕ} → FieldsPart R → Inhabited L → Lawful L → Spells R (Header S) (fragment m) us r → Spells R (Row L (16384 * m)) vs r x → Spells R (General L S) ws us s
    → (xs : List A) × Spells R (General L (Left S m)) xs x s × (ws ≡ vs ++ xs)
general_rest_only {A} {R} L {S} {m} {vs} {ws} {us} {r} {x} {s} ok i law h f g =
    let t = taken h in
    let u = taken f in
    let split : us ≡ (t.0 ++ u.0) ++ x = t.2 ∙ ap (λ (l : List ℕ). t.0 ++ l) u.2 ∙ sym (append_assoc t.0 u.0 x) in
    map_source ((general_blocks L S m ok i law t.1 u.1).read ws x s (subst (λ (l : List ℕ). Spells R (General L S) ws l s) split g))

-- of a fragment these are the first
pub general_row_only : {A : Type 0} {R : Fielding} (L : A → List Chunk → Type 0) {S : ℕ → Type 0} {m : ℕ} {ws : List A} {us r s : List ℕ} → FieldsPart R → Inhabited L → Spells R (Header S) (fragment m) us r → Spells R (General L S) ws us s
    → (vs : List A) × (xs : List A) × (x : List ℕ) × Spells R (Row L (16384 * m)) vs r x × (ws ≡ vs ++ xs)
general_row_only {A} {R} L {S} {m} {ws} {us} {r} {s} ok i h g =
    let t = taken h in
    let w = map_source ((general_fragment L S m ok i t.1).read ws r s (subst (λ (l : List ℕ). Spells R (General L S) ws l s) t.2 g)) in
    let b = then_splits w.1 in
    (w.0.0, w.0.1, b.rest, b.earlier, w.2)
