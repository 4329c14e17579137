-- What is put together of parts weighs at most what their units allow together.
use Rattle.std.proofs.Common.{◌≡◌, ◌≤◌, ◌+◌, ◌*◌, ℕ, zero, suc, List, [], ◌∷◌, ◌++◌, length, length-append, refl, ap, ◌∙◌, arith}
use Rattle.std.proofs.Math.Nat.{mul-add, mul-le-mul_left}
use Rattle.asn_values.specs.Shape.{SizeRange}
use Rattle.asn_rules.specs.Chunks.{Chunk, flat}
use Rattle.asn_rules.specs.General.{Length, last, fragment, Left, Body, Within}
use Rattle.asn_rules.specs.Languages.{Spells, Row}
use Rattle.asn_rules.specs.Live.{Fielding}
use Rattle.asn_rules.proofs.Live.Flat.{flat-append}
use Rattle.asn_walk.specs.Ahead.{Ahead, items, lengths, end, Remaining}
use Rattle.asn_walk.specs.Coding.{Coding, ListingOf}
use Rattle.asn_walk_feed.specs.Weights.{total, Weighs}

-- ---- sums

pub total-append : {A : Type 0} (w : A → ℕ) (xs ys : List A) → total w (xs ++ ys) ≡ total w xs + total w ys
total-append w [] ys = omega arith
total-append w (x ∷ xs) ys = (let e = total-append w xs ys in omega (arith, e))

pub total-one : {A : Type 0} (xs : List A) → total (λ x. 1) xs ≡ length xs
total-one [] = refl
total-one (x ∷ xs) = (let e = total-one xs in omega (arith, e))

pub total-eight : {A : Type 0} (xs : List A) → total (λ x. 8) xs ≡ 8 * length xs
total-eight [] = refl
total-eight (x ∷ xs) = (let e = total-eight xs in omega (arith, e))

-- one more at the end
pub total-last : {A : Type 0} (w : A → ℕ) (xs : List A) (x : A) → total w (xs ++ x ∷ []) ≡ total w xs + w x
total-last w xs x = (let e = total-append w xs (x ∷ []) in omega (arith, e))

-- ---- spellings

module _ (R : Fielding) where
  abbrev size : List Chunk → ℕ
  size cs = length (flat R.spelled cs)

  pub size-append : (x y : List Chunk) → length (flat R.spelled (x ++ y)) ≡ length (flat R.spelled x) + length (flat R.spelled y)
  size-append x y = ap length (flat-append R.spelled x y) ∙ length-append (flat R.spelled x) (flat R.spelled y)

  -- one after the other
  both : (k m n : ℕ) (x y cs : List Chunk) → cs ≡ x ++ y → m ≤ k * size x → n ≤ k * size y → m + n ≤ k * size cs
  both k m n x y cs e h l =
      let all : k * size cs ≡ k * (size x + size y) = ap (λ (zs : List Chunk). k * size zs) e ∙ ap (λ (i : ℕ). k * i) (size-append x y) in
      let sum = mul-add k (size x) (size y) in
      omega (arith, all, sum, h, l)

  -- the second of two
  after : (k n : ℕ) (x y cs : List Chunk) → cs ≡ x ++ y → n ≤ k * size y → n ≤ k * size cs
  after k n x y cs e l = (let h = both k 0 n x y cs e (omega arith) l in omega (arith, h))

  module _ {A : Type 0} (L : A → List Chunk → Type 0) (w : A → ℕ) (k : ℕ) (f : Weighs R L w k) where
    pub row_weighs : (n : ℕ) → Weighs R (Row L n) (total w) k
    row_weighs zero vs cs h = rw h.same (omega arith)
    row_weighs (suc n) vs cs h =
        let p = h.source in
        let t = h.spelt in
        rw h.seen (both k (w p.0) (total w p.1) t.first t.second cs t.whole (f p.0 t.first t.spelt) (row_weighs n p.1 t.second t.follows))

    -- what follows a length
    body_weighs : (G : (ℕ → Type 0) → List A → List Chunk → Type 0) → ((S : ℕ → Type 0) → Weighs R (G S) (total w) k) → (S : ℕ → Type 0) (l : Length) → Weighs R (Body L G S l) (total w) k
    body_weighs G g S (last m) xs ds x = row_weighs m xs ds x
    body_weighs G g S (fragment m) xs ds x =
        let p = x.source in
        let t = x.spelt in
        let sum = total-append w p.0 p.1 in
        let all = both k (total w p.0) (total w p.1) t.first t.second ds t.whole (row_weighs (16384 * m) p.0 t.first t.spelt) (g (Left S m) p.1 t.second t.follows) in
        rw x.seen (omega (arith, sum, all))

    within_weighs : (n : ℕ) (S : ℕ → Type 0) → Weighs R (Within L n S) (total w) k
    within_weighs zero S vs cs h = absurd h
    within_weighs (suc n) S vs cs h =
        let t = h.spelt in
        let second = body_weighs (Within L n) (λ Z xs ds x. within_weighs n Z xs ds x) S h.source.0 h.source.1 t.second t.follows in
        after k (total w vs) t.first t.second cs t.whole (rw h.seen second)

    remaining_weighs : (a : Ahead) → Weighs R (Remaining L a) (total w) k
    remaining_weighs (items n) vs cs h = row_weighs n vs cs h
    remaining_weighs (lengths is so_far closed) vs cs h = within_weighs h.lengths _ vs cs h.spelt
    remaining_weighs end vs cs h = rw h.same (omega arith)

    pub spells_weigh : (v : A) (us r : List ℕ) → Spells R L v us r → w v + k * length r ≤ k * length us
    spells_weigh v us r h =
        let all : k * length us ≡ k * (size h.chunks + length r) = ap (λ (i : ℕ). k * i) (ap length h.split ∙ length-append (flat R.spelled h.chunks) r) in
        let sum = mul-add k (size h.chunks) (length r) in
        let one = f v h.chunks h.spelt in
        omega (arith, all, sum, one)

pub listing_weighs : {A : Type 0} (c : Coding) (L : A → List Chunk → Type 0) (w : A → ℕ) (k : ℕ) (s : SizeRange) → Weighs c.ruling.fielding L w k
    → Weighs c.ruling.fielding (ListingOf c s L) (total w) k
listing_weighs c L w k s f vs cs h =
    let t = h.spelt in
    after c.ruling.fielding k (total w vs) t.first t.second cs t.whole (rw h.seen (remaining_weighs c.ruling.fielding L w k f h.source.0 h.source.1 t.second t.follows))

-- ---- units that are left

-- what is left after a spelling is not more
pub spells_fewer : {A : Type 0} {R : Fielding} {L : A → List Chunk → Type 0} {v : A} {us r : List ℕ} → Spells R L v us r → length r ≤ length us
spells_fewer {R = R} {r = r} h = (let e = ap length h.split ∙ length-append (flat R.spelled h.chunks) r in omega (arith, e))

-- nor are the units of the spelling
pub chunks_fewer : {A : Type 0} {R : Fielding} {L : A → List Chunk → Type 0} {v : A} {us r : List ℕ} → (h : Spells R L v us r) → length (flat R.spelled h.chunks) ≤ length us
chunks_fewer {R = R} {r = r} h = (let e = ap length h.split ∙ length-append (flat R.spelled h.chunks) r in omega (arith, e))

-- less is left where fewer units are
pub still_light : (k m n all x y : ℕ) → m + k * x ≤ all → y ≤ x → n ≤ m → n + k * y ≤ all
still_light k m n all x y h l e =
    let fewer : k * y ≤ k * x = mul-le-mul_left k l in
    omega (arith, h, fewer, e)
