-- Values in a row: the answer of what is left is the answer of all.
use Rattle.std.proofs.Common.{◌≡◌, ℕ, zero, suc, ◌+◌, List, [], ◌∷◌, ◌++◌, ap, ◌∙◌, subst, arith}
use Rattle.asn_rules.proofs.Live.Chunks.{FieldsPart}
use Rattle.asn_rules.proofs.Languages.Parts.{map_lawful, map_inhabited, map_spells, map_source, map_short, map_refused, nothing_lawful, nothing_inhabited, nothing_spells}
use Rattle.asn_rules.proofs.Languages.Then.{Follows, then_lawful, then_spells, then_inhabited, then_short_first, then_short_second, then_refused_first, then_refused_second, then_splits}
use Rattle.asn_rules.specs.Chunks.{Chunk, flat}
use Rattle.asn_rules.specs.Languages.{Spells, Short, Refused, Lawful, Inhabited, Row, prepended}
use Rattle.asn_rules.specs.Live.{Fielding}

-- the first of a list and the others tell the list
joined_once : {A : Type 0} (p q : A × List A) → prepended p ≡ prepended q → p ≡ q
joined_once {A} p q e =
    let h : p.0 ≡ q.0 = cc in
    let t : p.1 ≡ q.1 = cc in
    λ i. (h i, t i)

-- two rows of n are one or part
pub row_lawful : {A : Type 0} {L : A → List Chunk → Type 0} → Lawful L → (n : ℕ) → Lawful (Row L n)
row_lawful l zero = nothing_lawful []
row_lawful l (suc n) = map_lawful joined_once (then_lawful l (λ _. row_lawful l n))

-- there is a row of n where there is a value
pub row_inhabited : {A : Type 0} {L : A → List Chunk → Type 0} → Inhabited L → (n : ℕ) → Inhabited (Row L n)
row_inhabited i zero = nothing_inhabited []
row_inhabited i (suc n) = map_inhabited (then_inhabited i (record { follow = λ a x h. row_inhabited i n }))

-- after a value there is a row
row_follows : {A : Type 0} {L : A → List Chunk → Type 0} → Inhabited L → (n : ℕ) → Follows L (λ _. Row L n)
row_follows i n = record { follow = λ a x h. row_inhabited i n }

-- Before any is read.
pub row_starts : {A : Type 0} (R : Fielding) (L : A → List Chunk → Type 0) (us : List ℕ) → Spells R (Row L 0) [] us us
row_starts R L us = nothing_spells R [] us

-- The answers of the first of several.
pub row_short_first : {A : Type 0} {R : Fielding} {L : A → List Chunk → Type 0} {us : List ℕ} → Inhabited L → (n : ℕ) → Short R L us → Short R (Row L (suc n)) us
row_short_first i n h = map_short (then_short_first (row_follows i n) h)

-- the first is refused
pub row_refused_first : {A : Type 0} {R : Fielding} {L : A → List Chunk → Type 0} {us : List ℕ} {m : ℕ} → Inhabited L → (n : ℕ) → Refused R L us m → Refused R (Row L (suc n)) us m
row_refused_first i n h = map_refused (then_refused_first (row_follows i n) h)

-- a row of one
pub row_one : {A : Type 0} {R : Fielding} {L : A → List Chunk → Type 0} {a : A} {us r : List ℕ} → Spells R L a us r → Spells R (Row L 1) (a ∷ []) us r
row_one {R = R} {r = r} h = map_spells (then_spells h (nothing_spells R [] r))

-- After i values, the answers of the others.
pub row_spells : {A : Type 0} {R : Fielding} (L : A → List Chunk → Type 0) (i m k : ℕ) {vs ws : List A} {us r s : List ℕ} → i + m ≡ k → Spells R (Row L i) vs us r → Spells R (Row L m) ws r s → Spells R (Row L k) (vs ++ ws) us s
row_spells {A} {R} L zero m k {vs} {ws} {us} {r} {s} e f g =
    let q : m ≡ k = omega arith in
    let h : Spells R (Row L m) ([] ++ ws) us s = rw (f.split ∙ ap (λ c. flat R.spelled c ++ r) f.spelt.empty) g in
    rw f.spelt.same (subst (λ (n : ℕ). Spells R (Row L n) ([] ++ ws) us s) q h)
row_spells L (suc i) m zero e f g = absurd (omega arith)
row_spells {A} {R} L (suc i) m (suc k) {vs} {ws} {us} {r} {s} e f g =
    let p = map_source f in
    let b = then_splits p.1 in
    rw p.2 (map_spells (then_spells b.earlier (row_spells L i m k (omega arith) b.later g)))

-- after i values the others want more
pub row_short : {A : Type 0} {R : Fielding} (L : A → List Chunk → Type 0) → FieldsPart R → Lawful L → (i m k : ℕ) {vs : List A} {us r : List ℕ} → i + m ≡ k → Spells R (Row L i) vs us r → Short R (Row L m) r → Short R (Row L k) us
row_short {A} {R} L ok law zero m k {us = us} {r = r} e f g =
    let q : m ≡ k = omega arith in
    rw (f.split ∙ ap (λ c. flat R.spelled c ++ r) f.spelt.empty) (subst (λ (n : ℕ). Short R (Row L n) r) q g)
row_short L ok law (suc i) m zero e f g = absurd (omega arith)
row_short L ok law (suc i) m (suc k) e f g =
    let b = then_splits (map_source f).1 in
    map_short (then_short_second ok law b.earlier (row_short L ok law i m k (omega arith) b.later g))

-- after i values the others are refused
pub row_refused : {A : Type 0} {R : Fielding} (L : A → List Chunk → Type 0) → FieldsPart R → Lawful L → (i m k : ℕ) {vs : List A} {us r : List ℕ} {n : ℕ} → i + m ≡ k → Spells R (Row L i) vs us r → Refused R (Row L m) r n → Refused R (Row L k) us n
row_refused {A} {R} L ok law zero m k {us = us} {r = r} {n = n} e f g =
    let q : m ≡ k = omega arith in
    rw (f.split ∙ ap (λ c. flat R.spelled c ++ r) f.spelt.empty) (subst (λ (j : ℕ). Refused R (Row L j) r n) q g)
row_refused L ok law (suc i) m zero e f g = absurd (omega arith)
row_refused L ok law (suc i) m (suc k) e f g =
    let b = then_splits (map_source f).1 in
    map_refused (then_refused_second ok law b.earlier (row_refused L ok law i m k (omega arith) b.later g))
