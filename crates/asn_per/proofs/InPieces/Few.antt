-- Languages whose spellings are plain units, of which there are few: the parts that a piece may cut.
use Rattle.std.proofs.Common.{◌≡◌, ◌≤◌, ◌+◌, ℕ, suc, ◌⊎◌, inl, inr, List, [], ◌∷◌, ◌++◌, length, length-append, Option, sym, ap, ◌∙◌, subst, arith}
use Rattle.asn_rules.proofs.Live.Chunks.{ones-append}
use Rattle.asn_values.specs.Datum.{Datum}
use Rattle.asn_values.specs.Shape.{Shape}
use Rattle.asn_bits.specs.Sets.{InDigits}
use Rattle.asn_rules.specs.Chunks.{Chunk, one, ones}
use Rattle.asn_rules.specs.Forks.{Branch, Fork, Same}
use Rattle.asn_rules.specs.Languages.{IsFront, Short, Then, Map, Nothing, Plain}
use Rattle.asn_rules.specs.Listed.{Spelt}
use Rattle.asn_rules.specs.Live.{Fielding}
use Rattle.asn_rules.specs.Spellings.{SpelledBy}
use Rattle.asn_per.specs.Kinds.{Values}
use Rattle.asn_per.specs.Per.{per}
use Rattle.asn_per.specs.Rules.{per_ruling}
use Rattle.asn_per.specs.Walk.{per_coding}
use Rattle.asn_walk_feed.specs.Feeding.{IsBrief}

-- the chunks are plain units, and no more than n
pub record AreFew (n : ℕ) (cs : List Chunk) : Type 0 where
  pub units : List ℕ
  pub same : cs ≡ ones units
  pub few : length units ≤ n

-- each spelling is
pub record HasFew {V : Type 0} (n : ℕ) (L : V → List Chunk → Type 0) : Type 0 where
  pub spelt : (v : V) (cs : List Chunk) → L v cs → AreFew n cs

-- ---- put together

-- no more than a higher number
pub few_more : {V : Type 0} {L : V → List Chunk → Type 0} (m n : ℕ) → m ≤ n → HasFew m L → HasFew n L
few_more m n h f = record {
  spelt = λ v cs s.
      let u = f.spelt v cs s in
      record { units = u.units; same = u.same; few = omega (arith, h, u.few) };
}

-- under another view of the values
pub few_map : {A B : Type 0} {f : A → B} {L : A → List Chunk → Type 0} (n : ℕ) → HasFew n L → HasFew n (Map f L)
few_map n f = record { spelt = λ v cs s. f.spelt s.source cs s.spelt }

-- in a language of the same spellings
pub few_same : {V : Type 0} {L M : V → List Chunk → Type 0} (n : ℕ) → Same L M → HasFew n L → HasFew n M
few_same n e f = record { spelt = λ v cs s. f.spelt v cs (e.from v cs s) }

-- nothing
pub few_nothing : {V : Type 0} (v : V) → HasFew 0 (Nothing v)
few_nothing v = record { spelt = λ w cs s. record { units = []; same = s.empty; few = omega arith } }

-- plain units
pub few_plain : {A : Type 0} {C : A → List ℕ → Type 0} (n : ℕ) → ((a : A) (us : List ℕ) → C a us → length us ≤ n) → HasFew n (Plain C)
few_plain n f = record { spelt = λ v cs s. record { units = s.units; same = s.same; few = f v s.units s.spelt } }

-- a number in k digits
pub few_digits : (b k n : ℕ) (S : ℕ → Type 0) → k ≤ n → HasFew n (Plain (InDigits b k S))
few_digits b k n S h = few_plain n (λ a us c. omega (arith, h, c.digits.count))

-- units that a function gives
pub few_spelled : {V : Type 0} {P : V → Type 0} (f : V → List ℕ) (n : ℕ) → ((v : V) → P v → length (f v) ≤ n) → HasFew n (SpelledBy P (λ v. ones (f v)))
few_spelled f n h = record { spelt = λ v cs s. record { units = f v; same = s.same; few = h v s.fits } }

-- a unit before others
one_more : (n u : ℕ) (cs rest : List Chunk) → cs ≡ one u ∷ rest → AreFew n rest → AreFew (suc n) cs
one_more n u cs rest e f = record {
  units = u ∷ f.units;
  same = e ∙ ap (λ (l : List Chunk). one u ∷ l) f.same;
  few = omega (arith, f.few);
}

-- after a bit
pub few_fork : {A B : Type 0} {X : A → List Chunk → Type 0} {Y : B → List Chunk → Type 0} (n : ℕ) → HasFew n X → HasFew n Y → HasFew (suc n) (Fork X Y)
few_fork {A} {B} {X} {Y} n f g = record { spelt = λ v cs s. go v cs s.side }
  where
    go : (v : A ⊎ B) (cs : List Chunk) → Branch 0 inl X v cs ⊎ Branch 1 inr Y v cs → AreFew (suc n) cs
    go v cs (inl b) = one_more n 0 cs b.rest b.same (f.spelt b.value b.rest b.spelt)
    go v cs (inr b) = one_more n 1 cs b.rest b.same (g.spelt b.value b.rest b.spelt)

-- one after the other
pub few_then : {A B : Type 0} {L : A → List Chunk → Type 0} {M : A → B → List Chunk → Type 0} (m n : ℕ) → HasFew m L → ((a : A) (cs : List Chunk) → L a cs → HasFew n (M a)) → HasFew (m + n) (Then L M)
few_then m n f g = record {
  spelt = λ v cs s.
      let a = f.spelt v.0 s.first s.spelt in
      let b = (g v.0 s.first s.spelt).spelt v.1 s.second s.follows in
      record {
        units = a.units ++ b.units;
        same = s.whole ∙ ap (λ (l : List Chunk). l ++ s.second) a.same ∙ ap (λ (l : List Chunk). ones a.units ++ l) b.same ∙ sym (ones-append a.units b.units);
        few = omega (arith, length-append a.units b.units, a.few, b.few);
      };
}

-- the values of a type, but for one that may be left out
pub few_spelt : (o : Option Datum) (t : Shape) (n : ℕ) → HasFew n (Values t) → HasFew n (Spelt per o t)
few_spelt o t n f = record { spelt = λ v cs s. f.spelt v cs (record { fits = s.fits.0; same = s.same }) }

-- ---- brief

-- units that begin plain ones are no more than these
pub front_few : (R : Fielding) (ws us : List ℕ) → IsFront R (ones ws) us → length us ≤ length ws
front_few R ws [] h = omega arith
front_few R [] (u ∷ us) h = absurd h
front_few R (w ∷ ws) (u ∷ us) h = omega (arith, front_few R ws us h.1)

-- a language of few units is brief
pub brief : {V : Type 0} {L : V → List Chunk → Type 0} (n : ℕ) → n ≤ 120 → HasFew n L → IsBrief per_coding L
unfolding per_coding per_ruling
brief {V} {L} n h f = record { brief = λ us a s. go us s }
  where
    go : (us : List ℕ) → Short per_coding.ruling.fielding L us → length us ≤ 120
    go us s =
        let few = f.spelt s.live.value s.live.chunks s.live.spelt in
        let front : IsFront per_coding.ruling.fielding (ones few.units) us = subst (λ (cs : List Chunk). IsFront per_coding.ruling.fielding cs us) few.same s.live.front in
        omega (arith, front_few per_coding.ruling.fielding few.units us front, few.few, h)
