-- Parts of at most sixteen octets are brief: fifteen of them are 120 bits.
use Rattle.std.proofs.Common.{◌≡◌, ◌≤◌, ◌<◌, ◌+◌, ℕ, List, [], ◌∷◌, ◌++◌, length, sym, ap, subst, ◌∙◌, arith, length-append, append-nil}
use Rattle.asn_bits.specs.Numbers.{packed}
use Rattle.asn_bits.specs.Sets.{InDigits}
use Rattle.asn_bits.proofs.FilledBits.{length-packed}
use Rattle.asn_rules.specs.Chunks.{Chunk, ones, flat}
use Rattle.asn_rules.specs.Forks.{Same}
use Rattle.asn_rules.specs.Languages.{AllContents, IsFront, Short, Then, Map, Nothing, Plain}
use Rattle.asn_rules.specs.Live.{Fielding}
use Rattle.asn_rules.specs.Spellings.{SpelledBy}
use Rattle.asn_rules.proofs.Live.Chunks.{ones-append}
use Rattle.asn_rules.proofs.Live.Flat.{flat-ones}
use Rattle.asn_rules.proofs.Languages.Parts.{contents-ones, front_ones}
use Rattle.asn_oer.specs.Rules.{oer_ruling}
use Rattle.asn_oer.specs.Walk.{oer_coding}
use Rattle.asn_walk_feed.specs.Feeding.{IsBrief}

-- each spelling is plain units, at most n of them
pub record HasFew {V : Type 0} (n : ℕ) (L : V → List Chunk → Type 0) : Type 0 where
  pub units : (v : V) (cs : List Chunk) → L v cs → (us : List ℕ) × (cs ≡ ones us) × (length us ≤ n)

-- ---- which have few

pub few_more : {V : Type 0} {L : V → List Chunk → Type 0} (m n : ℕ) → m ≤ n → HasFew m L → HasFew n L
few_more m n h l = record { units = λ v cs s. (let w = l.units v cs s in (w.0, w.1, omega (arith, h, w.2))) }

pub few_nothing : {A : Type 0} (a : A) → HasFew 0 (Nothing a)
few_nothing a = record { units = λ v cs s. ([], s.empty, omega arith) }

pub few_map : {A B : Type 0} {f : A → B} {L : A → List Chunk → Type 0} {n : ℕ} → HasFew n L → HasFew n (Map f L)
few_map l = record { units = λ v cs s. l.units s.source cs s.spelt }

pub few_then : {A B : Type 0} {L : A → List Chunk → Type 0} {M : A → B → List Chunk → Type 0} (m n : ℕ) → HasFew m L → ((a : A) → HasFew n (M a)) → HasFew (m + n) (Then L M)
few_then {A} {B} {L} {M} m n l k = record { units = λ v cs s. both cs s.first s.second s.whole (l.units v.0 s.first s.spelt) ((k v.0).units v.1 s.second s.follows) }
  where
    both : (cs x y : List Chunk) → cs ≡ x ++ y → (us : List ℕ) × (x ≡ ones us) × (length us ≤ m) → (us : List ℕ) × (y ≡ ones us) × (length us ≤ n) → (us : List ℕ) × (cs ≡ ones us) × (length us ≤ m + n)
    both cs x y e p q = (
      p.0 ++ q.0,
      e ∙ ap (λ (c : List Chunk). c ++ y) p.1 ∙ ap (λ (c : List Chunk). ones p.0 ++ c) q.1 ∙ sym (ones-append p.0 q.0),
      omega (arith, length-append p.0 q.0, p.2, q.2),
    )

pub few_spelled : {V : Type 0} {P : V → Type 0} (f : V → List ℕ) (n : ℕ) → ((v : V) → P v → length (f v) ≤ n) → HasFew n (SpelledBy P (λ v. ones (f v)))
few_spelled f n h = record { units = λ v cs s. (f v, s.same, h v s.fits) }

pub few_digits : (base k : ℕ) (S : ℕ → Type 0) → HasFew k (Plain (InDigits base k S))
few_digits base k S = record { units = λ v cs s. (s.units, s.same, omega (arith, s.spelt.digits.count)) }

pub few_same : {V : Type 0} {L M : V → List Chunk → Type 0} {n : ℕ} → Same L M → HasFew n M → HasFew n L
few_same e m = record { units = λ v cs s. m.units v cs (e.to v cs s) }

-- ---- they are brief

module _ {V : Type 0} {R : Fielding} {L : V → List Chunk → Type 0} (few : HasFew 16 L) where
  -- octets that want more are fewer
  octets_fewer : (us : List ℕ) → Short R L us → length us < 16
  octets_fewer us short = go w.0 w.1 w.2 f.0 f.1
    where
      w : (xs : List ℕ) × (short.live.chunks ≡ ones xs) × (length xs ≤ 16)
      w = few.units short.live.value short.live.chunks short.live.spelt

      f : (t : List ℕ) × (w.0 ≡ us ++ t)
      f = front_ones R w.0 us (subst (λ (cs : List Chunk). IsFront R cs us) w.1 short.live.front)

      go : (xs : List ℕ) → short.live.chunks ≡ ones xs → length xs ≤ 16 → (t : List ℕ) → xs ≡ us ++ t → length us < 16
      go xs e l [] g =
          let whole : us ≡ flat R.spelled short.live.chunks ++ [] = sym (append-nil us) ∙ sym g ∙ sym (flat-ones R.spelled xs) ∙ ap (flat R.spelled) (sym e) ∙ sym (append-nil (flat R.spelled short.live.chunks)) in
          absurd (short.none short.live.value [] (record {
            chunks = short.live.chunks;
            spelt = short.live.spelt;
            contents = subst (AllContents R) (sym e) (contents-ones R xs);
            split = whole;
          }))
      go xs e l (x ∷ t) g = omega (arith, l, ap length g, length-append us (x ∷ t))

pub few_brief : {V : Type 0} {L : V → List Chunk → Type 0} → HasFew 16 L → IsBrief oer_coding L
unfolding oer_coding oer_ruling
few_brief few = record { brief = λ us at short. (let n = octets_fewer few (packed us) short in omega (arith, n, length-packed us at)) }
