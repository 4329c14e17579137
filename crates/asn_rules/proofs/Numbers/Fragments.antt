-- Items under their general length, one length after the other, are spelt as the definition says, fragments and all.
use Rattle.std.proofs.Common.{◌≡◌, ℕ, zero, suc, pred, ◌+◌, ◌-◌, ◌*◌, ◌/◌, ◌<◌, ◌≤◌, nat_lt, Bool, true, false, ⊎_elim, inl, inr, List, [], ◌∷◌, ◌++◌, map, length, take, drop, length-drop, refl, sym, ap, ◌∙◌, subst, arith}
use Rattle.std.proofs.lemmas.Bool.{ltb-true, ltb-false}
use Rattle.std.proofs.lemmas.List.{append-nil, length-map, length-take-le, drop-map, take-append-drop}
use Rattle.std.proofs.Math.Seq.{take-length}
use Rattle.std.specs.List.{AllByRecursion}
use Rattle.asn_bits.specs.Numbers.{bits}
use Rattle.asn_bits.specs.Lengths.{last_length, fragment as fragment_length, lengths_within, lengths, joined, with_lengths, general}
use Rattle.asn_bits.proofs.GeneralLengths.{lengths_cases, blocks, all_take, take-map}
use Rattle.asn_rules.specs.Chunks.{Chunk, one, ones}
use Rattle.asn_rules.specs.Languages.{Lawful, Row}
use Rattle.asn_rules.specs.Forks.{Same}
use Rattle.asn_rules.specs.General.{Length, last, fragment, Left, Blocks, Header, Body, Within, General}
use Rattle.asn_rules.specs.Spellings.{SpelledBy}
use Rattle.asn_bits.proofs.Weights.{bits_are}
use Rattle.asn_rules.proofs.Numbers.General.{general_once, general_lawful, general_counted}
use Rattle.asn_rules.proofs.Numbers.Headers.{header_few_is, header_many_is, header_blocks_is}
use Rattle.asn_rules.proofs.Languages.Spellings.{same_row, row_spelled}
use Rattle.asn_rules.proofs.Languages.Forks.{same_flip}

-- ---- items of the same spellings

-- with a bound on the lengths
within_same : {A : Type 0} {K L : A → List Chunk → Type 0} → Same K L → (f : ℕ) (S : ℕ → Type 0) (vs : List A) (cs : List Chunk) → Within K f S vs cs → Within L f S vs cs
within_same e zero S vs cs h = absurd h
within_same {A} {K} {L} e (suc f) S vs cs h = record {
  source = h.source;
  spelt = record { first = h.spelt.first; second = h.spelt.second; spelt = h.spelt.spelt; follows = body h.source.0 h.source.1 h.spelt.second h.spelt.follows (λ m ws ds g. within_same e f (Left S m) ws ds g); whole = h.spelt.whole };
  seen = h.seen;
}
  where
    body : (l : Length) (ws : List A) (ds : List Chunk) → Body K (Within K f) S l ws ds → ((m : ℕ) (ws : List A) (ds : List Chunk) → Within K f (Left S m) ws ds → Within L f (Left S m) ws ds) → Body L (Within L f) S l ws ds
    body (last n) ws ds b again = (same_row e n).to ws ds b
    body (fragment m) ws ds b again = record { source = b.source; spelt = record { first = b.spelt.first; second = b.spelt.second; spelt = (same_row e (16384 * m)).to b.source.0 b.spelt.first b.spelt.spelt; follows = again m b.source.1 b.spelt.second b.spelt.follows; whole = b.spelt.whole }; seen = b.seen }

-- items of the same spellings have the same general lengths
pub same_general : {A : Type 0} {K L : A → List Chunk → Type 0} → Same K L → (S : ℕ → Type 0) → Same (General K S) (General L S)
same_general e S = record {
  to = λ vs cs h. record { lengths = h.lengths; spelt = within_same e h.lengths S vs cs h.spelt };
  from = λ vs cs h. record { lengths = h.lengths; spelt = within_same (same_flip e) h.lengths S vs cs h.spelt };
}

-- ---- lengths

-- the last length, as the definition has it
last_header : (S : ℕ → Type 0) (n : ℕ) → S n → n < 16384 → Header S (last n) (ones (last_length n).bits)
last_header S n h w = go (nat_lt n 128) refl
  where
    go : (b : Bool) → nat_lt n 128 ≡ b → Header S (last n) (ones (last_length n).bits)
    go true e =
        let a = ltb-true n 128 e in
        rw (e, last_length) (header_few_is S n (bits 7 n) (record { member = h; below = a }) (bits_are 7 n (omega arith)))
    go false e =
        let a = ltb-false n 128 e in
        rw (e, last_length) (header_many_is S n (bits 14 n) (record { member = h; least = a; below = w }) (bits_are 14 n (omega arith)))

-- the length of a fragment, as the definition has it
fragment_header : (S : ℕ → Type 0) (m : ℕ) → Blocks S m → Header S (fragment m) (ones (fragment_length m).bits)
fragment_header S m b = header_blocks_is S m (bits 6 m) b (bits_are 6 m (omega (arith, b.most)))

module _ {A : Type 0} (P : A → Type 0) (code : A → List Chunk) where
  abbrev Item : A → List Chunk → Type 0
  Item = SpelledBy P code

  -- items in a row, as the definition has them
  row_is : (n : ℕ) (vs : List A) → length vs ≡ n → AllByRecursion P vs → Row Item n vs (joined (map code vs))
  row_is n vs l p = (row_spelled n).from vs (joined (map code vs)) (record { fits = (l, p); same = refl })

  -- ---- the definition's list is a spelling

  abbrev Spelt : ℕ → Type 1
  Spelt f = (S : ℕ → Type 0) (vs : List A) → AllByRecursion P vs → length vs < 16384 * suc f → S (length vs) → General Item S vs (with_lengths one (lengths_within f (length vs)) (map code vs))

  -- the last items under their length
  spelt_last : (S : ℕ → Type 0) (vs : List A) → AllByRecursion P vs → length vs < 16384 → S (length vs) → General Item S vs (with_lengths one (last_length (length vs) ∷ []) (map code vs))
  spelt_last S vs p w h =
      let all : joined (take (length vs) (map code vs)) ++ [] ≡ joined (map code vs) = append-nil (joined (take (length vs) (map code vs))) ∙ ap joined (take-map code (length vs) vs ∙ ap (map code) (take-length vs)) in
      (general_once Item S).to vs (with_lengths one (last_length (length vs) ∷ []) (map code vs)) (record {
        source = (last (length vs), vs);
        spelt = record { first = ones (last_length (length vs)).bits; second = joined (map code vs); spelt = last_header S (length vs) h w; follows = row_is (length vs) vs refl p; whole = ap (λ (l : List Chunk). ones (last_length (length vs)).bits ++ l) all };
        seen = refl;
      })

  -- a fragment under its length, and what follows it
  spelt_fragment : (f m : ℕ) → Spelt f → (S : ℕ → Type 0) (vs : List A) → AllByRecursion P vs → m ≡ blocks (length vs) → 16384 ≤ length vs → length vs < 16384 * suc (suc f) → S (length vs)
      → General Item S vs (with_lengths one (fragment_length m ∷ lengths_within f (length vs - 16384 * m)) (map code vs))
  spelt_fragment f m again S vs p is large w h =
      let k = 16384 * m in
      let some : 1 ≤ m = omega arith in
      let most : m ≤ 4 = omega arith in
      let fits : k ≤ length vs = omega arith in
      let count : length (drop k vs) ≡ length vs - k = length-drop k vs in
      let q = all_take P k vs p in
      let back : 16384 * m + length (drop k vs) ≡ length vs = omega (arith, count) in
      let left : Left S m (length (drop k vs)) = record { member = subst S (sym back) h; largest = λ l. omega (arith, count) } in
      let rest : General Item (Left S m) (drop k vs) (with_lengths one (lengths_within f (length (drop k vs))) (map code (drop k vs))) = again (Left S m) (drop k vs) q.1 (omega (arith, count)) left in
      let after = with_lengths one (lengths_within f (length vs - k)) (drop k (map code vs)) in
      let same : after ≡ with_lengths one (lengths_within f (length (drop k vs))) (map code (drop k vs)) = ap (λ (i : ℕ). with_lengths one (lengths_within f i) (drop k (map code vs))) (sym count) ∙ ap (λ l. with_lengths one (lengths_within f (length (drop k vs))) l) (drop-map code k vs) in
      let row : Row Item k (take k vs) (joined (take k (map code vs))) = subst (λ l. Row Item k (take k vs) (joined l)) (sym (take-map code k vs)) (row_is k (take k vs) (length-take-le k vs fits) q.0) in
      (general_once Item S).to vs (with_lengths one (fragment_length m ∷ lengths_within f (length vs - k)) (map code vs)) (record {
        source = (fragment m, vs);
        spelt = record {
          first = ones (fragment_length m).bits;
          second = joined (take k (map code vs)) ++ after;
          spelt = fragment_header S m (record { some = some; most = most; rest = length (drop k vs); left = left });
          follows = record { source = (take k vs, drop k vs); spelt = record { first = joined (take k (map code vs)); second = after; spelt = row; follows = subst (λ l. General Item (Left S m) (drop k vs) l) (sym same) rest; whole = refl }; seen = sym (take-append-drop k vs) };
          whole = refl;
        };
        seen = refl;
      })

  -- the one or the other
  spelt_step : (f : ℕ) → (0 < f → Spelt (pred f)) → Spelt f
  spelt_step f again S vs p w h =
      elim (lengths_cases f (length vs) w) [
        | inl a ↦ subst (λ ls. General Item S vs (with_lengths one ls (map code vs))) (sym a.1) (spelt_last S vs p a.0 h)
        | inr b ↦ subst (λ ls. General Item S vs (with_lengths one ls (map code vs))) (sym b.2) (spelt_fragment (pred f) (blocks (length vs)) (again b.0) S vs p refl b.1 (let l = b.0 in omega arith) h)
      ]

  -- as many fragments as there are
  spelt_within : (f : ℕ) → Spelt f
  spelt_within zero = spelt_step zero (λ l. absurd (omega arith))
  spelt_within (suc f) = spelt_step (suc f) (λ l. spelt_within f)

  -- items under their general length, as the definition has them, are a spelling
  pub general_spelt : (S : ℕ → Type 0) (vs : List A) → AllByRecursion P vs → S (length vs) → General Item S vs (general one (map code vs))
  general_spelt S vs p h =
      subst (λ (n : ℕ). General Item S vs (with_lengths one (lengths n) (map code vs))) (sym (length-map vs code)) (spelt_within (length vs / 16384) S vs p (omega arith) h)

  -- ---- a spelling is the definition's list

  -- two lists of items that fit
  all_append : (vs ws : List A) → AllByRecursion P vs → AllByRecursion P ws → AllByRecursion P (vs ++ ws)
  all_append [] ws p q = q
  all_append (v ∷ vs) ws p q = (p.0, all_append vs ws p.1 q)

  -- the items of a spelling fit
  within_all : (f : ℕ) (S : ℕ → Type 0) (vs : List A) (cs : List Chunk) → Within Item f S vs cs → AllByRecursion P vs
  within_all zero S vs cs h = absurd h
  within_all (suc f) S vs cs h = subst (AllByRecursion P) (sym h.seen) (go h.source.0 h.source.1 h.spelt.second h.spelt.follows (λ m ws ds g. within_all f (Left S m) ws ds g))
    where
      go : (l : Length) (ws : List A) (ds : List Chunk) → Body Item (Within Item f) S l ws ds → ((m : ℕ) (ws : List A) (ds : List Chunk) → Within Item f (Left S m) ws ds → AllByRecursion P ws) → AllByRecursion P ws
      go (last n) ws ds b again = ((row_spelled n).to ws ds b).fits.1
      go (fragment m) ws ds b again =
          let x = ((row_spelled (16384 * m)).to b.source.0 b.spelt.first b.spelt.spelt).fits.1 in
          let y = again m b.source.1 b.spelt.second b.spelt.follows in
          subst (AllByRecursion P) (sym b.seen) (all_append b.source.0 b.source.1 x y)

  -- items under their general length, as the definition spells them
  pub general_spelled : Lawful Item → (S : ℕ → Type 0) → Same (General Item S) (SpelledBy (λ vs. S (length vs) × AllByRecursion P vs) (λ vs. general one (map code vs)))
  general_spelled law S = record {
    to = λ vs cs h.
        let p = within_all h.lengths S vs cs h.spelt in
        let n = general_counted h in
        record { fits = (n, p); same = ⊎_elim (λ e. e.1) (λ e. absurd (e.0 refl)) ((general_lawful law S).law vs vs cs (general one (map code vs)) h (general_spelt S vs p n)) };
    from = λ vs cs h. subst (λ l. General Item S vs l) (sym h.same) (general_spelt S vs h.fits.1 h.fits.0);
  }
