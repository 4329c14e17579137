-- Where the reader of the index of an unknown item in PER stands.
use Rattle.std.proofs.Common.{◌≡◌, ◌<◌, ◌≤◌, ℕ, ℤ, pos, negsuc, List, [], ◌∷◌, ◌++◌, length, refl, sym, ap, subst, ◌∙◌, arith, append_assoc, to_z, of_z}
use Rattle.std.proofs.lemmas.Int.{ints}
use mir.Syntax.{w128}
use Rattle.std.proofs.lemmas.List.{length-map}
use Rattle.asn_values.specs.Shape.{Label}
use Rattle.asn_values.specs.Profile.{most_items, most_item_additions}
use Rattle.asn_values.specs.View.{labels_seen}
use Rattle.asn_values.specs.declared.types.Item.{Item}
use Rattle.asn_rules.specs.Chunks.{Chunk, ones, flat}
use Rattle.asn_rules.specs.Languages.{Spells, NoSpelling}
use Rattle.asn_rules.proofs.Live.Flat.{flat-ones}
use Rattle.asn_rules.proofs.Languages.Forks.{same_flip, same_spells}
use Rattle.asn_rules.proofs.Languages.Parts.{contents-ones}
use Rattle.asn_per.specs.Kinds.{SmallBelow}
use Rattle.asn_per.specs.Per.{small, per_fields}
use Rattle.asn_per.specs.Rules.{per_ruling}
use Rattle.asn_per.specs.Walk.{per_coding}
use Rattle.asn_per.proofs.Law.Numbers.{small_code}
use Rattle.asn_per.proofs.Types.SmallNumbers.{small_spelled}
use Rattle.asn_newer.specs.Rules.{per_loose, IsIndexToCome}
use Rattle.asn_newer.specs.Walking.{UnknownItem}
use Rattle.asn_newer.proofs.Walk.Halts.{NoneOn}

-- ---- normally small numbers below a count

module _ (most : ℕ) (few : most ≤ most_item_additions) where
  -- one is read
  pub small_at : (n : ℕ) (us r : List ℕ) → Spells per_fields (SmallBelow most) n us r → (n < most) × (us ≡ small n ++ r)
  small_at n us r h =
      let k = same_spells (small_spelled most (omega (arith, few))) h in
      (k.spelt.fits, k.split ∙ ap (λ (cs : List Chunk). flat per_fields.spelled cs ++ r) k.spelt.same ∙ ap (λ (l : List ℕ). l ++ r) (flat-ones per_fields.spelled (small n)))

  -- and stands there
  small_read : (n : ℕ) (us r : List ℕ) → n < most → us ≡ small n ++ r → Spells per_fields (SmallBelow most) n us r
  small_read n us r h e =
      same_spells (same_flip (small_spelled most (omega (arith, few)))) (record {
        chunks = ones (small n);
        spelt = record { fits = h; same = refl };
        contents = contents-ones per_fields (small n);
        split = e ∙ ap (λ (l : List ℕ). l ++ r) (sym (flat-ones per_fields.spelled (small n)));
      })

-- ---- the index after the extension bit

tails : {u v : ℕ} {us vs : List ℕ} → u ∷ us ≡ v ∷ vs → us ≡ vs
tails k = cc

heads : {u v : ℕ} {us vs : List ℕ} → u ∷ us ≡ v ∷ vs → u ≡ v
heads k = cc

-- what the bits of an unknown item are
pub record IndexAt (root additions : List Label) (us : List ℕ) : Type 0 where
  pub index : ℕ
  pub rest : List ℕ
  pub to_come : IsIndexToCome root additions index
  pub split : us ≡ 1 ∷ (small index ++ rest)

module _ (root additions : List Label) where
  -- an index past those of the type
  pub index_read : (n : ℕ) (us mid r : List ℕ) → us ≡ 1 ∷ mid → mid ≡ small n ++ r → IsIndexToCome root additions n → Spells per_loose.coding.ruling.fielding (UnknownItem per_loose root additions) (pos n) us r
  unfolding per_loose
  index_read n us mid r e f k = record {
    chunks = ones (1 ∷ small n);
    spelt = record { fits = k; same = refl };
    contents = contents-ones per_loose.coding.ruling.fielding (1 ∷ small n);
    split = e ∙ ap (λ (l : List ℕ). 1 ∷ l) f ∙ ap (λ (l : List ℕ). l ++ r) (sym (flat-ones per_loose.coding.ruling.fielding.spelled (1 ∷ small n)));
  }

  index_at : (z : ℤ) (us r : List ℕ) → Spells per_loose.coding.ruling.fielding (UnknownItem per_loose root additions) z us r → IndexAt root additions us
  unfolding per_loose
  index_at (negsuc n) us r h = absurd h.spelt.fits
  index_at (pos n) us r h = record {
    index = n;
    rest = r;
    to_come = h.spelt.fits;
    split = h.split ∙ ap (λ (cs : List Chunk). flat per_loose.coding.ruling.fielding.spelled cs ++ r) h.spelt.same ∙ ap (λ (l : List ℕ). l ++ r) (flat-ones per_loose.coding.ruling.fielding.spelled (1 ∷ small n));
  }

  -- none stands there
  pub no_index : (us : List ℕ) → (IndexAt root additions us → ⊥) → NoSpelling per_loose.coding.ruling.fielding (UnknownItem per_loose root additions) us
  no_index us n z r h = n (index_at z us r h)

  pub none_empty : (us : List ℕ) → us ≡ [] → IndexAt root additions us → ⊥
  none_empty us e h = absurd (let f = sym e ∙ h.split in cc)

  pub none_root : (us mid : List ℕ) (bit : ℕ) → bit ≡ 0 → us ≡ bit ∷ mid → (after : List ℕ) → IndexAt root additions (us ++ after) → ⊥
  none_root us mid bit z e after h = absurd (omega (arith, heads (sym (ap (λ (l : List ℕ). l ++ after) e) ∙ h.split), z))

  -- no index is to come
  pub none_to_come : (us : List ℕ) → most_items ≤ length root → IndexAt root additions us → ⊥
  none_to_come us full h = omega (arith, h.to_come.room, full)

  module _ (us mid : List ℕ) (bit : ℕ) (one : bit ≡ 1) (e : us ≡ bit ∷ mid) where
    split_on : (after : List ℕ) → us ++ after ≡ 1 ∷ (mid ++ after)
    split_on after = ap (λ (l : List ℕ). l ++ after) e ∙ ap (λ (b : ℕ). b ∷ (mid ++ after)) one

    -- none is where no normally small number is
    pub none_on : (most : ℕ) → most ≤ most_item_additions → ((n : ℕ) → IsIndexToCome root additions n → n < most) → NoneOn per_loose.coding.ruling.fielding (SmallBelow most) mid (UnknownItem per_loose root additions) us
    unfolding per_loose per_coding per_ruling
    none_on most few below after n z r k =
        let h = index_at z (us ++ after) r k in
        n h.index h.rest (small_read most few h.index (mid ++ after) h.rest (below h.index h.to_come) (tails (sym (split_on after) ∙ h.split)))

    -- nor where another one is
    pub none_else : (n : ℕ) (r : List ℕ) → mid ≡ small n ++ r → (IsIndexToCome root additions n → ⊥) → (after : List ℕ) → IndexAt root additions (us ++ after) → ⊥
    none_else n r f never after h =
        let g : small n ++ (r ++ after) ≡ small h.index ++ h.rest = sym (ap (λ (l : List ℕ). l ++ after) f ∙ append_assoc (small n) r after) ∙ tails (sym (split_on after) ∙ h.split) in
        let d = small_code n h.index (r ++ after) h.rest g in
        never (subst (λ (k : ℕ). IsIndexToCome root additions k) (sym d.0) h.to_come)

-- a label for each item
pub few_labels : (is : List Item) → length (labels_seen is) ≡ length is
few_labels is = simp length-map

-- the index as the program counts
pub index_told : (n : ℕ) → n < most_item_additions → pos n ≡ to_z w128 (of_z w128 (pos n))
index_told n h = omega (arith, ints)
