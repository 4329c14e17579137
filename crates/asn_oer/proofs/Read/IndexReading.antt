-- The tag of a CHOICE as the index that the walk asks for.
use Rattle.std.proofs.Common.{◌≡◌, ◌≤◌, ◌<◌, ◌+◌, ◌-◌, ◌⊎◌, inl, inr, ℕ, Bool, true, false, nat_lt, List, Option, None, Some, refl, sym, ap, ◌∙◌, arith}
use Rattle.std.specs.Option.{unwrap_or}
use Rattle.std.proofs.lemmas.Bool.{ltb-true, ltb-false, lt-ltb, le-ltb}
use Rattle.asn_rules.specs.Chunks.{ones}
use Rattle.asn_rules.specs.Forks.{Same}
use Rattle.asn_rules.specs.Languages.{Map}
use Rattle.asn_rules.proofs.Languages.Leads.{Leads, leads_on, leads_map, leads_same}
use Rattle.asn_rules.proofs.Languages.Spellings.{same_after, same_map, map_spelled}
use Rattle.asn_walk.specs.Coding.{IsIndexWithin, AreFew, IndexOf}
use Rattle.asn_oer.specs.Constructed.{Tags}
use Rattle.asn_oer.specs.Oer.{oer_fields, tag}
use Rattle.asn_oer.specs.Walk.{oer_coding, tag_of, alternatives_of}
use Rattle.asn_oer.proofs.Types.TagLanguages.{tags_spelled}

-- the index with a tag
abbrev pub index_told : ℕ → ℕ → ℕ ⊎ ℕ
index_told root t = elim (nat_lt t root) [ true ↦ inl t | false ↦ inr (t - root) ]

pub told_root : (root t : ℕ) → t < root → index_told root t ≡ inl t
told_root root t h = rw (lt-ltb t root h, index_told) refl

pub told_added : (root t : ℕ) → root ≤ t → index_told root t ≡ inr (t - root)
told_added root t h = rw (le-ltb t root h, index_told) refl

-- the tags are those of the alternatives, which are few
pub tag_within : (root : ℕ) (more : Option ℕ) (i : ℕ ⊎ ℕ) → AreFew root more → IsIndexWithin root more i → (tag_of root i < alternatives_of root more) × (alternatives_of root more ≤ 16384)
tag_within root None (inl n) few h = (h, omega (arith, few))
tag_within root None (inr n) few h = absurd h
tag_within root (Some more) (inl n) few h = (omega (arith, h), omega (arith, few))
tag_within root (Some more) (inr n) few h = (omega (arith, h), omega (arith, few))

-- the alternatives of the root and the additions, as the program counts them
pub alternatives_are : (root : ℕ) (more : Option ℕ) → AreFew root more → (root + unwrap_or more 0 ≡ alternatives_of root more) × (root + unwrap_or more 0 ≤ 16384)
alternatives_are root None few = (omega arith, omega (arith, few))
alternatives_are root (Some k) few = (refl, omega (arith, few))

module _ (root : ℕ) (more : Option ℕ) (few : AreFew root more) where
  small : alternatives_of root more ≤ 16384
  small = go more few
    where
      go : (m : Option ℕ) → AreFew root m → alternatives_of root m ≤ 16384
      go None h = omega (arith, h)
      go (Some k) h = omega (arith, h)

  -- the index is one of them
  within : (t : ℕ) → t < alternatives_of root more → IsIndexWithin root more (index_told root t)
  within t h = go (nat_lt t root) refl more h
    where
      go : (b : Bool) → nat_lt t root ≡ b → (m : Option ℕ) → t < alternatives_of root m → IsIndexWithin root m (elim b [ true ↦ inl t | false ↦ inr (t - root) ])
      go true e None u = ltb-true t root e
      go true e (Some k) u = ltb-true t root e
      go false e None u = absurd (omega (arith, ltb-false t root e, u))
      go false e (Some k) u = omega (arith, ltb-false t root e, u)

  same_tag : (t : ℕ) → tag_of root (index_told root t) ≡ t
  same_tag t = go (nat_lt t root) refl
    where
      go : (b : Bool) → nat_lt t root ≡ b → tag_of root (elim b [ true ↦ inl t | false ↦ inr (t - root) ]) ≡ t
      go true e = refl
      go false e = omega (arith, ltb-false t root e)

  indexes_spelled : Same (Map (index_told root) (Tags (alternatives_of root more))) (IndexOf oer_coding root more)
  unfolding oer_coding
  indexes_spelled = same_after (same_map (tags_spelled (alternatives_of root more) small)) (map_spelled there back)
    where
      there : (t : ℕ) → t < alternatives_of root more → IsIndexWithin root more (index_told root t) × (ones (tag t) ≡ ones (tag (tag_of root (index_told root t))))
      there t h = (within t h, ap (λ (i : ℕ). ones (tag i)) (sym (same_tag t)))

      back : (i : ℕ ⊎ ℕ) → IsIndexWithin root more i → (t : ℕ) × (t < alternatives_of root more) × (i ≡ index_told root t)
      back i h = (tag_of root i, (tag_within root more i few h).0, from i h)
        where
          root_within : (m : Option ℕ) (n : ℕ) → IsIndexWithin root m (inl n) → n < root
          root_within None n h = h
          root_within (Some k) n h = h

          from : (i : ℕ ⊎ ℕ) → IsIndexWithin root more i → i ≡ index_told root (tag_of root i)
          from (inl n) h = sym (told_root root n (root_within more n h))
          from (inr n) h = (let e : n ≡ root + n - root = omega arith in ap inr e ∙ sym (told_added root (root + n) (omega arith)))

  -- the reader of a tag answers for the index
  pub index_leads : (us : List ℕ) → Leads oer_fields (Tags (alternatives_of root more)) us (index_told root) (IndexOf oer_coding root more) us
  index_leads us = leads_on (leads_map oer_fields (index_told root) (Tags (alternatives_of root more)) us) (leads_same oer_fields us indexes_spelled)
