-- CHOICE in PER is an index and a value after it, as the walk over all types puts it together.
use Rattle.std.proofs.Common.{◌≡◌, ◌≤◌, ◌<◌, ◌+◌, ◌⊎◌, inl, inr, ℕ, zero, suc, true, List, ◌∷◌, ◌++◌, Option, Some, None, IfSome, refl, sym, ap, ◌∙◌, subst, arith}
use Rattle.asn_values.specs.Datum.{Datum, alternative}
use Rattle.asn_values.specs.Shape.{Alternatives, no_alternatives, one_of, MoreAlternatives, closed_choice, marked_choice, more_alternatives, choice, count}
use Rattle.asn_values.specs.Profile.{InProfile, most_items}
use Rattle.asn_bits.specs.Numbers.{width}
use Rattle.asn_rules.specs.Chunks.{Chunk, one, ones}
use Rattle.asn_rules.specs.Forks.{Branch, Same}
use Rattle.asn_rules.specs.Languages.{Lawful, Then, Map}
use Rattle.asn_rules.specs.Listed.{Spelt}
use Rattle.asn_rules.specs.Spellings.{FitsEither, either_code}
use Rattle.asn_rules.proofs.Languages.Forks.{same_flip, same_lawful}
use Rattle.asn_rules.proofs.Languages.Spellings.{same_after, same_map, same_then, same_fork, same_spelled, map_spelled, fork_spelled}
use Rattle.asn_walk.specs.Coding.{OpenOf, IsIndexWithin, AreFew, IndexOf, ChosenOf, ChoicesOf, chosen_value}
use Rattle.asn_walk.specs.Coding as walk
use Rattle.asn_per.specs.Indexes.{IndexesOf, index_bits}
use Rattle.asn_per.specs.Kinds.{Below, SmallBelow, of_either, Chosen, OpenChosen, RootChoices, AddedChoices, Choices}
use Rattle.asn_per.specs.Per.{per, constrained, small}
use Rattle.asn_per.specs.Walk.{per_coding}
use Rattle.asn_per.proofs.Types.BooleanAndNull.{below_spelled}
use Rattle.asn_per.proofs.Types.ChoiceLanguages.{choices_compose, few_choices}
use Rattle.asn_per.proofs.Read.ChoiceTypes.{added_count}
use Rattle.asn_per.proofs.Read.IndexReading.{indexes_lawful}
use Rattle.asn_per.proofs.Types.LeftOut.{none_left_out}
use Rattle.asn_per.proofs.Types.SmallNumbers.{small_spelled}

-- ---- the index

-- an index is spelt as the definition spells it
pub index_spelled : (root : ℕ) (more : Option ℕ) → AreFew root more → Same (IndexesOf root more) (IndexOf per_coding root more)
unfolding per_coding
index_spelled root None few = same_after (same_map (below_spelled root)) (map_spelled (λ n h. (h, refl)) back)
  where
    back : (i : ℕ ⊎ ℕ) → IsIndexWithin root None i → (n : ℕ) × (n < root) × (i ≡ inl n)
    back (inl n) h = (n, h, refl)
    back (inr n) h = absurd h
index_spelled root (Some more) few = same_after (same_after (same_fork (below_spelled root) (small_spelled more (omega (arith, few)))) fork_spelled) (same_spelled there back code)
  where
    there : (i : ℕ ⊎ ℕ) → FitsEither (λ n. n < root) (λ n. n < more) i → IsIndexWithin root (Some more) i
    there (inl n) h = h
    there (inr n) h = h

    back : (i : ℕ ⊎ ℕ) → IsIndexWithin root (Some more) i → FitsEither (λ n. n < root) (λ n. n < more) i
    back (inl n) h = h
    back (inr n) h = h

    code : (i : ℕ ⊎ ℕ) → FitsEither (λ n. n < root) (λ n. n < more) i → either_code (λ n. ones (constrained root n)) (λ n. ones (small n)) i ≡ ones (index_bits root true i)
    code (inl n) h = refl
    code (inr n) h = refl

-- there are few additions
pub few_added : (root : ℕ) (more : Option ℕ) → AreFew root more → IfSome more (λ n. n ≤ most_items)
few_added root None few = tt
few_added root (Some more) few = omega (arith, few)

-- so two are one or part
pub walk_index : (root : ℕ) (more : Option ℕ) → AreFew root more → Lawful (IndexOf per_coding root more)
walk_index root more few = same_lawful (index_spelled root more few) (indexes_lawful root more)

-- ---- an index, and after it the value

-- the values of the alternative that an index tells
abbrev pub ChosenBy : Alternatives → MoreAlternatives → ℕ ⊎ ℕ → Datum → List Chunk → Type 0
ChosenBy root more (inl i) = Chosen root i
ChosenBy root more (inr k) = OpenChosen (more_alternatives more) k

-- an index and a value after it
abbrev pub Told : Alternatives → MoreAlternatives → (ℕ ⊎ ℕ) × Datum → List Chunk → Type 0
Told root more = Then (IndexesOf (count root) (added_count more)) (ChosenBy root more)

module _ (root : Alternatives) where
  -- without a mark
  closed_there : (i : ℕ ⊎ ℕ) (v : Datum) (cs x y : List Chunk) → Map inl (Below (width (count root)) (count root)) i x → ChosenBy root closed_choice i v y → cs ≡ x ++ y → Choices root closed_choice (chosen_value root (i, v)) cs
  closed_there (inl i) v cs x y a b e =
      let same : i ≡ a.source = let f = a.seen in cc in
      record { source = (i, v); spelt = record { first = x; second = y; spelt = subst (λ (n : ℕ). Below (width (count root)) (count root) n x) (sym same) a.spelt; follows = b; whole = e }; seen = refl }
  closed_there (inr k) v cs x y a b e = absurd b

  closed_back : (v : Datum) (cs : List Chunk) → Choices root closed_choice v cs → Map (chosen_value root) (Told root closed_choice) v cs
  closed_back v cs h =
      let p = h.spelt in
      record {
        source = (inl h.source.0, h.source.1);
        spelt = record { first = p.first; second = p.second; spelt = record { source = h.source.0; spelt = p.spelt; seen = refl }; follows = p.follows; whole = p.whole };
        seen = h.seen;
      }

  -- after a mark
  marked_there : (more : Alternatives) (i : ℕ ⊎ ℕ) (v : Datum) (cs x y : List Chunk) → Branch 0 inl (Below (width (count root)) (count root)) i x ⊎ Branch 1 inr (SmallBelow (count more)) i x
      → ChosenBy root (marked_choice more) i v y → cs ≡ x ++ y → Choices root (marked_choice more) (chosen_value root (i, v)) cs
  marked_there more i v cs x y (inl b) c e = rw b.seen (record {
    source = inl (alternative b.value v);
    spelt = record {
      side = inl (record {
        value = alternative b.value v;
        rest = b.rest ++ y;
        spelt = record { source = (b.value, v); spelt = record { first = b.rest; second = y; spelt = b.spelt; follows = rw b.seen at c; whole = refl }; seen = refl };
        seen = refl;
        same = e ∙ ap (λ (l : List Chunk). l ++ y) b.same;
      });
    };
    seen = refl;
  })
  marked_there more i v cs x y (inr b) c e = rw b.seen (record {
    source = inr (alternative (count root + b.value) v);
    spelt = record {
      side = inr (record {
        value = alternative (count root + b.value) v;
        rest = b.rest ++ y;
        spelt = record { source = (b.value, v); spelt = record { first = b.rest; second = y; spelt = b.spelt; follows = rw b.seen at c; whole = refl }; seen = refl };
        seen = refl;
        same = e ∙ ap (λ (l : List Chunk). l ++ y) b.same;
      });
    };
    seen = refl;
  })

  marked_back : (more : Alternatives) (v : Datum) (w : Datum ⊎ Datum) (cs : List Chunk) → v ≡ of_either w → Branch 0 inl (RootChoices root) w cs ⊎ Branch 1 inr (AddedChoices (count root) more) w cs
      → Map (chosen_value root) (Told root (marked_choice more)) v cs
  marked_back more v w cs e (inl b) =
      let p = b.spelt.spelt in
      record {
        source = (inl b.spelt.source.0, b.spelt.source.1);
        spelt = record {
          first = one 0 ∷ p.first;
          second = p.second;
          spelt = record { side = inl (record { value = b.spelt.source.0; rest = p.first; spelt = p.spelt; seen = refl; same = refl }) };
          follows = p.follows;
          whole = b.same ∙ ap (λ (l : List Chunk). one 0 ∷ l) p.whole;
        };
        seen = e ∙ ap of_either b.seen ∙ b.spelt.seen;
      }
  marked_back more v w cs e (inr b) =
      let p = b.spelt.spelt in
      record {
        source = (inr b.spelt.source.0, b.spelt.source.1);
        spelt = record {
          first = one 1 ∷ p.first;
          second = p.second;
          spelt = record { side = inr (record { value = b.spelt.source.0; rest = p.first; spelt = p.spelt; seen = refl; same = refl }) };
          follows = p.follows;
          whole = b.same ∙ ap (λ (l : List Chunk). one 1 ∷ l) p.whole;
        };
        seen = e ∙ ap of_either b.seen ∙ b.spelt.seen;
      }

  -- the language of a CHOICE
  pub told : (more : MoreAlternatives) → Same (Map (chosen_value root) (Told root more)) (Choices root more)
  told closed_choice = record { to = λ v cs h. rw h.seen (closed_there h.source.0 h.source.1 cs h.spelt.first h.spelt.second h.spelt.spelt h.spelt.follows h.spelt.whole); from = closed_back }
  told (marked_choice more) = record { to = λ v cs h. rw h.seen (marked_there more h.source.0 h.source.1 cs h.spelt.first h.spelt.second h.spelt.spelt.side h.spelt.follows h.spelt.whole); from = λ v cs h. marked_back more v h.source cs h.seen h.spelt.side }

-- ---- as the walk has it

-- the value of an alternative
same_chosen : (alts : Alternatives) (i : ℕ) → Same (ChosenOf (λ t. Spelt per None t) alts i) (Chosen alts i)
same_chosen no_alternatives i = record { to = λ v cs h. h; from = λ v cs h. h }
same_chosen (one_of name t alts) zero = same_flip (none_left_out t)
same_chosen (one_of name t alts) (suc i) = same_chosen alts i

-- in an open field
same_open_chosen : (alts : Alternatives) (i : ℕ) → Same (ChosenOf (λ t. OpenOf per_coding t) alts i) (OpenChosen alts i)
unfolding per_coding
same_open_chosen no_alternatives i = record { to = λ v cs h. h; from = λ v cs h. h }
same_open_chosen (one_of name t alts) zero = record { to = λ v cs h. h; from = λ v cs h. h }
same_open_chosen (one_of name t alts) (suc i) = same_open_chosen alts i

same_chosen_by : (root : Alternatives) (more : MoreAlternatives) (i : ℕ ⊎ ℕ) → Same (walk.ChosenBy per_coding root more i) (ChosenBy root more i)
unfolding per_coding
same_chosen_by root more (inl i) = same_chosen root i
same_chosen_by root more (inr k) = same_open_chosen (more_alternatives more) k

-- how many alternatives there are
few_alternatives : (root : Alternatives) (more : MoreAlternatives) → InProfile (choice root more) → AreFew (count root) (walk.added_alternatives more)
few_alternatives root closed_choice good = omega (arith, few_choices root closed_choice good)
few_alternatives root (marked_choice alts) good = few_choices root (marked_choice alts) good

same_added : (more : MoreAlternatives) → walk.added_alternatives more ≡ added_count more
same_added closed_choice = refl
same_added (marked_choice alts) = refl

-- CHOICE
pub walk_choices : (root : Alternatives) (more : MoreAlternatives) → InProfile (choice root more) → Same (ChoicesOf per_coding root more) (Spelt per_coding.code None (choice root more))
unfolding per_coding
walk_choices root more good =
    let index : Same (IndexOf per_coding (count root) (walk.added_alternatives more)) (IndexesOf (count root) (added_count more)) =
    subst (λ (m : Option ℕ). Same (IndexOf per_coding (count root) (walk.added_alternatives more)) (IndexesOf (count root) m)) (same_added more) (same_flip (index_spelled (count root) (walk.added_alternatives more) (few_alternatives root more good))) in
    same_after (same_map (same_then index (λ i. same_chosen_by root more i))) (same_after (told root more) (same_after (choices_compose root more good) (none_left_out (choice root more))))
