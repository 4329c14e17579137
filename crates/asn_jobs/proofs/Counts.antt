-- What one more word does to a tally.
use Rattle.std.proofs.Common.{◌≡◌, ℕ, ◌+◌, ◌<◌, Bool, true, false, cond, if◌then◌else◌, List, [], ◌∷◌, ◌++◌, Some, String, BTreeMap, sym, refl, ap, ◌∙◌, subst, arith, unwrap_or}
use Rattle.std.specs.BTreeMap.{IsEmpty, get_by_text}
use Rattle.std.specs.Map.{update}
use Rattle.std.specs.Str.{bytes_eq}
use Rattle.std.specs.Cmp.Lexicographic.{bytes_decides, nat_list_eq_equiv}
use Rattle.std.proofs.lemmas.List.Sums.{sum_by_push}
use Rattle.asn_jobs.specs.Counts.{occurrences_of, count_of, IsCountedBy}

-- 1 if v and w are the same word, and 0 if not
abbrev pub one_if_same : List ℕ → List ℕ → ℕ
one_if_same v w = if bytes_eq v w then 1 else 0

-- a word at the end counts once more, if it is v
occurrences_of_push : (v : List ℕ) (words : List (List ℕ)) (w : List ℕ) → occurrences_of v (words ++ (w ∷ [])) ≡ occurrences_of v words + one_if_same v w
occurrences_of_push v words w = sum_by_push _ words w

module _ {Y : Type 0} {m : BTreeMap (String Y) ℕ} where
  -- the empty map counts no words
  pub counted_by_empty : IsEmpty m → IsCountedBy [] m
  counted_by_empty empty = record {
    counts = λ v. rw empty refl;
    no_other = λ v. rw empty (omega arith);
  }

module _ {Y : Type 0} {old new : BTreeMap (String Y) ℕ} (w : List ℕ) where
  -- with the count of w set to one more, the map counts the words with w at their end
  pub counted_by_push : (words : List (List ℕ)) → IsCountedBy words old → ((v : List ℕ) → get_by_text new v ≡ update bytes_eq (get_by_text old) w (Some (count_of old w + 1)) v) → IsCountedBy (words ++ (w ∷ [])) new
  counted_by_push words counted sets = record {
    counts = λ v. omega (arith, one_more v, counted.counts v, occurrences_of_push v words w);
    no_other = λ v. subst (λ o. 0 < unwrap_or o 1) (sym (sets v)) (nonzero v (bytes_eq w v));
  }
    where
      nonzero : (v : List ℕ) (b : Bool) → 0 < unwrap_or (cond b (Some (count_of old w + 1)) (get_by_text old v)) 1
      nonzero v true = omega arith
      nonzero v false = counted.no_other v

      new_count : (v : List ℕ) (b : Bool) → bytes_eq w v ≡ b → unwrap_or (cond (bytes_eq w v) (Some (count_of old w + 1)) (get_by_text old v)) 0 ≡ count_of old v + one_if_same v w
      new_count v true same = rw (nat_list_eq_equiv.symm v w, same) (ap (λ u. count_of old u + 1) ((bytes_decides w v).0 same))
      new_count v false differs = rw (nat_list_eq_equiv.symm v w, differs) (omega arith)

      one_more : (v : List ℕ) → count_of new v ≡ count_of old v + one_if_same v w
      one_more v = ap (λ o. unwrap_or o 0) (sets v) ∙ new_count v (bytes_eq w v) refl
