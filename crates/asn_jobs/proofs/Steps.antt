-- Steps of the readers of texts.
use Rattle.std.proofs.Common.{◌≡◌, ◌∙◌, ap, sym, refl, ℕ, Bool, true, false, cond, List, length, map, take, Option, Some, None}
use Rattle.std.specs.List.{before_first, flat_map, list_all, position_or_len}
use Rattle.std.proofs.lemmas.Bool.{ltb-false}
use Rattle.std.proofs.lemmas.List.{take_all}
use Rattle.std.proofs.lemmas.List.Folds.{flat_map-map, list_all-map}
use lib.Dec.{ltb}
use Rattle.asn_jobs.specs.Texts.{is_comment}

-- where the comment begins, as `position` gives it
abbrev pub place : List ℕ → Option ℕ
place line = cond (ltb (position_or_len is_comment line) (length line)) (Some (position_or_len is_comment line)) None

pub first_comment : (line : List ℕ) (n : ℕ) (front : List ℕ) → Some n ≡ place line → front ≡ take n line → front ≡ before_first is_comment line
first_comment line n front found is = go (ltb (position_or_len is_comment line) (length line)) found
  where
    go : (b : Bool) → Some n ≡ cond b (Some (position_or_len is_comment line)) None → front ≡ before_first is_comment line
    go true found = let e : n ≡ position_or_len is_comment line = (cc) in is ∙ ap (λ m. take m line) e
    go false found = (cc)

pub no_comment : (line : List ℕ) → None ≡ place line → line ≡ before_first is_comment line
no_comment line found = go (ltb (position_or_len is_comment line) (length line)) refl found
  where
    go : (b : Bool) → ltb (position_or_len is_comment line) (length line) ≡ b → None ≡ cond b (Some (position_or_len is_comment line)) None → line ≡ before_first is_comment line
    go true e found = (cc)
    go false e found = sym (take_all (position_or_len is_comment line) line (ltb-false (position_or_len is_comment line) (length line) e))

-- the digits of all parts
pub all_parts : {A : Type 0} (v : A → List ℕ) (f : List ℕ → List ℕ) (xs : List A) (parts : List (List ℕ)) → map v xs ≡ parts → flat_map (λ x. f (v x)) xs ≡ flat_map f parts
all_parts v f xs parts e = sym (flat_map-map f v xs) ∙ ap (flat_map f) e

-- a test of all parts
pub all_fit : {A : Type 0} (v : A → List ℕ) (p : List ℕ → Bool) (xs : List A) (parts : List (List ℕ)) → map v xs ≡ parts → list_all (λ x. p (v x)) xs ≡ list_all p parts
all_fit v p xs parts e = sym (list_all-map p v xs) ∙ ap (list_all p) e
