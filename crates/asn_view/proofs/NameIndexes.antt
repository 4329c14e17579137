-- The index of a name in two lists of names, one after the other.
use Rattle.std.proofs.Common.{◌≡◌, ◌+◌, ℕ, suc, Bool, true, false, List, [], ◌∷◌, ◌++◌, length, Option, Some, None, option_map, bytes_eq, refl, ap, arith}
use Rattle.std.specs.Prelude.{if◌then◌else◌}
use Rattle.asn_view.specs.Names.{index_of}

-- in the first list
first_at : (b : Bool) (name : List ℕ) (xs ys : List (List ℕ)) (p : ℕ) → ((q : ℕ) → index_of name xs ≡ Some q → index_of name (xs ++ ys) ≡ Some q)
    → (if b then Some 0 else option_map suc (index_of name xs)) ≡ Some p → (if b then Some 0 else option_map suc (index_of name (xs ++ ys))) ≡ Some p
first_at true name xs ys p rest h = h
first_at false name xs ys p rest h = later (index_of name xs) refl h
  where
    later : (o : Option ℕ) → index_of name xs ≡ o → option_map suc o ≡ Some p → option_map suc (index_of name (xs ++ ys)) ≡ Some p
    later None e g = absurd (cc)
    later (Some q) e g = rw (rest q e) g

pub in_first : (name : List ℕ) (xs ys : List (List ℕ)) (p : ℕ) → index_of name xs ≡ Some p → index_of name (xs ++ ys) ≡ Some p
in_first name [] ys p h = absurd (cc)
in_first name (x ∷ xs) ys p h = first_at (bytes_eq x name) name xs ys p (λ q e. in_first name xs ys q e) h

-- or else in the second
moved : (n : ℕ) (o : Option ℕ) → option_map suc (option_map (λ p. n + p) o) ≡ option_map (λ p. suc n + p) o
moved n None = refl
moved n (Some p) = ap Some (omega arith)

second_at : (b : Bool) (name : List ℕ) (xs ys : List (List ℕ)) → (index_of name xs ≡ None → index_of name (xs ++ ys) ≡ option_map (λ p. length xs + p) (index_of name ys))
    → (if b then Some 0 else option_map suc (index_of name xs)) ≡ None → (if b then Some 0 else option_map suc (index_of name (xs ++ ys))) ≡ option_map (λ p. suc (length xs) + p) (index_of name ys)
second_at true name xs ys rest h = absurd (cc)
second_at false name xs ys rest h = later (index_of name xs) refl h
  where
    later : (o : Option ℕ) → index_of name xs ≡ o → option_map suc o ≡ None → option_map suc (index_of name (xs ++ ys)) ≡ option_map (λ p. suc (length xs) + p) (index_of name ys)
    later None e g = rw (rest e) (moved (length xs) (index_of name ys))
    later (Some q) e g = absurd (cc)

zero_more : (o : Option ℕ) → o ≡ option_map (λ p. 0 + p) o
zero_more None = refl
zero_more (Some p) = ap Some (omega arith)

pub in_second : (name : List ℕ) (xs ys : List (List ℕ)) → index_of name xs ≡ None → index_of name (xs ++ ys) ≡ option_map (λ p. length xs + p) (index_of name ys)
in_second name [] ys h = zero_more (index_of name ys)
in_second name (x ∷ xs) ys h = second_at (bytes_eq x name) name xs ys (λ e. in_second name xs ys e) h
