-- What one more message does to sizes.
use Rattle.std.proofs.Common.{◌≡◌, ◌<◌, ◌≤◌, ◌+◌, ◌⊎◌, ◌++◌, ◌∷◌, ℕ, zero, suc, List, [], length, sym, refl, subst, arith, inl, inr}
use Rattle.std.specs.List.{Contains}
use Rattle.std.proofs.lemmas.List.{length_push}
use Rattle.std.proofs.lemmas.List.Sums.{sum_by_push}
use Rattle.std.proofs.lemmas.List.Elements.{All-push, Contains-push, Contains-append_left}
use Rattle.asn_jobs.specs.Lengths.{AreSizesOf}
use Rattle.asn_jobs.specs.declared.sizes.Sizes.{Sizes}

module _ (ns : List ℕ) (n : ℕ) (s new : Sizes) (are : AreSizesOf ns s) where
  -- one of the lengths before is one of all
  earlier : (m : ℕ) → Contains ns m → Contains (ns ++ n ∷ []) m
  earlier m has = Contains-append_left ns (n ∷ []) m has

  last : (m : ℕ) → m ≡ n → Contains (ns ++ n ∷ []) m
  last m is = subst (Contains (ns ++ n ∷ [])) (sym is) (Contains-push ns n)

  -- the greatest of those before, where it is the greatest still
  still_greatest : (k : ℕ) → length ns ≡ k → n ≤ new.greatest → new.greatest ≡ s.greatest → Contains (ns ++ n ∷ []) new.greatest
  still_greatest zero none high is = last new.greatest (let zeros = are.none none in omega (arith, zeros.1))
  still_greatest (suc k) some high is = subst (Contains (ns ++ n ∷ [])) (sym is) (earlier s.greatest (are.greatest_is_one (omega arith)))

  pub sizes_push : new.count ≡ s.count + 1 → new.octets ≡ s.octets + n
      → new.least ≤ n → (0 < s.count → new.least ≤ s.least) → (new.least ≡ n) ⊎ ((0 < s.count) × (new.least ≡ s.least))
      → n ≤ new.greatest → s.greatest ≤ new.greatest → (new.greatest ≡ n) ⊎ (new.greatest ≡ s.greatest)
      → AreSizesOf (ns ++ n ∷ []) new
  sizes_push count octets low below least_is high above greatest_is = record {
    count = omega (arith, count, are.count, length_push ns n);
    octets = omega (arith, octets, are.octets, sum_by_push (λ x. x) ns n);
    least = All-push (λ m. new.least ≤ m) ns n (λ k d within. omega (arith, below (omega (arith, are.count, within)), are.least k d within)) low;
    greatest = All-push (λ m. m ≤ new.greatest) ns n (λ k d within. omega (arith, above, are.greatest k d within)) high;
    least_is_one = λ some. elim least_is [
      | inl is ↦ last new.least is
      | inr p ↦ subst (Contains (ns ++ n ∷ [])) (sym p.1) (earlier s.least (are.least_is_one (omega (arith, are.count, p.0))))
    ];
    greatest_is_one = λ some. elim greatest_is [
      | inl is ↦ last new.greatest is
      | inr is ↦ still_greatest (length ns) refl high is
    ];
    none = λ e. absurd (omega (arith, e, length_push ns n));
  }
