-- The last bit of a BIT STRING.
use Rattle.std.proofs.Common.{◌≡◌, ◌<◌, ◌-◌, ℕ, Bool, false, List, [], ◌∷◌, length, get_or, refl, ap, ◌∙◌, arith}
use Rattle.std.proofs.lemmas.Bool.{lt-leb}
use Rattle.asn_constraints.specs.Constraints.{ends_in_one, is_trimmed}

-- it is the one at the index before the length
ends_by_last : (b : Bool) (bs : List Bool) → get_or (b ∷ bs) (length bs) false ≡ ends_in_one (b ∷ bs)
ends_by_last b [] = refl
ends_by_last b (c ∷ bs) = ends_by_last c bs

pub trimmed_by_last : (low : ℕ) (bs : List Bool) → low < length bs → get_or bs (length bs - 1) false ≡ is_trimmed low bs
trimmed_by_last low [] h = absurd (omega arith)
trimmed_by_last low (b ∷ bs) h = rw (lt-leb (length (b ∷ bs)) low h) (ap (λ n. get_or (b ∷ bs) n false) (omega arith) ∙ ends_by_last b bs)
