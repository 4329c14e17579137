-- The alternatives of a CHOICE: how many there are, the one at an index, and which values they have.
use Rattle.std.proofs.Common.{◌≡◌, ◌↔◌, ◌<◌, ◌≤◌, ℕ, zero, suc, IsTrue, false, List, [], ◌∷◌, map, length, get_or, refl, ap, ◌∙◌, rules, arith}
use Rattle.std.proofs.lemmas.List.{length-map}
use Rattle.asn_values.specs.declared.types.Alt.{Alt}
use Rattle.asn_values.specs.declared.types.AsnType.{the_lemmas}
use Rattle.asn_values.specs.Datum.{Datum}
use Rattle.asn_values.specs.Shape.{count}
use Rattle.asn_values.specs.Fits.{Fits, FitsAlternative}
use Rattle.asn_values.specs.View.{Branch, shape_of, branch_of, alternatives_of}

-- how many there are
pub count-alternatives : (bs : List Branch) → count (alternatives_of bs) ≡ length bs
count-alternatives [] = refl
count-alternatives (b ∷ bs) = ap suc (count-alternatives bs)

pub count-of : (alts : List Alt) → count (alternatives_of (map branch_of alts)) ≡ length alts
count-of alts = count-alternatives (map branch_of alts) ∙ length-map alts branch_of

-- the shape of an alternative's type
pub shape_of_branch : (x : Alt) → (branch_of x).shape ≡ shape_of x.ty
shape_of_branch x = search (rules, the_lemmas)

-- ---- the values

-- those of the alternative at an index
pub fits_at : (alts : List Alt) (i : ℕ) (x : Alt) (d : Datum) → i < length alts → x ≡ get_or alts i x → FitsAlternative (alternatives_of (map branch_of alts)) i d ↔ Fits (shape_of x.ty) d
fits_at [] i x d h e = absurd (omega arith)
fits_at (a ∷ alts) zero x d h e = rw (e, shape_of_branch a) (λ f. f, λ f. f)
fits_at (a ∷ alts) (suc i) x d h e = fits_at alts i x d (omega arith) e

-- none after the last
pub fits_nowhere : (alts : List Alt) (i : ℕ) (d : Datum) → length alts ≤ i → FitsAlternative (alternatives_of (map branch_of alts)) i d → ⊥
fits_nowhere [] i d h f = f
fits_nowhere (a ∷ alts) zero d h f = omega arith
fits_nowhere (a ∷ alts) (suc i) d h f = fits_nowhere alts i d (omega arith) f

-- of none
pub no_truth : {A : Type 0} → IsTrue false → A
no_truth h = absurd (cc)
