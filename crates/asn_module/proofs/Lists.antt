-- Components and alternatives in front of others.
use Rattle.std.proofs.Common.{◌≡◌, List, [], ◌∷◌, ◌++◌, refl, ap}
use Rattle.asn_values.specs.Shape.{Fields, no_fields, field, Alternatives, no_alternatives, one_of}
use Rattle.asn_values.specs.View.{Part, Branch, fields_of, alternatives_of}

abbrev pub before_fields : List Part → Fields → Fields
before_fields [] fs = fs
before_fields (p ∷ ps) fs = field p.name p.demand p.shape (before_fields ps fs)

pub before_none : (ps : List Part) → before_fields ps no_fields ≡ fields_of ps
before_none [] = refl
before_none (p ∷ ps) = ap (λ (fs : Fields). field p.name p.demand p.shape fs) (before_none ps)

pub before_one : (ps : List Part) (p : Part) (fs : Fields) → before_fields (ps ++ p ∷ []) fs ≡ before_fields ps (field p.name p.demand p.shape fs)
before_one [] p fs = refl
before_one (q ∷ ps) p fs = ap (λ (fs : Fields). field q.name q.demand q.shape fs) (before_one ps p fs)

abbrev pub before_alternatives : List Branch → Alternatives → Alternatives
before_alternatives [] xs = xs
before_alternatives (b ∷ bs) xs = one_of b.name b.shape (before_alternatives bs xs)

pub before_no_alternatives : (bs : List Branch) → before_alternatives bs no_alternatives ≡ alternatives_of bs
before_no_alternatives [] = refl
before_no_alternatives (b ∷ bs) = ap (λ (xs : Alternatives). one_of b.name b.shape xs) (before_no_alternatives bs)

pub before_one_alternative : (bs : List Branch) (b : Branch) (xs : Alternatives) → before_alternatives (bs ++ b ∷ []) xs ≡ before_alternatives bs (one_of b.name b.shape xs)
before_one_alternative [] b xs = refl
before_one_alternative (c ∷ bs) b xs = ap (λ (xs : Alternatives). one_of c.name c.shape xs) (before_one_alternative bs b xs)
