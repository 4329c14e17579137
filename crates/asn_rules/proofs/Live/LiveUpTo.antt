-- How far a list of units is live, for examples.
use Rattle.std.proofs.Common.{◌≡◌, ◌<◌, ◌≤◌, ◌++◌, ℕ, suc, List, [], length, take, drop, ap, sym, subst, arith}
use Rattle.std.proofs.Math.Logic.{inl}
use Rattle.std.proofs.lemmas.List.{take-take, take-append-drop}
use Rattle.std.specs.List.{AllByRecursion}
use Rattle.asn_values.specs.Datum.{Datum}
use Rattle.asn_values.specs.Shape.{Shape}
use Rattle.asn_values.specs.Fits.{Fits}
use Rattle.asn_rules.specs.Chunks.{Chunk, flat, fields}
use Rattle.asn_rules.specs.Live.{Fielding, Live, BoundedBefore}

-- beginnings of one length of lists that agree on their first n units agree
agree_before : (n j : ℕ) (x y : List ℕ) → j ≤ n → take n x ≡ take n y → take j x ≡ take j y
agree_before n j x y below same = rw (← take-take j n x below, ← take-take j n y below) (ap (λ l. take j l) same)

-- units that agree on the first n with an encoding without sealed fields are live up to there
pub live_up_to : (r : Fielding) (whole : Shape → Datum → List Chunk) (t : Shape) (v : Datum) (b : List ℕ) (n : ℕ)
    → Fits t v → fields r.spelled (whole t v) ≡ [] → take n b ≡ take n (flat r.spelled (whole t v))
    → (j : ℕ) → j < suc n → Live r whole t (take j b)
live_up_to r whole t v b n fit none same j below =
    let o = flat r.spelled (whole t v) in
    let not_past : j ≤ n = omega arith in
    let begins : o ≡ take j b ++ drop j o = rw (agree_before n j b o not_past same) (sym (take-append-drop j o)) in
    let bounded : AllByRecursion (BoundedBefore (length (take j b))) (fields r.spelled (whole t v)) = subst (λ fs. AllByRecursion (BoundedBefore (length (take j b))) fs) (sym none) tt in
    (v, fit, inl ((drop j o, begins), bounded))
