-- Skipped fields, one after the other, as they are told of the whole and without their paths.
use Rattle.std.proofs.Common.{◌≡◌, List, [], ◌∷◌, ◌++◌, length, map, refl, sym, ap, ◌∙◌, append_assoc, arith}
use Rattle.std.proofs.lemmas.List.{map-append}
use Rattle.asn_rules.specs.declared.newer.Skipped as plain
use Rattle.asn_newer.specs.declared.path.PathStep.{PathStep}
use Rattle.asn_newer.specs.declared.path.SkippedAt.{SkippedAt}
use Rattle.asn_newer.specs.Reading.{skipped_of, skipped_seen, skipped_at_of, skipped_at_seen}
use Rattle.asn_newer.specs.Skipped.{inside, fields_of_all}
use Rattle.asn_newer.specs.Skipped as fields

pub none_left : {A : Type 0} (l : List A) → length l ≡ 0 → l ≡ []
none_left [] e = refl
none_left (x ∷ l) e = absurd (omega (arith, e))

-- one more of a part
pub one_inside : (s : PathStep) (old : List fields.SkippedAt) (so_far : List SkippedAt) (x f : SkippedAt) (before after : List SkippedAt) → skipped_at_seen before ≡ old ++ map (inside s) (skipped_at_seen so_far)
    → skipped_at_of f ≡ inside s (skipped_at_of x) → after ≡ before ++ f ∷ [] → skipped_at_seen after ≡ old ++ map (inside s) (skipped_at_seen (so_far ++ x ∷ []))
one_inside s old so_far x f before after e is pushed =
    let these = map (inside s) (skipped_at_seen so_far) in
    ap skipped_at_seen pushed ∙ map-append skipped_at_of before (f ∷ []) ∙ ap (λ (z : List fields.SkippedAt). z ++ skipped_at_of f ∷ []) e
    ∙ ap (λ (k : fields.SkippedAt). (old ++ these) ++ k ∷ []) is ∙ append_assoc old these (inside s (skipped_at_of x) ∷ [])
    ∙ ap (λ (z : List fields.SkippedAt). old ++ z) (sym (map-append (inside s) (skipped_at_seen so_far) (skipped_at_of x ∷ [])) ∙ ap (map (inside s)) (sym (map-append skipped_at_of so_far (x ∷ []))))

-- one more without its path
pub one_field : (so_far : List SkippedAt) (x : SkippedAt) (before after : List plain.Skipped) → skipped_seen before ≡ fields_of_all (skipped_at_seen so_far) → after ≡ before ++ x.field ∷ []
    → skipped_seen after ≡ fields_of_all (skipped_at_seen (so_far ++ x ∷ []))
one_field so_far x before after e pushed =
    let bare = λ (k : fields.SkippedAt). k.field in
    ap skipped_seen pushed ∙ map-append skipped_of before (x.field ∷ []) ∙ ap (λ (z : List fields.Skipped). z ++ skipped_of x.field ∷ []) e
    ∙ sym (map-append bare (skipped_at_seen so_far) (skipped_at_of x ∷ [])) ∙ ap fields_of_all (sym (map-append skipped_at_of so_far (x ∷ [])))
