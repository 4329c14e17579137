-- Versions of a type: each is one of itself, and the other way round; and a sender that has no addition that the
-- receiver has not makes it skip nothing.
use Rattle.std.proofs.Common.{◌≡◌, ◌+◌, ◌-◌, ℕ, zero, suc, Bool, true, false, nat_lt, List, [], ◌∷◌, ◌++◌, length, map, take, drop, Option, None, Some, refl, sym, ap, subst, ◌∙◌}
use Rattle.std.proofs.lemmas.Bool.{true≢false}
use Rattle.asn_values.specs.Datum.{Datum, item, components, component_list, elements, element_list, alternative}
use Rattle.asn_values.specs.Shape.{Shape, boolean, null, integer, enumerated, bit_string, octet_string, restricted, utf8_string, sequence, sequence_of, choice, Label, MoreLabels, closed_labels, marked_labels, demands, Fields, no_fields, field, MoreFields, closed, marked, Alternatives, no_alternatives, one_of, MoreAlternatives, closed_choice, marked_choice, count}
use Rattle.asn_newer.specs.declared.path.PathStep.{PathStep}
use Rattle.asn_newer.specs.declared.path.PathStep.TheVariants as step
use Rattle.asn_newer.specs.Skipped.{SkippedAt, Reading, inside, nothing_skipped, item_skipped, all_skipped}
use Rattle.asn_newer.specs.Loose.{LooseCoding}
use Rattle.asn_newer.specs.Versions.{LabelVersions, MoreLabelVersions, Versions, FieldVersions, MoreVersions, AddedVersions, AlternativeVersions, MoreChoiceVersions, AddedAlternatives, received, entries_received, more_received, added_received, root_received, other_received, addition_received}

-- ---- the other way round

labels_flipped : (a b : Bool) (ls more : List Label) → LabelVersions a b ls more → LabelVersions b a more ls
labels_flipped a b [] [] w = tt
labels_flipped a b (x ∷ ls) [] w = w
labels_flipped a b [] (y ∷ more) w = w
labels_flipped a b (x ∷ ls) (y ∷ more) w = (sym w.0, labels_flipped a b ls more w.1)

more_labels_flipped : (a b : Bool) (more mores : MoreLabels) → MoreLabelVersions a b more mores → MoreLabelVersions b a mores more
more_labels_flipped a b closed_labels closed_labels w = tt
more_labels_flipped a b closed_labels (marked_labels ls) w = absurd w
more_labels_flipped a b (marked_labels ls) closed_labels w = absurd w
more_labels_flipped a b (marked_labels ls) (marked_labels more) w = labels_flipped a b ls more w

module _ (a b : Bool) where
  mutual
    pub flipped : (t u : Shape) → Versions a b t u → Versions b a u t
    flipped boolean u w = subst (λ (x : Shape). Versions b a x boolean) w refl
    flipped null u w = subst (λ (x : Shape). Versions b a x null) w refl
    flipped (integer z) u w = subst (λ (x : Shape). Versions b a x (integer z)) w refl
    flipped (bit_string z) u w = subst (λ (x : Shape). Versions b a x (bit_string z)) w refl
    flipped (octet_string z) u w = subst (λ (x : Shape). Versions b a x (octet_string z)) w refl
    flipped (restricted k z) u w = subst (λ (x : Shape). Versions b a x (restricted k z)) w refl
    flipped utf8_string u w = subst (λ (x : Shape). Versions b a x utf8_string) w refl
    flipped (enumerated root more) (enumerated roots mores) w = (sym w.0, more_labels_flipped a b more mores w.1)
    flipped (enumerated root more) _ w = absurd w
    flipped (sequence root more) (sequence roots mores) w = (fields_flipped root roots w.0, more_flipped more mores w.1)
    flipped (sequence root more) _ w = absurd w
    flipped (sequence_of t s) (sequence_of u z) w = (flipped t u w.0, sym w.1)
    flipped (sequence_of t s) _ w = absurd w
    flipped (choice root more) (choice roots mores) w = (alternatives_flipped root roots w.0, choice_flipped more mores w.1)
    flipped (choice root more) _ w = absurd w

    fields_flipped : (fs gs : Fields) → FieldVersions a b fs gs → FieldVersions b a gs fs
    fields_flipped no_fields no_fields w = tt
    fields_flipped no_fields (field other need u gs) w = absurd w
    fields_flipped (field name demand t fs) no_fields w = absurd w
    fields_flipped (field name demand t fs) (field other need u gs) w = (sym w.0, sym w.1, flipped t u w.2, fields_flipped fs gs w.3)

    more_flipped : (more mores : MoreFields) → MoreVersions a b more mores → MoreVersions b a mores more
    more_flipped closed closed w = tt
    more_flipped closed (marked gs) w = absurd w
    more_flipped (marked fs) closed w = absurd w
    more_flipped (marked fs) (marked gs) w = added_flipped fs gs w

    added_flipped : (fs gs : Fields) → AddedVersions a b fs gs → AddedVersions b a gs fs
    added_flipped no_fields no_fields w = tt
    added_flipped no_fields (field other need u gs) w = w
    added_flipped (field name demand t fs) no_fields w = w
    added_flipped (field name demand t fs) (field other need u gs) w = (sym w.0, sym w.1, flipped t u w.2, added_flipped fs gs w.3)

    alternatives_flipped : (alts others : Alternatives) → AlternativeVersions a b alts others → AlternativeVersions b a others alts
    alternatives_flipped no_alternatives no_alternatives w = tt
    alternatives_flipped no_alternatives (one_of other u others) w = absurd w
    alternatives_flipped (one_of name t alts) no_alternatives w = absurd w
    alternatives_flipped (one_of name t alts) (one_of other u others) w = (sym w.0, flipped t u w.1, alternatives_flipped alts others w.2)

    choice_flipped : (more mores : MoreAlternatives) → MoreChoiceVersions a b more mores → MoreChoiceVersions b a mores more
    choice_flipped closed_choice closed_choice w = tt
    choice_flipped closed_choice (marked_choice others) w = absurd w
    choice_flipped (marked_choice alts) closed_choice w = absurd w
    choice_flipped (marked_choice alts) (marked_choice others) w = added_choice_flipped alts others w

    added_choice_flipped : (alts others : Alternatives) → AddedAlternatives a b alts others → AddedAlternatives b a others alts
    added_choice_flipped no_alternatives no_alternatives w = tt
    added_choice_flipped no_alternatives (one_of other u others) w = w
    added_choice_flipped (one_of name t alts) no_alternatives w = w
    added_choice_flipped (one_of name t alts) (one_of other u others) w = (sym w.0, flipped t u w.1, added_choice_flipped alts others w.2)

-- ---- nothing is skipped

both : (xs ys : List SkippedAt) → xs ≡ [] → ys ≡ [] → xs ++ ys ≡ []
both xs ys p q = ap (λ (x : List SkippedAt). x ++ ys) p ∙ q

one_of_both : (k : Bool) (x y : Reading) → x.1 ≡ [] → y.1 ≡ [] → (elim k as (λ (z : Bool). Reading) [ true ↦ x | false ↦ y ]).1 ≡ []
one_of_both true x y p q = p
one_of_both false x y p q = q

-- in a part
none_inside : (s : PathStep) (xs : List SkippedAt) → xs ≡ [] → map (inside s) xs ≡ []
none_inside s xs p = ap (map (inside s)) p

none_of_all : (f : Datum → Reading) → ((d : Datum) → (f d).1 ≡ []) → (i : ℕ) (ds : List Datum) → all_skipped i (map f ds) ≡ []
none_of_all f each i [] = refl
none_of_all f each i (d ∷ ds) = both (map (inside (step.Element i)) (f d).1) (all_skipped (suc i) (map f ds)) (none_inside (step.Element i) (f d).1 (each d)) (none_of_all f each (suc i) ds)

module _ (l : LooseCoding) (b : Bool) where
  mutual
    pub skips_nothing : (t u : Shape) (v : Datum) → Versions false b t u → (received l t u v).1 ≡ []
    skips_nothing boolean u v w = refl
    skips_nothing null u v w = refl
    skips_nothing (integer z) u v w = refl
    skips_nothing (bit_string z) u v w = refl
    skips_nothing (octet_string z) u v w = refl
    skips_nothing (restricted k z) u v w = refl
    skips_nothing utf8_string u v w = refl
    skips_nothing (enumerated root closed_labels) u v w = refl
    skips_nothing (enumerated root (marked_labels ls)) (enumerated roots closed_labels) v w = absurd w.1
    skips_nothing (enumerated root (marked_labels ls)) (enumerated roots (marked_labels more)) (item p) w =
        one_of_both (nat_lt p (length roots + length more)) (nothing_skipped (item p)) (item_skipped (l.told_number root ls p)) refl refl
    skips_nothing (enumerated root (marked_labels ls)) (enumerated roots (marked_labels more)) _ w = refl
    skips_nothing (enumerated root (marked_labels ls)) _ v w = absurd w
    skips_nothing (sequence root more) (sequence roots mores) (components cs) w =
        both _ _ (entries_skip_nothing 0 root roots (take (length (demands root)) (component_list cs)) w.0) (more_skip_nothing more mores (drop (length (demands root)) (component_list cs)) w.1)
    skips_nothing (sequence root more) (sequence roots mores) _ w = refl
    skips_nothing (sequence root more) _ v w = absurd w
    skips_nothing (sequence_of t s) (sequence_of u z) (elements ds) w = none_of_all (λ d. received l t u d) (λ d. skips_nothing t u d w.0) 0 (element_list ds)
    skips_nothing (sequence_of t s) (sequence_of u z) _ w = refl
    skips_nothing (sequence_of t s) _ v w = absurd w
    skips_nothing (choice root more) (choice roots mores) (alternative tag d) w =
        one_of_both (nat_lt tag (count root)) (root_received l tag root roots tag d) (other_received l tag more mores (tag - count root) d)
        (root_skips_nothing tag root roots tag d w.0) (other_skips_nothing tag more mores (tag - count root) d w.1)
    skips_nothing (choice root more) (choice roots mores) _ w = refl
    skips_nothing (choice root more) _ v w = absurd w

    entries_skip_nothing : (i : ℕ) (fs gs : Fields) (es : List (Option Datum)) → FieldVersions false b fs gs → (entries_received l i fs gs es).1 ≡ []
    entries_skip_nothing i no_fields gs es w = refl
    entries_skip_nothing i (field name demand t fs) no_fields es w = absurd w
    entries_skip_nothing i (field name demand t fs) (field other need u gs) [] w = refl
    entries_skip_nothing i (field name demand t fs) (field other need u gs) (Some d ∷ es) w = both _ _ (none_inside (step.Component i) (received l t u d).1 (skips_nothing t u d w.2)) (entries_skip_nothing (suc i) fs gs es w.3)
    entries_skip_nothing i (field name demand t fs) (field other need u gs) (None ∷ es) w = entries_skip_nothing (suc i) fs gs es w.3

    more_skip_nothing : (more mores : MoreFields) (es : List (Option Datum)) → MoreVersions false b more mores → (more_received l more mores es).1 ≡ []
    more_skip_nothing closed mores es w = refl
    more_skip_nothing (marked fs) closed es w = refl
    more_skip_nothing (marked fs) (marked gs) es w = added_skip_nothing 0 fs gs es w

    added_skip_nothing : (place : ℕ) (fs gs : Fields) (es : List (Option Datum)) → AddedVersions false b fs gs → (added_received l place fs gs es).1 ≡ []
    added_skip_nothing place no_fields gs es w = refl
    added_skip_nothing place (field name demand t fs) no_fields es w = absurd (true≢false (sym w))
    added_skip_nothing place (field name demand t fs) (field other need u gs) [] w = refl
    added_skip_nothing place (field name demand t fs) (field other need u gs) (Some d ∷ es) w = both _ _ (none_inside (step.Addition place) (received l t u d).1 (skips_nothing t u d w.2)) (added_skip_nothing (suc place) fs gs es w.3)
    added_skip_nothing place (field name demand t fs) (field other need u gs) (None ∷ es) w = added_skip_nothing (suc place) fs gs es w.3

    root_skips_nothing : (tag : ℕ) (alts others : Alternatives) (i : ℕ) (d : Datum) → AlternativeVersions false b alts others → (root_received l tag alts others i d).1 ≡ []
    root_skips_nothing tag no_alternatives others i d w = refl
    root_skips_nothing tag (one_of name t alts) no_alternatives i d w = absurd w
    root_skips_nothing tag (one_of name t alts) (one_of other u others) zero d w = none_inside (step.Alternative tag) (received l t u d).1 (skips_nothing t u d w.1)
    root_skips_nothing tag (one_of name t alts) (one_of other u others) (suc i) d w = root_skips_nothing tag alts others i d w.2

    other_skips_nothing : (tag : ℕ) (more mores : MoreAlternatives) (i : ℕ) (d : Datum) → MoreChoiceVersions false b more mores → (other_received l tag more mores i d).1 ≡ []
    other_skips_nothing tag closed_choice mores i d w = refl
    other_skips_nothing tag (marked_choice alts) closed_choice i d w = refl
    other_skips_nothing tag (marked_choice alts) (marked_choice others) i d w = addition_skips_nothing tag i alts others i d w

    addition_skips_nothing : (tag place : ℕ) (alts others : Alternatives) (i : ℕ) (d : Datum) → AddedAlternatives false b alts others → (addition_received l tag place alts others i d).1 ≡ []
    addition_skips_nothing tag place no_alternatives others i d w = refl
    addition_skips_nothing tag place (one_of name t alts) no_alternatives i d w = absurd (true≢false (sym w))
    addition_skips_nothing tag place (one_of name t alts) (one_of other u others) zero d w = none_inside (step.Alternative tag) (received l t u d).1 (skips_nothing t u d w.1)
    addition_skips_nothing tag place (one_of name t alts) (one_of other u others) (suc i) d w = addition_skips_nothing tag place alts others i d w.2
