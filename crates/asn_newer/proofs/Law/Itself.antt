-- A receiver of the sender's own version reads the value itself, and skips nothing.
use Rattle.std.proofs.Common.{◌≡◌, ◌+◌, ◌-◌, ℕ, zero, suc, Bool, true, false, nat_lt, MatchBool, List, [], ◌∷◌, ◌++◌, length, map, take, drop, Option, None, Some, refl, ap, ◌∙◌}
use Rattle.std.proofs.lemmas.Bool.{lt-ltb}
use Rattle.std.proofs.lemmas.List.{take-append-drop}
use Rattle.std.specs.List.{AllByRecursion}
use Rattle.asn_values.specs.Datum.{Datum, item, Components, components, component_list, components_of, Elements, no_elements, element, elements, element_list, elements_of, alternative}
use Rattle.asn_values.specs.Shape.{Shape, boolean, null, integer, enumerated, bit_string, octet_string, restricted, utf8_string, sequence, sequence_of, choice, Label, MoreLabels, closed_labels, marked_labels, demands, Fields, no_fields, field, MoreFields, closed, marked, Alternatives, no_alternatives, one_of, MoreAlternatives, closed_choice, marked_choice, count}
use Rattle.asn_values.specs.Fits.{Fits, FitsEach, FitsMore, FitsAlternative, FitsMoreAlternatives}
use Rattle.asn_rules.proofs.Law.Entries.{components_again}
use Rattle.asn_newer.specs.declared.path.PathStep.{PathStep}
use Rattle.asn_newer.specs.declared.path.PathStep.TheVariants as step
use Rattle.asn_newer.specs.Skipped.{Reading, Entries, all_skipped, part_read, nothing_skipped, item_skipped, entry_read, entry_left, sequence_read, list_read, alternative_read}
use Rattle.asn_newer.specs.Loose.{LooseCoding}
use Rattle.asn_newer.specs.Versions.{LabelVersions, MoreLabelVersions, Versions, FieldVersions, MoreVersions, AddedVersions, AlternativeVersions, MoreChoiceVersions, AddedAlternatives, received, entries_received, more_received, added_received, root_received, other_received, addition_received}

-- ---- a type is a version of itself

same_labels : (a b : Bool) (ls : List Label) → LabelVersions a b ls ls
same_labels a b [] = tt
same_labels a b (x ∷ ls) = (refl, same_labels a b ls)

same_more_labels : (a b : Bool) (more : MoreLabels) → MoreLabelVersions a b more more
same_more_labels a b closed_labels = tt
same_more_labels a b (marked_labels ls) = same_labels a b ls

module _ (a b : Bool) where
  mutual
    pub same_version : (t : Shape) → Versions a b t t
    same_version boolean = refl
    same_version null = refl
    same_version (integer z) = refl
    same_version (bit_string z) = refl
    same_version (octet_string z) = refl
    same_version (restricted k z) = refl
    same_version utf8_string = refl
    same_version (enumerated root more) = (refl, same_more_labels a b more)
    same_version (sequence root more) = (same_fields root, same_more more)
    same_version (sequence_of t s) = (same_version t, refl)
    same_version (choice root more) = (same_alternatives root, same_choice more)

    same_fields : (fs : Fields) → FieldVersions a b fs fs
    same_fields no_fields = tt
    same_fields (field name demand t fs) = (refl, refl, same_version t, same_fields fs)

    same_more : (more : MoreFields) → MoreVersions a b more more
    same_more closed = tt
    same_more (marked fs) = same_added fs

    same_added : (fs : Fields) → AddedVersions a b fs fs
    same_added no_fields = tt
    same_added (field name demand t fs) = (refl, refl, same_version t, same_added fs)

    same_alternatives : (alts : Alternatives) → AlternativeVersions a b alts alts
    same_alternatives no_alternatives = tt
    same_alternatives (one_of name t alts) = (refl, same_version t, same_alternatives alts)

    same_choice : (more : MoreAlternatives) → MoreChoiceVersions a b more more
    same_choice closed_choice = tt
    same_choice (marked_choice alts) = same_added_choice alts

    same_added_choice : (alts : Alternatives) → AddedAlternatives a b alts alts
    same_added_choice no_alternatives = tt
    same_added_choice (one_of name t alts) = (refl, same_version t, same_added_choice alts)

-- ---- it reads the value itself

abbrev whole : List (Option Datum) → Entries
whole es = (es, [])

-- the parts of a SEQUENCE are the value
parts_are : (n : ℕ) (cs : Components) (E F : Entries) → E ≡ (take n (component_list cs), []) → F ≡ (drop n (component_list cs), []) → sequence_read (E, F) ≡ nothing_skipped (components cs)
parts_are n cs E F p q =
    ap (λ (x : Entries). sequence_read (x, F)) p ∙ ap (λ (x : Entries). sequence_read ((take n (component_list cs), []), x)) q
    ∙ ap (λ (es : List (Option Datum)). nothing_skipped (components (components_of es))) (take-append-drop n (component_list cs)) ∙ ap (λ (x : Components). nothing_skipped (components x)) (components_again cs)

-- elements of which each is read itself: their values, and nothing is skipped
elements_are : (f : Datum → Reading) (P : Datum → Type 0) → ((d : Datum) → P d → f d ≡ nothing_skipped d) → (ds : Elements) → AllByRecursion P (element_list ds) → list_read (map f (element_list ds)) ≡ nothing_skipped (elements ds)
elements_are f P each ds h = λ i. (elements (values ds h i), skipped 0 ds h i)
  where
    values : (ds : Elements) → AllByRecursion P (element_list ds) → elements_of (map (λ (r : Reading). r.0) (map f (element_list ds))) ≡ ds
    values no_elements h = refl
    values (element d ds) h = ap (λ (x : Reading). element x.0 (elements_of (map (λ (r : Reading). r.0) (map f (element_list ds))))) (each d h.0) ∙ ap (element d) (values ds h.1)

    skipped : (k : ℕ) (ds : Elements) → AllByRecursion P (element_list ds) → all_skipped k (map f (element_list ds)) ≡ []
    skipped k no_elements h = refl
    skipped k (element d ds) h = ap (λ (x : Reading). (part_read (step.Element k) x).1 ++ all_skipped (suc k) (map f (element_list ds))) (each d h.0) ∙ skipped (suc k) ds h.1

-- an alternative of the root or an addition
either_is : (k : Bool) (A B : Type 0) (x y z : Reading) → MatchBool k A B → (A → x ≡ z) → (B → y ≡ z) → elim k [ true ↦ x | false ↦ y ] ≡ z
either_is true A B x y z h p q = p h
either_is false A B x y z h p q = q h

first_is : (k : Bool) (x y : Reading) → k ≡ true → elim k [ true ↦ x | false ↦ y ] ≡ x
first_is true x y e = refl
first_is false x y e = absurd (cc)

-- an entry before others
entry_is : (s : PathStep) (d : Datum) (r : Reading) (E : Entries) (es : List (Option Datum)) → r ≡ nothing_skipped d → E ≡ whole es → entry_read (part_read s r, E) ≡ whole (Some d ∷ es)
entry_is s d r E es p q = ap (λ (x : Reading). entry_read (part_read s x, E)) p ∙ ap (λ (x : Entries). entry_read (nothing_skipped d, x)) q

module _ (l : LooseCoding) where
  mutual
    pub itself : (t : Shape) (v : Datum) → Fits t v → received l t t v ≡ nothing_skipped v
    itself boolean v f = refl
    itself null v f = refl
    itself (integer z) v f = refl
    itself (bit_string z) v f = refl
    itself (octet_string z) v f = refl
    itself (restricted k z) v f = refl
    itself utf8_string v f = refl
    itself (enumerated root closed_labels) v f = refl
    itself (enumerated root (marked_labels ls)) (item p) f =
        first_is (nat_lt p (length root + length ls)) (nothing_skipped (item p)) (item_skipped (l.told_number root ls p)) (lt-ltb p (length root + length ls) f)
    itself (enumerated root (marked_labels ls)) _ f = absurd f
    itself (sequence root more) (components cs) f =
        parts_are (length (demands root)) cs _ _ (entries_are 0 root (take (length (demands root)) (component_list cs)) f.0) (more_are more (drop (length (demands root)) (component_list cs)) f.1)
    itself (sequence root more) _ f = absurd f
    itself (sequence_of t s) (elements ds) f = elements_are (λ d. received l t t d) (λ d. Fits t d) (λ d g. itself t d g) ds f.1
    itself (sequence_of t s) _ f = absurd f
    itself (choice root more) (alternative tag d) f =
        either_is (nat_lt tag (count root)) (FitsAlternative root tag d) (FitsMoreAlternatives more (tag - count root) d)
        (root_received l tag root root tag d) (other_received l tag more more (tag - count root) d) (nothing_skipped (alternative tag d)) f
        (λ g. root_is tag root tag d g) (λ g. other_is tag more (tag - count root) d g)
    itself (choice root more) _ f = absurd f

    entries_are : (i : ℕ) (fs : Fields) (es : List (Option Datum)) → FitsEach fs es → entries_received l i fs fs es ≡ whole es
    entries_are i no_fields [] f = refl
    entries_are i no_fields (e ∷ es) f = absurd f
    entries_are i (field name demand t fs) [] f = absurd f
    entries_are i (field name demand t fs) (Some d ∷ es) f = entry_is (step.Component i) d (received l t t d) (entries_received l (suc i) fs fs es) es (itself t d f.0) (entries_are (suc i) fs es f.1)
    entries_are i (field name demand t fs) (None ∷ es) f = ap (entry_left None) (entries_are (suc i) fs es f.1)

    more_are : (more : MoreFields) (es : List (Option Datum)) → FitsMore more es → more_received l more more es ≡ whole es
    more_are closed [] f = refl
    more_are closed (e ∷ es) f = absurd f
    more_are (marked fs) es f = added_are 0 fs es f

    added_are : (place : ℕ) (fs : Fields) (es : List (Option Datum)) → FitsEach fs es → added_received l place fs fs es ≡ whole es
    added_are place no_fields [] f = refl
    added_are place no_fields (e ∷ es) f = absurd f
    added_are place (field name demand t fs) [] f = absurd f
    added_are place (field name demand t fs) (Some d ∷ es) f = entry_is (step.Addition place) d (received l t t d) (added_received l (suc place) fs fs es) es (itself t d f.0) (added_are (suc place) fs es f.1)
    added_are place (field name demand t fs) (None ∷ es) f = ap (entry_left None) (added_are (suc place) fs es f.1)

    root_is : (tag : ℕ) (alts : Alternatives) (i : ℕ) (d : Datum) → FitsAlternative alts i d → root_received l tag alts alts i d ≡ nothing_skipped (alternative tag d)
    root_is tag no_alternatives i d f = absurd f
    root_is tag (one_of name t alts) zero d f = ap (λ (x : Reading). alternative_read tag (part_read (step.Alternative tag) x)) (itself t d f)
    root_is tag (one_of name t alts) (suc i) d f = root_is tag alts i d f

    other_is : (tag : ℕ) (more : MoreAlternatives) (i : ℕ) (d : Datum) → FitsMoreAlternatives more i d → other_received l tag more more i d ≡ nothing_skipped (alternative tag d)
    other_is tag closed_choice i d f = absurd f
    other_is tag (marked_choice alts) i d f = addition_is tag i alts i d f

    addition_is : (tag place : ℕ) (alts : Alternatives) (i : ℕ) (d : Datum) → FitsAlternative alts i d → addition_received l tag place alts alts i d ≡ nothing_skipped (alternative tag d)
    addition_is tag place no_alternatives i d f = absurd f
    addition_is tag place (one_of name t alts) zero d f = ap (λ (x : Reading). alternative_read tag (part_read (step.Alternative tag) x)) (itself t d f)
    addition_is tag place (one_of name t alts) (suc i) d f = addition_is tag place alts i d f
