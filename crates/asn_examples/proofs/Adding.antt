-- Parts that are made one after the other: entries of a SEQUENCE, elements of a SEQUENCE OF, an alternative.
use Rattle.std.specs.Global.{Box}
use Rattle.std.proofs.Common.{◌≡◌, ◌<◌, ◌+◌, ◌-◌, ◌++◌, ℕ, suc, true, false, List, [], ◌∷◌, map, length, take, drop, get_or, nat_lt, Option, Some, None, option_map, MatchBool, Vec, Global, refl, sym, ap, ◌∙◌, subst, append_assoc, add-one, arith}
use Rattle.std.specs.List.{AllByRecursion}
use Rattle.std.proofs.lemmas.Bool.{lt-ltb, le-ltb}
use Rattle.std.proofs.lemmas.List.{map-append, map_more}
use Rattle.std.proofs.Math.Seq.{drop-cons}
use Rattle.asn_values.specs.declared.types.AsnType.{AsnType}
use Rattle.asn_values.specs.declared.types.AsnType as asn_type
use Rattle.asn_values.specs.declared.types.Alt.{Alt}
use Rattle.asn_values.specs.declared.types.Field.{Field}
use Rattle.asn_values.specs.declared.types.Size.{Size}
use Rattle.asn_values.specs.declared.value.Value.{Value}
use Rattle.asn_values.specs.declared.value.Value.TheVariants as value
use Rattle.asn_values.specs.Datum.{Datum, components_of, component_list, alternative}
use Rattle.asn_values.specs.Shape.{marked, Alternatives, MoreAlternatives, count, marked_choice, choice}
use Rattle.asn_values.specs.Fits.{Fits, FitsEach, FitsDemand, FitsLength, FitsSequence, FitsAlternative, FitsMoreAlternatives}
use Rattle.asn_values.specs.Parts.{AreOfProfile}
use Rattle.asn_values.specs.View.{Part, shape_of, datum_of, size_range_of, fields_of, part_of_field, branch_of, alternatives_of, more_alternatives_of}
use Rattle.asn_values.proofs.Alternatives.{count-of, fits_at}
use Rattle.asn_values.proofs.Entries.{fits_sequence, length-demands, each_length}
use Rattle.asn_values.proofs.Views.{datum_of-Seq, datum_of-List, list_of_elements, element_list-elements_of}
use Rattle.asn_rules.proofs.Law.SomeValue.{entries_fit}
use Rattle.asn_walk.proofs.Parts.{closed_type, marked_type, choice_shape}
use Rattle.asn_examples.specs.Made.{AddsFitting, IsChosen}

-- ---- entries

-- one component more, and an entry that is right for it
each_push : (ps : List Part) (p : Part) (es : List (Option Datum)) (e : Option Datum) → FitsEach (fields_of ps) es → FitsDemand (λ d. Fits p.shape d) p.demand e
    → FitsEach (fields_of (ps ++ p ∷ [])) (es ++ e ∷ [])
each_push [] p [] e h f = (f, tt)
each_push [] p (x ∷ es) e h f = absurd h
each_push (q ∷ ps) p [] e h f = absurd h
each_push (q ∷ ps) p (x ∷ es) e h f = (h.0, each_push ps p es e h.1 f)

-- none yet
pub adds_none : (fs : List Field) (es : List (Option Datum)) → AddsFitting (fields_of (map part_of_field (take 0 fs))) es es
adds_none fs es = record { added = []; whole = sym (append-nil es); fits = tt }
  where
    append-nil : (xs : List (Option Datum)) → xs ++ [] ≡ xs
    append-nil [] = refl
    append-nil (x ∷ xs) = ap (λ ys. x ∷ ys) (append-nil xs)

-- one more
pub adds_more :
    (fs : List Field) (i : ℕ) (x : Field) (old : List (Option Datum)) (vs ws : List (Option Value)) (e : Option Value) → i < length fs → x ≡ get_or fs i x → ws ≡ vs ++ e ∷ [] →
    FitsDemand (λ d. Fits (part_of_field x).shape d) (part_of_field x).demand (option_map datum_of e) →
    AddsFitting (fields_of (map part_of_field (take i fs))) old (map (option_map datum_of) vs) →
    AddsFitting (fields_of (map part_of_field (take (i + 1) fs))) old (map (option_map datum_of) ws)
adds_more fs i x old vs ws e h g w f a =
    let parts : map part_of_field (take (i + 1) fs) ≡ map part_of_field (take i fs) ++ part_of_field x ∷ [] = map_more part_of_field fs i x h ∙ ap (λ (y : Field). map part_of_field (take i fs) ++ part_of_field y ∷ []) (sym g) in
    record {
      added = a.added ++ option_map datum_of e ∷ [];
      whole = ap (map (option_map datum_of)) w ∙ map-append (option_map datum_of) vs (e ∷ []) ∙ ap (λ l. l ++ option_map datum_of e ∷ []) a.whole ∙ append_assoc old a.added (option_map datum_of e ∷ []);
      fits = subst (λ (ps : List Part). FitsEach (fields_of ps) (a.added ++ option_map datum_of e ∷ [])) (sym parts) (each_push (map part_of_field (take i fs)) (part_of_field x) a.added (option_map datum_of e) a.fits f);
    }

-- the components that are left after one more
pub left_more : (fs : List Field) (i : ℕ) (x : Field) → i < length fs → x ≡ get_or fs i x → AreOfProfile (fields_of (map part_of_field (drop i fs))) → AreOfProfile (fields_of (map part_of_field (drop (i + 1) fs)))
left_more fs i x h e p =
    let split : drop i fs ≡ x ∷ drop (i + 1) fs = rw (add-one, drop-cons fs i x h, ← e) refl in
    let q : AreOfProfile (fields_of (map part_of_field (x ∷ drop (i + 1) fs))) = subst (λ (l : List Field). AreOfProfile (fields_of (map part_of_field l))) split p in
    q.2

-- a SEQUENCE without a mark
pub closed_fits :
    (t : AsnType) (root : Vec Field Global) (ext : Option (Vec Field Global)) (fs : List Field) (v : Vec (Option Value) Global) → t ≡ asn_type.Seq root ext → ext ≡ None → fs ≡ root.items →
    AddsFitting (fields_of (map part_of_field fs)) [] (map (option_map datum_of) v.items) → Fits (shape_of t) (datum_of (value.Seq v))
closed_fits t root ext fs v e f g a =
    rw (closed_type t root ext fs e f g, datum_of-Seq v)
    ((fits_sequence (fields_of (map part_of_field fs)) (map (option_map datum_of) v.items)).0 (subst (FitsEach (fields_of (map part_of_field fs))) (sym a.whole) a.fits))

-- one with a mark, and entries for its additions
pub marked_fits :
    (t : AsnType) (root : Vec Field Global) (ext : Option (Vec Field Global)) (more : Vec Field Global) (fs gs : List Field) (es : List (Option Datum)) (v : Vec (Option Value) Global) →
    t ≡ asn_type.Seq root ext → ext ≡ Some more → fs ≡ root.items → gs ≡ more.items →
    AddsFitting (fields_of (map part_of_field fs)) [] es → AddsFitting (fields_of (map part_of_field gs)) es (map (option_map datum_of) v.items) → Fits (shape_of t) (datum_of (value.Seq v))
marked_fits t root ext more fs gs es v e f g h a b =
    let ps : List Part = map part_of_field fs in
    let qs : List Part = map part_of_field gs in
    let first : FitsEach (fields_of ps) es = subst (FitsEach (fields_of ps)) (sym a.whole) a.fits in
    let fit : FitsSequence (fields_of ps) (marked (fields_of qs)) (component_list (components_of (es ++ b.added))) = entries_fit (fields_of ps) (marked (fields_of qs)) es b.added (sym (length-demands ps ∙ each_length ps es first)) first b.fits in
    rw (marked_type t root ext more fs gs e f g h, datum_of-Seq v, b.whole) fit

-- ---- elements

-- one element more
pub all_push : {A : Type 0} (P : A → Type 0) (xs : List A) (x : A) → AllByRecursion P xs → P x → AllByRecursion P (xs ++ x ∷ [])
all_push P [] x h f = (f, tt)
all_push P (y ∷ ys) x h f = (h.0, all_push P ys x h.1 f)

-- the same of values, as what they stand for
pub elements_push : (P : Datum → Type 0) (vs ws : List Value) (x : Value) → ws ≡ vs ++ x ∷ [] → P (datum_of x) → AllByRecursion P (map datum_of vs) → AllByRecursion P (map datum_of ws)
elements_push P vs ws x e f h = rw (e, map-append) (all_push P (map datum_of vs) (datum_of x) h f)

-- a SEQUENCE OF
pub list_fits :
    (t e : AsnType) (b : Box AsnType) (s : Size) (v : Vec Value Global) (n : ℕ) → t ≡ asn_type.SeqOf b s → e ≡ b.value → FitsLength (size_range_of s) n → length v.items ≡ n →
    AllByRecursion (λ d. Fits (shape_of e) d) (map datum_of v.items) → Fits (shape_of t) (datum_of (value.List v))
list_fits t e b s v n et ee f l a =
    rw (list_of_elements t e b s et ee, datum_of-List v)
    (subst (λ ds. FitsLength (size_range_of s) (length ds) × AllByRecursion (λ d. Fits (shape_of e) d) ds) (sym (element_list-elements_of (map datum_of v.items)))
    (subst (FitsLength (size_range_of s)) (sym (length-mapped v.items ∙ l)) f, a))
  where
    length-mapped : (vs : List Value) → length (map datum_of vs) ≡ length vs
    length-mapped [] = refl
    length-mapped (v ∷ vs) = ap suc (length-mapped vs)

-- ---- an alternative

-- the one at an index is chosen
pub chosen_at : (alts : List Alt) (first i : ℕ) (x : Alt) (v d : Datum) → i < length alts → x ≡ get_or alts i x → Fits (shape_of x.ty) v → d ≡ alternative (first + i) v → IsChosen (alternatives_of (map branch_of alts)) first (length alts) d
chosen_at alts first i x v d h e f s = record { index = i; value = v; inside = h; same = s; fits = (fits_at alts i x v h e).1 f }

in_root : (root : Alternatives) (more : MoreAlternatives) (d : Datum) → IsChosen root 0 (count root) d → Fits (choice root more) d
in_root root more d a =
    let same : d ≡ alternative a.index a.value = a.same ∙ ap (λ n. alternative n a.value) (omega arith) in
    let inside : nat_lt a.index (count root) ≡ true = lt-ltb a.index (count root) a.inside in
    subst (Fits (choice root more)) (sym same)
    (subst (λ i. MatchBool i (FitsAlternative root a.index a.value) (FitsMoreAlternatives more (a.index - count root) a.value)) (sym inside) a.fits)

in_more : (root alts : Alternatives) (more : MoreAlternatives) (d : Datum) (n : ℕ) → ((i : ℕ) (e : Datum) → FitsAlternative alts i e → FitsMoreAlternatives more i e) → IsChosen alts (count root) n d → Fits (choice root more) d
in_more root alts more d n put a =
    let outside : nat_lt (count root + a.index) (count root) ≡ false = le-ltb (count root + a.index) (count root) (omega arith) in
    let back : count root + a.index - count root ≡ a.index = omega arith in
    subst (Fits (choice root more)) (sym a.same)
    (subst (λ i. MatchBool i (FitsAlternative root (count root + a.index) a.value) (FitsMoreAlternatives more (count root + a.index - count root) a.value)) (sym outside)
    (subst (λ j. FitsMoreAlternatives more j a.value) (sym back) (put a.index a.value a.fits)))

module _ (t : AsnType) (root : Vec Alt Global) (ext : Option (Vec Alt Global)) (is : t ≡ asn_type.Choice root ext) where
  -- a CHOICE of one of the root
  pub root_chosen : (alts : List Alt) (n : ℕ) (v : Value) → alts ≡ root.items → n ≡ 0 → IsChosen (alternatives_of (map branch_of alts)) n (length alts) (datum_of v) → Fits (shape_of t) (datum_of v)
  root_chosen alts n v e z a =
      let here : IsChosen (alternatives_of (map branch_of root.items)) 0 (count (alternatives_of (map branch_of root.items))) (datum_of v) =
      subst (λ k. IsChosen (alternatives_of (map branch_of root.items)) 0 k (datum_of v)) (sym (count-of root.items))
      (subst (λ (l : List Alt). IsChosen (alternatives_of (map branch_of l)) 0 (length l) (datum_of v)) e
      (subst (λ k. IsChosen (alternatives_of (map branch_of alts)) k (length alts) (datum_of v)) z a)) in
      rw (choice_shape t root ext is) (in_root (alternatives_of (map branch_of root.items)) (more_alternatives_of ext) (datum_of v) here)

  -- of one of the additions
  pub added_chosen : (additions : Vec Alt Global) (alts : List Alt) (n : ℕ) (v : Value) → ext ≡ Some additions → alts ≡ additions.items → n ≡ length root.items → IsChosen (alternatives_of (map branch_of alts)) n (length alts) (datum_of v) → Fits (shape_of t) (datum_of v)
  added_chosen additions alts n v e f c a =
      let here : IsChosen (alternatives_of (map branch_of alts)) (count (alternatives_of (map branch_of root.items))) (length alts) (datum_of v) =
      subst (λ k. IsChosen (alternatives_of (map branch_of alts)) k (length alts) (datum_of v)) (c ∙ sym (count-of root.items)) a in
      rw (choice_shape t root ext is)
      (in_more (alternatives_of (map branch_of root.items)) (alternatives_of (map branch_of alts)) (more_alternatives_of ext) (datum_of v) (length alts)
      (λ i d h. subst (λ (m : MoreAlternatives). FitsMoreAlternatives m i d) (sym (ap more_alternatives_of e ∙ ap (λ (l : List Alt). more_alternatives_of_list l) (sym f))) h) here)
    where
      more_alternatives_of_list : List Alt → MoreAlternatives
      more_alternatives_of_list l = marked_choice (alternatives_of (map branch_of l))
