-- Values with unknown items and alternatives where they are asked for: one entry for each component, the alternative
-- with an index, the elements of a list; and that where they are not asked for, these are the values of the type.
use Rattle.std.proofs.Common.{◌≡◌, ◌≢◌, ◌↔◌, ◌∙◌, ◌<◌, ◌≤◌, ◌-◌, ℕ, zero, suc, min, sym, IsTrue, Bool, true, false, List, [], ◌∷◌, map, length, take, drop, get_or, nat_lt, Option, Some, None, option_map, MatchBool, Vec, Global, refl, ap, arith}
use Rattle.std.specs.Global.{Box}
use Rattle.std.specs.List.{AllByRecursion}
use Rattle.std.proofs.lemmas.Bool.{le-ltb, lt-ltb}
use Rattle.std.proofs.lemmas.List.{length-map, take_min, drop_min, take-map, drop-map}
use Rattle.asn_values.specs.declared.types.Alt.{Alt}
use Rattle.asn_values.specs.declared.types.Field.{Field}
use Rattle.asn_values.specs.declared.types.Size.{Size}
use Rattle.asn_values.specs.declared.types.AsnType.{AsnType, Seq, SeqOf, Choice}
use Rattle.asn_values.specs.declared.value.Value.{Value}
use Rattle.asn_values.specs.declared.value.Value.TheVariants as value
use Rattle.asn_values.specs.Datum.{Datum, item, components, components_of, component_list, elements, elements_of, element_list, alternative}
use Rattle.asn_values.specs.Shape.{SizeRange, Shape, boolean, null, integer, enumerated, bit_string, octet_string, restricted, utf8_string, sequence, sequence_of, choice, Fields, no_fields, field, must, optional, default, MoreFields, closed, marked, demands, count, Alternatives, no_alternatives, one_of, MoreAlternatives, closed_choice, marked_choice}
use Rattle.asn_values.specs.Fits.{Fits, FitsLength, FitsEach, FitsMore, FitsAlternative, FitsMoreAlternatives}
use Rattle.asn_values.specs.Received.{FitsBy, FitsEachBy, FitsMoreBy, FitsAlternativeBy, FitsMoreAlternativesBy, SequenceBy, ChoiceBy}
use Rattle.asn_values.specs.View.{Part, shape_of, datum_of, size_range_of, fields_of, part_of_field, more_fields_of, branch_of, alternatives_of, more_alternatives_of}
use Rattle.asn_values.proofs.Views.{component_list-components_of, sequence_of_fields, datum_of-Seq, choice_of_alternatives, datum_of-Choice, list_of_elements, datum_of-List, element_list-elements_of}
use Rattle.asn_values.proofs.Entries.{length-demands}
use Rattle.asn_values.proofs.Alternatives.{count-of, shape_of_branch, no_truth}

module _ (u : Bool) where
  -- the root's part and nothing after it is one entry for each component of the root
  pub each_of_closed : (fs : Fields) (es : List (Option Datum)) → FitsEachBy u fs es ↔ (FitsEachBy u fs (take (length (demands fs)) es) × FitsMoreBy u closed (drop (length (demands fs)) es))
  each_of_closed no_fields [] = (λ h. (tt, tt), λ h. tt)
  each_of_closed no_fields (e ∷ es) = (λ h. absurd h, λ h. absurd h.1)
  each_of_closed (field name demand t fs) [] = (λ h. absurd h, λ h. absurd h.0)
  each_of_closed (field name demand t fs) (e ∷ es) = (
    λ h. let rest = (each_of_closed fs es).0 h.1 in ((h.0, rest.0), rest.1),
    λ h. (h.0.0, (each_of_closed fs es).1 (h.0.1, h.1)),
  )

  -- a test of the entries of a SEQUENCE is one of its value
  pub fits_sequences :
      (t : AsnType) (x : Value) (root : Vec Field Global) (ext : Option (Vec Field Global)) (v : Vec (Option Value) Global) → t ≡ Seq root ext → x ≡ value.Seq v →
      (fs : List Field) (vs : List (Option Value)) → fs ≡ root.items → vs ≡ v.items →
      (b : Bool) → IsTrue b ↔ SequenceBy u (fields_of (map part_of_field fs)) (more_fields_of ext) (map (option_map datum_of) vs) →
      IsTrue b ↔ FitsBy u (shape_of t) (datum_of x)
  fits_sequences t x root ext v et ex fs vs ef ev b (there, back) =
      let type : shape_of t ≡ sequence (fields_of (map part_of_field fs)) (more_fields_of ext) = sequence_of_fields t root ext fs et ef in
      let value : datum_of x ≡ components (components_of (map (option_map datum_of) vs)) = rw (ex, ev) (datum_of-Seq v) in
      rw (type, value, component_list-components_of) (there, back)

  -- without a mark, one entry for each component
  pub fits_closed : (ps : List Part) (es : List (Option Datum)) (b : Bool) → IsTrue b ↔ FitsEachBy u (fields_of ps) es → IsTrue b ↔ SequenceBy u (fields_of ps) closed es
  fits_closed ps es b (there, back) =
      let both = each_of_closed (fields_of ps) es in
      (λ h. both.0 (there h), λ h. back (both.1 h))

  -- entries that fit are as many as the components
  pub each_length : (ps : List Part) (es : List (Option Datum)) → FitsEachBy u (fields_of ps) es → length ps ≡ length es
  each_length [] [] h = refl
  each_length [] (e ∷ es) h = absurd h
  each_length (p ∷ ps) [] h = absurd h
  each_length (p ∷ ps) (e ∷ es) h = ap suc (each_length ps es h.1)

  pub other_length : (fs : List Field) (vs : List (Option Value)) → FitsEachBy u (fields_of (map part_of_field fs)) (map (option_map datum_of) vs) → length fs ≢ length vs → ⊥
  other_length fs vs h differ =
      differ (simp length-map at (each_length (map part_of_field fs) (map (option_map datum_of) vs) h))

  -- ---- after an extension marker

  -- as far as there are entries, the first are the root's and the others the additions'
  pub fits_split :
      (fs more : List Field) (vs root_entries added_entries : List (Option Value)) (n : ℕ) (b : Bool) → n ≡ min (length fs) (length vs) → root_entries ≡ take n vs → added_entries ≡ drop n vs →
      IsTrue b ↔ (FitsEachBy u (fields_of (map part_of_field fs)) (map (option_map datum_of) root_entries) × FitsEachBy u (fields_of (map part_of_field more)) (map (option_map datum_of) added_entries)) →
      IsTrue b ↔ SequenceBy u (fields_of (map part_of_field fs)) (marked (fields_of (map part_of_field more))) (map (option_map datum_of) vs)
  fits_split fs more vs root_entries added_entries n b en eo et both =
      let count : length (demands (fields_of (map part_of_field fs))) ≡ length fs = length-demands (map part_of_field fs) ∙ length-map fs part_of_field in
      let front : take (length fs) (map (option_map datum_of) vs) ≡ map (option_map datum_of) root_entries =
      take-map (option_map datum_of) (length fs) vs ∙ ap (map (option_map datum_of)) (sym (take_min (length fs) vs) ∙ ap (λ k. take k vs) (sym en) ∙ sym eo) in
      let back : drop (length fs) (map (option_map datum_of) vs) ≡ map (option_map datum_of) added_entries =
      drop-map (option_map datum_of) (length fs) vs ∙ ap (map (option_map datum_of)) (sym (drop_min (length fs) vs) ∙ ap (λ k. drop k vs) (sym en) ∙ sym et) in
      rw (count, front, back) both

  -- those of the alternative at an index
  pub fits_at : (alts : List Alt) (i : ℕ) (x : Alt) (d : Datum) → i < length alts → x ≡ get_or alts i x → FitsAlternativeBy u (alternatives_of (map branch_of alts)) i d ↔ FitsBy u (shape_of x.ty) d
  fits_at [] i x d h e = absurd (omega arith)
  fits_at (a ∷ alts) zero x d h e = rw (e, shape_of_branch a) (λ f. f, λ f. f)
  fits_at (a ∷ alts) (suc i) x d h e = fits_at alts i x d (omega arith) e

  -- none after the last
  pub fits_nowhere : (alts : List Alt) (i : ℕ) (d : Datum) → length alts ≤ i → FitsAlternativeBy u (alternatives_of (map branch_of alts)) i d → ⊥
  fits_nowhere [] i d h f = f
  fits_nowhere (a ∷ alts) zero d h f = omega arith
  fits_nowhere (a ∷ alts) (suc i) d h f = fits_nowhere alts i d (omega arith) f

  -- a test of an alternative of the root
  pub choice_root : (root : List Alt) (more : MoreAlternatives) (t : ℕ) (d : Datum) (b : Bool) → t < length root
      → IsTrue b ↔ FitsAlternativeBy u (alternatives_of (map branch_of root)) t d → IsTrue b ↔ ChoiceBy u (alternatives_of (map branch_of root)) more t d
  choice_root root more t d b h both =
      let inside : nat_lt t (count (alternatives_of (map branch_of root))) ≡ true = rw (count-of root) (lt-ltb t (length root) h) in
      rw inside both

  -- of an addition
  pub choice_more : (root more : List Alt) (t : ℕ) (d : Datum) (b : Bool) → length root ≤ t
      → IsTrue b ↔ FitsAlternativeBy u (alternatives_of (map branch_of more)) (t - length root) d → IsTrue b ↔ ChoiceBy u (alternatives_of (map branch_of root)) (marked_choice (alternatives_of (map branch_of more))) t d
  choice_more root more t d b h both =
      let outside : nat_lt t (count (alternatives_of (map branch_of root))) ≡ false = rw (count-of root) (le-ltb t (length root) h) in
      rw (outside, count-of root) both

  pub choice_closed : (root : List Alt) (t : ℕ) (d : Datum) → length root ≤ t → IsTrue false ↔ ChoiceBy u (alternatives_of (map branch_of root)) closed_choice t d
  choice_closed root t d h =
      let outside : nat_lt t (count (alternatives_of (map branch_of root))) ≡ false = rw (count-of root) (le-ltb t (length root) h) in
      rw outside (λ f. no_truth f, λ f. absurd f)

  -- a test of the tag and value of a CHOICE is one of its value
  pub fits_choices :
      (t : AsnType) (x : Value) (root : Vec Alt Global) (ext : Option (Vec Alt Global)) (tag : ℕ) (v : Box Value) → t ≡ Choice root ext → x ≡ value.Choice tag v →
      (alts : List Alt) (y : Value) → alts ≡ root.items → y ≡ v.value →
      (b : Bool) → IsTrue b ↔ ChoiceBy u (alternatives_of (map branch_of alts)) (more_alternatives_of ext) tag (datum_of y) →
      IsTrue b ↔ FitsBy u (shape_of t) (datum_of x)
  fits_choices t x root ext tag v et ex alts y ea ey b both =
      let type : shape_of t ≡ choice (alternatives_of (map branch_of alts)) (more_alternatives_of ext) = choice_of_alternatives t root ext alts et ea in
      let value : datum_of x ≡ alternative tag (datum_of y) = rw (ex, ey) (datum_of-Choice tag v) in
      rw (type, value) both

  -- ---- the values of a SEQUENCE OF

  -- a list is one where its length is in the size and each element is a value of the type
  pub fits_list : (t : Shape) (s : SizeRange) (ds : List Datum) → (FitsLength s (length ds) × AllByRecursion (λ d. FitsBy u t d) ds) ↔ FitsBy u (sequence_of t s) (elements (elements_of ds))
  fits_list t s ds = rw (element_list-elements_of ds) (λ h. h, λ h. h)

  module _ (t e : AsnType) (x : Value) (inner : Box AsnType) (s : Size) (v : Vec Value Global) (et : t ≡ SeqOf inner s) (ex : x ≡ value.List v) (ee : e ≡ inner.value) where
    is_list : shape_of t ≡ sequence_of (shape_of e) (size_range_of s)
    is_list = list_of_elements t e inner s et ee

    -- a test of the elements is one of the list, where the length is one of the size
    pub fits_lists : (vs : List Value) → vs ≡ v.items → FitsLength (size_range_of s) (length vs) → (b : Bool)
        → IsTrue b ↔ AllByRecursion (λ d. FitsBy u (shape_of e) d) (map datum_of vs) → IsTrue b ↔ FitsBy u (shape_of t) (datum_of x)
    fits_lists vs ev few b (there, back) =
        let value : datum_of x ≡ elements (elements_of (map datum_of vs)) = rw (ex, ev) (datum_of-List v) in
        let both = fits_list (shape_of e) (size_range_of s) (map datum_of vs) in
        rw (is_list, value) (λ h. both.0 (rw (length-map vs datum_of) few, there h), λ h. back (both.1 h).1)

    -- and else the list is none
    pub other_elements : (FitsLength (size_range_of s) (length v.items) → ⊥) → FitsBy u (shape_of t) (datum_of x) → ⊥
    other_elements never h =
        let value : datum_of x ≡ elements (elements_of (map datum_of v.items)) = rw ex (datum_of-List v) in
        let fit = (fits_list (shape_of e) (size_range_of s) (map datum_of v.items)).1 (rw (is_list, value) at h) in
        never (rw (length-map v.items datum_of) at fit.0)

-- ---- where they are not asked for

-- elements that are all of one kind are so of another, where each is
all_alike : {A : Type 0} (P Q : A → Type 0) → ((x : A) → P x → Q x) → (xs : List A) → AllByRecursion P xs → AllByRecursion Q xs
all_alike P Q f [] h = h
all_alike P Q f (x ∷ xs) h = (f x h.0, all_alike P Q f xs h.1)

either : {P Q R S : Type 0} (b : Bool) → (P → R) → (Q → S) → MatchBool b P Q → MatchBool b R S
either true f g h = f h
either false f g h = g h

mutual
  -- the values are those of the type
  pub by_none : (t : Shape) (d : Datum) → FitsBy false t d → Fits t d
  by_none boolean d h = h
  by_none null d h = h
  by_none (integer b) d h = h
  by_none (enumerated root more) (item p) h = h
  by_none (enumerated root more) _ h = absurd h
  by_none (bit_string s) d h = h
  by_none (octet_string s) d h = h
  by_none (restricted k s) d h = h
  by_none utf8_string d h = h
  by_none (sequence root more) (components cs) h =
      (each_by_none root (take (length (demands root)) (component_list cs)) h.0, more_by_none more (drop (length (demands root)) (component_list cs)) h.1)
  by_none (sequence root more) _ h = absurd h
  by_none (sequence_of t s) (elements es) h =
      (h.0, all_alike (λ e. FitsBy false t e) (λ e. Fits t e) (λ e g. by_none t e g) (element_list es) h.1)
  by_none (sequence_of t s) _ h = absurd h
  by_none (choice root more) (alternative i d) h =
      either (nat_lt i (count root)) (λ f. alternative_by_none root i d f) (λ f. addition_by_none more (i - count root) d f) h
  by_none (choice root more) _ h = absurd h

  each_by_none : (fs : Fields) (es : List (Option Datum)) → FitsEachBy false fs es → FitsEach fs es
  each_by_none no_fields [] h = h
  each_by_none no_fields (e ∷ es) h = absurd h
  each_by_none (field name demand t fs) [] h = absurd h
  each_by_none (field name demand t fs) (Some d ∷ es) h = (by_none t d h.0, each_by_none fs es h.1)
  each_by_none (field name optional t fs) (None ∷ es) h = (tt, each_by_none fs es h.1)
  each_by_none (field name must t fs) (None ∷ es) h = absurd h.0
  each_by_none (field name (default v) t fs) (None ∷ es) h = absurd h.0

  more_by_none : (more : MoreFields) (es : List (Option Datum)) → FitsMoreBy false more es → FitsMore more es
  more_by_none closed [] h = h
  more_by_none closed (e ∷ es) h = absurd h
  more_by_none (marked fs) es h = each_by_none fs es h

  alternative_by_none : (alts : Alternatives) (i : ℕ) (d : Datum) → FitsAlternativeBy false alts i d → FitsAlternative alts i d
  alternative_by_none no_alternatives i d h = absurd h
  alternative_by_none (one_of name t alts) zero d h = by_none t d h
  alternative_by_none (one_of name t alts) (suc i) d h = alternative_by_none alts i d h

  addition_by_none : (more : MoreAlternatives) (i : ℕ) (d : Datum) → FitsMoreAlternativesBy false more i d → FitsMoreAlternatives more i d
  addition_by_none closed_choice i d h = absurd h
  addition_by_none (marked_choice alts) i d h = alternative_by_none alts i d h

mutual
  -- and those of the type are among them, whatever is asked for
  pub fits_by : (u : Bool) → (t : Shape) (d : Datum) → Fits t d → FitsBy u t d
  fits_by u boolean d h = h
  fits_by u null d h = h
  fits_by u (integer b) d h = h
  fits_by u (enumerated root more) (item p) h = h
  fits_by u (enumerated root more) _ h = absurd h
  fits_by u (bit_string s) d h = h
  fits_by u (octet_string s) d h = h
  fits_by u (restricted k s) d h = h
  fits_by u utf8_string d h = h
  fits_by u (sequence root more) (components cs) h =
      (each_fits_by u root (take (length (demands root)) (component_list cs)) h.0, more_fits_by u more (drop (length (demands root)) (component_list cs)) h.1)
  fits_by u (sequence root more) _ h = absurd h
  fits_by u (sequence_of t s) (elements es) h =
      (h.0, all_alike (λ e. Fits t e) (λ e. FitsBy u t e) (λ e g. fits_by u t e g) (element_list es) h.1)
  fits_by u (sequence_of t s) _ h = absurd h
  fits_by u (choice root more) (alternative i d) h =
      either (nat_lt i (count root)) (λ f. alternative_fits_by u root i d f) (λ f. addition_fits_by u more (i - count root) d f) h
  fits_by u (choice root more) _ h = absurd h

  each_fits_by : (u : Bool) → (fs : Fields) (es : List (Option Datum)) → FitsEach fs es → FitsEachBy u fs es
  each_fits_by u no_fields [] h = h
  each_fits_by u no_fields (e ∷ es) h = absurd h
  each_fits_by u (field name demand t fs) [] h = absurd h
  each_fits_by u (field name demand t fs) (Some d ∷ es) h = (fits_by u t d h.0, each_fits_by u fs es h.1)
  each_fits_by u (field name optional t fs) (None ∷ es) h = (tt, each_fits_by u fs es h.1)
  each_fits_by u (field name must t fs) (None ∷ es) h = absurd h.0
  each_fits_by u (field name (default v) t fs) (None ∷ es) h = absurd h.0

  more_fits_by : (u : Bool) → (more : MoreFields) (es : List (Option Datum)) → FitsMore more es → FitsMoreBy u more es
  more_fits_by u closed [] h = h
  more_fits_by u closed (e ∷ es) h = absurd h
  more_fits_by u (marked fs) es h = each_fits_by u fs es h

  alternative_fits_by : (u : Bool) → (alts : Alternatives) (i : ℕ) (d : Datum) → FitsAlternative alts i d → FitsAlternativeBy u alts i d
  alternative_fits_by u no_alternatives i d h = absurd h
  alternative_fits_by u (one_of name t alts) zero d h = fits_by u t d h
  alternative_fits_by u (one_of name t alts) (suc i) d h = alternative_fits_by u alts i d h

  addition_fits_by : (u : Bool) → (more : MoreAlternatives) (i : ℕ) (d : Datum) → FitsMoreAlternatives more i d → FitsMoreAlternativesBy u more i d
  addition_fits_by u closed_choice i d h = absurd h
  addition_fits_by u (marked_choice alts) i d h = alternative_fits_by u alts i d h
