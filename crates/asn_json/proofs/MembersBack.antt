-- The members that are written for the components of a SEQUENCE: each is found at its name, and there are no others.
use Rattle.std.proofs.Common.{◌≡◌, ℕ, Bool, true, false, List, [], ◌∷◌, ◌++◌, length, take, drop, Option, Some, None, option_map, Ordering, Less, Equal, Greater, nat_cmp, bytes_eq, refl, sym, ap, ◌∙◌, append_assoc, true≢false}
use Rattle.std.specs.Prelude.{if◌then◌else◌}
use Rattle.std.specs.Cmp.Lexicographic.{slice_cmp}
use Rattle.std.specs.List.{list_any}
use Rattle.std.specs.Ordering.{match_ordering}
use Rattle.std.proofs.lemmas.Slice.Eq.{bytes_eq-Decides}
use Rattle.serde_json.specs.Data.{Data, Members, no_members, member, put}
use Rattle.serde_json.specs.Find.{get_member}
use Rattle.serde_json.proofs.Views.{get_member-put, get_member-put_other}
use Rattle.asn_values.specs.Datum.{Datum}
use Rattle.asn_values.specs.Fits.{Fits, FitsEach, FitsMore, FitsDemand}
use Rattle.asn_values.specs.Profile.{has_twice}
use Rattle.asn_values.specs.Shape.{Shape, Demand, must, optional, default, demands, Fields, no_fields, field, MoreFields, closed, marked, more_fields, field_names, append_fields}
use Rattle.asn_values.proofs.Parts.{left_false, right_false}
use Rattle.asn_json.specs.Errors.{errors, entry_errors, field_errors, added_errors, unknown_errors}
use Rattle.asn_json.specs.Paths.{here, below, to_member}
use Rattle.asn_json.specs.Readers.{Shows}
use Rattle.asn_json.specs.Shown.{value_of, entry_of, entries, added_entries}
use Rattle.asn_json.specs.Written.{json_of, members, added_members, with_member}
use Rattle.asn_json.proofs.Distinct.{AreAmong}

-- ---- root and additions as one

pub names_append : (a b : Fields) → field_names (append_fields a b) ≡ field_names a ++ field_names b
names_append no_fields b = refl
names_append (field name d t a) b = ap (λ ns. name ∷ ns) (names_append a b)

pub errors_append : (a b : Fields) (ms : Members) → field_errors (append_fields a b) ms ≡ field_errors a ms ++ field_errors b ms
errors_append no_fields b ms = refl
errors_append (field name d t a) b ms =
    ap (λ ps. entry_errors name d (λ j. errors t j) (get_member name ms) ++ ps) (errors_append a b ms)
    ∙ sym (append_assoc (entry_errors name d (λ j. errors t j) (get_member name ms)) (field_errors a ms) (field_errors b ms))

pub entries_append : (a b : Fields) (ms : Members) → entries (append_fields a b) ms ≡ entries a ms ++ entries b ms
entries_append no_fields b ms = refl
entries_append (field name d t a) b ms = ap (λ es. entry_of d (λ j. value_of t j) (get_member name ms) ∷ es) (entries_append a b ms)

no_entries : (b : Fields) (ms : Members) → members b [] ms ≡ ms
no_entries no_fields ms = refl
no_entries (field name d t b) ms = refl

pub members_append : (a b : Fields) (es : List (Option Datum)) (ms : Members) → members (append_fields a b) es ms ≡ members b (drop (length (demands a)) es) (members a (take (length (demands a)) es) ms)
members_append no_fields b es ms = refl
members_append (field name d t a) b [] ms = sym (no_entries b ms)
members_append (field name d t a) b (e ∷ es) ms = members_append a b es (with_member name (λ v. json_of t v) e ms)

pub fits_append : (a b : Fields) (es : List (Option Datum)) → FitsEach a (take (length (demands a)) es) → FitsEach b (drop (length (demands a)) es) → FitsEach (append_fields a b) es
fits_append no_fields b es p q = q
fits_append (field name d t a) b [] p q = absurd p
fits_append (field name d t a) b (e ∷ es) p q = (p.0, fits_append a b es p.1 q)

-- the additions, where there is a mark
pub fits_more : (more : MoreFields) (es : List (Option Datum)) → FitsMore more es → FitsEach (more_fields more) es
fits_more closed [] h = tt
fits_more closed (e ∷ es) h = h
fits_more (marked fs) es h = h

pub members_more : (more : MoreFields) (es : List (Option Datum)) (ms : Members) → added_members more es ms ≡ members (more_fields more) es ms
members_more closed es ms = refl
members_more (marked fs) es ms = refl

pub errors_more : (more : MoreFields) (ms : Members) → added_errors more ms ≡ field_errors (more_fields more) ms
errors_more closed ms = refl
errors_more (marked fs) ms = refl

pub entries_more : (more : MoreFields) (ms : Members) → added_entries more ms ≡ entries (more_fields more) ms
entries_more closed ms = refl
entries_more (marked fs) ms = refl

-- ---- each member is found

-- a name that is not among those of the components
differs : (name n : List ℕ) → bytes_eq name n ≡ false → n ≡ name → ⊥
differs name n h e = true≢false (sym ((bytes_eq-Decides name n).1 (sym e)) ∙ h)

one_other : (name n : List ℕ) (f : Datum → Data) (e : Option Datum) (ms : Members) → bytes_eq n name ≡ false → get_member n (with_member name f e ms) ≡ get_member n ms
one_other name n f None ms h = refl
one_other name n f (Some d) ms h = get_member-put_other n name (f d) ms (λ e. differs n name h (sym e))

others : (fs : Fields) (es : List (Option Datum)) (ms : Members) (n : List ℕ) → list_any (bytes_eq n) (field_names fs) ≡ false → get_member n (members fs es ms) ≡ get_member n ms
others no_fields es ms n h = refl
others (field name d t fs) [] ms n h = refl
others (field name d t fs) (e ∷ es) ms n h =
    others fs es (with_member name (λ v. json_of t v) e ms) n (right_false (bytes_eq n name) (list_any (bytes_eq n) (field_names fs)) h)
    ∙ one_other name n (λ v. json_of t v) e ms (left_false (bytes_eq n name) (list_any (bytes_eq n) (field_names fs)) h)

-- each component's member, where it is there
abbrev pub AreWritten : Fields → List (Option Datum) → Members → Type 0
AreWritten no_fields es ms = Unit {0}
AreWritten (field name d t fs) [] ms = Unit {0}
AreWritten (field name d t fs) (e ∷ es) ms = (get_member name ms ≡ option_map (λ v. json_of t v) e) × AreWritten fs es ms

-- the names are none of the keys
abbrev AreAbsent : List (List ℕ) → Members → Type 0
AreAbsent [] ms = Unit {0}
AreAbsent (n ∷ ns) ms = (get_member n ms ≡ None) × AreAbsent ns ms

absent_there : (ns : List (List ℕ)) → AreAbsent ns no_members
absent_there [] = tt
absent_there (n ∷ ns) = (refl, absent_there ns)

symmetric : (x y : List ℕ) → bytes_eq x y ≡ false → bytes_eq y x ≡ false
symmetric x y h = test (bytes_eq y x) refl
  where
    test : (b : Bool) → bytes_eq y x ≡ b → b ≡ false
    test false e = refl
    test true e = absurd (differs x y h ((bytes_eq-Decides y x).0 e))

still_absent : (name : List ℕ) (f : Datum → Data) (e : Option Datum) (ns : List (List ℕ)) (ms : Members) → list_any (bytes_eq name) ns ≡ false → AreAbsent ns ms → AreAbsent ns (with_member name f e ms)
still_absent name f e [] ms h a = tt
still_absent name f e (n ∷ ns) ms h a =
    let other = symmetric name n (left_false (bytes_eq name n) (list_any (bytes_eq name) ns) h) in
    (one_other name n f e ms other ∙ a.0, still_absent name f e ns ms (right_false (bytes_eq name n) (list_any (bytes_eq name) ns) h) a.1)

first_found : (name : List ℕ) (f : Datum → Data) (e : Option Datum) (ms : Members) → get_member name ms ≡ None → get_member name (with_member name f e ms) ≡ option_map f e
first_found name f None ms h = h
first_found name f (Some d) ms h = get_member-put name (f d) ms

are_written : (fs : Fields) (es : List (Option Datum)) (ms : Members) → has_twice bytes_eq (field_names fs) ≡ false → AreAbsent (field_names fs) ms → AreWritten fs es (members fs es ms)
are_written no_fields es ms h a = tt
are_written (field name d t fs) [] ms h a = tt
are_written (field name d t fs) (e ∷ es) ms h a =
    let once : list_any (bytes_eq name) (field_names fs) ≡ false = left_false (list_any (bytes_eq name) (field_names fs)) (has_twice bytes_eq (field_names fs)) h in
    let rest : has_twice bytes_eq (field_names fs) ≡ false = right_false (list_any (bytes_eq name) (field_names fs)) (has_twice bytes_eq (field_names fs)) h in
    let f : Datum → Data = λ v. json_of t v in (
      others fs es (with_member name f e ms) name once ∙ first_found name f e ms a.0,
      are_written fs es (with_member name f e ms) rest (still_absent name f e (field_names fs) ms once a.1),
    )

pub all_written : (fs : Fields) (es : List (Option Datum)) → has_twice bytes_eq (field_names fs) ≡ false → AreWritten fs es (members fs es no_members)
all_written fs es h = are_written fs es no_members h (absent_there (field_names fs))

-- ---- no other member is there

known : (names : List (List ℕ)) (k : List ℕ) (d : Data) (ms : Members) → unknown_errors names (member k d ms) ≡ [] → (list_any (bytes_eq k) names ≡ true) × (unknown_errors names ms ≡ [])
known names k d ms h = test (list_any (bytes_eq k) names) refl h
  where
    test : (b : Bool) → list_any (bytes_eq k) names ≡ b → (if b then [] else here) ++ unknown_errors names ms ≡ [] → (list_any (bytes_eq k) names ≡ true) × (unknown_errors names ms ≡ [])
    test true e g = (e, g)
    test false e g = absurd (cc)

known_put_at : (o : Ordering) (names : List (List ℕ)) (k l : List ℕ) (d e : Data) (ms : Members) → list_any (bytes_eq k) names ≡ true → unknown_errors names (member l e ms) ≡ [] → unknown_errors names (put k d ms) ≡ []
    → unknown_errors names (match_ordering o (member k d (member l e ms)) (member l d ms) (member l e (put k d ms))) ≡ []
known_put_at Less names k l d e ms h g r = rw (h, (known names l e ms g).0, (known names l e ms g).1) refl
known_put_at Equal names k l d e ms h g r = rw ((known names l e ms g).0, (known names l e ms g).1) refl
known_put_at Greater names k l d e ms h g r = rw ((known names l e ms g).0, r) refl

known_put : (names : List (List ℕ)) (k : List ℕ) (d : Data) (ms : Members) → list_any (bytes_eq k) names ≡ true → unknown_errors names ms ≡ [] → unknown_errors names (put k d ms) ≡ []
known_put names k d no_members h g = rw h refl
known_put names k d (member l e ms) h g = known_put_at (slice_cmp nat_cmp k l) names k l d e ms h g (known_put names k d ms h (known names l e ms g).1)

known_with : (names : List (List ℕ)) (name : List ℕ) (f : Datum → Data) (e : Option Datum) (ms : Members) → list_any (bytes_eq name) names ≡ true → unknown_errors names ms ≡ [] → unknown_errors names (with_member name f e ms) ≡ []
known_with names name f None ms h g = g
known_with names name f (Some d) ms h g = known_put names name (f d) ms h g

pub all_known : (names : List (List ℕ)) (fs : Fields) (es : List (Option Datum)) (ms : Members) → AreAmong (field_names fs) names → unknown_errors names ms ≡ [] → unknown_errors names (members fs es ms) ≡ []
all_known names no_fields es ms h g = g
all_known names (field name d t fs) [] ms h g = g
all_known names (field name d t fs) (e ∷ es) ms h g = all_known names fs es (with_member name (λ v. json_of t v) e ms) h.1 (known_with names name (λ v. json_of t v) e ms h.0 g)

-- ---- the values are those that were written, where those of the components are

abbrev pub AreBack : Fields → Type 0
AreBack no_fields = Unit {0}
AreBack (field name d t fs) = ((v : Datum) → Fits t v → Shows t (json_of t v) v) × AreBack fs

pub back_append : (a b : Fields) → AreBack a → AreBack b → AreBack (append_fields a b)
back_append no_fields b p q = q
back_append (field name d t a) b p q = (p.0, back_append a b p.1 q)

one_back : (name : List ℕ) (d : Demand) (t : Shape) (e : Option Datum) → ((v : Datum) → Fits t v → Shows t (json_of t v) v) → FitsDemand (λ v. Fits t v) d e
    → (entry_errors name d (λ j. errors t j) (option_map (λ v. json_of t v) e) ≡ []) × (entry_of d (λ j. value_of t j) (option_map (λ v. json_of t v) e) ≡ e)
one_back name d t (Some v) back h =
    let s = back v h in
    (ap (below (to_member name)) s.no_errors, ap Some (sym s.is))
one_back name optional t None back h = (refl, refl)
one_back name must t None back h = absurd h
one_back name (default v) t None back h = absurd h

pub each_back : (fs : Fields) (es : List (Option Datum)) (ms : Members) → AreBack fs → FitsEach fs es → AreWritten fs es ms → (field_errors fs ms ≡ []) × (entries fs ms ≡ es)
each_back no_fields [] ms b h w = (refl, refl)
each_back no_fields (e ∷ es) ms b h w = absurd h
each_back (field name d t fs) [] ms b h w = absurd h
each_back (field name d t fs) (e ∷ es) ms b h w =
    let first = one_back name d t e b.0 h.0 in
    let rest = each_back fs es ms b.1 h.1 w.1 in
    (rw (w.0, first.0, rest.0) refl, rw (w.0, first.1, rest.1) refl)
