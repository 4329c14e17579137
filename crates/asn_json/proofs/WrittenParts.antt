-- The JSON of a SEQUENCE, a SEQUENCE OF and a CHOICE from that of their parts, and that they are values of their types
-- where their parts are.
use Rattle.std.proofs.Common.{◌≡◌, ◌≢◌, ◌↔◌, ◌<◌, ◌≤◌, ◌-◌, ℕ, zero, suc, true, false, List, [], ◌∷◌, ◌++◌, append_assoc, map, length, take, drop, get_or, Option, Some, None, option_map, Vec, Global, nat_lt, string_bytes, refl, sym, ap, ◌∙◌, arith, rules}
use Rattle.std.specs.List.{AllByRecursion}
use Rattle.std.specs.Global.{Box}
use Rattle.std.proofs.Math.Seq.{drop-cons}
use Rattle.std.proofs.lemmas.Bool.{le-ltb, lt-ltb}
use Rattle.std.proofs.lemmas.List.{length-map, append-nil}
use Rattle.serde_json.specs.Data.{Data, null, array, object, Members, no_members, member}
use Rattle.serde_json.specs.View.{items_of}
use Rattle.asn_values.specs.declared.types.Alt.{Alt}
use Rattle.asn_values.specs.declared.types.Field.{Field}
use Rattle.asn_values.specs.declared.types.AsnType.{the_lemmas}
use Rattle.asn_values.specs.Datum.{Datum, Components, Elements, truth, nothing, number, item, bit_list, octet_list, characters, unicode, components, components_of, elements, elements_of, alternative, unknown_item, unknown_alternative}
use Rattle.asn_values.specs.Fits.{FitsLength}
use Rattle.asn_values.specs.Received.{FitsReceived, FitsBy, FitsEachBy, FitsAlternativeBy, FitsComponent}
use Rattle.asn_values.specs.Shape.{Shape, boolean, integer, enumerated, bit_string, octet_string, restricted, utf8_string, SizeRange, demands, sequence, sequence_of, choice, count, Fields, no_fields, field, closed, marked, MoreAlternatives, closed_choice, marked_choice}
use Rattle.asn_values.specs.Shape as shape
use Rattle.asn_values.specs.View.{shape_of, fields_of, part_of_field, alternatives_of, branch_of}
use Rattle.asn_values.proofs.Alternatives.{count-of, shape_of_branch}
use Rattle.asn_values.proofs.Entries.{length-demands}
use Rattle.asn_values.proofs.Received.{each_of_closed, fits_at, fits_nowhere, fits_list}
use Rattle.asn_values.proofs.Views.{component_list-components_of, element_list-elements_of}
use Rattle.asn_source.specs.Parts.{HasParts, first_entry, first_element}
use Rattle.asn_json.specs.Written.{Told, IsSimple, IsUnknownAlternative, json_of, json_alternative, json_unknown, members, with_member}

-- ---- what is told of a part, and of the whole

-- the whole is right where the part is, and its JSON is made of that of the part
pub told_of : {A B : Type 0} (P Q : Type 0) (a : A) (b : B) (f : A → B) (o : Option A) (r : Option B) → P ↔ Q → f a ≡ b → r ≡ option_map f o → Told P a o → Told Q b r
told_of P Q a b f None r (there, back) e er h = rw er (λ q. h (back q))
told_of P Q a b f (Some x) r (there, back) e er h = rw er (there h.0, ap f h.1 ∙ e)

-- the same where both are of one kind
pub told_by : {A : Type 0} (P Q : Type 0) (a b : A) (o : Option A) → P ↔ Q → a ≡ b → Told P a o → Told Q b o
told_by P Q a b None (there, back) e h = λ q. h (back q)
told_by P Q a b (Some x) (there, back) e h = (there h.0, h.1 ∙ e)

-- ---- a SEQUENCE

-- components and entries that are left, and the members so far: what is told of these is told of all
pub record Left (fs gs : List Field) (given es : List (Option Datum)) (start now : Members) : Type 0 where
  pub even : length gs ≡ length es
  pub fits : FitsEachBy true (fields_of (map part_of_field gs)) es ↔ FitsEachBy true (fields_of (map part_of_field fs)) given
  pub same : members (fields_of (map part_of_field gs)) es now ≡ members (fields_of (map part_of_field fs)) given start

-- at the beginning
pub left_start : (fs : List Field) (es : List (Option Datum)) (ms : Members) → length fs ≡ length es → Left fs fs es es ms ms
left_start fs es ms even = record { even = even; fits = (λ h. h, λ h. h); same = refl }

-- after one more
left_step : (fs gs : List Field) (f : Field) (given es : List (Option Datum)) (start now : Members) → Left fs (f ∷ gs) given es start now
    → FitsComponent true (part_of_field f) (first_entry es)
    → Left fs gs given (drop 1 es) start (with_member (part_of_field f).name (λ d. json_of (part_of_field f).shape d) (first_entry es) now)
left_step fs gs f given [] start now l h = absurd (omega (arith, l.even))
left_step fs gs f given (e ∷ es) start now l h = record {
  even = omega (arith, l.even);
  fits = (λ rest. l.fits.0 (h, rest), λ all. (l.fits.1 all).1);
  same = l.same;
}

pub left_next : (fs : List Field) (i : ℕ) (f : Field) (given es others : List (Option Datum)) (e : Option Datum) (start now more : Members) → i < length fs → f ≡ get_or fs i f
    → e ≡ first_entry es → others ≡ drop 1 es → FitsComponent true (part_of_field f) e
    → more ≡ with_member (part_of_field f).name (λ d. json_of (part_of_field f).shape d) e now
    → Left fs (drop i fs) given es start now → Left fs (drop (suc i) fs) given others start more
left_next fs i f given es others e start now more inside ef ee eo h em l =
    let cons : drop i fs ≡ f ∷ drop (suc i) fs = drop-cons fs i f inside ∙ ap (λ x. x ∷ drop (suc i) fs) (sym ef) in
    rw (eo, em, ee) (left_step fs (drop (suc i) fs) f given es start now (rw cons at l) (rw ee at h))

-- where one is not right, they are not
not_right : (fs gs : List Field) (f : Field) (given es : List (Option Datum)) (start now : Members) → Left fs (f ∷ gs) given es start now
    → FitsEachBy true (fields_of (map part_of_field fs)) given → FitsComponent true (part_of_field f) (first_entry es)
not_right fs gs f given [] start now l all = absurd (l.fits.1 all)
not_right fs gs f given (e ∷ es) start now l all = (l.fits.1 all).0

pub left_wrong : (fs : List Field) (i : ℕ) (f : Field) (given es : List (Option Datum)) (e : Option Datum) (start now : Members) → i < length fs → f ≡ get_or fs i f
    → e ≡ first_entry es → (FitsComponent true (part_of_field f) e → ⊥)
    → Left fs (drop i fs) given es start now → FitsEachBy true (fields_of (map part_of_field fs)) given → ⊥
left_wrong fs i f given es e start now inside ef ee never l all =
    let cons : drop i fs ≡ f ∷ drop (suc i) fs = drop-cons fs i f inside ∙ ap (λ x. x ∷ drop (suc i) fs) (sym ef) in
    never (rw ee (not_right fs (drop (suc i) fs) f given es start now (rw cons at l) all))

-- at the end
pub left_end : (fs gs : List Field) (given es : List (Option Datum)) (start now : Members) → gs ≡ [] → Left fs gs given es start now
    → FitsEachBy true (fields_of (map part_of_field fs)) given × (now ≡ members (fields_of (map part_of_field fs)) given start)
left_end fs [] given [] start now e l = (l.fits.0 tt, l.same)
left_end fs [] given (x ∷ es) start now e l = absurd (omega (arith, l.even))
left_end fs (g ∷ gs) given es start now e l = absurd (cc)

-- entries that are right are as many as the components
pub right_length : (fs : List Field) (es : List (Option Datum)) → FitsEachBy true (fields_of (map part_of_field fs)) es → length fs ≡ length es
right_length [] [] h = refl
right_length [] (e ∷ es) h = absurd h
right_length (f ∷ fs) [] h = absurd h
right_length (f ∷ fs) (e ∷ es) h = ap suc (right_length fs es h.1)

-- the members of the root are those of its entries
taken : (fs : Fields) (es : List (Option Datum)) (ms : Members) → members fs (take (length (demands fs)) es) ms ≡ members fs es ms
taken no_fields es ms = refl
taken (field name demand t fs) [] ms = refl
taken (field name demand t fs) (e ∷ es) ms = taken fs es _

-- without an extension mark
pub closed_told : (t : Shape) (d : Datum) (root : Fields) (es : List (Option Datum)) (o : Option Members) (r : Option Data) → t ≡ sequence root closed → d ≡ components (components_of es)
    → r ≡ option_map object o → Told (FitsEachBy true root es) (members root es no_members) o → Told (FitsReceived t d) (json_of t d) r
closed_told t d root es o r et ed er h =
    rw (et, ed, component_list-components_of)
    (told_of _ _ (members root es no_members) _ object o r (each_of_closed true root es) (ap object (sym (taken root es no_members))) er h)

-- with one: the root is not right
pub root_wrong : (t : Shape) (d : Datum) (fs : List Field) (more : Fields) (es first : List (Option Datum)) → t ≡ sequence (fields_of (map part_of_field fs)) (marked more)
    → d ≡ components (components_of es) → first ≡ take (length fs) es → (FitsEachBy true (fields_of (map part_of_field fs)) first → ⊥) → FitsReceived t d → ⊥
root_wrong t d fs more es first et ed ef never h =
    let many : length (demands (fields_of (map part_of_field fs))) ≡ length fs = length-demands (map part_of_field fs) ∙ length-map fs part_of_field in
    never (rw ef ((rw (et, ed, component_list-components_of, many) at h).0))

-- or what is told of the additions is told of the whole
pub marked_told : (t : Shape) (d : Datum) (fs : List Field) (more : Fields) (es first others : List (Option Datum)) (ms : Members) (o : Option Members) (r : Option Data)
    → t ≡ sequence (fields_of (map part_of_field fs)) (marked more) → d ≡ components (components_of es) → first ≡ take (length fs) es → others ≡ drop (length fs) es
    → r ≡ option_map object o → FitsEachBy true (fields_of (map part_of_field fs)) first → ms ≡ members (fields_of (map part_of_field fs)) first no_members
    → Told (FitsEachBy true more others) (members more others ms) o → Told (FitsReceived t d) (json_of t d) r
marked_told t d fs more es first others ms o r et ed ef eo er right em h =
    let many : length (demands (fields_of (map part_of_field fs))) ≡ length fs = length-demands (map part_of_field fs) ∙ length-map fs part_of_field in
    rw (et, ed, component_list-components_of, many, ← ef, ← eo, ← em)
    (told_of _ _ (members more others ms) _ object o r (λ f. (right, f), λ both. both.1) refl er h)

-- no SEQUENCE
pub no_sequence : (t : Shape) (d : Datum) (root : Fields) (more : shape.MoreFields) → t ≡ sequence root more → ((es : Components) → d ≢ components es) → FitsReceived t d → ⊥
no_sequence t (components es) root more e never h = never es refl
no_sequence t (truth b) root more e never h = rw e at h
no_sequence t nothing root more e never h = rw e at h
no_sequence t (number z) root more e never h = rw e at h
no_sequence t (item p) root more e never h = rw e at h
no_sequence t (bit_list bs) root more e never h = rw e at h
no_sequence t (octet_list os) root more e never h = rw e at h
no_sequence t (characters cs) root more e never h = rw e at h
no_sequence t (unicode os) root more e never h = rw e at h
no_sequence t (elements ds) root more e never h = rw e at h
no_sequence t (alternative n x) root more e never h = rw e at h
no_sequence t (unknown_item z) root more e never h = rw e at h
no_sequence t (unknown_alternative n) root more e never h = rw e at h

-- ---- a SEQUENCE OF

-- what is told of the elements is told of the list
pub list_told : (t e : Shape) (s : SizeRange) (d : Datum) (ds : List Datum) (o : Option (List Data)) (r : Option Data) → t ≡ sequence_of e s → d ≡ elements (elements_of ds)
    → FitsLength s (length ds) → r ≡ option_map (λ l. array (items_of l)) o
    → Told (AllByRecursion (λ x. FitsReceived e x) ds) (map (λ x. json_of e x) ds) o → Told (FitsReceived t d) (json_of t d) r
list_told t e s d ds o r et ed few er h =
    rw (et, ed, element_list-elements_of)
    (told_of _ _ (map (λ x. json_of e x) ds) _ (λ l. array (items_of l)) o r (λ f. (few, f), λ both. both.1) refl er h)

pub other_length : (t e : Shape) (s : SizeRange) (d : Datum) (ds : List Datum) → t ≡ sequence_of e s → d ≡ elements (elements_of ds) → (FitsLength s (length ds) → ⊥) → FitsReceived t d → ⊥
other_length t e s d ds et ed never h = never (rw (et, ed, element_list-elements_of) at h).0

pub elements_wrong : (t e : Shape) (s : SizeRange) (d : Datum) (ds : List Datum) → t ≡ sequence_of e s → d ≡ elements (elements_of ds) → (AllByRecursion (λ x. FitsReceived e x) ds → ⊥)
    → FitsReceived t d → ⊥
elements_wrong t e s d ds et ed never h = never (rw (et, ed, element_list-elements_of) at h).1

pub no_list : (t e : Shape) (s : SizeRange) (d : Datum) → t ≡ sequence_of e s → ((ds : Elements) → d ≢ elements ds) → FitsReceived t d → ⊥
no_list t e s (elements ds) et never h = never ds refl
no_list t e s (components es) et never h = rw et at h
no_list t e s (truth b) et never h = rw et at h
no_list t e s nothing et never h = rw et at h
no_list t e s (number z) et never h = rw et at h
no_list t e s (item p) et never h = rw et at h
no_list t e s (bit_list bs) et never h = rw et at h
no_list t e s (octet_list os) et never h = rw et at h
no_list t e s (characters cs) et never h = rw et at h
no_list t e s (unicode os) et never h = rw et at h
no_list t e s (alternative n x) et never h = rw et at h
no_list t e s (unknown_item z) et never h = rw et at h
no_list t e s (unknown_alternative n) et never h = rw et at h

-- elements that are left, and the JSON of those before them
pub record Listed (t : Shape) (all ds : List Datum) (js : List Data) : Type 0 where
  pub fits : AllByRecursion (λ x. FitsReceived t x) ds ↔ AllByRecursion (λ x. FitsReceived t x) all
  pub same : js ++ map (λ x. json_of t x) ds ≡ map (λ x. json_of t x) all

pub listed_start : (t : Shape) (ds : List Datum) (js : List Data) → js ≡ [] → Listed t ds ds js
listed_start t ds js e = record { fits = (λ h. h, λ h. h); same = rw e refl }

pub listed_next : (t : Shape) (all ds others : List Datum) (js more : List Data) (d : Datum) (j : Data) → Some d ≡ first_element ds → others ≡ drop 1 ds → FitsReceived t d → j ≡ json_of t d
    → more ≡ js ++ j ∷ [] → Listed t all ds js → Listed t all others more
listed_next t all [] others js more d j ed eo h ej em l = absurd (cc)
listed_next t all (x ∷ ds) others js more d j ed eo h ej em l =
    let here : d ≡ x = cc in
    let same : more ++ map (λ x. json_of t x) others ≡ map (λ x. json_of t x) all =
    rw (em, eo, ej, here) (append_assoc js (json_of t x ∷ []) (map (λ x. json_of t x) ds) ∙ l.same) in
    record { fits = rw eo (λ rest. l.fits.0 (rw (← here) h, rest), λ f. (l.fits.1 f).1); same = same }

pub listed_wrong : (t : Shape) (all ds : List Datum) (js : List Data) (d : Datum) → Some d ≡ first_element ds → (FitsReceived t d → ⊥) → Listed t all ds js
    → AllByRecursion (λ x. FitsReceived t x) all → ⊥
listed_wrong t all [] js d ed never l h = absurd (cc)
listed_wrong t all (x ∷ ds) js d ed never l h = let here : d ≡ x = cc in never (rw here (l.fits.1 h).0)

pub listed_end : (t : Shape) (all ds : List Datum) (js : List Data) → None ≡ first_element ds → Listed t all ds js
    → AllByRecursion (λ x. FitsReceived t x) all × (js ≡ map (λ x. json_of t x) all)
listed_end t all [] js e l = (l.fits.0 tt, sym (append-nil js) ∙ l.same)
listed_end t all (x ∷ ds) js e l = absurd (cc)

-- ---- a CHOICE

-- the alternative at an index: what is told of its value is told of it
pub alternative_told : (alts : List Alt) (i : ℕ) (x : Alt) (d : Datum) (o r : Option Data) → i < length alts → x ≡ get_or alts i x
    → r ≡ option_map (λ j. object (member (string_bytes x.name) j no_members)) o → Told (FitsReceived (shape_of x.ty) d) (json_of (shape_of x.ty) d) o
    → Told (FitsAlternativeBy true (alternatives_of (map branch_of alts)) i d) (json_alternative (alternatives_of (map branch_of alts)) i d) r
alternative_told alts i x d o r inside ex er h =
    let both = fits_at true alts i x d inside ex in
    told_of _ _ (json_of (shape_of x.ty) d) _ (λ j. object (member (string_bytes x.name) j no_members)) o r (both.1, both.0) (sym (alternative_here alts i x d inside ex)) er h
  where
    alternative_here : (alts : List Alt) (i : ℕ) (x : Alt) (d : Datum) → i < length alts → x ≡ get_or alts i x
        → json_alternative (alternatives_of (map branch_of alts)) i d ≡ object (member (string_bytes x.name) (json_of (shape_of x.ty) d) no_members)
    alternative_here [] i x d h e = absurd (omega arith)
    alternative_here (a ∷ alts) zero x d h e =
        let name : (branch_of x).name ≡ string_bytes x.name = search (rules, the_lemmas) in
        rw (← e, name, shape_of_branch x) refl
    alternative_here (a ∷ alts) (suc i) x d h e = alternative_here alts i x d (omega arith) e

-- of the root
pub root_told : (t : Shape) (d e : Datum) (alts : List Alt) (more : MoreAlternatives) (tag : ℕ) (o : Option Data) → t ≡ choice (alternatives_of (map branch_of alts)) more → d ≡ alternative tag e
    → tag < length alts → Told (FitsAlternativeBy true (alternatives_of (map branch_of alts)) tag e) (json_alternative (alternatives_of (map branch_of alts)) tag e) o
    → Told (FitsReceived t d) (json_of t d) o
root_told t d e alts more tag o et ed h told =
    let inside : nat_lt tag (count (alternatives_of (map branch_of alts))) ≡ true = rw (count-of alts) (lt-ltb tag (length alts) h) in
    rw (et, ed, inside) told

-- of the additions
pub added_told : (t : Shape) (d e : Datum) (alts more : List Alt) (tag n : ℕ) (o : Option Data)
    → t ≡ choice (alternatives_of (map branch_of alts)) (marked_choice (alternatives_of (map branch_of more))) → d ≡ alternative tag e → n ≡ tag - length alts → length alts ≤ tag
    → Told (FitsAlternativeBy true (alternatives_of (map branch_of more)) n e) (json_alternative (alternatives_of (map branch_of more)) n e) o → Told (FitsReceived t d) (json_of t d) o
added_told t d e alts more tag n o et ed en h told =
    let outside : nat_lt tag (count (alternatives_of (map branch_of alts))) ≡ false = rw (count-of alts) (le-ltb tag (length alts) h) in
    rw (et, ed, outside, count-of alts, ← en) told

-- of neither
pub no_alternative : (t : Shape) (d e : Datum) (alts : List Alt) (tag : ℕ) → t ≡ choice (alternatives_of (map branch_of alts)) closed_choice → d ≡ alternative tag e → length alts ≤ tag
    → FitsReceived t d → ⊥
no_alternative t d e alts tag et ed h =
    let outside : nat_lt tag (count (alternatives_of (map branch_of alts))) ≡ false = rw (count-of alts) (le-ltb tag (length alts) h) in
    rw (et, ed, outside) (λ f. f)

-- one that the type has not, where the type has an extension mark
pub unknown_told : (t : Shape) (d : Datum) (root more : shape.Alternatives) (o : Option Data) → t ≡ choice root (marked_choice more) → ((n : ℕ) (e : Datum) → d ≢ alternative n e)
    → Told (IsUnknownAlternative d) (json_unknown d) o → Told (FitsReceived t d) (json_of t d) o
unknown_told t d root more o et never h = rw et (by_kind d never h)
  where
    by_kind : (d : Datum) → ((n : ℕ) (e : Datum) → d ≢ alternative n e) → Told (IsUnknownAlternative d) (json_unknown d) o
        → Told (FitsReceived (choice root (marked_choice more)) d) (json_of (choice root (marked_choice more)) d) o
    by_kind (alternative n x) never h = absurd (never n x refl)
    by_kind (components es) never h = h
    by_kind (truth b) never h = h
    by_kind nothing never h = h
    by_kind (number z) never h = h
    by_kind (item p) never h = h
    by_kind (bit_list bs) never h = h
    by_kind (octet_list os) never h = h
    by_kind (characters cs) never h = h
    by_kind (unicode os) never h = h
    by_kind (elements ds) never h = h
    by_kind (unknown_item z) never h = h
    by_kind (unknown_alternative n) never h = h

-- none, where the type has no mark, or the value has parts
pub no_choice : (t : Shape) (d : Datum) (root : shape.Alternatives) → t ≡ choice root closed_choice → ((n : ℕ) (e : Datum) → d ≢ alternative n e) → FitsReceived t d → ⊥
no_choice t d root et never h = by_kind d never (rw et at h)
  where
    by_kind : (d : Datum) → ((n : ℕ) (e : Datum) → d ≢ alternative n e) → FitsReceived (choice root closed_choice) d → ⊥
    by_kind (alternative n x) never h = never n x refl
    by_kind (components es) never h = h
    by_kind (truth b) never h = h
    by_kind nothing never h = h
    by_kind (number z) never h = h
    by_kind (item p) never h = h
    by_kind (bit_list bs) never h = h
    by_kind (octet_list os) never h = h
    by_kind (characters cs) never h = h
    by_kind (unicode os) never h = h
    by_kind (elements ds) never h = h
    by_kind (unknown_item z) never h = h
    by_kind (unknown_alternative n) never h = h

pub parts_no_choice : (t : Shape) (d : Datum) (root : shape.Alternatives) (more : MoreAlternatives) → t ≡ choice root more → ((n : ℕ) (e : Datum) → d ≢ alternative n e) → HasParts d → FitsReceived t d → ⊥
parts_no_choice t (alternative n x) root more et never parts h = never n x refl
parts_no_choice t (components es) root more et never parts h = rw et at h
parts_no_choice t (elements ds) root more et never parts h = rw et at h
parts_no_choice t (truth b) root more et never parts h = parts
parts_no_choice t nothing root more et never parts h = parts
parts_no_choice t (number z) root more et never parts h = parts
parts_no_choice t (item p) root more et never parts h = parts
parts_no_choice t (bit_list bs) root more et never parts h = parts
parts_no_choice t (octet_list os) root more et never parts h = parts
parts_no_choice t (characters cs) root more et never parts h = parts
parts_no_choice t (unicode os) root more et never parts h = parts
parts_no_choice t (unknown_item z) root more et never parts h = parts
parts_no_choice t (unknown_alternative n) root more et never parts h = parts

-- ---- simple types

-- a value with parts is none of a simple type
pub parts_no_leaf : (t : Shape) (d : Datum) → IsSimple t → HasParts d → FitsReceived t d → ⊥
parts_no_leaf (sequence root more) d simple parts h = simple
parts_no_leaf (sequence_of t s) d simple parts h = simple
parts_no_leaf (choice root more) d simple parts h = simple
parts_no_leaf t (truth b) simple parts h = parts
parts_no_leaf t nothing simple parts h = parts
parts_no_leaf t (number z) simple parts h = parts
parts_no_leaf t (item p) simple parts h = parts
parts_no_leaf t (bit_list bs) simple parts h = parts
parts_no_leaf t (octet_list os) simple parts h = parts
parts_no_leaf t (characters cs) simple parts h = parts
parts_no_leaf t (unicode os) simple parts h = parts
parts_no_leaf t (unknown_item z) simple parts h = parts
parts_no_leaf t (unknown_alternative n) simple parts h = parts
parts_no_leaf boolean (components es) simple parts h = h
parts_no_leaf boolean (elements ds) simple parts h = h
parts_no_leaf boolean (alternative n x) simple parts h = h
parts_no_leaf shape.null (components es) simple parts h = h
parts_no_leaf shape.null (elements ds) simple parts h = h
parts_no_leaf shape.null (alternative n x) simple parts h = h
parts_no_leaf (integer b) (components es) simple parts h = h
parts_no_leaf (integer b) (elements ds) simple parts h = h
parts_no_leaf (integer b) (alternative n x) simple parts h = h
parts_no_leaf (enumerated root more) (components es) simple parts h = h
parts_no_leaf (enumerated root more) (elements ds) simple parts h = h
parts_no_leaf (enumerated root more) (alternative n x) simple parts h = h
parts_no_leaf (bit_string s) (components es) simple parts h = h
parts_no_leaf (bit_string s) (elements ds) simple parts h = h
parts_no_leaf (bit_string s) (alternative n x) simple parts h = h
parts_no_leaf (octet_string s) (components es) simple parts h = h
parts_no_leaf (octet_string s) (elements ds) simple parts h = h
parts_no_leaf (octet_string s) (alternative n x) simple parts h = h
parts_no_leaf (restricted k s) (components es) simple parts h = h
parts_no_leaf (restricted k s) (elements ds) simple parts h = h
parts_no_leaf (restricted k s) (alternative n x) simple parts h = h
parts_no_leaf utf8_string (components es) simple parts h = h
parts_no_leaf utf8_string (elements ds) simple parts h = h
parts_no_leaf utf8_string (alternative n x) simple parts h = h
