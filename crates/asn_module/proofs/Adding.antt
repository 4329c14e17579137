-- What the writers of types add to a text, part by part.
use Rattle.std.proofs.Common.{◌≡◌, ◌<◌, ◌+◌, ℕ, suc, Bool, true, false, not, List, [], ◌∷◌, ◌++◌, map, length, drop, get_or, Vec, Global, Option, Some, None, Result, refl, sym, ap, ◌∙◌, append_assoc, arith}
use Rattle.std.proofs.lemmas.Bool.Decides.{nat_tests}
use Rattle.std.proofs.lemmas.List.{append-nil}
use Rattle.std.proofs.lemmas.Result.{on_ok_weaker}
use Rattle.std.specs.Global.{Box}
use Rattle.std.specs.Prelude.{string_bytes, OnOk, ◌==◌}
use Rattle.asn_values.specs.declared.types.Alt.{Alt}
use Rattle.asn_values.specs.declared.types.AsnType.{AsnType, Seq, SeqOf, Choice}
use Rattle.asn_values.specs.declared.types.Size.{Size}
use Rattle.asn_values.specs.declared.types.Field.{Field}
use Rattle.asn_values.specs.declared.types.Item.{Item}
use Rattle.asn_values.specs.Shape.{enumerated, Fields, no_fields, field}
use Rattle.asn_values.specs.View.{Part, Branch, size_range_of, shape_of, demand_of, label_of, more_labels_of, fields_of, part_of_field, alternatives_of, branch_of}
use Rattle.asn_values.proofs.Components.{shape_of_part}
use Rattle.asn_values.proofs.Alternatives.{shape_of_branch}
use Rattle.asn_values.proofs.Views.{shape_of-Seq, shape_of-Choice, list_of_elements}
use Rattle.asn_notation.specs.declared.token.Word.TheVariants as words
use Rattle.asn_notation.specs.Token.{Token, identifier, word}
use Rattle.asn_notation.specs.Grammar.{written, need, separator, open_brace, close_brace, dots, list_sized, size_con, maybe}
use Rattle.asn_notation.specs.Printed.{token_text}
use Rattle.asn_notation.specs.Tree as t
use Rattle.asn_notation.specs.Tree.{Components}
use Rattle.asn_notation.specs.declared.notation.SizeNotation.{SizeNotation}
use Rattle.asn_module.specs.Printing.{Adds, after_spaces, type_printed, need_printed, components_printed, size_printed, components_tokens, alternatives_tokens, comma_if, dots_tokens, items_tokens, bracketed}
use Rattle.asn_module.proofs.Copies.{next, name_of_part, demand_of_part, name_of_branch}
use Rattle.asn_module.proofs.Spaces.{spaces_append}

pub adds_token : (x : Token) (a b : List ℕ) → b ≡ a ++ 32 ∷ token_text x → Adds (x ∷ []) a b
adds_token x a b e = e ∙ ap (λ (l : List ℕ). a ++ 32 ∷ l) (sym (append-nil (token_text x)))

pub adds_then : (xs ys : List Token) (a b c : List ℕ) → Adds xs a b → Adds ys b c → Adds (xs ++ ys) a c
adds_then xs ys a b c ex ey = ey ∙ rw ex (append_assoc a (after_spaces xs) (after_spaces ys) ∙ ap (λ (l : List ℕ). a ++ l) (sym (spaces_append xs ys)))

-- what is left to write, after the first of it
adds_first : (xs ys : List Token) (a b all : List ℕ) → Adds xs a b → a ++ after_spaces (xs ++ ys) ≡ all → b ++ after_spaces ys ≡ all
adds_first xs ys a b all e h = rw e (append_assoc a (after_spaces xs) (after_spaces ys) ∙ ap (λ (l : List ℕ). a ++ l) (sym (spaces_append xs ys)) ∙ h)

-- the last of it
pub ends : {T E : Type 0} (r : Result T E) (xs ys zs : List Token) (a b c : List ℕ) → zs ≡ xs ++ ys → Adds xs a b → OnOk r (Adds ys b c) → OnOk r (Adds zs a c)
ends r xs ys zs a b c e first last = on_ok_weaker r (λ h. rw e (adds_then xs ys a b c first h)) last

pub ends_token : {T E : Type 0} (r : Result T E) (xs zs : List Token) (x : Token) (a b c : List ℕ) → zs ≡ xs ++ x ∷ [] → Adds xs a b → OnOk r (c ≡ b ++ 32 ∷ token_text x) → OnOk r (Adds zs a c)
ends_token r xs zs x a b c e first last = on_ok_weaker r (λ h. rw e (adds_then xs (x ∷ []) a b c first (adds_token x b c h))) last

-- ---- a component, and an alternative

abbrev part_tokens : Part → List Token
part_tokens p = identifier p.name ∷ written (type_printed p.shape) ++ need (need_printed p.shape p.demand)

part_first : (b : Bool) (p : Part) (rest : List Part) → components_tokens b (fields_of (p ∷ rest)) ≡ (comma_if b ++ part_tokens p) ++ components_tokens true (fields_of rest)
unfolding written
part_first false p rest = refl
part_first true p rest = refl

pub field_written : (fields : List Field) (i : ℕ) (f : Field) (b : Bool) (o x y z w all : List ℕ) → i < length fields → f ≡ get_or fields i f
    → Adds (comma_if b) o x → y ≡ x ++ 32 ∷ string_bytes f.name → Adds (written (type_printed (shape_of f.ty))) y z → Adds (need (need_printed (shape_of f.ty) (demand_of f.need))) z w
    → o ++ after_spaces (components_tokens b (fields_of (map part_of_field (drop i fields)))) ≡ all
    → w ++ after_spaces (components_tokens true (fields_of (map part_of_field (drop (i + 1) fields)))) ≡ all
field_written fields i f b o x y z w all less is first name ty nd h =
    let p = part_of_field f in
    let rest = map part_of_field (drop (i + 1) fields) in
    let split = next fields i f less is in
    let named : Adds (identifier p.name ∷ []) x y = rw (name_of_part f) (adds_token (identifier (string_bytes f.name)) x y name) in
    let typed : Adds (written (type_printed p.shape)) y z = rw (shape_of_part f) ty in
    let needed : Adds (need (need_printed p.shape p.demand)) z w = rw (shape_of_part f, demand_of_part f) nd in
    let inner = adds_then (written (type_printed p.shape)) (need (need_printed p.shape p.demand)) y z w typed needed in
    let whole = adds_then (identifier p.name ∷ []) (written (type_printed p.shape) ++ need (need_printed p.shape p.demand)) x y w named inner in
    let all_of_it = adds_then (comma_if b) (part_tokens p) o x w first whole in
    adds_first (comma_if b ++ part_tokens p) (components_tokens true (fields_of rest)) o w all all_of_it (rw (← part_first b p rest) (rw split at h))

abbrev branch_tokens : Branch → List Token
branch_tokens b = identifier b.name ∷ written (type_printed b.shape)

branch_first : (b : Bool) (p : Branch) (rest : List Branch) → alternatives_tokens b (alternatives_of (p ∷ rest)) ≡ (comma_if b ++ branch_tokens p) ++ alternatives_tokens true (alternatives_of rest)
unfolding written
branch_first false p rest = refl
branch_first true p rest = refl

pub alternative_written : (alts : List Alt) (i : ℕ) (f : Alt) (b : Bool) (o x y z all : List ℕ) → i < length alts → f ≡ get_or alts i f
    → Adds (comma_if b) o x → y ≡ x ++ 32 ∷ string_bytes f.name → Adds (written (type_printed (shape_of f.ty))) y z
    → o ++ after_spaces (alternatives_tokens b (alternatives_of (map branch_of (drop i alts)))) ≡ all
    → z ++ after_spaces (alternatives_tokens true (alternatives_of (map branch_of (drop (i + 1) alts)))) ≡ all
alternative_written alts i f b o x y z all less is first name ty h =
    let p = branch_of f in
    let rest = map branch_of (drop (i + 1) alts) in
    let split = next alts i f less is in
    let named : Adds (identifier p.name ∷ []) x y = rw (name_of_branch f) (adds_token (identifier (string_bytes f.name)) x y name) in
    let typed : Adds (written (type_printed p.shape)) y z = rw (shape_of_branch f) ty in
    let whole = adds_then (identifier p.name ∷ []) (written (type_printed p.shape)) x y z named typed in
    let all_of_it = adds_then (comma_if b) (branch_tokens p) o x z first whole in
    adds_first (comma_if b ++ branch_tokens p) (alternatives_tokens true (alternatives_of rest)) o z all all_of_it (rw (← branch_first b p rest) (rw split at h))

-- ---- whole types

pub adds_none : (a : List ℕ) → Adds [] a a
adds_none a = sym (append-nil a)

adds_more : (xs ys zs : List Token) (a b c d : List ℕ) → Adds xs a b → Adds ys b c → Adds zs c d → Adds (xs ++ (ys ++ zs)) a d
adds_more xs ys zs a b c d ex ey ez = adds_then xs (ys ++ zs) a b d ex (adds_then ys zs b c d ey ez)

-- a word, and what stands in braces after it
braced : {T E : Type 0} (r : Result T E) (w : Token) (xs zs : List Token) (a b c d e : List ℕ) → zs ≡ w ∷ open_brace ∷ (xs ++ close_brace ∷ [])
    → b ≡ a ++ 32 ∷ token_text w → c ≡ b ++ 32 ∷ token_text open_brace → Adds xs c d → OnOk r (e ≡ d ++ 32 ∷ token_text close_brace) → OnOk r (Adds zs a e)
braced r w xs zs a b c d e whole first brace inner last =
    ends_token r (w ∷ open_brace ∷ xs) zs close_brace a d e whole
    (adds_then (w ∷ []) (open_brace ∷ xs) a b d (adds_token w a b first) (adds_then (open_brace ∷ []) xs b c d (adds_token open_brace b c brace) inner)) last

pub enumerated_written : {T E : Type 0} (r : Result T E) (root : List Item) (more : Option (Vec Item Global)) (a b c d e : List ℕ) → more ≡ None
    → b ≡ a ++ 32 ∷ token_text (word words.Enumerated) → c ≡ b ++ 32 ∷ token_text open_brace → Adds (items_tokens false (map label_of root)) c d
    → OnOk r (e ≡ d ++ 32 ∷ token_text close_brace) → OnOk r (Adds (written (type_printed (enumerated (map label_of root) (more_labels_of more)))) a e)
unfolding written
enumerated_written r root more a b c d e none first brace items last =
    braced r (word words.Enumerated) (items_tokens false (map label_of root) ++ []) (written (type_printed (enumerated (map label_of root) (more_labels_of more)))) a b c d e (rw none refl) first brace (rw (append-nil (items_tokens false (map label_of root))) items) last

pub marked_enumerated_written : {T E : Type 0} (r : Result T E) (root : List Item) (more : Option (Vec Item Global)) (added : Vec Item Global) (a b c d x y e : List ℕ) → more ≡ Some added
    → b ≡ a ++ 32 ∷ token_text (word words.Enumerated) → c ≡ b ++ 32 ∷ token_text open_brace → Adds (items_tokens false (map label_of root)) c d
    → Adds (dots_tokens true) d x → Adds (items_tokens true (map label_of added.items)) x y
    → OnOk r (e ≡ y ++ 32 ∷ token_text close_brace) → OnOk r (Adds (written (type_printed (enumerated (map label_of root) (more_labels_of more)))) a e)
unfolding written
marked_enumerated_written r root more added a b c d x y e some first brace items mark others last =
    braced r (word words.Enumerated) (items_tokens false (map label_of root) ++ (dots_tokens true ++ items_tokens true (map label_of added.items))) (written (type_printed (enumerated (map label_of root) (more_labels_of more)))) a b c y e (rw some refl) first brace
    (adds_more (items_tokens false (map label_of root)) (dots_tokens true) (items_tokens true (map label_of added.items)) c d x y items mark others) last

-- no comma, where nothing follows
nothing_follows : (fs : Fields) → (components_tokens false fs ++ separator (components_printed fs) t.closed) ++ [] ≡ components_tokens false fs
nothing_follows no_fields = append-nil (components_tokens false no_fields ++ []) ∙ append-nil (components_tokens false no_fields)
nothing_follows (field n d ty fs) = append-nil (components_tokens false (field n d ty fs) ++ []) ∙ append-nil (components_tokens false (field n d ty fs))

pub sequence_written : {T E : Type 0} (r : Result T E) (ty : AsnType) (root : Vec Field Global) (a b c d e : List ℕ) → ty ≡ Seq root None
    → b ≡ a ++ 32 ∷ token_text (word words.Sequence) → c ≡ b ++ 32 ∷ token_text open_brace → Adds (components_tokens false (fields_of (map part_of_field root.items))) c d
    → OnOk r (e ≡ d ++ 32 ∷ token_text close_brace) → OnOk r (Adds (written (type_printed (shape_of ty))) a e)
unfolding written
sequence_written r ty root a b c d e is first brace parts last =
    let fs = fields_of (map part_of_field root.items) in
    braced r (word words.Sequence) ((components_tokens false fs ++ separator (components_printed fs) t.closed) ++ []) (written (type_printed (shape_of ty))) a b c d e (rw (is, shape_of-Seq root None) refl) first brace (rw (nothing_follows fs) parts) last

-- a comma stands before the extension mark where a component does
before_mark : (fs : List Field) (b : Bool) (more : Components) → b ≡ (length fs == 0) → comma_if (not b) ≡ separator (components_printed (fields_of (map part_of_field fs))) (t.marked more)
before_mark [] b more e = rw e refl
before_mark (f ∷ fs) b more e = rw (e, not_zero (length fs)) refl
  where
    not_zero : (n : ℕ) → (suc n == 0) ≡ false
    not_zero n = grind (arith, nat_tests)

pub marked_sequence_written : {T E : Type 0} (r : Result T E) (ty : AsnType) (root added : Vec Field Global) (empty : Bool) (n : ℕ) (a b c d x y e : List ℕ) → ty ≡ Seq root (Some added) → empty ≡ (n == 0) → n ≡ length root.items
    → b ≡ a ++ 32 ∷ token_text (word words.Sequence) → c ≡ b ++ 32 ∷ token_text open_brace → Adds (components_tokens false (fields_of (map part_of_field root.items))) c d
    → Adds (dots_tokens (not empty)) d x → Adds (components_tokens true (fields_of (map part_of_field added.items))) x y
    → OnOk r (e ≡ y ++ 32 ∷ token_text close_brace) → OnOk r (Adds (written (type_printed (shape_of ty))) a e)
unfolding written
marked_sequence_written r ty root added empty n a b c d x y e is some many first brace parts mark others last =
    let fs = fields_of (map part_of_field root.items) in
    let ms = fields_of (map part_of_field added.items) in
    let comma_first = separator (components_printed fs) (t.marked (components_printed ms)) in
    let marked : Adds (comma_first ++ dots ∷ []) d x = rw (← before_mark root.items empty (components_printed ms) (rw many at some)) mark in
    let all_of_it = adds_more (components_tokens false fs) (comma_first ++ dots ∷ []) (components_tokens true ms) c d x y parts marked others in
    let same : components_tokens false fs ++ ((comma_first ++ dots ∷ []) ++ components_tokens true ms) ≡ (components_tokens false fs ++ comma_first) ++ (dots ∷ components_tokens true ms) =
    ap (λ (l : List Token). components_tokens false fs ++ l) (append_assoc comma_first (dots ∷ []) (components_tokens true ms)) ∙ sym (append_assoc (components_tokens false fs) comma_first (dots ∷ components_tokens true ms)) in
    braced r (word words.Sequence) ((components_tokens false fs ++ comma_first) ++ (dots ∷ components_tokens true ms)) (written (type_printed (shape_of ty))) a b c y e (rw (is, shape_of-Seq root (Some added)) refl) first brace (rw same at all_of_it) last

pub list_written : {T E : Type 0} (r : Result T E) (ty element : AsnType) (inner : Box AsnType) (size : Size) (a b c d e : List ℕ) → ty ≡ SeqOf inner size → element ≡ inner.value
    → b ≡ a ++ 32 ∷ token_text (word words.Sequence) → Adds (maybe size_con (size_printed (size_range_of size))) b c → d ≡ c ++ 32 ∷ token_text (word words.Of)
    → OnOk r (Adds (written (type_printed (shape_of element))) d e) → OnOk r (Adds (written (type_printed (shape_of ty))) a e)
unfolding written
list_written r ty element inner size a b c d e is boxed first sized of last =
    let o = size_printed (size_range_of size) in
    let opening = adds_then (word words.Sequence ∷ []) (maybe size_con o) a b c (adds_token (word words.Sequence) a b first) sized in
    ends r ((word words.Sequence ∷ maybe size_con o) ++ word words.Of ∷ []) (written (type_printed (shape_of element))) (written (type_printed (shape_of ty))) a d e
    (rw (list_of_elements ty element inner size is boxed) (by_size o (written (type_printed (shape_of element)))))
    (adds_then (word words.Sequence ∷ maybe size_con o) (word words.Of ∷ []) a c d opening (adds_token (word words.Of) c d of)) last
  where
    by_size : (o : Option SizeNotation) (xs : List Token) → word words.Sequence ∷ (list_sized (bracketed o) ++ word words.Of ∷ xs) ≡ ((word words.Sequence ∷ maybe size_con o) ++ word words.Of ∷ []) ++ xs
    by_size None xs = refl
    by_size (Some s) xs = sym (append_assoc (word words.Sequence ∷ size_con s) (word words.Of ∷ []) xs)

pub choice_written : {T E : Type 0} (r : Result T E) (ty : AsnType) (root : Vec Alt Global) (a b c d e : List ℕ) → ty ≡ Choice root None
    → b ≡ a ++ 32 ∷ token_text (word words.Choice) → c ≡ b ++ 32 ∷ token_text open_brace → Adds (alternatives_tokens false (alternatives_of (map branch_of root.items))) c d
    → OnOk r (e ≡ d ++ 32 ∷ token_text close_brace) → OnOk r (Adds (written (type_printed (shape_of ty))) a e)
unfolding written
choice_written r ty root a b c d e is first brace parts last =
    let xs = alternatives_tokens false (alternatives_of (map branch_of root.items)) in
    braced r (word words.Choice) (xs ++ []) (written (type_printed (shape_of ty))) a b c d e (rw (is, shape_of-Choice root None) refl) first brace (rw (append-nil xs) parts) last

pub marked_choice_written : {T E : Type 0} (r : Result T E) (ty : AsnType) (root added : Vec Alt Global) (a b c d x y e : List ℕ) → ty ≡ Choice root (Some added)
    → b ≡ a ++ 32 ∷ token_text (word words.Choice) → c ≡ b ++ 32 ∷ token_text open_brace → Adds (alternatives_tokens false (alternatives_of (map branch_of root.items))) c d
    → Adds (dots_tokens true) d x → Adds (alternatives_tokens true (alternatives_of (map branch_of added.items))) x y
    → OnOk r (e ≡ y ++ 32 ∷ token_text close_brace) → OnOk r (Adds (written (type_printed (shape_of ty))) a e)
unfolding written
marked_choice_written r ty root added a b c d x y e is first brace parts mark others last =
    let xs = alternatives_tokens false (alternatives_of (map branch_of root.items)) in
    let ys = alternatives_tokens true (alternatives_of (map branch_of added.items)) in
    braced r (word words.Choice) (xs ++ (dots_tokens true ++ ys)) (written (type_printed (shape_of ty))) a b c y e (rw (is, shape_of-Choice root (Some added)) refl) first brace (adds_more xs (dots_tokens true) ys c d x y parts mark others) last
