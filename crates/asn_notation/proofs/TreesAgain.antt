-- A type that is written is read again.
use Rattle.std.proofs.Common.{◌≡◌, ℕ, zero, suc, ◌<◌, false, List, [], ◌∷◌, ◌++◌, length, Option, Some, None, refl, sym, ap, ◌∙◌, append_assoc, arith}
use Rattle.std.specs.Prelude.{IfSome}
use Rattle.std.specs.List.{AllByRecursion}
use Rattle.asn_notation.specs.declared.token.Word.TheVariants as words
use Rattle.asn_notation.specs.declared.token.Sign.TheVariants as signs
use Rattle.asn_notation.specs.declared.notation.StringKind.TheVariants as string_kind
use Rattle.asn_notation.specs.declared.notation.ListSize.{ListSize}
use Rattle.asn_notation.specs.declared.notation.ListSize.TheVariants as list_size
use Rattle.asn_notation.specs.Token.{Token, identifier, word}
use Rattle.asn_notation.specs.Tree as t
use Rattle.asn_notation.specs.Tree.{Tree, Components, More, Alternatives, MoreAlternatives, Item, Need, Part, Branch, components_of, more_of, alternatives_of, more_alternatives_of}
use Rattle.asn_notation.specs.Reading.{Read, begins_sign, begins_word, after_sign, after_word, identifier_at, item_at, component_at, body_at, sequence_at, alternative_at, choice_at, enumerated_at, text_at, type_after_word, type_at}
use Rattle.asn_notation.specs.Grammar as g
use Rattle.asn_notation.specs.Fitting.{IsItem, IsNeed, IsTree, AreComponents, AreMore, HasAlternative, AreAlternatives, AreMoreAlternatives}
use Rattle.asn_notation.proofs.Sound.{part, following_parts, body_parts, branch, choice_branches}
use Rattle.asn_notation.proofs.Again.{IsAgain, EndsComponent, range_again, size_con_again, constraint_again, list_size_again, item_again, need_again, need_paren, all_others_again, marked_again, close_stops}

-- ---- components as a list

abbrev pub parts_of : Components → List Part
parts_of t.no_components = []
parts_of (t.component n ty nd cs) = (record { name = n; tree = ty; need = nd }) ∷ parts_of cs

abbrev pub more_parts : More → Option (List Part)
more_parts t.closed = None
more_parts (t.marked cs) = Some (parts_of cs)

same_parts : (cs : Components) → components_of (parts_of cs) ≡ cs
same_parts t.no_components = refl
same_parts (t.component n ty nd cs) = ap (λ (x : Components). t.component n ty nd x) (same_parts cs)

same_more : (m : More) → more_of (more_parts m) ≡ m
same_more t.closed = refl
same_more (t.marked cs) = ap t.marked (same_parts cs)

-- ---- alternatives as a list

abbrev pub branches_of : Alternatives → List Branch
branches_of t.no_alternatives = []
branches_of (t.alternative n ty xs) = (record { name = n; tree = ty }) ∷ branches_of xs

abbrev pub more_branches_of : MoreAlternatives → Option (List Branch)
more_branches_of t.closed_choice = None
more_branches_of (t.marked_choice xs) = Some (branches_of xs)

same_branches : (xs : Alternatives) → alternatives_of (branches_of xs) ≡ xs
same_branches t.no_alternatives = refl
same_branches (t.alternative n ty xs) = ap (λ (x : Alternatives). t.alternative n ty x) (same_branches xs)

same_more_branches : (m : MoreAlternatives) → more_alternatives_of (more_branches_of m) ≡ m
same_more_branches t.closed_choice = refl
same_more_branches (t.marked_choice xs) = ap t.marked_choice (same_branches xs)

some_branch : (xs : Alternatives) → HasAlternative xs → 0 < length (branches_of xs)
some_branch t.no_alternatives h = absurd h
some_branch (t.alternative n ty xs) h = omega arith

-- ---- one component

EndsItem-comma : (rest : List Token) → begins_sign signs.LeftParen (g.comma ∷ rest) ≡ false
unfolding begins_sign
EndsItem-comma rest = refl

EndsItem-close : (rest : List Token) → begins_sign signs.LeftParen (g.close_brace ∷ rest) ≡ false
unfolding begins_sign
EndsItem-close rest = refl

ends_comma : (rest : List Token) → EndsComponent (g.comma ∷ rest)
unfolding begins_sign begins_word
ends_comma rest = record { paren = refl; optional = refl; default = refl }

ends_close : (rest : List Token) → EndsComponent (g.close_brace ∷ rest)
unfolding begins_sign begins_word
ends_close rest = record { paren = refl; optional = refl; default = refl }

component_again : (one : Read Tree) (p : Part) → ((rest : List Token) → begins_sign signs.LeftParen rest ≡ false → one (g.written p.tree ++ rest) ≡ Some (p.tree, rest)) → IsNeed p.need
    → IsAgain (component_at one) part EndsComponent ends_comma ends_close p
unfolding component_at identifier_at begins_sign
component_again one p read fits = λ rest ends. (
  ap (λ (ts : List Token). component_at one (identifier p.name ∷ ts)) (append_assoc (g.written p.tree) (g.need p.need) rest)
      ∙ rw (read (g.need p.need ++ rest) (need_paren p.need rest ends), need_again p.need rest fits ends) refl,
  refl,
)

items_again : (xs : List Item) → AllByRecursion IsItem xs → AllByRecursion (IsAgain item_at g.item (λ rest. begins_sign signs.LeftParen rest ≡ false) EndsItem-comma EndsItem-close) xs
unfolding begins_sign
items_again [] all = tt
items_again (x ∷ xs) all = (λ rest stop. (item_again x rest all.0 stop, refl), items_again xs all.1)

more_items_again : (o : Option (List Item)) → IfSome o (AllByRecursion IsItem) → IfSome o (AllByRecursion (IsAgain item_at g.item (λ rest. begins_sign signs.LeftParen rest ≡ false) EndsItem-comma EndsItem-close))
more_items_again None all = tt
more_items_again (Some xs) all = items_again xs all

-- ---- a body

abbrev AreAgain : Read Tree → List Part → Type 0
AreAgain one ps = AllByRecursion (IsAgain (component_at one) part EndsComponent ends_comma ends_close) ps

body_again : (one : Read Tree) (root : Components) (more : More) (rest : List Token) → AreAgain one (parts_of root) → IfSome (more_parts more) (AreAgain one)
    → body_at one (((g.components root ++ g.separator root more ++ g.extension more) ++ g.close_brace ∷ []) ++ rest) ≡ Some (t.sequence root more, rest)
unfolding body_at begins_sign after_sign g.written
body_again one t.no_components t.closed rest all also = refl
body_again one t.no_components (t.marked cs) rest all also =
    let spelt : g.following_components cs ≡ g.each_after_comma part (parts_of cs) = ap g.following_components (sym (same_parts cs)) ∙ following_parts (parts_of cs) in
    let text : (g.following_components cs ++ g.close_brace ∷ []) ++ rest ≡ g.each_after_comma part (parts_of cs) ++ g.close_brace ∷ rest = append_assoc (g.following_components cs) (g.close_brace ∷ []) rest ∙ ap (λ (x : List Token). x ++ g.close_brace ∷ rest) spelt in
    let read = all_others_again (component_at one) part EndsComponent ends_comma ends_close (parts_of cs) [] (g.close_brace ∷ rest) also (close_stops (component_at one) part EndsComponent ends_comma ends_close rest) (ends_close rest) in
    ap (λ (x : List Token). body_at one (g.dots ∷ x)) text ∙ rw read (ap (λ (x : Components). Some (t.sequence t.no_components (t.marked x), rest)) (same_parts cs))
body_again one (t.component n ty nd cs) more rest all also =
    let root : Components = t.component n ty nd cs in
    let spelt : g.components root ++ g.separator root more ++ g.extension more ≡ g.with_commas part (parts_of root) ++ g.additions part (more_parts more) =
    ap (λ (x : Components). g.components x ++ g.separator x more ++ g.extension more) (sym (same_parts root))
    ∙ ap (λ (m : More). g.components (components_of (parts_of root)) ++ g.separator (components_of (parts_of root)) m ++ g.extension m) (sym (same_more more))
    ∙ body_parts (parts_of root) (more_parts more) (omega arith) in
    let read = marked_again (component_at one) part EndsComponent ends_comma ends_close (parts_of root) (more_parts more) rest (omega arith) all also in
    ap (body_at one) (append_assoc (g.components root ++ g.separator root more ++ g.extension more) (g.close_brace ∷ []) rest ∙ ap (λ (x : List Token). x ++ g.close_brace ∷ rest) spelt)
    ∙ rw read (ap (λ (x : Components). Some (t.sequence x (more_of (more_parts more)), rest)) (same_parts root) ∙ ap (λ (m : More). Some (t.sequence root m, rest)) (same_more more))

-- ---- a choice

abbrev AreBranchesAgain : Read Tree → List Branch → Type 0
AreBranchesAgain one bs = AllByRecursion (IsAgain (alternative_at one) branch (λ rest. begins_sign signs.LeftParen rest ≡ false) EndsItem-comma EndsItem-close) bs

alternative_again : (one : Read Tree) (b : Branch) → ((rest : List Token) → begins_sign signs.LeftParen rest ≡ false → one (g.written b.tree ++ rest) ≡ Some (b.tree, rest))
    → IsAgain (alternative_at one) branch (λ rest. begins_sign signs.LeftParen rest ≡ false) EndsItem-comma EndsItem-close b
unfolding alternative_at identifier_at begins_sign
alternative_again one b read = λ rest stop. (rw (read rest stop) refl, refl)

choice_again : (one : Read Tree) (root : Alternatives) (more : MoreAlternatives) (rest : List Token) → HasAlternative root → AreBranchesAgain one (branches_of root) → IfSome (more_branches_of more) (AreBranchesAgain one)
    → choice_at one (g.open_brace ∷ (((g.alternatives root ++ g.more_alternatives more) ++ g.close_brace ∷ []) ++ rest)) ≡ Some (t.choice root more, rest)
unfolding choice_at begins_sign after_sign
choice_again one root more rest some all also =
    let spelt : g.alternatives root ++ g.more_alternatives more ≡ g.with_commas branch (branches_of root) ++ g.additions branch (more_branches_of more) =
    ap (λ (x : Alternatives). g.alternatives x ++ g.more_alternatives more) (sym (same_branches root))
    ∙ ap (λ (m : MoreAlternatives). g.alternatives (alternatives_of (branches_of root)) ++ g.more_alternatives m) (sym (same_more_branches more))
    ∙ choice_branches (branches_of root) (more_branches_of more) in
    let read = marked_again (alternative_at one) branch (λ rest. begins_sign signs.LeftParen rest ≡ false) EndsItem-comma EndsItem-close (branches_of root) (more_branches_of more) rest (some_branch root some) all also in
    ap (λ (ts : List Token). choice_at one (g.open_brace ∷ ts)) (append_assoc (g.alternatives root ++ g.more_alternatives more) (g.close_brace ∷ []) rest ∙ ap (λ (x : List Token). x ++ g.close_brace ∷ rest) spelt)
    ∙ rw read (ap (λ (x : Alternatives). Some (t.choice x (more_alternatives_of (more_branches_of more)), rest)) (same_branches root) ∙ ap (λ (m : MoreAlternatives). Some (t.choice root m, rest)) (same_more_branches more))

-- ---- types

no_brace : (l : ListSize) (rest : List Token) → begins_sign signs.LeftBrace (g.list_sized l ++ word words.Of ∷ rest) ≡ false
unfolding begins_sign
no_brace list_size.Any rest = refl
no_brace (list_size.Bare s) rest = refl
no_brace (list_size.Bracketed s) rest = refl

no_levels : (tree : Tree) → IsTree tree zero → ⊥
unfolding IsTree
no_levels t.boolean h = h
no_levels t.null h = h
no_levels t.utf8 h = h
no_levels (t.integer r) h = h
no_levels (t.enumerated root more) h = h
no_levels (t.text kind s) h = h
no_levels (t.sequence root more) h = h
no_levels (t.sequence_of s element) h = h
no_levels (t.choice root more) h = h
no_levels (t.reference n c) h = h

mutual
  unfolding type_at type_after_word text_at sequence_at enumerated_at g.written IsTree begins_sign after_sign begins_word after_word

  pub tree_again : (tree : Tree) (levels : ℕ) (rest : List Token) → IsTree tree levels → begins_sign signs.LeftParen rest ≡ false → type_at levels (g.written tree ++ rest) ≡ Some (tree, rest)
  tree_again tree zero rest h stop = absurd (no_levels tree h)
  tree_again t.boolean (suc n) rest h stop = refl
  tree_again t.null (suc n) rest h stop = refl
  tree_again t.utf8 (suc n) rest h stop = refl
  tree_again (t.integer r) (suc n) rest h stop = rw (range_again r rest h stop) refl
  tree_again (t.enumerated root more) (suc n) rest h stop =
      ap (λ (ts : List Token). type_at (suc n) (word words.Enumerated ∷ g.open_brace ∷ ts)) (append_assoc (g.with_commas g.item root ++ g.additions g.item more) (g.close_brace ∷ []) rest)
      ∙ rw (marked_again item_at g.item (λ rest. begins_sign signs.LeftParen rest ≡ false) EndsItem-comma EndsItem-close root more rest h.0 (items_again root h.1) (more_items_again more h.2)) refl
  tree_again (t.text string_kind.Bits s) (suc n) rest h stop = rw (size_con_again s rest h stop) refl
  tree_again (t.text string_kind.Octets s) (suc n) rest h stop = rw (size_con_again s rest h stop) refl
  tree_again (t.text string_kind.Ia5 s) (suc n) rest h stop = rw (size_con_again s rest h stop) refl
  tree_again (t.text string_kind.Numeric s) (suc n) rest h stop = rw (size_con_again s rest h stop) refl
  tree_again (t.text string_kind.Visible s) (suc n) rest h stop = rw (size_con_again s rest h stop) refl
  tree_again (t.sequence root more) (suc n) rest h stop = body_again (type_at n) root more rest (parts_again root n h.0) (more_again more n h.1)
  tree_again (t.sequence_of s element) (suc n) rest h stop =
      ap (λ (ts : List Token). type_at (suc n) (word words.Sequence ∷ ts)) (append_assoc (g.list_sized s) (word words.Of ∷ g.written element) rest)
      ∙ rw (no_brace s (g.written element ++ rest), list_size_again s (g.written element ++ rest) h.0, tree_again element n rest h.1 stop) refl
  tree_again (t.choice root more) (suc n) rest h stop = choice_again (type_at n) root more rest h.0 (branches_again root n h.1) (more_branches_again more n h.2)
  tree_again (t.reference x c) (suc n) rest h stop = rw (constraint_again c rest h stop) refl

  parts_again : (cs : Components) (levels : ℕ) → AreComponents cs levels → AreAgain (type_at levels) (parts_of cs)
  parts_again t.no_components levels h = tt
  parts_again (t.component n ty nd cs) levels h = (component_again (type_at levels) (record { name = n; tree = ty; need = nd }) (λ rest stop. tree_again ty levels rest h.0 stop) h.1, parts_again cs levels h.2)

  more_again : (m : More) (levels : ℕ) → AreMore m levels → IfSome (more_parts m) (AreAgain (type_at levels))
  more_again t.closed levels h = tt
  more_again (t.marked cs) levels h = parts_again cs levels h

  branches_again : (xs : Alternatives) (levels : ℕ) → AreAlternatives xs levels → AreBranchesAgain (type_at levels) (branches_of xs)
  branches_again t.no_alternatives levels h = tt
  branches_again (t.alternative n ty xs) levels h = (alternative_again (type_at levels) (record { name = n; tree = ty }) (λ rest stop. tree_again ty levels rest h.0 stop), branches_again xs levels h.1)

  more_branches_again : (m : MoreAlternatives) (levels : ℕ) → AreMoreAlternatives m levels → IfSome (more_branches_of m) (AreBranchesAgain (type_at levels))
  more_branches_again t.closed_choice levels h = tt
  more_branches_again (t.marked_choice xs) levels h = branches_again xs levels h
