-- What clap's walk leaves of options that are set once: where no step of it fails, each row is one of a use that passed.
use Rattle.std.proofs.Common.{◌≡◌, ◌∙◌, ◌⊎◌, ◌++◌, ◌∷◌, ◌&&◌, ◌||◌, ap, sym, subst, refl, inl, inr, ℕ, zero, suc, true, false, not, true≢false, Bool, cond, List, [], Option, Some, None, length}
use Rattle.std.specs.Prelude.{find, fold, slice_get, encode_utf8, drop, ⊤}
use Rattle.std.specs.Option.{is_some, option_map_or}
use Rattle.std.specs.Str.{bytes_eq, chars}
use Rattle.std.proofs.lemmas.List.{append-nil}
use Rattle.clap.specs.Facts.{explicit_source, parser_of_value, unwrap_or_range}
use Rattle.clap.specs.Kinds.{Kinds, or_else, range_kinds, value_kinds}
use Rattle.clap.specs.Takes.{is_given}
use Rattle.clap.specs.Simple.{Shape}
use Rattle.clap.specs.Walk.{Held, Names, Outcome, Row, Rule, Step, Text, Waiting, Walk, action_of, after_flag, after_step, arg_by_id, arg_by_index, arg_by_long, arg_by_short, at_row, attached_value, bundle_met, bundle_step, default_rows, done, flag_met, has_row, idle, long_met, long_or_other, more_values, next, nothing_held, option, option_met, plain, plain_word, positional, reacted, reading_by, refused, rows_after, settled, settled_rows, short_met, short_or_plain, subcommand, subcommand_met, subcommand_or_other, takes_values, to_positional, trailing, used, used_as, used_by_id, value, values_or_missing, waits, walk, walk_from, walked, walked_from, with_default, with_values, without, word_met, option_word}
use Rattle.clap.specs.Lexer.{long_of, short_of}
use Rattle.clap.specs.Faults.{action_fault, bundle_step_fault, check_fault, defaults_fault, flag_word_fault, flags_fault, level_fault, long_fault, option_fault, other_fault, react_fault, set_fault, settle_fault, short_fault, step_fault, turn_fault, use_fault, walk_fault, word_fault}
use Rattle.clap.specs.declared.builder.action.ArgAction.TheVariants.{Set, SetTrue, Help}
use Rattle.clap.specs.declared.builder.range.ValueRange.{ValueRange}
use Rattle.clap.specs.declared.builder.value_parser.Reading.{Reading}
use Rattle.clap.specs.declared.error.kind.ErrorKind.TheVariants as kind
use Rattle.clap.specs.declared.parser.matches.ValueSource.TheVariants.{CommandLine, DefaultValue}

-- ---- lists of kinds

pub no_kind : {X : Type 0} (x : X) (xs : List X) → x ∷ xs ≡ [] → ⊥
no_kind x xs e = cc

pub none_first : (a b : Kinds) → or_else a b ≡ [] → a ≡ []
none_first [] b e = refl
none_first (k ∷ ks) b e = e

pub none_next : (a b : Kinds) → or_else a b ≡ [] → b ≡ []
none_next [] b e = e
none_next (k ∷ ks) b e = absurd (no_kind k ks e)

-- ---- lists of which each element has a property

abbrev pub Each : {X : Type 0} → (X → Type 0) → List X → Type 0
Each P [] = ⊤
Each P (x ∷ xs) = P x × Each P xs

each_push : {X : Type 0} (P : X → Type 0) (xs : List X) (x : X) → Each P xs → P x → Each P (xs ++ x ∷ [])
each_push P [] x all h = (h, tt)
each_push P (y ∷ ys) x all h = (all.0, each_push P ys x all.1 h)

pub found : {X : Type 0} (P : X → Type 0) (p : X → Bool) (xs : List X) (x : X) → Each P xs → find p xs ≡ Some x → P x × (p x ≡ true)
found P p [] x all is = cc
found P p (y ∷ ys) x all is = go (p y) refl is (λ e. found P p ys x all.1 e)
  where
    same : {X : Type 0} (a b : X) → Some a ≡ Some b → a ≡ b
    same a b e = ap (λ o. option_map_or (λ v. v) o a) e

    go : (b : Bool) → p y ≡ b → cond b (Some y) (find p ys) ≡ Some x → (find p ys ≡ Some x → P x × (p x ≡ true)) → P x × (p x ≡ true)
    go true t e rest = (subst P (same y x e) all.0, subst (λ z. p z ≡ true) (same y x e) t)
    go false t e rest = rest e

-- ---- one use

at_none : (id : Text) (change : Row → List Row) (missing rows : List Row) → has_row id rows ≡ false → at_row id change missing rows ≡ rows ++ missing
at_none id change missing [] e = refl
at_none id change missing (r ∷ rs) e = go (bytes_eq r.id id) e (λ d. at_none id change missing rs d)
  where
    go : (b : Bool) → (b || has_row id rs) ≡ false → (has_row id rs ≡ false → at_row id change missing rs ≡ rs ++ missing)
        → cond b (change r ++ rs) (r ∷ at_row id change missing rs) ≡ r ∷ (rs ++ missing)
    go true e rest = absurd (true≢false e)
    go false e rest = ap (λ l. r ∷ l) (rest e)

abbrev pub set_row : Text → Reading → List Text → Row
set_row id how values = record { id = id; values = values; count = None; source = Some CommandLine; reading = how }

set_rows : (id : Text) (how : Reading) (values : List Text) (rows : List Row) → has_row id rows ≡ false
    → with_values id how CommandLine values (without id rows) ≡ rows ++ set_row id how values ∷ []
set_rows id how values rows none =
    ap (λ l. with_values id how CommandLine values l) (at_none id (λ _. []) [] rows none ∙ append-nil rows) ∙ at_none id (more_values CommandLine values) (set_row id how values ∷ []) rows none

no_repeat : (b : Bool) → cond (b && not false) (kind.ArgumentConflict ∷ []) [] ≡ [] → b ≡ false
no_repeat true e = absurd (no_kind _ _ e)
no_repeat false e = refl

abbrev pub one_value : ValueRange
one_value = record { start_inclusive = 1; end_inclusive = 1 }

-- the option is set by one value, and a row with a value that its parser takes has the property; or it asks for help
abbrev pub IsSet : (Row → Type 0) → Rule → Type 0
IsSet Q a = (action_of a ≡ Set) × (a.range ≡ Some one_value)
    × ((how : Reading) (v : Text) (vs : List Text) → value_kinds a.ignore_case (parser_of_value a.parser) v ≡ [] → Q (set_row a.id how (v ∷ vs)))

-- the option is set, with one value, more or none, and each row of it has the property
abbrev pub IsOther : (Row → Type 0) → Rule → Type 0
IsOther Q a = ((action_of a ≡ Set) ⊎ (action_of a ≡ SetTrue)) × ((how : Reading) (values : List Text) → Q (set_row a.id how values))

abbrev pub IsOption : (Row → Type 0) → Rule → Type 0
IsOption Q a = (action_of a ≡ Help) ⊎ (IsSet Q a ⊎ IsOther Q a)

-- the row of an option that was not used
abbrev pub default_row : Text → Reading → List Text → Row
default_row id how values = record { id = id; values = values; count = None; source = Some DefaultValue; reading = how }

-- there is no such row, or it has the property
abbrev pub IsDefaulted : (Row → Type 0) → Rule → Type 0
IsDefaulted Q a = (a.defaults ≡ []) ⊎ ((how : Reading) (values : List Text) → Q (default_row a.id how values))

module _ (Q : Row → Type 0) where
  set_good : (a : Rule) (values : List Text) (rows : List Row) → IsSet Q a → range_kinds 1 1 (length values) ≡ []
      → set_fault false a (values_or_missing a values) rows ≡ [] → Each Q rows
      → Each Q (with_values a.id (reading_by a) CommandLine (values_or_missing a values) (without a.id rows))
  set_good a [] rows set ranged e all = absurd (no_kind _ _ ranged)
  set_good a (v ∷ vs) rows set ranged e all =
      subst (Each Q) (sym (set_rows a.id (reading_by a) (v ∷ vs) rows (no_repeat (has_row a.id rows) (none_first _ _ e))))
      (each_push Q rows _ all (set.2 (reading_by a) v vs (none_first _ _ (none_next _ _ e))))

  use_good : (a : Rule) (values : List Text) (rows : List Row) → IsOption Q a → use_fault false a values rows ≡ [] → Each Q rows → Each Q (used a values rows)
  use_good a values rows (inl help) e all =
      subst (λ x. Each Q (used_as x a.id (reading_by a) (values_or_missing a values) rows)) (sym help) all
  use_good a values rows (inr (inr other)) e all = go other.0 (none_next _ _ e)
    where
      set : set_fault false a (values_or_missing a values) rows ≡ []
          → Each Q (with_values a.id (reading_by a) CommandLine (values_or_missing a values) (without a.id rows))
      set e = subst (Each Q) (sym (set_rows a.id (reading_by a) (values_or_missing a values) rows (no_repeat (has_row a.id rows) (none_first _ _ e))))
          (each_push Q rows _ all (other.1 (reading_by a) (values_or_missing a values)))

      go : (action_of a ≡ Set) ⊎ (action_of a ≡ SetTrue) → action_fault (action_of a) false a (values_or_missing a values) rows ≡ []
          → Each Q (used_as (action_of a) a.id (reading_by a) (values_or_missing a values) rows)
      go (inl is) e = subst (λ x. Each Q (used_as x a.id (reading_by a) (values_or_missing a values) rows)) (sym is)
          (set (subst (λ x. action_fault x false a (values_or_missing a values) rows ≡ []) is e))
      go (inr is) e = subst (λ x. Each Q (used_as x a.id (reading_by a) (values_or_missing a values) rows)) (sym is)
          (set (subst (λ x. action_fault x false a (values_or_missing a values) rows ≡ []) is e))
  use_good a values rows (inr (inl set)) e all =
      let ranged : range_kinds 1 1 (length values) ≡ [] =
      subst (λ r. range_kinds (unwrap_or_range r).start_inclusive (unwrap_or_range r).end_inclusive (length values) ≡ []) set.1 (none_first _ _ e) in
      let passed : set_fault false a (values_or_missing a values) rows ≡ [] =
      subst (λ x. action_fault x false a (values_or_missing a values) rows ≡ []) set.0 (none_next _ _ e) in
      subst (λ x. Each Q (used_as x a.id (reading_by a) (values_or_missing a values) rows)) (sym set.0) (set_good a values rows set ranged passed all)

  module _ (c : List Rule) (options : Each (IsOption Q) c) where
    settle_good : (h : Held) → settle_fault c false h ≡ [] → Each Q h.rows → Each Q (settled c h).rows
    settle_good h e all = go h.pending e
      where
        by_id : (p : Text × List Text) (o : Option Rule) → arg_by_id c p.0 ≡ o → option_map_or (λ a. use_fault false a p.1 h.rows) o [] ≡ [] → Each Q (used_by_id o p.1 h.rows)
        by_id p None is e = all
        by_id p (Some a) is e = use_good a p.1 h.rows (found (IsOption Q) _ c a options is).0 e all

        go : (p : Option (Text × List Text)) → option_map_or (λ p. option_map_or (λ a. use_fault false a p.1 h.rows) (arg_by_id c p.0) []) p [] ≡ []
            → Each Q (settled_rows c p h.rows)
        go None e = all
        go (Some p) e = by_id p (arg_by_id c p.0) refl e

    react_good : (a : Rule) (values : List Text) (h : Held) → IsOption Q a → react_fault c false a values h ≡ [] → Each Q h.rows → Each Q (reacted c a values h).rows
    react_good a values h is e all = use_good a values (settled c h).rows is (none_next _ _ e) (settle_good h (none_first _ _ e) all)

    option_good : (a : Rule) (v : Option Text) (h : Held) → IsOption Q a → option_fault c false a v h ≡ [] → Each Q h.rows → Each Q (option_met c a v h).0.rows
    option_good a (Some v) h is e all = react_good a (v ∷ []) h is e all
    option_good a None h is e all = settle_good h e all

    long_good : (o : Option Rule) (v : Option Text) (h : Held) → ((a : Rule) → o ≡ Some a → IsOption Q a) → long_fault c false o v h ≡ [] → Each Q h.rows
        → Each Q (long_met c o v h).0.rows
    long_good None v h is e all = all
    long_good (Some a) v h is e all = go (takes_values a) v e
      where
        go : (b : Bool) (v : Option Text)
            → cond b (option_fault c false a v h) (cond (is_some v) (kind.TooManyValues ∷ []) (react_fault c false a [] h)) ≡ []
            → Each Q (cond b (option_met c a v h) (flag_met c a v h)).0.rows
        go true v e = option_good a v h (is a refl) e all
        go false (Some v) e = all
        go false None e = react_good a [] h (is a refl) e all

    short_good : (o : Option Rule) (rest : Text) (h : Held) (then : Held → Held × Outcome) (fault : Held → Kinds) → ((a : Rule) → o ≡ Some a → IsOption Q a)
        → ((g : Held) → fault g ≡ [] → Each Q g.rows → Each Q (then g).0.rows)
        → short_fault c false o rest h fault ≡ [] → Each Q h.rows → Each Q (short_met c o rest h then).0.rows
    short_good None rest h then fault is more e all = all
    short_good (Some a) rest h then fault is more e all = go (takes_values a) e
      where
        go : (b : Bool)
            → cond b (option_fault c false a (attached_value rest) h) (or_else (react_fault c false a [] h) (fault (reacted c a [] h))) ≡ []
            → Each Q (cond b (option_met c a (attached_value rest) h) (then (reacted c a [] h))).0.rows
        go true e = option_good a (attached_value rest) h (is a refl) e all
        go false e = more (reacted c a [] h) (none_next _ _ e) (react_good a [] h (is a refl) (none_first _ _ e) all)

    bundle_good : (k : ℕ) (flags : Text) (skip : ℕ) (so_far : Outcome) (h : Held) → flags_fault c false k flags skip h ≡ [] → Each Q h.rows
        → Each Q (bundle_met c k flags skip so_far h).0.rows
    unfolding flags_fault bundle_met
    bundle_good zero flags skip so_far h e all = all
    bundle_good (suc k) flags skip so_far h e all = go (slice_get (chars flags) 0) skip e (λ rest less o g d more. bundle_good k rest less o g d more)
      where
        go : (x : Option ℕ) (skip : ℕ) → bundle_step_fault c false x flags skip h (flags_fault c false k) ≡ []
            → ((rest : Text) (less : ℕ) (o : Outcome) (g : Held) → flags_fault c false k rest less g ≡ [] → Each Q g.rows → Each Q (bundle_met c k rest less o g).0.rows)
            → Each Q (bundle_step c x flags skip so_far h (bundle_met c k)).0.rows
        go None skip e rec = all
        go (Some x) zero e rec =
            let rest = drop (length (encode_utf8 x)) flags in
            short_good (arg_by_short c x) rest h (bundle_met c k rest 0 done) (flags_fault c false k rest 0)
            (λ a is. (found (IsOption Q) _ c a options is).0) (λ g d more. rec rest 0 done g d more) e all
        go (Some x) (suc skip) e rec = rec (drop (length (encode_utf8 x)) flags) skip so_far h e all

    -- ---- a word

    plain_rows : (waiting : Waiting) (word : Text) (h : Held) → (plain_word c waiting word h).0.rows ≡ h.rows
    plain_rows (option id) word h = go (arg_by_id c id)
      where
        go : (o : Option Rule) → (option_word o id word h).0.rows ≡ h.rows
        go None = refl
        go (Some a) = refl
    plain_rows idle word h = refl
    plain_rows positional word h = refl

    after_rows : (waiting : Waiting) (word : Text) (h : Held) (o : Outcome) → (after_flag c waiting word h o).0.rows ≡ h.rows
    after_rows waiting word h done = refl
    after_rows waiting word h (waits id) = refl
    after_rows waiting word h plain = plain_rows waiting word h
    after_rows waiting word h refused = plain_rows waiting word h

    flag_good : (waiting : Waiting) (word : Text) (h : Held) → flag_word_fault c false (long_of word) word h ≡ [] → Each Q h.rows
        → Each Q (long_or_other c waiting word (long_of word) h).0.rows
    flag_good waiting word h e all = go (long_of word) e
      where
        short : (o : Option Text) → option_map_or (λ flags. flags_fault c false (length flags) flags h.skip (record h { skip = 0 })) o [] ≡ []
            → Each Q (short_or_plain c waiting word o h).0.rows
        short None e = subst (Each Q) (sym (plain_rows waiting word h)) all
        short (Some flags) e =
            subst (Each Q) (sym (after_rows waiting word _ _)) (bundle_good (length flags) flags h.skip plain (record h { skip = 0 }) e all)

        go : (o : Option (Text × Option Text)) → flag_word_fault c false o word h ≡ [] → Each Q (long_or_other c waiting word o h).0.rows
        go (Some p) e = subst (Each Q) (sym (after_rows waiting word _ _))
            (long_good (arg_by_long c p.0) p.1 h (λ a is. (found (IsOption Q) _ c a options is).0) e all)
        go None e = short (short_of word) e

    module _ (s : Shape) (names : Names) (own : s.rules ≡ c) (once : s.args_override_self ≡ false) (no_index : (i : ℕ) → arg_by_index c i ≡ None) where
      word_good : (is_trailing : Bool) (waiting : Waiting) (position : ℕ) (word : Text) (h : Held) → word_fault s names is_trailing waiting word h ≡ [] → Each Q h.rows
          → Each Q (word_met c names is_trailing waiting position word h).0.rows
      word_good true waiting position word h e all = all
      word_good false waiting position word h e all = go (subcommand_met names waiting word) e
        where
          here : (b : Bool) → cond b [] (flag_word_fault s.rules s.args_override_self (long_of word) word h) ≡ []
              → Each Q (cond b (h, trailing position) (long_or_other c waiting word (long_of word) h)).0.rows
          here true e = all
          here false e = flag_good waiting word h (subst (λ r. flag_word_fault r false (long_of word) word h ≡ []) own
              (subst (λ b. flag_word_fault s.rules b (long_of word) word h ≡ []) once e)) all

          go : (o : Option Text) → other_fault s o word h ≡ [] → Each Q (subcommand_or_other c o waiting position word h).0.rows
          go (Some name) e = all
          go None e = here (bytes_eq word (45 ∷ 45 ∷ [])) e

      step_rows : (w : Walk) (word : Text) (h : Held) (step : Step) → (after_step c word w h step).held.rows ≡ h.rows
      step_rows w word h (next waiting) = refl
      step_rows w word h (trailing position) = refl
      step_rows w word h (subcommand name) = refl
      step_rows w word h value = ap (λ o. (to_positional c o word w h).held.rows) (no_index w.position)

      turn_good : (w : Walk) (word : Text) → turn_fault s names w word ≡ [] → Each Q w.held.rows → Each Q (walked c names w word).held.rows
      unfolding walked
      turn_good w word e all = go w.stopped e
        where
          go : (o : Option (Text × List Text))
              → cond (is_some o) [] (or_else (word_fault s names w.is_trailing w.waiting word w.held)
              (step_fault s w.position (word_met s.rules names w.is_trailing w.waiting w.position word w.held).0 (word_met s.rules names w.is_trailing w.waiting w.position word w.held).1)) ≡ []
              → Each Q (walked_from c names o w word).held.rows
          go (Some p) e = all
          go None e = subst (Each Q) (sym (step_rows w word _ _)) (word_good w.is_trailing w.waiting w.position word w.held (none_first _ _ e) all)

      walk_good : (w : Walk) (words : List Text) → walk_fault s names w words ≡ [] → Each Q w.held.rows → Each Q (fold (walked c names) w words).held.rows
      unfolding walk_fault
      walk_good w [] e all = all
      walk_good w (word ∷ rest) e all =
          walk_good (walked c names w word) rest (subst (λ r. walk_fault s names (walked r names w word) rest ≡ []) own (none_next _ _ e))
          (turn_good w word (none_first _ _ e) all)

      default_good : (a : Rule) (rows : List Row) → IsDefaulted Q a → Each Q rows → Each Q (with_default rows a)
      default_good a rows is all = go (has_row a.id rows) refl
        where
          given : (d : List Text) → ((how : Reading) (values : List Text) → Q (default_row a.id how values)) → has_row a.id rows ≡ false
              → Each Q (default_rows a.id (reading_by a) d rows)
          given [] q none = all
          given (v ∷ vs) q none = subst (Each Q) (sym (at_none a.id (more_values DefaultValue (v ∷ vs)) (default_row a.id (reading_by a) (v ∷ vs) ∷ []) rows none))
              (each_push Q rows _ all (q (reading_by a) (v ∷ vs)))

          absent : IsDefaulted Q a → has_row a.id rows ≡ false → Each Q (default_rows a.id (reading_by a) a.defaults rows)
          absent (inl nothing) none = subst (λ d. Each Q (default_rows a.id (reading_by a) d rows)) (sym nothing) all
          absent (inr q) none = given a.defaults q none

          go : (b : Bool) → has_row a.id rows ≡ b → Each Q (cond b rows (default_rows a.id (reading_by a) a.defaults rows))
          go true e = all
          go false e = absent is e

      defaults_good : (xs : List Rule) (rows : List Row) → Each (IsDefaulted Q) xs → Each Q rows → Each Q (fold with_default rows xs)
      defaults_good [] rows are all = all
      defaults_good (a ∷ xs) rows are all = defaults_good xs (with_default rows a) are.1 (default_good a rows are.0 all)

      -- the rows of a level whose steps all pass
      pub level_good : (words : List Text) (has : Bool) (below : Kinds) → Each (IsDefaulted Q) c → level_fault s names nothing_held words has below ≡ []
          → Each Q (rows_after c names words)
      level_good words has below are e =
          let end = (walk c names nothing_held words).held in
          let later : or_else (settle_fault s.rules s.args_override_self (walk s.rules names nothing_held words).held) _ ≡ [] = none_next below _ (none_next _ _ e) in
          let settles : settle_fault c false end ≡ [] = subst (λ b. settle_fault c b end ≡ []) once
          (subst (λ r. settle_fault r s.args_override_self (walk r names nothing_held words).held ≡ []) own (none_first _ _ later)) in
          let walks = walk_good (walk_from nothing_held) words (none_first _ _ e) tt in
          defaults_good c (settled c end).rows are (settle_good end settles walks)

-- the row of what is given
pub given_row : (Q : Row → Type 0) (id : Text) (rows : List Row) → Each Q rows → is_given id rows ≡ true
    → (r : Row) × (find (λ x. bytes_eq x.id id) rows ≡ Some r) × Q r × (bytes_eq r.id id ≡ true)
given_row Q id rows all given = go (find (λ x. bytes_eq x.id id) rows) refl given
  where
    go : (o : Option Row) → find (λ x. bytes_eq x.id id) rows ≡ o → option_map_or (λ r. explicit_source r.source) o false ≡ true
        → (r : Row) × (find (λ x. bytes_eq x.id id) rows ≡ Some r) × Q r × (bytes_eq r.id id ≡ true)
    go None is e = absurd (true≢false (sym e))
    go (Some r) is e = let got = found Q (λ x. bytes_eq x.id id) rows r all is in (r, is, got.0, got.1)

-- the last checks of a level that passes
pub check_passes : (s : Shape) (names : Names) (words : List Text) (has : Bool) (below : Kinds) → level_fault s names nothing_held words has below ≡ []
    → check_fault s (rows_after s.rules names words) has ≡ []
check_passes s names words has below e =
    let end = (walk s.rules names nothing_held words).held in
    none_next (defaults_fault (settled s.rules end).rows s.rules) (check_fault s (rows_after s.rules names words) has)
    (none_next (settle_fault s.rules s.args_override_self end) _ (none_next below _ (none_next (walk_fault s names (walk_from nothing_held) words) _ e)))
