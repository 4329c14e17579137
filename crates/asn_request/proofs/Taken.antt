-- What clap takes as words of the command: the subcommand `flatten` or `module`, or an order with its two options.
use Rattle.std.proofs.Common.{◌≡◌, ◌∙◌, ◌⊎◌, ◌∷◌, ◌++◌, ◌&&◌, ◌||◌, ap, sym, subst, refl, inl, inr, true, false, not, true≢false, Bool, cond, codes, map, List, [], Option, Some, None, ℕ}
use Rattle.std.specs.Prelude.{drop, find, slice_get, option_and_then, option_map}
use Rattle.std.specs.Borrow.{Bor}
use Rattle.std.specs.List.{list_all, list_any}
use Rattle.std.specs.Option.{is_some, option_map_or}
use Rattle.std.specs.Str.{bytes_eq}
use Rattle.std.proofs.lemmas.Slice.Eq.{bytes_eq-Decides}
use Rattle.clap.specs.Kinds.{Kinds, check_kinds, value_kinds}
use Rattle.clap.specs.Simple.{App, Shape, built, built_leaf, entered, help_shape, inherited, is_ready_leaf, is_simple, is_simple_leaf, label_of, names_of, rows_at, subcommand_of}
use Rattle.clap.specs.Takes.{is_given}
use Rattle.clap.specs.Walk.{Row, Rule, Text, action_of, answers_to, nothing_held, rows_after, walk, walk_from}
use Rattle.clap.specs.Faults.{check_fault, entered_fault, fault_of, has_free_rules, is_free_app, is_simple_and_free, level_fault}
use Rattle.clap.specs.declared.builder.action.ArgAction.{ArgAction}
use Rattle.clap.specs.declared.builder.action.ArgAction.TheVariants.{Append, Count, Help, HelpLong, HelpShort, Set, SetFalse, SetTrue, Version}
use Rattle.clap.specs.declared.builder.value_parser.ValueParser.{ValueParser}
use Rattle.clap.specs.declared.builder.value_parser.ValueParser.TheVariants.{Names}
use Rattle.clap.specs.declared.builder.value_parser.Reading.{Reading}
use Rattle.clap.specs.declared.error.kind.ErrorKind.TheVariants as kind
use Rattle.clap.proofs.WalkLemmas.{list_any-map}
use Rattle.asn_request.specs.Command.{AreOrders, HasOptions, IsOneOf, IsTaken, IsTool, Parsers, TakeNames, TakesNames, flatten_app, look_names, module_shape, order_names, order_shape, orders, rule_names, tool}
use Rattle.asn_request.proofs.SetOptions.{Each, IsDefaulted, IsOption, check_passes, default_row, found, given_row, level_good, no_kind, none_first, none_next, set_row}
use Rattle.asn_request.proofs.NotHelp.{StopsElsewhere, walk_stops}

-- what a subcommand takes from the command above it, once that is built
abbrev above : Shape
above = record (tool None None None []).top { is_built = true }

abbrev built_order : Text × Bool → Parsers → Shape
built_order o p = built_leaf (inherited above (order_shape o p))

abbrev built_subs : List Shape → List Shape
built_subs shapes = map built_leaf (map (inherited above) shapes ++ help_shape ∷ [])

-- ---- the command is a simple one

-- of an order with the option for a budget, and of one without
each_order : (f : Shape → Bool) → ((name : Text) (p : Parsers) → f (built_order (name, true) p) ≡ true)
    → ((name : Text) (p : Parsers) → f (built_order (name, false) p) ≡ true) → (o : Text × Bool) (p : Parsers) → f (built_order o p) ≡ true
each_order f reads writes (name, true) p = reads name p
each_order f reads writes (name, false) p = writes name p

each_leaf : (f : Shape → Bool) → f (built_leaf help_shape) ≡ true → ((o : Text × Bool) (p : Parsers) → f (built_order o p) ≡ true)
    → (os : List (Text × Bool)) (shapes : List Shape) → AreOrders os shapes → list_all f (built_subs shapes) ≡ true
each_leaf f help order [] [] are = rw help refl
each_leaf f help order [] (s ∷ shapes) are = absurd are
each_leaf f help order (o ∷ os) [] are = absurd are
each_leaf f help order (o ∷ os) (s ∷ shapes) are =
    let here : f (built_leaf (inherited above s)) ≡ true = subst (λ x. f (built_leaf (inherited above x)) ≡ true) (sym are.0.2) (order o are.0.0) in
    rw here (each_leaf f help order os shapes are.1)

given_simple : (o : Text × Bool) (p : Parsers) → is_simple_leaf (order_shape o p) ≡ true
given_simple (name, true) p = refl
given_simple (name, false) p = refl

each_given : (os : List (Text × Bool)) (shapes : List Shape) → AreOrders os shapes → list_all is_simple_leaf shapes ≡ true
each_given [] [] are = refl
each_given [] (s ∷ shapes) are = absurd are
each_given (o ∷ os) [] are = absurd are
each_given (o ∷ os) (s ∷ shapes) are =
    let here : is_simple_leaf s ≡ true = subst (λ x. is_simple_leaf x ≡ true) (sym are.0.2) (given_simple o are.0.0) in
    rw here (each_given os shapes are.1)

pub tool_simple : (a : App) → IsTool a → is_simple a ≡ true
tool_simple a t = subst (λ x. is_simple x ≡ true) (sym t.8)
    (rw (each_given orders t.3 t.7, each_leaf is_ready_leaf refl (each_order is_ready_leaf (λ name p. refl) (λ name p. refl)) orders t.3 t.7) refl)

pub tool_free : (a : App) → IsTool a → is_simple_and_free a ≡ true
tool_free a t =
    let free : is_free_app (built a) ≡ true = subst (λ x. is_free_app (built x) ≡ true) (sym t.8)
    (rw (each_leaf has_free_rules refl (each_order has_free_rules (λ name p. refl) (λ name p. refl)) orders t.3 t.7) refl) in
    rw (tool_simple a t, free) refl

-- ---- the options of an order

-- a value of the option `type`, and of the option `rules` one that is a name of encoding rules
abbrev HasValue : Bor (List (Bor (List ℕ))) → Row → Type 0
HasValue names r = (r.id ≡ codes "type" → ((t : Text) × (slice_get r.values 0 ≡ Some t)))
    × (r.id ≡ codes "rules" → ((t : Text) × (slice_get r.values 0 ≡ Some t) × (value_kinds false (Names names) t ≡ [])))

-- the parser of the option `rules` takes these names
abbrev with_names : Parsers → Bor (List (Bor (List ℕ))) → Parsers
with_names p names = record p { rules = Some (Names names) }

abbrev leaf_rules : Bool → Parsers → Bor (List (Bor (List ℕ))) → List Rule
leaf_rules b p names = (built_order (codes "show", b) (with_names p names)).rules

-- ids that differ
apart : (a b : Text) → bytes_eq a b ≡ false → a ≡ b → ⊥
apart a b differ e = true≢false (sym ((bytes_eq-Decides a b).1 e) ∙ differ)

-- a row of another option has what is said of these two
other : (names : Bor (List (Bor (List ℕ)))) (r : Row) → bytes_eq r.id (codes "type") ≡ false → bytes_eq r.id (codes "rules") ≡ false → HasValue names r
other names r no_type no_rules = (
  (λ e. absurd (apart r.id (codes "type") no_type e)),
  (λ e. absurd (apart r.id (codes "rules") no_rules e)),
)

-- whether an option is set, with values or without, or asks for help
abbrev is_set_or_help : ArgAction → Bool
is_set_or_help Set = true
is_set_or_help SetTrue = true
is_set_or_help Help = true
is_set_or_help _ = false

-- whether an option is such a one, and another than `type` and `rules`
abbrev is_other : Rule → Bool
is_other a = is_set_or_help (action_of a) && (not (bytes_eq a.id (codes "type")) && not (bytes_eq a.id (codes "rules")))

both : (a b : Bool) → (a && b) ≡ true → (a ≡ true) × (b ≡ true)
both true true e = (refl, refl)
both true false e = absurd (true≢false (sym e))
both false b e = absurd (true≢false (sym e))

is_not : (b : Bool) → not b ≡ true → b ≡ false
is_not true e = absurd (true≢false (sym e))
is_not false e = refl

module _ (names : Bor (List (Bor (List ℕ)))) where
  other_row : (a : Rule) → is_other a ≡ true → (r : Row) → r.id ≡ a.id → HasValue names r
  other_row a is r same =
      let ids = both _ _ (both (is_set_or_help (action_of a)) _ is).1 in
      other names r (subst (λ i. bytes_eq i (codes "type") ≡ false) (sym same) (is_not _ ids.0))
      (subst (λ i. bytes_eq i (codes "rules") ≡ false) (sym same) (is_not _ ids.1))

  other_option : (a : Rule) → is_other a ≡ true → IsOption (HasValue names) a
  other_option a is = go (action_of a) refl (both (is_set_or_help (action_of a)) _ is).0
    where
      rows : (how : Reading) (values : List Text) → HasValue names (set_row a.id how values)
      rows how values = other_row a is (set_row a.id how values) refl

      go : (x : ArgAction) → action_of a ≡ x → is_set_or_help x ≡ true → IsOption (HasValue names) a
      go Set e s = inr (inr (inl e, rows))
      go SetTrue e s = inr (inr (inr e, rows))
      go Help e s = inl e
      go Append e s = absurd (true≢false (sym s))
      go SetFalse e s = absurd (true≢false (sym s))
      go Count e s = absurd (true≢false (sym s))
      go HelpShort e s = absurd (true≢false (sym s))
      go HelpLong e s = absurd (true≢false (sym s))
      go Version e s = absurd (true≢false (sym s))

  -- options of which each is another
  other_options : (rules : List Rule) → list_all is_other rules ≡ true → Each (IsOption (HasValue names)) rules
  other_options [] is = tt
  other_options (a ∷ rules) is = let parts = both (is_other a) _ is in (other_option a parts.0, other_options rules parts.1)

  other_defaults : (rules : List Rule) → list_all is_other rules ≡ true → Each (IsDefaulted (HasValue names)) rules
  other_defaults [] is = tt
  other_defaults (a ∷ rules) is =
      let parts = both (is_other a) _ is in
      (inr (λ how values. other_row a parts.0 (default_row a.id how values) refl), other_defaults rules parts.1)

-- the two that are required, and the others
leaf_options : (b : Bool) (p : Parsers) (names : Bor (List (Bor (List ℕ)))) → Each (IsOption (HasValue names)) (leaf_rules b p names)
leaf_options true p names = (
  inr (inl (refl, refl, λ how v vs ok. ((λ e. (v, refl)), (λ e. absurd (apart (codes "type") (codes "rules") refl e))))),
  (
    inr (inl (refl, refl, λ how v vs ok. ((λ e. absurd (apart (codes "rules") (codes "type") refl e)), (λ e. (v, refl, ok))))),
    other_options names (drop 2 (leaf_rules true p names)) refl,
  ),
)
leaf_options false p names = (
  inr (inl (refl, refl, λ how v vs ok. ((λ e. (v, refl)), (λ e. absurd (apart (codes "type") (codes "rules") refl e))))),
  (
    inr (inl (refl, refl, λ how v vs ok. ((λ e. absurd (apart (codes "rules") (codes "type") refl e)), (λ e. (v, refl, ok))))),
    other_options names (drop 2 (leaf_rules false p names)) refl,
  ),
)

leaf_defaults : (b : Bool) (p : Parsers) (names : Bor (List (Bor (List ℕ)))) → Each (IsDefaulted (HasValue names)) (leaf_rules b p names)
leaf_defaults true p names = (inl refl, (inl refl, other_defaults names (drop 2 (leaf_rules true p names)) refl))
leaf_defaults false p names = (inl refl, (inl refl, other_defaults names (drop 2 (leaf_rules false p names)) refl))

both_given : (b c : Bool) → (not b || (not c || false)) ≡ false → (b ≡ true) × (c ≡ true)
both_given true true e = (refl, refl)
both_given true false e = absurd (true≢false e)
both_given false c e = absurd (true≢false e)

last_kind : (b : Bool) → check_kinds false false b ≡ [] → b ≡ false
last_kind true e = absurd (no_kind _ _ e)
last_kind false e = refl

accepted : (b : Bool) (k : Kinds) → cond b [] (kind.InvalidValue ∷ []) ≡ [] → b ≡ true
accepted true k e = refl
accepted false k e = absurd (no_kind _ _ e)

one_of : (t : Text) (names : List Text) → list_any (λ n. bytes_eq n t) names ≡ true → IsOneOf t names
one_of t [] e = absurd (true≢false (sym e))
one_of t (x ∷ xs) e = go (one_of t xs) (bytes_eq x t) refl e
  where
    go : (list_any (λ n. bytes_eq n t) xs ≡ true → IsOneOf t xs) → (b : Bool) → bytes_eq x t ≡ b → (b || list_any (λ n. bytes_eq n t) xs) ≡ true → IsOneOf t (x ∷ xs)
    go others true is e = inl (sym ((bytes_eq-Decides x t).0 is))
    go others false is e = inr (others e)

is_rules : (names : Bor (List (Bor (List ℕ)))) (t : Text) → map (λ name. name.now) names.now ≡ rule_names → value_kinds false (Names names) t ≡ [] → IsOneOf t rule_names
is_rules names t are e =
    let any : list_any (λ name. bytes_eq name.now t) names.now ≡ true = accepted _ [] e in
    one_of t rule_names (ap (list_any (λ n. bytes_eq n t)) (sym are) ∙ (sym (list_any-map (λ n. bytes_eq n t) (λ name. name.now) names.now) ∙ any))

module _ (p : Parsers) (names : Bor (List (Bor (List ℕ)))) (are : map (λ name. name.now) names.now ≡ rule_names) where
  values_given : (found : Text × List Row) → IsOneOf found.0 order_names → Each (HasValue names) found.1
      → (is_given (codes "type") found.1 ≡ true) × (is_given (codes "rules") found.1 ≡ true) → HasOptions found
  values_given found named all given =
      let type = given_row (HasValue names) (codes "type") found.1 all given.0 in
      let rules = given_row (HasValue names) (codes "rules") found.1 all given.1 in
      let type_value = type.2.0 ((bytes_eq-Decides type.0.id (codes "type")).0 type.3) in
      let rules_value = rules.2.1 ((bytes_eq-Decides rules.0.id (codes "rules")).0 rules.3) in (
        named,
        (type_value.0, ap (option_and_then (λ r. slice_get r.values 0)) type.1 ∙ type_value.1),
        (
          rules_value.0,
          ap (option_and_then (λ r. slice_get r.values 0)) rules.1 ∙ rules_value.1,
          is_rules names rules_value.0 are rules_value.2,
        ),
      )

  has_options : (o : Text × Bool) → IsOneOf o.0 order_names → (words : List Text)
      → level_fault (built_order o (with_names p names)) [] nothing_held words false [] ≡ []
      → HasOptions (rows_at (built_order o (with_names p names)) words)
  has_options (name, true) named words e =
      let s = built_order (name, true) (with_names p names) in
      let rows = rows_after s.rules [] words in
      let all : Each (HasValue names) rows =
      level_good (HasValue names) (leaf_rules true p names) (leaf_options true p names) s [] refl refl (λ i. refl) words false [] (leaf_defaults true p names) e in
      values_given (rows_at s words) named all (both_given (is_given (codes "type") rows) (is_given (codes "rules") rows) (last_kind _ (check_passes s [] words false [] e)))
  has_options (name, false) named words e =
      let s = built_order (name, false) (with_names p names) in
      let rows = rows_after s.rules [] words in
      let all : Each (HasValue names) rows =
      level_good (HasValue names) (leaf_rules false p names) (leaf_options false p names) s [] refl refl (λ i. refl) words false [] (leaf_defaults false p names) e in
      values_given (rows_at s words) named all (both_given (is_given (codes "type") rows) (is_given (codes "rules") rows) (last_kind _ (check_passes s [] words false [] e)))

-- ---- the subcommands

abbrev IsBuilt : Shape → Type 0
IsBuilt s = (s.name ≡ codes "flatten") ⊎ ((s.name ≡ codes "module") ⊎ (IsOneOf s.name look_names ⊎ ((label_of s ≡ (codes "help", []))
    ⊎ ((o : Text × Bool) × IsOneOf o.0 order_names × ((p : Parsers) × TakeNames p × (s ≡ built_order o p))))))

each_sub : (os : List (Text × Bool)) (shapes : List Shape) → ((name : Text) → IsOneOf name (map (λ o. o.0) os) → IsOneOf name order_names) → AreOrders os shapes
    → Each IsBuilt (built_subs shapes)
each_sub [] [] known are = (inr (inr (inr (inl refl))), tt)
each_sub [] (s ∷ shapes) known are = absurd are
each_sub (o ∷ os) [] known are = absurd are
each_sub (o ∷ os) (s ∷ shapes) known are = (
  inr (inr (inr (inr (o, known o.0 (inl refl), (are.0.0, are.0.1, ap (λ x. built_leaf (inherited above x)) are.0.2))))),
  each_sub os shapes (λ n i. known n (inr i)) are.1,
)

module _ (report looks given : Option ValueParser) (shapes : List Shape) (are : AreOrders orders shapes) (words : List Text) (e : fault_of (tool report looks given shapes) words ≡ []) where
  abbrev whole : App
  whole = built (tool report looks given shapes)

  stops : StopsElsewhere (walk whole.top.rules (names_of whole) nothing_held words).stopped
  stops = walk_stops whole.top (names_of whole) refl (walk_from nothing_held) words (none_first _ _ e) tt

  no_subcommand : check_fault whole.top (rows_after whole.top.rules (names_of whole) words) false ≡ [] → ⊥
  no_subcommand e = no_kind _ _ e

  taken_sub : (s : Shape) (p : Text × List Text) → (StopsElsewhere (Some p)) → IsBuilt s → answers_to p.0 (label_of s) ≡ true → level_fault s [] nothing_held p.1 false [] ≡ []
      → IsTaken (Some (rows_at s p.1))
  taken_sub s p elsewhere (inl named) answers passed = inl named
  taken_sub s p elsewhere (inr (inl named)) answers passed = inr (inl named)
  taken_sub s p elsewhere (inr (inr (inl look))) answers passed = inr (inr (inl look))
  taken_sub s p elsewhere (inr (inr (inr (inl help)))) answers passed = absurd (true≢false (sym same ∙ elsewhere))
    where
      or_nothing : (b : Bool) → (b || false) ≡ true → b ≡ true
      or_nothing true e = refl
      or_nothing false e = e

      same : bytes_eq p.0 (codes "help") ≡ true
      same = let is : codes "help" ≡ p.0 = (bytes_eq-Decides (codes "help") p.0).0 (or_nothing _ (subst (λ l. answers_to p.0 l ≡ true) help answers)) in
          subst (λ t. bytes_eq t (codes "help") ≡ true) is refl
  taken_sub s p elsewhere (inr (inr (inr (inr order)))) answers passed =
      let parsers = order.2.0 in
      let names = order.2.1.0.0 in
      let is : s ≡ built_order order.0 (with_names parsers names) = order.2.2 ∙ ap (λ r. built_order order.0 (record parsers { rules = r })) order.2.1.0.1 in
      inr (inr (inr (subst (λ x. HasOptions (rows_at x p.1)) (sym is)
      (has_options parsers names order.2.1.0.2 order.0 order.1 p.1 (subst (λ x. level_fault x [] nothing_held p.1 false [] ≡ []) is passed)))))

  taken_tool : IsTaken (subcommand_of (tool report looks given shapes) words)
  taken_tool = go (walk whole.top.rules (names_of whole) nothing_held words).stopped stops e
    where
      met : (p : Text × List Text) → StopsElsewhere (Some p) → (o : Option Shape) → find (λ s. answers_to p.0 (label_of s)) whole.subs ≡ o
          → level_fault whole.top (names_of whole) nothing_held words (is_some (option_map (λ s. rows_at s p.1) o))
          (option_map_or (λ s. level_fault s [] nothing_held p.1 false []) o []) ≡ []
          → IsTaken (option_map (λ s. rows_at s p.1) o)
      met p elsewhere None is e = absurd (no_subcommand (check_passes whole.top (names_of whole) words false [] e))
      met p elsewhere (Some s) is e =
          let got = found IsBuilt (λ s. answers_to p.0 (label_of s)) whole.subs s (inl refl, (inr (inl refl), (inr (inr (inl (inl refl))), (inr (inr (inl (inr (inl refl)))), (inr (inr (inl (inr (inr (inl refl))))), each_sub orders shapes (λ n i. i) are))))) is in
          taken_sub s p elsewhere got.0 got.1 (none_first _ _ (none_next _ _ e))

      go : (stop : Option (Text × List Text)) → StopsElsewhere stop
          → level_fault whole.top (names_of whole) nothing_held words (is_some (entered whole stop)) (entered_fault whole stop) ≡ []
          → IsTaken (entered whole stop)
      go None elsewhere e = absurd (no_subcommand (check_passes whole.top (names_of whole) words false [] e))
      go (Some p) elsewhere e = met p elsewhere (find (λ s. answers_to p.0 (label_of s)) whole.subs) refl e

-- words of which clap tells no fault are a subcommand with its options
pub taken : (a : App) (words : List Text) → IsTool a → fault_of a words ≡ [] → IsTaken (subcommand_of a words)
taken a words t e = subst (λ x. IsTaken (subcommand_of x words)) (sym t.8) (taken_tool t.0 t.1 t.2 t.3 t.7 words (subst (λ x. fault_of x words ≡ []) t.8 e))
