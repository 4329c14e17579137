-- Where clap's walk stops at a subcommand and no step of it fails, that subcommand is not `help`.
use Rattle.std.proofs.Common.{◌≡◌, ◌∷◌, ◌&&◌, subst, refl, true, false, not, Bool, cond, codes, List, [], Option, Some, None, ℕ}
use Rattle.std.specs.Prelude.{fold, ⊤}
use Rattle.std.specs.Option.{is_some}
use Rattle.std.specs.Str.{bytes_eq}
use Rattle.clap.specs.Lexer.{long_of, short_of}
use Rattle.clap.specs.Kinds.{or_else}
use Rattle.clap.specs.Simple.{Shape}
use Rattle.clap.specs.Walk.{Held, Names, Outcome, Rule, Step, Text, Waiting, Walk, after_flag, after_step, arg_by_index, done, idle, long_or_other, next, option, plain, plain_word, positional, refused, short_or_plain, subcommand, subcommand_met, subcommand_or_other, to_positional, trailing, value, waits, walked, walked_from, word_met}
use Rattle.clap.specs.Faults.{other_fault, step_fault, turn_fault, walk_fault, word_fault}
use Rattle.clap.specs.declared.error.kind.ErrorKind.TheVariants as kind
use Rattle.asn_request.proofs.SetOptions.{no_kind, none_first, none_next}

abbrev is_help : Text → Bool
is_help name = bytes_eq name (codes "help")

abbrev IsOther : Step → Type 0
IsOther (next waiting) = ⊤
IsOther (trailing position) = ⊤
IsOther (subcommand name) = is_help name ≡ false
IsOther value = ⊤

-- the subcommand at which the walk stopped is another than `help`
abbrev pub StopsElsewhere : Option (Text × List Text) → Type 0
StopsElsewhere None = ⊤
StopsElsewhere (Some p) = is_help p.0 ≡ false

module _ (c : List Rule) where
  plain_step : (waiting : Waiting) (word : Text) (h : Held) → IsOther (plain_word c waiting word h).1
  plain_step (option id) word h = tt
  plain_step idle word h = tt
  plain_step positional word h = tt

  flag_step : (waiting : Waiting) (word : Text) (h : Held) (o : Outcome) → IsOther (after_flag c waiting word h o).1
  flag_step waiting word h done = tt
  flag_step waiting word h (waits id) = tt
  flag_step waiting word h plain = plain_step waiting word h
  flag_step waiting word h refused = plain_step waiting word h

  other_step : (waiting : Waiting) (word : Text) (h : Held) → IsOther (long_or_other c waiting word (long_of word) h).1
  other_step waiting word h = go (long_of word)
    where
      short : (o : Option Text) → IsOther (short_or_plain c waiting word o h).1
      short None = plain_step waiting word h
      short (Some flags) = flag_step waiting word _ _

      go : (o : Option (Text × Option Text)) → IsOther (long_or_other c waiting word o h).1
      go None = short (short_of word)
      go (Some p) = flag_step waiting word _ _

module _ (s : Shape) (names : Names) (offers : s.disable_help_subcommand ≡ false) where
  not_help : (name : Text) (word : Text) (h : Held) → other_fault s (Some name) word h ≡ [] → is_help name ≡ false
  not_help name word h e =
      go (is_help name) (subst (λ d. cond (is_help name && not d) (kind.DisplayHelp ∷ kind.InvalidSubcommand ∷ []) [] ≡ []) offers e)
    where
      go : (b : Bool) → cond (b && not false) (kind.DisplayHelp ∷ kind.InvalidSubcommand ∷ []) [] ≡ [] → b ≡ false
      go true e = absurd (no_kind _ _ e)
      go false e = refl

  word_step : (is_trailing : Bool) (waiting : Waiting) (position : ℕ) (word : Text) (h : Held) → word_fault s names is_trailing waiting word h ≡ []
      → IsOther (word_met s.rules names is_trailing waiting position word h).1
  word_step true waiting position word h e = tt
  word_step false waiting position word h e = go (subcommand_met names waiting word) e
    where
      here : (b : Bool) → IsOther (cond b (h, trailing position) (long_or_other s.rules waiting word (long_of word) h)).1
      here true = tt
      here false = other_step s.rules waiting word h

      go : (o : Option Text) → other_fault s o word h ≡ [] → IsOther (subcommand_or_other s.rules o waiting position word h).1
      go (Some name) e = not_help name word h e
      go None e = here (bytes_eq word (45 ∷ 45 ∷ []))

  step_stops : (w : Walk) (word : Text) (h : Held) (step : Step) → IsOther step → StopsElsewhere w.stopped → StopsElsewhere (after_step s.rules word w h step).stopped
  step_stops w word h (next waiting) is stops = stops
  step_stops w word h (trailing position) is stops = stops
  step_stops w word h (subcommand name) is stops = is
  step_stops w word h value is stops = go (arg_by_index s.rules w.position)
    where
      go : (o : Option Rule) → StopsElsewhere (to_positional s.rules o word w h).stopped
      go None = stops
      go (Some a) = tt

  turn_stops : (w : Walk) (word : Text) → turn_fault s names w word ≡ [] → StopsElsewhere w.stopped → StopsElsewhere (walked s.rules names w word).stopped
  unfolding walked
  turn_stops w word e stops = go w.stopped e stops
    where
      go : (o : Option (Text × List Text))
          → cond (is_some o) [] (or_else (word_fault s names w.is_trailing w.waiting word w.held)
          (step_fault s w.position (word_met s.rules names w.is_trailing w.waiting w.position word w.held).0 (word_met s.rules names w.is_trailing w.waiting w.position word w.held).1)) ≡ []
          → StopsElsewhere o → StopsElsewhere (walked_from s.rules names o w word).stopped
      go (Some p) e is = is
      go None e is = step_stops w word _ _ (word_step w.is_trailing w.waiting w.position word w.held (none_first _ _ e)) stops

  pub walk_stops : (w : Walk) (words : List Text) → walk_fault s names w words ≡ [] → StopsElsewhere w.stopped
      → StopsElsewhere (fold (walked s.rules names) w words).stopped
  unfolding walk_fault
  walk_stops w [] e stops = stops
  walk_stops w (word ∷ rest) e stops = walk_stops (walked s.rules names w word) rest (none_next _ _ e) (turn_stops w word (none_first _ _ e) stops)
