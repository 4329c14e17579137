-- What a walk along a plan still has to judge, and which values meet it.
use Rattle.std.specs.Prelude.{◌≡◌, ℕ, true, List, [], ◌∷◌, ◌++◌, length, map, Option, Some, None, ⊤}
use Rattle.std.specs.Borrow.{Bor}
use Rattle.asn_values.specs.Datum.{Datum, components, components_of, elements, elements_of, alternative}
use Rattle.asn_constraints.specs.declared.constraint.Component.{Component}
use Rattle.asn_constraints.specs.declared.constraint.Constraint.{Constraint}
use Rattle.asn_constraints.specs.declared.constraint.Lengths.{Lengths}
use Rattle.asn_constraints.specs.Constraints.{meets, meet_each, one_present, is_length}
use Rattle.asn_constraints.specs.View.{constraint_of, on_one, components_seen, lengths_of}
use Rattle.asn_constrained.specs.declared.along.entries.Entries.{Entries}
use Rattle.asn_constrained.specs.declared.along.elements.Elements.{Elements}

-- the value meets the constraint that is due, if one is
abbrev pub MeetsDue : Option (Bor Constraint) → Datum → Type 0
MeetsDue None d = ⊤
MeetsDue (Some c) d = meets (constraint_of c.now) d ≡ true

-- ---- SEQUENCE

-- the value of the next component meets what is asked of it
abbrev pub MeetsFirst : List Component → Datum → Type 0
MeetsFirst [] d = ⊤
MeetsFirst (c ∷ cs) d = meets (on_one c).constraint d ≡ true

-- the entries from the next one on meet what is asked of them
pub record MeetAsked (e : Entries) (es : List (Option Datum)) : Type 0 where
  pub rest : meet_each (components_seen e.rest.now) es ≡ true
  pub some : e.some_due ≡ true → one_present es ≡ true

-- The entries are the first ones of a SEQUENCE that has to meet what is due in s: it does where those after them meet what
-- is asked of them. What is due in m is what the next one has to meet.
pub record AreListed (s m : Option (Bor Constraint)) (e : Entries) (es : List (Option Datum)) : Type 0 where
  pub whole : (gs : List (Option Datum)) → MeetAsked e gs → MeetsDue s (components (components_of (es ++ gs)))
  pub next : (d : Datum) → MeetsDue m d → MeetsFirst e.rest.now d

-- ---- SEQUENCE OF

-- each of the values meets what is due
abbrev pub AllMeetDue : Option (Bor Constraint) → List Datum → Type 0
AllMeetDue c [] = ⊤
AllMeetDue c (d ∷ ds) = MeetsDue c d × AllMeetDue c ds

-- there may be this many elements
abbrev pub MayHaveLength : Option (Bor (List Lengths)) → ℕ → Type 0
MayHaveLength None n = ⊤
MayHaveLength (Some ls) n = is_length (map lengths_of ls.now) n ≡ true

-- the elements meet what is asked of them
pub record MeetAskedOfEach (e : Elements) (ds : List Datum) : Type 0 where
  pub each : AllMeetDue e.each ds
  pub lengths : MayHaveLength e.lengths (length ds)

-- The elements are the first ones of a SEQUENCE OF that has to meet what is due in s: it does where its elements meet what
-- is asked of them, as these do. What is due in m is what the next one has to meet.
pub record AreRowed (s m : Option (Bor Constraint)) (e : Elements) (ds : List Datum) : Type 0 where
  pub whole : (es : List Datum) → MeetAskedOfEach e es → MeetsDue s (elements (elements_of es))
  pub each : AllMeetDue e.each ds
  pub count : e.count ≡ length ds
  pub next : (d : Datum) → MeetsDue m d → MeetsDue e.each d

-- ---- CHOICE

-- a CHOICE meets what is due in s where the value of its alternative at this place meets what is due in m
abbrev pub IsChosen : Option (Bor Constraint) → Option (Bor Constraint) → ℕ → Type 0
IsChosen s m place = (d : Datum) → MeetsDue m d → MeetsDue s (alternative place d)
