-- How many units the levels of a session take.
use Rattle.std.specs.Prelude.{◌≡◌, ◌≤◌, ◌+◌, ◌*◌, ℕ, Result, Ok, Err, List, ◌++◌, length, take, ⊤}
use Rattle.asn_values.specs.Measures.{levels}
use Rattle.asn_values.specs.Shape.{Shape}
use Rattle.asn_rules.specs.Answer.{Ruling}
use Rattle.asn_rules.specs.Sessions.{Past, waiting, stopped, over, all_so_far}
use Rattle.asn_rules.specs.declared.session.Step.{Step}
use Rattle.asn_rules.specs.declared.session.Step.TheVariants as step
use Rattle.asn_rules.specs.declared.session.FeedFault.{FeedFault}
use Rattle.asn_rules.specs.declared.session.FeedFault.TheVariants as feed

-- each of the units that are seen is taken, and at most once a level that the type has
pub record IsCountOf (t : Shape) (seen ticks : ℕ) : Type 0 where
  pub least : seen ≤ ticks
  pub most : ticks ≤ levels t * seen

-- of a session with this past: all units so far are seen, or those up to the refused one
abbrev pub Counted : Ruling → Shape → Past → ℕ → Type 0
Counted r t (waiting s) ticks = IsCountOf t (length (r.units s)) ticks
Counted r t (stopped s (feed.Refused at why)) ticks = IsCountOf t at ticks
Counted r t (stopped s feed.TooLong) ticks = IsCountOf t (length (r.units s)) ticks
Counted r t (stopped s fault) ticks = ⊤
Counted r t (over s) ticks = ⊤

-- after this answer: with a value the units of its encoding are seen, with a want of memory at most all units with the
-- piece; a session that answers what it answered before takes none
abbrev pub CountsOn : Ruling → Shape → Past → List ℕ → Result Step FeedFault → ℕ → ℕ → Type 0
CountsOn r t (waiting s) piece (Ok (step.Done value used)) old new =
    IsCountOf t (length (r.units (take (length s + used) (s ++ piece)))) new
CountsOn r t (waiting s) piece (Err feed.Memory) old new = new ≤ levels t * length (r.units (all_so_far s piece))
CountsOn r t (waiting s) piece answer old new = ⊤
CountsOn r t (stopped s fault) piece answer old new = new ≡ old
CountsOn r t (over s) piece answer old new = new ≡ old

-- whatever the type and the past of a session, it has ticked so often
abbrev pub Counts : {Q : Type 0} → Ruling → (Q → Shape → Past → Type 0) → Q → ℕ → Type 0
Counts r took q ticks = (t : Shape) (past : Past) → took q t past → Counted r t past ticks

-- and ticks so with the next piece
abbrev pub TicksOn : {Q : Type 0} → Ruling → (Q → Shape → Past → Type 0) → (Q → ℕ) → Q → Q → List ℕ → Result Step FeedFault
    → Type 0
TicksOn r took ticked old new piece answer =
    (t : Shape) (past : Past) → took old t past → CountsOn r t past piece answer (ticked old) (ticked new)
