-- What the counter of a session says.
use Rattle.std.specs.Prelude.{◌≡◌, ◌≤◌, ◌+◌, ◌*◌, ◌++◌, ℕ, Result, Ok, Err, List, length, take, ⊤}
use Rattle.asn_values.specs.Measures.{sealed_depth}
use Rattle.asn_values.specs.Shape.{Shape}
use Rattle.asn_rules.specs.Sessions.{Past, waiting, stopped, over}
use Rattle.asn_rules.specs.declared.session.Step.{Step}
use Rattle.asn_rules.specs.declared.session.Step.TheVariants as step
use Rattle.asn_rules.specs.declared.session.FeedFault.{FeedFault}
use Rattle.asn_rules.specs.declared.session.FeedFault.TheVariants as feed
use Rattle.asn_walk.specs.Ahead.{Ahead}
use Rattle.asn_walk.specs.Coding.{Coding}
use Rattle.asn_walk_feed.specs.Levels.{OpenUnits}
use Rattle.asn_walk_feed.specs.OpenFields.{FieldCoding}
use Rattle.asn_walk_feed.specs.declared.frame.Frame.{Frame}
use Rattle.asn_walk_feed.specs.declared.units.Ticks.{Ticks}

-- this many units were seen: the first level took each once, and the others each at most so often as levels lie inside
-- one another
pub record Seen (t : Shape) (seen : ℕ) (q : Ticks) : Type 0 where
  pub taken : q.taken ≡ seen
  pub inside : q.inside ≤ sealed_depth t * seen

-- at most this many
pub record SeenAtMost (t : Shape) (seen : ℕ) (q : Ticks) : Type 0 where
  pub taken : q.taken ≤ seen
  pub inside : q.inside ≤ sealed_depth t * seen

-- this many units have come, and these nodes have begun: of the open type field that is open, the units did not pay yet
pub record Going {F : Type 0} (c : Coding) (fc : FieldCoding) (ahead : F → Ahead) (between : F → Type 0)
    (fs : List (Frame F)) (t : Shape) (units : ℕ) (q : Ticks) : Type 0 where
  pub taken : q.taken ≡ units
  pub field : ℕ
  pub is_open : OpenUnits c fc ahead between fs field
  pub inside : q.inside + sealed_depth t * field ≤ sealed_depth t * units

-- after what is answered to further octets, after the octets s; these nodes have begun then
abbrev pub CountsAfter : {F : Type 0} → Coding → FieldCoding → (F → Ahead) → (F → Type 0) → List (Frame F) → Shape
    → List ℕ → List ℕ → Result Step FeedFault → Ticks → Type 0
CountsAfter c fc ahead between fs t s piece (Ok (step.Done value used)) q =
    Seen t (length (c.ruling.units (take (length s + used) (s ++ piece)))) q
CountsAfter c fc ahead between fs t s piece (Ok step.More) q =
    Going c fc ahead between fs t (length (c.ruling.units (s ++ piece))) q
CountsAfter c fc ahead between fs t s piece (Err (feed.Refused at why)) q = Seen t at q
CountsAfter c fc ahead between fs t s piece (Err feed.Memory) q = SeenAtMost t (length (c.ruling.units (s ++ piece))) q
CountsAfter c fc ahead between fs t s piece (Err fault) q = ⊤

-- of a session with this past, which has these nodes
abbrev pub CountsKept : {F : Type 0} → Coding → FieldCoding → (F → Ahead) → (F → Type 0) → List (Frame F) → Shape → Past
    → Ticks → Type 0
CountsKept c fc ahead between fs t (waiting s) q = Going c fc ahead between fs t (length (c.ruling.units s)) q
CountsKept c fc ahead between fs t (stopped s (feed.Refused at why)) q = Seen t at q
CountsKept c fc ahead between fs t (stopped s feed.TooLong) q = Seen t (length (c.ruling.units s)) q
CountsKept c fc ahead between fs t (stopped s fault) q = ⊤
CountsKept c fc ahead between fs t (over s) q = ⊤
