-- What is known of a session that goes on where the last piece ended.
use Rattle.std.specs.Prelude.{◌≡◌, ◌<◌, [], length}
use Rattle.asn_values.specs.Profile.{InProfile}
use Rattle.asn_values.specs.Shape.{Shape}
use Rattle.asn_values.specs.View.{shape_of}
use Rattle.asn_rules.specs.Answer.{max_octets}
use Rattle.asn_rules.specs.Sessions.{Past, waiting, stopped, over, Finished}
use Rattle.asn_walk.specs.Ahead.{Ahead}
use Rattle.asn_walk.specs.Coding.{Coding}
use Rattle.asn_walk_feed.specs.Nodes.{nodes}
use Rattle.asn_walk_feed.specs.OpenFields.{FieldCoding}
use Rattle.asn_resuming.specs.Counting.{CountsKept}
use Rattle.asn_resuming.specs.Reached.{Reached}
use Rattle.asn_resuming.specs.declared.session.Resuming.{Resuming}
use Rattle.asn_resuming.specs.declared.session.State.TheVariants as state

-- how it goes on; while it waits, all octets brought it to its nodes, and after that it has none
abbrev pub GoesOnAs : {F : Type 0} → Coding → FieldCoding → (F → Ahead) → (F → Type 0) → Resuming F → Shape → Past
    → Type 0
GoesOnAs c fc ahead between q t (waiting s) = (q.state ≡ state.Waiting) × (length s < max_octets)
    × Reached c fc ahead between (nodes q.frames) t q.units q.octets s
GoesOnAs c fc ahead between q t (stopped s fault) = (q.state ≡ state.Stopped fault) × (nodes q.frames ≡ [])
GoesOnAs c fc ahead between q t (over s) = (q.state ≡ state.Over) × (nodes q.frames ≡ [])

-- the session is of the type and has this past, it has ready what is told at the end, and has counted
pub record Resumes {F : Type 0} (c : Coding) (fc : FieldCoding) (ahead : F → Ahead) (between : F → Type 0)
    (q : Resuming F) (t : Shape) (past : Past) : Type 0 where
  pub of_type : shape_of q.ty ≡ t
  pub of_profile : InProfile t
  pub goes_on : GoesOnAs c fc ahead between q t past
  pub end : Finished c.ruling t past q.end
  pub counts : CountsKept c fc ahead between (nodes q.frames) t past q.ticks
