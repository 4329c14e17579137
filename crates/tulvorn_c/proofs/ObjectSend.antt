-- What a handle may hold may cross threads, and threads may read it at once, since so it is of the parts of each variant.
use denote.Param.Send.{IsSend, IsSync, sendable}
use denote.Param.SendFields.{variants_send, variants_sync}
use Rattle.std.proofs.Crossing.{crosses}
use Rattle.std.proofs.MapsCrossing as maps
use Rattle.asn_values.specs.contracts.checked.Checked as types
use Rattle.asn_values.specs.contracts.value.Value as values
use Rattle.asn_values.proofs.types.AsnType.TheLaws.TheKnot as inside_types
use Rattle.asn_values.proofs.value.Value.TheLaws.TheKnot as inside_values
use Rattle.asn_rules.specs.contracts.newer.Skipped as fields
use Rattle.asn_constraints.specs.contracts.constraint.Constraint as constraints
use Rattle.asn_constraints.proofs.constraint.Constraint.TheLaws.TheKnot as inside_constraints
use Rattle.asn_contents.proofs.contents.Contents.TheLaws.TheKnot as inside_contents
use Rattle.asn_constraint_text.specs.contracts.module.ConstrainedModule as modules
use Rattle.asn_constraint_text.specs.contracts.references.Named as names
use Rattle.asn_constraint_text.proofs.references.References.TheLaws.TheKnot as inside_references
use Rattle.asn_per.specs.contracts.rules.Per as per
use Rattle.asn_per.specs.contracts.session.PerSession as per_sessions
use Rattle.asn_oer.specs.contracts.rules.Oer as oer
use Rattle.asn_oer.specs.contracts.session.OerSession as oer_sessions
use Rattle.tulvorn_c.specs.contracts.held.HeldType as held
use Rattle.tulvorn_c.specs.contracts.pieces.HeldSession as held_sessions
use Rattle.tulvorn_c.proofs.pieces.HeldSession.TheSendSync as held_session
use Rattle.tulvorn_c.specs.contracts.object.Object as object

value_send : IsSend values.the_row
value_send = search (crosses, inside_values.crosses, sendable) depth 60 fits 20000

-- (an `Arc` asks both laws of the tree that it shares)
type_send : IsSend types.the_row
type_send = search (crosses, inside_types.crosses_both, inside_values.crosses_both, sendable) depth 60 fits 20000

constraint_send : IsSend constraints.the_row
constraint_send = search (crosses, inside_constraints.crosses_both, inside_values.crosses_both, value_send, sendable) depth 60 fits 20000

held_send : IsSend held.the_row
held_send = search (crosses, inside_constraints.crosses_both, inside_values.crosses_both, type_send, sendable) depth 60 fits 20000

named_send : IsSend names.the_row
named_send = search (crosses, inside_references.crosses, inside_contents.crosses, constraint_send, sendable) depth 60 fits 20000

module_send : IsSend modules.the_row
module_send = search (maps.crosses, crosses, named_send, type_send, sendable) depth 60 fits 20000

field_send : IsSend fields.the_row
field_send = search (crosses, sendable) depth 60 fits 20000

-- what a session keeps: its type, the nodes of the value that have begun, and what is told at the end
per_kept_send : IsSend per_sessions.the_row
per_kept_send = search (crosses, inside_types.crosses_both, inside_values.crosses_both, type_send, value_send, sendable) depth 60 fits 20000

oer_kept_send : IsSend oer_sessions.the_row
oer_kept_send = search (crosses, inside_types.crosses_both, inside_values.crosses_both, type_send, value_send, sendable) depth 60 fits 20000

per_send : IsSend (held_sessions.the_row per.the_row per_sessions.the_row)
per_send = held_session.the_send per.the_row per_sessions.the_row per_kept_send

oer_send : IsSend (held_sessions.the_row oer.the_row oer_sessions.the_row)
oer_send = held_session.the_send oer.the_row oer_sessions.the_row oer_kept_send

-- (part by part, since one search over all variants comes to its limit)
pub object_send : IsSend object.the_row
object_send = variants_send object.enum (
  (search (sendable, crosses, module_send) depth 40, tt),
  (
    (held_send, tt),
    (
      (held_send, (value_send, tt)),
      (
        (search (sendable, crosses) depth 40, tt),
        (
          (search (sendable, crosses, field_send) depth 40, tt),
          (
            (held_send, (search (sendable, crosses, per_send) depth 40, tt)),
            ((held_send, (search (sendable, crosses, oer_send) depth 40, tt)), tt),
          ),
        ),
      ),
    ),
  ),
)

-- ---- threads that read it at once

value_sync : IsSync values.the_row
value_sync = search (crosses, inside_values.crosses, sendable) depth 60 fits 20000

type_sync : IsSync types.the_row
type_sync = search (crosses, inside_types.crosses_both, inside_values.crosses_both, sendable) depth 60 fits 20000

constraint_sync : IsSync constraints.the_row
constraint_sync = search (crosses, inside_constraints.crosses_both, inside_values.crosses_both, value_sync, sendable) depth 60 fits 20000

held_sync : IsSync held.the_row
held_sync = search (crosses, inside_constraints.crosses_both, inside_values.crosses_both, type_sync, sendable) depth 60 fits 20000

named_sync : IsSync names.the_row
named_sync = search (crosses, inside_references.crosses, inside_contents.crosses, constraint_sync, sendable) depth 60 fits 20000

module_sync : IsSync modules.the_row
module_sync = search (maps.crosses, crosses, named_sync, type_sync, sendable) depth 60 fits 20000

field_sync : IsSync fields.the_row
field_sync = search (crosses, sendable) depth 60 fits 20000

per_kept_sync : IsSync per_sessions.the_row
per_kept_sync = search (crosses, inside_types.crosses_both, inside_values.crosses_both, type_sync, value_sync, sendable) depth 60 fits 20000

oer_kept_sync : IsSync oer_sessions.the_row
oer_kept_sync = search (crosses, inside_types.crosses_both, inside_values.crosses_both, type_sync, value_sync, sendable) depth 60 fits 20000

per_sync : IsSync (held_sessions.the_row per.the_row per_sessions.the_row)
per_sync = held_session.the_sync per.the_row per_sessions.the_row per_kept_sync

oer_sync : IsSync (held_sessions.the_row oer.the_row oer_sessions.the_row)
oer_sync = held_session.the_sync oer.the_row oer_sessions.the_row oer_kept_sync

pub object_sync : IsSync object.the_row
object_sync = variants_sync object.enum (
  (search (sendable, crosses, module_sync) depth 40, tt),
  (
    (held_sync, tt),
    (
      (held_sync, (value_sync, tt)),
      (
        (search (sendable, crosses) depth 40, tt),
        (
          (search (sendable, crosses, field_sync) depth 40, tt),
          (
            (held_sync, (search (sendable, crosses, per_sync) depth 40, tt)),
            ((held_sync, (search (sendable, crosses, oer_sync) depth 40, tt)), tt),
          ),
        ),
      ),
    ),
  ),
)
