use Rattle.std.proofs.Common.{◌≤◌, length, sym, ap, subst, arith}
use Rattle.asn_values.specs.View.{shape_of, datum_of}
use Rattle.asn_rules.specs.Answer.{max_octets}
use Rattle.asn_newer.specs.Reading.{NotNewer, skipped_at_seen}
use Rattle.asn_newer.specs.Walking.{loose_by}
use Rattle.asn_newer.specs.declared.fault.NewerFault.{NewerFault}
use Rattle.asn_newer.proofs.Walk.MessagesRead.{message_read, no_message}
use Rattle.asn_newer.proofs.message.read_message.Goals as goal

pub returns-in-Ok-clause-read : goal.returns-in-Ok-clause-read
returns-in-Ok-clause-read g c =
    let few : length c.args.octets.now ≤ max_octets = omega (arith, c.if-octets-gt-MAX_OCTETS.false) in
    let l = loose_by g.R.ReadLeaves.rules g.R.OtherVersions.loose in
    (message_read l g.R.OtherVersions.loose c.keep_walk_laws.ensures.same (shape_of c.args.ty.now) c.args.octets.now (skipped_at_seen c.new-skipped.result.items) (datum_of c.in-Ok.value) (skipped_at_seen c.read_content.new.skipped.items) (ap skipped_at_seen c.new-skipped.ensures.items) (rw c.get.ensures.same at c.in-Ok.ensures.done), few)

pub returns-in-Err-clause-fault : goal.returns-in-Err-clause-fault
returns-in-Err-clause-fault g c =
    let few : length c.args.octets.now ≤ max_octets = omega (arith, c.if-octets-gt-MAX_OCTETS.false) in
    let l = loose_by g.R.ReadLeaves.rules g.R.OtherVersions.loose in
    subst (λ (f : NewerFault). NotNewer g.R.OtherVersions.loose (shape_of c.args.ty.now) c.args.octets.now f) (sym c.fault_of.ensures)
    (no_message l g.R.OtherVersions.loose c.keep_walk_laws.ensures.same (shape_of c.args.ty.now) c.args.octets.now few c.in-Err.halt (rw c.get.ensures.same at c.in-Err.ensures.stop))
