use Rattle.std.proofs.Common.{◌+◌, refl, arith}
use Rattle.asn_values.specs.View.{alphabet_of}
use Rattle.asn_walk.proofs.Listing.{appends_none, appends_more}
use Rattle.asn_per.specs.Kinds.{Character}
use Rattle.asn_per.specs.Per.{per_fields}
use Rattle.asn_per.proofs.InPieces.Runs.{takes}
use Rattle.asn_per.proofs.item_runs.take_characters.Goals as goal

pub loop-count-init : goal.loop-count-init
loop-count-init c = (appends_none per_fields (Character (alphabet_of c.args.kind)) c.args.into.now.items c.args.cursor.now, omega arith)

pub returns-then-not-branch-clause-done : goal.returns-then-not-branch-clause-done
returns-then-not-branch-clause-done c =
    let same = c.in_ok-try_append_characters.ensures.not_taken c.if-not-branch.true in
    rw (same.0, same.1) c.loop-count.invariant.0

pub loop-count-preserved : goal.loop-count-preserved
loop-count-preserved c =
    let inv = c.loop-count.invariant in
    let count = c.loop-count.count in
    let many = c.min-many.result in (
      appends_more count many (count + many) refl inv.0 (takes many (c.in_ok-try_append_characters.ensures.taken c.if-not-branch.false)),
      omega (arith, inv.1, c.min-many.ensures),
    )
