use Rattle.std.proofs.Common.{◌≡◌, ◌+◌, suc, arith}
use Rattle.std.proofs.lemmas.Result.{err_from_is_err_and}
use Rattle.asn_newer.specs.Bitmaps.{bits_left}
use Rattle.asn_newer.specs.Reading.{skipped_at_seen}
use Rattle.asn_newer.specs.Walking.{loose_by}
use Rattle.asn_newer.proofs.Walk.Following.{skips_start, skips_absent, skips_present, skips_none, skips_end, bit_set, unmapped}
use Rattle.asn_newer.proofs.Walk.FieldsSkipped.{one_on, bit_absent, none_is_left}
use Rattle.asn_newer.proofs.Walk.Halts.{halts_on}
use Rattle.asn_newer.proofs.skipping.skip_fields.Goals.{then-next_present+in_ok-skip_field, else-next_present}
use Rattle.asn_newer.proofs.skipping.skip_fields.Goals as goal

pub loop-next-init : goal.loop-next-init
loop-next-init g c =
    (skips_start g.R.ReadLeaves.rules (skipped_at_seen c.args.skipped.now.items) c.args.place (bits_left c.args.presence) (g.R.ReadLeaves.rules.to_units c.args.units.now), omega arith, c.requires.few, c.requires.at_unit)

pub returns-in_err-skip_field-clause-stop : goal.returns-in_err-skip_field-clause-stop
returns-in_err-skip_field-clause-stop g c =
    let l = loose_by g.R.ReadLeaves.rules g.R.OtherVersions.loose in
    let ways = c.keep_walk_laws.ensures.ways in
    let p = err_from_is_err_and c.from_residual.result c.from_residual.ensures.1 in
    rw (p.1, p.2) (halts_on _ (λ after n. unmapped (skips_none l ways (bit_set c.next_present.ensures.bit c.if-next_present.true) c.loop-next.invariant.0 after n)) c.in_err-skip_field.ensures.stop)

pub loop-next-preserved : goal.loop-next-preserved
loop-next-preserved g c =
    let l = loose_by g.R.ReadLeaves.rules g.R.OtherVersions.loose in
    let ways = c.keep_walk_laws.ensures.ways in
    let on : suc c.loop-next.next ≡ c.loop-next.next + 1 = omega arith in
    let fewer = one_on c.loop-next.next (c.args.place + c.args.presence.left) c.next_present.ensures.bit c.loop-next.invariant.1 c.loop-next-test.true in
    elim c.if-next_present.branch [
      | then-next_present+in_ok-skip_field w ↦ rw (w.skipped-is, w.units-is) (skips_present l ways (bit_set c.next_present.ensures.bit w.if-next_present.true) on w.in_ok-skip_field.ensures.done c.loop-next.invariant.0, fewer, c.next_present.ensures.few, w.in_ok-skip_field.ensures.at_unit)
      | else-next_present w ↦ rw (w.skipped-is, w.units-is) (skips_absent l ways (bit_absent c.loop-next.next (c.args.place + c.args.presence.left) c.next_present.ensures.bit w.if-next_present.false c.loop-next.invariant.1 c.loop-next-test.true) on c.loop-next.invariant.0, fewer, c.next_present.ensures.few, c.loop-next.invariant.3)
    ]

pub returns-clause-done : goal.returns-clause-done
returns-clause-done g c =
    let l = loose_by g.R.ReadLeaves.rules g.R.OtherVersions.loose in
    let ways = c.keep_walk_laws.ensures.ways in
    skips_end l ways (none_is_left c.loop-next.presence c.loop-next.next (c.args.place + c.args.presence.left) c.loop-next.invariant.1 c.loop-next-test.false) c.loop-next.invariant.0
