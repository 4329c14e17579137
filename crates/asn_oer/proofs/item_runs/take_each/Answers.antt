use Rattle.std.proofs.Common.{◌+◌, refl, arith}
use Rattle.asn_values.specs.View.{alphabet_of}
use Rattle.asn_bits.specs.Moves.{Taken}
use Rattle.asn_bits.specs.Numbers.{packed}
use Rattle.asn_rules.specs.Fields.{octet_fields}
use Rattle.asn_rules.specs.OctetStrings.{Character}
use Rattle.asn_walk.proofs.Listing.{appends_none, appends_more}
use Rattle.asn_oer.proofs.InPieces.Runs.{first_taken, octets_whole, character_taken}
use Rattle.asn_oer.proofs.item_runs.take_each.Goals as goal

pub loop-count-init : goal.loop-count-init
loop-count-init c = (appends_none octet_fields (Character (alphabet_of c.args.kind)) c.args.into.now.items (packed c.args.units.now), c.requires.at_octet, omega arith)

pub loop-count-preserved : goal.loop-count-preserved
loop-count-preserved c =
    let inv = c.loop-count.invariant in
    let count = c.loop-count.count in
    let o = c.in-Some.octet in
    let us = c.loop-count.units in
    let r = c.pass_octets.new.self in
    let old = c.loop-count.into.items in
    let new = c.push.new.self.items in
    let t : Taken 1 us r old new = first_taken o us r old new c.in-Some.ensures.fits c.in-Some.ensures.some c.pass_octets.ensures c.in_ok-push.ensures.items in (
      appends_more count 1 (count + 1) refl inv.0 (character_taken (alphabet_of c.args.kind) o us r old new t c.in_ok-push.ensures.items (rw c.is_character.ensures at c.if-not-is_character.false)),
      octets_whole 1 us r old new inv.1 t,
      omega (arith, c.loop-count-test.true),
    )
