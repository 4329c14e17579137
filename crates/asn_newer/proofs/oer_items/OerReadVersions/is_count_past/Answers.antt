use Rattle.std.proofs.Common.{refl}
use Rattle.asn_newer.proofs.Walk.PastProfile.{length_told, length_within, no_length}
use Rattle.asn_newer.proofs.oer_items.OerReadVersions.is_count_past.Goals as goal

pub returns-in_default : goal.returns-in_default
unfolding Rattle.asn_oer.specs.Walk.oer_coding
returns-in_default c = no_length c.args.units.now c.requires.at_unit (c.in_default.ensures.none.0 refl)

pub returns-then-octet-gt9 : goal.returns-then-octet-gt9
unfolding Rattle.asn_oer.specs.Walk.oer_coding
returns-then-octet-gt9 c = length_told c.args.units.now _ c.in-Some.octet c.in-Some.ensures.some c.in-Some.ensures.fits c.if-octet-gt9.true

pub returns-else-octet-gt9 : goal.returns-else-octet-gt9
unfolding Rattle.asn_oer.specs.Walk.oer_coding
returns-else-octet-gt9 c = length_within c.args.units.now _ c.in-Some.octet c.in-Some.ensures.some c.in-Some.ensures.fits c.if-octet-gt9.false
