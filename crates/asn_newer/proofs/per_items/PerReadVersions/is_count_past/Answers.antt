use Rattle.std.proofs.Common.{refl}
use Rattle.asn_newer.proofs.Walk.PastProfile.{count_told, no_count}
use Rattle.asn_newer.proofs.per_items.PerReadVersions.is_count_past.Goals as goal

pub returns-in_default : goal.returns-in_default
unfolding Rattle.asn_per.specs.Walk.per_coding
returns-in_default c = no_count c.args.units.now (c.in_default.ensures.none.0 refl)

pub returns : goal.returns
unfolding Rattle.asn_per.specs.Walk.per_coding
returns c = count_told c.args.units.now _ c.in-Some.bit c.in-Some.ensures.some c.in-Some.ensures.fits
