use Rattle.std.proofs.Common.{ℕ, subst, arith}
use Rattle.asn_bits.proofs.Splits.{two_pow_octets}
use Rattle.asn_rules.specs.OffsetSets.{HasOffset}
use Rattle.asn_rules.proofs.Octets.FirstOctets.{octets_there}
use Rattle.asn_rules.proofs.Plain.SignedReading.{standing_spells}
use Rattle.asn_rules.proofs.signed_reader.try_signed.Goals as goal

pub offset_of-offset-requires-clause-fits : goal.offset_of-offset-requires-clause-fits
offset_of-offset-requires-clause-fits c = omega (arith, c.in_ok-number.ensures.fits, two_pow_octets c.args.count)

pub pass_octets-requires : goal.pass_octets-requires
pass_octets-requires c = octets_there c.args.count c.in_ok-number.number c.args.bits.now c.in_ok-number.ensures.some

pub returns-then-has_offset-clause-done : goal.returns-then-has_offset-clause-done
returns-then-has_offset-clause-done c R =
    standing_spells R c.args.set c.args.count c.in_ok-number.number c.offset_of-offset.result c.args.bits.now c.pass_octets.new.self (omega arith) c.offset_of-offset.ensures (subst (λ (i : ℕ). HasOffset c.args.set i) c.from.ensures (c.has_offset.ensures c.if-has_offset.true)) c.in_ok-number.ensures.fits (rw c.pass_octets.ensures c.in_ok-number.ensures.some)
