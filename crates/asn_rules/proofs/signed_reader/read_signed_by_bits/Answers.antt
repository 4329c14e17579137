use Rattle.std.proofs.Common.{◌*◌, ◌^◌, ℤ, subst, sym, arith}
use Rattle.asn_bits.proofs.Splits.{two_pow_octets}
use Rattle.asn_bits.proofs.Unions.{set_meets}
use Rattle.asn_bits.proofs.Wide.{narrow}
use Rattle.asn_rules.specs.Languages.{Spells}
use Rattle.asn_rules.specs.OffsetSets.{SignedIn}
use Rattle.asn_rules.proofs.Languages.Leads.{stops_by}
use Rattle.asn_rules.proofs.Plain.SignedReading.{standing_leads}
use Rattle.asn_rules.proofs.signed_reader.read_signed_by_bits.Goals as goal

pub read_number_among-requires-clause-some : goal.read_number_among-requires-clause-some
read_number_among-requires-clause-some c =
    let o = c.requires.some in
    set_meets 2 (8 * c.args.count) o.0 (c.numbers_in.ensures.there o.0 o.1) (omega (arith, o.1.fits, two_pow_octets c.args.count))

pub overflow_cast-number : goal.overflow_cast-number
overflow_cast-number c = omega (arith, narrow (8 * c.args.count) c.in-Ok.number (omega (arith, c.requires.few)) c.in-Ok.ensures.fits)

pub offset_of-requires-clause-fits : goal.offset_of-requires-clause-fits
offset_of-requires-clause-fits c = omega (arith, c.in-Ok.ensures.fits, two_pow_octets c.args.count)

pub returns-in-Ok-clause-done : goal.returns-in-Ok-clause-done
returns-in-Ok-clause-done c R =
    let lead = standing_leads c.args.set c.args.count c.numbers_in.result c.numbers_in.ensures R c.args.bits.now in
    let n = c.in-Ok.number in
    subst (λ (z : ℤ). Spells R (SignedIn c.args.count c.args.set) z c.args.bits.now c.read_number_among.new.bits) (sym c.offset_of.ensures) (lead.done n c.read_number_among.new.bits (c.in-Ok.ensures.done R))

pub returns-in-Err-clause-stop : goal.returns-in-Err-clause-stop
returns-in-Err-clause-stop c R =
    stops_by c.in-Err.stop (standing_leads c.args.set c.args.count c.numbers_in.result c.numbers_in.ensures R c.args.bits.now).stops (c.in-Err.ensures.stop R)
