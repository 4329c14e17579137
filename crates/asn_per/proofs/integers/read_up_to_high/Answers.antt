use Rattle.std.proofs.Common.{◌≡◌, ◌+ℤ◌, pos, inl, refl}
use Rattle.std.proofs.lemmas.Result.{err_from_is_err_and}
use mir.Syntax.{w128}
use mir.Val.{to_z, of_z}
use Rattle.asn_values.specs.Fits.{lowest_integer}
use Rattle.asn_bits.proofs.Above.{kept}
use Rattle.asn_rules.proofs.Languages.Leads.{stops_by}
use Rattle.asn_rules.proofs.Plain.SignedReading.{signed_within}
use Rattle.asn_per.specs.Per.{per_fields}
use Rattle.asn_per.proofs.Read.IntegerForms.{up_to_leads, up_to_some}
use Rattle.asn_per.proofs.integers.read_up_to_high.Goals as goal

pub read_wide_unconstrained-requires-clause-gap : goal.read_wide_unconstrained-requires-clause-gap
read_wide_unconstrained-requires-clause-gap c = c.offsets_of-set.ensures.gap (inl refl)

pub read_wide_unconstrained-requires-clause-some : goal.read_wide_unconstrained-requires-clause-some
read_wide_unconstrained-requires-clause-some c = up_to_some c.args.high c.args.excluded c.offsets_of-set.result c.offsets_of-set.ensures.same c.requires.some

pub returns-in_err-offset-clause-stop : goal.returns-in_err-offset-clause-stop
returns-in_err-offset-clause-stop c =
    let p = err_from_is_err_and c.from_residual.result c.from_residual.ensures.1 in
    let lead = up_to_leads c.args.high c.args.excluded c.offsets_of-set.result c.offsets_of-set.ensures.same c.args.bits.now in
    rw (p.1, p.2) (stops_by _ lead.stops (c.in_err-offset.ensures.stop per_fields))

pub returns-clause-done : goal.returns-clause-done
returns-clause-done c =
    let lead = up_to_leads c.args.high c.args.excluded c.offsets_of-set.result c.offsets_of-set.ensures.same c.args.bits.now in
    let z = lowest_integer +ℤ pos c.in_ok-offset.offset in
    let in_profile = signed_within per_fields c.offsets_of-set.result (c.in_ok-offset.ensures.done per_fields) in
    let same : to_z w128 (of_z w128 z) ≡ z = kept z in_profile.0 in_profile.1 in
    rw (c.at_wide_offset.ensures, same) (lead.done z c.read_wide_unconstrained.new.bits (c.in_ok-offset.ensures.done per_fields))
