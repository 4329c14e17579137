use Rattle.std.proofs.Common.{◌≡◌, ◌+ℤ◌, pos}
use Rattle.std.proofs.lemmas.Result.{err_from_is_err_and}
use mir.Syntax.{w128}
use mir.Val.{to_z, of_z}
use Rattle.asn_values.specs.Fits.{lowest_integer}
use Rattle.asn_values.specs.View.{range_of}
use Rattle.asn_bits.proofs.Above.{kept}
use Rattle.asn_rules.proofs.Languages.Leads.{stops_by}
use Rattle.asn_per.specs.Kinds.{IsOutside}
use Rattle.asn_rules.proofs.Plain.SignedReading.{signed_within}
use Rattle.asn_per.specs.Per.{per_fields}
use Rattle.asn_per.proofs.Read.SignedReading.{signed_leads}
use Rattle.asn_per.proofs.integers.read_outside.Goals as goal

pub returns-in_err-offset-clause-stop : goal.returns-in_err-offset-clause-stop
returns-in_err-offset-clause-stop c =
    let p = err_from_is_err_and c.from_residual.result c.from_residual.ensures.1 in
    let lead = signed_leads c.offsets_outside.result (λ z. IsOutside (range_of c.args.bounds.now) z) c.offsets_outside.ensures.same c.args.bits.now in
    rw (p.1, p.2) (stops_by _ lead.stops (c.in_err-offset.ensures.stop per_fields))

pub returns-clause-done : goal.returns-clause-done
returns-clause-done c =
    let lead = signed_leads c.offsets_outside.result (λ z. IsOutside (range_of c.args.bounds.now) z) c.offsets_outside.ensures.same c.args.bits.now in
    let w = c.in_ok-offset.offset in
    let z = lowest_integer +ℤ pos w in
    let in_profile = signed_within per_fields c.offsets_outside.result (c.in_ok-offset.ensures.done per_fields) in
    let same : to_z w128 (of_z w128 z) ≡ z = kept z in_profile.0 in_profile.1 in
    rw (c.at_wide_offset.ensures, same) (lead.done z c.read_wide_unconstrained.new.bits (c.in_ok-offset.ensures.done per_fields))
