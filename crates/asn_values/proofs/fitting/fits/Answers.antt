use Rattle.std.proofs.Common.{false}
use Rattle.asn_values.specs.View.{shape_of, datum_of}
use Rattle.asn_values.proofs.Received.{by_none, fits_by}
use Rattle.asn_values.proofs.fitting.fits.Goals as goal

pub returns : goal.returns
returns c =
    let both = rw c.get.ensures.same at c.type_has.ensures in
    let t = shape_of c.args.ty.now in
    let d = datum_of c.args.value.now in
    (λ h. by_none t d (both.0 h), λ f. both.1 (fits_by false t d f))
