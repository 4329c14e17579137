use Rattle.std.proofs.Common.{rules, ◌≤ℤ◌}
use Rattle.asn_values.specs.Fits.{FitsNumber}
use Rattle.asn_values.specs.Profile.{InProfile}
use Rattle.asn_values.specs.Shape.{integer}
use Rattle.asn_per.specs.Kinds.{between}
use Rattle.asn_plan.proofs.Bounds.{between_fits}
use Rattle.asn_per.proofs.integers.write_far.Goals as goal

pub returns-clause-of_type : goal.returns-clause-of_type
returns-clause-of_type g c =
    let low = c.in-Some-Some.low in
    let high = c.in-Some-Some.high in
    let ext = c.args.bounds.now.ext in
    let good : InProfile (integer (between low high ext)) = rw (c.in-Some-Some.is-0, c.in-Some-Some.is-1) at c.requires.of_profile in
    let least : low ≤ℤ c.args.value = search rules in
    let most : c.args.value ≤ℤ high = search rules in
    let fits : FitsNumber (between low high ext) c.args.value = between_fits low high c.args.value ext good least most in
    rw (c.in-Some-Some.is-0, c.in-Some-Some.is-1) fits
