use Rattle.asn_rules.proofs.Plain.SignedNumbers.{are_signed, inside_open}
use Rattle.asn_rules.proofs.signed_reader.numbers_of_count.Goals as goal

pub returns : goal.returns
returns c =
    let least = c.least_magnitude-least.result in
    are_signed c.args.set c.args.count c.requires.some c.requires.few (inside_open c.args.set c.args.count c.requires.within) c.add_shifted-numbers.result c.add_shifted.result least c.sign_weight-weight.result c.least_magnitude-least.ensures.few c.sign_weight-weight.ensures.is
    (rw c.none.ensures at c.add_shifted-numbers.ensures.numbers) (rw c.saturating_sub-lowest.ensures at c.add_shifted.ensures.numbers) c.least_magnitude-least.ensures.is
