use Rattle.std.proofs.Common.{◌≡◌, true, ⊎_elim, arith}
use Rattle.asn_rules.proofs.Plain.SignedNumbers.{inside_open, some_above, some_below, some_offset}
use Rattle.asn_rules.proofs.signed_reader.has_count.Goals as goal

pub returns-then-has_between-clause-there : goal.returns-then-has_between-clause-there
returns-then-has_between-clause-there c t =
    let w = c.has_between.ensures.there t in
    some_above c.args.set c.args.count c.requires.some c.requires.few (inside_open c.args.set c.args.count c.requires.within) w.0 (omega (arith, w.1, c.least_magnitude-least.ensures.is)) (omega (arith, w.2, c.sign_weight-weight.ensures.is)) w.3

pub returns-else-has_between-clause-there : goal.returns-else-has_between-clause-there
returns-else-has_between-clause-there c t =
    let w = c.has_between-else-has_between.ensures.there t in
    some_below c.args.set c.args.count c.requires.some c.requires.few (inside_open c.args.set c.args.count c.requires.within) w.0 (omega (arith, w.1, c.sign_weight-weight.ensures.is, c.saturating_sub-lowest.ensures)) (omega (arith, w.2, c.least_magnitude-least.ensures.is)) w.3

pub returns-else-has_between-clause-back : goal.returns-else-has_between-clause-back
returns-else-has_between-clause-back c s =
    let w = some_offset c.args.set c.args.count c.requires.some c.requires.few (inside_open c.args.set c.args.count c.requires.within) s in
    ⊎_elim
    (λ b. absurd (let t : c.has_between.result ≡ true = c.has_between.ensures.back w.0 (omega (arith, b.0, c.least_magnitude-least.ensures.is)) (omega (arith, b.1, c.sign_weight-weight.ensures.is)) w.2 in cc))
    (λ b. c.has_between-else-has_between.ensures.back w.0 (omega (arith, b.0, c.sign_weight-weight.ensures.is, c.saturating_sub-lowest.ensures)) (omega (arith, b.1, c.least_magnitude-least.ensures.is)) w.2)
    w.1
