-- The counts of a range after those that are read.
use Rattle.std.proofs.Common.{◌↔◌, ◌+◌, ◌*◌, ℕ, Some, None, IsTrue, subst}
use Rattle.asn_bits.specs.Ranges.{Spanned, At}
use Rattle.asn_bits.specs.LengthBits.{StartsSome, is_closed}
use Rattle.asn_bits.specs.LengthStates.{spans, state_bits}
use Rattle.asn_bits.proofs.Ranges.{starts_reached, end_after, range_end}
use Rattle.asn_bits.proofs.general_length.is_viable.Goals as goal

pub returns-in-Some-clause-exact : goal.returns-in-Some-clause-exact
returns-in-Some-clause-exact c =
    let is = spans c.args.first c.args.second in
    let low = c.remaining_counts_after-low.result.0 in
    let high = c.in-Some.high in
    let read = 16384 * c.from-read.result in
    let exact = range_end low c.remaining_counts_after-low.result.1 (Some high) _ c.in-Some.is c.remaining_counts_after-low.ensures.exact in
    let w = starts_reached is read low (Some high) (Some (read + high)) (is_closed c.args.blocks) (state_bits c.args.state) (end_after read high) exact in
    subst (λ (b : ℕ). IsTrue c.reaches.result ↔ StartsSome (At (Spanned is) (16384 * b) (is_closed c.args.blocks)) (state_bits c.args.state)) c.from-read.ensures
    (λ t. w.0 (c.reaches.ensures.exact.0 t), λ s. c.reaches.ensures.exact.1 (w.1 s))

pub returns-in-None-clause-exact : goal.returns-in-None-clause-exact
returns-in-None-clause-exact c =
    let is = spans c.args.first c.args.second in
    let low = c.remaining_counts_after-low.result.0 in
    let read = 16384 * c.from-read.result in
    let exact = range_end low c.remaining_counts_after-low.result.1 None _ c.in-None.is c.remaining_counts_after-low.ensures.exact in
    let w = starts_reached is read low None None (is_closed c.args.blocks) (state_bits c.args.state) (λ n. (λ a. tt, λ a. tt)) exact in
    subst (λ (b : ℕ). IsTrue c.reaches-in-None.result ↔ StartsSome (At (Spanned is) (16384 * b) (is_closed c.args.blocks)) (state_bits c.args.state)) c.from-read.ensures
    (λ t. w.0 (c.reaches-in-None.ensures.exact.0 t), λ s. c.reaches-in-None.ensures.exact.1 (w.1 s))
