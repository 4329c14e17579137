-- After a closed fragment fewer than a block are left.
use Rattle.std.proofs.Common.{◌≡◌, ◌≤◌, ◌<◌, Some, None, true, sym, ◌∙◌, arith}
use Rattle.std.proofs.lemmas.Bool.{true≢false}
use Rattle.asn_bits.specs.Ranges.{AtMost}
use Rattle.asn_bits.specs.LengthBits.{StartsLength}
use Rattle.asn_bits.specs.LengthStates.{state_bits}
use Rattle.asn_bits.proofs.FirstLengths.{exact_left}
use Rattle.asn_bits.proofs.Ranges.{range_end}
use Rattle.asn_bits.proofs.general_length.remaining_counts_after.Goals as goal

pub returns-in-Some-clause-exact : goal.returns-in-Some-clause-exact
returns-in-Some-clause-exact c =
    let low = c.counts_after-low.result.0 in
    exact_left (λ n. (low ≤ n) × (n ≤ c.min.result)) (λ n. c.args.closed ≡ true → n < 16384) (λ n. StartsLength n (state_bits c.args.state)) (range_end low c.counts_after-low.result.1 (Some c.in-Some.high) (λ n. StartsLength n (state_bits c.args.state)) c.in-Some.is c.counts_after-low.ensures.exact)
    (λ n. (λ a. ((a.0, omega (arith, a.1)), λ t. omega (arith, a.1)), λ a. (a.0.0, omega (arith, a.0.1, a.1 c.if-closed.true))))

pub returns-in-None-clause-exact : goal.returns-in-None-clause-exact
returns-in-None-clause-exact c =
    let low = c.counts_after-low.result.0 in
    exact_left (λ n. (low ≤ n) × (n ≤ 16383)) (λ n. c.args.closed ≡ true → n < 16384) (λ n. StartsLength n (state_bits c.args.state)) (range_end low c.counts_after-low.result.1 None (λ n. StartsLength n (state_bits c.args.state)) c.in-None.is c.counts_after-low.ensures.exact)
    (λ n. (λ a. ((a.0, tt), λ t. omega (arith, a.1)), λ a. (a.0.0, omega (arith, a.1 c.if-closed-2.true))))

pub returns-in_default-clause-exact : goal.returns-in_default-clause-exact
returns-in_default-clause-exact c =
    let low = c.counts_after-low.result.0 in
    exact_left (λ n. (low ≤ n) × (n ≤ c.in-Some.high)) (λ n. c.args.closed ≡ true → n < 16384) (λ n. StartsLength n (state_bits c.args.state)) (range_end low c.counts_after-low.result.1 (Some c.in-Some.high) (λ n. StartsLength n (state_bits c.args.state)) c.in-Some.is c.counts_after-low.ensures.exact)
    (λ n. (λ a. (a, λ t. absurd (true≢false (sym t ∙ c.if-closed.false))), λ a. a.0))

pub returns-in_default-2-clause-exact : goal.returns-in_default-2-clause-exact
returns-in_default-2-clause-exact c =
    let low = c.counts_after-low.result.0 in
    exact_left (λ n. (low ≤ n) × AtMost n c.counts_after-low.result.1) (λ n. c.args.closed ≡ true → n < 16384) (λ n. StartsLength n (state_bits c.args.state)) c.counts_after-low.ensures.exact
    (λ n. (λ a. (a, λ t. absurd (true≢false (sym t ∙ c.if-closed-2.false))), λ a. a.0))
