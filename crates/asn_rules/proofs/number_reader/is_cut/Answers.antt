use Rattle.std.proofs.Common.{◌≡◌, ◌+◌, ◌-◌, ◌*◌, ◌<◌, ◌++◌, ℕ, List, length, drop, sym, ap, ◌∙◌, subst, append-nil, arith}
use Rattle.std.proofs.lemmas.List.{drop_all}
use Rattle.asn_bits.specs.Begun.{Begins}
use Rattle.asn_bits.specs.Numbers.{bits}
use Rattle.asn_bits.specs.Sets.{Among, Meets}
use Rattle.asn_bits.proofs.Prefixes.{meets_begins}
use Rattle.asn_rules.proofs.number_reader.is_cut.Goals as goal

pub returns : goal.returns
returns c = λ t.
    let us = c.args.bits.now in
    let n : ℕ = 8 * c.octets_left-octets.result + c.rest_of_octet.result in
    let many : n ≡ length us = omega (arith, c.octets_left-octets.ensures.count, c.rest_of_octet.ensures.rest) in
    let S : ℕ → Type 0 = λ m. Among c.args.numbers.now m in
    let few : n < c.args.k = omega (arith, c.if-left-k.false) in
    let m : Meets S c.in-Some.front (c.args.k - n) = rw c.from.ensures at (c.meets.ensures.0 t) in
    let same : us ≡ bits n c.in-Some.front = c.in-Some.ensures.some ∙ ap (λ (vs : List ℕ). bits n c.in-Some.front ++ vs) (drop_all n us (omega (arith, many))) ∙ append-nil (bits n c.in-Some.front) in
    let b : Begins c.args.k S (bits n c.in-Some.front) = meets_begins c.args.k n (c.args.k - n) c.in-Some.front c.in-Some.ensures.fits (omega (arith, few)) m in
    (omega (arith, few, many), subst (λ (vs : List ℕ). Begins c.args.k S vs) (sym same) b)
