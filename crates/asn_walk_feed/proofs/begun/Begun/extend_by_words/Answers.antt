use Rattle.std.proofs.Common.{◌≡◌, ◌+◌, ◌-◌, ◌≤◌, ◌++◌, ℕ, List, length, take, drop, length-append, sym, ap, ◌∙◌, append-nil, append_assoc, arith}
use Rattle.std.proofs.lemmas.List.{length-take}
use Rattle.asn_bits.proofs.Octets.{length-digits}
use Rattle.asn_walk_feed.proofs.Bits.{taken_in_two}
use Rattle.asn_walk_feed.proofs.begun.Begun.extend_by_words.Goals as goal

pub push_next-requires-clause-room : goal.push_next-requires-clause-room
push_next-requires-clause-room c =
    let l : length c.args.self.now ≡ c.self.inside.count = ap length (sym c.self.view_is) ∙ length-digits 2 c.self.inside.count c.self.inside.number in
    let few : c.self.inside.count ≤ 128 = c.self.invariant.0 in
    omega (arith, l, few, c.min-count.ensures, c.min-first.ensures)

pub push_next-requires-2-clause-room : goal.push_next-requires-2-clause-room
push_next-requires-2-clause-room c =
    let l : length c.args.self.now ≡ c.self.inside.count = ap length (sym c.self.view_is) ∙ length-digits 2 c.self.inside.count c.self.inside.number in
    let few : c.self.inside.count ≤ 128 = c.self.invariant.0 in
    let m : length c.push_next.new.self ≡ length c.args.self.now + length (take c.min-first.result c.copied-units.result) = ap length c.push_next.ensures.bits ∙ length-append c.args.self.now (take c.min-first.result c.copied-units.result) in
    omega (arith, l, few, m, length-take c.min-first.result c.copied-units.result, c.min-count.ensures, c.min-first.ensures)

pub returns-clause-count : goal.returns-clause-count
returns-clause-count c =
    let l : length c.args.self.now ≡ c.self.inside.count = ap length (sym c.self.view_is) ∙ length-digits 2 c.self.inside.count c.self.inside.number in
    omega (arith, l, c.self.invariant.0, c.min-count.ensures, c.min.ensures, c.octets_left.ensures.count, c.rest_of_octet.ensures.rest)

pub returns-clause-bits : goal.returns-clause-bits
returns-clause-bits c =
    let us = c.args.units.now in
    let i = c.min-first.result in
    let n = c.min-count.result in
    let sum : i + (n - i) ≡ n = omega (arith, c.min-first.ensures) in
    c.push_next-2.ensures.bits
    ∙ ap (λ (vs : List ℕ). vs ++ take (n - i) c.push_next.new.units) c.push_next.ensures.bits
    ∙ ap (λ (vs : List ℕ). (c.args.self.now ++ take i c.copied-units.result) ++ take (n - i) vs) c.push_next.ensures.left
    ∙ ap (λ (vs : List ℕ). (c.args.self.now ++ take i vs) ++ take (n - i) (drop i vs)) c.copied-units.ensures
    ∙ append_assoc c.args.self.now (take i us) (take (n - i) (drop i us))
    ∙ ap (λ (vs : List ℕ). c.args.self.now ++ vs) (taken_in_two i (n - i) us ∙ ap (λ (k : ℕ). take k us) sum)

-- no bit is left, or has room
pub returns-then-count-eq0-clause-count : goal.returns-then-count-eq0-clause-count
returns-then-count-eq0-clause-count c =
    let l : length c.args.self.now ≡ c.self.inside.count = ap length (sym c.self.view_is) ∙ length-digits 2 c.self.inside.count c.self.inside.number in
    omega (arith, l, c.self.invariant.0, c.min-count.ensures, c.min.ensures, c.octets_left.ensures.count, c.rest_of_octet.ensures.rest)

pub returns-then-count-eq0-clause-bits : goal.returns-then-count-eq0-clause-bits
returns-then-count-eq0-clause-bits c =
    let z : c.min-count.result ≡ 0 = omega arith in
    sym (ap (λ (k : ℕ). c.args.self.now ++ take k c.args.units.now) z ∙ append-nil c.args.self.now)

-- they are 64 at most
pub returns-then-first-count-clause-count : goal.returns-then-first-count-clause-count
returns-then-first-count-clause-count c =
    let l : length c.args.self.now ≡ c.self.inside.count = ap length (sym c.self.view_is) ∙ length-digits 2 c.self.inside.count c.self.inside.number in
    omega (arith, l, c.self.invariant.0, c.min-count.ensures, c.min.ensures, c.octets_left.ensures.count, c.rest_of_octet.ensures.rest)

pub returns-then-first-count-clause-bits : goal.returns-then-first-count-clause-bits
returns-then-first-count-clause-bits c =
    let same : c.min-first.result ≡ c.min-count.result = omega arith in
    c.push_next.ensures.bits
    ∙ ap (λ (vs : List ℕ). c.args.self.now ++ take c.min-first.result vs) c.copied-units.ensures
    ∙ ap (λ (k : ℕ). c.args.self.now ++ take k c.args.units.now) same
