use Rattle.std.proofs.Common.{◌≤◌, [], ◌∷◌, true, sym}
use Rattle.std.proofs.lemmas.Result.{on_ok_weaker}
use Rattle.asn_rules.specs.Components.{bit_of}
use Rattle.asn_sinks.proofs.Pushing.{pushed_same}
use Rattle.asn_per.specs.Per.{semi_constrained}
use Rattle.asn_per.proofs.Types.SmallNumbers.{small_is, large_is}
use Rattle.asn_per.proofs.indexes.write_small_number.Goals as goal

pub returns-then-number-lt-SHORT_NUMBERS : goal.returns-then-number-lt-SHORT_NUMBERS
returns-then-number-lt-SHORT_NUMBERS g c = rw (small_is c.args.number c.if-number-lt-SHORT_NUMBERS.true) c.push_number.ensures

pub returns : goal.returns
returns g c =
    let n = c.args.number in
    let long : 64 ≤ n = c.if-number-lt-SHORT_NUMBERS.false in
    let old = c.args.sink.now in
    let mid = c.push.new.self in
    let new = c.push_least_octets.new.self in
    on_ok_weaker c.push_least_octets.result
    (λ e. pushed_same g.S.Sink.pushes old new (sym (large_is n long))
    (g.met.S.Sink.pushes_joined old mid new (bit_of true ∷ []) (semi_constrained n) c.in_ok-push.ensures e))
    c.push_least_octets.ensures
