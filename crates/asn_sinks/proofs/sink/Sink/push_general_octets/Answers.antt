-- A fragment more, and in the end the last octets.
use Rattle.std.proofs.Common.{◌≡◌, ◌++◌, ℕ, List, sym, ap, ◌∙◌, append_assoc, take, drop}
use Rattle.asn_bits.specs.Lengths.{general_octets}
use Rattle.asn_bits.specs.Numbers.{bits, unpacked}
use Rattle.asn_bits.proofs.FragmentedOctets.{octets_last, octets_fragment}
use Rattle.asn_sinks.proofs.Pushing.{pushed_same, on_ok}
use Rattle.asn_sinks.proofs.sink.Sink.push_general_octets.Goals as goal

pub loop-rest-preserved : goal.loop-rest-preserved
loop-rest-preserved g c =
    let push = g.Self.Sink.pushes in
    let inv = c.loop-rest.invariant in
    let rest = c.loop-rest.rest.now in
    let k = c.next_length-k.result.2 in
    let code = bits c.next_length-k.result.0 c.next_length-k.result.1 in
    let front = unpacked c.split_at.result.0.now in
    let back = general_octets (λ u. u) c.split_at.result.1.now in
    let cut : general_octets (λ u. u) rest ≡ (code ++ front) ++ back =
    octets_fragment rest k c.loop-rest-test.true c.next_length-k.ensures.items
    ∙ ap (λ h. (h ++ unpacked (take k rest)) ++ general_octets (λ u. u) (drop k rest)) (sym c.next_length-k.ensures.bits)
    ∙ ap (λ (t : List ℕ). (code ++ unpacked t) ++ general_octets (λ u. u) (drop k rest)) (sym c.split_at.ensures.front)
    ∙ ap (λ (t : List ℕ). (code ++ front) ++ general_octets (λ u. u) t) (sym c.split_at.ensures.back) in
    let more : push c.args.self.now c.push_octets.new.self ((inv.0 ++ code) ++ front) =
    g.met.Self.Sink.pushes_joined c.args.self.now c.push_number.new.self c.push_octets.new.self (inv.0 ++ code) front
    (g.met.Self.Sink.pushes_joined c.args.self.now c.loop-rest.self c.push_number.new.self inv.0 code inv.2 c.in_ok-push_number.ensures) c.in_ok-push_octets.ensures in (
      (inv.0 ++ code) ++ front,
      ap (λ t. t ++ back) (append_assoc inv.0 code front) ∙ append_assoc inv.0 (code ++ front) back ∙ ap (λ t. inv.0 ++ t) (sym cut) ∙ inv.1,
      more,
    )

pub returns : goal.returns
returns g c =
    let push = g.Self.Sink.pushes in
    let inv = c.loop-rest.invariant in
    let rest = c.loop-rest.rest.now in
    let code = bits c.next_length-k-2.result.0 c.next_length-k-2.result.1 in
    let last : general_octets (λ u. u) rest ≡ code ++ unpacked rest =
    octets_last rest c.loop-rest-test.false ∙ ap (λ h. h ++ unpacked rest) (sym c.next_length-k-2.ensures.bits) in
    let all : (inv.0 ++ code) ++ unpacked rest ≡ general_octets (λ u. u) c.args.octets.now =
    append_assoc inv.0 code (unpacked rest) ∙ ap (λ t. inv.0 ++ t) (sym last) ∙ inv.1 in
    on_ok c.push_octets-2.result (λ p.
    pushed_same push c.args.self.now c.push_octets-2.new.self all
    (g.met.Self.Sink.pushes_joined c.args.self.now c.push_number-2.new.self c.push_octets-2.new.self (inv.0 ++ code) (unpacked rest)
    (g.met.Self.Sink.pushes_joined c.args.self.now c.loop-rest.self c.push_number-2.new.self inv.0 code inv.2 c.in_ok-push_number-2.ensures) p)) c.push_octets-2.ensures
