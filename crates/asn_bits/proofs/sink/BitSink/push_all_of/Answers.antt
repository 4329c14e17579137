-- Its octets, and then the bits that wait in it.
use Rattle.std.proofs.Common.{◌≡◌, ◌<◌, ◌*◌, ◌/◌, ◌%◌, ◌^◌, ◌++◌, ℕ, List, length, append_assoc, subst, ap, ◌∙◌, arith}
use Rattle.std.proofs.lemmas.Result.{on_ok_weaker}
use Rattle.asn_bits.specs.Numbers.{bits, unpacked}
use Rattle.asn_bits.proofs.Packing.{octets_wait}
use Rattle.asn_bits.proofs.sink.BitSink.push_all_of.Goals as goal

-- the bits that wait fill octets
waiting : (os : List ℕ) (count pending : ℕ) (all : List ℕ) → unpacked os ++ bits count pending ≡ all → length all % 8 ≡ 0 → 8 * (count / 8) ≡ count
waiting os count pending all v r =
    let z = octets_wait os count pending (ap (λ (t : List ℕ). length t % 8) v ∙ r) in
    omega (arith, z)

pub append-requires-clause-fits : goal.append-requires-clause-fits
append-requires-clause-fits c =
    let s = c.other.inside in
    let k = waiting s.octets.items s.count s.pending c.args.other c.other.view_is c.requires in
    subst (λ (n : ℕ). c.last_octets.result < 2 ^ n) k c.last_octets.ensures.fits

pub returns : goal.returns
returns c =
    let s = c.other.inside in
    let k = waiting s.octets.items s.count s.pending c.args.other c.other.view_is c.requires in
    let last : bits s.count c.last_octets.result ≡ bits s.count s.pending = subst (λ (n : ℕ). bits n c.last_octets.result ≡ bits n s.pending) k c.last_octets.ensures.same in
    on_ok_weaker c.append.result
    (λ e. e ∙ ap (λ t. t ++ bits s.count c.last_octets.result) c.in_ok-push_words.ensures
    ∙ append_assoc c.args.self.now (unpacked c.as_slice.result.now) (bits s.count c.last_octets.result)
    ∙ ap (λ (b : List ℕ). c.args.self.now ++ (unpacked c.as_slice.result.now ++ b)) last
    ∙ ap (λ (o : List ℕ). c.args.self.now ++ (unpacked o ++ bits s.count s.pending)) c.as_slice.ensures.value
    ∙ ap (λ t. c.args.self.now ++ t) c.other.view_is)
    c.append.ensures.ok
