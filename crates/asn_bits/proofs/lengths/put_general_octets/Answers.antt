-- A fragment more, and in the end the last octets.
use Rattle.std.proofs.Common.{◌≡◌, ◌++◌, sym, subst, ap, ◌∙◌, List, ℕ, length, arith}
use Rattle.asn_bits.specs.Numbers.{bits, unpacked}
use Rattle.asn_bits.proofs.FragmentedOctets.{Pushed, pushed_more, pushed_last, fragment_items}
use Rattle.asn_bits.proofs.lengths.put_general_octets.Goals as goal

pub loop-rest-preserved : goal.loop-rest-preserved
loop-rest-preserved c =
    let a = c.args in
    let l = c.loop-rest in
    let k = c.next_length-k.result.2 in
    let old = unpacked a.into.now.items ++ bits a.count a.pending in
    let sink = unpacked l.into.items ++ bits l.waiting.0 l.waiting.1 in
    let mid = unpacked c.put-count.new.octets.items ++ bits c.put-count.result.0 c.put-count.result.1 in
    let next = unpacked c.put_octets-waiting.new.into.items ++ bits c.put_octets-waiting.result.0 c.put_octets-waiting.result.1 in
    let some = fragment_items (length l.rest.now) k c.loop-rest-test.true c.next_length-k.ensures.items in (
      subst (λ (r : List ℕ). Pushed old next a.octets.now r) (sym c.split_at.ensures.back)
          (pushed_more {mid = mid} k l.invariant.0 c.loop-rest-test.true c.next_length-k.ensures.items
          (c.put-count.ensures.bits ∙ ap (λ b. sink ++ b) c.next_length-k.ensures.bits)
          (subst (λ (r : List ℕ). next ≡ mid ++ unpacked r) c.split_at.ensures.front c.put_octets-waiting.ensures.bits)),
      omega arith,
      omega (arith, l.invariant.2, some.0, some.1, some.2, c.split_at.ensures.front_len, c.split_at.ensures.back_len, c.put-count.ensures.len, c.put-count.ensures.capacity, c.put_octets-waiting.ensures.len, c.put_octets-waiting.ensures.capacity),
    )

pub returns-clause-bits : goal.returns-clause-bits
returns-clause-bits c =
    let l = c.loop-rest in
    let sink = unpacked l.into.items ++ bits l.waiting.0 l.waiting.1 in
    pushed_last l.invariant.0 c.loop-rest-test.false (c.put-count-2.ensures.bits ∙ ap (λ b. sink ++ b) c.next_length-k-2.ensures.bits) c.put_octets.ensures.bits
