-- What was written is all, where no write failed.
use Rattle.std.proofs.Common.{◌≡◌, ◌*◌, ◌%◌, ◌+◌, ◌++◌, ℕ, List, [], sym, ap, ◌∙◌, length, length-append, arith}
use Rattle.std.proofs.lemmas.List.{append-nil}
use Rattle.asn_bits.specs.Numbers.{bits, unpacked}
use Rattle.asn_bits.proofs.Octets.{length-digits}
use Rattle.asn_bits.proofs.Splits.{length-unpacked}
use Rattle.asn_window.proofs.Delivered.{stands_same}
use Rattle.asn_window.proofs.Shifting.{whole_out}
use Rattle.asn_window.proofs.bit_writer.BitWriter.finish.Goals as goal

pub returns-then-self-clause-err : goal.returns-then-self-clause-err
returns-then-self-clause-err g c start all told =
    let s = c.args.self.now in
    let left = bits (s.count % 8) s.pending in
    let d = c.send.ensures.told start (left ++ []) all (c.put_low.ensures start (left ++ []) all (stands_same s.octets (whole_out s.count s.pending []) told)) in
    record { octets = d.octets; are_octets = d.are_octets; rest = d.rest; appended = d.appended; begins = d.whole; many = d.many; fault = d.fault c.if-self.true; through = d.through }

pub returns-clause-ok : goal.returns-clause-ok
returns-clause-ok g c start all whole told =
    let s = c.args.self.now in
    let k = s.count % 8 in
    let left = bits k s.pending in
    let d = c.send.ensures.told start (left ++ []) all (c.put_low.ensures start (left ++ []) all (stands_same s.octets (whole_out s.count s.pending []) told)) in
    let good = c.if-self.false in
    let rest : d.rest ≡ left =
    d.goes_on good ∙ ap (λ (w : List ℕ). unpacked w ++ (left ++ [])) c.send.ensures.empty ∙ append-nil left in
    let long : length all ≡ 8 * length d.octets + k =
    sym (ap length d.whole) ∙ length-append (unpacked d.octets) d.rest
    ∙ omega (arith, length-unpacked d.octets, ap length rest, length-digits 2 k s.pending) in
    let none : k ≡ 0 = omega (arith, long, whole) in
    let nothing : d.rest ≡ [] = rest ∙ ap (λ i. bits i s.pending) none in
    record {
      octets = d.octets;
      are_octets = d.are_octets;
      appended = d.appended;
      whole = sym (append-nil (unpacked d.octets)) ∙ ap (λ t. unpacked d.octets ++ t) (sym nothing) ∙ d.whole;
      faults = d.same good;
      through = d.through;
    }
