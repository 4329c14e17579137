-- The octets are filled in after those that are there.
use Rattle.std.proofs.Common.{rules, ◌≡◌, ◌+◌, length, take, sym, ◌∙◌, ap, subst, arith}
use Rattle.asn_bits.specs.Moves.{Shifted}
use Rattle.asn_bits.proofs.Moving.{filled_after, resized_front, shifted_after}
use Rattle.asn_bits.proofs.shifts.push_shifted.Goals as goal

pub returns-clause-shifted : goal.returns-clause-shifted
returns-clause-shifted c =
    let a = c.args in
    let old = a.bytes.now.items in
    let filled = c.fill_shifted.ensures in
    let into = c.fill_shifted.new.into in
    let held = c.deref_mut.result.now in
    let start = c.len-start.result in
    let long : length into ≡ length a.octets.now = ap length filled.added ∙ filled.count in
    let front : take start held ≡ old =
    resized_front _ old _ held start (start + length a.octets.now) (c.deref_mut.ensures.value ∙ c.resize.ensures.items) (omega (arith, c.len-start.ensures, c.type_inv.bytes)) (omega arith) in
    let size : c.resize.new.self.len ≡ length old + length into = search (rules, c.resize.ensures.len, c.is_err.ensures.value, c.if-is_err.false, c.len-start.ensures, c.type_inv.bytes, long) in
    subst (λ t. Shifted old t a.octets.now a.count a.pending c.fill_shifted.result) (sym (filled_after old into held _ _ start c.resize.new.self.len front size))
    (shifted_after old into a.octets.now a.count a.pending c.fill_shifted.result filled)
