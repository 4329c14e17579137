-- The octets that wait are appended to the others, and then all are there.
use Rattle.std.proofs.Common.{◌≡◌, ◌++◌, ◌%◌, ◌<◌, ℕ, inl, inr, length, get_or, arith, ap, sym, ◌∙◌, rules}
use Rattle.std.proofs.lemmas.Bool.{cases_lt}
use Rattle.asn_bits.specs.Numbers.{bits, unpacked, packed}
use Rattle.asn_bits.proofs.Packing.{octets_wait, waiting_out, packed-unpacked}
use Rattle.asn_bits.proofs.sink.BitSink.into_octets.Goals as goal

pub push_low-requires-clause-room : goal.push_low-requires-clause-room
push_low-requires-clause-room c =
    let s = c.self.inside in
    elim (cases_lt 0 s.count) [
      | inl b ↦ omega (arith, c.self.invariant.1.0 b)
      | inr b ↦ omega (arith, s.octets.ok)
    ]

pub returns-clause-unpacked : goal.returns-clause-unpacked
returns-clause-unpacked c =
    let s = c.self.inside in
    let v : unpacked s.octets.items ++ bits s.count s.pending ≡ c.args.self = c.self.view_is in
    let r : length (unpacked s.octets.items ++ bits s.count s.pending) % 8 ≡ 0 = ap (λ t. length t % 8) v ∙ c.requires in
    let z = octets_wait s.octets.items s.count s.pending r in
    ap unpacked c.without_spare.ensures ∙ waiting_out s.octets.items c.push_low.new.bytes.items s.count s.pending z c.push_low.ensures.items ∙ v

pub returns-clause-packed : goal.returns-clause-packed
returns-clause-packed c =
    let s = c.self.inside in
    let new = c.push_low.new.bytes.items in
    let v : unpacked s.octets.items ++ bits s.count s.pending ≡ c.args.self = c.self.view_is in
    let r : length (unpacked s.octets.items ++ bits s.count s.pending) % 8 ≡ 0 = ap (λ t. length t % 8) v ∙ c.requires in
    let z = octets_wait s.octets.items s.count s.pending r in
    let fits : (i d : ℕ) → i < length new → get_or new i d < 256 = search rules in
    ap packed (sym (waiting_out s.octets.items new s.count s.pending z c.push_low.ensures.items ∙ v)) ∙ packed-unpacked new fits ∙ sym c.without_spare.ensures
