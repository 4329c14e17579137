-- The first octet's bit, and what follows it.
use Rattle.std.proofs.Common.{◌≡◌, ◌∷◌, ◌+◌, drop, ap, sym, ◌∙◌}
use Rattle.std.proofs.lemmas.Bool.{true≢false}
use Rattle.asn_bits.specs.Numbers.{unpacked}
use Rattle.asn_bits.proofs.Reading.{next_read, octet_passed}
use Rattle.asn_bits.proofs.cursor.BitCursor.next.Goals as goal
use Rattle.asn_bits.proofs.cursor.BitCursor.next.Goals.{then-offset-eq7, else-offset-eq7}

read : (c : goal.After-bit_at) → c.args.self.now ≡ c.bit_at.result ∷ drop (c.self.inside.offset + 1) (unpacked c.self.inside.octets.now)
read c =
    let s = c.self.inside in
    let v : drop s.offset (unpacked s.octets.now) ≡ c.args.self.now = c.self.view_is in
    next_read s.octets.now c.in-Some.rest.now c.args.self.now c.in-Some.first.now s.offset c.bit_at.result c.in-Some.ensures.cases.0 v c.self.invariant.0 c.bit_at.ensures

pub returns-clause-some : goal.returns-clause-some
returns-clause-some c =
    let s = c.self.inside in
    let next = octet_passed s.octets.now c.in-Some.rest.now c.in-Some.first.now s.offset c.in-Some.ensures.cases.0 in
    elim c.if-offset-eq7.branch [
      | then-offset-eq7 w ↦ read c ∙ ap (λ t. c.bit_at.result ∷ t) (next w.if-offset-eq7.true ∙ sym w.self-is)
      | else-offset-eq7 w ↦ read c ∙ ap (λ t. c.bit_at.result ∷ t) (sym w.self-is)
    ]

pub returns-clause-none : goal.returns-clause-none
returns-clause-none c = let r = read c in (λ e. absurd (true≢false e), λ e. cc)

pub returns-clause-end : goal.returns-clause-end
returns-clause-end c = let r = read c in λ e. cc
