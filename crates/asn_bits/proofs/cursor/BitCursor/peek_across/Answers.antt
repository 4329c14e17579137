-- The number stands in the next k bits, where that many are left.
use Rattle.std.proofs.Common.{◌≡◌, ◌+◌, ◌-◌, ◌*◌, ◌++◌, length, drop, refl, ap, sym, ◌∙◌, arith}
use Rattle.std.proofs.lemmas.Bool.{true≢false}
use Rattle.std.proofs.lemmas.List.{drop-drop}
use Rattle.asn_bits.specs.Numbers.{bits, unpacked}
use Rattle.asn_bits.proofs.Reading.{length-left}
use Rattle.asn_bits.proofs.cursor.BitCursor.peek_across.Goals as goal

pub returns-then-octets-end-clause-none : goal.returns-then-octets-end-clause-none
returns-then-octets-end-clause-none c =
    let s = c.self.inside in
    let v : drop s.offset (unpacked s.octets.now) ≡ c.args.self.now = c.self.view_is in
    let l : length c.args.self.now ≡ 8 * length s.octets.now - s.offset = ap length (sym v) ∙ length-left s.octets.now s.offset in
    (λ e. omega arith, λ e. refl)

pub returns-clause-some : goal.returns-clause-some
returns-clause-some c =
    let s = c.self.inside in
    let k = c.args.k in
    let n = c.number_at.result in
    let v : drop s.offset (unpacked s.octets.now) ≡ c.args.self.now = c.self.view_is in
    let after : drop (s.offset + k) (unpacked s.octets.now) ≡ drop k c.args.self.now = sym (drop-drop k s.offset (unpacked s.octets.now)) ∙ ap (drop k) v in
    sym v ∙ c.number_at.ensures.here ∙ ap (λ t. bits k n ++ t) after

pub returns-clause-none : goal.returns-clause-none
returns-clause-none c =
    let s = c.self.inside in
    let v : drop s.offset (unpacked s.octets.now) ≡ c.args.self.now = c.self.view_is in
    let l : length c.args.self.now ≡ 8 * length s.octets.now - s.offset = ap length (sym v) ∙ length-left s.octets.now s.offset in
    (λ e. absurd (true≢false e), λ e. absurd (omega arith))
