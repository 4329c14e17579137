-- The number stands in the next k bits.
use Rattle.std.proofs.Common.{◌≡◌, ◌+◌, ◌-◌, ◌*◌, ◌++◌, length, drop, ap, sym, ◌∙◌, arith}
use Rattle.std.proofs.lemmas.Bool.{true≢false}
use Rattle.std.proofs.lemmas.List.{drop-drop}
use Rattle.asn_bits.specs.Numbers.{bits, unpacked}
use Rattle.asn_bits.proofs.Reading.{length-left}
use Rattle.asn_bits.proofs.cursor.BitCursor.peek_short_number.Goals as goal

pub returns-in-Some-clause-some : goal.returns-in-Some-clause-some
returns-in-Some-clause-some c =
    let s = c.self.inside in
    let k = c.args.k in
    let n = c.in-Some.n in
    let v : drop s.offset (unpacked s.octets.now) ≡ c.args.self.now = c.self.view_is in
    let after : drop (s.offset + k) (unpacked s.octets.now) ≡ drop k c.args.self.now = sym (drop-drop k s.offset (unpacked s.octets.now)) ∙ ap (drop k) v in
    sym v ∙ c.in-Some.ensures.here ∙ ap (λ t. bits k n ++ t) after

pub returns-in-Some-clause-none : goal.returns-in-Some-clause-none
returns-in-Some-clause-none c =
    let s = c.self.inside in
    let v : drop s.offset (unpacked s.octets.now) ≡ c.args.self.now = c.self.view_is in
    let l : length c.args.self.now ≡ 8 * length s.octets.now - s.offset = ap length (sym v) ∙ length-left s.octets.now s.offset in
    let there = c.in-Some.ensures.there in
    (λ e. absurd (true≢false e), λ e. absurd (omega arith))

pub returns-in-Some-number_in_octet-clause-some : goal.returns-in-Some-number_in_octet-clause-some
returns-in-Some-number_in_octet-clause-some c =
    let s = c.self.inside in
    let k = c.args.k in
    let n = c.in-Some-number_in_octet.n in
    let v : drop s.offset (unpacked s.octets.now) ≡ c.args.self.now = c.self.view_is in
    let after : drop (s.offset + k) (unpacked s.octets.now) ≡ drop k c.args.self.now = sym (drop-drop k s.offset (unpacked s.octets.now)) ∙ ap (drop k) v in
    sym v ∙ c.in-Some-number_in_octet.ensures.here ∙ ap (λ t. bits k n ++ t) after

pub returns-in-Some-number_in_octet-clause-none : goal.returns-in-Some-number_in_octet-clause-none
returns-in-Some-number_in_octet-clause-none c =
    let s = c.self.inside in
    let v : drop s.offset (unpacked s.octets.now) ≡ c.args.self.now = c.self.view_is in
    let l : length c.args.self.now ≡ 8 * length s.octets.now - s.offset = ap length (sym v) ∙ length-left s.octets.now s.offset in
    let there = c.in-Some-number_in_octet.ensures.there in
    (λ e. absurd (true≢false e), λ e. absurd (omega arith))
