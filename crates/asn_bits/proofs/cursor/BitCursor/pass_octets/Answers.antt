-- So many octets are there, and they are passed.
use Rattle.std.proofs.Common.{rules, ◌≡◌, ◌≤◌, ◌+◌, ◌-◌, ◌*◌, length, take, drop, ap, sym, ◌∙◌, arith, length-drop}
use Rattle.std.proofs.lemmas.List.{drop-drop, length-take-le}
use Rattle.asn_bits.specs.Numbers.{unpacked}
use Rattle.asn_bits.proofs.Reading.{bits_passed, bits_there}
use Rattle.asn_bits.proofs.cursor.BitCursor.pass_octets.Goals as goal

pub slice_bounds-self-count : goal.slice_bounds-self-count
slice_bounds-self-count c =
    let s = c.self.inside in
    let h = bits_there s.octets.now c.args.self.now s.offset (8 * c.args.count) c.self.view_is c.self.invariant.1 c.requires in
    omega arith

pub slice_bounds-self-start : goal.slice_bounds-self-start
slice_bounds-self-start c =
    let s = c.self.inside in
    let h = bits_there s.octets.now c.args.self.now s.offset (8 * c.args.count) c.self.view_is c.self.invariant.1 c.requires in
    let l : c.args.count ≤ length s.octets.now = omega arith in
    search rules

pub invariant_of-self : goal.invariant_of-self
invariant_of-self c =
    let s = c.self.inside in
    let os = s.octets.now in
    let n = c.args.count in
    let h = bits_there os c.args.self.now s.offset (8 * n) c.self.view_is c.self.invariant.1 c.requires in
    let l : length (take (length os - n) (drop n os)) ≡ length os - n = length-take-le (length os - n) (drop n os) (omega (arith, length-drop n os)) in
    (c.self.invariant.0, omega arith)

pub returns : goal.returns
returns c =
    let s = c.self.inside in
    let n = c.args.count in
    let v : drop s.offset (unpacked s.octets.now) ≡ c.args.self.now = c.self.view_is in
    sym (bits_passed s.octets.now n s.offset (s.offset + 8 * n) (omega arith)) ∙ sym (drop-drop (8 * n) s.offset (unpacked s.octets.now)) ∙ ap (drop (8 * n)) v
