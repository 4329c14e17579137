-- Whole octets are passed, and the bits of the one begun.
use Rattle.std.proofs.Common.{rules, ◌≡◌, ◌≤◌, ◌+◌, ◌-◌, ◌/◌, ◌%◌, length, take, drop, ap, sym, ◌∙◌, arith, length-drop}
use Rattle.std.proofs.lemmas.List.{drop-drop, length-take-le}
use Rattle.asn_bits.specs.Numbers.{unpacked}
use Rattle.asn_bits.proofs.Reading.{bits_passed, bits_there}
use Rattle.asn_bits.proofs.cursor.BitCursor.pass.Goals as goal

pub slice_bounds-self-count : goal.slice_bounds-self-count
slice_bounds-self-count c =
    let s = c.self.inside in
    let h = bits_there s.octets.now c.args.self.now s.offset c.args.k c.self.view_is c.self.invariant.1 c.requires.there in
    omega arith

pub slice_bounds-self-start : goal.slice_bounds-self-start
slice_bounds-self-start c =
    let s = c.self.inside in
    let h = bits_there s.octets.now c.args.self.now s.offset c.args.k c.self.view_is c.self.invariant.1 c.requires.there in
    let l : (s.offset + c.args.k) / 8 ≤ length s.octets.now = omega arith in
    search rules

pub invariant_of-self : goal.invariant_of-self
invariant_of-self c =
    let s = c.self.inside in
    let os = s.octets.now in
    let w = (s.offset + c.args.k) / 8 in
    let h = bits_there os c.args.self.now s.offset c.args.k c.self.view_is c.self.invariant.1 c.requires.there in
    let l : length (take (length os - w) (drop w os)) ≡ length os - w = length-take-le (length os - w) (drop w os) (omega (arith, length-drop w os)) in
    (omega arith, omega arith)

pub returns : goal.returns
returns c =
    let s = c.self.inside in
    let k = c.args.k in
    let end = s.offset + k in
    let v : drop s.offset (unpacked s.octets.now) ≡ c.args.self.now = c.self.view_is in
    sym (bits_passed s.octets.now (end / 8) (end % 8) end (omega arith)) ∙ sym (drop-drop k s.offset (unpacked s.octets.now)) ∙ ap (drop k) v
