-- As many octets are left, and the cursor passes them.
use Rattle.std.proofs.Common.{rules, ◌≡◌, ◌-◌, ◌*◌, ◌≤◌, length, take, drop, arith, length-drop}
use Rattle.std.proofs.lemmas.List.{length-take-le}
use Rattle.asn_bits.proofs.Reading.{bits_there}
use Rattle.asn_bits.proofs.cursor.BitCursor.copy_octets.Goals as goal

pub copy_front-requires-clause-there : goal.copy_front-requires-clause-there
copy_front-requires-clause-there c =
    let s = c.self.inside in
    let h = bits_there s.octets.now c.args.self.now s.offset (8 * (length c.args.into.now)) c.self.view_is c.self.invariant.1 c.requires in
    omega arith

pub slice_bounds-self-count : goal.slice_bounds-self-count
slice_bounds-self-count c =
    let s = c.self.inside in
    let h = bits_there s.octets.now c.args.self.now s.offset (8 * (length c.args.into.now)) c.self.view_is c.self.invariant.1 c.requires in
    omega arith

pub slice_bounds-self-start : goal.slice_bounds-self-start
slice_bounds-self-start c =
    let s = c.self.inside in
    let h = bits_there s.octets.now c.args.self.now s.offset (8 * (length c.args.into.now)) c.self.view_is c.self.invariant.1 c.requires in
    let l : (length c.args.into.now) ≤ length s.octets.now = omega arith in
    search rules

pub invariant_of-self : goal.invariant_of-self
invariant_of-self c =
    let s = c.self.inside in
    let os = s.octets.now in
    let n = (length c.args.into.now) in
    let h = bits_there os c.args.self.now s.offset (8 * n) c.self.view_is c.self.invariant.1 c.requires in
    let l : length (take (length os - n) (drop n os)) ≡ length os - n = length-take-le (length os - n) (drop n os) (omega (arith, length-drop n os)) in
    (c.self.invariant.0, omega arith)
